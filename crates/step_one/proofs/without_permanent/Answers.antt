-- C20 has room for the permanent part.
use mathlib.Core.Path.{◌≡◌, refl, ◌∙◌}
use native.Mathlib.Omega.{arith}
use lib.IntN.{ℤ, pos, ◌-ℤ◌}
use lib.ListN.{get_or}
use mir.Syntax.{w64}
use mir.Val.{SFits, to_z, of_z}
use mir.Facts.{to_z-of_z}
use Rattle.whole.proofs.Parts.{fits_abs}
use Rattle.whole.proofs.Machine.{back}
use Rattle.permanent.specs.Systems.{permanent_part}
use Rattle.step_one.specs.StepOne.{without_permanent}
use Rattle.step_one.proofs.Permanent.{less-small}
use Rattle.step_one.proofs.without_permanent.Goals as goal
use Rattle.step_one.proofs.without_permanent.Goals.{After-permanent_part}

-- once the permanent part is known
module _ (c : After-permanent_part) where
  abbrev c20 : ℤ
  c20 = get_or c.args.by 0 (pos 0)

  c20-fits : SFits w64 c20
  c20-fits = fits_abs w64 c20 (omega (arith, c.requires.size 0))

  part-is : to_z w64 (of_z w64 c.permanent_part.result) ≡ permanent_part c.args.love
  part-is = back w64 c.permanent_part.result c.permanent_part.type_inv ∙ c.permanent_part.ensures

  less : SFits w64 (c20 -ℤ permanent_part c.args.love)
  less = fits_abs w64 (c20 -ℤ permanent_part c.args.love) (omega (arith, less-small c.args.love c.args.by c.requires))

pub overflow_sub-by : goal.overflow_sub-by
overflow_sub-by c = let p = (goal.at.overflow_sub-by c).After-permanent_part in rw (to_z-of_z (c20-fits p), part-is p) (less p)

pub returns : goal.returns
unfolding without_permanent
returns c = let p = (goal.at.returns c).After-permanent_part in rw (to_z-of_z (c20-fits p), part-is p, to_z-of_z (less p)) refl
