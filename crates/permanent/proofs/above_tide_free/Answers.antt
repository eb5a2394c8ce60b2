-- Each case is the definition's.
use mathlib.Core.Path.{◌≡◌, refl, ◌∙◌}
use native.Mathlib.Omega.{arith}
use lib.IntN.{negsuc, ◌+ℤ◌}
use mir.Syntax.{w64}
use mir.Val.{SFits, to_z, of_z}
use mir.Facts.{to_z-of_z}
use Rattle.choices.specs.declared.LoveModel.{LoveModel}
use Rattle.whole.proofs.Machine.{sum_fits, back}
use Rattle.permanent.specs.Systems.{permanent_part, above_tide_free}
use Rattle.permanent.proofs.Constants.{part_small}
use Rattle.permanent.proofs.above_tide_free.Goals as goal
use Rattle.permanent.proofs.above_tide_free.Goals.{After-permanent_part-in-Mean}

-- the permanent part, as it was handed back
told : (c : After-permanent_part-in-Mean) → to_z w64 (of_z w64 c.permanent_part-in-Mean.result) ≡ permanent_part c.args.love
told c = back w64 c.permanent_part-in-Mean.result c.permanent_part-in-Mean.type_inv ∙ c.permanent_part-in-Mean.ensures

mean-fits : (love : LoveModel) → SFits w64 (permanent_part love +ℤ negsuc 13914128)
mean-fits love = sum_fits w64 (permanent_part love) (negsuc 13914128) (omega (arith, part_small love))

pub overflow_add-result : goal.overflow_add-result
overflow_add-result c = rw (told (goal.at.overflow_add-result c).After-permanent_part-in-Mean) (mean-fits c.args.love)

pub returns-in-TideFree : goal.returns-in-TideFree
unfolding above_tide_free
returns-in-TideFree c = rw c.in-TideFree.is refl

pub returns-in-Zero : goal.returns-in-Zero
unfolding above_tide_free
returns-in-Zero c = rw (c.in-Zero.is, back w64 c.permanent_part.result c.permanent_part.type_inv) c.permanent_part.ensures

pub returns-in-Mean : goal.returns-in-Mean
unfolding above_tide_free
returns-in-Mean c = rw (c.in-Mean.is, told (goal.at.returns-in-Mean c).After-permanent_part-in-Mean, to_z-of_z (mean-fits c.args.love)) refl
