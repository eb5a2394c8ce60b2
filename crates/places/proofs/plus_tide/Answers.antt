-- The sizes of the sum and of both products leave room for all three.
use mathlib.Core.List.{[], ◌∷◌}
use native.Mathlib.Omega.{arith}
use Rattle.std.proofs.Common.{rules}
use lib.IntN.{ℤ, ◌+ℤ◌, ◌*ℤ◌}
use mir.Syntax.{w64}
use mir.Val.{SFits}
use mir.Facts.{to_z-of_z}
use Rattle.whole.proofs.Parts.{fits_abs, abs_sum, abs_product}
use Rattle.whole.proofs.Machine.{sum_fits}
use Rattle.whole.proofs.Ring.{equal, !, ◌⊕◌}
use Rattle.places.proofs.plus_tide.Goals as goal
use Rattle.places.proofs.plus_tide.Goals.{Start}

module _ (c : Start) where
  abbrev x : ℤ
  x = c.args.factor.cosine *ℤ c.args.cos

  abbrev y : ℤ
  y = c.args.factor.sine *ℤ c.args.sin

  f-fits : SFits w64 c.args.factor.cosine
  f-fits = search rules

  g-fits : SFits w64 c.args.factor.sine
  g-fits = search rules

  x_fits : SFits w64 x
  x_fits = fits_abs w64 x (omega (arith, abs_product c.args.factor.cosine c.args.cos))

  y-fits : SFits w64 y
  y-fits = fits_abs w64 y (omega (arith, abs_product c.args.factor.sine c.args.sin))

  first_fits : SFits w64 (c.args.sum +ℤ x)
  first_fits = sum_fits w64 c.args.sum x (omega (arith, abs_product c.args.factor.cosine c.args.cos))

  both-fit : SFits w64 (c.args.sum +ℤ x +ℤ y)
  both-fit =
      sum_fits w64 (c.args.sum +ℤ x) y
      (omega (arith, abs_sum c.args.sum x, abs_product c.args.factor.cosine c.args.cos, abs_product c.args.factor.sine c.args.sin))

pub overflow_add-result-2 : goal.overflow_add-result-2
overflow_add-result-2 c =
    let s = (goal.at.overflow_add-result-2 c).Start in
    rw (to_z-of_z c.ranges.sum, to_z-of_z (f-fits s), to_z-of_z c.ranges.cos, to_z-of_z (g-fits s), to_z-of_z c.ranges.sin, to_z-of_z (x_fits s), to_z-of_z (y-fits s), to_z-of_z (first_fits s))
    (both-fit s)

pub returns : goal.returns
returns c =
    let s = (goal.at.returns c).Start in
    rw (to_z-of_z c.ranges.sum, to_z-of_z (f-fits s), to_z-of_z c.ranges.cos, to_z-of_z (g-fits s), to_z-of_z c.ranges.sin, to_z-of_z (x_fits s), to_z-of_z (y-fits s), to_z-of_z (first_fits s), to_z-of_z (both-fit s))
    (equal (! 0 ⊕ ! 1 ⊕ ! 2) (! 0 ⊕ (! 1 ⊕ ! 2)) (c.args.sum ∷ x s ∷ y s ∷ []) (omega arith))
