-- Each correction is the nearest of its sum.
use mathlib.Core.Path.{◌≡◌, ap, ◌∙◌}
use Prim.Native.Nat.{◌^◌, ◌≤◌, ◌<◌}
use native.Mathlib.Omega.{arith}
use lib.IntN.{ℤ, nat_abs}
use lib.Signed.{mag}
use mir.Syntax.{w64}
use mir.Val.{to_z, of_z}
use mir.Facts.{to_z-of_z}
use Rattle.whole.specs.Nearest.{nearest}
use Rattle.whole.proofs.Machine.{back}
use Rattle.whole.proofs.Parts.{fits_abs}
use Rattle.bands.specs.Bands.{correction_of}
use Rattle.bands.specs.Inner.{rounded_of}
use Rattle.bands.proofs.rounded_of.Goals as goal

-- a rounded sum, handed back
answer : {r : ℤ} (x : ℤ) → mag r < 2 ^ 63 → r ≡ nearest (to_z w64 (of_z w64 x)) (2 ^ 30) → nat_abs x ≤ 2 ^ 62 → to_z w64 (of_z w64 r) ≡ nearest x (2 ^ 30)
answer {r} x m e h = back w64 r m ∙ e ∙ ap (λ (z : ℤ). nearest z (2 ^ 30)) (to_z-of_z (fits_abs w64 x (omega arith)))

pub returns : goal.returns
unfolding rounded_of correction_of
returns c =
    let b = c.requires in
    let sums = c.args.sums in
    λ i. record {
      c20 = answer sums.c20 c.nearest_of.type_inv c.nearest_of.ensures b.c20 i;
      c21 = answer sums.c21 c.nearest_of-2.type_inv c.nearest_of-2.ensures b.c21 i;
      s21 = answer sums.s21 c.nearest_of-3.type_inv c.nearest_of-3.ensures b.s21 i;
      c22 = answer sums.c22 c.nearest_of-4.type_inv c.nearest_of-4.ensures b.c22 i;
      s22 = answer sums.s22 c.nearest_of-5.type_inv c.nearest_of-5.ensures b.s22 i;
    }
