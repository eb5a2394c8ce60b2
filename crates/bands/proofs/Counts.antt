-- An amplitude in counts, printed or own: its size, and that 64 bits hold it.
use mathlib.Core.Path.{◌≡◌, refl}
use Prim.Native.Nat.{ℕ, ◌*◌, ◌≤◌}
use native.Mathlib.Omega.{arith}
use lib.IntN.{ℤ, pos, nat_abs, ◌*ℤ◌}
use mir.Syntax.{w64}
use mir.Val.{SFits, to_z, of_z}
use mir.Facts.{to_z-of_z}
use Rattle.whole.proofs.Parts.{fits_abs, abs_product}
use Rattle.bands.specs.Bands.{in_counts}

pub counts_size : (a : ℤ) (m : ℕ) → nat_abs a ≤ m → nat_abs (in_counts a) ≤ m * 100
counts_size a m h = omega (arith, abs_product a (pos 100))

module _ (a : ℤ) (h : nat_abs a ≤ 100000) where
  fit : SFits w64 (in_counts a)
  fit = fits_abs w64 (in_counts a) (omega (arith, counts_size a 100000 h))

  pub counts_fit : SFits w64 (to_z w64 (of_z w64 a) *ℤ pos 100)
  counts_fit = rw (to_z-of_z (fits_abs w64 a (omega arith))) fit

  pub counts_read : to_z w64 (of_z w64 (to_z w64 (of_z w64 a) *ℤ pos 100)) ≡ in_counts a
  counts_read = rw (to_z-of_z (fits_abs w64 a (omega arith)), to_z-of_z fit) refl
