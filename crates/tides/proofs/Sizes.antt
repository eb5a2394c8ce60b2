-- The sizes of an accepted sheet's sums and factors, which 64 bits hold.
use mathlib.Core.List.{List}
use mathlib.Core.Path.{◌≡◌, ap, ◌∙◌}
use Prim.Native.Nat.{ℕ, suc, ◌*◌, ◌^◌, ◌≤◌, ◌<◌}
use native.Mathlib.Nat.{mul-le-mul_right}
use native.Mathlib.Omega.{arith}
use lib.IntN.{ℤ, nat_abs, ◌*ℤ◌}
use mir.Syntax.{w64}
use mir.Val.{to_z, of_z}
use mir.Facts.{to_z-of_z}
use Rattle.whole.specs.Sum.{sum_to, weight_to}
use Rattle.whole.proofs.Parts.{fits_abs}
use Rattle.whole.proofs.Rounding.{nearest_size}
use Rattle.sheet.specs.Sheet.{line_count, tide_count, admittance}
use Rattle.sheet.proofs.Acceptance.{Accepted}
use Rattle.whole.proofs.Counted.{weight_grows}
use Rattle.tides.specs.Tides.{line_sum, factor}
use Rattle.whole.proofs.Running.{sum_size}

-- what the machine reads back of a number that 64 bits hold
pub read_back : {r z : ℤ} → r ≡ z → nat_abs z < 2 ^ 63 → to_z w64 (of_z w64 r) ≡ z
read_back {r} {z} e h = ap (λ (x : ℤ). to_z w64 (of_z w64 x)) e ∙ to_z-of_z (fits_abs w64 z h)

module _ {s : List ℕ} (A : Accepted s) (w : ℕ → ℤ) (small : (f : ℕ) → f < line_count s → nat_abs (w f) ≤ 2 ^ 30) (k : ℕ) (h : k < tide_count s) where
  -- any first part of a tide's sum
  part_size : (n : ℕ) → n ≤ line_count s → nat_abs (sum_to (λ f. admittance s k f *ℤ w f) n) ≤ 4000000 * 2 ^ 30
  part_size n l =
      omega (arith, sum_size (admittance s k) w (2 ^ 30) n (λ f g. small f (omega arith)), mul-le-mul_right (2 ^ 30) (weight_grows (admittance s k) n (line_count s) l), A.row k h)

  -- an admittance is at most its row's weight
  pub admittance_size : (f : ℕ) → f < line_count s → nat_abs (admittance s k f) ≤ 4000000
  unfolding weight_to
  admittance_size f l = omega (arith, weight_grows (admittance s k) (suc f) (line_count s) (omega arith), A.row k h)

  pub line_size : nat_abs (line_sum s w k) ≤ 4000000 * 2 ^ 30
  unfolding line_sum
  line_size = part_size (line_count s) (omega arith)

  -- at most four times 2^30: a factor is the row's admittance in ones, in units of 2^-30
  pub factor_size : nat_abs (factor s w k) ≤ 2 ^ 32
  unfolding factor
  factor_size = nearest_size (line_sum s w k) (10 ^ 6) (2 ^ 32) (omega arith) (omega (arith, line_size))
