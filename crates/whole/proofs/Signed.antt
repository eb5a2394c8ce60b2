-- The nearest whole number of a fraction ± n / d, from its sign and its size.
use mathlib.Core.Path.{◌≡◌, refl, sym, ap, ◌∙◌}
use mathlib.Core.Bool.{Bool, true, false}
use Prim.Native.Nat.{ℕ, ◌+◌, ◌*◌, ◌/◌, ◌≤◌, ◌<◌}
use native.Mathlib.Nat.{le_antisymm, div-mul-le_self, le-div_iff_mul-le, div-eq_of_lt, mul-le-mul_right, lt_of_not-le}
use native.Mathlib.Omega.{arith}
use lib.IntN.{pos, nat_abs}
use Rattle.whole.specs.Nearest.{signed, nearest}
use Rattle.whole.proofs.Parts.{abs_neg}
use Rattle.whole.proofs.Rounding.{nearest_above, nearest_below}

pub abs_signed : (s : Bool) (n : ℕ) → nat_abs (signed s n) ≡ n
unfolding signed
abs_signed false n = omega arith
abs_signed true n = omega (arith, abs_neg (pos n))

-- either sign: half the divisor is added to the size
pub nearest_signed : (s : Bool) (n d : ℕ) → 0 < d → nearest (signed s n) d ≡ signed s ((n + d / 2) / d)
unfolding signed
nearest_signed false n d D = nearest_above n d
nearest_signed true n d D = nearest_below n d D

-- ---- n / d is q / m
module _ (n d q m : ℕ) (D : 0 < d) (M : 0 < m) (same : n * m ≡ q * d) where
  -- n / d, rounded, is k or more; so is q / m
  crossed : (k : ℕ) → 2 * (k * d) ≤ 2 * n + d → 2 * (k * m) ≤ 2 * q + m
  crossed k h =
      let l : 2 * (k * m) < 2 * q + m + 1 =
      lt_of_not-le (λ (g : 2 * q + m + 1 ≤ 2 * (k * m)). omega (arith, mul-le-mul_right m h, mul-le-mul_right d g)) in
      omega arith

  rounded_le : (n + d / 2) / d ≤ (q + m / 2) / m
  rounded_le =
      let k = (n + d / 2) / d in
      let a = div-mul-le_self (n + d / 2) d in
      let b = crossed k (omega arith) in
      (le-div_iff_mul-le M).1 (omega arith)

pub nearest_same : (n d q m : ℕ) → 0 < d → 0 < m → n * m ≡ q * d → (s : Bool) → nearest (signed s n) d ≡ nearest (signed s q) m
nearest_same n d q m D M same s =
    nearest_signed s n d D ∙ ap (signed s) (le_antisymm (rounded_le n d q m D M same) (rounded_le q m n d M D (sym same))) ∙ sym (nearest_signed s q m M)

-- ---- n / d is below one half
pub signed_none : (s : Bool) → signed s 0 ≡ pos 0
unfolding signed
signed_none false = refl
signed_none true = refl

pub nearest_none : (n d : ℕ) → 0 < d → n + n < d → (s : Bool) → nearest (signed s n) d ≡ pos 0
nearest_none n d D h s =
    let l : n + d / 2 < d = omega arith in
    nearest_signed s n d D ∙ ap (signed s) (div-eq_of_lt l) ∙ signed_none s
