-- What a float strictly between -2^52 and 2^52 is: of an exponent's field below 1075, and its count at most 2^52 in size.
use mathlib.Core.Path.{◌≡◌, sym, subst}
use mathlib.Core.Bool.{Bool, true, false, cond}
use Prim.Native.Nat.{ℕ, zero, suc, ◌+◌, ◌*◌, ◌/◌, ◌%◌, ◌^◌, ◌≤◌, ◌<◌}
use native.Mathlib.Nat.{mul_right_comm, mul-le-mul_right, mul-lt-mul_of_pos_right, lt_of_mul-lt-mul_right, lt_of_le_of_lt, lt_of_lt_of_le, lt_irrefl, lt_of_not-le, le-add_right, le_of_eq, le_trans}
use native.Mathlib.Omega.{arith}
use lib.IntN.{ℤ, pos, nat_abs, ◌*ℤ◌, ◌-ℤ◌}
use lib.Dec.{T, eqb, ltb→lt}
use lib.Pow.{pow-add, pow_pos, pow_mono}
use lib.Ieee.{Float, nan, inf, fin, binary64, up, down, lt, odd, of_fields, of_bits, to_bits, fits, round}
use lib.Ieee.Bits.{of_bits-to_bits}
use lib.Ieee.Exact.{HasValue, odd_sign}
use lib.Ieee.Fits.{and_l, and_r, down_pos}
use Rattle.whole.specs.Nearest.{signed, nearest}
use Rattle.whole.proofs.Parts.{abs, abs_le, abs_product, difference}
use Rattle.whole.proofs.Rounding.{nearest_near}
use Rattle.whole.proofs.Signed.{abs_signed}
use Rattle.limits.specs.Limits.{is_countable}
use Rattle.doubles.specs.Doubles.{number, minus_number}
use Rattle.count.specs.Count.{count}

-- ---- the size
below_edge : (s : Bool) (m : ℕ) (e : ℤ) → T (is_countable (fin s m e)) → m * up e < 2 ^ 52 * down e
unfolding lt round
below_edge false m e h = omega (arith, ltb→lt (m * up e * 1) (1 * 2 ^ 52 * down e) (and_r (lt (minus_number (2 ^ 52)) (fin false m e)) (lt (fin false m e) (number (2 ^ 52))) h))
below_edge true m e h = omega (arith, ltb→lt (m * up e * 1) (1 * 2 ^ 52 * down e) (and_l (lt (minus_number (2 ^ 52)) (fin true m e)) (lt (fin true m e) (number (2 ^ 52))) h))

-- n / d is below 2^52, and is a / l
within : (n d a l : ℕ) → 0 < l → n < 2 ^ 52 * d → n * l ≡ a * d → a < 2 ^ 52 * l
within n d a l L h v =
    lt_of_mul-lt-mul_right d (lt_of_le_of_lt (le_of_eq (sym v)) (lt_of_lt_of_le (mul-lt-mul_of_pos_right h L) (le_of_eq (mul_right_comm (2 ^ 52) d l))))

sized : (x : Float) (s : Bool) (a : ℕ) → T (is_countable x) → HasValue x s a (2 ^ 1074) → a < 2 ^ 52 * 2 ^ 1074
sized nan s a h v = absurd v
sized (inf t) s a h v = absurd v
sized (fin t m e) s a h v = within (m * up e) (down e) a (2 ^ 1074) (pow_pos 1074) (below_edge t m e h) v.1

-- ---- the exponent's field
pow_lt_back : (i p : ℕ) → 2 ^ i < 2 ^ p → i < p
pow_lt_back i p h = lt_of_not-le (λ (g : p ≤ i). lt_irrefl (2 ^ i) (lt_of_lt_of_le h (pow_mono g)))

no_infinity : (c s : Bool) → T (is_countable (cond c (inf s) nan)) → ⊥
unfolding lt round
no_infinity true true h = h
no_infinity true false h = h
no_infinity false s h = h

field_lt : (s : Bool) (x t : ℕ) → T (is_countable (of_fields binary64 s x t)) → x < 1075
unfolding of_fields
field_lt s zero t h = omega arith
field_lt s (suc j) t h = go (eqb (suc j) 2047) h
  where
    go : (b : Bool) → T (is_countable (cond b (cond (eqb t 0) (inf s) nan) (odd 53 s (2 ^ 52 + t) j 1074))) → suc j < 1075
    go true k = absurd (no_infinity (eqb t 0) s k)
    go false k =
        let a : (2 ^ 52 + t) * 2 ^ j < 2 ^ 1126 = sized (odd 53 s (2 ^ 52 + t) j 1074) s ((2 ^ 52 + t) * 2 ^ j) k (odd_sign 53 s (2 ^ 52 + t) j 1074) in
        let b : 2 ^ (52 + j) < 2 ^ 1126 = lt_of_le_of_lt (le_trans (le_of_eq (pow-add 2 52 j)) (mul-le-mul_right (2 ^ j) (le-add_right (2 ^ 52) t))) a in
        let c : 52 + j < 1126 = pow_lt_back (52 + j) 1126 b in
        omega arith

pub field_of : (x : Float) → T (fits binary64 x) → T (is_countable x) → to_bits binary64 x % 2 ^ 63 / 2 ^ 52 < 1075
unfolding of_bits
field_of x f h =
    let b = to_bits binary64 x in
    field_lt _ (b % 2 ^ 63 / 2 ^ 52) (b % 2 ^ 52) (subst (λ (y : Float). T (is_countable y)) (sym (of_bits-to_bits binary64 x f)) h)

-- ---- the count
-- a whole number within one half of z / n, where z / n is below 2^52 in size
small : (c z : ℤ) (n : ℕ) → 2 * nat_abs (c *ℤ pos n -ℤ z) ≤ n → nat_abs z < 2 ^ 52 * n → nat_abs c ≤ 2 ^ 52
small c z n h k =
    let p = c *ℤ pos n in
    let d = difference p z in
    let r = abs (p -ℤ z) in
    let b : nat_abs p ≤ nat_abs z + nat_abs (p -ℤ z) = abs_le p (nat_abs z + nat_abs (p -ℤ z)) (omega (arith, abs z)) (omega (arith, abs z)) in
    let a : nat_abs c * n < (2 ^ 52 + 1) * n = omega (arith, abs_product c (pos n)) in
    omega (arith, lt_of_mul-lt-mul_right n a)

pub count_small : (x : Float) → T (is_countable x) → nat_abs (count x) ≤ 2 ^ 52
unfolding count
count_small nan h = omega arith
count_small (inf s) h = omega arith
count_small (fin s m e) h =
    small (nearest (signed s (m * up e)) (down e)) (signed s (m * up e)) (down e) (nearest_near (signed s (m * up e)) (down e) (down_pos e))
    (omega (arith, abs_signed s (m * up e), below_edge s m e h))
