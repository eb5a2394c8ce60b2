-- The count of the float that a sign, an exponent's field and the digits stand for.
use mathlib.Core.Path.{◌≡◌, sym, ap, ◌∙◌, subst}
use mathlib.Core.Bool.{Bool, true, false, not}
use Prim.Native.Nat.{ℕ, zero, suc, ◌+◌, ◌*◌, ◌/◌, ◌%◌, ◌^◌, ◌≤◌, ◌<◌}
use native.Mathlib.Nat.{lt_of_mul-lt-mul_right, mul_comm, mul_right_comm, eq_of_mul-eq-mul_right, mul-lt-mul_of_pos_right, lt_of_lt_of_le, not-suc-le-zero, mod-lt}
use native.Mathlib.Omega.{arith}
use lib.IntN.{pos}
use lib.Dec.{T, leb, ltb, ltb→lt, nltb→le}
use lib.Pow.{pow-add, pow_pos, pow_mono, shl_lt}
use lib.Ieee.{Float, nan, inf, fin, binary64, up, down, odd, of_fields, of_bits}
use lib.Ieee.Fits.{down_pos}
use lib.Ieee.Exact.{HasValue, odd_sign}
use borrow.Author.Tests.{ne_eqb}
use Rattle.whole.specs.Nearest.{signed, nearest}
use Rattle.count.specs.Count.{count}
use Rattle.whole.proofs.Signed.{nearest_same, nearest_none}
use Rattle.count.proofs.Halves.{rounded, nearest_is, rounded_none}

-- ---- the value q * 2^j / 2^1074, with h + 1 places after the point
module _ (n d q j h : ℕ) (J : j + (h + 1) ≡ 1074) (v : n * 2 ^ 1074 ≡ q * 2 ^ j * d) where
  cross : n * 2 ^ (h + 1) ≡ q * d
  cross = eq_of_mul-eq-mul_right (2 ^ j) (pow_pos j) (n * 2 ^ (h + 1)) (q * d)
      (turn n (2 ^ j) (2 ^ (h + 1)) ∙ ap (λ (k : ℕ). n * k) (sym (pow-add 2 j (h + 1)) ∙ ap (λ (k : ℕ). 2 ^ k) J) ∙ v ∙ mul_right_comm q (2 ^ j) d)
    where
      turn : (a b c : ℕ) → a * c * b ≡ a * (b * c)
      turn a b c = omega arith

count-is : (x : Float) (s : Bool) (q j h : ℕ) → j + (h + 1) ≡ 1074 → HasValue x s (q * 2 ^ j) (2 ^ 1074) → count x ≡ rounded s q h
unfolding count
count-is nan s q j h J v = absurd v
count-is (inf t) s q j h J v = absurd v
count-is (fin t m e) s q j h J v =
    ap (λ (b : Bool). nearest (signed b (m * up e)) (down e)) v.0
    ∙ nearest_same (m * up e) (down e) q (2 ^ (h + 1)) (down_pos e) (pow_pos (h + 1)) (cross (m * up e) (down e) q j h J v.1) s
    ∙ nearest_is q h s

-- ---- the value a / 2^1074, below one half
under : (n d a p : ℕ) → 0 < d → a < p → n * (p * 2) ≡ a * d → n + n < d
under n d a p D A e =
    lt_of_mul-lt-mul_right p (subst (λ (x : ℕ). x < d * p) (sym (twice n p ∙ e)) (subst (λ (x : ℕ). a * d < x) (mul_comm p d) (mul-lt-mul_of_pos_right A D)))
  where
    twice : (x y : ℕ) → (x + x) * y ≡ x * (y * 2)
    twice x y = omega arith

count_none : (x : Float) (s : Bool) (a : ℕ) → a < 2 ^ 1073 → HasValue x s a (2 ^ 1074) → count x ≡ pos 0
unfolding count
count_none nan s a A v = absurd v
count_none (inf t) s a A v = absurd v
count_none (fin t m e) s a A v = nearest_none (m * up e) (down e) (down_pos e) (under (m * up e) (down e) a (2 ^ 1073) (down_pos e) A v.1) t

-- ---- the fields
finite_field : (s : Bool) (x t : ℕ) → suc x < 2047 → of_fields binary64 s (suc x) t ≡ odd 53 s (2 ^ 52 + t) x 1074
unfolding of_fields
finite_field s x t h = rw (ne_eqb (suc x) 2047 (differ (suc x) h))
  where
    differ : (a : ℕ) → a < 2047 → a ≡ 2047 → ⊥
    differ a l e = omega arith

value_at : (s : Bool) (x t : ℕ) → suc x < 2047 → HasValue (of_fields binary64 s (suc x) t) s ((2 ^ 52 + t) * 2 ^ x) (2 ^ 1074)
value_at s x t h = subst (λ (k : Float). HasValue k s ((2 ^ 52 + t) * 2 ^ x) (2 ^ 1074)) (sym (finite_field s x t h)) (odd_sign 53 s (2 ^ 52 + t) x 1074)

zero_at : (s : Bool) (t : ℕ) → HasValue (of_fields binary64 s zero t) s (t * 2 ^ 0) (2 ^ 1074)
unfolding of_fields
zero_at s t = odd_sign 53 s t 0 1074

with_lead : (t : ℕ) → t < 2 ^ 52 → 2 ^ 52 + t < 2 ^ 53
with_lead t h = omega arith

small_field : (s : Bool) (x t : ℕ) → t < 2 ^ 52 → x < 1021 → count (of_fields binary64 s x t) ≡ pos 0
small_field s zero t T52 h =
    let l : t * 2 ^ 0 < 2 ^ 1073 = lt_of_lt_of_le (shl_lt 52 0 T52) (pow_mono {i = 52 + 0} {j = 1073} (omega arith)) in
    count_none (of_fields binary64 s zero t) s (t * 2 ^ 0) l (zero_at s t)
small_field s (suc x) t T52 h =
    let l : (2 ^ 52 + t) * 2 ^ x < 2 ^ 1073 = lt_of_lt_of_le (shl_lt 53 x (with_lead t T52)) (pow_mono {i = 53 + x} {j = 1073} (omega arith)) in
    count_none (of_fields binary64 s (suc x) t) s ((2 ^ 52 + t) * 2 ^ x) l (value_at s x t (omega arith))

large_field : (s : Bool) (x t h : ℕ) → 0 < x → h + x ≡ 1074 → count (of_fields binary64 s x t) ≡ rounded s (2 ^ 52 + t) h
large_field s zero t h lo e = absurd (not-suc-le-zero lo)
large_field s (suc x) t h lo e = count-is (of_fields binary64 s (suc x) t) s (2 ^ 52 + t) x h (omega arith) (value_at s x t (omega arith))

-- ---- the bits
module _ (b : ℕ) where
  abbrev pub field : ℕ
  field = b % 2 ^ 63 / 2 ^ 52

  abbrev pub digits : ℕ
  digits = 2 ^ 52 + b % 2 ^ 52

  pub count_of_bits : (h : ℕ) → (1011 ≤ field → h + field ≡ 1074) → (field < 1011 → h ≡ 63) → count (of_bits binary64 b) ≡ rounded (leb (2 ^ 63) b) digits h
  unfolding of_bits
  count_of_bits h near far = go (ltb field 1011) (ltb→lt field 1011) (nltb→le field 1011)
    where
      lead : digits < 2 ^ 53
      lead = with_lead (b % 2 ^ 52) (mod-lt b (pow_pos 52))

      sign : Bool
      sign = leb (2 ^ 63) b

      go : (t : Bool) → (T t → field < 1011) → (T (not t) → 1011 ≤ field) → count (of_fields binary64 sign field (b % 2 ^ 52)) ≡ rounded sign digits h
      go true small large = let l = small tt in rw (far l) (small_field sign field (b % 2 ^ 52) (mod-lt b (pow_pos 52)) (omega arith) ∙ sym (rounded_none sign digits lead))
      go false small large = let l = large tt in large_field sign field (b % 2 ^ 52) h (omega arith) (near l)
