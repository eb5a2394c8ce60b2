-- Digits times a power of ten over another, rounded: exact, cut, or nothing.
use Rattle.std.proofs.Common.{◌≡◌, ℕ, suc, ◌+◌, ◌-◌, ◌*◌, ◌/◌, ◌^◌, ◌<◌, ◌≤◌, min, Bool, true, false, cond, leb, Option, Some, None, List, ◌++◌, length, get_or, take, drop, nat_abs, sym, refl, ap, subst, ◌∙◌, ap₂, mul-le-mul_right, mul_assoc, pow-suc, arith, length-append, length-drop, pow-add, leb-false, leb-true, take_all}
use native.Mathlib.Nat.{pow-le-pow_right, mul-add-div_right, div-eq_of_lt, div-eq_of_lt-le}
use Rattle.whole.proofs.Signed.{abs_signed, nearest_signed, nearest_same}
use Rattle.whole.proofs.Tests.{both_ends}
use Rattle.icgem_decimal.specs.Decimal.{all_digits, value_of, Held}
use Rattle.icgem_decimal.specs.Inner.{rounded, half}
use Rattle.icgem_decimal.proofs.Digits.{value_split, value_below, digit_at, digits_drop}
use Rattle.icgem_decimal.proofs.Numbers.{ten_pos, none_larger, grown, held_far}
use Rattle.icgem_decimal.proofs.Tests.{either}

-- n / d is q / m
same_rounded : (n d q m : ℕ) → 0 < d → 0 < m → n * m ≡ q * d → rounded n d ≡ rounded q m
same_rounded n d q m D M same =
    sym (abs_signed false (rounded n d))
    ∙ ap nat_abs (sym (nearest_signed false n d D) ∙ nearest_same n d q m D M same false ∙ nearest_signed false q m M)
    ∙ abs_signed false (rounded q m)

-- below one half
rounded_none : (n d : ℕ) → 2 * n < d → rounded n d ≡ 0
rounded_none n d h = div-eq_of_lt (omega arith)

module _ (n up down : ℕ) where
  pub rounded_exact : down ≤ up → rounded (n * 10 ^ up) (10 ^ down) ≡ n * 10 ^ (up - down)
  rounded_exact h =
      let e : up - down + down ≡ up = omega arith in
      let P : n * 10 ^ up ≡ n * 10 ^ (up - down) * 10 ^ down =
      ap (λ (k : ℕ). n * 10 ^ k) (sym e) ∙ ap (λ (t : ℕ). n * t) (pow-add 10 (up - down) down) ∙ sym (mul_assoc n (10 ^ (up - down)) (10 ^ down)) in
      let Z : 10 ^ down / 2 / 10 ^ down ≡ 0 = div-eq_of_lt (omega (arith, ten_pos down)) in
      ap (λ (t : ℕ). rounded t (10 ^ down)) P ∙ mul-add-div_right (ten_pos down) (n * 10 ^ (up - down)) (10 ^ down / 2) ∙ omega (arith, Z)

  pub rounded_lower : up ≤ down → rounded (n * 10 ^ up) (10 ^ down) ≡ rounded n (10 ^ (down - up))
  rounded_lower h =
      let e : up + (down - up) ≡ down = omega arith in
      same_rounded (n * 10 ^ up) (10 ^ down) n (10 ^ (down - up)) (ten_pos down) (ten_pos (down - up))
      (mul_assoc n (10 ^ up) (10 ^ (down - up)) ∙ ap (λ (t : ℕ). n * t) (sym (pow-add 10 up (down - up))) ∙ ap (λ (k : ℕ). n * 10 ^ k) e)

-- ---- a cut before the digit c, b standing after it
module _ (a c b t : ℕ) (d : c ≤ 9) (l : b < t) where
  cut_up : 5 ≤ c → rounded (a * (t * 10) + (c * t + b)) (t * 10) ≡ a + 1
  cut_up h = div-eq_of_lt-le (t * 10) (omega (arith, mul-le-mul_right t h)) (omega (arith, mul-le-mul_right t d))

  cut_down : c ≤ 4 → rounded (a * (t * 10) + (c * t + b)) (t * 10) ≡ a + 0
  cut_down h = div-eq_of_lt-le (t * 10) (omega arith) (omega (arith, mul-le-mul_right t h))

-- x is the digit's byte
by_digit : (a x b t : ℕ) → x ≤ 57 → b < t → (r : Bool) → leb 53 x ≡ r → rounded (a * (t * 10) + ((x - 48) * t + b)) (t * 10) ≡ a + cond r 1 0
by_digit a x b t d l true e = cut_up a (x - 48) b t (omega arith) l (omega (arith, leb-true 53 x e))
by_digit a x b t d l false e = cut_down a (x - 48) b t (omega arith) l (omega (arith, leb-false 53 x e))

pub rounded_cut : (l : List ℕ) (p : ℕ) → all_digits l ≡ true → p < length l → rounded (value_of l) (10 ^ (length l - p)) ≡ value_of (take p l) + half (get_or l p 0)
rounded_cut l p D h =
    let rest = drop (suc p) l in
    let d = both_ends 48 57 (get_or l p 0) (digit_at l p D h) in
    let e : length l - p ≡ suc (length rest) = omega (arith, length-drop (suc p) l) in
    ap₂ rounded (value_split l p h) (ap (λ (k : ℕ). 10 ^ k) e ∙ pow-suc 10 (length rest))
    ∙ by_digit (value_of (take p l)) (get_or l p 0) (value_of rest) (10 ^ length rest) (omega arith) (value_below rest (digits_drop l (suc p) D)) (leb 53 (get_or l p 0)) refl

-- more places than digits
pub rounded_short : (l : List ℕ) (q : ℕ) → all_digits l ≡ true → length l < q → rounded (value_of l) (10 ^ q) ≡ 0
rounded_short l q e h =
    rounded_none (value_of l) (10 ^ q) (omega (arith, value_below l e, pow-suc 10 (length l), pow-le-pow_right (ten_pos 1) h))

-- ---- digits, raised by the powers left or cut where some are wanting
module _ (l : List ℕ) (up down : ℕ) where
  pub exact_none : (n : ℕ) → down ≤ up → length l ≤ n → Held None (value_of (take n l)) → Held None (rounded (value_of l * 10 ^ up) (10 ^ down))
  exact_none n h g m =
      rw (rounded_exact (value_of l) up down h) (none_larger (value_of l) _ (grown (value_of l) (up - down)) (rw (take_all n l g) at m))

  pub exact : (n v : ℕ) (r : Option ℕ) → down ≤ up → length l ≤ n → v ≡ value_of (take n l) → Held r (v * 10 ^ (up - down)) → Held r (rounded (value_of l * 10 ^ up) (10 ^ down))
  exact n v r h g e m = rw (rounded_exact (value_of l) up down h, ← take_all n l g, ← e) m

  module _ (digits : all_digits l ≡ true) (h : up ≤ down) where
    pub lower : (p : ℕ) (r : Option ℕ) → p < length l → down - up ≤ length l → p ≡ length l - (down - up) → Held r (value_of (take p l) + half (get_or l p 0)) → Held r (rounded (value_of l * 10 ^ up) (10 ^ down))
    lower p r g k e m =
        let q : down - up ≡ length l - p = omega arith in
        rw (rounded_lower (value_of l) up down h, q, rounded_cut l p digits g) m

    pub lower_none : length l < down - up → Held (Some 0) (rounded (value_of l * 10 ^ up) (10 ^ down))
    lower_none g = rw (rounded_lower (value_of l) up down h, rounded_short l (down - up) digits g) (omega arith, refl)

-- ---- an exponent v read as x, which is at most a million
pub record Read (l : List ℕ) (places f v x : ℕ) : Type 0 where
  pub digits : all_digits l ≡ true
  pub short : length l ≤ 131072
  pub fraction : f ≤ length l
  pub few : places ≤ 15
  pub capped : x ≡ min v 1000000

pub read : (a b : List ℕ) (places v x : ℕ) → all_digits (a ++ b) ≡ true → length a + length b ≤ 131072 → places ≤ 15 → x ≡ min v 1000000
    → Read (a ++ b) places (length b) v x
read a b places v x D S P X =
    let n = length-append a b in
    record { digits = D; short = omega arith; fraction = omega arith; few = P; capped = X }

module _ {l : List ℕ} {places f v x : ℕ} (g : Read l places f v x) where
  far_up : (r : Option ℕ) → 1000000 ≤ v → Held r (rounded (value_of l * 10 ^ (places + x)) (10 ^ f)) → Held r (rounded (value_of l * 10 ^ (places + v)) (10 ^ f))
  far_up r h m =
      rw (rounded_exact (value_of l) (places + v) f (omega arith))
      (held_far r (value_of l) (places + x - f) (places + v - f) (omega arith) (omega arith) (rw (rounded_exact (value_of l) (places + x) f (omega arith)) at m))

  pub capped_up : (r : Option ℕ) → Held r (rounded (value_of l * 10 ^ (places + x)) (10 ^ f)) → Held r (rounded (value_of l * 10 ^ (places + v)) (10 ^ f))
  capped_up r m =
      either (leb 1000000 v) (λ t. far_up r (leb-true 1000000 v t) m)
      (λ t. let e : v ≡ x = omega (arith, leb-false 1000000 v t) in subst (λ (k : ℕ). Held r (rounded (value_of l * 10 ^ (places + k)) (10 ^ f))) (sym e) m)

  tiny : (j : ℕ) → 1000000 ≤ j → rounded (value_of l * 10 ^ places) (10 ^ (f + j)) ≡ 0
  tiny j h = rounded_lower (value_of l) places (f + j) (omega arith) ∙ rounded_short l (f + j - places) g.digits (omega arith)

  pub capped_down : (r : Option ℕ) → Held r (rounded (value_of l * 10 ^ places) (10 ^ (f + x))) → Held r (rounded (value_of l * 10 ^ places) (10 ^ (f + v)))
  capped_down r m =
      either (leb 1000000 v) (λ t. let h = leb-true 1000000 v t in rw (tiny v h) (rw (tiny x (omega arith)) at m))
      (λ t. let e : v ≡ x = omega (arith, leb-false 1000000 v t) in subst (λ (k : ℕ). Held r (rounded (value_of l * 10 ^ places) (10 ^ (f + k)))) (sym e) m)
