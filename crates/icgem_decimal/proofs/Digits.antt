-- Digits and the numbers that they write.
use Rattle.std.proofs.Common.{◌≡◌, ℕ, zero, suc, ◌+◌, ◌-◌, ◌*◌, ◌^◌, ◌<◌, ◌≤◌, Bool, true, false, not, ◌&&◌, ltb, List, [], ◌∷◌, ◌++◌, length, get_or, take, drop, sym, refl, ap, ◌∙◌, ap₂, mul-le-mul_right, pow-suc, add-one, arith, take-suc, lt-ltb, get_or-append-add}
use native.Mathlib.Nat.{pow-zero}
use Rattle.std.specs.List.{list_all}
use lib.Seq.{split_at}
use Rattle.whole.proofs.Tests.{and_left, and_right, both_ends}
use Rattle.icgem_decimal.specs.Decimal.{is_digit, all_digits, is_empty, is_whole, read_on, value_of}

-- ---- texts of digits
pub digits_append : (a b : List ℕ) → all_digits (a ++ b) ≡ (all_digits a && all_digits b)
unfolding all_digits
digits_append [] b = refl
digits_append (x ∷ a) b = rw (digits_append a b) (and_assoc (is_digit x) (all_digits a) (all_digits b))
  where
    and_assoc : (x y z : Bool) → (x && (y && z)) ≡ ((x && y) && z)
    and_assoc true y z = refl
    and_assoc false y z = refl

pub digit_at : (l : List ℕ) (i : ℕ) → all_digits l ≡ true → i < length l → is_digit (get_or l i 0) ≡ true
unfolding all_digits
digit_at [] i e h = absurd (omega arith)
digit_at (x ∷ l) zero e h = and_left (is_digit x) (all_digits l) e
digit_at (x ∷ l) (suc i) e h = digit_at l i (and_right (is_digit x) (all_digits l) e) (omega arith)

pub digits_drop : (l : List ℕ) (i : ℕ) → all_digits l ≡ true → all_digits (drop i l) ≡ true
unfolding all_digits
digits_drop [] zero e = e
digits_drop [] (suc i) e = e
digits_drop (x ∷ l) zero e = e
digits_drop (x ∷ l) (suc i) e = digits_drop l i (and_right (is_digit x) (all_digits l) e)

-- as `all` goes along a text
pub all_listed : (l : List ℕ) → list_all is_digit l ≡ all_digits l
unfolding all_digits
all_listed [] = refl
all_listed (x ∷ l) = rw (all_listed l)

-- digits are a whole number where there is one
pub whole-digits : (l : List ℕ) → is_whole l ≡ true → all_digits l ≡ true
unfolding is_whole
whole-digits l e = and_right (not (is_empty l)) (all_digits l) e

pub whole_of : (a b : List ℕ) → is_whole (a ++ b) ≡ (ltb 0 (length a + length b) && (all_digits a && all_digits b))
unfolding is_whole is_empty
whole_of [] [] = refl
whole_of [] (y ∷ b) = digits_append [] (y ∷ b) ∙ rw (lt-ltb 0 (0 + length (y ∷ b)) (omega arith))
whole_of (x ∷ a) b = digits_append (x ∷ a) b ∙ rw (lt-ltb 0 (length (x ∷ a) + length b) (omega arith))

-- each of the digits of two texts
module _ (a b : List ℕ) (i : ℕ) (e : all_digits (a ++ b) ≡ true) where
  pub digit_front : i < length a → (48 ≤ get_or a i 0) × (get_or a i 0 ≤ 57)
  digit_front h = both_ends 48 57 (get_or a i 0) (digit_at a i (and_left (all_digits a) (all_digits b) (sym (digits_append a b) ∙ e)) h)

  pub digit_behind : length a ≤ i → i < length a + length b → (48 ≤ get_or b (i - length a) 0) × (get_or b (i - length a) 0 ≤ 57)
  digit_behind h g =
      both_ends 48 57 (get_or b (i - length a) 0)
      (digit_at b (i - length a) (and_right (all_digits a) (all_digits b) (sym (digits_append a b) ∙ e)) (omega arith))

-- what stands past the first of two texts
pub joint_past : (a b : List ℕ) (i : ℕ) → length a ≤ i → get_or b (i - length a) 0 ≡ get_or (a ++ b) i 0
joint_past a b i h =
    let e : length a + (i - length a) ≡ i = omega arith in
    sym (get_or-append-add a b (i - length a) 0) ∙ ap (λ (k : ℕ). get_or (a ++ b) k 0) e

-- ---- their numbers
pub read_append : (n : ℕ) (a b : List ℕ) → read_on n (a ++ b) ≡ read_on (read_on n a) b
unfolding read_on
read_append n [] b = refl
read_append n (x ∷ a) b = read_append (10 * n + (x - 48)) a b

pub value_next : (l : List ℕ) (i : ℕ) → i < length l → value_of (take (i + 1) l) ≡ 10 * value_of (take i l) + (get_or l i 0 - 48)
unfolding read_on
value_next l i h = rw (add-one, take-suc l i 0 h) (read_append 0 (take i l) (get_or l i 0 ∷ []))

step : (n d t v : ℕ) → (10 * n + d) * t + v ≡ n * (t * 10) + ((10 * 0 + d) * t + v)
step n d t v = omega arith

-- digits read on from n: n is moved by as many places
pub read_more : (n : ℕ) (l : List ℕ) → read_on n l ≡ n * 10 ^ length l + value_of l
unfolding read_on
read_more n [] = omega (arith, pow-zero 10)
read_more n (x ∷ l) =
    rw (pow-suc 10 (length l), read_more (10 * 0 + (x - 48)) l) (read_more (10 * n + (x - 48)) l ∙ step n (x - 48) (10 ^ length l) (value_of l))

pub value_cons : (x : ℕ) (l : List ℕ) → value_of (x ∷ l) ≡ (x - 48) * 10 ^ length l + value_of l
unfolding read_on
value_cons x l =
    let e : 10 * 0 + (x - 48) ≡ x - 48 = omega arith in
    read_more (10 * 0 + (x - 48)) l ∙ ap (λ (k : ℕ). k * 10 ^ length l + value_of l) e

-- by the digits before a place, the one there and the rest
pub value_split : (l : List ℕ) (p : ℕ) → p < length l
    → value_of l ≡ value_of (take p l) * (10 ^ length (drop (suc p) l) * 10) + ((get_or l p 0 - 48) * 10 ^ length (drop (suc p) l) + value_of (drop (suc p) l))
value_split l p h =
    let rest = drop (suc p) l in
    ap value_of (split_at l p 0 h) ∙ read_append 0 (take p l) (get_or l p 0 ∷ rest) ∙ read_more (value_of (take p l)) (get_or l p 0 ∷ rest)
    ∙ ap₂ (λ (t v : ℕ). value_of (take p l) * t + v) (pow-suc 10 (length rest)) (value_cons (get_or l p 0) rest)

-- fewer than ten to the number of digits
pub value_below : (l : List ℕ) → all_digits l ≡ true → value_of l < 10 ^ length l
unfolding all_digits read_on
value_below [] e = omega (arith, pow-zero 10)
value_below (x ∷ l) e =
    let d = both_ends 48 57 x (and_left (is_digit x) (all_digits l) e) in
    let b = value_below l (and_right (is_digit x) (all_digits l) e) in
    let m : x - 48 ≤ 9 = omega arith in
    omega (arith, pow-suc 10 (length l), value_cons x l, mul-le-mul_right (10 ^ length l) m)
