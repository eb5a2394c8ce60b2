-- Whole numbers of any length, in order: zeros before them change nothing, and the first digit that differs decides.
use Rattle.std.proofs.Common.{◌≡◌, ℕ, zero, suc, ◌+◌, ◌-◌, ◌*◌, ◌^◌, ◌<◌, ◌≤◌, true, false, List, length, get_or, take, drop, replicate, sym, refl, ap, ◌∙◌, mul-le-mul_right, arith, length-append, length-drop, take_all, lt-ltb, le-ltb, ne_eqb, Ordering, Less, Equal, Greater}
use borrow.Author.Tests.{eq-eqb}
use Rattle.std.specs.Ordering.{nat_cmp, is_ne, MatchOrdering}
use Rattle.std.proofs.lemmas.Cmp.{ranked}
use lib.ListN.{length-replicate}
use Rattle.whole.proofs.Tests.{both_ends}
use Rattle.icgem_decimal.specs.Decimal.{all_digits, read_on, value_of}
use Rattle.icgem_decimal.specs.Inner.{padded}
use Rattle.icgem_decimal.proofs.Digits.{digits_append, digit_at, digits_drop, read_append, value_next, value_split, value_below}

-- ---- zeros
zeros_digits : (k : ℕ) → all_digits (replicate k 48) ≡ true
unfolding all_digits
zeros_digits zero = refl
zeros_digits (suc k) = zeros_digits k

zeros_value : (k : ℕ) → value_of (replicate k 48) ≡ 0
unfolding read_on
zeros_value zero = refl
zeros_value (suc k) = zeros_value k

module _ (n : ℕ) (l : List ℕ) where
  pub padded_digits : all_digits l ≡ true → all_digits (padded n l) ≡ true
  padded_digits e = rw (digits_append (replicate (n - length l) 48) l, zeros_digits (n - length l), e)

  pub padded_value : value_of (padded n l) ≡ value_of l
  padded_value = read_append 0 (replicate (n - length l) 48) l ∙ ap (λ (k : ℕ). read_on k l) (zeros_value (n - length l))

  pub padded_length : length l ≤ n → length (padded n l) ≡ n
  padded_length h = omega (arith, length-append (replicate (n - length l) 48) l, length-replicate {A = ℕ} (n - length l) 48)

below : (v t x y p q : ℕ) → p < t → x < y → v * (t * 10) + (x * t + p) < v * (t * 10) + (y * t + q)
below v t x y p q h l = omega (arith, mul-le-mul_right t l)

-- ---- two texts of digits, as long as each other, that agree before a place
first_differs : (a b : List ℕ) (i : ℕ) → all_digits a ≡ true → length a ≡ length b → i < length a → value_of (take i a) ≡ value_of (take i b) → get_or a i 0 < get_or b i 0
    → value_of a < value_of b
first_differs a b i A L h E d =
    let x = both_ends 48 57 (get_or a i 0) (digit_at a i A h) in
    let e : length (drop (suc i) b) ≡ length (drop (suc i) a) = omega (arith, length-drop (suc i) a, length-drop (suc i) b) in
    let r = value_below (drop (suc i) a) (digits_drop a (suc i) A) in
    rw (value_split a i h, value_split b i (omega arith), E, e)
    (below (value_of (take i b)) (10 ^ length (drop (suc i) a)) (get_or a i 0 - 48) (get_or b i 0 - 48) (value_of (drop (suc i) a)) (value_of (drop (suc i) b)) r (omega arith))

-- ---- the order of numbers
cmp_less : {x y : ℕ} → x < y → nat_cmp x y ≡ Less
cmp_less {x} {y} h = rw (lt-ltb x y h)

cmp_equal : {x y : ℕ} → x ≡ y → nat_cmp x y ≡ Equal
cmp_equal {x} {y} e = rw (le-ltb x y (omega arith), eq-eqb x y e)

cmp_greater : {x y : ℕ} → y < x → nat_cmp x y ≡ Greater
cmp_greater {x} {y} h = rw (le-ltb x y (omega arith), ne_eqb x y (omega arith))

-- a and b, padded to n digits, agree before the place i
pub record Agree (n : ℕ) (a b : List ℕ) (i : ℕ) : Type 0 where
  pub room_a : length a ≤ n
  pub room_b : length b ≤ n
  pub alike : value_of (take i (padded n a)) ≡ value_of (take i (padded n b))

agree_turned : {n : ℕ} {a b : List ℕ} {i : ℕ} → Agree n a b i → Agree n b a i
agree_turned g = record { room_a = g.room_b; room_b = g.room_a; alike = sym g.alike }

decided : {n : ℕ} {a b : List ℕ} {i : ℕ} → Agree n a b i → all_digits a ≡ true → i < n → get_or (padded n a) i 0 < get_or (padded n b) i 0 → value_of a < value_of b
decided {n} {a} {b} {i} g A h d =
    let l = padded_length n a g.room_a in
    rw (padded_value n a, padded_value n b) at
    (first_differs (padded n a) (padded n b) i (padded_digits n a A) (l ∙ sym (padded_length n b g.room_b)) (omega arith) g.alike d)

module _ {n : ℕ} {a b : List ℕ} {i : ℕ} (g : Agree n a b i) where
  pub agree_next : i < n → get_or (padded n a) i 0 ≡ get_or (padded n b) i 0 → Agree n a b (i + 1)
  agree_next h e = record {
    room_a = g.room_a;
    room_b = g.room_b;
    alike =
        let la = padded_length n a g.room_a in
        let lb = padded_length n b g.room_b in
        rw (value_next (padded n a) i (omega arith), value_next (padded n b) i (omega arith), e, g.alike);
  }

  pub agree_all : n ≤ i → Equal ≡ nat_cmp (value_of a) (value_of b)
  agree_all h =
      let la = padded_length n a g.room_a in
      let lb = padded_length n b g.room_b in
      sym (cmp_equal (rw (take_all i (padded n a) (omega arith), take_all i (padded n b) (omega arith), padded_value n a, padded_value n b) at g.alike))

  -- the digits at the place, compared
  module _ (o : Ordering) (e : o ≡ nat_cmp (get_or (padded n a) i 0) (get_or (padded n b) i 0)) where
    pub differs : all_digits a ≡ true → all_digits b ≡ true → i < n → is_ne o ≡ true → o ≡ nat_cmp (value_of a) (value_of b)
    differs A B h d = by_order o (ranked _ _ o e) d
      where
        by_order : (o : Ordering) → MatchOrdering o (get_or (padded n a) i 0 < get_or (padded n b) i 0) (get_or (padded n a) i 0 ≡ get_or (padded n b) i 0) (get_or (padded n b) i 0 < get_or (padded n a) i 0)
            → is_ne o ≡ true → o ≡ nat_cmp (value_of a) (value_of b)
        by_order Less m d = sym (cmp_less (decided g A h m))
        by_order Equal m d = absurd (cc)
        by_order Greater m d = sym (cmp_greater (decided (agree_turned g) B h m))

    pub same_next : i < n → is_ne o ≡ false → Agree n a b (i + 1)
    same_next h d = agree_next h (by_order o (ranked _ _ o e) d)
      where
        by_order : (o : Ordering) → MatchOrdering o (get_or (padded n a) i 0 < get_or (padded n b) i 0) (get_or (padded n a) i 0 ≡ get_or (padded n b) i 0) (get_or (padded n b) i 0 < get_or (padded n a) i 0)
            → is_ne o ≡ false → get_or (padded n a) i 0 ≡ get_or (padded n b) i 0
        by_order Less m d = absurd (cc)
        by_order Equal m d = m
        by_order Greater m d = absurd (cc)
