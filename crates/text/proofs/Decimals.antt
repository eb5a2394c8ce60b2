-- A number in decimal: its last digit stands after the digits of its tenth; and how many digits it has.
use mathlib.Core.Path.{◌≡◌, refl, ap, ◌∙◌}
use mathlib.Core.Bool.{Bool, true, false, cond}
use mathlib.Core.List.{List, [], ◌∷◌, ◌++◌}
use Prim.Native.Nat.{ℕ, zero, suc, ◌/◌, ◌%◌, ◌^◌, ◌≤◌, ◌<◌}
use native.Mathlib.Nat.{pow-zero, pow-suc, one-le-pow}
use native.Mathlib.Omega.{arith}
use borrow.Author.Tests.{lt-ltb, le-ltb, ltb-true, ltb-false}
use lib.Dec.{ltb}
use lib.ListN.{length, length-append}
use Rattle.text.specs.Text.{digit, digits, decimal}

-- n steps are enough for n, and more make no other text
same : (k j : ℕ) (below : Bool) (n : ℕ) → ltb n 10 ≡ below → n ≤ k → n ≤ j → digits k below n ≡ digits j below n
unfolding digits
same zero zero below n e h g = refl
same zero (suc j) true n e h g = refl
same zero (suc j) false n e h g = absurd (omega (arith, ltb-false n 10 e))
same (suc k) zero true n e h g = refl
same (suc k) zero false n e h g = absurd (omega (arith, ltb-false n 10 e))
same (suc k) (suc j) true n e h g = refl
same (suc k) (suc j) false n e h g =
    ap (λ (s : List ℕ). s ++ (digit (n % 10) ∷ [])) (same k j (ltb (n / 10) 10) (n / 10) refl (omega (arith, ltb-false n 10 e)) (omega (arith, ltb-false n 10 e)))

pub one_digit : (n : ℕ) → n < 10 → decimal n ≡ digit n ∷ []
unfolding decimal digits
one_digit zero h = refl
one_digit (suc n) h = rw (lt-ltb (suc n) 10 h)

pub last_digit : (n : ℕ) → 10 ≤ n → decimal n ≡ decimal (n / 10) ++ (digit (n % 10) ∷ [])
unfolding decimal digits
last_digit zero h = absurd (omega arith)
last_digit (suc n) h =
    ap (λ (b : Bool). digits (suc n) b (suc n)) (le-ltb (suc n) 10 h)
    ∙ ap (λ (s : List ℕ). s ++ (digit (suc n % 10) ∷ [])) (same n (suc n / 10) (ltb (suc n / 10) 10) (suc n / 10) refl (omega arith) (omega arith))

-- the digits before the last
unfoldable pub leading : ℕ → List ℕ
leading n = cond (ltb n 10) [] (decimal (n / 10))

pub leading_none : (n : ℕ) → n < 10 → leading n ≡ []
unfolding leading
leading_none n h = rw (lt-ltb n 10 h) refl

pub leading_some : (n : ℕ) → 10 ≤ n → leading n ≡ decimal (n / 10)
unfolding leading
leading_some n h = rw (le-ltb n 10 h) refl

pub leading_last : (n : ℕ) → decimal n ≡ leading n ++ (digit (n % 10) ∷ [])
leading_last n = split (ltb n 10) refl
  where
    split : (below : Bool) → ltb n 10 ≡ below → decimal n ≡ leading n ++ (digit (n % 10) ∷ [])
    split true e = let same : n % 10 ≡ n = omega (arith, ltb-true n 10 e) in rw (leading_none n (ltb-true n 10 e), same) (one_digit n (ltb-true n 10 e))
    split false e = rw (leading_some n (ltb-false n 10 e)) (last_digit n (ltb-false n 10 e))

-- a number below 10^(k + 1) has at most k + 1 digits
pub digits_most : (k n : ℕ) (below : Bool) → ltb n 10 ≡ below → n < 10 ^ suc k → length (decimal n) ≤ suc k
digits_most zero n true e h = rw (one_digit n (ltb-true n 10 e)) (omega arith)
digits_most zero n false e h = absurd (omega (arith, ltb-false n 10 e, pow-suc 10 0, pow-zero 10))
digits_most (suc k) n true e h = rw (one_digit n (ltb-true n 10 e)) (omega arith)
digits_most (suc k) n false e h =
    let fewer = digits_most k (n / 10) (ltb (n / 10) 10) refl (omega (arith, pow-suc 10 (suc k))) in
    rw (last_digit n (ltb-false n 10 e), length-append (decimal (n / 10)) (digit (n % 10) ∷ [])) (omega arith)

-- a number of 64 bits has at most 20, and one with a sign 19
pub word_most : (n : ℕ) → n < 2 ^ 64 → length (decimal n) ≤ 20
word_most n h = digits_most 19 n (ltb n 10) refl (omega arith)

pub decimal_most : (n : ℕ) → n ≤ 2 ^ 63 → length (decimal n) ≤ 19
decimal_most n h = digits_most 18 n (ltb n 10) refl (omega arith)

-- one from 10^k to below 10^(k + 1) has k + 1
pub digits_are : (k n : ℕ) → 10 ^ k ≤ n → n < 10 ^ suc k → length (decimal n) ≡ suc k
digits_are zero n l h = rw (one_digit n (omega (arith, h, pow-suc 10 0, pow-zero 10))) refl
digits_are (suc k) n l h =
    let p = pow-suc 10 k in
    let more = digits_are k (n / 10) (omega (arith, l, p)) (omega (arith, h, pow-suc 10 (suc k))) in
    rw (last_digit n (omega (arith, l, p, one-le-pow k 10 (omega arith))), length-append (decimal (n / 10)) (digit (n % 10) ∷ [])) (omega (arith, more))
