-- Spaces, last digits and columns: how long each is, and one more of each.
use mathlib.Core.Path.{◌≡◌, refl, sym, ap, ◌∙◌}
use mathlib.Core.Bool.{Bool, true, false}
use mathlib.Core.List.{List, [], ◌∷◌, ◌++◌}
use Prim.Native.Nat.{ℕ, zero, suc, ◌+◌, ◌-◌, ◌/◌, ◌%◌, ◌^◌, ◌≤◌, ◌<◌}
use native.Mathlib.Omega.{arith}
use borrow.Author.Tests.{ltb-true, ltb-false}
use lib.Dec.{ltb}
use lib.ListN.{length, length-append, length-replicate}
use Rattle.text.proofs.Decimals.{one_digit, last_digit}
use Rattle.text.specs.Text.{ascii, digit, decimal, last_digits, fixed_point, spaces, padded}

pub spaces_length : (count : ℕ) → length (spaces count) ≡ count
spaces_length count = length-replicate {A = ℕ} count 32

pub last_length : (count n : ℕ) → length (last_digits count n) ≡ count
unfolding last_digits
last_length zero n = refl
last_length (suc count) n = omega (arith, length-append (last_digits count (n / 10)) (digit (n % 10) ∷ []), last_length count (n / 10))

pub no_digits : (count n : ℕ) → count ≡ 0 → last_digits count n ≡ []
unfolding last_digits
no_digits count n e = rw e refl

pub last_more : (count n : ℕ) → 0 < count → last_digits count n ≡ last_digits (count - 1) (n / 10) ++ (digit (n % 10) ∷ [])
unfolding last_digits
last_more zero n h = absurd (omega arith)
last_more (suc count) n h = let e : suc count - 1 ≡ count = omega arith in rw e refl

-- as many as a number has in decimal are all of it
digits_all : (m n : ℕ) (below : Bool) → ltb n 10 ≡ below → n ≤ m → last_digits (length (decimal n)) n ≡ decimal n
unfolding last_digits
digits_all m n true e h = let same : n % 10 ≡ n = omega (arith, ltb-true n 10 e) in rw (one_digit n (ltb-true n 10 e), same) refl
digits_all zero n false e h = absurd (omega (arith, ltb-false n 10 e))
digits_all (suc m) n false e h =
    let more = last_digit n (ltb-false n 10 e) in
    let long : length (decimal n) ≡ suc (length (decimal (n / 10))) = ap length more ∙ omega (arith, length-append (decimal (n / 10)) (digit (n % 10) ∷ [])) in
    rw long (ap (λ (s : List ℕ). s ++ (digit (n % 10) ∷ [])) (digits_all m (n / 10) (ltb (n / 10) 10) refl (omega (arith, ltb-false n 10 e))) ∙ sym more)

pub last_all : (n : ℕ) → last_digits (length (decimal n)) n ≡ decimal n
last_all n = digits_all n n (ltb n 10) refl (omega arith)

-- the whole part, the dot and the decimals
pub fixed_length : (decimals n : ℕ) → length (fixed_point decimals n) ≡ length (decimal (n / 10 ^ decimals)) + 1 + decimals
unfolding fixed_point ascii
fixed_length decimals n =
    let w = decimal (n / 10 ^ decimals) in
    omega (arith, length-append (w ++ ascii ".") (last_digits decimals n), length-append w (ascii "."), last_length decimals n)

-- a text that the columns hold fills them
pub padded_length : (columns : ℕ) (text : List ℕ) → length text ≤ columns → length (padded columns text) ≡ columns
unfolding padded
padded_length columns text h = omega (arith, length-append (spaces (columns - length text)) text, spaces_length (columns - length text))
