-- Numbers written in decimal, read back.
use mathlib.Core.Path.{◌≡◌, sym, ap, ◌∙◌}
use mathlib.Core.Bool.{true}
use mathlib.Core.List.{List, [], ◌∷◌, ◌++◌, append_assoc, append-nil}
use Prim.Native.Nat.{ℕ, zero, suc, ◌+◌, ◌/◌, ◌%◌, ◌^◌, ◌≤◌, ◌<◌}
use native.Mathlib.Nat.{pow-succ', div-div-eq-div-mul}
use native.Mathlib.Omega.{arith}
use borrow.Author.Tests.{ltb-true, ltb-false, le-leb}
use lib.Dec.{ltb}
use lib.ListN.{length, length-append}
use Rattle.icgem_decimal.specs.Decimal.{is_digit, all_digits, is_empty, is_whole, read_on, value_of}
use Rattle.icgem_decimal.proofs.Digits.{digits_append, read_append}
use Rattle.icgem_decimal.proofs.Tests.{either}
use Rattle.text.specs.Text.{digit, decimal, last_digits}
use Rattle.text.proofs.Decimals.{one_digit, last_digit}

-- digits that write a number
pub record Writes (text : List ℕ) (n : ℕ) : Type 0 where
  pub digits : all_digits text ≡ true
  pub value : value_of text ≡ n

is_digit_lem : (d : ℕ) → d < 10 → is_digit (digit d) ≡ true
is_digit_lem d h = rw (le-leb 48 (48 + d) (omega arith), le-leb (48 + d) 57 (omega arith))

-- a last digit behind those of the tenth
writes_more : {text : List ℕ} (n : ℕ) → Writes text (n / 10) → Writes (text ++ (digit (n % 10) ∷ [])) n
unfolding all_digits read_on
writes_more {text} n w = record {
  digits = digits_append text (digit (n % 10) ∷ []) ∙ rw (w.digits, is_digit_lem (n % 10) (omega arith));
  value = read_append 0 text (digit (n % 10) ∷ []) ∙ omega (arith, w.value);
}

writes_one : (n : ℕ) → n < 10 → Writes (digit n ∷ []) n
unfolding all_digits read_on
writes_one n h = record { digits = rw (is_digit_lem n h); value = omega arith }

by_steps : (k n : ℕ) → n ≤ k → Writes (decimal n) n
by_steps zero n h = rw (one_digit n (omega arith)) (writes_one n (omega arith))
by_steps (suc k) n h =
    either (ltb n 10) (λ e. rw (one_digit n (ltb-true n 10 e)) (writes_one n (ltb-true n 10 e)))
    (λ e. let l = ltb-false n 10 e in rw (last_digit n l) (writes_more n (by_steps k (n / 10) (omega arith))))

pub decimal_writes : (n : ℕ) → Writes (decimal n) n
decimal_writes n = by_steps n n (omega arith)

pub decimal_some : (n : ℕ) → 0 < length (decimal n)
decimal_some n =
    either (ltb n 10) (λ e. rw (one_digit n (ltb-true n 10 e)) (omega arith))
    (λ e. rw (last_digit n (ltb-false n 10 e)) (omega (arith, length-append (decimal (n / 10)) (digit (n % 10) ∷ []))))

-- the last digits behind those of what is left without them
pub last_writes : (count n : ℕ) {text : List ℕ} → Writes text (n / 10 ^ count) → Writes (text ++ last_digits count n) n
unfolding last_digits
last_writes zero n {text} w = let e : n / 10 ^ 0 ≡ n = omega arith in rw (append-nil text, ← e) w
last_writes (suc count) n {text} w =
    let e : n / 10 ^ suc count ≡ n / 10 / 10 ^ count = ap (λ (t : ℕ). n / t) (pow-succ' 10 count) ∙ sym (div-div-eq-div-mul n 10 (10 ^ count)) in
    rw (← append_assoc text (last_digits count (n / 10)) (digit (n % 10) ∷ [])) (writes_more n (last_writes count (n / 10) (rw e at w)))

-- some digits are a whole number
pub some_whole : (text : List ℕ) → all_digits text ≡ true → 0 < length text → is_whole text ≡ true
unfolding is_whole is_empty
some_whole [] d h = absurd (omega arith)
some_whole (b ∷ text) d h = d
