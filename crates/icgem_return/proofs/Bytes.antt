-- Which bytes stand in a word: none that parts words or lines, and in a number none that is a letter.
use mathlib.Core.Path.{◌≡◌, refl}
use mathlib.Core.Bool.{Bool, true, ◌&&◌}
use mathlib.Core.List.{List, [], ◌∷◌}
use Prim.Native.Nat.{ℕ, ◌<◌}
use native.Mathlib.Omega.{arith}
use borrow.Author.Tests.{ltb-true, leb-true, le-leb, ne_eqb}
use lib.Dec.{leb, ltb}
use lib.ListN.{length}
use Rattle.icgem_decimal.specs.Decimal.{is_digit, all_digits, is_letter, is_dot}
use Rattle.icgem_words.specs.Words.{is_line_end, is_blank}
use Rattle.icgem_words.specs.Inner.{all_of, none_of}
use Rattle.icgem_words.proofs.Runs.{all_head, all_tail}
use Rattle.whole.proofs.Tests.{and_left, and_right, both_ends}

-- what passes a test passes a weaker one
weaker : (test other : ℕ → Bool) → ((b : ℕ) → test b ≡ true → other b ≡ true) → (text : List ℕ) → all_of test text ≡ true → all_of other text ≡ true
unfolding all_of
weaker test other f [] h = refl
weaker test other f (b ∷ text) h = rw (f b (all_head test b text h)) (weaker test other f text (all_tail test b text h))

-- above the space
abbrev pub is_plain : ℕ → Bool
is_plain b = leb 33 b

-- '-', '.' and the digits stand from 45 to 57
abbrev pub is_numeral : ℕ → Bool
is_numeral b = leb 45 b && leb b 57

pub record Plain (word : List ℕ) : Type 0 where
  pub bytes : all_of is_plain word ≡ true
  pub some : 0 < length word

module _ {word : List ℕ} (p : Plain word) where
  pub plain_word : none_of is_blank word ≡ true
  plain_word = weaker _ _ (λ b h. let l = leb-true 33 b h in rw (ne_eqb b 32 (omega arith), ne_eqb b 9 (omega arith))) word p.bytes

  pub plain_line : none_of is_line_end word ≡ true
  plain_line = weaker _ _ (λ b h. let l = leb-true 33 b h in rw (ne_eqb b 10 (omega arith), ne_eqb b 13 (omega arith))) word p.bytes

-- a given word: its bytes are looked at
pub plain_given : (word : List ℕ) → (all_of is_plain word && ltb 0 (length word)) ≡ true → Plain word
plain_given word e = record {
  bytes = and_left (all_of is_plain word) (ltb 0 (length word)) e;
  some = ltb-true 0 (length word) (and_right (all_of is_plain word) (ltb 0 (length word)) e);
}

-- ---- numbers
pub numeral_plain : (text : List ℕ) → all_of is_numeral text ≡ true → 0 < length text → Plain text
numeral_plain text h some = record {
  bytes = weaker _ _ (λ b e. le-leb 33 b (omega (arith, both_ends 45 57 b e))) text h;
  some = some;
}

pub numeral_no_letter : (text : List ℕ) → all_of is_numeral text ≡ true → none_of is_letter text ≡ true
numeral_no_letter text h =
    weaker _ _
    (λ b e. let l = both_ends 45 57 b e in
    rw (ne_eqb b 69 (omega arith), ne_eqb b 101 (omega arith), ne_eqb b 68 (omega arith), ne_eqb b 100 (omega arith)))
    text h

-- ---- digits
digits_all : (other : ℕ → Bool) → ((b : ℕ) → is_digit b ≡ true → other b ≡ true) → (text : List ℕ) → all_digits text ≡ true → all_of other text ≡ true
unfolding all_digits all_of
digits_all other f [] h = refl
digits_all other f (b ∷ text) h = rw (f b (and_left (is_digit b) (all_digits text) h)) (digits_all other f text (and_right (is_digit b) (all_digits text) h))

pub digits_numeral : (text : List ℕ) → all_digits text ≡ true → all_of is_numeral text ≡ true
digits_numeral text h = digits_all _ (λ b e. let l = both_ends 48 57 b e in rw (le-leb 45 b (omega arith), le-leb b 57 (omega arith))) text h

pub digits_no_dot : (text : List ℕ) → all_digits text ≡ true → none_of is_dot text ≡ true
digits_no_dot text h = digits_all _ (λ b e. let l = both_ends 48 57 b e in rw (ne_eqb b 46 (omega arith))) text h
