-- A decimal's parts, by what stands before and after its letter and its dot.
use Rattle.std.proofs.Common.{◌≡◌, ℕ, suc, ◌<◌, ◌≤◌, Bool, true, false, ◌&&◌, eqb, ltb, leb, List, [], ◌++◌, length, get_or, min, sym, refl, ap, ◌∙◌, arith, drop_of_length-le, ltb-false, ltb-true, ne_eqb, eqb-true}
use borrow.Author.Tests.{eqb-false, lt-leb}
use Rattle.whole.proofs.Tests.{and_right, both_ends}
use Rattle.icgem_words.specs.Words.{pieces}
use Rattle.icgem_decimal.specs.Decimal.{is_digit, is_letter, is_dot, all_digits, is_whole, read_on, value_of, is_minus, unsigned, mantissa, exponent, fraction_digits, is_exponent, is_mantissa}
use Rattle.icgem_decimal.specs.Inner.{before, after}
use Rattle.icgem_decimal.proofs.Digits.{digits_append, whole-digits}
use Rattle.icgem_decimal.proofs.Pieces.{some, one_more, no_more, second, sole, digits_sole, sign_sole}
use Rattle.icgem_decimal.proofs.Tests.{either, not_so}

-- no digit is a letter or the dot
no_letter : (b : ℕ) → is_digit b ≡ true → is_letter b ≡ false
no_letter b e =
    let d = both_ends 48 57 b e in
    rw (ne_eqb b 69 (omega arith), ne_eqb b 101 (omega arith), ne_eqb b 68 (omega arith), ne_eqb b 100 (omega arith))

no_dot_digit : (b : ℕ) → is_digit b ≡ true → is_dot b ≡ false
no_dot_digit b e = let d = both_ends 48 57 b e in ne_eqb b 46 (omega arith)

-- where digits follow, after a sign or none, they are one piece
signed_sole : (text : List ℕ) → all_digits (unsigned text) ≡ true → length (pieces is_letter text) ≡ 1
signed_sole text e = sign_sole is_letter refl refl text ∙ digits_sole is_letter no_letter (unsigned text) e

other : (parts : ℕ → Bool) (text : List ℕ) → eqb (length (pieces parts text)) 1 ≡ false → ¬ (length (pieces parts text) ≡ 1)
other parts text e q = eqb-false (length (pieces parts text)) 1 e q

-- ---- what follows the letter
module _ (word : List ℕ) where
  abbrev rest : List ℕ
  rest = after is_letter word

  pub exponent_none : length word ≤ length (before is_letter word) → is_exponent word ≡ true
  unfolding is_exponent
  exponent_none h = rw (no_more is_letter word h)

  rest_none : length word ≤ length (before is_letter word) → rest ≡ []
  rest_none h = let past : length word ≤ suc (length (before is_letter word)) = omega arith in drop_of_length-le word past

  several : eqb (length (pieces is_letter rest)) 1 ≡ false → false ≡ is_whole (unsigned rest)
  several e = sym (not_so (is_whole (unsigned rest)) (λ w. other is_letter rest e (signed_sole rest (whole-digits (unsigned rest) w))))

  pub exponent_some : length (before is_letter word) < length word → is_exponent word ≡ is_whole (unsigned rest)
  unfolding is_exponent
  exponent_some h =
      rw (one_more is_letter word h, second is_letter word)
      (either (eqb (length (pieces is_letter rest)) 1)
      (λ e. rw (eqb-true (length (pieces is_letter rest)) 1 e, sole is_letter rest (eqb-true (length (pieces is_letter rest)) 1 e)))
      (λ e. let k = length (pieces is_letter rest) in
      rw (ne_eqb (suc k) 1 (omega (arith, some is_letter rest)), ne_eqb (suc k) 2 (omega (arith, other is_letter rest e))) (several e)))

  -- no letter: no sign, and zero
  pub exponent_zero : length word ≤ length (before is_letter word) → (false ≡ is_minus rest) × (0 ≡ min (value_of (unsigned rest)) 1000000)
  unfolding is_minus unsigned read_on
  exponent_zero h = rw (rest_none h) (refl, refl)

  -- what stands behind the letter, without its sign
  pub exponent_told : {text digits : List ℕ} {whole : Bool} → (length (before is_letter word) < length word) × (text ≡ rest) → digits ≡ unsigned text → is_whole digits ≡ whole
      → is_exponent word ≡ whole
  exponent_told f e w = exponent_some f.0 ∙ ap (λ (t : List ℕ). is_whole (unsigned t)) (sym f.1) ∙ ap is_whole (sym e) ∙ w

  pub exponent_digits : is_exponent word ≡ true → all_digits (unsigned rest) ≡ true
  unfolding unsigned all_digits
  exponent_digits e =
      either (ltb (length (before is_letter word)) (length word))
      (λ l. whole-digits (unsigned rest) (sym (exponent_some (ltb-true _ _ l)) ∙ e))
      (λ l. rw (rest_none (ltb-false _ _ l)))

  pub exponent_is : is_exponent word ≡ true → exponent word ≡ rest
  exponent_is e = second is_letter word ∙ sole is_letter rest (signed_sole rest (exponent_digits e))

-- ---- what stands before and after the dot
module _ (text : List ℕ) where
  abbrev fraction : List ℕ
  fraction = after is_dot text

  one_dot : length (before is_dot text) < length text → leb (length (pieces is_dot text)) 2 ≡ eqb (length (pieces is_dot fraction)) 1
  one_dot h =
      rw (one_more is_dot text h)
      (either (eqb (length (pieces is_dot fraction)) 1) (λ e. rw (eqb-true (length (pieces is_dot fraction)) 1 e))
      (λ e. rw (e, lt-leb (suc (length (pieces is_dot fraction))) 2 (omega (arith, some is_dot fraction, other is_dot fraction e)))))

  no_dot : length text ≤ length (before is_dot text) → leb (length (pieces is_dot text)) 2 ≡ eqb (length (pieces is_dot fraction)) 1
  unfolding pieces
  no_dot h =
      let past : length text ≤ suc (length (before is_dot text)) = omega arith in
      rw (no_more is_dot text h, drop_of_length-le text past)

  -- digits on both sides are one piece after the dot
  fraction_sole : is_whole (before is_dot text ++ fraction) ≡ true → length (pieces is_dot fraction) ≡ 1
  fraction_sole w =
      digits_sole is_dot no_dot_digit fraction
      (and_right (all_digits (before is_dot text)) (all_digits fraction) (sym (digits_append (before is_dot text) fraction) ∙ whole-digits (before is_dot text ++ fraction) w))

  by_dot : (leb (length (pieces is_dot text)) 2 && is_whole (before is_dot text ++ get_or (pieces is_dot text) 1 [])) ≡ is_whole (before is_dot text ++ fraction)
  by_dot =
      rw (either (ltb (length (before is_dot text)) (length text)) (λ l. one_dot (ltb-true _ _ l)) (λ l. no_dot (ltb-false _ _ l)), second is_dot text)
      (either (eqb (length (pieces is_dot fraction)) 1)
      (λ e. rw (e, sole is_dot fraction (eqb-true (length (pieces is_dot fraction)) 1 e)))
      (λ e. rw e (sym (not_so (is_whole (before is_dot text ++ fraction)) (λ w. other is_dot fraction e (fraction_sole w))))))

module _ (word : List ℕ) where
  pub mantissa_is : is_mantissa word ≡ is_whole (before is_dot (mantissa word) ++ after is_dot (mantissa word))
  unfolding is_mantissa
  mantissa_is = by_dot (mantissa word)

  pub fraction_is : is_mantissa word ≡ true → fraction_digits word ≡ after is_dot (mantissa word)
  fraction_is e = second is_dot (mantissa word) ∙ sole is_dot (after is_dot (mantissa word)) (fraction_sole (mantissa word) (sym mantissa_is ∙ e))
