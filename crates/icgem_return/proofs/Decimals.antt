-- A number written with its decimals is taken as the number that was written.
use mathlib.Core.Path.{◌≡◌, refl, sym, ap, ◌∙◌}
use mathlib.Core.Bool.{Bool, true, false}
use mathlib.Core.List.{List, [], ◌∷◌, ◌++◌, append_assoc, append-nil}
use Prim.Native.Nat.{ℕ, suc, ◌+◌, ◌-◌, ◌*◌, ◌/◌, ◌^◌, ◌≤◌, ◌<◌}
use native.Mathlib.Nat.{one-le-pow}
use native.Mathlib.Omega.{arith}
use borrow.Author.Tests.{le-leb, ne_eqb}
use lib.IntN.{ℤ, pos, negsuc}
use lib.ListN.{length, get_or, length-append}
use Rattle.icgem_decimal.specs.Decimal.{is_digit, all_digits, read_on, is_letter, is_dot, is_minus, unsigned}
use Rattle.icgem_decimal.specs.Decimal.{is_exponent, is_mantissa, is_decimal, exponent_up, exponent_down, in_units}
use Rattle.icgem_decimal.proofs.Digits.{digits_append}
use Rattle.icgem_decimal.proofs.Rounded.{rounded_exact}
use Rattle.icgem_words.specs.Words.{pieces}
use Rattle.icgem_words.specs.Inner.{all_of}
use Rattle.icgem_words.proofs.Joined.{pieces_last, pieces_then}
use Rattle.icgem_words.proofs.Runs.{all_append}
use Rattle.icgem_write.specs.Written.{coefficient}
use Rattle.text.specs.Text.{ascii, decimal, last_digits, fixed_point, sign}
use Rattle.text.proofs.Columns.{last_length}
use Rattle.whole.specs.Nearest.{signed, nearest}
use Rattle.whole.proofs.Signed.{nearest_signed}
use Rattle.whole.proofs.Tests.{and_left, and_right, both_ends}
use Rattle.icgem_return.proofs.Bytes.{is_numeral, Plain, numeral_plain, numeral_no_letter, digits_numeral, digits_no_dot}
use Rattle.icgem_return.proofs.Numbers.{Writes, decimal_writes, decimal_some, last_writes, some_whole}

-- a word that is a decimal, and what it is in units
pub record Said (places : ℕ) (word : List ℕ) (z : ℤ) : Type 0 where
  pub plain : Plain word
  pub taken : is_decimal word ≡ true
  pub units : in_units places word ≡ z

nearest_exact : (s : Bool) (n k : ℕ) → nearest (signed s (n * 10 ^ k)) (10 ^ k) ≡ signed s n
nearest_exact s n k =
    let z : k - k ≡ 0 = omega arith in
    let e : n * 10 ^ (k - k) ≡ n = rw z (omega arith) in
    nearest_signed s (n * 10 ^ k) (10 ^ k) (one-le-pow k 10 (omega arith)) ∙ ap (signed s) (rounded_exact n k k (omega arith) ∙ e)

-- a word with no letter, whose pieces about the dot are known, with as many decimals as are asked for
module _ (places n : ℕ) (word : List ℕ) (around : List (List ℕ)) (L : pieces is_letter word ≡ word ∷ []) (D : pieces is_dot (unsigned word) ≡ around)
    (two : length around ≤ 2) (W : Writes (get_or around 0 [] ++ get_or around 1 []) n) (some : 0 < length (get_or around 0 [] ++ get_or around 1 []))
    (exact : length (get_or around 1 []) ≡ places) where
  is_taken : is_decimal word ≡ true
  unfolding is_exponent is_mantissa
  is_taken = rw (L, D, le-leb (length around) 2 two, some_whole _ W.digits some)

  in-units : in_units places word ≡ signed (is_minus word) n
  unfolding in_units exponent_up exponent_down is_minus unsigned read_on
  in-units = rw (L, D, W.value, exact) (nearest_exact (is_minus word) n (places + 0))

-- digits in front: no sign
front_unsigned : (a rest : List ℕ) → all_digits a ≡ true → 0 < length a → unsigned (a ++ rest) ≡ a ++ rest
unfolding all_digits unsigned
front_unsigned [] rest h some = absurd (omega arith)
front_unsigned (b ∷ a) rest h some =
    let l = both_ends 48 57 b (and_left (is_digit b) (all_digits a) h) in
    rw (ne_eqb b 43 (omega arith), ne_eqb b 45 (omega arith))

front_positive : (a rest : List ℕ) → all_digits a ≡ true → 0 < length a → is_minus (a ++ rest) ≡ false
unfolding all_digits is_minus
front_positive [] rest h some = absurd (omega arith)
front_positive (b ∷ a) rest h some =
    let l = both_ends 48 57 b (and_left (is_digit b) (all_digits a) h) in
    rw (ne_eqb b 45 (omega arith))

-- ---- whole numbers, in no places
pub decimal_said : (n : ℕ) → Said 0 (decimal n) (pos n)
unfolding signed
decimal_said n =
    let a = decimal n in
    let w = decimal_writes n in
    let bytes = digits_numeral a w.digits in
    let bare = append-nil a in
    let U : unsigned a ≡ a = rw bare at (front_unsigned a [] w.digits (decimal_some n)) in
    let M : is_minus a ≡ false = rw bare at (front_positive a [] w.digits (decimal_some n)) in
    let L = pieces_last is_letter a (numeral_no_letter a bytes) in
    let D : pieces is_dot (unsigned a) ≡ a ∷ [] = rw U (pieces_last is_dot a (digits_no_dot a w.digits)) in
    let W : Writes (a ++ []) n = rw bare w in
    let some : 0 < length (a ++ []) = rw bare (decimal_some n) in
    record {
      plain = numeral_plain a bytes (decimal_some n);
      taken = is_taken 0 n a (a ∷ []) L D (omega arith) W some refl;
      units = in-units 0 n a (a ∷ []) L D (omega arith) W some refl ∙ ap (λ (s : Bool). signed s n) M;
    }

-- ---- with decimals, after a sign or none
module _ (k n : ℕ) where
  abbrev a : List ℕ
  a = decimal (n / 10 ^ k)

  abbrev b : List ℕ
  b = last_digits k n

  writes : Writes (a ++ b) n
  writes = last_writes k n (decimal_writes (n / 10 ^ k))

  a_digits : all_digits a ≡ true
  a_digits = (decimal_writes (n / 10 ^ k)).digits

  b_digits : all_digits b ≡ true
  b_digits = and_right (all_digits a) (all_digits b) (sym (digits_append a b) ∙ writes.digits)

  fixed_is : fixed_point k n ≡ a ++ 46 ∷ b
  unfolding fixed_point ascii
  fixed_is = append_assoc a (46 ∷ []) b

  fixed_bytes : all_of is_numeral (fixed_point k n) ≡ true
  unfolding all_of
  fixed_bytes = rw fixed_is (all_append is_numeral a (46 ∷ b) (digits_numeral a a_digits) (digits_numeral b b_digits))

  around : pieces is_dot (fixed_point k n) ≡ a ∷ b ∷ []
  around = rw fixed_is (pieces_then is_dot a 46 b (digits_no_dot a a_digits) refl ∙ rw (pieces_last is_dot b (digits_no_dot b b_digits)))

  fixed_unsigned : unsigned (fixed_point k n) ≡ fixed_point k n
  fixed_unsigned = rw fixed_is (front_unsigned a (46 ∷ b) a_digits (decimal_some (n / 10 ^ k)))

  fixed_positive : is_minus (fixed_point k n) ≡ false
  fixed_positive = rw fixed_is (front_positive a (46 ∷ b) a_digits (decimal_some (n / 10 ^ k)))

  sign_unsigned : (s : Bool) → unsigned (sign s ++ fixed_point k n) ≡ fixed_point k n
  unfolding sign ascii unsigned
  sign_unsigned true = refl
  sign_unsigned false = fixed_unsigned

  sign_minus : (s : Bool) → is_minus (sign s ++ fixed_point k n) ≡ s
  unfolding sign ascii is_minus
  sign_minus true = refl
  sign_minus false = fixed_positive

  sign_bytes : (s : Bool) → all_of is_numeral (sign s ++ fixed_point k n) ≡ true
  unfolding sign ascii all_of
  sign_bytes true = fixed_bytes
  sign_bytes false = fixed_bytes

  pub fixed_said : (s : Bool) → Said k (sign s ++ fixed_point k n) (signed s n)
  fixed_said s =
      let word = sign s ++ fixed_point k n in
      let bytes = sign_bytes s in
      let L = pieces_last is_letter word (numeral_no_letter word bytes) in
      let D : pieces is_dot (unsigned word) ≡ a ∷ b ∷ [] = rw (sign_unsigned s) around in
      let some : 0 < length (a ++ b) = omega (arith, length-append a b, decimal_some (n / 10 ^ k)) in
      let long : 0 < length word = omega (arith, length-append (sign s) (fixed_point k n), ap length fixed_is, length-append a (46 ∷ b)) in
      record {
        plain = numeral_plain word bytes long;
        taken = is_taken k n word (a ∷ b ∷ []) L D (omega arith) writes some (last_length k n);
        units = in-units k n word (a ∷ b ∷ []) L D (omega arith) writes some (last_length k n) ∙ ap (λ (t : Bool). signed t n) (sign_minus s);
      }

pub metres_said : (n : ℕ) → Said 3 (fixed_point 3 n) (pos n)
unfolding sign signed
metres_said n = fixed_said 3 n false

pub coefficient_said : (z : ℤ) → Said 15 (coefficient z) z
unfolding coefficient sign signed
coefficient_said (pos n) = fixed_said 15 n false
coefficient_said (negsuc n) = fixed_said 15 (suc n) true
