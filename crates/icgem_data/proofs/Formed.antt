-- A coefficient line, from its parts.
use mathlib.Core.Path.{◌≡◌, sym, ap, ap₂, subst, ◌∙◌}
use mathlib.Core.Bool.{Bool, true, false, ◌&&◌, ◌||◌}
use mathlib.Core.List.{List, [], ◌∷◌}
use Prim.Native.Nat.{ℕ, ◌+◌, ◌-◌, ◌≤◌, ◌<◌}
use native.Mathlib.Omega.{arith}
use borrow.Author.Tests.{leb-true, leb-false, eqb-true, eq-eqb, eqb-false, ne_eqb}
use lib.Dec.{T, eqb, leb}
use lib.ListN.{length, drop, length-drop, get_or-eq_default}
use lib.Seq.{length-take-le}
use Rattle.whole.proofs.Tests.{and_left, and_right}
use Rattle.text.specs.Text.{ascii}
use Rattle.icgem_decimal.specs.Decimal.{is_empty, is_whole, is_decimal, is_exponent, is_mantissa, unsigned, value_of}
use Rattle.icgem_decimal.proofs.Tests.{either, not_so, and_false}
use Rattle.icgem_names.specs.Names.{gfc}
use Rattle.icgem_file.specs.Header.{Line, word_at, keyed}
use Rattle.icgem_file.specs.Data.{columned, line_formed}
use Rattle.icgem_words.specs.Inner.{part}
use Rattle.icgem_words.specs.Words.{pieces, words, same_word}
use Rattle.icgem_words.proofs.Same.{same_equal}
use Rattle.icgem_data.specs.Inner.{FiveWords, paired, is_numbers, NumbersTaken, LineTaken}
use Rattle.icgem_data.specs.declared.Coefficients.{Coefficients}
use Rattle.std.specs.Prelude.{Option, Some, None}
use mathlib.Core.Logic.{◌⊎◌, inl, inr}

-- ---- the columns
eqb_moved : (n k : ℕ) → 5 ≤ n → eqb n (5 + k) ≡ eqb (n - 5) k
eqb_moved n k h =
    either (eqb n (5 + k))
    (λ e. e ∙ sym (eq-eqb (n - 5) k (omega (arith, eqb-true n (5 + k) e))))
    (λ e. e ∙ sym (ne_eqb (n - 5) k (λ g. eqb-false n (5 + k) e (omega arith))))

columns : (n : ℕ) → 5 ≤ n → (eqb n 5 || (eqb n 7 || eqb n 9)) ≡ paired (n - 5)
columns n h = ap₂ ◌||◌ (eqb_moved n 0 h) (ap₂ ◌||◌ (eqb_moved n 2 h) (eqb_moved n 4 h))

columns_long : (n : ℕ) → (eqb n 5 || (eqb n 7 || eqb n 9)) ≡ true → 5 ≤ n
columns_long n e =
    either (leb 5 n) (leb-true 5 n)
    (λ g. let h = leb-false 5 n g in absurd (subst T (sym (rw (ne_eqb n 5 (λ q. omega arith), ne_eqb n 7 (λ q. omega arith), ne_eqb n 9 (λ q. omega arith)) at e)) tt))

pub paired_is : (n : ℕ) → (n ≡ 0) ⊎ ((n ≡ 2) ⊎ (n ≡ 4)) → paired n ≡ true
paired_is n (inl e) = rw e
paired_is n (inr (inl e)) = rw e
paired_is n (inr (inr e)) = rw e

-- ---- words that are numbers are not empty
whole_some : (word : List ℕ) → is_whole word ≡ true → 0 < length word
unfolding is_whole is_empty
whole_some [] e = absurd (subst T (sym e) tt)
whole_some (b ∷ word) e = omega arith

decimal_some : (word : List ℕ) → is_decimal word ≡ true → 0 < length word
unfolding is_exponent is_mantissa is_whole is_empty unsigned pieces
decimal_some [] e = absurd (subst T (sym e) tt)
decimal_some (b ∷ word) e = omega arith

there : (k : ℕ) (l : Line) → 0 < length (word_at k l) → k < length l
there k l h = either (leb (length l) k) (λ e. absurd (omega (arith, ap length (get_or-eq_default l [] (leb-true (length l) k e))))) (leb-false (length l) k)

pub part_length : (line : List ℕ) (from to : ℕ) → to ≤ length line → length (part from to line) ≡ to - from
part_length line from to h = length-take-le (to - from) (drop from line) (omega (arith, length-drop from line))

-- ---- the line
module _ {line : List ℕ} {f t f1 t1 f2 t2 f3 t3 f4 t4 : ℕ} (w : FiveWords line f t f1 t1 f2 t2 f3 t3 f4 t4) where
  abbrev Headed : Bool
  Headed = same_word (part f t line) gfc && paired (length (words (drop t4 line)))

  left : length (words (drop t4 line)) ≡ length (words line) - 5
  left = ap length w.word4.rest ∙ length-drop 5 (words line)

  key-is : same_word (part f t line) gfc ≡ keyed gfc (words line)
  key-is = ap (λ (v : List ℕ). same_word v gfc) (sym w.word0.word)

  formed_headed : (n : ℕ) → line_formed n (words line) ≡ true → Headed ≡ true
  unfolding line_formed
  formed_headed n g =
      let front = and_left (keyed gfc (words line) && columned (words line)) _ g in
      let k = and_left (keyed gfc (words line)) (columned (words line)) front in
      let c = and_right (keyed gfc (words line)) (columned (words line)) front in
      rw (key-is, k, left) (sym (columns (length (words line)) (columns_long (length (words line)) c)) ∙ c)

  pub line_refused : (n : ℕ) → Headed ≡ false → line_formed n (words line) ≡ false
  line_refused n e = not_so (line_formed n (words line)) (λ g. subst T (sym (formed_headed n g) ∙ e) tt)

  module _ (H : Headed ≡ true) (most : List ℕ) where
    abbrev Numbers : Bool
    Numbers = is_numbers (word_at 1 (words line)) (word_at 2 (words line)) (word_at 3 (words line)) (word_at 4 (words line)) most

    abbrev Both : Bool
    Both = keyed gfc (words line) && columned (words line)

    wholes : Numbers ≡ true → (is_whole (word_at 1 (words line)) && is_whole (word_at 2 (words line))) ≡ true
    wholes e = and_left (is_whole (word_at 1 (words line)) && is_whole (word_at 2 (words line))) _ e

    decimals : Numbers ≡ true → (is_decimal (word_at 3 (words line)) && is_decimal (word_at 4 (words line))) ≡ true
    decimals e =
        and_left (is_decimal (word_at 3 (words line)) && is_decimal (word_at 4 (words line))) _
        (and_right (is_whole (word_at 1 (words line)) && is_whole (word_at 2 (words line))) _ e)

    some4 : Numbers ≡ true → 0 < length (word_at 4 (words line))
    some4 e = decimal_some (word_at 4 (words line)) (and_right (is_decimal (word_at 3 (words line))) _ (decimals e))

    some3 : Numbers ≡ true → 0 < length (word_at 3 (words line))
    some3 e = decimal_some (word_at 3 (words line)) (and_left (is_decimal (word_at 3 (words line))) _ (decimals e))

    front : Numbers ≡ true → Both ≡ true
    front e =
        let p = rw left at (and_right (same_word (part f t line) gfc) (paired (length (words (drop t4 line)))) H) in
        ap₂ ◌&&◌ (sym key-is ∙ and_left (same_word (part f t line) gfc) _ H) (columns (length (words line)) (there 4 (words line) (some4 e)) ∙ p)

    formed : line_formed (value_of most) (words line) ≡ Numbers
    unfolding line_formed
    formed =
        either Numbers
        (λ e. ap (λ (b : Bool). b && Numbers) (front e))
        (λ e. ap (λ (b : Bool). Both && b) e ∙ and_false Both ∙ sym e)

    -- the first word has three bytes, and each other one at least
    long : Numbers ≡ true → 7 ≤ length line
    unfolding ascii
    long e =
        let a = ap length (same_equal (part f t line) gfc (and_left (same_word (part f t line) gfc) _ H)) in
        let s1 = rw (w.word1.word, part_length line f1 t1 w.word1.within) at (whole_some _ (and_left (is_whole (word_at 1 (words line))) _ (wholes e))) in
        let s2 = rw (w.word2.word, part_length line f2 t2 w.word2.within) at (whole_some _ (and_right (is_whole (word_at 1 (words line))) _ (wholes e))) in
        let s3 = rw (w.word3.word, part_length line f3 t3 w.word3.within) at (some3 e) in
        let s4 = rw (w.word4.word, part_length line f4 t4 w.word4.within) at (some4 e) in
        omega (arith, part_length line f t w.word0.within)

    pub line_taken : {d o c s : List ℕ} (result : Option Coefficients) → d ≡ part f1 t1 line → o ≡ part f2 t2 line → c ≡ part f3 t3 line → s ≡ part f4 t4 line
        → NumbersTaken d o c s most result → LineTaken (value_of most) line result
    line_taken None D O C S N = formed ∙ rw (D ∙ sym w.word1.word, O ∙ sym w.word2.word, C ∙ sym w.word3.word, S ∙ sym w.word4.word) at N
    line_taken (Some k) D O C S N =
        let N' = rw (D ∙ sym w.word1.word, O ∙ sym w.word2.word, C ∙ sym w.word3.word, S ∙ sym w.word4.word) at N in
        record { formed = formed ∙ N'.0; long = long N'.0; stands = N'.1.0; counts_are = N'.1.1 }
