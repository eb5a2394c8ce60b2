-- The words of a line, one after the other.
use mathlib.Core.Path.{◌≡◌, refl, sym, ap, ◌∙◌}
use mathlib.Core.Bool.{Bool, true, false}
use mathlib.Core.List.{List, []}
use Prim.Native.Nat.{ℕ, ◌-◌}
use native.Mathlib.Numerals.{add-one}
use native.Mathlib.Nat.{add-zero}
use native.Mathlib.Omega.{arith}
use borrow.Author.Tests.{ltb-true, ltb-false}
use lib.Dec.{ltb}
use lib.ListN.{get_or, drop}
use lib.Seq.{get_or-drop, drop-drop}
use Rattle.icgem_file.specs.Header.{word_at}
use Rattle.icgem_words.specs.Inner.{part, NextWord}
use Rattle.icgem_words.specs.Words.{words}
use Rattle.icgem_words.proofs.Read.{words_past}
use Rattle.icgem_data.specs.Inner.{WordIs, FiveWords}

-- the next word is the first of those that are left, which are one fewer behind it
module _ {line : List ℕ} {at from to : ℕ} (w : NextWord line at from to) where
  first_is : word_at 0 (words (drop at line)) ≡ part from to line
  first_is = by_test (ltb from to) refl
    where
      by_test : (t : Bool) → ltb from to ≡ t → word_at 0 (words (drop at line)) ≡ part from to line
      by_test true e = rw (w.some (ltb-true from to e))
      by_test false e = let g = ltb-false from to e in let n : to - from ≡ 0 = omega arith in rw (w.none g, n)

  rest_is : words (drop to line) ≡ drop 1 (words (drop at line))
  rest_is = by_test (ltb from to) refl
    where
      by_test : (t : Bool) → ltb from to ≡ t → words (drop to line) ≡ drop 1 (words (drop at line))
      by_test true e = rw (w.some (ltb-true from to e))
      by_test false e = let g = ltb-false from to e in rw (w.none g, words_past line to (omega (arith, w.ended g)))

  pub word_is : (k : ℕ) → words (drop at line) ≡ drop k (words line) → WordIs line k at from to
  word_is k e = record {
    low = w.low;
    ordered = w.ordered;
    within = w.within;
    word = ap (λ (n : ℕ). get_or (words line) n []) (sym (add-zero k)) ∙ sym (get_or-drop k (words line) 0 []) ∙ ap (word_at 0) (sym e) ∙ first_is;
    rest = rest_is ∙ ap (drop 1) e ∙ drop-drop 1 k (words line) ∙ ap (λ (n : ℕ). drop n (words line)) (add-one k);
  }

module _ {line : List ℕ} {f t f1 t1 f2 t2 f3 t3 f4 t4 : ℕ} where
  pub five_words : NextWord line 0 f t → NextWord line t f1 t1 → NextWord line t1 f2 t2 → NextWord line t2 f3 t3 → NextWord line t3 f4 t4
      → FiveWords line f t f1 t1 f2 t2 f3 t3 f4 t4
  five_words a b c d e =
      let w0 = word_is a 0 refl in
      let w1 = word_is b 1 w0.rest in
      let w2 = word_is c 2 w1.rest in
      let w3 = word_is d 3 w2.rest in
      record { word0 = w0; word1 = w1; word2 = w2; word3 = w3; word4 = word_is e 4 w3.rest }
