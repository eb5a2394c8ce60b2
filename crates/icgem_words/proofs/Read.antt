-- What a reader that goes along a text's lines, and along a line's words, has in front of it.
use mathlib.Core.Path.{◌≡◌, refl, sym, ap, ◌∙◌}
use mathlib.Core.Bool.{Bool, true, false, cond}
use mathlib.Core.List.{List, [], ◌∷◌, ◌++◌, map, append-nil}
use Prim.Native.Nat.{ℕ, ◌+◌, ◌-◌, ◌≤◌, ◌<◌}
use native.Mathlib.Numerals.{add-one}
use native.Mathlib.Omega.{arith}
use borrow.Author.Tests.{not-false, ltb-true, ltb-false}
use lib.Dec.{ltb}
use lib.ListN.{length, get_or, drop, length-drop, drop_of_length-le}
use lib.Seq.{drop-cons, get_or-drop, length-take-le}
use Rattle.icgem_words.specs.Words.{pieces, nonempty, is_blank, lines, words, worded}
use Rattle.icgem_words.specs.Inner.{part, ahead, in_line, in_word, Run, NextWord}
use Rattle.icgem_words.proofs.Runs.{cut}
use Rattle.icgem_words.proofs.Joined.{nonempty_first, first_word, ahead_some, ahead_none, words_none, words_blank, words_blanks, words_last, words_then}
use Rattle.icgem_words.proofs.Joined.{lines_last, lines_then}

-- what stands from a place on: its byte and the rest
from_place : (text : List ℕ) (at : ℕ) → at < length text → drop at text ≡ get_or text at 0 ∷ drop (at + 1) text
from_place text at h = rw (add-one, drop-cons text at 0)

-- a run, with what follows it, and the last run of a text
module _ {test : ℕ → Bool} {text : List ℕ} {from to : ℕ} (r : Run test text from to) where
  run_then : to < length text → drop from text ≡ part from to text ++ (get_or text to 0 ∷ drop (to + 1) text)
  run_then h = cut text from to r.low ∙ ap (λ (l : List ℕ). part from to text ++ l) (from_place text to h)

  run_last : length text ≤ to → drop from text ≡ part from to text
  run_last h = cut text from to r.low ∙ rw (drop_of_length-le text h) (append-nil (part from to text))

  run_length : length (part from to text) ≡ to - from
  run_length = length-take-le (to - from) (drop from text) (omega (arith, length-drop from text))

-- ---- lines
pub worded_past : (text : List ℕ) (at : ℕ) → length text ≤ at → worded (drop at text) ≡ []
unfolding worded pieces nonempty
worded_past text at h = rw (drop_of_length-le text h)

module _ {text : List ℕ} {from to : ℕ} (r : Run in_line text from to) where
  pub lines_from : lines (drop from text) ≡ part from to text ∷ cond (ltb to (length text)) (lines (drop (to + 1) text)) []
  lines_from = by_test (ltb to (length text)) refl
    where
      by_test : (t : Bool) → ltb to (length text) ≡ t → lines (drop from text) ≡ part from to text ∷ cond t (lines (drop (to + 1) text)) []
      by_test true e =
          let h = ltb-true to (length text) e in
          ap lines (run_then r h) ∙ lines_then (part from to text) r.passed (get_or text to 0) (drop (to + 1) text) (not-false _ (r.stops h))
      by_test false e = ap lines (run_last r (ltb-false to (length text) e)) ∙ lines_last (part from to text) r.passed

  after : nonempty (map words (cond (ltb to (length text)) (lines (drop (to + 1) text)) [])) ≡ worded (drop (to + 1) text)
  unfolding worded nonempty
  after = by_test (ltb to (length text)) refl
    where
      by_test : (t : Bool) → ltb to (length text) ≡ t → nonempty (map words (cond t (lines (drop (to + 1) text)) [])) ≡ nonempty (map words (lines (drop (to + 1) text)))
      by_test true e = refl
      by_test false e = sym (worded_past text (to + 1) (omega (arith, ltb-false to (length text) e)))

  -- the line's words, where it has one, in front of those of the lines after it
  pub worded_from : worded (drop from text) ≡ ahead (words (part from to text)) (worded (drop (to + 1) text))
  unfolding worded
  worded_from =
      ap (λ (l : List (List ℕ)). nonempty (map words l)) lines_from
      ∙ nonempty_first (words (part from to text)) _
      ∙ ap (ahead (words (part from to text))) after

  pub worded_some : 0 < length (words (part from to text)) → worded (drop from text) ≡ words (part from to text) ∷ worded (drop (to + 1) text)
  worded_some h = worded_from ∙ ahead_some (words (part from to text)) (worded (drop (to + 1) text)) h

  pub worded_none : length (words (part from to text)) ≡ 0 → worded (drop from text) ≡ worded (drop (to + 1) text)
  worded_none h = worded_from ∙ ahead_none (words (part from to text)) (worded (drop (to + 1) text)) h

-- ---- words
pub words_past : (line : List ℕ) (at : ℕ) → length line ≤ at → words (drop at line) ≡ []
words_past line at h = rw (drop_of_length-le line h, words_none)

-- blanks before the first word
pub first_begins : {line : List ℕ} {from : ℕ} → Run is_blank line 0 from → (rest : List ℕ) × (drop from line ≡ get_or (words line) 0 [] ++ rest)
first_begins {line} {from} r =
    let zero : from + 0 ≡ from = omega arith in
    let e : words line ≡ words (drop from line) = ap words (cut line 0 from r.low) ∙ words_blanks (part 0 from line) (drop from line) r.passed in
    rw e (first_word (drop from line) (λ h. rw (get_or-drop, zero) (r.stops (omega (arith, h, length-drop from line)))))

-- blanks, and then the bytes of a word
module _ {line : List ℕ} {at from to : ℕ} (blanks : Run is_blank line at from) (word : Run in_word line from to) where
  skipped : words (drop at line) ≡ words (drop from line)
  skipped = ap words (cut line at from blanks.low) ∙ words_blanks (part at from line) (drop from line) blanks.passed

  some_word : from < to → words (drop from line) ≡ part from to line ∷ words (drop to line)
  some_word h = by_test (ltb to (length line)) refl
    where
      some : 0 < length (part from to line)
      some = omega (arith, run_length word)

      by_test : (t : Bool) → ltb to (length line) ≡ t → words (drop from line) ≡ part from to line ∷ words (drop to line)
      by_test true e =
          let l = ltb-true to (length line) e in
          let b = not-false _ (word.stops l) in
          ap words (run_then word l) ∙ words_then (part from to line) word.passed some (get_or line to 0) (drop (to + 1) line) b
          ∙ rw (from_place line to l, words_blank (get_or line to 0) (drop (to + 1) line) b)
      by_test false e =
          let l = ltb-false to (length line) e in
          ap words (run_last word l) ∙ words_last (part from to line) word.passed some ∙ rw (words_past line to l)

  -- the byte after the blanks is in a word
  at_end : to ≤ from → to ≡ length line
  at_end e = by_test (ltb to (length line)) refl
    where
      by_test : (t : Bool) → ltb to (length line) ≡ t → to ≡ length line
      by_test true h =
          let l = ltb-true to (length line) h in
          let q : from ≡ to = omega (arith, word.low) in
          cc (blanks.stops (omega arith), not-false (is_blank (get_or line to 0)) (word.stops l))
      by_test false h = omega (arith, ltb-false to (length line) h)

  pub next_word : NextWord line at from to
  next_word = record {
    low = blanks.low;
    ordered = word.low;
    within = word.within;
    some = λ h. skipped ∙ some_word h;
    none = λ e. skipped ∙ words_past line from (omega (arith, at_end e));
    ended = at_end;
  }

-- the words that are left after the next
module _ {line : List ℕ} {at from to : ℕ} (w : NextWord line at from to) where
  pub counted_some : from < to → length (words (drop at line)) ≡ length (words (drop to line)) + 1
  counted_some h = rw (w.some h, add-one)

-- how many words are passed before a word, which is the next from a place on
pub record Counted (line : List ℕ) (at from to count : ℕ) : Type 0 where
  pub place : ℕ
  pub next : NextWord line place from to
  pub few : count ≤ from
  pub all : count + length (words (drop place line)) ≡ length (words (drop at line))

module _ {line : List ℕ} {at from to : ℕ} where
  pub counted_first : NextWord line at from to → Counted line at from to 0
  counted_first w = record { place = at; next = w; few = omega arith; all = omega arith }

  module _ {count : ℕ} (c : Counted line at from to count) where
    pub counted_more : {from' to' : ℕ} → from < to → NextWord line to from' to' → Counted line at from' to' (count + 1)
    counted_more h w = record { place = to; next = w; few = omega (arith, c.few, w.low); all = omega (arith, c.all, counted_some c.next h) }

    pub counted_all : to ≤ from → count ≡ length (words (drop at line))
    counted_all h = omega (arith, c.all, ap length (c.next.none h))
