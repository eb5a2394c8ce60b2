-- A text that reads as lines of words, in front of anything.
use mathlib.Core.Path.{◌≡◌, refl, sym, ap, ◌∙◌}
use mathlib.Core.Bool.{true}
use mathlib.Core.List.{List, [], ◌∷◌, ◌++◌, append_assoc, append-nil}
use Prim.Native.Nat.{ℕ, zero, suc, ◌-◌, ◌<◌}
use native.Mathlib.Omega.{arith}
use lib.ListN.{length}
use Rattle.icgem_file.specs.Header.{Word, Line}
use Rattle.icgem_words.specs.Words.{pieces, nonempty, is_line_end, is_blank, words, worded}
use Rattle.icgem_words.specs.Inner.{all_of, none_of}
use Rattle.icgem_words.proofs.Joined.{words_blanks, words_last, words_then, worded_then}
use Rattle.icgem_words.proofs.Runs.{all_append}
use Rattle.icgem_write.specs.Written.{joined}
use Rattle.text.specs.Text.{ascii, spaces, padded}
use Rattle.icgem_return.proofs.Bytes.{Plain, plain_word, plain_line}

-- ---- within a line: a text of these words, at the line's end or before a blank
pub record Spells (text : List ℕ) (line : Line) : Type 0 where
  pub unbroken : none_of is_line_end text ≡ true
  pub last : words text ≡ line
  pub then : (b : ℕ) (rest : List ℕ) → is_blank b ≡ true → words (text ++ b ∷ rest) ≡ line ++ words rest

pub spells_one : {word : Word} → Plain word → Spells word (word ∷ [])
spells_one {word} p = record {
  unbroken = plain_line p;
  last = words_last word (plain_word p) p.some;
  then = words_then word (plain_word p) p.some;
}

blanks : (k : ℕ) → all_of is_blank (spaces k) ≡ true
unfolding all_of
blanks zero = refl
blanks (suc k) = blanks k

spaces_unbroken : (k : ℕ) → none_of is_line_end (spaces k) ≡ true
unfolding all_of
spaces_unbroken zero = refl
spaces_unbroken (suc k) = spaces_unbroken k

-- one word more, after spaces
pub spells_more : {text : List ℕ} {line : Line} {word : Word} (columns : ℕ) → Spells text line → Plain word → length word < columns
    → Spells (text ++ padded columns word) (line ++ (word ∷ []))
unfolding padded
spells_more {text} {line} {word} columns s p h =
    let j = columns - length word - 1 in
    let e : columns - length word ≡ suc j = omega arith in
    let one = spells_one p in
    rw e (record {
      unbroken = all_append _ text (spaces (suc j) ++ word) s.unbroken (all_append _ (spaces (suc j)) word (spaces_unbroken (suc j)) one.unbroken);
      last = s.then 32 (spaces j ++ word) refl ∙ rw (words_blanks (spaces j) word (blanks j), one.last);
      then = λ b rest t. ap words (append_assoc text (spaces (suc j) ++ word) (b ∷ rest)) ∙ s.then 32 (spaces j ++ word ++ b ∷ rest) refl
          ∙ rw (append_assoc (spaces j) word (b ∷ rest), words_blanks (spaces j) (word ++ b ∷ rest) (blanks j), one.then b rest t)
          (sym (append_assoc line (word ∷ []) (words rest)));
    })

-- ---- whole lines
pub record Reads (text : List ℕ) (lines : List Line) : Type 0 where
  pub before : (rest : List ℕ) → worded (text ++ rest) ≡ lines ++ worded rest

pub reads_none : Reads [] []
reads_none = record { before = λ rest. refl }

pub reads_line : {text : List ℕ} {word : Word} {line : Line} → Spells text (word ∷ line) → Reads (text ++ ascii "\n") ((word ∷ line) ∷ [])
unfolding ascii
reads_line {text} {word} {line} s = record {
  before = λ rest. ap worded (append_assoc text (10 ∷ []) rest) ∙ worded_then text s.unbroken 10 rest refl ∙ rw s.last;
}

pub reads_then : {a b : List ℕ} {l m : List Line} → Reads a l → Reads b m → Reads (a ++ b) (l ++ m)
reads_then {a} {b} {l} {m} r q = record {
  before = λ rest. ap worded (append_assoc a b rest) ∙ r.before (b ++ rest) ∙ rw (q.before rest) (sym (append_assoc l m (worded rest)));
}

-- f 0, f 1, .. f (n - 1), one after the other
unfoldable pub gathered : (ℕ → List Line) → ℕ → List Line
gathered f zero = []
gathered f (suc n) = gathered f n ++ f n

pub reads_joined : (f : ℕ → List ℕ) (g : ℕ → List Line) (n : ℕ) → ((k : ℕ) → k < n → Reads (f k) (g k)) → Reads (joined f n) (gathered g n)
unfolding joined gathered
reads_joined f g zero each = reads_none
reads_joined f g (suc n) each = reads_then (reads_joined f g n (λ k h. each k (omega arith))) (each n (omega arith))

-- a whole text
pub reads_all : {text : List ℕ} {lines : List Line} → Reads text lines → worded text ≡ lines
unfolding worded pieces nonempty
reads_all {text} {lines} r = rw (append-nil text, append-nil lines) at (r.before [])
