-- Texts joined: what their pieces, lines and words are.
use mathlib.Core.Path.{◌≡◌, refl, ap, ◌∙◌}
use mathlib.Core.Bool.{Bool, true, false, not, cond}
use mathlib.Core.List.{List, [], ◌∷◌, ◌++◌, map}
use Prim.Native.Nat.{ℕ, suc, ◌<◌, ◌≤◌}
use native.Mathlib.Omega.{arith}
use borrow.Author.Tests.{not-true}
use lib.ListN.{length, get_or}
use Rattle.icgem_words.specs.Words.{on_first, pieces, nonempty, is_line_end, is_blank, lines, words, worded}
use Rattle.icgem_words.specs.Inner.{all_of, none_of, ahead}
use Rattle.icgem_words.proofs.Runs.{all_head, all_tail}

-- ---- pieces
module _ (parts : ℕ → Bool) where
  kept : (b : ℕ) (run : List ℕ) → none_of parts (b ∷ run) ≡ true → parts b ≡ false
  kept b run h = not-true (parts b) (all_head (λ x. not (parts x)) b run h)

  kept_on : (b : ℕ) (run : List ℕ) → none_of parts (b ∷ run) ≡ true → none_of parts run ≡ true
  kept_on b run h = all_tail (λ x. not (parts x)) b run h

  -- a text with no byte that parts it is one piece
  pub pieces_last : (run : List ℕ) → none_of parts run ≡ true → pieces parts run ≡ run ∷ []
  unfolding pieces on_first
  pieces_last [] h = refl
  pieces_last (b ∷ run) h = rw (kept b run h, pieces_last run (kept_on b run h))

  -- such a text and a byte that parts it are the first piece
  pub pieces_then : (run : List ℕ) (b : ℕ) (rest : List ℕ) → none_of parts run ≡ true → parts b ≡ true → pieces parts (run ++ b ∷ rest) ≡ run ∷ pieces parts rest
  unfolding pieces on_first
  pieces_then [] b rest h e = rw e
  pieces_then (x ∷ run) b rest h e = rw (kept x run h, pieces_then run b rest (kept_on x run h) e)

-- ---- those that are not empty
module _ {A : Type 0} where
  pub nonempty_first : (piece : List A) (others : List (List A)) → nonempty (piece ∷ others) ≡ ahead piece (nonempty others)
  unfolding nonempty
  nonempty_first [] others = refl
  nonempty_first (x ∷ piece) others = refl

  pub ahead_some : (piece : List A) (others : List (List A)) → 0 < length piece → ahead piece others ≡ piece ∷ others
  ahead_some [] others h = absurd (omega arith)
  ahead_some (x ∷ piece) others h = refl

  pub ahead_none : (piece : List A) (others : List (List A)) → length piece ≡ 0 → ahead piece others ≡ others
  ahead_none [] others h = refl
  ahead_none (x ∷ piece) others h = absurd (omega arith)

-- ---- the first of them, which its text begins with
first_piece : (parts : ℕ → Bool) (text : List ℕ) → (rest : List ℕ) × (text ≡ get_or (pieces parts text) 0 [] ++ rest)
unfolding pieces on_first
first_piece parts [] = ([], refl)
first_piece parts (b ∷ text) = by_test (parts b) (pieces parts text) (first_piece parts text)
  where
    by_test : (t : Bool) (others : List (List ℕ)) → (rest : List ℕ) × (text ≡ get_or others 0 [] ++ rest)
        → (rest : List ℕ) × (b ∷ text ≡ get_or (cond t ([] ∷ others) (on_first b others)) 0 [] ++ rest)
    by_test true others h = (b ∷ text, refl)
    by_test false [] h = (h.0, ap (λ (xs : List ℕ). b ∷ xs) h.1)
    by_test false (piece ∷ others) h = (h.0, ap (λ (xs : List ℕ). b ∷ xs) h.1)

-- and the first word, where no blank stands before it
pub first_word : (text : List ℕ) → (0 < length text → is_blank (get_or text 0 0) ≡ false) → (rest : List ℕ) × (text ≡ get_or (words text) 0 [] ++ rest)
unfolding pieces on_first nonempty
first_word [] h = ([], refl)
first_word (b ∷ text) h = rw (h (omega arith)) (by_piece (pieces is_blank text) (first_piece is_blank text))
  where
    by_piece : (others : List (List ℕ)) → (rest : List ℕ) × (text ≡ get_or others 0 [] ++ rest)
        → (rest : List ℕ) × (b ∷ text ≡ get_or (nonempty (on_first b others)) 0 [] ++ rest)
    by_piece [] h = (h.0, ap (λ (xs : List ℕ). b ∷ xs) h.1)
    by_piece (piece ∷ others) h = (h.0, ap (λ (xs : List ℕ). b ∷ xs) h.1)

-- neither is longer than the text
piece_short : (parts : ℕ → Bool) (text : List ℕ) → length (get_or (pieces parts text) 0 []) ≤ length text
unfolding pieces on_first
piece_short parts [] = omega arith
piece_short parts (b ∷ text) = by_test (parts b) (pieces parts text) (piece_short parts text)
  where
    by_test : (t : Bool) (others : List (List ℕ)) → length (get_or others 0 []) ≤ length text → length (get_or (cond t ([] ∷ others) (on_first b others)) 0 []) ≤ suc (length text)
    by_test true others h = omega arith
    by_test false [] h = omega arith
    by_test false (piece ∷ others) h = omega (arith, h)

-- a text's first word is no longer than the text
pub first_short : (text : List ℕ) → length (get_or (words text) 0 []) ≤ length text
unfolding pieces on_first nonempty
first_short [] = omega arith
first_short (b ∷ text) = by_test (is_blank b) (pieces is_blank text) (piece_short is_blank text) (first_short text)
  where
    by_test : (t : Bool) (others : List (List ℕ)) → length (get_or others 0 []) ≤ length text → length (get_or (nonempty others) 0 []) ≤ length text
        → length (get_or (nonempty (cond t ([] ∷ others) (on_first b others))) 0 []) ≤ suc (length text)
    by_test true others h g = omega (arith, g)
    by_test false [] h g = omega arith
    by_test false (piece ∷ others) h g = omega (arith, h)

-- ---- words
pub words_none : words [] ≡ []
unfolding pieces nonempty
words_none = refl

pub words_blank : (b : ℕ) (rest : List ℕ) → is_blank b ≡ true → words (b ∷ rest) ≡ words rest
unfolding pieces nonempty
words_blank b rest e = rw e

pub words_blanks : (blanks rest : List ℕ) → all_of is_blank blanks ≡ true → words (blanks ++ rest) ≡ words rest
words_blanks [] rest h = refl
words_blanks (b ∷ blanks) rest h = words_blank b (blanks ++ rest) (all_head is_blank b blanks h) ∙ words_blanks blanks rest (all_tail is_blank b blanks h)

module _ (word : List ℕ) (h : none_of is_blank word ≡ true) (some : 0 < length word) where
  pub words_last : words word ≡ word ∷ []
  unfolding nonempty
  words_last = ap nonempty (pieces_last is_blank word h) ∙ nonempty_first word [] ∙ ahead_some word [] some

  pub words_then : (b : ℕ) (rest : List ℕ) → is_blank b ≡ true → words (word ++ b ∷ rest) ≡ word ∷ words rest
  words_then b rest e = ap nonempty (pieces_then is_blank word b rest h e) ∙ nonempty_first word (pieces is_blank rest) ∙ ahead_some word (words rest) some

-- ---- lines
module _ (line : List ℕ) (h : none_of is_line_end line ≡ true) where
  pub lines_last : lines line ≡ line ∷ []
  lines_last = pieces_last is_line_end line h

  pub lines_then : (b : ℕ) (rest : List ℕ) → is_line_end b ≡ true → lines (line ++ b ∷ rest) ≡ line ∷ lines rest
  lines_then b rest e = pieces_then is_line_end line b rest h e

  pub worded_then : (b : ℕ) (rest : List ℕ) → is_line_end b ≡ true → worded (line ++ b ∷ rest) ≡ ahead (words line) (worded rest)
  unfolding worded
  worded_then b rest e = rw (lines_then b rest e) (nonempty_first (words line) (map words (lines rest)))
