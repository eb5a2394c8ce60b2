-- Inner contracts, no words of 02: runs of bytes, and the next word.
use Rattle.std.specs.Prelude.{◌≡◌, Bool, true, false, cond, not, ◌&&◌, List, [], ◌∷◌, ℕ, ◌-◌, ◌≤◌, ◌<◌, length, get_or, take, drop}
use Rattle.icgem_words.specs.Words.{is_line_end, is_blank, words}

-- the bytes from a place up to another: the list of `&text[from..to]`
abbrev pub part : ℕ → ℕ → List ℕ → List ℕ
part from to text = take (to - from) (drop from text)

unfoldable pub all_of : (ℕ → Bool) → List ℕ → Bool
all_of test [] = true
all_of test (b ∷ text) = test b && all_of test text

abbrev pub none_of : (ℕ → Bool) → List ℕ → Bool
none_of test text = all_of (λ b. not (test b)) text

abbrev pub is_empty : {A : Type 0} → List A → Bool
is_empty [] = true
is_empty (x ∷ xs) = false

-- a piece in front of others, where it is not empty
abbrev pub ahead : {A : Type 0} → List A → List (List A) → List (List A)
ahead piece others = cond (is_empty piece) others (piece ∷ others)

-- a run of bytes that pass a test: `to` is the first place, at or after `from`, whose byte fails it, or the text's end
pub record Run (test : ℕ → Bool) (text : List ℕ) (from to : ℕ) : Type 0 where
  pub low : from ≤ to
  pub within : to ≤ length text
  pub passed : all_of test (part from to text) ≡ true
  pub stops : to < length text → test (get_or text to 0) ≡ false

-- the same of a test that answers `true` at the byte that ends the run, said by its answers
pub record RunTo (ends : ℕ → Bool → Type 0) (text : List ℕ) (from to : ℕ) : Type 0 where
  pub low : from ≤ to
  pub within : to ≤ length text
  pub passed : (k : ℕ) → from ≤ k → k < to → ends (get_or text k 0) false
  pub stops : to < length text → ends (get_or text to 0) true

abbrev pub in_line : ℕ → Bool
in_line b = not (is_line_end b)

abbrev pub in_word : ℕ → Bool
in_word b = not (is_blank b)

-- the first word at or after a place; where there is none, both ends are the line's
pub record NextWord (line : List ℕ) (at from to : ℕ) : Type 0 where
  pub low : at ≤ from
  pub ordered : from ≤ to
  pub within : to ≤ length line
  pub some : from < to → words (drop at line) ≡ part from to line ∷ words (drop to line)
  pub none : to ≤ from → words (drop at line) ≡ []
  pub ended : to ≤ from → to ≡ length line
