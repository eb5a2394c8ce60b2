-- Lines and words of a gravity field file (document 02, T-10). A text is the list of its bytes.
use Rattle.std.specs.Prelude.{Bool, true, false, cond, ◌&&◌, ◌||◌, List, [], ◌∷◌, map, ℕ, eqb}

-- a byte put before the first piece
unfoldable pub on_first : ℕ → List (List ℕ) → List (List ℕ)
on_first b [] = (b ∷ []) ∷ []
on_first b (piece ∷ others) = (b ∷ piece) ∷ others

-- the pieces of a text between the bytes that part it: one more than there are such bytes, and empty where two of them meet
unfoldable pub pieces : (ℕ → Bool) → List ℕ → List (List ℕ)
pieces parts [] = [] ∷ []
pieces parts (b ∷ text) = cond (parts b) ([] ∷ pieces parts text) (on_first b (pieces parts text))

-- those that are not empty
unfoldable pub nonempty : {A : Type 0} → List (List A) → List (List A)
nonempty [] = []
nonempty ([] ∷ others) = nonempty others
nonempty ((x ∷ xs) ∷ others) = (x ∷ xs) ∷ nonempty others

-- a line feed or a carriage return ends a line, so that LF, CR LF and CR alike do
abbrev pub is_line_end : ℕ → Bool
is_line_end b = eqb b 10 || eqb b 13

-- a space or a tab
abbrev pub is_blank : ℕ → Bool
is_blank b = eqb b 32 || eqb b 9

-- the last line need not be ended
abbrev pub lines : List ℕ → List (List ℕ)
lines text = pieces is_line_end text

abbrev pub words : List ℕ → List (List ℕ)
words line = nonempty (pieces is_blank line)

-- the words of each line that has one
unfoldable pub worded : List ℕ → List (List (List ℕ))
worded text = nonempty (map words (lines text))

-- two words are the same, byte by byte
unfoldable pub same_word : List ℕ → List ℕ → Bool
same_word [] [] = true
same_word [] (b ∷ v) = false
same_word (a ∷ w) [] = false
same_word (a ∷ w) (b ∷ v) = eqb a b && same_word w v
