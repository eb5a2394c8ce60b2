-- The coefficient lines of a gravity field file (document 02, T-10): "gfc", degree, order, C, S, and 0, 2 or 4 error columns.
use Rattle.std.specs.Prelude.{Bool, true, false, ◌&&◌, ◌||◌, List, [], ◌∷◌, ℕ, eqb, leb, ℤ, length, get_or, drop, set}
use Rattle.field.specs.Field.{place}
use Rattle.limits.specs.Limits.{is_entry}
use Rattle.icgem_decimal.specs.Decimal.{is_whole, is_decimal, value_of, in_units}
use Rattle.icgem_names.specs.Names as names
use Rattle.icgem_words.specs.Words.{lines, words}
use Rattle.icgem_file.specs.Header.{Line, word_at, keyed}

abbrev pub degree_in : Line → ℕ
degree_in line = value_of (word_at 1 line)

abbrev pub order_in : Line → ℕ
order_in line = value_of (word_at 2 line)

-- counts: units of 10^-15
abbrev pub c_in : Line → ℤ
c_in line = in_units 15 (word_at 3 line)

abbrev pub s_in : Line → ℤ
s_in line = in_units 15 (word_at 4 line)

-- 0, 2 or 4 error columns, which are passed over
abbrev pub columned : Line → Bool
columned line = eqb (length line) 5 || (eqb (length line) 7 || eqb (length line) 9)

-- a line of a file of degree N: its order is at most its degree, and its degree at most N
unfoldable pub line_formed : ℕ → Line → Bool
line_formed n line =
    (keyed names.gfc line && columned line)
    && ((is_whole (word_at 1 line) && is_whole (word_at 2 line))
    && ((is_decimal (word_at 3 line) && is_decimal (word_at 4 line))
    && (leb (order_in line) (degree_in line) && leb (degree_in line) n)))

unfoldable pub data_formed : ℕ → List Line → Bool
data_formed n [] = true
data_formed n (line ∷ others) = line_formed n line && data_formed n others

-- 18: two lines of one place
unfoldable pub same_place : Line → Line → Bool
same_place line other = eqb (degree_in line) (degree_in other) && eqb (order_in line) (order_in other)

unfoldable pub named_in : Line → List Line → Bool
named_in line [] = false
named_in line (other ∷ others) = same_place line other || named_in line others

unfoldable pub repeated : List Line → Bool
repeated [] = false
repeated (line ∷ others) = named_in line others || repeated others

-- 19: a value outside the range
unfoldable pub all_in_range : List Line → Bool
all_in_range [] = true
all_in_range (line ∷ others) = (is_entry (c_in line) && is_entry (s_in line)) && all_in_range others

-- each line's count in its place of a list
unfoldable pub filled : (Line → ℤ) → List Line → List ℤ → List ℤ
filled count [] l = l
filled count (line ∷ others) l = filled count others (set l (place (degree_in line) (order_in line)) (count line))

-- the words of the line that starts at a place of a text
abbrev pub line_at : List ℕ → ℕ → Line
line_at text at = words (get_or (lines (drop at text)) 0 [])
