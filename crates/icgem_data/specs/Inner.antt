-- What the functions that read coefficient lines say to one another and to their callers.
use Rattle.std.specs.Prelude.{Bool, true, false, ◌&&◌, ◌||◌, List, map, ◌≡◌, ℕ, suc, ◌+◌, ◌*◌, ◌≤◌, ◌<◌, eqb, leb, ℤ, length, get_or, take, drop, set, unsigned_abs, Option, Some, MatchOption}
use Rattle.field.specs.Field.{place}
use Rattle.limits.specs.Limits.{is_entry}
use Rattle.icgem_decimal.specs.Decimal.{is_whole, is_decimal, value_of, in_units, Held}
use Rattle.icgem_decimal.specs.declared.Decimal.{Decimal}
use Rattle.icgem_data.specs.declared.Coefficients.{Coefficients}
use Rattle.icgem_data.specs.declared.Lines.{Lines}
use Rattle.whole.specs.Nearest.{signed}
use Rattle.icgem_file.specs.Header.{Line, word_at}
use Rattle.icgem_file.specs.Data.{degree_in, order_in, c_in, s_in, line_formed, data_formed, all_in_range, filled, line_at}
use Rattle.icgem_words.specs.Inner.{part}
use Rattle.icgem_words.specs.Words.{words, worded}

-- ---- Words
-- a part of a line is its word k, or empty at the line's end where there is none, and the words after it stand behind it
pub record WordIs (line : List ℕ) (k at from to : ℕ) : Type 0 where
  pub low : at ≤ from
  pub ordered : from ≤ to
  pub within : to ≤ length line
  pub word : word_at k (words line) ≡ part from to line
  pub rest : words (drop to line) ≡ drop (suc k) (words line)

-- the first five, one after the other
pub record FiveWords (line : List ℕ) (from to from1 to1 from2 to2 from3 to3 from4 to4 : ℕ) : Type 0 where
  pub word0 : WordIs line 0 0 from to
  pub word1 : WordIs line 1 to from1 to1
  pub word2 : WordIs line 2 to1 from2 to2
  pub word3 : WordIs line 3 to2 from3 to3
  pub word4 : WordIs line 4 to3 from4 to4

-- ---- Numbers
-- a decimal's count, where it is an entry
abbrev pub CountTaken : Decimal → Option ℤ → Type 0
CountTaken d result =
    (z : ℤ) → Held d.size (unsigned_abs z) → ((size : ℕ) → d.size ≡ Some size → z ≡ signed d.negative size)
    → MatchOption result (is_entry z ≡ false) (λ count. (is_entry z ≡ true) × (count ≡ z))

-- where a degree and an order stand in the lists, or past every list where the degree is above 60
pub record Stands (degree order at : ℕ) : Type 0 where
  pub here : degree ≤ 60 → at ≡ place degree order
  pub past : 60 < degree → 1891 ≤ at

-- an order up to its degree, and a degree up to the file's, of any length
abbrev pub is_place : List ℕ → List ℕ → List ℕ → Bool
is_place degree order most = (is_whole degree && is_whole order) && (leb (value_of order) (value_of degree) && leb (value_of degree) (value_of most))

abbrev pub PlaceTaken : List ℕ → List ℕ → List ℕ → Option ℕ → Type 0
PlaceTaken degree order most result =
    MatchOption result (is_place degree order most ≡ false) (λ at. (is_place degree order most ≡ true) × Stands (value_of degree) (value_of order) at)

-- two counts, where both are entries
abbrev pub CountsTaken : ℤ → ℤ → Option (ℤ × ℤ) → Type 0
CountsTaken c s counts =
    MatchOption counts ((is_entry c && is_entry s) ≡ false) (λ both. ((is_entry c && is_entry s) ≡ true) × ((both.0 ≡ c) × (both.1 ≡ s)))

-- the four numbers of a line
abbrev pub is_numbers : List ℕ → List ℕ → List ℕ → List ℕ → List ℕ → Bool
is_numbers degree order c s most =
    (is_whole degree && is_whole order) && ((is_decimal c && is_decimal s)
    && (leb (value_of order) (value_of degree) && leb (value_of degree) (value_of most)))

abbrev pub NumbersTaken : List ℕ → List ℕ → List ℕ → List ℕ → List ℕ → Option Coefficients → Type 0
NumbersTaken degree order c s most result =
    MatchOption result (is_numbers degree order c s most ≡ false)
    (λ k. (is_numbers degree order c s most ≡ true)
    × (Stands (value_of degree) (value_of order) k.place × CountsTaken (in_units 15 c) (in_units 15 s) k.counts))

-- ---- Lines
-- 0, 2 or 4 columns
abbrev pub paired : ℕ → Bool
paired n = eqb n 0 || (eqb n 2 || eqb n 4)

-- a line of a file of degree n: its place, its counts where both are in range, and its least length
pub record LineIs (n : ℕ) (line : List ℕ) (k : Coefficients) : Type 0 where
  pub formed : line_formed n (words line) ≡ true
  pub long : 7 ≤ length line
  pub stands : Stands (degree_in (words line)) (order_in (words line)) k.place
  pub counts_are : CountsTaken (c_in (words line)) (s_in (words line)) k.counts

abbrev pub LineTaken : ℕ → List ℕ → Option Coefficients → Type 0
LineTaken n line result = MatchOption result (line_formed n (words line) ≡ false) (LineIs n line)

-- a formed line, kept: its start behind the others', and its counts in their place while all are in range
pub record LineAdded (n : ℕ) (line : List ℕ) (at : ℕ) (before : Lines) (starts : List ℕ) (c s : List ℤ) (starts' : List ℕ) (c' s' : List ℤ) (lines : Lines) : Type 0 where
  pub formed : line_formed n (words line) ≡ true
  pub long : 7 ≤ length line
  pub inside_is : lines.inside ≡ (before.inside && (is_entry (c_in (words line)) && is_entry (s_in (words line))))
  pub count-is : lines.count ≡ before.count + 1
  pub starts_is : starts' ≡ set starts before.count at
  pub c_is : lines.inside ≡ true → c' ≡ set c (place (degree_in (words line)) (order_in (words line))) (c_in (words line))
  pub s_is : lines.inside ≡ true → s' ≡ set s (place (degree_in (words line)) (order_in (words line))) (s_in (words line))

-- a line that has a word, kept where it is formed
pub record LineKept (n : ℕ) (line : List ℕ) (at : ℕ) (before : Lines) (starts : List ℕ) (c s : List ℤ) (result : Option Lines) (starts' : List ℕ) (c' s' : List ℤ) : Type 0 where
  pub told : MatchOption result (line_formed n (words line) ≡ false) (LineAdded n line at before starts c s starts' c' s')
  pub starts_room : length starts' ≡ length starts
  pub c-room : length c' ≡ length c
  pub s-room : length s' ≡ length s

-- ---- The pass
-- lines of a text, by their starts, with what they put into two lists where all their counts are in range
pub record LinesKept (text : List ℕ) (ls : List Line) (inside : Bool) (count : ℕ) (starts : List ℕ) (c s c' s' : List ℤ) : Type 0 where
  pub few : 8 * count ≤ length text + 1
  pub lines_are : map (line_at text) (take count starts) ≡ ls
  pub within : (k : ℕ) → k < count → get_or starts k 0 ≤ length text
  pub inside_is : inside ≡ all_in_range ls
  pub c_is : inside ≡ true → c' ≡ filled c_in ls c
  pub s_is : inside ≡ true → s' ≡ filled s_in ls s

-- the lines from a place on, where all are coefficient lines of a file of degree n
pub record LinesRead (text : List ℕ) (from n : ℕ) (starts : List ℕ) (c s : List ℤ) (result : Option Lines) (starts' : List ℕ) (c' s' : List ℤ) : Type 0 where
  pub told :
      MatchOption result (data_formed n (worded (drop from text)) ≡ false)
      (λ lines. (data_formed n (worded (drop from text)) ≡ true) × LinesKept text (worded (drop from text)) lines.inside lines.count starts' c s c' s')
  pub starts_room : length starts' ≡ length starts
  pub c-room : length c' ≡ length c
  pub s-room : length s' ≡ length s
