-- Document 01, "Model sheet and ocean tide" and refusals 7, 8 and 9, and document 02, T-09, refusal 16: the sheet that is accepted.
use Rattle.std.specs.Prelude.{Bool, cond, not, ◌&&◌, ◌||◌, List, ℕ, ◌+◌, ◌-◌, leb, ltb, eqb, nat_abs, ◌-ℤ◌, length}
use Rattle.limits.specs.Limits.{is_line_count, is_tide_count, is_place_count, is_multiplier, is_row_total, is_sheet_degree, is_coefficient}
use Rattle.refusals.specs.Outcome.{first_of}
use Rattle.whole.specs.Sum.{weight_to, all_to}
use Rattle.sheet.specs.Sheet.{line_count, tide_count, place_count, sheet_end, multiplier, admittance, degree, order, s_cos, s_sin, coefficient}

-- ---- 7: "a section count outside its range, or length not exact"
-- "Lines (1..128)", "Tides (1..32)", "Places (0..90)", "nothing after"
unfoldable pub shaped : List ℕ → Bool
shaped s =
    is_line_count (line_count s)
    && is_tide_count (tide_count s)
    && is_place_count (place_count s)
    && eqb (length s) (sheet_end s)

-- ---- 8: "a value or a row's total of absolute values out of range, an S not zero at order 0, or places not ascending"
-- "six signed bytes, each -13..13"
unfoldable pub line_valid : List ℕ → ℕ → Bool
line_valid s f = all_to (λ i. is_multiplier (multiplier s f i)) 6

-- "absolute values in a row adding to at most 4,000,000"
unfoldable pub row_valid : List ℕ → ℕ → Bool
row_valid s k = is_row_total (weight_to (admittance s k) (line_count s))

-- "then per tide four signed 32-bit counts, C cos, S cos, C sin, S sin, each within ±2^24": tide k of place j
unfoldable pub counts_valid : List ℕ → ℕ → ℕ → Bool
counts_valid s j k = all_to (λ q. is_coefficient (coefficient s j k q)) 4

-- "the S ones zero"
unfoldable pub s_zero : List ℕ → ℕ → ℕ → Bool
s_zero s j k = eqb (nat_abs (coefficient s j k s_cos)) 0 && eqb (nat_abs (coefficient s j k s_sin)) 0

-- "degree byte 1..12, order byte at most the degree; then per tide four signed 32-bit counts; the S ones zero at order 0"
unfoldable pub place_valid : List ℕ → ℕ → Bool
place_valid s j =
    is_sheet_degree (degree s j)
    && leb (order s j) (degree s j)
    && all_to (counts_valid s j) (tide_count s)
    && (ltb 0 (order s j) || all_to (s_zero s j) (tide_count s))

-- "strictly ascending by degree then order"
unfoldable pub precedes : List ℕ → ℕ → ℕ → Bool
precedes s i j = ltb (degree s i) (degree s j) || eqb (degree s i) (degree s j) && ltb (order s i) (order s j)

unfoldable pub ascending : List ℕ → Bool
ascending s = all_to (λ j. precedes s j (j + 1)) (place_count s - 1)

unfoldable pub valid : List ℕ → Bool
valid s = all_to (line_valid s) (line_count s) && all_to (row_valid s) (tide_count s) && all_to (place_valid s) (place_count s) && ascending s

-- ---- 16: "the same six multipliers in two rows", "wherever the two rows stand"
unfoldable pub twins : List ℕ → ℕ → ℕ → Bool
twins s e f = all_to (λ i. eqb (nat_abs (multiplier s e i -ℤ multiplier s f i)) 0) 6

-- of any two lines, one is the other or they are no twins
unfoldable pub untwinned : List ℕ → Bool
untwinned s = all_to (λ e. all_to (λ f. eqb e f || not (twins s e f)) (line_count s)) (line_count s)

-- ---- 9: "a place of degree above N"
unfoldable pub reached : List ℕ → ℕ → Bool
reached s n = all_to (λ j. leb (degree s j) n) (place_count s)

-- ---- "The lowest number that applies to a call is answered", but 16 "after 8 and before 9"; 0 where none does
-- what refuses a sheet by itself
unfoldable pub own_refusal : List ℕ → ℕ
own_refusal s = cond (shaped s) (cond (valid s) (cond (untwinned s) 0 16) 8) 7

-- what refuses it for a field of degree n
unfoldable pub sheet_refusal : List ℕ → ℕ → ℕ
sheet_refusal s n = first_of (own_refusal s) (cond (reached s n) 0 9)
