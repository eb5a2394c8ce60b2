-- The bounds of documents 01 and 02, each as the test of a number. A direction's tolerance and a digit's range stand with their rules.
use Rattle.std.specs.Prelude.{Bool, ◌&&◌, ℕ, ◌^◌, leb, ltb, Float, ℤ, pos, nat_abs}
use Rattle.std.specs.Float.Ieee.{le, lt}
use Rattle.std.specs.Int.Signed.{le_z}
use Rattle.doubles.specs.Doubles.{number, minus_number}

-- ---- "Units and the field"
-- "A field of degree N (4 to 60)"
abbrev pub is_degree : ℕ → Bool
is_degree n = leb 4 n && leb n 60

-- "Entries may be from -2^60 to 2^60"
abbrev pub is_entry : ℤ → Bool
is_entry z = leb (nat_abs z) (2 ^ 60)

-- ---- "Step one"
-- 4: "distance outside 10^8..10^12 m"
abbrev pub is_distance : Float → Bool
is_distance r = le (number (10 ^ 8)) r && le r (number (10 ^ 12))

-- 4: "or ratio not above 0 and at most 10^6"
abbrev pub is_ratio : Float → Bool
is_ratio x = lt (number 0) x && le x (number (10 ^ 6))

-- 6: "strictly between -2^52 and 2^52"
abbrev pub is_countable : Float → Bool
is_countable x = lt (minus_number (2 ^ 52)) x && lt x (number (2 ^ 52))

-- ---- "Doodson numbers": "Doodson number above 999,999"
abbrev pub is_doodson : ℕ → Bool
is_doodson number = leb number 999999

-- ---- "Model sheet and ocean tide"
-- "Lines (1..128)"
abbrev pub is_line_count : ℕ → Bool
is_line_count n = leb 1 n && leb n 128

-- "Tides (1..32)"
abbrev pub is_tide_count : ℕ → Bool
is_tide_count n = leb 1 n && leb n 32

-- "Places (0..90)"
abbrev pub is_place_count : ℕ → Bool
is_place_count n = leb n 90

-- "six signed bytes, each -13..13"
abbrev pub is_multiplier : ℤ → Bool
is_multiplier k = leb (nat_abs k) 13

-- "absolute values in a row adding to at most 4,000,000"
abbrev pub is_row_total : ℕ → Bool
is_row_total w = leb w 4000000

-- "degree byte 1..12"
abbrev pub is_sheet_degree : ℕ → Bool
is_sheet_degree n = leb 1 n && leb n 12

-- "each within ±2^24"
abbrev pub is_coefficient : ℤ → Bool
is_coefficient z = leb (nat_abs z) (2 ^ 24)

-- ---- T-01, "Tide lines of our own"
-- "up to 64 records"
abbrev pub is_record_count : ℕ → Bool
is_record_count n = leb n 64

-- "the first 0, 1 or 2"
abbrev pub is_first_multiplier : ℤ → Bool
is_first_multiplier k = le_z (pos 0) k && le_z k (pos 2)

-- "Any absolute amplitude is at most 100,000"
abbrev pub is_amplitude : ℤ → Bool
is_amplitude a = leb (nat_abs a) 100000

-- ---- T-04, "Choosing which lines are used"
-- 14: "for a bit above 48", so bits 0 to 48
abbrev pub is_selection : ℕ → Bool
is_selection selection = ltb selection (2 ^ 49)

-- ---- T-05, "Solid pole tide"
-- 15: an offset not "within ±1,000,000"
abbrev pub is_pole_offset : ℤ → Bool
is_pole_offset offset = leb (nat_abs offset) 1000000
