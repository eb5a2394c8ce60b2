-- Document 01, "Model sheet and ocean tide": what a sheet's bytes say.
use Rattle.std.specs.Prelude.{List, ℕ, ◌+◌, ◌*◌, ◌^◌, ℤ}
use Rattle.arguments.specs.declared.Multipliers.{Multipliers}
use Rattle.sheet.specs.declared.Column.{Column}
use Rattle.sheet.specs.declared.Column.TheVariants.{CCos, SCos, CSin, SSin}
use Rattle.words.specs.Words.{byte_at, half_at, word_at, twos_complement}

-- ---- "Three sections, each after its 16-bit count"
unfoldable pub line_count : List ℕ → ℕ
line_count s = half_at s 0

-- line f: six bytes
abbrev pub line_start : ℕ → ℕ
line_start f = 2 + 6 * f

abbrev pub tides_start : List ℕ → ℕ
tides_start s = line_start (line_count s)

unfoldable pub tide_count : List ℕ → ℕ
tide_count s = half_at s (tides_start s)

-- tide k: a row of one 32-bit number per line
abbrev pub row_start : List ℕ → ℕ → ℕ
row_start s k = tides_start s + 2 + 4 * (line_count s * k)

abbrev pub places_start : List ℕ → ℕ
places_start s = row_start s (tide_count s)

unfoldable pub place_count : List ℕ → ℕ
place_count s = half_at s (places_start s)

-- place j: degree byte, order byte; then per tide four 32-bit numbers
abbrev pub place_start : List ℕ → ℕ → ℕ
place_start s j = places_start s + 2 + (2 + 16 * tide_count s) * j

abbrev pub sheet_end : List ℕ → ℕ
sheet_end s = place_start s (place_count s)

-- ---- "Lines: six signed bytes": multiplier i of line f
unfoldable pub multiplier : List ℕ → ℕ → ℕ → ℤ
multiplier s f i = twos_complement (2 ^ 7) (byte_at s (line_start f + i))

-- line f's six multipliers, in the arguments' order
unfoldable pub multipliers : List ℕ → ℕ → Multipliers
multipliers s f = record { tau = multiplier s f 0; s = multiplier s f 1; h = multiplier s f 2; p = multiplier s f 3; np = multiplier s f 4; ps = multiplier s f 5 }

-- ---- "Tides: a row of one signed 32-bit admittance per line, in millionths": of tide k, at line f
unfoldable pub admittance : List ℕ → ℕ → ℕ → ℤ
admittance s k f = twos_complement (2 ^ 31) (word_at s (row_start s k + 4 * f))

-- ---- "Places: degree byte, order byte; then per tide four signed 32-bit counts, C cos, S cos, C sin, S sin"
unfoldable pub degree : List ℕ → ℕ → ℕ
degree s j = byte_at s (place_start s j)

unfoldable pub order : List ℕ → ℕ → ℕ
order s j = byte_at s (place_start s j + 1)

abbrev pub c_cos : ℕ
c_cos = 0

abbrev pub s_cos : ℕ
s_cos = 1

abbrev pub c_sin : ℕ
c_sin = 2

abbrev pub s_sin : ℕ
s_sin = 3

-- a column's number
abbrev pub column : Column → ℕ
column CCos = c_cos
column SCos = s_cos
column CSin = c_sin
column SSin = s_sin

-- of place j and tide k, in column q
unfoldable pub coefficient : List ℕ → ℕ → ℕ → ℕ → ℤ
coefficient s j k q = twos_complement (2 ^ 31) (word_at s (place_start s j + 2 + 16 * k + 4 * q))
