-- Whole numbers and decimals of a gravity field file (document 02, T-10: "each decimal taken exactly and rounded once to nearest").
use Rattle.std.specs.Prelude.{◌≡◌, ℕ, ◌+◌, ◌-◌, ◌*◌, ◌^◌, Bool, true, false, cond, not, ◌&&◌, ◌||◌, List, [], ◌∷◌, ◌++◌, length, ℤ, ◌==◌, nat_le, ◌<◌, slice_index_or, unsigned_abs, Option, Some, None, Result, Ok, Err, SomeIff}
use Rattle.whole.specs.Nearest.{signed, nearest}
use Rattle.icgem_words.specs.Words.{pieces}
use Rattle.icgem_decimal.specs.declared.Decimal.{Decimal}
use Rattle.icgem_decimal.specs.declared.WholeError.{WholeError}
use Rattle.icgem_decimal.specs.declared.WholeError.TheVariants.{NotWhole, TooLarge}

-- ---- Whole numbers: one or more digits and nothing else
-- the digits 0 to 9 are the bytes 48 to 57
abbrev pub is_digit : ℕ → Bool
is_digit b = nat_le 48 b && nat_le b 57

unfoldable pub all_digits : List ℕ → Bool
all_digits [] = true
all_digits (b ∷ text) = is_digit b && all_digits text

unfoldable pub is_empty : List ℕ → Bool
is_empty [] = true
is_empty (b ∷ text) = false

unfoldable pub is_whole : List ℕ → Bool
is_whole text = not (is_empty text) && all_digits text

-- digits read on from a number: ten times it, and the next digit
unfoldable pub read_on : ℕ → List ℕ → ℕ
read_on n [] = n
read_on n (b ∷ text) = read_on (10 * n + (b - 48)) text

-- the number that digits write, of any length; leading zeros change nothing
abbrev pub value_of : List ℕ → ℕ
value_of text = read_on 0 text

-- ---- Decimals: a sign or none, digits with a dot or none, then nothing, or E, e, D or d and a whole number with a sign or none
-- E, e, D, d
abbrev pub is_letter : ℕ → Bool
is_letter b = (b == 69 || b == 101) || (b == 68 || b == 100)

abbrev pub is_dot : ℕ → Bool
is_dot b = b == 46

-- '+' is 43, '-' is 45
unfoldable pub is_minus : List ℕ → Bool
is_minus [] = false
is_minus (b ∷ text) = b == 45

unfoldable pub unsigned : List ℕ → List ℕ
unsigned [] = []
unsigned (b ∷ text) = cond (b == 43 || b == 45) text (b ∷ text)

-- what stands before the letter, without its sign; and after it, with its sign
abbrev pub mantissa : List ℕ → List ℕ
mantissa word = unsigned (slice_index_or (pieces is_letter word) 0 [])

abbrev pub exponent : List ℕ → List ℕ
exponent word = slice_index_or (pieces is_letter word) 1 []

-- the digits before the dot, and after it
abbrev pub whole_digits : List ℕ → List ℕ
whole_digits word = slice_index_or (pieces is_dot (mantissa word)) 0 []

abbrev pub fraction_digits : List ℕ → List ℕ
fraction_digits word = slice_index_or (pieces is_dot (mantissa word)) 1 []

-- no exponent, or one that is a whole number after its sign
unfoldable pub is_exponent : List ℕ → Bool
is_exponent word =
    (length (pieces is_letter word) == 1)
    || (length (pieces is_letter word) == 2 && is_whole (unsigned (exponent word)))

-- digits with at most one dot among, before or behind them, and one digit at least
unfoldable pub is_mantissa : List ℕ → Bool
is_mantissa word =
    nat_le (length (pieces is_dot (mantissa word))) 2
    && is_whole (whole_digits word ++ fraction_digits word)

abbrev pub is_decimal : List ℕ → Bool
is_decimal word = is_exponent word && is_mantissa word

-- ten is raised to the exponent, or divides by it
unfoldable pub exponent_up : List ℕ → ℕ
exponent_up word = cond (is_minus (exponent word)) 0 (value_of (unsigned (exponent word)))

unfoldable pub exponent_down : List ℕ → ℕ
exponent_down word = cond (is_minus (exponent word)) (value_of (unsigned (exponent word))) 0

-- the whole number of units of 10^-places that is nearest the decimal's exact value, which is
-- ± digits * 10^exponent_up / 10^(digits after the dot + exponent_down)
unfoldable pub in_units : ℕ → List ℕ → ℤ
in_units places word =
    nearest
    (signed (is_minus word) (value_of (whole_digits word ++ fraction_digits word) * 10 ^ (places + exponent_up word)))
    (10 ^ (length (fraction_digits word) + exponent_down word))

-- ---- What the functions answer
-- a number, told where it is below 2^64
abbrev pub Held : Option ℕ → ℕ → Type 0
Held number n = SomeIff number (n < 2 ^ 64) n

-- a word's whole number, where the word is one
abbrev pub WholeTaken : List ℕ → Result ℕ WholeError → Type 0
WholeTaken word (Ok number) = (is_whole word ≡ true) × Held (Some number) (value_of word)
WholeTaken word (Err NotWhole) = is_whole word ≡ false
WholeTaken word (Err TooLarge) = (is_whole word ≡ true) × Held None (value_of word)

-- a word's decimal in units of 10^-places, where the word is one
abbrev pub Taken : ℕ → List ℕ → Option Decimal → Type 0
Taken places word None = is_decimal word ≡ false
Taken places word (Some d) =
    (is_decimal word ≡ true)
    × (Held d.size (unsigned_abs (in_units places word))
    × ((size : ℕ) → d.size ≡ Some size → in_units places word ≡ signed d.negative size))
