-- Text as the list of its bytes: quoted words, and numbers in decimal.
use Rattle.std.specs.Prelude.{Bool, true, false, List, [], ◌∷◌, ◌++◌, ℕ, zero, suc, ◌+◌, ◌-◌, ◌/◌, ◌%◌, ◌^◌, ltb, ℤ, pos, negsuc, length, replicate}
use Prim.Native.Char.{code}
use Prim.Native.String.{String}
use Prim.Native.String as string

-- the ASCII codes of a quoted text
unfoldable pub ascii : String → List ℕ
ascii string.[] = []
ascii (string.◌∷◌ c s) = code c ∷ ascii s

-- a digit, 0 being 48
abbrev pub digit : ℕ → ℕ
digit d = 48 + d

-- n in decimal: one digit where n is below 10, else n / 10 in decimal and then the digit n % 10. The Bool says whether n is below 10;
-- the steps left fall at each digit, and n of them are enough.
unfoldable pub digits : ℕ → Bool → ℕ → List ℕ
digits zero below n = digit n ∷ []
digits (suc steps) true n = digit n ∷ []
digits (suc steps) false n = digits steps (ltb (n / 10) 10) (n / 10) ++ (digit (n % 10) ∷ [])

unfoldable pub decimal : ℕ → List ℕ
decimal n = digits n (ltb n 10) n

-- a minus sign before a negative number; negsuc n is -(n + 1)
unfoldable pub number : ℤ → List ℕ
number (pos n) = decimal n
number (negsuc n) = ascii "-" ++ decimal (suc n)

-- the last digits of n, as many as are asked for, leading zeros kept
unfoldable pub last_digits : ℕ → ℕ → List ℕ
last_digits zero n = []
last_digits (suc count) n = last_digits count (n / 10) ++ (digit (n % 10) ∷ [])

-- n / 10^decimals, each decimal written
unfoldable pub fixed_point : ℕ → ℕ → List ℕ
fixed_point decimals n = decimal (n / 10 ^ decimals) ++ ascii "." ++ last_digits decimals n

-- a minus sign, or none
unfoldable pub sign : Bool → List ℕ
sign true = ascii "-"
sign false = []

-- spaces, as many as are asked for
abbrev pub spaces : ℕ → List ℕ
spaces count = replicate count 32

-- a text at the end of so many columns, spaces before it
unfoldable pub padded : ℕ → List ℕ → List ℕ
padded columns text = spaces (columns - length text) ++ text
