-- Document 01, "Step one, in f64, each operation rounded once".
use Rattle.std.specs.Prelude.{Bool, true, false, ℕ, Float}
use Rattle.std.specs.Float.{binary64, float_is_finite}
use Rattle.std.specs.Float.Ieee.{round}
use Rattle.std.specs.Float.Ieee as Ieee

infixl 7 ◌*·◌ ◌/·◌
infixl 6 ◌+·◌ ◌-·◌
abbrev pub ◌*·◌ : Float → Float → Float
x *· y = Ieee.mul binary64 x y

abbrev pub ◌/·◌ : Float → Float → Float
x /· y = Ieee.div binary64 x y

abbrev pub ◌+·◌ : Float → Float → Float
x +· y = Ieee.add binary64 x y

abbrev pub ◌-·◌ : Float → Float → Float
x -· y = Ieee.sub binary64 x y

-- "Decimal constants are the f64 nearest them": the one nearest n / d, and the one nearest -n / d
abbrev pub decimal : ℕ → ℕ → Float
decimal n d = round binary64 false n d

abbrev pub minus_decimal : ℕ → ℕ → Float
minus_decimal n d = round binary64 true n d

-- a whole number
abbrev pub number : ℕ → Float
number n = decimal n 1

abbrev pub minus_number : ℕ → Float
minus_number n = minus_decimal n 1

abbrev pub finite : Float → Bool
finite = float_is_finite
