-- Whole numbers over whole numbers, and what is worked out with them exactly.
use Rattle.std.specs.Prelude.{◌≡◌, ℕ, ◌*◌, ℤ, pos, neg_ℤ, ◌+ℤ◌, ◌-ℤ◌, ◌*ℤ◌}

pub record Fraction : Type 0 where
  pub number : ℤ
  pub divisor : ℕ

infix 4 ◌same-as◌
infix 5 ◌over◌
infixl 6 ◌plus◌ ◌less◌
infixl 7 ◌times◌
abbrev pub ◌over◌ : ℤ → ℕ → Fraction
z over n = record { number = z; divisor = n }

abbrev pub minus : Fraction → Fraction
minus a = neg_ℤ a.number over a.divisor

abbrev pub ◌times◌ : Fraction → Fraction → Fraction
a times b = a.number *ℤ b.number over a.divisor * b.divisor

abbrev pub ◌plus◌ : Fraction → Fraction → Fraction
a plus b = a.number *ℤ pos b.divisor +ℤ b.number *ℤ pos a.divisor over a.divisor * b.divisor

abbrev pub ◌less◌ : Fraction → Fraction → Fraction
a less b = a.number *ℤ pos b.divisor -ℤ b.number *ℤ pos a.divisor over a.divisor * b.divisor

-- one number, written in two ways: by the products across
abbrev pub ◌same-as◌ : Fraction → Fraction → Type 0
a same-as b = a.number *ℤ pos b.divisor ≡ b.number *ℤ pos a.divisor
