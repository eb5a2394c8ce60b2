-- Document 02, T-05, "Solid pole tide", and beside it 001, "Solid Earth Pole Tide".
use Rattle.std.specs.Prelude.{◌&&◌, cond, ℕ, ◌*◌, ◌^◌, ◌≤◌, ℤ, pos, neg_ℤ, nat_abs, ◌+ℤ◌, ◌-ℤ◌, ◌*ℤ◌}
use Rattle.choices.specs.declared.LoveModel.{LoveModel}
use Rattle.choices.specs.declared.LoveModel.TheVariants.{Elastic, Anelastic}
use Rattle.limits.specs.Limits.{is_pole_offset}
use Rattle.whole.specs.Nearest.{nearest}
use Rattle.pole.specs.declared.Corrections.{Corrections}
use Rattle.pole.specs.Fractions.{Fraction, ◌over◌, minus, ◌times◌, ◌plus◌, ◌less◌}

-- "15 for an offset out of range"
unfoldable pub offsets_refusal : ℤ → ℤ → ℕ
offsets_refusal xp yp = cond (is_pole_offset xp && is_pole_offset yp) 0 15

-- ---- T-05: counts, of xp and yp in micro-arcseconds
-- "Elastic: -1290*xp/1000", "Anelastic: -1348*(10000*xp + 112*yp)/10^7"
unfoldable pub exact_c21 : LoveModel → ℤ → ℤ → Fraction
exact_c21 Elastic xp yp = neg_ℤ (pos 1290) *ℤ xp over 1000
exact_c21 Anelastic xp yp = neg_ℤ (pos 1348) *ℤ (pos 10000 *ℤ xp +ℤ pos 112 *ℤ yp) over 10 ^ 7

-- "and 1290*yp/1000", "and 1348*(10000*yp - 112*xp)/10^7"
unfoldable pub exact_s21 : LoveModel → ℤ → ℤ → Fraction
exact_s21 Elastic xp yp = pos 1290 *ℤ yp over 1000
exact_s21 Anelastic xp yp = pos 1348 *ℤ (pos 10000 *ℤ yp -ℤ pos 112 *ℤ xp) over 10 ^ 7

-- "One rounding each."
abbrev pub rounded : Fraction → ℤ
rounded exact = nearest exact.number exact.divisor

unfoldable pub corrections : ℤ → ℤ → LoveModel → Corrections
corrections xp yp love = record { c21 = rounded (exact_c21 love xp yp); s21 = rounded (exact_s21 love xp yp) }

-- a correction at most half a count from its exact fraction
abbrev pub WithinHalfACount : ℤ → Fraction → Type 0
WithinHalfACount d exact = 2 * nat_abs (d *ℤ pos exact.divisor -ℤ exact.number) ≤ exact.divisor

-- ---- 001: the coefficients themselves, of xp and yp "in seconds of arc"
-- "-1.290 x 10^-9 (xp)", "-1.348 x 10^-9 (xp + 0.0112 yp)"
unfoldable pub printed_c21 : LoveModel → Fraction → Fraction → Fraction
printed_c21 Elastic xp yp = minus ((pos 1290 over 10 ^ 12) times xp)
printed_c21 Anelastic xp yp = minus ((pos 1348 over 10 ^ 12) times (xp plus (pos 112 over 10 ^ 4) times yp))

-- "1.290 x 10^-9 (yp)", "1.348 x 10^-9 (yp - 0.0112 xp)"
unfoldable pub printed_s21 : LoveModel → Fraction → Fraction → Fraction
printed_s21 Elastic xp yp = (pos 1290 over 10 ^ 12) times yp
printed_s21 Anelastic xp yp = (pos 1348 over 10 ^ 12) times (yp less (pos 112 over 10 ^ 4) times xp)

abbrev pub arcseconds : ℤ → Fraction
arcseconds offset = offset over 10 ^ 6

-- a count is 10^-15
abbrev pub in_counts : Fraction → Fraction
in_counts a = a times (pos (10 ^ 15) over 1)
