-- Document 01, "Phase, sine and cosine": the exact counterpart, for the error bound. All fractions are cleared over one denominator:
-- 2^30 times the exact sine of a phase t is exact_sin t / scale, and so for the cosine.
use Rattle.std.specs.Prelude.{ℕ, zero, suc, ◌-◌, ◌*◌, ◌/◌, ◌^◌, ℤ, pos, ◌+ℤ◌, ◌-ℤ◌, ◌*ℤ◌}
use Rattle.wave.specs.Wave.{eighths, further}

-- "r = 2*a*pi/2^32 with pi = 3141592653589793/10^15": r = top a / bottom
unfoldable pub top : ℕ → ℕ
top a = 2 * a * 3141592653589793

unfoldable pub bottom : ℕ
bottom = 2 ^ 32 * 10 ^ 15

unfoldable pub factorial : ℕ → ℕ
factorial zero = 1
factorial (suc n) = suc n * factorial n

-- the one denominator, at r = p / q: that of r^12 / 12!
unfoldable pub denominator : ℕ → ℕ
denominator q = factorial 12 * q ^ 12

-- r^k / k! over that denominator, for k up to 12
unfoldable pub coefficient : ℕ → ℕ
coefficient k = factorial 12 / factorial k

unfoldable pub term : ℕ → ℕ → ℕ → ℤ
term p q k = pos (coefficient k * (p ^ k * q ^ (12 - k)))

-- "the sine series through r^11"
unfoldable pub sine_series : ℕ → ℕ → ℤ
sine_series p q = term p q 1 -ℤ term p q 3 +ℤ term p q 5 -ℤ term p q 7 +ℤ term p q 9 -ℤ term p q 11

-- "the cosine series through r^12"
unfoldable pub cosine_series : ℕ → ℕ → ℤ
cosine_series p q = term p q 0 -ℤ term p q 2 +ℤ term p q 4 -ℤ term p q 6 +ℤ term p q 8 -ℤ term p q 10 +ℤ term p q 12

unfoldable pub scale : ℕ
scale = denominator bottom

-- "same eighths"
unfoldable pub exact_sin : ℕ → ℤ
exact_sin t = eighths (λ a. pos (2 ^ 30) *ℤ sine_series (top a) bottom) (λ a. pos (2 ^ 30) *ℤ cosine_series (top a) bottom) t

-- "Cosine is the sine a quarter turn further on."
unfoldable pub exact_cos : ℕ → ℤ
exact_cos t = exact_sin (further t)
