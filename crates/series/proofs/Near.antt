-- How far a rounded product is from the exact one: the one law that carries the square, every step of the series and the last product.
use mathlib.Core.Path.{◌≡◌, ap}
use Prim.Native.Nat.{ℕ, ◌+◌, ◌*◌, ◌/◌, ◌^◌, ◌≤◌, ◌<◌}
use native.Mathlib.Nat.{mul-le-mul_right, le_of_mul-le-mul_left, div-mul-le_self, lt-div-mul-add}
use native.Mathlib.Omega.{arith}

-- a and b differ by at most e
pub record Near (e a b : ℕ) : Type 0 where
  pub above : a ≤ b + e
  pub below : b ≤ a + e

-- t is m / (2^32 * d), rounded to the nearest
pub record Rounded (d m t : ℕ) : Type 0 where
  pub floor : 2 ^ 32 * d * t ≤ m + 2 ^ 31 * d
  pub roof : m + 2 ^ 31 * d ≤ 2 ^ 32 * d * t + 2 ^ 32 * d

pub rounded : (d m : ℕ) → 0 < d → Rounded d m ((m + 2 ^ 31 * d) / (2 ^ 32 * d))
rounded d m h =
    let k : 0 < 2 ^ 32 * d = omega arith in
    record {
      floor = omega (arith, div-mul-le_self (m + 2 ^ 31 * d) (2 ^ 32 * d));
      roof = omega (arith, lt-div-mul-add {a = m + 2 ^ 31 * d} {b = 2 ^ 32 * d} k);
    }

-- Where a is within f of 2^32 * u / v, and b within g of 2^32 * (P - N) / T, the rounded a * b / (2^32 * d) is within 1/2 + (f + g) / d
-- of 2^32 * (P - N) / T', for the T' with u * T' = d * v * T.
module _
    (a b d t u v T T' P N f g : ℕ)
    (A : Near (f * v) (a * v) (2 ^ 32 * u))
    (B : Near (g * T) (b * T + 2 ^ 32 * N) (2 ^ 32 * P))
    (R : Rounded d (a * b) t)
    (E : d * (v * T) ≡ u * T')
    (hv : 0 < v)
    (hu : u ≤ v)
    (hb : b ≤ 2 ^ 32)
  where
    -- the rounding, and the error of a
    first : Near ((d + 2 * f) * (v * T')) (2 * (d * t * (v * T'))) (2 * (b * (u * T')))
    first =
        let F = mul-le-mul_right (f * v * T') hb in
        record {
          above = omega (arith, mul-le-mul_right (v * T') R.floor, mul-le-mul_right (b * T') A.above);
          below = omega (arith, mul-le-mul_right (v * T') R.roof, mul-le-mul_right (b * T') A.below);
        }

    -- and the error of b
    second : Near (v * ((d + 2 * (f + g)) * T')) (v * (2 * d * (t * T' + 2 ^ 32 * N))) (v * (2 * d * (2 ^ 32 * P)))
    second =
        let F = first in
        let U = mul-le-mul_right (g * T') hu in
        let S = ap (λ (z : ℕ). b * z) E in
        let G = ap (λ (z : ℕ). g * z) E in
        record { above = omega (arith, mul-le-mul_right (d * v) B.above); below = omega (arith, mul-le-mul_right (d * v) B.below) }

    pub product_near : Near ((d + 2 * (f + g)) * T') (2 * d * (t * T' + 2 ^ 32 * N)) (2 * d * (2 ^ 32 * P))
    product_near =
        let S = second in
        record { above = le_of_mul-le-mul_left {k = v} (omega arith) hv; below = le_of_mul-le-mul_left {k = v} (omega arith) hv }
