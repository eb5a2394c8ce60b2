-- The steps follow the exact series from its highest order down: after each, h is within four units of 2^32 times what the series adds up to
-- from the order reached, over the term of that order.
use mathlib.Core.Path.{◌≡◌, ap}
use mathlib.Core.List.{List, [], ◌∷◌}
use Prim.Native.Nat.{ℕ, suc, ◌+◌, ◌-◌, ◌*◌, ◌/◌, ◌^◌, ◌≤◌, ◌<◌}
use native.Mathlib.Nat.{mul-le-mul, mul-le-mul_right, le_of_mul-le-mul_left, le_of_mul-le-mul_right, pow-suc}
use native.Mathlib.Omega.{arith}
use lib.Dec.{T, leb, leb→le}
use lib.IntN.{ℤ, pos, nat_abs, ◌-ℤ◌}
use Rattle.whole.proofs.Parts.{up, dn, difference}
use Rattle.wave.specs.Wave.{step, steps}
use Rattle.wave.proofs.Size.{step_size}
use Rattle.series.specs.Exact.{coefficient, term}
use Rattle.series.proofs.Near.{Near, Rounded, rounded, product_near}

-- h is within four units of 2^32 * E / T
pub record Close (h T : ℕ) (E : ℤ) : Type 0 where
  pub near : Near (4 * T) (h * T + 2 ^ 32 * dn E) (2 ^ 32 * up E)

-- ---- one step, where y is within three units of 2^32 * u / v
module _ (y u v : ℕ) (Y : Near (3 * v) (y * v) (2 ^ 32 * u)) (hy : y ≤ 2 ^ 32) (hv : 0 < v) (hu : u ≤ v) where
  quotient_small : (h d t : ℕ) → 0 < d → h ≤ 2 ^ 32 → Rounded d (y * h) t → t ≤ 2 ^ 32
  quotient_small h d t hd hh R =
      let k : 2 ^ 32 * t * d ≤ (2 ^ 64 + 2 ^ 31) * d = omega (arith, R.floor, mul-le-mul hy hh) in
      omega (arith, le_of_mul-le-mul_right k hd)

  -- from the term T to the term T', from which the series takes E
  one_step : (h d T T' : ℕ) (E : ℤ) → 2 ≤ d → h ≤ 2 ^ 32 → d * (v * T) ≡ u * T' → Close h T E → Close (step y h d) T' (pos T' -ℤ E)
  unfolding step
  one_step h d T T' E hd hh e H =
      let t : ℕ = (y * h + 2 ^ 31 * d) / (2 ^ 32 * d) in
      let R = rounded d (y * h) (omega arith) in
      let K = product_near y h d t u v T T' (up E) (dn E) 3 4 Y H.near R e hv hu hh in
      let l : (d + 14) * T' ≤ 8 * d * T' = mul-le-mul_right T' (omega arith) in
      let k : 0 < 2 * d = omega arith in
      let a : t * T' + 2 ^ 32 * dn E ≤ 2 ^ 32 * up E + 4 * T' = le_of_mul-le-mul_left {k = 2 * d} (omega (arith, K.above)) k in
      let b : 2 ^ 32 * up E ≤ t * T' + 2 ^ 32 * dn E + 4 * T' = le_of_mul-le-mul_left {k = 2 * d} (omega (arith, K.below)) k in
      let s = quotient_small h d t (omega arith) hh R in
      let w : 2 ^ 32 - t + t ≡ 2 ^ 32 = omega arith in
      let W : (2 ^ 32 - t) * T' + t * T' ≡ 2 ^ 32 * T' = omega (arith, ap (λ (z : ℕ). z * T') w) in
      let D = difference (pos T') E in
      record { near = record { above = omega (arith, a, b, D, W); below = omega (arith, a, b, D, W) } }

-- ---- the terms, at r = p / q
two_down : (p q d c c' A A' A'' : ℕ) → q * A' ≡ p * A → q * A'' ≡ p * A' → c ≡ d * c' → d * (q * q * (c' * A'')) ≡ p * p * (c * A)
two_down p q d c c' A A' A'' e f g =
    omega (arith, ap (λ (z : ℕ). d * c' * p * z) e, ap (λ (z : ℕ). d * c' * q * z) f, ap (λ (z : ℕ). p * p * A * z) g)

module _ (p q : ℕ) where
  abbrev pub size : ℕ → ℕ
  size k = nat_abs (term p q k)

  -- r^(k + 1) is r times r^k
  pub powers : (k : ℕ) → k < 12 → q * (p ^ suc k * q ^ (12 - suc k)) ≡ p * (p ^ k * q ^ (12 - k))
  powers k h =
      let e : 12 - k ≡ suc (12 - suc k) = omega arith in
      rw (e, pow-suc p k, pow-suc q (12 - suc k)) (omega arith)

  -- where d leads from the coefficient of r^(k + 2) to that of r^k, d / r^2 leads from term to term
  terms : (k d : ℕ) → suc (suc k) ≤ 12 → coefficient k ≡ d * coefficient (suc (suc k)) → d * (q * q * size (suc (suc k))) ≡ p * p * size k
  unfolding term
  terms k d h e = two_down p q d _ _ _ _ _ (powers k (omega arith)) (powers (suc k) h) e

  -- the divisors lead from the order m, from which the series adds up to E, down to the order k, from which it adds up to E'
  pub data Leads : ℕ → List ℕ → ℕ → ℤ → ℤ → Type 0 where
    done : {m : ℕ} {E : ℤ} → Leads m [] m E E
    next : {m d k : ℕ} {ds : List ℕ} {E E' : ℤ} → T (leb 2 d) → coefficient m ≡ d * coefficient (suc (suc m))
        → Leads m ds k (pos (size m) -ℤ E) E' → Leads (suc (suc m)) (d ∷ ds) k E E'

-- ---- all the steps
module _ (p q y : ℕ) (Y : Near (3 * (q * q)) (y * (q * q)) (2 ^ 32 * (p * p))) (hy : y ≤ 2 ^ 32) (hq : 0 < q * q) (hp : p * p ≤ q * q) where
  pub along : {m k : ℕ} {ds : List ℕ} {E E' : ℤ} (h : ℕ) → m ≤ 12 → Leads p q m ds k E E' → h ≤ 2 ^ 32
      → Close h (size p q m) E → Close (steps y h ds) (size p q k) E'
  unfolding steps
  along h l done hh H = H
  along h l (next {m} {d} t e L) hh H =
      along (step y h d) (omega arith) L (step_size y h d)
      (one_step y (p * p) (q * q) Y hy hq hp h d (size p q (suc (suc m))) (size p q m) _ (leb→le 2 d t) hh (terms p q m d l e) H)
