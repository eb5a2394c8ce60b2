-- How far sums of coefficients times sines and cosines, for any coefficients and any phases, are from the exact ones.
-- `within_nearest` takes each of them on to the nearest of a quotient.
use mathlib.Core.Path.{◌≡◌}
use Prim.Native.Nat.{ℕ, zero, suc, ◌+◌, ◌*◌, ◌<◌}
use native.Mathlib.Omega.{arith}
use lib.IntN.{ℤ, pos, nat_abs, ◌+ℤ◌, ◌*ℤ◌}
use Rattle.whole.specs.Sum.{sum_to, weight_to}
use Rattle.wave.specs.Wave.{sin, cos}
use Rattle.series.specs.Exact.{scale, exact_sin, exact_cos}
use Rattle.whole.proofs.Within.{Within, within_plus, within_times, within_sum}
use Rattle.series.proofs.Bound.{sin_near, cos_near}

weight_times : (a : ℕ → ℤ) (e n : ℕ) → weight_to (λ i. pos (nat_abs (a i) * e)) n ≡ weight_to a n * e
unfolding weight_to
weight_times a e zero = omega arith
weight_times a e (suc n) = omega (arith, weight_times a e n)

weight_pairs : (a b : ℕ → ℤ) (e n : ℕ) → weight_to (λ i. pos (nat_abs (a i) * e + nat_abs (b i) * e)) n ≡ (weight_to a n + weight_to b n) * e
unfolding weight_to
weight_pairs a b e zero = omega arith
weight_pairs a b e (suc n) = omega (arith, weight_pairs a b e n)

-- ---- factors w and z that each have an error of their own, be they sines or rounded sums of sines
module _ {d : ℕ} {e : ℕ → ℕ} {w x : ℕ → ℤ} (n : ℕ) (a : ℕ → ℤ) (near : (i : ℕ) → i < n → Within d (e i) (w i) (x i)) where
  -- the sum of a * w
  pub products_near : Within d (weight_to (λ i. pos (nat_abs (a i) * e i)) n) (sum_to (λ i. a i *ℤ w i) n) (sum_to (λ i. a i *ℤ x i) n)
  products_near = within_sum n (λ i l. within_times (a i) (near i l))

  -- the sum of a * w + b * z
  pub pairs_near : {z y : ℕ → ℤ} (b : ℕ → ℤ) → ((i : ℕ) → i < n → Within d (e i) (z i) (y i))
      → Within d (weight_to (λ i. pos (nat_abs (a i) * e i + nat_abs (b i) * e i)) n)
      (sum_to (λ i. a i *ℤ w i +ℤ b i *ℤ z i) n)
      (sum_to (λ i. a i *ℤ x i +ℤ b i *ℤ y i) n)
  pairs_near b near' = within_sum n (λ i l. within_plus (within_times (a i) (near i l)) (within_times (b i) (near' i l)))

-- ---- sines and cosines
module _ (phase : ℕ → ℕ) (n : ℕ) where
  sin_each : (i : ℕ) → i < n → Within scale (2 * scale) (sin (phase i)) (exact_sin (phase i))
  sin_each i l = record { off = sin_near (phase i) }

  cos_each : (i : ℕ) → i < n → Within scale (2 * scale) (cos (phase i)) (exact_cos (phase i))
  cos_each i l = record { off = cos_near (phase i) }

module _ (phase : ℕ → ℕ) (n : ℕ) (a : ℕ → ℤ) where
  pub sines_near : Within scale (weight_to a n * (2 * scale)) (sum_to (λ i. a i *ℤ sin (phase i)) n) (sum_to (λ i. a i *ℤ exact_sin (phase i)) n)
  sines_near = rw (← weight_times a (2 * scale) n) (products_near n a (sin_each phase n))

  pub cosines_near : Within scale (weight_to a n * (2 * scale)) (sum_to (λ i. a i *ℤ cos (phase i)) n) (sum_to (λ i. a i *ℤ exact_cos (phase i)) n)
  cosines_near = rw (← weight_times a (2 * scale) n) (products_near n a (cos_each phase n))

  -- both kinds, the cosine with a and the sine with b
  pub waves_near : (b : ℕ → ℤ) → Within scale ((weight_to a n + weight_to b n) * (2 * scale))
      (sum_to (λ i. a i *ℤ cos (phase i) +ℤ b i *ℤ sin (phase i)) n)
      (sum_to (λ i. a i *ℤ exact_cos (phase i) +ℤ b i *ℤ exact_sin (phase i)) n)
  waves_near b = rw (← weight_pairs a b (2 * scale) n) (pairs_near n a (cos_each phase n) b (sin_each phase n))
