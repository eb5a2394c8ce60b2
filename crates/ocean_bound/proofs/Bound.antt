-- Each correction lies within its place's own bound of the exact sum, and that bound is at most nine counts for every accepted sheet.
use mathlib.Core.Bool.{Bool, true, false, cond}
use mathlib.Core.List.{List}
use mathlib.Core.Path.{◌≡◌, refl, sym, subst}
use Prim.Native.Nat.{ℕ, zero, suc, ◌+◌, ◌*◌, ◌^◌, ◌≤◌, ◌<◌, zero-le}
use native.Mathlib.Nat.{mul-le-mul, mul-le-mul_right}
use native.Mathlib.Omega.{arith}
use lib.IntN.{ℤ, pos, nat_abs, ◌+ℤ◌, ◌-ℤ◌, ◌*ℤ◌, *ℤ_comm, zero-*ℤ}
use Rattle.arguments.specs.declared.Phases.{Phases}
use Rattle.choices.specs.declared.Frame.{Frame}
use Rattle.ocean.specs.Ocean.{d_c, d_s}
use Rattle.places.specs.Places.{place_sum, skipped, unless_skipped, correction}
use Rattle.series.specs.Exact.{scale}
use Rattle.series.proofs.Sums.{sines_near, cosines_near, pairs_near}
use Rattle.sheet.specs.Accepted.{own_refusal}
use Rattle.sheet.specs.Sheet.{line_count, tide_count, place_count, admittance, degree, c_cos, s_cos, c_sin, s_sin, coefficient}
use Rattle.sheet.proofs.Acceptance.{Accepted, accepted}
use Rattle.tides.specs.Tides.{line_phase, line_sum, factor, fcos, fsin}
use Rattle.whole.specs.Nearest.{nearest}
use Rattle.whole.specs.Sum.{sum_to, weight_to}
use Rattle.whole.proofs.Running.{weight_size}
use Rattle.whole.proofs.Sums.{sum_same}
use Rattle.whole.proofs.Within.{Within, within_nearest}
use Rattle.ocean_bound.specs.Exact.{exact_fcos, exact_fsin, parts_of_a_count, exact_sum, AtMostNineCounts, CloseToExact, row_weight, factor_error, fitted_bound}

-- ---- a tide's factors: half a unit of their own, and two for each admittance in ones
own_error : (s : List ℕ) (k : ℕ) → 500000 * scale + row_weight s k * (2 * scale) ≡ factor_error s k * scale
unfolding factor_error
own_error s k = omega arith

fcos_near : (s : List ℕ) (phases : Phases) (k : ℕ) → Within (10 ^ 6 * scale) (factor_error s k * scale) (fcos s phases k) (exact_fcos s phases k)
unfolding fcos factor line_sum exact_fcos
fcos_near s phases k =
    subst (λ (e : ℕ). Within (10 ^ 6 * scale) e (fcos s phases k) (exact_fcos s phases k)) (own_error s k)
    (within_nearest 500000 (omega arith) (cosines_near (line_phase s phases) (line_count s) (admittance s k)))

fsin_near : (s : List ℕ) (phases : Phases) (k : ℕ) → Within (10 ^ 6 * scale) (factor_error s k * scale) (fsin s phases k) (exact_fsin s phases k)
unfolding fsin factor line_sum exact_fsin
fsin_near s phases k =
    subst (λ (e : ℕ). Within (10 ^ 6 * scale) e (fsin s phases k) (exact_fsin s phases k)) (own_error s k)
    (within_nearest 500000 (omega arith) (sines_near (line_phase s phases) (line_count s) (admittance s k)))

-- what is skipped has no error
nothing : (u e : ℕ) → nat_abs (pos 0 *ℤ pos u -ℤ pos 0) ≤ e
nothing u e = subst (λ (z : ℤ). nat_abs (z -ℤ pos 0) ≤ e) (sym (zero-*ℤ (pos u))) zero-le

-- ---- a place: its counts times the factors' errors, and half a count
module _ (s : List ℕ) (phases : Phases) (p q j : ℕ) where
  abbrev cos_count : ℕ → ℤ
  cos_count k = coefficient s j k p

  abbrev sin_count : ℕ → ℤ
  sin_count k = coefficient s j k q

  turned : (C S : ℕ → ℤ) → sum_to (λ k. cos_count k *ℤ C k +ℤ sin_count k *ℤ S k) (tide_count s) ≡ place_sum s C S p q j
  unfolding place_sum
  turned C S =
      sum_same (λ k. cos_count k *ℤ C k +ℤ sin_count k *ℤ S k) (λ k. C k *ℤ cos_count k +ℤ S k *ℤ sin_count k) (tide_count s)
      (λ k h. rw (*ℤ_comm (cos_count k) (C k), *ℤ_comm (sin_count k) (S k)))

  errors : (n : ℕ) → weight_to (λ k. pos (nat_abs (cos_count k) * (factor_error s k * scale) + nat_abs (sin_count k) * (factor_error s k * scale))) n
      ≡ weight_to (λ k. pos ((nat_abs (cos_count k) + nat_abs (sin_count k)) * (factor_error s k * scale))) n
  unfolding weight_to
  errors zero = refl
  errors (suc n) = omega (arith, errors n)

  sum_within : Within (10 ^ 6 * scale) (weight_to (λ k. pos ((nat_abs (cos_count k) + nat_abs (sin_count k)) * (factor_error s k * scale))) (tide_count s))
      (place_sum s (fcos s phases) (fsin s phases) p q j) (place_sum s (exact_fcos s phases) (exact_fsin s phases) p q j)
  sum_within =
      rw (← errors (tide_count s), ← turned (fcos s phases) (fsin s phases), ← turned (exact_fcos s phases) (exact_fsin s phases))
      (pairs_near (tide_count s) cos_count (λ k h. fcos_near s phases k) sin_count (λ k h. fsin_near s phases k))

  -- for any sheet, phases and frame, at every place
  pub within_fitted_bound : (frame : Frame)
      → nat_abs (correction s frame (fcos s phases) (fsin s phases) p q j *ℤ pos parts_of_a_count -ℤ exact_sum s phases frame p q j) ≤ fitted_bound s p q j
  unfolding correction unless_skipped exact_sum fitted_bound parts_of_a_count
  within_fitted_bound frame = by_test (skipped frame (degree s j))
    where
      sum : ℤ
      sum = place_sum s (fcos s phases) (fsin s phases) p q j

      exact : ℤ
      exact = place_sum s (exact_fcos s phases) (exact_fsin s phases) p q j

      by_test : (t : Bool) → nat_abs (cond t (pos 0) (nearest sum (2 ^ 30)) *ℤ pos (2 ^ 30 * (10 ^ 6 * scale)) -ℤ cond t (pos 0) exact)
          ≤ 2 ^ 29 * (10 ^ 6 * scale) + weight_to (λ k. pos ((nat_abs (cos_count k) + nat_abs (sin_count k)) * (factor_error s k * scale))) (tide_count s)
      by_test true = nothing (2 ^ 30 * (10 ^ 6 * scale)) _
      by_test false = (within_nearest (2 ^ 29) (omega arith) sum_within).off

  skipped_none : (frame : Frame) → skipped frame (degree s j) ≡ true
      → (correction s frame (fcos s phases) (fsin s phases) p q j ≡ pos 0) × (exact_sum s phases frame p q j ≡ pos 0)
  unfolding correction unless_skipped exact_sum
  skipped_none frame e = (rw e refl, rw e refl)

-- ---- nine counts, for every accepted sheet: 32 tides of at most (2^24 + 2^24)*(8 + 1/2)/2^30 counts, and a half
module _ {s : List ℕ} (A : Accepted s) (p q j : ℕ) (gp : p < 4) (gq : q < 4) (h : j < place_count s) where
  tide_error : (k : ℕ) → k < tide_count s
      → nat_abs (pos ((nat_abs (coefficient s j k p) + nat_abs (coefficient s j k q)) * (factor_error s k * scale))) ≤ 2 ^ 25 * (8500000 * scale)
  unfolding factor_error
  tide_error k l =
      let counts = (A.places j h).tide k l in
      let both : nat_abs (coefficient s j k p) + nat_abs (coefficient s j k q) ≤ 2 ^ 25 = omega (arith, counts.small p gp, counts.small q gq) in
      let row : 2 * row_weight s k + 500000 ≤ 8500000 = omega (arith, A.row k l) in
      mul-le-mul both (mul-le-mul_right scale row)

  pub fitted_at_most_nine : fitted_bound s p q j ≤ 9 * parts_of_a_count
  unfolding fitted_bound parts_of_a_count
  fitted_at_most_nine =
      let tides : weight_to (λ k. pos ((nat_abs (coefficient s j k p) + nat_abs (coefficient s j k q)) * (factor_error s k * scale))) (tide_count s)
      ≤ tide_count s * (2 ^ 25 * (8500000 * scale)) =
      weight_size _ (2 ^ 25 * (8500000 * scale)) (tide_count s) tide_error in
      omega (arith, mul-le-mul_right (2 ^ 25 * (8500000 * scale)) A.shape.tides_most)

module _ (s : List ℕ) (passed : own_refusal s ≡ 0) (phases : Phases) (frame : Frame) where
  nine : (j : ℕ) → j < place_count s → (p q : ℕ) → p < 4 → q < 4 → AtMostNineCounts (correction s frame (fcos s phases) (fsin s phases) p q j) (exact_sum s phases frame p q j)
  unfolding AtMostNineCounts
  nine j h p q gp gq = omega (arith, within_fitted_bound s phases p q j frame, fitted_at_most_nine (accepted s passed) p q j gp gq h)

  pub close_to_exact : CloseToExact s phases frame
  unfolding d_c d_s
  close_to_exact = record {
    c = λ j h. nine j h c_cos c_sin (omega arith) (omega arith);
    s = λ j h. nine j h s_cos s_sin (omega arith) (omega arith);
    skipped_c = λ j e. skipped_none s phases c_cos c_sin j frame e;
    skipped_s = λ j e. skipped_none s phases s_cos s_sin j frame e;
  }
