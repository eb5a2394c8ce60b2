-- The third demand for the ocean tide: "each ocean correction is at most nine counts from the exact sum", which is "the same sum with no rounding
-- anywhere". All fractions are cleared: what is exact is a whole number of parts of a count.
use Rattle.std.specs.Prelude.{true, List, ◌≡◌, ℕ, ◌+◌, ◌*◌, ◌^◌, ◌≤◌, ◌<◌, ℤ, pos, nat_abs, ◌-ℤ◌, ◌*ℤ◌}
use Rattle.arguments.specs.declared.Phases.{Phases}
use Rattle.choices.specs.declared.Frame.{Frame}
use Rattle.ocean.specs.Ocean.{d_c, d_s}
use Rattle.places.specs.Places.{place_sum, skipped, unless_skipped}
use Rattle.series.specs.Exact.{scale, exact_sin, exact_cos}
use Rattle.sheet.specs.Sheet.{line_count, tide_count, place_count, admittance, degree, c_cos, s_cos, c_sin, s_sin, coefficient}
use Rattle.tides.specs.Tides.{line_phase, line_sum}
use Rattle.whole.specs.Sum.{weight_to}

-- ---- the exact sums
-- the sums of admittance times exact cosine and sine, which are 10^6 * scale times the exact factors
unfoldable pub exact_fcos : List ℕ → Phases → ℕ → ℤ
exact_fcos s phases = line_sum s (λ f. exact_cos (line_phase s phases f))

unfoldable pub exact_fsin : List ℕ → Phases → ℕ → ℤ
exact_fsin s phases = line_sum s (λ f. exact_sin (line_phase s phases f))

-- an exact sum has so many parts to a count
unfoldable pub parts_of_a_count : ℕ
parts_of_a_count = 2 ^ 30 * (10 ^ 6 * scale)

-- the exact correction of place j by its cos and sin columns, zero at a skipped place
unfoldable pub exact_sum : List ℕ → Phases → Frame → ℕ → ℕ → ℕ → ℤ
exact_sum s phases frame p q j = unless_skipped s frame j (place_sum s (exact_fcos s phases) (exact_fsin s phases) p q j)

-- ---- nine counts
-- a correction in counts is at most nine counts from a sum in those parts
unfoldable pub AtMostNineCounts : ℤ → ℤ → Type 0
AtMostNineCounts correction exact = nat_abs (correction *ℤ pos parts_of_a_count -ℤ exact) ≤ 9 * parts_of_a_count

-- so at every place of a sheet; and "with the centre-of-mass frame, degree 1 is skipped, its correction and its exact sum then being zero"
pub record CloseToExact (sheet : List ℕ) (phases : Phases) (frame : Frame) : Type 0 where
  pub c : (j : ℕ) → j < place_count sheet → AtMostNineCounts (d_c sheet phases frame j) (exact_sum sheet phases frame c_cos c_sin j)
  pub s : (j : ℕ) → j < place_count sheet → AtMostNineCounts (d_s sheet phases frame j) (exact_sum sheet phases frame s_cos s_sin j)
  pub skipped_c : (j : ℕ) → skipped frame (degree sheet j) ≡ true → (d_c sheet phases frame j ≡ pos 0) × (exact_sum sheet phases frame c_cos c_sin j ≡ pos 0)
  pub skipped_s : (j : ℕ) → skipped frame (degree sheet j) ≡ true → (d_s sheet phases frame j ≡ pos 0) × (exact_sum sheet phases frame s_cos s_sin j ≡ pos 0)

-- ---- the bound fitted to a sheet
-- w, a row's absolute admittances added up, in millionths
abbrev pub row_weight : List ℕ → ℕ → ℕ
row_weight s k = weight_to (admittance s k) (line_count s)

-- a factor is at most 2*w + 1/2 units from the exact one, in millionths of a unit
unfoldable pub factor_error : List ℕ → ℕ → ℕ
factor_error s k = 2 * row_weight s k + 500000

-- half a count, and over the tides (absolute cos count + absolute sin count)*(2*w + 1/2)/2^30 counts
unfoldable pub fitted_bound : List ℕ → ℕ → ℕ → ℕ → ℕ
fitted_bound s p q j =
    2 ^ 29 * (10 ^ 6 * scale)
    + weight_to (λ k. pos ((nat_abs (coefficient s j k p) + nat_abs (coefficient s j k q)) * (factor_error s k * scale))) (tide_count s)
