-- Document 02, T-01: "Each resulting correction must lie within three counts of its exact sum", which is the same sum with no rounding anywhere.
use Rattle.std.specs.Prelude.{List, ◌*◌, ◌≤◌, ℤ, pos, nat_abs, ◌-ℤ◌, ◌*ℤ◌}
use Rattle.arguments.specs.declared.Phases.{Phases}
use Rattle.bands.specs.Bands.{Coefficient, C20, C21, S21, C22, S22}
use Rattle.own.specs.declared.OwnLine.{OwnLine}
use Rattle.own.specs.Own.{own_sum, own_corrections}
use Rattle.series.specs.Exact.{exact_sin, exact_cos}
use Rattle.step_two_bound.specs.Exact.{parts_of_a_count}

-- a correction in counts is at most three counts from a sum in parts of a count
unfoldable pub WithinThreeCounts : ℤ → ℤ → Type 0
WithinThreeCounts correction exact = nat_abs (correction *ℤ pos parts_of_a_count -ℤ exact) ≤ 3 * parts_of_a_count

-- the records' exact sums
abbrev pub exact_sum : Phases → List OwnLine → Coefficient → ℤ
exact_sum phases lines = own_sum exact_sin exact_cos phases lines

pub record CloseToExact (phases : Phases) (lines : List OwnLine) : Type 0 where
  pub c20 : WithinThreeCounts (own_corrections phases lines).c20 (exact_sum phases lines C20)
  pub c21 : WithinThreeCounts (own_corrections phases lines).c21 (exact_sum phases lines C21)
  pub s21 : WithinThreeCounts (own_corrections phases lines).s21 (exact_sum phases lines S21)
  pub c22 : WithinThreeCounts (own_corrections phases lines).c22 (exact_sum phases lines C22)
  pub s22 : WithinThreeCounts (own_corrections phases lines).s22 (exact_sum phases lines S22)
