-- 64 records have at most 1,280,000,000 counts in all: two units of 2^-30 for each, and one half, are less than three counts.
use mathlib.Core.List.{List}
use mathlib.Core.Path.{◌≡◌}
use Prim.Native.Nat.{ℕ, ◌≤◌, ◌<◌}
use native.Mathlib.Nat.{mul-le-mul_right}
use native.Mathlib.Omega.{arith}
use lib.IntN.{ℤ}
use lib.ListN.{length}
use Rattle.arguments.specs.declared.Phases.{Phases}
use Rattle.bands.specs.declared.Line.{Line}
use Rattle.bands.specs.Inner.{Light}
use Rattle.bands.specs.Bands.{Coefficient, C20, C21, S21, C22, S22, correction_of, corrections_of}
use Rattle.own.specs.declared.OwnLine.{OwnLine}
use Rattle.own.specs.Own.{line_of, record_at, own_phase, records_refusal, own_sum, own_corrections}
use Rattle.own.proofs.Records.{record_light}
use Rattle.own.proofs.Table.{of_record, records_table}
use Rattle.series.specs.Exact.{scale}
use Rattle.step_two_bound.specs.Exact.{parts_of_a_count, amplitudes, ByAmplitudes}
use Rattle.step_two_bound.proofs.Bound.{lines_close}
use Rattle.wave.specs.Wave.{sin, cos}
use Rattle.whole.proofs.Running.{weight_size}
use Rattle.own_bound.specs.Exact.{WithinThreeCounts, exact_sum, CloseToExact}

close : (total : ℕ) (d x : ℤ) → total ≤ 1280000000 → ByAmplitudes total d x → WithinThreeCounts d x
unfolding WithinThreeCounts parts_of_a_count ByAmplitudes
close total d x h e = omega (arith, mul-le-mul_right scale h)

module _ (phases : Phases) (l : List OwnLine) (passed : records_refusal l ≡ 0) where
  abbrev lines : ℕ → Line
  lines i = line_of (record_at l i)

  few : length l ≤ 64
  few = ((records_table l).0.0 passed).0

  light : (i : ℕ) → i < length l → Light 10000000 (lines i)
  light i h = record_light (record_at l i) ((of_record (record_at l i)).1 (((records_table l).0.0 passed).1.each i h))

  weight : amplitudes lines (length l) ≤ 1280000000
  unfolding amplitudes
  weight =
      omega (
        arith,
        weight_size (λ i. (lines i).ip) 10000000 (length l) (λ i h. (light i h).ip),
        weight_size (λ i. (lines i).op) 10000000 (length l) (λ i h. (light i h).op),
        few,
      )

  each : (k : Coefficient) → WithinThreeCounts (correction_of (own_sum sin cos phases l k)) (exact_sum phases l k)
  each k = close (amplitudes lines (length l)) _ (exact_sum phases l k) weight ((lines_close lines (own_phase phases l) (length l)).each k)

  -- for every accepted list and all six phases
  pub own_close : CloseToExact phases l
  unfolding own_corrections corrections_of
  own_close = record { c20 = each C20; c21 = each C21; s21 = each S21; c22 = each C22; s22 = each S22 }
