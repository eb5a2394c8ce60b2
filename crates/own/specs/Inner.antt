-- What the inner functions hand to one another: sums with one record more; and what a list adds up to.
use Rattle.std.specs.Prelude.{cond, List, length, ℕ, zero, suc, pos, ◌≡◌, Result, Ok, Err}
use Rattle.arguments.specs.declared.Phases.{Phases}
use Rattle.arguments.specs.Phase.{phase}
use Rattle.bands.specs.declared.Sums.{Sums}
use Rattle.bands.specs.Bands.{plus_line}
use Rattle.bands.specs.Inner.{sums_of, Bounded}
use Rattle.refusals.specs.declared.Refusal.{Refusal}
use Rattle.limits.specs.Limits.{is_record_count}
use Rattle.refusals.specs.declared.Refusal.TheVariants.{RecordCount, RecordValue}
use Rattle.refusals.specs.Numbers.{refusal_number}
use Rattle.wave.specs.Wave.{sin, cos}
use Rattle.own.specs.declared.OwnLine.{OwnLine}
use Rattle.own.specs.Own.{multipliers_of, line_of, in_range, record_at, records_refusal, own_sum}

-- a record's line with its waves
abbrev pub plus_record : Phases → Sums → OwnLine → Sums
plus_record phases sums l = plus_line sums (line_of l) (cos (phase (multipliers_of l) phases)) (sin (phase (multipliers_of l) phases))

unfoldable pub with_record : Phases → Sums → OwnLine → Result Sums Refusal
with_record phases sums l = cond (in_range l) (Ok (plus_record phases sums l)) (Err RecordValue)

-- one record more, where none was refused
abbrev pub next_sums : Phases → OwnLine → Result Sums Refusal → Result Sums Refusal
next_sums phases l (Ok sums) = with_record phases sums l
next_sums phases l (Err why) = Err why

-- the first i records, one after the other: their sums, or the first refusal; of too many records none is read
unfoldable pub summed_to : Phases → List OwnLine → ℕ → Result Sums Refusal
summed_to phases l zero = cond (is_record_count (length l)) (Ok (record { c20 = pos 0; c21 = pos 0; s21 = pos 0; c22 = pos 0; s22 = pos 0 })) (Err RecordCount)
summed_to phases l (suc i) = next_sums phases (record_at l i) (summed_to phases l i)

-- of a list: its five sums where it is accepted, else its number
abbrev pub Totals : Phases → List OwnLine → Result Sums Refusal → Type 0
Totals phases l (Ok sums) = (records_refusal l ≡ 0) × ((sums ≡ sums_of (own_sum sin cos phases l)) × Bounded sums)
Totals phases l (Err why) = refusal_number why ≡ records_refusal l
