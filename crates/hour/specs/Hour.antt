-- Document 02, T-08, "Sines kept with the hour": "six phases and beside them the values for the printed lines".
use Rattle.std.specs.Prelude.{Bool, cond, List, [], ◌∷◌, ◌≡◌, ℕ, ltb, ℤ, pos, nat_abs, get_or}
use Rattle.arguments.specs.declared.Argument.{Argument}
use Rattle.arguments.specs.declared.Multipliers.{Multipliers}
use Rattle.arguments.specs.declared.Phases.{Phases}
use Rattle.arguments.specs.Phase.{multiplier_of, moved_phases}
use Rattle.lines.specs.Lines.{multipliers_at, line_phase}
use Rattle.wave.specs.Wave.{sin, cos}
use Rattle.whole.specs.Listed.{listed}
use Rattle.hour.specs.declared.Hour.{Hour}

-- what a record holds of line i
abbrev pub kept : List ℤ → ℕ → ℤ
kept l i = get_or l i (pos 0)

-- "those worked out afresh from its phases": the record of given phases, which is also what "replace all phases" makes of any record
unfoldable pub hour_at : Phases → Hour
hour_at phases = record {
  phases = phases;
  cosines = listed (λ i. cos (line_phase phases i)) 49;
  sines = listed (λ i. sin (line_phase phases i)) 49;
}

-- "It starts from all phases zero."
unfoldable pub start_hour : Hour
start_hour = hour_at (record { tau = 0; s = 0; h = 0; p = 0; np = 0; ps = 0 })

-- a line has an argument: its multiplier of it is not zero
unfoldable pub has_argument : Argument → Multipliers → Bool
has_argument argument m = ltb 0 (nat_abs (multiplier_of m argument))

-- of each line that is chosen by its multipliers a wave W of its phase, and of every other line what is held
abbrev pub renewed : (Multipliers → Bool) → (ℕ → ℤ) → Phases → List ℤ → List ℤ
renewed chosen W phases held = listed (λ i. cond (chosen (multipliers_at i)) (W (line_phase phases i)) (kept held i)) 49

-- "move one, given by name": the lines that have the argument are worked out afresh
unfoldable pub moved_hour : Hour → Argument → ℤ → Hour
moved_hour hour argument amount =
    let phases = moved_phases hour.phases argument amount in
    record { phases = phases; cosines = renewed (has_argument argument) cos phases hour.cosines; sines = renewed (has_argument argument) sin phases hour.sines }

-- "After any calls from the start": the calls that change a record, and the record that they lead to, one after the other
pub data HourCall : Type 0 where
  SetHour : Phases → HourCall
  MoveHour : Argument → ℤ → HourCall

unfoldable pub called : Hour → HourCall → Hour
called hour (SetHour phases) = hour_at phases
called hour (MoveHour argument amount) = moved_hour hour argument amount

unfoldable pub after : Hour → List HourCall → Hour
after hour [] = hour
after hour (call ∷ calls) = after (called hour call) calls

abbrev pub reached : List HourCall → Hour
reached calls = after start_hour calls

-- "the kept values equal those worked out afresh from its phases"
abbrev pub Fresh : Hour → Type 0
Fresh hour = hour ≡ hour_at hour.phases
