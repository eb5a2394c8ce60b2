-- Document 02, T-04, "Choosing which lines are used".
use Rattle.std.specs.Prelude.{Bool, cond, ℕ, zero, suc, ◌+◌, ◌/◌, ◌%◌, ◌^◌, eqb, pos}
use Rattle.bands.specs.declared.Line.{Line}
use Rattle.limits.specs.Limits.{is_selection}
use Rattle.whole.specs.Sum.{count_to}

-- "A selection is a 64-bit number whose bit i stands for line i"
unfoldable pub names : ℕ → ℕ → Bool
names selection i = eqb (selection / 2 ^ i % 2) 1

-- "how many lines the selection names"
unfoldable pub lines_named : ℕ → ℕ
lines_named selection = count_to (names selection) 49

-- "14 for a bit above 48"
unfoldable pub selection_refusal : ℕ → ℕ
selection_refusal selection = cond (is_selection selection) 0 14

-- "adds the lines named there only": of a line that is not named each amplitude is 0
abbrev pub without_amplitudes : Line → Line
without_amplitudes line = record { band = line.band; ip = pos 0; op = pos 0 }

-- of given lines, those that a selection names
unfoldable pub selected : ℕ → (ℕ → Line) → ℕ → Line
selected selection lines i = cond (names selection i) (lines i) (without_amplitudes (lines i))

-- the selection that names those of the first n lines that are chosen
unfoldable pub selection_of : (ℕ → Bool) → ℕ → ℕ
selection_of chosen zero = 0
selection_of chosen (suc n) = selection_of chosen n + cond (chosen n) (2 ^ n) 0
