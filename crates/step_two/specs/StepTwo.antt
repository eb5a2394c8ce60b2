-- Document 01, "Step two (001, Tables 6.2)", and document 02, T-04 and T-08.
use Rattle.std.specs.Prelude.{ℕ, ℤ}
use Rattle.arguments.specs.declared.Phases.{Phases}
use Rattle.bands.specs.declared.Corrections.{Corrections}
use Rattle.bands.specs.Bands.{Coefficient, sum_of, corrections_of}
use Rattle.choices.specs.declared.LoveModel.{LoveModel}
use Rattle.hour.specs.declared.Hour.{Hour}
use Rattle.hour.specs.Hour.{kept}
use Rattle.lines.specs.Lines.{line_phase, printed_line}
use Rattle.selection.specs.Selection.{selected}
use Rattle.wave.specs.Wave.{sin, cos}

-- the sums of the printed lines over a sine S and a cosine C of a phase, which are the rounded or the exact ones
abbrev pub printed_sum : (ℕ → ℤ) → (ℕ → ℤ) → Phases → LoveModel → Coefficient → ℤ
printed_sum S C phases love = sum_of (printed_line love) (λ i. C (line_phase phases i)) (λ i. S (line_phase phases i)) 49

-- those of the lines that a selection names: the same sums without the amplitudes of the others
abbrev pub selected_sum : (ℕ → ℤ) → (ℕ → ℤ) → Phases → LoveModel → ℕ → Coefficient → ℤ
selected_sum S C phases love selection = sum_of (selected selection (printed_line love)) (λ i. C (line_phase phases i)) (λ i. S (line_phase phases i)) 49

unfoldable pub corrections : Phases → LoveModel → ℕ → Corrections
corrections phases love selection = corrections_of (selected_sum sin cos phases love selection)

-- T-08: "reads the kept values": the same sums over the cosines and sines that an hour record holds, whichever they are
abbrev pub kept_sum : Hour → LoveModel → ℕ → Coefficient → ℤ
kept_sum hour love selection = sum_of (selected selection (printed_line love)) (kept hour.cosines) (kept hour.sines) 49

unfoldable pub kept_corrections : Hour → LoveModel → ℕ → Corrections
kept_corrections hour love selection = corrections_of (kept_sum hour love selection)
