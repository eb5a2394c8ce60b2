-- Document 02, T-04: "Two profiles are supplied: all lines, and those whose anelastic amplitude (either of ip and op) is at least ten tenths in absolute
-- value."
use Rattle.std.specs.Prelude.{Bool, true, ◌||◌, ℕ, leb, pos, nat_abs}
use Rattle.bands.specs.declared.Line.{Line}
use Rattle.bands.specs.Bands.{in_counts}
use Rattle.choices.specs.declared.LoveModel.TheVariants.{Anelastic}
use Rattle.lines.specs.Lines.{printed_line}
use Rattle.selection.specs.Selection.{selection_of}

unfoldable pub all_lines : ℕ
all_lines = selection_of (λ i. true) 49

-- either amplitude is ten tenths or more
abbrev pub at_least_ten : Line → Bool
at_least_ten line =
    let ten = nat_abs (in_counts (pos 10)) in
    leb ten (nat_abs line.ip) || leb ten (nat_abs line.op)

unfoldable pub major_lines : ℕ
major_lines = selection_of (λ i. at_least_ten (printed_line Anelastic i)) 49
