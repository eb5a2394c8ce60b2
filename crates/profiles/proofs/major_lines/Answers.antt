-- The bits of the lines of at least ten tenths, computed from the table.
use mathlib.Core.Path.{refl}
use Rattle.lines.specs.Lines.{diurnal, long_period, semidiurnal, printed, line_at, band_at, in_model, printed_line}
use Rattle.selection.specs.Selection.{selection_of}
use Rattle.profiles.specs.Profiles.{major_lines}
use Rattle.profiles.proofs.major_lines.Goals as goal

pub returns : goal.returns
unfolding major_lines selection_of printed_line in_model band_at line_at printed diurnal long_period semidiurnal
returns c = refl
