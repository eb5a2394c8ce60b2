-- The bits of all lines, computed.
use mathlib.Core.Path.{refl}
use Rattle.selection.specs.Selection.{selection_of}
use Rattle.profiles.specs.Profiles.{all_lines}
use Rattle.profiles.proofs.all_lines.Goals as goal

pub returns : goal.returns
unfolding all_lines selection_of
returns c = refl
