-- The code is the definition.
use mathlib.Core.Path.{refl}
use Rattle.lines.specs.Inner.{number_in}
use Rattle.lines.proofs.number_in.Goals as goal

pub returns : goal.returns
unfolding number_in
returns c = refl
