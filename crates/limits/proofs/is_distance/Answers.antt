-- The range's ends are the definition's numbers.
use mathlib.Core.Path.{◌∙◌}
use lib.Ieee.{of_bits, round}
use Rattle.doubles.proofs.Ranges.{contained}
use Rattle.limits.proofs.is_distance.Goals as goal

pub returns : goal.returns
unfolding of_bits round
returns c = c.contains.ensures.value ∙ contained c.new.result _ _ c.args.r c.new.ensures.start c.new.ensures.end c.new.ensures.exhausted
