-- The same sum of squares lies between the same two numbers.
use mathlib.Core.Path.{◌∙◌}
use lib.Ieee.{of_bits, neg, round}
use Rattle.doubles.proofs.Ranges.{contained}
use Rattle.bodies.specs.Bodies.{of_length_one}
use Rattle.bodies.proofs.is_of_length_one.Goals as goal

pub returns : goal.returns
unfolding of_length_one of_bits neg round
returns c = c.contains.ensures.value ∙ contained c.new.result _ _ _ c.new.ensures.start c.new.ensures.end c.new.ensures.exhausted
