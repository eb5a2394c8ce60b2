-- A degree of at most 60 keeps the product small.
use Rattle.std.proofs.Common.{rules}
use Rattle.field.specs.Field.{size}
use Rattle.std.proofs.Common.{rules}
use Rattle.field.proofs.size_of.Goals as goal

pub returns : goal.returns
unfolding size
returns c = search rules
