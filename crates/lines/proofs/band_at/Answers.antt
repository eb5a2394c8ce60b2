-- By the tests, which are the definition's.
use borrow.Author.Tests.{lt-ltb, le-ltb}
use Rattle.std.proofs.Common.{refl, arith}
use Rattle.lines.specs.Lines.{band_at}
use Rattle.lines.proofs.band_at.Goals as goal

pub returns-in-0-to-25 : goal.returns-in-0-to-25
unfolding band_at
returns-in-0-to-25 c = rw (lt-ltb c.args.i 26 (omega arith)) refl

pub returns-in-26-to-46 : goal.returns-in-26-to-46
unfolding band_at
returns-in-26-to-46 c = rw (le-ltb c.args.i 26 (omega arith), lt-ltb c.args.i 47 (omega arith)) refl

pub returns-in-47-to-max : goal.returns-in-47-to-max
unfolding band_at
returns-in-47-to-max c = rw (le-ltb c.args.i 26 (omega arith), le-ltb c.args.i 47 (omega arith)) refl
