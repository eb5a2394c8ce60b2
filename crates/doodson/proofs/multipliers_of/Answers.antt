-- The multipliers are those of the digits.
use Rattle.std.proofs.Common.{sym, ap, ◌∙◌}
use Rattle.refusals.specs.Told.Told.{accepted}
use Rattle.doodson.specs.Doodson.{read_doodson}
use Rattle.doodson.proofs.multipliers_of.Goals as goal

pub returns-then-is_doodson : goal.returns-then-is_doodson
unfolding read_doodson
returns-then-is_doodson c = rw (sym c.is_doodson.ensures ∙ c.if-is_doodson.true) (ap accepted c.multipliers_in.ensures)
