-- A degree in its range has a size, and both lengths are held to it.
use Rattle.std.proofs.Common.{sym, refl, ◌∙◌}
use Rattle.field.specs.Field.{shaped_by}
use Rattle.field.proofs.is_shaped.Goals as goal

pub returns-then-is_degree : goal.returns-then-is_degree
unfolding shaped_by
returns-then-is_degree c = rw (sym c.is_degree.ensures ∙ c.if-is_degree.true, c.size_of-entries.ensures) refl

pub returns-else-is_degree : goal.returns-else-is_degree
unfolding shaped_by
returns-else-is_degree c = rw (sym c.is_degree.ensures ∙ c.if-is_degree.false) refl
