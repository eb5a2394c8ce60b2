-- The five words, the first word and the columns, and then the numbers.
use mathlib.Core.Path.{sym, ◌∙◌}
use Rattle.icgem_data.proofs.Formed.{line_refused, line_taken}
use Rattle.icgem_data.proofs.line_of.Goals as goal

pub returns-then-is_headed : goal.returns-then-is_headed
returns-then-is_headed c =
    line_taken c.five_words-w.ensures (sym c.is_headed.ensures ∙ c.if-is_headed.true) _ _ c.of.ensures c.of-then-is_headed.ensures c.of-then-is_headed-2.ensures
    c.of-then-is_headed-3.ensures c.numbers_of.ensures

pub returns-else-is_headed : goal.returns-else-is_headed
returns-else-is_headed c = line_refused c.five_words-w.ensures _ (sym c.is_headed.ensures ∙ c.if-is_headed.false)
