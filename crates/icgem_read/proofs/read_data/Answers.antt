-- The lines are gone through once; where each is formed, repeated places are looked for, then the degree and the values.
use mathlib.Core.Path.{sym, ap, ◌∙◌}
use Rattle.refusals.specs.Numbers.{refusal_number}
use Rattle.icgem_read.proofs.File.{by_err, refused_by}
use Rattle.std.proofs.Common.{rules}
use Rattle.icgem_read.proofs.Lines.{lent, unformed, twice, no_degree, outside, fine, filled_by}
use Rattle.icgem_read.proofs.read_data.Goals as goal

pub returns-in_err-lines : goal.returns-in_err-lines
returns-in_err-lines c =
    let none = refused_by _ _ _ c.in_err-lines.ensures.value in
    by_err c.from_residual.result _ _ c.from_residual.ensures.1 (λ why e. unformed c.read_lines.ensures none.0 ∙ ap refusal_number (sym none.1 ∙ sym e))

pub repeats-requires : goal.repeats-requires
repeats-requires c = lent c.read_lines.ensures c.in_ok-lines.ensures.ok_part c.requires.text_short (search rules) (search rules)

pub returns-then-repeats : goal.returns-then-repeats
returns-then-repeats c = twice c.read_lines.ensures c.in_ok-lines.ensures.ok_part c.repeats.ensures c.if-repeats.true

pub returns-in_err-degree : goal.returns-in_err-degree
returns-in_err-degree c =
    let none = refused_by _ _ _ c.in_err-degree.ensures.value in
    by_err c.from_residual-in_err-degree.result _ _ c.from_residual-in_err-degree.ensures.1
    (λ why e.
    no_degree c.read_lines.ensures c.in_ok-lines.ensures.ok_part c.repeats.ensures c.if-repeats.false (rw none.0 at c.degree_of.ensures)
    ∙ ap refusal_number (sym none.1 ∙ sym e))

pub returns-then-lines : goal.returns-then-lines
returns-then-lines c =
    let taken = rw c.in_ok-degree.ensures.ok_part at c.degree_of.ensures in (
      fine c.read_lines.ensures c.in_ok-lines.ensures.ok_part c.repeats.ensures c.if-repeats.false taken.0 c.if-lines.true,
      (taken.1, filled_by c.read_lines.ensures c.in_ok-lines.ensures.ok_part c.if-lines.true),
    )

pub returns-else-lines : goal.returns-else-lines
returns-else-lines c =
    let taken = rw c.in_ok-degree.ensures.ok_part at c.degree_of.ensures in
    outside c.read_lines.ensures c.in_ok-lines.ensures.ok_part c.repeats.ensures c.if-repeats.false taken.0 c.if-lines.false
