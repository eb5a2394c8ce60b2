-- What the header, the data and the system give.
use mathlib.Core.Path.{sym, ap, ◌∙◌}
use native.Mathlib.Omega.{arith}
use Rattle.refusals.specs.Numbers.{refusal_number}
use Rattle.refusals.proofs.Numbers.{refusal_not_zero}
use Rattle.icgem_read.proofs.File.{by_err, refused_by, data_refuses, systemless, passed}
use Rattle.icgem_read.proofs.Refusals.{file_long, file_headless}
use Rattle.icgem_read.proofs.pass.Goals as goal

pub returns-then-text-gt-LONGEST : goal.returns-then-text-gt-LONGEST
returns-then-text-gt-LONGEST c = file_long _ (omega arith)

pub returns-in_err-header : goal.returns-in_err-header
returns-in_err-header c =
    by_err c.from_residual.result _ _ c.from_residual.ensures.1 (λ why e. file_headless _ (omega arith) c.in_err-header.ensures ∙ ap refusal_number (sym e))

pub returns-in_err-degree : goal.returns-in_err-degree
returns-in_err-degree c =
    let own = c.in_err-degree.field-0.0 in
    by_err c.from_residual-in_err-degree.result _ _ c.from_residual-in_err-degree.ensures.1
    (λ why e.
    data_refuses c.in_ok-header.ensures (omega arith) (refusal_number own) (refusal_not_zero own) c.in_err-degree.ensures ∙ ap refusal_number (sym e))

pub returns-in_err-system : goal.returns-in_err-system
returns-in_err-system c =
    let none = refused_by _ _ _ c.in_err-system.ensures.value in
    by_err c.from_residual-in_err-system.result _ _ c.from_residual-in_err-system.ensures.1
    (λ why e. systemless c.in_ok-header.ensures (omega arith) c.in_ok-degree.ensures.0 none.0 ∙ ap refusal_number (sym none.1 ∙ sym e))

pub returns : goal.returns
returns c =
    let read = c.in_ok-degree.ensures in
    passed c.in_ok-header.ensures (omega arith) read.0 read.1.0 read.1.1 c.in_ok-system.ensures.ok_part
