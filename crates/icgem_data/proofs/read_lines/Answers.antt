-- Each turn passes one line more, which has no word, is kept, or ends the pass.
use mathlib.Core.Path.{sym, ap, ◌∙◌}
use native.Mathlib.Omega.{arith}
use borrow.Author.Tests.{leb-true, leb-false}
use lib.ListN.{length}
use Rattle.icgem_data.proofs.Pass.{passed_none, pass_ends, passed_blank, pass_refused, passed_more}
use Rattle.icgem_data.proofs.read_lines.Goals as goal

pub loop-at-init : goal.loop-at-init
loop-at-init c = passed_none _ _ _ _ _ _ c.requires.text_len_bound_2

pub loop-at-preserved-then-is_empty : goal.loop-at-preserved-then-is_empty
loop-at-preserved-then-is_empty c =
    passed_blank c.loop-at.invariant c.line_end-end.ensures c.loop-at-test.true
    (c.next_word.ensures.none (leb-true _ _ (sym c.is_empty.ensures ∙ c.if-is_empty.true)))

pub returns-in_err-lines : goal.returns-in_err-lines
returns-in_err-lines c =
    let some = c.next_word.ensures.some (leb-false _ _ (sym c.is_empty.ensures ∙ c.if-is_empty.false)) in
    rw
    c.from_residual.ensures
    (pass_refused c.loop-at.invariant c.line_end-end.ensures (omega (arith, ap length some)) c.keep_line.ensures c.in_err-lines.was)

pub loop-at-preserved : goal.loop-at-preserved
loop-at-preserved c =
    let some = c.next_word.ensures.some (leb-false _ _ (sym c.is_empty.ensures ∙ c.if-is_empty.false)) in
    passed_more c.loop-at.invariant c.line_end-end.ensures (omega (arith, ap length some)) c.keep_line.ensures c.in_ok-lines.was c.loop-at-test.true
    (omega (arith, c.loop-at.invariant.low, c.loop-at.invariant.starts_room, c.loop-at-test.true, c.requires.text_len_bound_1, c.requires.in_bounds_1))

pub returns : goal.returns
returns c = pass_ends c.loop-at.invariant c.loop-at-test.false
