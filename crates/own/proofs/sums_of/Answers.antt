-- The record that comes next stands in the list, and the sums so far leave room for it.
use Rattle.std.proofs.Common.{◌≡◌, sym, length, ◌∙◌, ◌+◌, arith}
use borrow.Author.Tests.{leb-true}
use Rattle.std.proofs.lemmas.Result.{err_from_is_err_and}
use Rattle.own.proofs.Totals.{room, so_far, refused_at, none_taken, one_taken, all_taken, none_of_many}
use Rattle.own.proofs.sums_of.Goals as goal

pub returns-then-not-is_record_count : goal.returns-then-not-is_record_count
returns-then-not-is_record_count c = none_of_many c.args.phases c.args.lines.now (sym c.is_record_count.ensures ∙ c.if-not-is_record_count.true)

pub loop-line-init : goal.loop-line-init
loop-line-init c = none_taken c.args.phases c.args.lines.now (sym c.is_record_count.ensures ∙ c.if-not-is_record_count.false)

pub with_record-requires : goal.with_record-requires
with_record-requires c =
    let few = sym c.is_record_count.ensures ∙ c.if-not-is_record_count.false in
    let most = leb-true (length c.args.lines.now) 64 few in
    let l = c.loop-line in
    room c.args.phases c.args.lines.now l.line-index l.sums (omega arith)
    (so_far c.args.phases c.args.lines.now few l.line-index (omega arith) l.sums l.invariant)

pub returns-in_err-sums : goal.returns-in_err-sums
returns-in_err-sums c =
    let p = err_from_is_err_and c.from_residual.result c.from_residual.ensures.1 in
    let why = c.in_err-sums.field-0.0 in
    let l = c.loop-line in
    let taken = one_taken c.args.phases c.args.lines.now l.line-index l.sums _ l.invariant (sym c.in_err-sums.ensures) in
    rw (p.1, p.2)
    (refused_at c.args.phases c.args.lines.now (sym c.is_record_count.ensures ∙ c.if-not-is_record_count.false) (l.line-index + 1) (omega arith) why taken)

pub loop-line-preserved : goal.loop-line-preserved
loop-line-preserved c =
    one_taken c.args.phases c.args.lines.now c.loop-line.line-index c.loop-line.sums _ c.loop-line.invariant (sym c.in_ok-sums.ensures)

pub returns : goal.returns
returns c =
    let l = c.loop-line in
    let e : l.line-index ≡ length c.args.lines.now = omega arith in
    all_taken c.args.phases c.args.lines.now l.sums (sym c.is_record_count.ensures ∙ c.if-not-is_record_count.false) (rw e at l.invariant)
