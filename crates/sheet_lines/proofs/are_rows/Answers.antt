-- One flag takes every row's test in turn.
use mathlib.Core.Path.{ap, ◌∙◌}
use Rattle.limits.specs.Limits.{is_row_total}
use Rattle.sheet.specs.Accepted.{row_valid}
use Rattle.whole.proofs.Counted.{all_none, all_more}
use Rattle.sheet_lines.proofs.are_rows.Goals as goal

pub loop-k-init : goal.loop-k-init
loop-k-init c = all_none _

pub loop-k-preserved : goal.loop-k-preserved
unfolding row_valid
loop-k-preserved c =
    all_more (row_valid c.args.sheet.now.bytes.now) c.loop-k.k c.loop-k.invariant (c.is_row_total-good.ensures ∙ ap is_row_total c.row_total.ensures)
