-- Each turn passes a line without the key.
use mathlib.Core.Path.{refl, sym, ap, ◌∙◌}
use lib.ListN.{length}
use Rattle.icgem_words.specs.Inner.{part}
use Rattle.icgem_header.proofs.Lines.{reached_start, reached_next, cut_here, none_left}
use Rattle.icgem_header.proofs.find_line.Goals as goal

pub loop-at-init : goal.loop-at-init
loop-at-init c = reached_start _ _

pub returns-then-is_keyed : goal.returns-then-is_keyed
returns-then-is_keyed c =
    cut_here c.loop-at.invariant c.loop-at-test.true c.line_end-end.ensures c.requires (sym c.is_keyed.ensures ∙ c.if-is_keyed.true) _
    refl refl (ap (λ n. part n (length c.args.text.now) c.args.text.now) c.min-next.ensures)

pub loop-at-preserved : goal.loop-at-preserved
loop-at-preserved c =
    rw c.min-next.ensures
    (reached_next c.loop-at.invariant c.loop-at-test.true c.line_end-end.ensures (sym c.is_keyed.ensures ∙ c.if-is_keyed.false))

pub returns : goal.returns
returns c = none_left c.loop-at.invariant c.loop-at-test.false
