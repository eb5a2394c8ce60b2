-- The first digit that differs decides.
use Rattle.std.proofs.Common.{sym, ◌∙◌}
use Rattle.icgem_decimal.proofs.Digits.{whole-digits}
use Rattle.icgem_decimal.proofs.Order.{differs, same_next, agree_all}
use Rattle.icgem_decimal.proofs.compare.Goals as goal

pub returns-then-is_ne : goal.returns-then-is_ne
returns-then-is_ne c =
    differs c.loop-i.invariant _ (rw (c.padded_at.ensures, c.padded_at-in-loop-i.ensures) at c.cmp-order.ensures)
    (whole-digits _ c.requires.a_value) (whole-digits _ c.requires.b_value) c.loop-i-test.true (sym c.is_ne.ensures ∙ c.if-is_ne.true)

pub loop-i-preserved : goal.loop-i-preserved
loop-i-preserved c =
    same_next c.loop-i.invariant _ (rw (c.padded_at.ensures, c.padded_at-in-loop-i.ensures) at c.cmp-order.ensures) c.loop-i-test.true
    (sym c.is_ne.ensures ∙ c.if-is_ne.false)

pub returns : goal.returns
returns c = agree_all c.loop-i.invariant c.loop-i-test.false
