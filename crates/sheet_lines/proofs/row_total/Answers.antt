-- The sum is that of the absolute admittances passed, each at most 2^31.
use mathlib.Core.Path.{ap, ◌∙◌}
use Prim.Native.Nat.{ℕ, ◌+◌, ◌*◌, ◌^◌}
use native.Mathlib.Omega.{arith}
use lib.IntN.{nat_abs}
use Rattle.words.specs.Words.{word_at, twos_complement}
use Rattle.whole.proofs.Counted.{weight_none, weight_more}
use Rattle.sheet.specs.Sheet.{admittance}
use Rattle.sheet_lines.proofs.row_total.Goals as goal

pub loop-f-init : goal.loop-f-init
loop-f-init c = (weight_none _, omega arith)

pub loop-f-preserved : goal.loop-f-preserved
unfolding admittance
loop-f-preserved c =
    let l = c.loop-f in
    let s = c.args.sheet.now.bytes.now in
    let e = c.from-sum.ensures ∙ c.size_at.ensures.0 ∙ ap (λ (at : ℕ). nat_abs (twos_complement (2 ^ 31) (word_at s (at + 4 * l.f)))) c.row_start-at.ensures in
    (weight_more (admittance s c.args.k) l.f l.invariant.0 e, omega arith)
