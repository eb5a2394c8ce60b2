-- Twenty turns are enough.
use Rattle.std.proofs.Common.{◌≡◌, min, ap, ◌∙◌, arith, ◌*◌, ◌^◌, ℕ}
use Rattle.icgem_decimal.proofs.Numbers.{raise_stops, raised_all, raise_next}
use Rattle.icgem_decimal.proofs.raised.Goals as goal

pub returns-in_err-product : goal.returns-in_err-product
returns-in_err-product c =
    rw c.from_residual.ensures (raise_stops _ _ _ _ (omega (arith, c.min-end.ensures, c.loop-test.true)) c.loop.invariant.raised c.in_err-product.ensures)

pub loop-preserved : goal.loop-preserved
loop-preserved c = record { fits = omega (arith, c.in_ok-product.ensures); raised = raise_next _ _ _ _ c.loop.invariant.raised c.in_ok-product.ensures.1 }

pub returns : goal.returns
returns c =
    let e : c.loop.counter ≡ min c.args.k 20 = omega (arith, c.min-end.ensures, c.loop-test.false, c.loop.auto.counter-end) in
    raised_all _ _ _ (c.loop.invariant.raised ∙ ap (λ (j : ℕ). c.args.n * 10 ^ j) e) c.loop.invariant.fits
