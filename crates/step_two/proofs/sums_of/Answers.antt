-- Each loop keeps the sums of the lines passed, to the end of its band.
use mathlib.Core.Path.{◌≡◌, refl, ap, ◌∙◌}
use Prim.Native.Nat.{ℕ}
use native.Mathlib.Omega.{arith}
use Rattle.bands.specs.declared.Sums.{Sums}
use Rattle.bands.specs.Bands.{sum_of}
use Rattle.bands.specs.Inner.{sums_of}
use Rattle.bands.proofs.Sizes.{bounded}
use Rattle.hour.specs.Hour.{kept}
use Rattle.lines.specs.Lines.{printed_line}
use Rattle.selection.specs.Selection.{selected}
use Rattle.whole.specs.Sum.{sum_to}
use Rattle.step_two.specs.Inner.{up_to}
use Rattle.step_two.proofs.sums_of.Goals as goal

pub loop-i-init : goal.loop-i-init
unfolding sums_of sum_of sum_to
loop-i-init c = record { sums_are = refl; most = λ k. omega arith }

pub returns : goal.returns
returns c =
    let l = c.loop-i-3 in
    let a = c.args in
    let e : l.i ≡ 49 = omega arith in
    let W : ℕ → Sums = λ n. sums_of (up_to a.love a.selection a.hour.now.cosines a.hour.now.sines n) in (
      l.invariant.sums_are ∙ ap W e,
      bounded (selected a.selection (printed_line a.love)) (kept a.hour.now.cosines) (kept a.hour.now.sines) 472000 l.i (omega arith) (omega arith) l.invariant.sums_are l.invariant.most,
    )
