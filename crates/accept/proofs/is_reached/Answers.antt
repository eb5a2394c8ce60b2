-- Places ascend, so that the last has the highest degree.
use mathlib.Core.Path.{◌≡◌, ap, ◌∙◌}
use Prim.Native.Nat.{ℕ, ◌-◌}
use native.Mathlib.Omega.{arith}
use borrow.Author.Tests.{eq-eqb}
use lib.Dec.{leb}
use Rattle.whole.proofs.Counted.{all_none}
use Rattle.sheet.specs.Sheet.{place_count, degree}
use Rattle.sheet.specs.Accepted.{reached}
use Rattle.sheet.proofs.Acceptance.{accepted, last_reached}
use Rattle.accept.proofs.is_reached.Goals as goal

pub returns-then-places-eq0 : goal.returns-then-places-eq0
unfolding reached
returns-then-places-eq0 c =
    let a = c.args.accepted.now in
    let e : place_count a.sheet.bytes.now ≡ 0 = omega (arith, a.sheet.laid.places) in
    rw e (eq-eqb _ 0 (omega arith) ∙ all_none _)

pub returns-else-places-eq0 : goal.returns-else-places-eq0
returns-else-places-eq0 c =
    let a = c.args.accepted.now in
    let s = a.sheet.bytes.now in
    let n = c.args.n in
    let p = a.sheet.laid.places in
    ap (λ (d : ℕ). leb d n) c.degree_at.ensures ∙ ap (λ (k : ℕ). leb (degree s (k - 1)) n) p ∙ last_reached (accepted s a.own) n (omega (arith, p))
