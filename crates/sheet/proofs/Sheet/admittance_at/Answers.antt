-- Line f is the f-th word of row k, within a whole sheet.
use mathlib.Core.Path.{ap, ◌∙◌}
use Prim.Native.Nat.{ℕ, ◌+◌, ◌*◌, ◌^◌}
use mir.Syntax.{w64}
use Rattle.whole.proofs.Machine.{back}
use Rattle.words.specs.Words.{word_at, twos_complement}
use Rattle.sheet.specs.Sheet.{admittance}
use Rattle.sheet.proofs.Sheet.admittance_at.Goals as goal

pub returns : goal.returns
unfolding admittance
returns c =
    let s = c.args in
    let r = c.signed_at in
    let e = ap (λ (at : ℕ). twos_complement (2 ^ 31) (word_at s.self.now.bytes.now (at + 4 * s.f))) c.row_start.ensures in
    rw (back w64 r.result r.type_inv) (r.ensures.0 ∙ e, r.ensures.1)
