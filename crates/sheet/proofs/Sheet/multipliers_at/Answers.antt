-- Six multipliers, in the arguments' order.
use mathlib.Core.Path.{ap, sym, ◌∙◌}
use Prim.Native.Nat.{ℕ, ◌+◌, ◌*◌, ◌^◌}
use native.Mathlib.Nat.{add-zero}
use mir.Syntax.{w32}
use Rattle.words.specs.Words.{byte_at, twos_complement}
use Rattle.sheet.specs.Sheet.{multiplier, multipliers}
use Rattle.sheet.proofs.Signs.{told}
use Rattle.sheet.proofs.Sheet.multipliers_at.Goals as goal

pub returns : goal.returns
unfolding multipliers multiplier
returns c =
    let s = c.args in
    let none = ap (λ (at : ℕ). twos_complement (2 ^ 7) (byte_at s.self.now.bytes.now at)) (sym (add-zero (2 + 6 * s.f))) in
    rw (
      told w32 c.signed_byte_at.type_inv (c.signed_byte_at.ensures ∙ none),
      told w32 c.signed_byte_at-2.type_inv c.signed_byte_at-2.ensures,
      told w32 c.signed_byte_at-3.type_inv c.signed_byte_at-3.ensures,
      told w32 c.signed_byte_at-4.type_inv c.signed_byte_at-4.ensures,
      told w32 c.signed_byte_at-5.type_inv c.signed_byte_at-5.ensures,
      told w32 c.signed_byte_at-6.type_inv c.signed_byte_at-6.ensures,
    )
