-- One flag takes every byte of the lines in turn, six to a line.
use mathlib.Core.Path.{◌≡◌, ap, ◌∙◌}
use mathlib.Core.List.{List}
use Prim.Native.Nat.{ℕ, ◌+◌, ◌*◌, ◌^◌}
use native.Mathlib.Omega.{arith}
use mir.Syntax.{w32}
use Rattle.limits.specs.Limits.{is_multiplier}
use Rattle.words.specs.Words.{byte_at, twos_complement}
use Rattle.whole.specs.Sum.{all_to}
use Rattle.whole.proofs.Counted.{all_none, all_more, all_same}
use Rattle.sheet.specs.Sheet.{line_count, multiplier}
use Rattle.sheet.specs.Accepted.{line_valid}
use Rattle.sheet.proofs.Flat.{all_rows}
use Rattle.sheet.proofs.Signs.{told}
use Rattle.sheet_lines.proofs.are_lines.Invariants.{byte_valid}
use Rattle.sheet_lines.proofs.are_lines.Goals as goal

by_lines : (s : List ℕ) (n : ℕ) → all_to (byte_valid s) (6 * n) ≡ all_to (line_valid s) n
unfolding byte_valid line_valid multiplier
by_lines s n =
    all_rows 6 (byte_valid s) n
    ∙ all_same (λ k. all_to (λ q. byte_valid s (6 * k + q)) 6) (line_valid s) n
    (λ k h. all_same (λ q. byte_valid s (6 * k + q)) (λ q. is_multiplier (multiplier s k q)) 6
    (λ q g. ap (λ (at : ℕ). is_multiplier (twos_complement (2 ^ 7) (byte_at s at))) (omega arith)))

pub loop-i-init : goal.loop-i-init
loop-i-init c = all_none _

pub loop-i-preserved : goal.loop-i-preserved
unfolding byte_valid
loop-i-preserved c =
    let b = c.signed_byte_at in
    all_more (byte_valid c.args.sheet.now.bytes.now) c.loop-i.i c.loop-i.invariant (c.is_multiplier-good.ensures ∙ ap is_multiplier (told w32 b.type_inv b.ensures))

pub returns : goal.returns
returns c =
    let s = c.args.sheet.now.bytes.now in
    let e : c.loop-i.i ≡ 6 * line_count s = omega arith in
    c.loop-i.invariant ∙ ap (all_to (byte_valid s)) e ∙ by_lines s (line_count s)
