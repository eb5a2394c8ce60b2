-- Each wrapping add is the sum modulo a turn, and a sum's parts may be reduced before it is taken.
use Rattle.std.proofs.Common.{rules, ◌≡◌, ℕ, ◌+◌, ◌%◌, ◌^◌, ◌<◌, ℤ, pos, ◌+ℤ◌, ◌*ℤ◌, arith, w32, to_z, of_z}
use lib.Signed.{mag}
use Rattle.whole.proofs.Machine.{back}
use Rattle.arguments.specs.Phase.{modulo, phase}
use Rattle.arguments.proofs.Modulo.{modulo_sum}
use Rattle.arguments.proofs.phase_of.Goals as goal

-- a multiple, of the multiplier that the machine reads back
alone : (m a : ℕ) (k : ℤ) → mag k < 2 ^ 31 → m ≡ modulo (to_z w32 (of_z w32 k) *ℤ pos a) (2 ^ 32) → m ≡ modulo (k *ℤ pos a) (2 ^ 32)
alone m a k h e = rw (back w32 k h) at e

-- one argument more
more : (s m a : ℕ) (y k : ℤ) → mag k < 2 ^ 31
    → s ≡ modulo y (2 ^ 32) → m ≡ modulo (to_z w32 (of_z w32 k) *ℤ pos a) (2 ^ 32) → (s + m) % 2 ^ 32 ≡ modulo (y +ℤ k *ℤ pos a) (2 ^ 32)
more s m a y k h e f = rw (e, alone m a k h f) (modulo_sum (2 ^ 32) (omega arith) y (k *ℤ pos a))

pub returns : goal.returns
unfolding phase
returns c =
    let m = c.args.m in
    let b = c.args.b in
    let s₁ = alone _ b.tau m.tau (search rules) c.multiple.ensures in
    let s₂ = more _ _ b.s _ m.s (search rules) s₁ c.multiple-2.ensures in
    let s₃ = more _ _ b.h _ m.h (search rules) s₂ c.multiple-3.ensures in
    let s₄ = more _ _ b.p _ m.p (search rules) s₃ c.multiple-4.ensures in
    let s₅ = more _ _ b.np _ m.np (search rules) s₄ c.multiple-5.ensures in
    more _ _ b.ps _ m.ps (search rules) s₅ c.multiple-6.ensures
