-- Each value has its test, of the value as it arrives.
use Rattle.std.proofs.Common.{rules}
use mathlib.Core.Bool.{Bool, ◌&&◌}
use mathlib.Core.Path.{◌≡◌, ap, ◌∙◌}
use Prim.Native.Nat.{◌^◌, ◌<◌}
use lib.IntN.{ℤ}
use lib.Signed.{mag}
use mir.Syntax.{Width, w32, w64}
use mir.Val.{hbits, to_z, of_z}
use Rattle.limits.specs.Limits.{is_first_multiplier, is_multiplier, is_amplitude}
use Rattle.whole.proofs.Machine.{back}
use Rattle.own.specs.Own.{in_range}
use Rattle.own.proofs.is_in_range.Goals as goal

read-test : {r : Bool} (w : Width) (test : ℤ → Bool) (z : ℤ) → mag z < 2 ^ hbits w → r ≡ test (to_z w (of_z w z)) → r ≡ test z
read-test w test z f e = e ∙ ap test (back w z f)

pub returns : goal.returns
unfolding in_range
returns c =
    let l = c.args.line in
    λ i. read-test w32 is_first_multiplier l.multipliers.tau (search rules) c.is_first_multiplier.ensures i
    && read-test w32 is_multiplier l.multipliers.s (search rules) c.is_multiplier.ensures i
    && read-test w32 is_multiplier l.multipliers.h (search rules) c.is_multiplier-2.ensures i
    && read-test w32 is_multiplier l.multipliers.p (search rules) c.is_multiplier-3.ensures i
    && read-test w32 is_multiplier l.multipliers.np (search rules) c.is_multiplier-4.ensures i
    && read-test w32 is_multiplier l.multipliers.ps (search rules) c.is_multiplier-5.ensures i
    && read-test w64 is_amplitude l.ip (search rules) c.is_amplitude.ensures i
    && read-test w64 is_amplitude l.op (search rules) c.is_amplitude-2.ensures i
