-- A line has an argument where the machine reads a multiplier that is not zero.
use borrow.Author.Tests.{ne_eqb, lt-ltb}
use mathlib.Core.Bool.{not}
use mathlib.Core.Path.{◌≡◌, refl, ap, ◌∙◌}
use Prim.Native.Nat.{zero, suc, ◌-◌}
use native.Mathlib.Omega.{arith}
use lib.Dec.{ltb, eqb}
use lib.IntN.{ℤ, pos, negsuc, nat_abs}
use mir.Syntax.{w32}
use mir.Val.{SFits, of_z}
use Rattle.hour.specs.Hour.{has_argument}
use Rattle.std.proofs.Common.{rules}
use Rattle.hour.proofs.is_renewed.Goals as goal

not-zero : (z : ℤ) → SFits w32 z → not (eqb (of_z w32 z) 0) ≡ ltb 0 (nat_abs z)
not-zero (pos zero) h = refl
not-zero (pos (suc n)) h = rw (ne_eqb (suc n) 0 (λ e. omega arith), lt-ltb 0 (suc n) (omega arith)) refl
not-zero (negsuc n) h = let l = h.sfits in rw (ne_eqb (4294967296 - suc n) 0 (λ e. omega arith), lt-ltb 0 (suc n) (omega arith)) refl

pub returns-in-Some : goal.returns-in-Some
unfolding has_argument
returns-in-Some c =
    let f : SFits w32 c.multiplier_of.result = search rules in
    rw c.in-Some.is (not-zero c.multiplier_of.result f ∙ ap (λ (z : ℤ). ltb 0 (nat_abs z)) c.multiplier_of.ensures)
