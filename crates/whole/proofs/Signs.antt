-- A number of the machine by its sign and its size.
use mathlib.Core.Path.{◌≡◌, refl, subst}
use mathlib.Core.Bool.{true, false}
use Prim.Native.Nat.{◌+◌, ◌^◌, ◌<◌}
use native.Mathlib.Omega.{arith}
use borrow.Author.Tests.{ltb-true}
use lib.Dec.{T}
use lib.IntN.{ℤ, pos, negsuc, neg_ℤ, nat_abs, ◌-ℤ◌}
use lib.Signed.{lt_z, non_neg}
use mir.Syntax.{w64}
use mir.Val.{SFits}
use Rattle.whole.proofs.Parts.{same, difference}

pub below_zero : (z : ℤ) → lt_z z (pos 0) ≡ true → z ≡ neg_ℤ (pos (nat_abs z))
below_zero (pos n) e = absurd (omega (arith, ltb-true n 0 e))
below_zero (negsuc n) e = refl

pub from_zero : (z : ℤ) → lt_z z (pos 0) ≡ false → z ≡ pos (nat_abs z)
from_zero (pos n) e = refl
from_zero (negsuc n) e = absurd (subst T e tt)

-- the machine may take a negative number from -1, and finds one less than its size
pub record Reversed (z r : ℤ) : Type 0 where
  pub fits : SFits w64 r
  pub not_negative : T (non_neg r)
  pub size : nat_abs r + 1 ≡ nat_abs z
  pub small : nat_abs r < 2 ^ 63

pub reversed : (z : ℤ) → SFits w64 z → lt_z z (pos 0) ≡ true → Reversed z (negsuc 0 -ℤ z)
reversed (pos n) f e = absurd (omega (arith, ltb-true n 0 e))
reversed (negsuc n) f e =
    let r : negsuc 0 -ℤ negsuc n ≡ pos n = same (negsuc 0 -ℤ negsuc n) (pos n) (omega (arith, difference (negsuc 0) (negsuc n))) in
    rw r (record { fits = record { sfits = f.sfits }; not_negative = tt; size = omega arith; small = f.sfits })

-- a number that is not negative is its size
pub kept : (z : ℤ) → SFits w64 z → lt_z z (pos 0) ≡ false → T (non_neg z) × (nat_abs z < 2 ^ 63)
kept (pos n) f e = (tt, f.sfits)
kept (negsuc n) f e = absurd (subst T e tt)
