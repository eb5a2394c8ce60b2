-- A count of at most 2^52 has room for the permanent part.
use mathlib.Core.List.{List, [], ◌∷◌}
use Prim.Native.Nat.{ℕ, zero, suc, ◌^◌, ◌≤◌}
use native.Mathlib.Omega.{arith}
use lib.IntN.{ℤ, pos, nat_abs, ◌-ℤ◌}
use lib.ListN.{get_or, set}
use Rattle.whole.proofs.Machine.{abs_difference}
use Rattle.choices.specs.declared.LoveModel.{LoveModel}
use Rattle.permanent.specs.Systems.{permanent_part}
use Rattle.permanent.proofs.Constants.{part_small}
use Rattle.step_one.specs.StepOne.{without_permanent}
use Rattle.step_one.specs.Inner.{Small}

-- one count of ten put anew
set_small : (by : List ℤ) (z : ℤ) → Small 52 by → nat_abs z ≤ 2 ^ 53 → Small 53 (set by 0 z)
set_small [] z h l = record { size = λ k. omega arith }
set_small (x ∷ by) z h l = record { size = go }
  where
    go : (k : ℕ) → nat_abs (get_or (z ∷ by) k (pos 0)) ≤ 2 ^ 53
    go zero = l
    go (suc k) = omega (arith, h.size (suc k))

module _ (love : LoveModel) (by : List ℤ) (h : Small 52 by) where
  pub less-small : nat_abs (get_or by 0 (pos 0) -ℤ permanent_part love) ≤ 2 ^ 53
  less-small = omega (arith, h.size 0, part_small love, abs_difference (get_or by 0 (pos 0)) (permanent_part love))

  pub without_small : Small 53 (without_permanent love by)
  unfolding without_permanent
  without_small = set_small by (get_or by 0 (pos 0) -ℤ permanent_part love) h less-small
