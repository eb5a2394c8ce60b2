-- What the sum of both steps asks of its callers, so that none leaves 64 bits.
use Rattle.std.specs.Prelude.{List, ◌^◌, ◌≤◌, ℤ, nat_abs}
use Rattle.bands.specs.declared.Corrections.{Corrections as LineCorrections}
use Rattle.bands.specs.Inner.{Small as SmallCorrections}
use Rattle.step_one.specs.Inner.{Small}
use Rattle.step_one.specs.StepOne.{Counts}

-- step one's counts of at most 2^53, and three small corrections
pub record ThreeSmall (by : List ℤ) (x y z : ℤ) : Type 0 where
  pub counts : Small 53 by
  pub first : nat_abs x ≤ 2 ^ 33
  pub second : nat_abs y ≤ 2 ^ 33
  pub third : nat_abs z ≤ 2 ^ 33

pub record Room (one : Counts) (two : LineCorrections) : Type 0 where
  pub in_c : Small 53 one.c
  pub in-s : Small 53 one.s
  pub lines : SmallCorrections two
