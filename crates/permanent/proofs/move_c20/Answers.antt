-- A C20 in range has room for both moves.
use borrow.Author.Tests.{leb-true}
use mathlib.Core.Path.{◌≡◌, refl, sym, ap, ◌∙◌}
use mathlib.Core.Bool.{true}
use Prim.Native.Nat.{◌^◌, ◌≤◌}
use native.Mathlib.Omega.{arith}
use lib.IntN.{ℤ, nat_abs, ◌+ℤ◌, ◌-ℤ◌}
use mir.Syntax.{w64}
use mir.Val.{SFits, to_z, of_z}
use mir.Facts.{to_z-of_z}
use Rattle.limits.specs.Limits.{is_entry}
use Rattle.whole.proofs.Machine.{back, sum_fits, difference_fits, abs_difference}
use Rattle.permanent.specs.Systems.{above_tide_free, moved_c20}
use Rattle.permanent.proofs.Constants.{above_small}
use Rattle.permanent.proofs.move_c20.Goals as goal
use Rattle.permanent.proofs.move_c20.Goals.{After-above_tide_free, After-above_tide_free-then-is_entry}

-- once the C20 was found in range, and what the first system has more is known
module _ (c : After-above_tide_free) where
  abbrev c20 : ℤ
  c20 = c.args.c20

  passed : is_entry c20 ≡ true
  passed = ap is_entry (sym (to_z-of_z c.ranges.c20)) ∙ sym c.is_entry.ensures ∙ c.if-is_entry.true

  small : nat_abs c20 ≤ 2 ^ 60
  small = leb-true (nat_abs c20) (2 ^ 60) passed

  abbrev have : ℤ
  have = above_tide_free c.args.from c.args.love

  have-is : to_z w64 (of_z w64 c.above_tide_free.result) ≡ have
  have-is = back w64 c.above_tide_free.result c.above_tide_free.type_inv ∙ c.above_tide_free.ensures

  lowered : SFits w64 (c20 -ℤ have)
  lowered = difference_fits w64 c20 have (omega (arith, small, above_small c.args.from c.args.love))

pub overflow_sub-result : goal.overflow_sub-result
overflow_sub-result c = rw (to_z-of_z c.ranges.c20, have-is (goal.at.overflow_sub-result c).After-above_tide_free) (lowered (goal.at.overflow_sub-result c).After-above_tide_free)

module _ (c : After-above_tide_free-then-is_entry) where
  abbrev want : ℤ
  want = above_tide_free c.args.to c.args.love

  want_is : to_z w64 (of_z w64 c.above_tide_free-then-is_entry.result) ≡ want
  want_is = back w64 c.above_tide_free-then-is_entry.result c.above_tide_free-then-is_entry.type_inv ∙ c.above_tide_free-then-is_entry.ensures

  raised : SFits w64 (c20 c.before -ℤ have c.before +ℤ want)
  raised =
      let a = c.args in
      sum_fits w64 (c20 c.before -ℤ have c.before) want
      (omega (arith, small c.before, abs_difference (c20 c.before) (have c.before), above_small a.from a.love, above_small a.to a.love))

pub overflow_add-result : goal.overflow_add-result
overflow_add-result c = rw (to_z-of_z c.ranges.c20, have-is (goal.at.overflow_add-result c).After-above_tide_free, to_z-of_z (lowered (goal.at.overflow_add-result c).After-above_tide_free), want_is (goal.at.overflow_add-result c).After-above_tide_free-then-is_entry) (raised (goal.at.overflow_add-result c).After-above_tide_free-then-is_entry)

pub returns-then-is_entry : goal.returns-then-is_entry
unfolding moved_c20
returns-then-is_entry c =
    rw (to_z-of_z c.ranges.c20, have-is (goal.at.returns-then-is_entry c).After-above_tide_free, to_z-of_z (lowered (goal.at.returns-then-is_entry c).After-above_tide_free), want_is (goal.at.returns-then-is_entry c).After-above_tide_free-then-is_entry, to_z-of_z (raised (goal.at.returns-then-is_entry c).After-above_tide_free-then-is_entry), passed (goal.at.returns-then-is_entry c).After-above_tide_free) refl

pub returns-else-is_entry : goal.returns-else-is_entry
unfolding moved_c20
returns-else-is_entry c =
    rw (ap is_entry (sym (to_z-of_z c.ranges.c20)) ∙ sym c.is_entry.ensures ∙ c.if-is_entry.false) refl
