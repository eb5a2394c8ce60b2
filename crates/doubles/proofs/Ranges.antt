-- Whether a range of floats has x: whether its least is at most x, and x at most its largest.
use mathlib.Core.Path.{◌≡◌, refl}
use mathlib.Core.Bool.{Bool, true, false, cond, ◌&&◌, ◌||◌}
use lib.Ieee.{Float, le, lt, eq}
use Rattle.std.specs.Prelude.{Some, None}
use Rattle.std.proofs.Common.{Less, Equal, Greater}
use Rattle.std.specs.Ordering.{float_partial_cmp, partial_le, is_some_and, is_le}
use Rattle.std.specs.Range.{range_inclusive_start, range_inclusive_end, range_inclusive_exhausted, range_inclusive_contains}

at_most : (x y : Float) → partial_le float_partial_cmp x y ≡ le x y
unfolding le
at_most x y = by (lt x y) (eq x y) (lt y x)
  where
    by : (l e g : Bool) → is_some_and is_le (cond l (Some Less) (cond e (Some Equal) (cond g (Some Greater) None))) ≡ (l || e)
    by true e g = refl
    by false true g = refl
    by false false true = refl
    by false false false = refl

pub contained : (r : _) (a b x : Float) → range_inclusive_start r ≡ a → range_inclusive_end r ≡ b → range_inclusive_exhausted r ≡ false
    → range_inclusive_contains float_partial_cmp r x ≡ (le a x && le x b)
contained r a b x s e n = rw (s, e, n, at_most a x, at_most x b) refl
