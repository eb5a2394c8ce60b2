-- The three demands hold.
use mathlib.Core.List.{List}
use Prim.Native.Nat.{ℕ}
use lib.IntN.{ℤ}
use Rattle.doodson.proofs.RoundTrip.{number_again, multipliers_again}
use Rattle.field.specs.Field.{place}
use Rattle.permanent.proofs.RoundTrip.{there_and_back}
use Rattle.refusals.specs.Outcome.{unless_refused}
use Rattle.refusals.proofs.Outcomes.{outcome_number, refused_untouched}
use Rattle.surfgimlet.specs.Calls.{solid_by, solid_tide, five_corrected, own_lines, pole_tide, ocean_tide}
use Rattle.demands.specs.Demands.{Refuses, First, Second, Third, Demands}
use Rattle.demands.proofs.Solid as solid
use Rattle.demands.proofs.Five as five
use Rattle.demands.proofs.Ocean.{c_here, s_here, c_elsewhere, s_elsewhere, s_zonal}
use Rattle.demands.proofs.Pole as pole
use Rattle.demands.proofs.Close as close

refuses : (number : ℕ) (c s c' s' : List ℤ) → Refuses (unless_refused number c s c' s') number c s
refuses number c s c' s' = record {
  answered = outcome_number number c s c' s';
  kept_c = λ h. (refused_untouched number c s c' s' h).0;
  kept_s = λ h. (refused_untouched number c s c' s' h).1;
}

pub first : First
unfolding solid_tide solid_by five_corrected own_lines pole_tide ocean_tide
first = record {
  solid-tide = λ n c s moon sun love hour selection. refuses _ c s _ _;
  own-lines = λ n c s lines phases. refuses _ c s _ _;
  pole-tide = λ n c s xp yp love. refuses _ c s _ _;
  ocean-tide = λ n c s sheet phases frame. refuses _ c s _ _;
}

pub second : Second
unfolding place
second = record {
  solid-tide = solid.solid-tide;
  any_hour = solid.any_hour;
  own-lines = five.own-lines;
  pole-tide = pole.pole-tide;
  ocean-tide = λ n c s sheet phases frame e. record {
    c_here = c_here n c s sheet phases frame e;
    s_here = s_here n c s sheet phases frame e;
    c_elsewhere = c_elsewhere n c s sheet phases frame e;
    s_elsewhere = s_elsewhere n c s sheet phases frame e;
    order_zero = s_zonal n c s sheet phases frame e;
  };
  doodson_back = number_again;
  multipliers_back = multipliers_again;
  c20_back = there_and_back;
}

pub third : Third
third = record { solid-tide = close.solid-tide; own-lines = close.own-lines; pole-tide = close.pole-tide; ocean-tide = close.ocean-tide }

pub demands : Demands
demands = record { first = first; second = second; third = third }
