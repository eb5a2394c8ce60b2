-- A Moon in rectangular coordinates and a Sun in a direction, worked through by computation; the counts are a second program's.
-- C20 is -3313986 less -4108147 elastic, -3388628 less -4200675 anelastic.
use mathlib.Core.Path.{◌≡◌, refl}
use mathlib.Core.List.{[], ◌∷◌}
use lib.IntN.{pos, neg_ℤ}
use Rattle.std.specs.Float.{float_is_finite}
use lib.Ieee.{round, neg, add, sub, mul, div, lt, eq, le}
use Rattle.whole.specs.Nearest.{signed, nearest}
use Rattle.doubles.specs.Doubles.{decimal, minus_decimal, number}
use Rattle.choices.specs.declared.LoveModel.{LoveModel}
use Rattle.choices.specs.declared.LoveModel.TheVariants.{Elastic, Anelastic}
use Rattle.refusals.specs.Told.Told.{accepted}
use Rattle.count.specs.Count.{count}
use Rattle.powers.specs.Powers.{E, F}
use Rattle.constants.specs.Love.{loves, loves3}
use Rattle.constants.specs.Norms.{norms, roots}
use Rattle.bodies.specs.declared.Body.{Body}
use Rattle.bodies.specs.declared.Place.TheVariants.{Rectangular, Directional}
use Rattle.bodies.specs.Bodies.{finite_body, in_reach, of_length_one, sighted}
use Rattle.potential.specs.Potential.{terms, shared}
use Rattle.response.specs.Response.{changes}
use Rattle.permanent.specs.Systems.{permanent_part}
use Rattle.step_one.specs.StepOne.{Counts, floats, all_countable, counts_c, counts_s, without_permanent, measured, corrections}

abbrev pub moon : Body
moon = record { ratio = decimal 1230002 100000000; place = Rectangular (number 330000000) (number 165000000) (number 110000000) (number 385000000) }

abbrev pub sun : Body
sun = record { ratio = number 332946; place = Directional (decimal 36 100) (minus_decimal 8 10) (decimal 48 100) (number 149600000000) }

abbrev pub expected : LoveModel → Counts
expected Elastic =
    record {
      c =
          pos 794161 ∷ pos 4144204 ∷ pos 2036702
          ∷ neg_ℤ (pos 12075) ∷ neg_ℤ (pos 10115) ∷ pos 9910 ∷ pos 4077
          ∷ pos 9765 ∷ neg_ℤ (pos 11109) ∷ neg_ℤ (pos 3896) ∷ [];
      s =
          pos 0 ∷ neg_ℤ (pos 698560) ∷ pos 3026912
          ∷ pos 0 ∷ neg_ℤ (pos 5061) ∷ pos 13217 ∷ pos 22539
          ∷ pos 0 ∷ pos 1873 ∷ neg_ℤ (pos 5790) ∷ [];
    }
expected Anelastic =
    record {
      c =
          pos 812047 ∷ pos 4198242 ∷ pos 2044069
          ∷ neg_ℤ (pos 12075) ∷ neg_ℤ (pos 10115) ∷ pos 9910 ∷ pos 4077
          ∷ pos 9990 ∷ neg_ℤ (pos 11250) ∷ neg_ℤ (pos 3896) ∷ [];
      s =
          pos 0 ∷ neg_ℤ (pos 686843) ∷ pos 3066369
          ∷ pos 0 ∷ neg_ℤ (pos 5061) ∷ pos 13217 ∷ pos 22539
          ∷ pos 0 ∷ pos 1896 ∷ neg_ℤ (pos 5790) ∷ [];
    }

pub moon_and_sun : (love : LoveModel) → corrections moon sun love ≡ accepted (expected love)
unfolding corrections sighted finite_body float_is_finite in_reach of_length_one measured floats changes all_countable counts_c counts_s without_permanent permanent_part shared terms loves loves3 norms roots E F count signed nearest round neg add sub mul div lt eq le
moon_and_sun Elastic = refl
moon_and_sun Anelastic = refl
