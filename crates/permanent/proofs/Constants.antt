-- The three constants: each is the nearest count of its product, and none is large.
use mathlib.Core.Path.{◌≡◌, refl}
use Prim.Native.Nat.{ℕ, ◌*◌, ◌^◌, ◌≤◌}
use lib.Dec.{lit≤}
use lib.IntN.{ℤ, pos, neg_ℤ, nat_abs, ◌-ℤ◌}
use Rattle.choices.specs.declared.LoveModel.{LoveModel}
use Rattle.choices.specs.declared.LoveModel.TheVariants.{Elastic, Anelastic}
use Rattle.choices.specs.declared.PermanentSystem.{PermanentSystem}
use Rattle.choices.specs.declared.PermanentSystem.TheVariants.{TideFree, Zero, Mean}
use Rattle.whole.specs.Nearest.{nearest}
use Rattle.permanent.specs.Systems.{permanent_part, above_tide_free}

-- A0 = 4.4228 * 10^-8, H0 = -0.31460: their product is this over 10^17, so over 10^2 in counts
abbrev a0h0 : ℤ
a0h0 = neg_ℤ (pos (44228 * 31460))

-- k20 in hundred-thousandths: 0.29525, 0.30190
abbrev k20 : LoveModel → ℕ
k20 Elastic = 29525
k20 Anelastic = 30190

-- A0*H0*k20, to the nearest count
pub permanent_part_nearest : (love : LoveModel) → permanent_part love ≡ nearest (neg_ℤ (pos (44228 * 31460 * k20 love))) (10 ^ 7)
unfolding permanent_part nearest
permanent_part_nearest Elastic = refl
permanent_part_nearest Anelastic = refl

-- A0*H0, to the nearest count
pub mean_above_zero_nearest : (love : LoveModel) → above_tide_free Mean love -ℤ above_tide_free Zero love ≡ nearest a0h0 (10 ^ 2)
unfolding above_tide_free permanent_part nearest
mean_above_zero_nearest Elastic = refl
mean_above_zero_nearest Anelastic = refl

pub part_small : (love : LoveModel) → nat_abs (permanent_part love) ≤ 2 ^ 25
unfolding permanent_part
part_small Elastic = lit≤ tt
part_small Anelastic = lit≤ tt

pub above_small : (system : PermanentSystem) (love : LoveModel) → nat_abs (above_tide_free system love) ≤ 2 ^ 25
unfolding above_tide_free permanent_part
above_small TideFree love = lit≤ tt
above_small Zero love = part_small love
above_small Mean Elastic = lit≤ tt
above_small Mean Anelastic = lit≤ tt
