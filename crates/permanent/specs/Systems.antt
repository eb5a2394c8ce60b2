-- Document 01, "Permanent systems", with the permanent part of "Step one".
use Rattle.std.specs.Prelude.{cond, ℤ, pos, neg_ℤ, ◌+ℤ◌, ◌-ℤ◌}
use Rattle.choices.specs.declared.LoveModel.{LoveModel}
use Rattle.choices.specs.declared.LoveModel.TheVariants.{Elastic, Anelastic}
use Rattle.choices.specs.declared.PermanentSystem.{PermanentSystem}
use Rattle.choices.specs.declared.PermanentSystem.TheVariants.{TideFree, Zero, Mean}
use Rattle.refusals.specs.Told.{Told}
use Rattle.refusals.specs.Told.Told.{accepted, refused}
use Rattle.limits.specs.Limits.{is_entry}

-- the permanent part: -4108147 elastic, -4200675 anelastic
unfoldable pub permanent_part : LoveModel → ℤ
permanent_part Elastic = neg_ℤ (pos 4108147)
permanent_part Anelastic = neg_ℤ (pos 4200675)

-- what a C20 of a system has more than a tide-free one: zero = tide-free plus the permanent part; mean = zero plus -13914129
unfoldable pub above_tide_free : PermanentSystem → LoveModel → ℤ
above_tide_free TideFree love = pos 0
above_tide_free Zero love = permanent_part love
above_tide_free Mean love = permanent_part love +ℤ neg_ℤ (pos 13914129)

-- one C20 in the system it is in, moved to the one wanted; 2 where it is outside the range
unfoldable pub moved_c20 : ℤ → PermanentSystem → PermanentSystem → LoveModel → Told ℤ
moved_c20 c20 from to love =
    cond (is_entry c20) (accepted (c20 -ℤ above_tide_free from love +ℤ above_tide_free to love)) (refused 2)
