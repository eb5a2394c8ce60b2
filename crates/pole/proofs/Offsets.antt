-- Offsets that are not refused.
use borrow.Author.Tests.{leb-true, le-leb}
use mathlib.Core.Bool.{Bool, true, false, ◌&&◌, cond}
use mathlib.Core.Logic.{◌↔◌}
use mathlib.Core.Path.{◌≡◌, refl}
use Prim.Native.Nat.{ℕ, ◌≤◌}
use native.Mathlib.Omega.{arith}
use lib.IntN.{ℤ, neg_ℤ, nat_abs}
use mir.Syntax.{w64}
use mir.Val.{SFits}
use mir.Facts.{to_z-of_z}
use Rattle.limits.specs.Limits.{is_pole_offset}
use Rattle.whole.proofs.Held.{Held}
use Rattle.whole.proofs.Machine.{read}
use Rattle.whole.proofs.Parts.{abs_neg}
use Rattle.whole.proofs.Tests.{and_left, and_right}
use Rattle.pole.specs.Pole.{offsets_refusal}

module _ (xp yp : ℤ) (accepted : offsets_refusal xp yp ≡ 0) where
  both : (is_pole_offset xp && is_pole_offset yp) ≡ true
  unfolding offsets_refusal
  both = by (is_pole_offset xp && is_pole_offset yp) accepted
    where
      by : (b : Bool) → ◌≡◌ {A = ℕ} (cond b 0 15) 0 → b ≡ true
      by true e = refl
      by false e = absurd (omega (arith, e))

  pub x_offset : is_pole_offset xp ≡ true
  x_offset = and_left (is_pole_offset xp) (is_pole_offset yp) both

  pub y_offset : is_pole_offset yp ≡ true
  y_offset = and_right (is_pole_offset xp) (is_pole_offset yp) both

-- 15 is answered beyond an arcsecond of either offset, and nowhere else
pub within_an_arcsecond : (xp yp : ℤ) → offsets_refusal xp yp ≡ 0 ↔ ((nat_abs xp ≤ 1000000) × (nat_abs yp ≤ 1000000))
unfolding offsets_refusal
within_an_arcsecond xp yp =
    (λ e. (leb-true _ _ (x_offset xp yp e), leb-true _ _ (y_offset xp yp e)), λ h. rw (le-leb _ _ h.0, le-leb _ _ h.1) refl)

pub minus_offset : (z : ℤ) → is_pole_offset z ≡ true → is_pole_offset (neg_ℤ z) ≡ true
minus_offset z offset = rw (abs_neg z) offset

pub offset_held : (z : ℤ) → SFits w64 z → is_pole_offset z ≡ true → Held (read z) z 1000000
offset_held z fits offset = record { reads = to_z-of_z fits; most = leb-true _ _ offset }
