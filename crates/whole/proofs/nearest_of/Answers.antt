-- The size is rounded, a half up, and gets the sign back: the law of either sign.
use Rattle.std.proofs.Common.{◌≡◌, sym, ap, ◌∙◌, ℕ, ◌+◌, ◌/◌, ◌^◌, ◌<◌, ℤ, pos, neg_ℤ, nat_abs, w64, to_z, to_z-of_z, arith}
use native.Mathlib.Nat.{div-mul-le_self, mul-le-mul_left}
use mir.Facts.{to_z_pos}
use Rattle.whole.specs.Nearest.{nearest}
use Rattle.whole.proofs.Machine.{minus_read}
use Rattle.whole.proofs.Signs.{below_zero, from_zero}
use Rattle.whole.proofs.Rounding.{nearest_above, nearest_below}
use Rattle.whole.proofs.nearest_of.Goals as goal
use Rattle.whole.proofs.nearest_of.Goals.{After-half_up-size}

-- the size as it was rounded
module _ (c : After-half_up-size) where
  abbrev x : ℤ
  x = c.before.before.args.x

  abbrev n : ℕ
  n = c.before.before.args.n

  abbrev size : ℕ
  size = c.half_up-size.result

  size_is : size ≡ (nat_abs x + n / 2) / n
  size_is = rw (c.before.unsigned_abs.ensures.value, to_z-of_z c.before.before.ranges.x) at c.half_up-size.ensures

  small : size < 2 ^ 63
  small =
      let q = (nat_abs x + n / 2) / n in
      omega (arith, size_is, c.before.before.requires.1, div-mul-le_self (nat_abs x + n / 2) n, mul-le-mul_left q c.before.before.requires.0)

  held : to_z w64 size ≡ pos size
  held = to_z_pos w64 small

pub returns-then-x-lt0 : goal.returns-then-x-lt0
returns-then-x-lt0 c =
    let h = c.before in
    minus_read w64 (size h) (held h) (small h)
    ∙ ap (λ (a : ℕ). neg_ℤ (pos a)) (size_is h)
    ∙ sym (nearest_below (nat_abs (x h)) (n h) h.before.before.requires.0)
    ∙ ap (λ (z : ℤ). nearest z (n h)) (sym (below_zero (x h) (rw (to_z-of_z h.before.before.ranges.x) at c.if-x-lt0.true)))

pub returns-else-x-lt0 : goal.returns-else-x-lt0
returns-else-x-lt0 c =
    let h = c.before in
    held h ∙ ap pos (size_is h) ∙ sym (nearest_above (nat_abs (x h)) (n h))
    ∙ ap (λ (z : ℤ). nearest z (n h)) (sym (from_zero (x h) (rw (to_z-of_z h.before.before.ranges.x) at c.if-x-lt0.false)))
