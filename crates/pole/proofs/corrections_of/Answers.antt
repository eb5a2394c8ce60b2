-- Minus an offset is an offset, and a sign before a product may stand at its factors.
use mathlib.Core.Bool.{true}
use mathlib.Core.List.{[], ◌∷◌}
use mathlib.Core.Path.{◌≡◌, ap, ap₂, ◌∙◌}
use Prim.Native.Nat.{◌^◌, ◌<◌}
use native.Mathlib.Omega.{arith}
use lib.IntN.{ℤ, pos, neg_ℤ, nat_abs, ◌+ℤ◌, ◌-ℤ◌, ◌*ℤ◌}
use mir.Syntax.{w64}
use mir.Val.{SFits, of_z}
use mir.Facts.{to_z-of_z}
use Rattle.limits.specs.Limits.{is_pole_offset}
use Rattle.whole.specs.Nearest.{nearest}
use Rattle.whole.proofs.Machine.{back, read, minus_fits, minus_read}
use Rattle.whole.proofs.Ring.{equal, !, #, ◌⊕◌, ◌⊖◌, ◌⊗◌, ⊝}
use Rattle.pole.specs.Pole.{exact_c21, exact_s21, corrections}
use Rattle.pole.proofs.Offsets.{x_offset, y_offset, offset_held, minus_offset}
use Rattle.pole.proofs.corrections_of.Goals as goal
use Rattle.pole.proofs.corrections_of.Goals.{Start}

-- an offset as the machine holds it, and minus it
module _ (z : ℤ) (fits : SFits w64 z) (offset : is_pole_offset z ≡ true) where
  small : nat_abs z < 2 ^ 63
  small = omega (arith, (offset_held z fits offset).most)

  minus-room : SFits w64 (pos 0 -ℤ read z)
  minus-room = minus_fits w64 (of_z w64 z) (to_z-of_z fits) small

  minus_is : read (pos 0 -ℤ read z) ≡ neg_ℤ z
  minus_is = minus_read w64 (of_z w64 z) (to_z-of_z fits) small

  offset_read : is_pole_offset (read z) ≡ true
  offset_read = rw (to_z-of_z fits) offset

  minus-offset-read : is_pole_offset (read (pos 0 -ℤ read z)) ≡ true
  minus-offset-read = rw minus_is (minus_offset z offset)

module _ (c : Start) where
  abbrev xp : ℤ
  xp = c.args.xp

  abbrev yp : ℤ
  yp = c.args.yp

  x-is : is_pole_offset xp ≡ true
  x-is = x_offset xp yp c.requires

  y-is : is_pole_offset yp ≡ true
  y-is = y_offset xp yp c.requires

  minus-x : read (pos 0 -ℤ read xp) ≡ neg_ℤ xp
  minus-x = minus_is xp c.ranges.xp x-is

  minus-y : read (pos 0 -ℤ read yp) ≡ neg_ℤ yp
  minus-y = minus_is yp c.ranges.yp y-is

  -- the four numbers that the code hands on are offsets
  offsets : (is_pole_offset (read xp) ≡ true) × (is_pole_offset (read yp) ≡ true) × (is_pole_offset (read (pos 0 -ℤ read xp)) ≡ true) × (is_pole_offset (read (pos 0 -ℤ read yp)) ≡ true)
  offsets =
      (offset_read xp c.ranges.xp x-is, offset_read yp c.ranges.yp y-is, minus-offset-read xp c.ranges.xp x-is, minus-offset-read yp c.ranges.yp y-is)

-- the definition's signs
module _ (x y : ℤ) where
  first-elastic : pos 1290 *ℤ neg_ℤ x ≡ neg_ℤ (pos 1290) *ℤ x
  first-elastic = equal (# (pos 1290) ⊗ ⊝ (! 0)) (⊝ (# (pos 1290)) ⊗ ! 0) (x ∷ []) (omega arith)

  first-anelastic : pos 1348 *ℤ (pos 10000 *ℤ neg_ℤ x +ℤ pos 112 *ℤ neg_ℤ y) ≡ neg_ℤ (pos 1348) *ℤ (pos 10000 *ℤ x +ℤ pos 112 *ℤ y)
  first-anelastic =
      equal (# (pos 1348) ⊗ (# (pos 10000) ⊗ ⊝ (! 0) ⊕ # (pos 112) ⊗ ⊝ (! 1))) (⊝ (# (pos 1348)) ⊗ (# (pos 10000) ⊗ ! 0 ⊕ # (pos 112) ⊗ ! 1)) (x ∷ y ∷ []) (omega arith)

  second-anelastic : pos 1348 *ℤ (pos 10000 *ℤ y +ℤ pos 112 *ℤ neg_ℤ x) ≡ pos 1348 *ℤ (pos 10000 *ℤ y -ℤ pos 112 *ℤ x)
  second-anelastic =
      equal (# (pos 1348) ⊗ (# (pos 10000) ⊗ ! 1 ⊕ # (pos 112) ⊗ ⊝ (! 0))) (# (pos 1348) ⊗ (# (pos 10000) ⊗ ! 1 ⊖ # (pos 112) ⊗ ! 0)) (x ∷ y ∷ []) (omega arith)

pub overflow_sub-minus_xp : goal.overflow_sub-minus_xp
overflow_sub-minus_xp c = minus-room c.args.xp c.ranges.xp (x-is (goal.at.overflow_sub-minus_xp c).Start)

pub overflow_sub-minus_yp : goal.overflow_sub-minus_yp
overflow_sub-minus_yp c = minus-room c.args.yp c.ranges.yp (y-is (goal.at.overflow_sub-minus_yp c).Start)

pub elastic-requires : goal.elastic-requires
elastic-requires c = search (offsets (goal.at.elastic-requires c).Start)

pub elastic-requires-in-Elastic : goal.elastic-requires-in-Elastic
elastic-requires-in-Elastic c = search (offsets (goal.at.elastic-requires-in-Elastic c).Start)

pub anelastic-requires : goal.anelastic-requires
anelastic-requires c =
    let o = offsets (goal.at.anelastic-requires c).Start in
    record { x_value = search o; y_value = search o }

pub anelastic-requires-in-Anelastic : goal.anelastic-requires-in-Anelastic
anelastic-requires-in-Anelastic c =
    let o = offsets (goal.at.anelastic-requires-in-Anelastic c).Start in
    record { x_value = search o; y_value = search o }

pub returns-in-Elastic : goal.returns-in-Elastic
unfolding corrections exact_c21 exact_s21
returns-in-Elastic c =
    let by : ℤ → ℤ = λ z. nearest (pos 1290 *ℤ z) 1000 in
    rw c.in-Elastic.is λ i. record {
      c21 = (back w64 c.elastic.result c.elastic.type_inv ∙ c.elastic.ensures ∙ ap by (minus-x (goal.at.returns-in-Elastic c).Start) ∙ ap (λ (z : ℤ). nearest z 1000) (first-elastic (xp (goal.at.returns-in-Elastic c).Start) (yp (goal.at.returns-in-Elastic c).Start))) i;
      s21 = (back w64 c.elastic-in-Elastic.result c.elastic-in-Elastic.type_inv ∙ c.elastic-in-Elastic.ensures ∙ ap by (to_z-of_z c.ranges.yp)) i;
    }

pub returns-in-Anelastic : goal.returns-in-Anelastic
unfolding corrections exact_c21 exact_s21
returns-in-Anelastic c =
    let by : ℤ → ℤ → ℤ = λ x y. nearest (pos 1348 *ℤ (pos 10000 *ℤ x +ℤ pos 112 *ℤ y)) (10 ^ 7) in
    let over : ℤ → ℤ = λ z. nearest z (10 ^ 7) in
    rw c.in-Anelastic.is λ i. record {
      c21 = (back w64 c.anelastic.result c.anelastic.type_inv ∙ c.anelastic.ensures ∙ ap₂ by (minus-x (goal.at.returns-in-Anelastic c).Start) (minus-y (goal.at.returns-in-Anelastic c).Start) ∙ ap over (first-anelastic (xp (goal.at.returns-in-Anelastic c).Start) (yp (goal.at.returns-in-Anelastic c).Start))) i;
      s21 = (back w64 c.anelastic-in-Anelastic.result c.anelastic-in-Anelastic.type_inv ∙ c.anelastic-in-Anelastic.ensures ∙ ap₂ by (to_z-of_z c.ranges.yp) (minus-x (goal.at.returns-in-Anelastic c).Start) ∙ ap over (second-anelastic (xp (goal.at.returns-in-Anelastic c).Start) (yp (goal.at.returns-in-Anelastic c).Start))) i;
    }
