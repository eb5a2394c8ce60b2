-- T-05's fractions are 001's formulas; each correction lies at most half a count from its fraction; and what no correction exceeds.
use mathlib.Core.List.{[], ◌∷◌}
use mathlib.Core.Path.{◌≡◌, refl}
use Prim.Native.Nat.{◌^◌, ◌≤◌}
use native.Mathlib.Omega.{arith}
use lib.IntN.{ℤ, pos, neg_ℤ, nat_abs, ◌+ℤ◌, ◌-ℤ◌, ◌*ℤ◌}
use Rattle.choices.specs.declared.LoveModel.{LoveModel}
use Rattle.choices.specs.declared.LoveModel.TheVariants.{Elastic, Anelastic}
use Rattle.whole.proofs.Machine.{abs_difference}
use Rattle.whole.proofs.Parts.{abs_sum, abs_product}
use Rattle.whole.proofs.Ring.{equal, !, #, ◌⊕◌, ◌⊖◌, ◌⊗◌, ⊝}
use Rattle.whole.specs.Nearest.{nearest}
use Rattle.whole.proofs.Rounding.{nearest_near, nearest_size}
use Rattle.pole.specs.Fractions.{◌same-as◌}
use Rattle.pole.specs.Pole.{offsets_refusal, exact_c21, exact_s21, corrections, WithinHalfACount, printed_c21, printed_s21, arcseconds, in_counts}
use Rattle.pole.proofs.Offsets.{within_an_arcsecond}

-- 1.290 x 10^-9, 1.348 x 10^-9 and 0.0112 of 001, per arcsecond, are the whole numbers of T-05, in counts per micro-arcsecond
module _ (xp yp : ℤ) where
  pub c21_as_printed : (love : LoveModel) → exact_c21 love xp yp same-as in_counts (printed_c21 love (arcseconds xp) (arcseconds yp))
  unfolding exact_c21 printed_c21
  c21_as_printed Elastic =
      equal (⊝ (# (pos 1290)) ⊗ ! 0 ⊗ # (pos (10 ^ 18))) (⊝ (# (pos 1290) ⊗ ! 0) ⊗ # (pos (10 ^ 15)) ⊗ # (pos 1000)) (xp ∷ []) (omega arith)
  c21_as_printed Anelastic =
      equal (⊝ (# (pos 1348)) ⊗ (# (pos 10000) ⊗ ! 0 ⊕ # (pos 112) ⊗ ! 1) ⊗ # (pos (10 ^ 28)))
      (⊝ (# (pos 1348) ⊗ (! 0 ⊗ # (pos (10 ^ 10)) ⊕ # (pos 112) ⊗ ! 1 ⊗ # (pos (10 ^ 6)))) ⊗ # (pos (10 ^ 15)) ⊗ # (pos (10 ^ 7)))
      (xp ∷ yp ∷ []) (omega arith)

  pub s21_as_printed : (love : LoveModel) → exact_s21 love xp yp same-as in_counts (printed_s21 love (arcseconds xp) (arcseconds yp))
  unfolding exact_s21 printed_s21
  s21_as_printed Elastic =
      equal (# (pos 1290) ⊗ ! 0 ⊗ # (pos (10 ^ 18))) (# (pos 1290) ⊗ ! 0 ⊗ # (pos (10 ^ 15)) ⊗ # (pos 1000)) (yp ∷ []) (omega arith)
  s21_as_printed Anelastic =
      equal (# (pos 1348) ⊗ (# (pos 10000) ⊗ ! 1 ⊖ # (pos 112) ⊗ ! 0) ⊗ # (pos (10 ^ 28)))
      (# (pos 1348) ⊗ (! 1 ⊗ # (pos (10 ^ 10)) ⊖ # (pos 112) ⊗ ! 0 ⊗ # (pos (10 ^ 6))) ⊗ # (pos (10 ^ 15)) ⊗ # (pos (10 ^ 7)))
      (xp ∷ yp ∷ []) (omega arith)

  pub half_a_count : (love : LoveModel) → let d = corrections xp yp love in WithinHalfACount d.c21 (exact_c21 love xp yp) × WithinHalfACount d.s21 (exact_s21 love xp yp)
  unfolding corrections exact_c21 exact_s21
  half_a_count Elastic = (nearest_near _ 1000 (omega arith), nearest_near _ 1000 (omega arith))
  half_a_count Anelastic = (nearest_near _ (10 ^ 7) (omega arith), nearest_near _ (10 ^ 7) (omega arith))

-- a half goes away from zero: -64.5 to -65, 64.5 to 65
pub at_a_half : corrections (pos 50) (pos 50) Elastic ≡ record { c21 = neg_ℤ (pos 65); s21 = pos 65 }
unfolding corrections exact_c21 exact_s21 nearest
at_a_half = refl

-- of offsets that are not refused no correction is larger
module _ (xp yp : ℤ) (accepted : offsets_refusal xp yp ≡ 0) where
  most : (nat_abs xp ≤ 1000000) × (nat_abs yp ≤ 1000000)
  most = (within_an_arcsecond xp yp).0 accepted

  pub at_most : (love : LoveModel) → let d = corrections xp yp love in (nat_abs d.c21 ≤ 1363098) × (nat_abs d.s21 ≤ 1363098)
  unfolding corrections exact_c21 exact_s21
  at_most Elastic = (
    nearest_size (neg_ℤ (pos 1290) *ℤ xp) 1000 1363098 (omega arith) (omega (arith, abs_product (neg_ℤ (pos 1290)) xp, most.0)),
    nearest_size (pos 1290 *ℤ yp) 1000 1363098 (omega arith) (omega (arith, abs_product (pos 1290) yp, most.1)),
  )
  at_most Anelastic =
      let a = pos 10000 *ℤ xp in
      let b = pos 112 *ℤ yp in
      let c = pos 10000 *ℤ yp in
      let d = pos 112 *ℤ xp in (
        nearest_size (neg_ℤ (pos 1348) *ℤ (a +ℤ b)) (10 ^ 7) 1363098 (omega arith)
            (omega (arith, abs_product (neg_ℤ (pos 1348)) (a +ℤ b), abs_sum a b, abs_product (pos 10000) xp, abs_product (pos 112) yp, most.0, most.1)),
        nearest_size (pos 1348 *ℤ (c -ℤ d)) (10 ^ 7) 1363098 (omega arith)
            (omega (arith, abs_product (pos 1348) (c -ℤ d), abs_difference c d, abs_product (pos 10000) yp, abs_product (pos 112) xp, most.0, most.1)),
      )

-- and one is as large
pub most_reached : (corrections (neg_ℤ (pos 1000000)) (neg_ℤ (pos 1000000)) Anelastic).c21 ≡ pos 1363098
unfolding corrections exact_c21 exact_s21 nearest
most_reached = refl
