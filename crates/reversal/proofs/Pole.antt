-- The pole tide's fractions are linear in the offsets, and a fraction is rounded alike in either sign.
use mathlib.Core.List.{List, [], ◌∷◌}
use mathlib.Core.Path.{◌≡◌, ap, ◌∙◌}
use Prim.Native.Nat.{ℕ, ◌^◌, ◌<◌}
use native.Mathlib.Omega.{arith}
use lib.IntN.{ℤ, pos, neg_ℤ}
use Rattle.choices.specs.declared.LoveModel.{LoveModel}
use Rattle.choices.specs.declared.LoveModel.TheVariants.{Elastic, Anelastic}
use Rattle.field.specs.Field.{place, field_refusal}
use Rattle.pole.specs.Pole.{offsets_refusal, exact_c21, exact_s21, corrections}
use Rattle.refusals.specs.Outcome.{first_of}
use Rattle.surfgimlet.specs.Calls.{pole_tide_refusal, pole_tide}
use Rattle.whole.specs.Nearest.{nearest}
use Rattle.whole.proofs.Parts.{abs_neg}
use Rattle.whole.proofs.Ring.{equal, !, #, ⊝, ◌⊕◌, ◌⊖◌, ◌⊗◌}
use Rattle.whole.proofs.Rounding.{nearest_reversed}
use Rattle.reversal.specs.Reversal.{Opposite}
use Rattle.reversal.proofs.Written.{corrected_opposite, opposite_calls}

-- a fraction whose number is the opposite of another's
rounded_opposite : (z z' : ℤ) (n : ℕ) → 0 < n → z' ≡ neg_ℤ z → nearest z' n ≡ neg_ℤ (nearest z n)
rounded_opposite z z' n l e = ap (λ (x : ℤ). nearest x n) e ∙ nearest_reversed z n l

module _ (xp yp : ℤ) where
  c21_opposite : (love : LoveModel) → (corrections (neg_ℤ xp) (neg_ℤ yp) love).c21 ≡ neg_ℤ (corrections xp yp love).c21
  unfolding corrections exact_c21 exact_s21
  c21_opposite Elastic = rounded_opposite _ _ 1000 (omega arith) (equal (# (neg_ℤ (pos 1290)) ⊗ ⊝ (! 0)) (⊝ (# (neg_ℤ (pos 1290)) ⊗ ! 0)) (xp ∷ []) (omega arith))
  c21_opposite Anelastic =
      rounded_opposite _ _ (10 ^ 7) (omega arith)
      (equal (# (neg_ℤ (pos 1348)) ⊗ (# (pos 10000) ⊗ ⊝ (! 0) ⊕ # (pos 112) ⊗ ⊝ (! 1))) (⊝ (# (neg_ℤ (pos 1348)) ⊗ (# (pos 10000) ⊗ ! 0 ⊕ # (pos 112) ⊗ ! 1))) (xp ∷ yp ∷ []) (omega arith))

  s21_opposite : (love : LoveModel) → (corrections (neg_ℤ xp) (neg_ℤ yp) love).s21 ≡ neg_ℤ (corrections xp yp love).s21
  unfolding corrections exact_c21 exact_s21
  s21_opposite Elastic = rounded_opposite _ _ 1000 (omega arith) (equal (# (pos 1290) ⊗ ⊝ (! 0)) (⊝ (# (pos 1290) ⊗ ! 0)) (yp ∷ []) (omega arith))
  s21_opposite Anelastic =
      rounded_opposite _ _ (10 ^ 7) (omega arith)
      (equal (# (pos 1348) ⊗ (# (pos 10000) ⊗ ⊝ (! 1) ⊖ # (pos 112) ⊗ ⊝ (! 0))) (⊝ (# (pos 1348) ⊗ (# (pos 10000) ⊗ ! 1 ⊖ # (pos 112) ⊗ ! 0))) (xp ∷ yp ∷ []) (omega arith))

  refusal_same : offsets_refusal (neg_ℤ xp) (neg_ℤ yp) ≡ offsets_refusal xp yp
  unfolding offsets_refusal
  refusal_same = rw (abs_neg xp, abs_neg yp)

  pub pole-tide : (n : ℕ) (c s : List ℤ) (love : LoveModel) → Opposite c s (pole_tide n c s xp yp love) (pole_tide n c s (neg_ℤ xp) (neg_ℤ yp) love)
  unfolding pole_tide pole_tide_refusal
  pole-tide n c s love =
      opposite_calls (first_of (field_refusal n c s) (offsets_refusal xp yp)) (first_of (field_refusal n c s) (offsets_refusal (neg_ℤ xp) (neg_ℤ yp))) c s _ _ _ _
      (ap (first_of (field_refusal n c s)) refusal_same)
      (corrected_opposite (place 2 1) _ _ c (c21_opposite love))
      (corrected_opposite (place 2 1) _ _ s (s21_opposite love))
