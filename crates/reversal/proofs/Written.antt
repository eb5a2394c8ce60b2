-- Where every correction is reversed, so is what each entry gained, of a call that is accepted and of one that is refused.
use mathlib.Core.Bool.{Bool, true, false, cond}
use mathlib.Core.List.{List, [], ◌∷◌}
use mathlib.Core.Path.{◌≡◌, refl, sym, ap, ◌∙◌}
use Prim.Native.Nat.{ℕ, zero, suc, ◌≤◌, ◌<◌}
use native.Mathlib.Omega.{arith}
use borrow.Author.Tests.{eqb-true, eqb-false, ltb-true, ltb-false}
use lib.Dec.{eqb, ltb}
use lib.IntN.{ℤ, pos, neg_ℤ, ◌+ℤ◌, ◌-ℤ◌}
use lib.ListN.{length, get_or-eq_default}
use Rattle.demands.specs.Demands.{at, gained}
use Rattle.field.specs.Added.{corrected, added, added_at}
use Rattle.field.proofs.Added.{added_length, added_same}
use Rattle.field.proofs.Entries.{corrected_here, corrected_elsewhere}
use Rattle.refusals.specs.Outcome.{unless_refused}
use Rattle.whole.proofs.Ring.{equal, !, ⊝, ◌⊕◌, ◌⊖◌}
use Rattle.reversal.specs.Reversal.{Opposite}

-- nothing gained is nothing gained with the other sign
nothing : (x : ℤ) → x -ℤ x ≡ neg_ℤ (x -ℤ x)
nothing x = equal (! 0 ⊖ ! 0) (⊝ (! 0 ⊖ ! 0)) (x ∷ []) (omega arith)

-- one more correction e of an entry x that was a in the one list and a' in the other
one_more : (x a a' e : ℤ) → a' -ℤ x ≡ neg_ℤ (a -ℤ x) → a' +ℤ neg_ℤ e -ℤ x ≡ neg_ℤ (a +ℤ e -ℤ x)
one_more x a a' e h =
    equal (! 1 ⊕ ⊝ (! 2) ⊖ ! 0) (! 1 ⊖ ! 0 ⊖ ! 2) (x ∷ a' ∷ e ∷ []) (omega arith)
    ∙ ap (λ (z : ℤ). z -ℤ e) h
    ∙ equal (⊝ (! 1 ⊖ ! 0) ⊖ ! 2) (⊝ (! 1 ⊕ ! 2 ⊖ ! 0)) (x ∷ a ∷ e ∷ []) (omega arith)

module _ (places : ℕ → ℕ) (d : ℕ → ℤ) (l : List ℤ) where
  abbrev opposite : ℕ → ℤ
  opposite j = neg_ℤ (d j)

  -- an entry that is there
  inside : (n k : ℕ) → k < length l → gained l (added places opposite n l) k ≡ neg_ℤ (gained l (added places d n l) k)
  unfolding added
  inside zero k h = nothing (at l k)
  inside (suc n) k h = by_test (inside n k h) (eqb k (places n)) refl
    where
      m : List ℤ
      m = added places d n l

      m' : List ℤ
      m' = added places opposite n l

      by_test : gained l m' k ≡ neg_ℤ (gained l m k) → (t : Bool) → eqb k (places n) ≡ t → gained l (corrected m' (places n) (opposite n)) k ≡ neg_ℤ (gained l (corrected m (places n) (d n)) k)
      by_test before true e =
          let q : places n ≡ k = sym (eqb-true k (places n) e) in
          rw (q, corrected_here m' k (opposite n) (omega (arith, added_length places opposite l n)), corrected_here m k (d n) (omega (arith, added_length places d l n)))
          (one_more (at l k) (at m k) (at m' k) (d n) before)
      by_test before false e =
          let apart = eqb-false k (places n) e in
          rw (corrected_elsewhere m' (places n) (opposite n) k apart, corrected_elsewhere m (places n) (d n) k apart) before

  -- past the end nothing stands, before or after
  gained_opposite : (n k : ℕ) → gained l (added places opposite n l) k ≡ neg_ℤ (gained l (added places d n l) k)
  gained_opposite n k = by_test (ltb k (length l)) refl
    where
      outside : (e : ℕ → ℤ) → length l ≤ k → at (added places e n l) k ≡ at l k
      outside e h = get_or-eq_default (added places e n l) (pos 0) (omega (arith, added_length places e l n)) ∙ sym (get_or-eq_default l (pos 0) h)

      by_test : (t : Bool) → ltb k (length l) ≡ t → gained l (added places opposite n l) k ≡ neg_ℤ (gained l (added places d n l) k)
      by_test true e = inside n k (ltb-true k (length l) e)
      by_test false e =
          let h = ltb-false k (length l) e in
          rw (outside opposite h, outside d h) (nothing (at l k))

-- corrections d' that are those of d reversed, at the same places
pub added_opposite : (places places' : ℕ → ℕ) (d d' : ℕ → ℤ) (l : List ℤ) (n : ℕ) → ((j : ℕ) → j < n → places' j ≡ places j) → ((j : ℕ) → j < n → d' j ≡ neg_ℤ (d j))
    → (k : ℕ) → gained l (added places' d' n l) k ≡ neg_ℤ (gained l (added places d n l) k)
added_opposite places places' d d' l n p q k =
    ap (λ (x : List ℤ). gained l x k) (added_same places' places d' (λ j. neg_ℤ (d j)) l n p q) ∙ gained_opposite places d l n k

pub at_opposite : (places : List ℕ) (by by' l : List ℤ) → ((j : ℕ) → at by' j ≡ neg_ℤ (at by j)) → (k : ℕ) → gained l (added_at places by' l) k ≡ neg_ℤ (gained l (added_at places by l) k)
unfolding added_at
at_opposite places by by' l q = added_opposite _ _ (at by) (at by') l (length places) (λ j h. refl) (λ j h. q j)

pub corrected_opposite : (place : ℕ) (d d' : ℤ) (l : List ℤ) → d' ≡ neg_ℤ d → (k : ℕ) → gained l (corrected l place d') k ≡ neg_ℤ (gained l (corrected l place d) k)
unfolding added
corrected_opposite place d d' l q = added_opposite (λ j. place) (λ j. place) (λ j. d) (λ j. d') l 1 (λ j h. refl) (λ j h. q)

-- a call and the reversed one: one number refuses both, or both lists gain the opposite
pub opposite_calls : (number number' : ℕ) (c s c₁ s₁ c₂ s₂ : List ℤ) → number' ≡ number → ((k : ℕ) → gained c c₂ k ≡ neg_ℤ (gained c c₁ k)) → ((k : ℕ) → gained s s₂ k ≡ neg_ℤ (gained s s₁ k))
    → Opposite c s (unless_refused number c s c₁ s₁) (unless_refused number' c s c₂ s₂)
unfolding unless_refused
opposite_calls number number' c s c₁ s₁ c₂ s₂ e in_c in-s = rw e (by_test (eqb number 0))
  where
    by_test : (t : Bool) → Opposite c s (cond t (record { number = 0; c = c₁; s = s₁ }) (record { number = number; c = c; s = s })) (cond t (record { number = 0; c = c₂; s = s₂ }) (record { number = number; c = c; s = s }))
    by_test true = record { number = refl; in_c = in_c; in-s = in-s }
    by_test false = record { number = refl; in_c = λ k. nothing (at c k); in-s = λ k. nothing (at s k) }
