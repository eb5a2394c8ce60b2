-- Sums over raised numbers: (v - A)(w - W) added up is v*w added up, A*W for each term more, and W*v and A*w added up less.
use mathlib.Core.List.{List, [], ◌∷◌}
use mathlib.Core.Path.{◌≡◌, refl, sym, ap, ◌∙◌}
use Prim.Native.Nat.{ℕ, zero, suc, ◌+◌, ◌*◌, ◌^◌, ◌≤◌, ◌<◌}
use native.Mathlib.Omega.{arith}
use lib.IntN.{ℤ, pos, negsuc, nat_abs, ◌+ℤ◌, ◌-ℤ◌, ◌*ℤ◌}
use lib.ListN.{get_or}
use Rattle.whole.specs.Sum.{sum_to, weight_to}
use Rattle.whole.proofs.Parts.{up, dn, sum, abs, abs_le, difference}
use Rattle.whole.proofs.Ring.{equal, !, ◌⊕◌, ◌⊖◌, ◌⊗◌}
use Rattle.whole.proofs.Running.{weight_size}
use Rattle.tides.specs.Inner.{lowered, Raised, Bounded, total}

-- a number that is not negative is its size
unsigned : (z : ℤ) → dn z ≤ up z → pos (nat_abs z) ≡ z
unsigned (pos n) h = refl
unsigned (negsuc n) h = absurd (omega arith)

pub raised_is : (z : ℤ) (A : ℕ) → nat_abs z ≤ A → pos (nat_abs (z +ℤ pos A)) ≡ z +ℤ pos A
raised_is z A h = unsigned (z +ℤ pos A) (omega (arith, sum z (pos A), abs z))

-- raised waves lowered again
pub lowered_is : (w : ℕ → ℤ) (small : (f : ℕ) → nat_abs (w f) ≤ 2 ^ 30) {n : ℕ} {l : List ℕ} → Raised w n l → (f : ℕ) → f < n → lowered l f ≡ w f
lowered_is w small {n} {l} H f h =
    let e : pos (get_or l f 0) ≡ w f +ℤ pos (2 ^ 30) = ap pos (H.each f h) ∙ raised_is (w f) (2 ^ 30) (small f) in
    ap (λ (z : ℤ). z -ℤ pos (2 ^ 30)) e ∙ equal (! 0 ⊕ ! 1 ⊖ ! 1) (! 0) (w f ∷ pos (2 ^ 30) ∷ []) (omega arith)

pub total_size : {n : ℕ} {l : List ℕ} → Bounded n l → total l n ≤ n * 2 ^ 31
total_size {n} {l} B = weight_size (λ f. pos (get_or l f 0)) (2 ^ 31) n B.each

-- the sums of v*w and of v, for v = a + A
module _ (a : ℕ → ℤ) (w : ℕ → ℕ) (A W : ℕ) where
  abbrev pub products : ℕ → ℕ
  products n = weight_to (λ f. pos (nat_abs (a f +ℤ pos A) * w f)) n

  abbrev pub row : ℕ → ℕ
  row n = weight_to (λ f. a f +ℤ pos A) n

  abbrev waves : ℕ → ℕ
  waves n = weight_to (λ f. pos (w f)) n

  balanced : (n : ℕ) → ((f : ℕ) → f < n → nat_abs (a f) ≤ A)
      → sum_to (λ f. a f *ℤ (pos (w f) -ℤ pos W)) n +ℤ pos (W * row n + A * waves n) ≡ pos (products n + A * W * n)
  unfolding sum_to weight_to
  balanced zero h = ap pos (omega arith)
  balanced (suc n) h =
      let s = sum_to (λ f. a f *ℤ (pos (w f) -ℤ pos W)) n in
      let v = nat_abs (a n +ℤ pos A) in
      let lower : a n ≡ pos v -ℤ pos A =
      sym (ap (λ (z : ℤ). z -ℤ pos A) (raised_is (a n) A (h n (omega arith))) ∙ equal (! 0 ⊕ ! 1 ⊖ ! 1) (! 0) (a n ∷ pos A ∷ []) (omega arith)) in
      ap (λ (z : ℤ). s +ℤ z *ℤ (pos (w n) -ℤ pos W) +ℤ pos (W * (row n + v) + A * (waves n + w n))) lower
      ∙ equal (! 0 ⊕ (! 1 ⊖ ! 3) ⊗ (! 2 ⊖ ! 4) ⊕ (! 4 ⊗ (! 5 ⊕ ! 1) ⊕ ! 3 ⊗ (! 6 ⊕ ! 2))) (! 0 ⊕ (! 4 ⊗ ! 5 ⊕ ! 3 ⊗ ! 6) ⊕ (! 1 ⊗ ! 2 ⊕ ! 3 ⊗ ! 4))
      (s ∷ pos v ∷ pos (w n) ∷ pos A ∷ pos W ∷ pos (row n) ∷ pos (waves n) ∷ []) (omega arith)
      ∙ ap (λ (z : ℤ). z +ℤ pos (v * w n + A * W)) (balanced n (λ f l. h f (omega arith)))
      ∙ ap pos (omega arith)

  -- a row's sum from those sums
  pub lowered_row : (n : ℕ) → ((f : ℕ) → f < n → nat_abs (a f) ≤ A)
      → pos (products n + A * W * n) -ℤ pos (W * row n + A * waves n) ≡ sum_to (λ f. a f *ℤ (pos (w f) -ℤ pos W)) n
  lowered_row n h =
      ap (λ (z : ℤ). z -ℤ pos (W * row n + A * waves n)) (sym (balanced n h))
      ∙ equal (! 0 ⊕ ! 1 ⊖ ! 1) (! 0) (sum_to (λ f. a f *ℤ (pos (w f) -ℤ pos W)) n ∷ pos (W * row n + A * waves n) ∷ []) (omega arith)

-- a raised wave of 31 bits, lowered
pub lowered_size : {n : ℕ} {l : List ℕ} → Bounded n l → (f : ℕ) → f < n → nat_abs (lowered l f) ≤ 2 ^ 30
lowered_size {n} {l} B f h =
    abs_le (lowered l f) (2 ^ 30) (omega (arith, B.each f h, difference (pos (get_or l f 0)) (pos (2 ^ 30)))) (omega (arith, difference (pos (get_or l f 0)) (pos (2 ^ 30))))
