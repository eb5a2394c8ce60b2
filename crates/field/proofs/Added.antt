-- Corrections at rising places: the length, the entry at each place, every other entry, and one correction more.
use Rattle.std.proofs.Common.{◌≡◌, ℕ, zero, suc, ◌+◌, ◌^◌, ◌<◌, ◌≤◌, true, List, length, get_or, ℤ, pos, ◌+ℤ◌, nat_abs, sym, refl, ap, ◌∙◌, ⊎_elim, le_of_suc-le-suc, eq-or-lt_of_le, add-one, arith}
use Rattle.field.specs.Added.{corrected, added, added_at}
use Rattle.field.specs.Field.{every_in_range}
use Rattle.field.specs.Inner.{added_from}
use Rattle.field.proofs.Entries.{corrected_length, corrected_here, corrected_elsewhere, entry_in_range}

-- the first n places rise
pub record Rising (at : ℕ → ℕ) (n : ℕ) : Type 0 where
  pub rise : (i j : ℕ) → i < j → j < n → at i < at j

module _ (at : ℕ → ℕ) (d : ℕ → ℤ) (l : List ℤ) where
  pub added_none : added at d 0 l ≡ l
  unfolding added
  added_none = refl

  pub added_next : (n : ℕ) → corrected (added at d n l) (at n) (d n) ≡ added at d (n + 1) l
  unfolding added
  added_next n = rw (add-one n) refl

  pub added_length : (n : ℕ) → length (added at d n l) ≡ length l
  unfolding added
  added_length zero = refl
  added_length (suc n) = corrected_length (added at d n l) (at n) (d n) ∙ added_length n

  -- an entry at none of the places is as before
  pub added_elsewhere : (n k : ℕ) → ((j : ℕ) → j < n → k ≡ at j → ⊥) → get_or (added at d n l) k (pos 0) ≡ get_or l k (pos 0)
  unfolding added
  added_elsewhere zero k h = refl
  added_elsewhere (suc n) k h =
      corrected_elsewhere (added at d n l) (at n) (d n) k (h n (omega arith)) ∙ added_elsewhere n k (λ j b. h j (omega arith))

  -- the place that comes next is none of those before
  next_apart : (n : ℕ) → Rising at (suc n) → (j : ℕ) → j < n → at n ≡ at j → ⊥
  next_apart n r j b e = let h = r.rise j n b (omega arith) in omega (arith, h, e)

  shorter : (n : ℕ) → Rising at (suc n) → Rising at n
  shorter n r = record { rise = λ i j h b. r.rise i j h (omega arith) }

  -- the entry at the last place, and at each place, has its correction
  last : (n : ℕ) → Rising at (suc n) → (j : ℕ) → at j < length l → j ≡ n → get_or (corrected (added at d n l) (at n) (d n)) (at j) (pos 0) ≡ get_or l (at j) (pos 0) +ℤ d j
  last n r j h e =
      rw e
      (corrected_here (added at d n l) (at n) (d n) (omega (arith, added_length n, h, ap at e))
      ∙ ap (λ (z : ℤ). z +ℤ d n) (added_elsewhere n (at n) (next_apart n r)))

  pub added_here : (n : ℕ) → Rising at n → (j : ℕ) → j < n → at j < length l → get_or (added at d n l) (at j) (pos 0) ≡ get_or l (at j) (pos 0) +ℤ d j
  unfolding added
  added_here zero r j b h = absurd (omega arith)
  added_here (suc n) r j b h =
      ⊎_elim (λ e. last n r j h (omega arith)) (λ s. corrected_elsewhere (added at d n l) (at n) (d n) (at j) (λ e. next_apart n r j s (sym e)) ∙ added_here n (shorter n r) j s h)
      (eq-or-lt_of_le (le_of_suc-le-suc b))

  -- while the corrections are added, the entry at the place that comes next is still in range
  pub next_in_range : (n : ℕ) → Rising at (suc n) → every_in_range l ≡ true → nat_abs (get_or (added at d n l) (at n) (pos 0)) ≤ 2 ^ 60
  next_in_range n r e = rw (added_elsewhere n (at n) (next_apart n r)) (entry_in_range l e (at n))

  -- the list as a loop has it after n corrections: the next place is there and in range, and one correction more
  module _ (n : ℕ) (l' : List ℤ) (e : l' ≡ added at d n l) where
    pub running_length : length l' ≡ length l
    running_length = ap length e ∙ added_length n

    pub running_there : at n < length l → at n < length l'
    running_there h = omega (arith, running_length)

    pub running_in_range : Rising at (suc n) → every_in_range l ≡ true → nat_abs (get_or l' (at n) (pos 0)) ≤ 2 ^ 60
    running_in_range r h = rw e (next_in_range n r h)

    pub running_next : (l'' : List ℤ) (z : ℤ) → l'' ≡ corrected l' (at n) z → z ≡ d n → l'' ≡ added at d (n + 1) l
    running_next l'' z c q = c ∙ rw (e, q) (added_next n)

-- the same corrections at the same places
pub added_same : (at at' : ℕ → ℕ) (d d' : ℕ → ℤ) (l : List ℤ) (n : ℕ) → ((k : ℕ) → k < n → at k ≡ at' k) → ((k : ℕ) → k < n → d k ≡ d' k)
    → added at d n l ≡ added at' d' n l
unfolding added
added_same at at' d d' l zero p q = refl
added_same at at' d d' l (suc n) p q =
    rw (added_same at at' d d' l n (λ k h. p k (omega arith)) (λ k h. q k (omega arith)), p n (omega arith), q n (omega arith)) refl

-- places one after the other rise
pub run_rises : (from n : ℕ) → Rising (λ k. from + k) n
run_rises from n = record { rise = λ i j h b. omega arith }

-- ---- at the places of a list
abbrev pub the_places : List ℕ → ℕ → ℕ
the_places places k = get_or places k 0

module _ (places : List ℕ) (by l : List ℤ) where
  pub at_length : length (added_at places by l) ≡ length l
  unfolding added_at
  at_length = added_length (the_places places) _ l (length places)

  pub at_here : Rising (the_places places) (length places) → (j : ℕ) → j < length places → the_places places j < length l
      → get_or (added_at places by l) (the_places places j) (pos 0) ≡ get_or l (the_places places j) (pos 0) +ℤ get_or by j (pos 0)
  unfolding added_at
  at_here r j b h = added_here (the_places places) _ l (length places) r j b h

  pub at_elsewhere : (k : ℕ) → ((j : ℕ) → j < length places → k ≡ the_places places j → ⊥) → get_or (added_at places by l) k (pos 0) ≡ get_or l k (pos 0)
  unfolding added_at
  at_elsewhere k h = added_elsewhere (the_places places) _ l (length places) k h

  -- where they stand one after the other
  module _ (from : ℕ) (one-run : (k : ℕ) → k < length places → the_places places k ≡ from + k) where
    pub at_run : length by ≡ length places → added_from from by l ≡ added_at places by l
    unfolding added_at
    at_run e =
        ap (λ (n : ℕ). added (λ k. from + k) (λ k. get_or by k (pos 0)) n l) e
        ∙ added_same (λ k. from + k) (the_places places) _ _ l (length places) (λ k h. sym (one-run k h)) (λ k h. refl)

    pub at_rises : Rising (the_places places) (length places)
    at_rises = record { rise = λ i j h b. omega (arith, one-run i (omega arith), one-run j b) }
