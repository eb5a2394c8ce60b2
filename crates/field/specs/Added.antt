-- "Added to the field": what correcting entries of a lent list means.
use Rattle.std.specs.Prelude.{ℕ, zero, suc, List, length, get_or, ℤ, pos, ◌+ℤ◌, slice_index, slice_index_or, slice_set}

-- one entry is corrected by d, all others equal to before
unfoldable pub corrected : List ℤ → ℕ → ℤ → List ℤ
corrected l at d = slice_set l at (slice_index_or l at (pos 0) +ℤ d)

-- n corrections d 0, d 1, .. at the places at 0, at 1, ..
unfoldable pub added : (ℕ → ℕ) → (ℕ → ℤ) → ℕ → List ℤ → List ℤ
added at d zero l = l
added at d (suc n) l = corrected (added at d n l) (at n) (d n)

-- the corrections of a list, each at its place of a list of places
unfoldable pub added_at : List ℕ → List ℤ → List ℤ → List ℤ
added_at places by l = added (λ k. slice_index places k) (λ k. get_or by k (pos 0)) (length places) l
