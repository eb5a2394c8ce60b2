-- What the writer asks of its callers, and what it answers them.
use Rattle.std.specs.Prelude.{◌≡◌, ℕ, ◌+◌, ◌^◌, ◌≤◌, true, List, length, get_or, ℤ, pos, slice_index_or, unsigned_abs}
use Rattle.field.specs.Added.{added}
use Rattle.field.specs.Field.{every_in_range}

-- corrections that no entry in range overflows with
pub record Small (by : List ℤ) : Type 0 where
  pub each : (k : ℕ) → unsigned_abs (slice_index_or by k (pos 0)) ≤ 2 ^ 60

-- a list in range that has the entries from a place on, and such corrections for them
pub record Ready (l : List ℤ) (from : ℕ) (by : List ℤ) : Type 0 where
  pub room : from + length by ≤ length l
  pub range : every_in_range l ≡ true
  pub small : Small by

-- the corrections of a list, at places one after the other
abbrev pub added_from : ℕ → List ℤ → List ℤ → List ℤ
added_from from by l = added (λ k. from + k) (λ k. get_or by k (pos 0)) (length by) l
