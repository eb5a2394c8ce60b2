-- What the inner functions are handed, and what they hand on.
use Rattle.std.specs.Prelude.{List, ℕ, ◌^◌, ◌≤◌, ℤ, pos, nat_abs, get_or}

-- counts of at most 2^bits in size
pub record Small (bits : ℕ) (by : List ℤ) : Type 0 where
  pub size : (k : ℕ) → nat_abs (get_or by k (pos 0)) ≤ 2 ^ bits
