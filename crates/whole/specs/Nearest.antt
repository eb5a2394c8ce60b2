-- The one rounding of document 01, as document 02, T-07 has it: "Nearest now means: halves go away from zero".
use Rattle.std.specs.Prelude.{Bool, true, false, ◌≡◌, ℕ, suc, ◌+◌, ◌*◌, ◌/◌, ◌≤◌, ◌<◌, ℤ, pos, negsuc, neg_ℤ, nat_abs, ◌-ℤ◌, ◌*ℤ◌}

-- a size with a sign: minus where the Bool says so
unfoldable pub signed : Bool → ℕ → ℤ
signed false n = pos n
signed true n = neg_ℤ (pos n)

-- floor(a / n + 1/2), for an n above 0
abbrev pub half_up : ℕ → ℕ → ℕ
half_up a n = (2 * a + n) / (2 * n)

-- the whole number nearest z / n: the size of z / n is rounded, a half up, and the sign is z's
unfoldable pub nearest : ℤ → ℕ → ℤ
nearest (pos a) n = pos (half_up a n)
nearest (negsuc a) n = neg_ℤ (pos (half_up (suc a) n))

-- the same without a formula: r is at most one half from z / n; where it is an exact half, r is farther from zero than z / n
pub record NearestTo (z : ℤ) (n : ℕ) (r : ℤ) : Type 0 where
  pub near : 2 * nat_abs (r *ℤ pos n -ℤ z) ≤ n
  pub away : 2 * nat_abs (r *ℤ pos n -ℤ z) ≡ n → nat_abs z < nat_abs r * n
