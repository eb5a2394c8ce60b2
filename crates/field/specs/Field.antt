-- Document 01, "Units and the field": degree, lengths, places and range, with refusals 1 and 2.
use Rattle.std.specs.Prelude.{ℕ, ◌+◌, ◌*◌, ◌/◌, Bool, true, cond, ◌&&◌, List, [], ◌∷◌, length, ℤ, ◌==◌}
use Rattle.limits.specs.Limits.{is_degree, is_entry}

-- a list has (N+1)(N+2)/2 entries
unfoldable pub size : ℕ → ℕ
size n = (n + 1) * (n + 2) / 2

-- place (n,m) is at n(n+1)/2+m
unfoldable pub place : ℕ → ℕ → ℕ
place n m = n * (n + 1) / 2 + m

-- N is 4 to 60, and both lists have the length
unfoldable pub shaped_by : ℕ → ℕ → ℕ → Bool
shaped_by n c s = is_degree n && c == size n && s == size n

abbrev pub shaped : ℕ → List ℤ → List ℤ → Bool
shaped n c s = shaped_by n (length c) (length s)

-- every entry is from -2^60 to 2^60
unfoldable pub every_in_range : List ℤ → Bool
every_in_range [] = true
every_in_range (z ∷ zs) = is_entry z && every_in_range zs

-- 1: N outside 4..60, or either list of another length; 2: an entry outside the range; 0: neither
unfoldable pub field_refusal : ℕ → List ℤ → List ℤ → ℕ
field_refusal n c s = cond (shaped n c s) (cond (every_in_range c && every_in_range s) 0 2) 1
