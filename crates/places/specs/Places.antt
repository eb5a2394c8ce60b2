-- Document 01, "Model sheet and ocean tide (002)": the correction of each place.
use Rattle.std.specs.Prelude.{Bool, false, cond, List, ℕ, ◌^◌, eqb, ℤ, pos, ◌+ℤ◌, ◌*ℤ◌}
use Rattle.choices.specs.declared.Frame.{Frame}
use Rattle.choices.specs.declared.Frame.TheVariants.{CentreOfFigure, CentreOfMass}
use Rattle.field.specs.Field.{place}
use Rattle.sheet.specs.Sheet.{tide_count, degree, order, coefficient}
use Rattle.whole.specs.Nearest.{nearest}
use Rattle.whole.specs.Sum.{sum_to}

-- ---- a place's correction, over the tides' factors C and S; p and q are its cos and sin columns
-- "sum over tides of fcos*Ccos + fsin*Csin"
unfoldable pub place_sum : List ℕ → (ℕ → ℤ) → (ℕ → ℤ) → ℕ → ℕ → ℕ → ℤ
place_sum s C S p q j = sum_to (λ k. C k *ℤ coefficient s j k p +ℤ S k *ℤ coefficient s j k q) (tide_count s)

-- "with the centre-of-mass frame, degree 1 is skipped, its correction and its exact sum then being zero"
unfoldable pub skipped : Frame → ℕ → Bool
skipped CentreOfFigure n = false
skipped CentreOfMass n = eqb n 1

unfoldable pub unless_skipped : List ℕ → Frame → ℕ → ℤ → ℤ
unless_skipped s frame j z = cond (skipped frame (degree s j)) (pos 0) z

-- "dC = nearest of (sum over tides of fcos*Ccos + fsin*Csin)/2^30; dS alike"
unfoldable pub correction : List ℕ → Frame → (ℕ → ℤ) → (ℕ → ℤ) → ℕ → ℕ → ℕ → ℤ
correction s frame C S p q j = unless_skipped s frame j (nearest (place_sum s C S p q j) (2 ^ 30))

-- ---- where place j stands in a list
abbrev pub index_of : List ℕ → ℕ → ℕ
index_of s j = place (degree s j) (order s j)
