-- The lists that a file's lines fill: a shorter list is filled as the front of a longer one.
use mathlib.Core.Path.{◌≡◌, refl, ap, ◌∙◌}
use mathlib.Core.List.{List, [], ◌∷◌}
use Prim.Native.Nat.{ℕ, zero, suc}
use lib.IntN.{ℤ}
use lib.ListN.{take, set}
use Rattle.field.specs.Field.{place}
use Rattle.icgem_file.specs.Header.{Line}
use Rattle.icgem_file.specs.Data.{degree_in, order_in, filled}

take_set : (k : ℕ) (l : List ℤ) (i : ℕ) (v : ℤ) → take k (set l i v) ≡ set (take k l) i v
take_set zero [] i v = refl
take_set zero (x ∷ l) zero v = refl
take_set zero (x ∷ l) (suc i) v = refl
take_set (suc k) [] i v = refl
take_set (suc k) (x ∷ l) zero v = refl
take_set (suc k) (x ∷ l) (suc i) v = ap (λ (r : List ℤ). x ∷ r) (take_set k l i v)

pub filled_take : (count : Line → ℤ) (lines : List Line) (k : ℕ) (l : List ℤ) → take k (filled count lines l) ≡ filled count lines (take k l)
unfolding filled
filled_take count [] k l = refl
filled_take count (line ∷ others) k l =
    filled_take count others k (set l (place (degree_in line) (order_in line)) (count line))
    ∙ ap (filled count others) (take_set k l (place (degree_in line) (order_in line)) (count line))
