-- The first values of a function as a list.
use Rattle.std.specs.Prelude.{List, [], ◌∷◌, ℕ, zero, suc}

unfoldable pub listed : {B : Type 0} → (ℕ → B) → ℕ → List B
listed f zero = []
listed f (suc n) = f 0 ∷ listed (λ i. f (suc i)) n
