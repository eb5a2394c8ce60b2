-- Document 01, "What the promises settle": any two results that a C call's promise allows for one input are equal.
use mathlib.Core.List.{List}
use mathlib.Core.Path.{◌≡◌, sym, ◌∙◌}
use Prim.Native.Nat.{ℕ}
use lib.IntN.{ℤ}
use Rattle.leaving.specs.Leaving.{Leaves, GivesAndLeaves}
use Rattle.refusals.specs.Outcome.{Outcome, Gives}
use Rattle.refusals.specs.Told.{Told}

-- own lines, the pole tide and the ocean tide: the answer and both lists
pub one_outcome : (o : Outcome) (number number' : ℕ) (c c' s s' : List ℤ) → Gives o number c s → Gives o number' c' s' → (number ≡ number') × (c ≡ c') × (s ≡ s')
one_outcome o number number' c c' s s' g h =
    (g.answer ∙ sym h.answer, g.list_c ∙ sym h.list_c, g.list_s ∙ sym h.list_s)

-- the other calls: the answer and what the lent memory holds
pub one_left : {A : Type 0} (told : Told A) (before : A) (number number' : ℕ) (after after' : A) → Leaves told before number after → Leaves told before number' after' → (number ≡ number') × (after ≡ after')
one_left told before number number' after after' g h = (g.answer ∙ sym h.answer, g.result ∙ sym h.result)

-- the solid tide: the answer, both lists and the count
pub one_named : (o : Outcome) (lines before number number' after after' : ℕ) (c c' s s' : List ℤ) → GivesAndLeaves o lines number c s before after → GivesAndLeaves o lines number' c' s' before after'
    → (number ≡ number') × (after ≡ after') × (c ≡ c') × (s ≡ s')
one_named o lines before number number' after after' c c' s s' g h =
    let l = one_left _ before number number' after after' g.left h.left in
    (l.0, l.1, g.list_c ∙ sym h.list_c, g.list_s ∙ sym h.list_s)
