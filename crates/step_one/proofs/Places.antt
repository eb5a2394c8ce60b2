-- The ten places follow one another from C20 on.
use mathlib.Core.Path.{◌≡◌}
use mathlib.Core.Bool.{Bool}
use Prim.Native.Nat.{ℕ, zero, suc, ◌+◌, ◌<◌}
use native.Mathlib.Nat.{not-suc-le-zero}
use native.Mathlib.Numerals.{add-one}
use borrow.Author.Count.{below_more}
use lib.Dec.{T, eqb, eqb→eq}
use lib.Ieee.Fits.{and_l, and_r}
use lib.ListN.{get_or}
use Rattle.whole.specs.Sum.{all_to}
use Rattle.step_one.specs.StepOne.{places}

-- what is tested of each is so at each
each_to : (f : ℕ → Bool) (n : ℕ) → T (all_to f n) → (k : ℕ) → k < n → T (f k)
unfolding all_to
each_to f zero t k h = absurd (not-suc-le-zero h)
each_to f (suc n) t k h = below_more (λ j. T (f j)) n (each_to f n (and_l (all_to f n) (f n) t)) (and_r (all_to f n) (f n) t) k (rw add-one h)

pub place_at : (k : ℕ) → k < 10 → get_or places k 0 ≡ 3 + k
unfolding places all_to
place_at k h = eqb→eq (get_or places k 0) (3 + k) (each_to (λ k. eqb (get_or places k 0) (3 + k)) 10 tt k h)
