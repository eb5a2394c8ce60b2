-- Two words are the same where they are equal as lists, and only there.
use mathlib.Core.Path.{◌≡◌, refl, sym, subst}
use mathlib.Core.Bool.{true}
use mathlib.Core.List.{List, [], ◌∷◌}
use Prim.Native.Nat.{ℕ}
use borrow.Author.Tests.{eqb-true}
use lib.Dec.{T, eqb}
use Rattle.std.specs.Cmp.Lexicographic.{pointwise}
use Rattle.whole.proofs.Tests.{and_left, and_right}
use Rattle.icgem_words.specs.Words.{same_word}

pub same_equal : (w v : List ℕ) → same_word w v ≡ true → w ≡ v
unfolding same_word
same_equal [] [] h = refl
same_equal [] (b ∷ v) h = absurd (subst T (sym h) tt)
same_equal (a ∷ w) [] h = absurd (subst T (sym h) tt)
same_equal (a ∷ w) (b ∷ v) h = cc (eqb-true a b (and_left (eqb a b) (same_word w v) h), same_equal w v (and_right (eqb a b) (same_word w v) h))

-- as `==` on bytes says it
pub same_pointwise : (w v : List ℕ) → same_word w v ≡ pointwise eqb w v
unfolding same_word
same_pointwise [] [] = refl
same_pointwise [] (b ∷ v) = refl
same_pointwise (a ∷ w) [] = refl
same_pointwise (a ∷ w) (b ∷ v) = rw (same_pointwise w v)
