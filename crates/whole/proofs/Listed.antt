-- Laws of the first values of a function as a list, and of a list that is filled with them.
use mathlib.Core.List.{List}
use mathlib.Core.Logic.{⊎_elim}
use mathlib.Core.Path.{◌≡◌, refl, sym, ap, ◌∙◌}
use Prim.Native.Nat.{ℕ, zero, suc, ◌+◌, ◌≤◌, ◌<◌}
use native.Mathlib.Nat.{eq-or-lt_of_le, le_of_suc-le-suc, not-suc-le-zero}
use native.Mathlib.Omega.{arith}
use lib.ListN.{length, get_or, set}
use lib.Seq.{ext_get_or, get_or-set_same, get_or-set_other}
use Rattle.whole.specs.Listed.{listed}

pub listed_length : {B : Type 0} (f : ℕ → B) (n : ℕ) → length (listed f n) ≡ n
unfolding listed
listed_length f zero = refl
listed_length f (suc n) = ap suc (listed_length (λ i. f (suc i)) n)

pub at_listed : {B : Type 0} (f : ℕ → B) (n i : ℕ) (e : B) → i < n → get_or (listed f n) i e ≡ f i
unfolding listed
at_listed f zero i e h = absurd (not-suc-le-zero h)
at_listed f (suc n) zero e h = refl
at_listed f (suc n) (suc i) e h = at_listed (λ i. f (suc i)) n i e (le_of_suc-le-suc h)

-- two functions whose values are the same lists agree there
pub agree : {B : Type 0} (f g : ℕ → B) (n : ℕ) → listed f n ≡ listed g n → (i : ℕ) → i < n → f i ≡ g i
agree f g n same i h = sym (at_listed f n i (f 0) h) ∙ ap (λ (l : List _). get_or l i (f 0)) same ∙ at_listed g n i (f 0) h

-- a list with these entries is that list
pub is_listed : {B : Type 0} (e : B) (l : List B) (f : ℕ → B) (n : ℕ) → length l ≡ n → ((i : ℕ) → i < n → get_or l i e ≡ f i) → l ≡ listed f n
is_listed e l f n long each =
    ext_get_or e l (listed f n) (long ∙ sym (listed_length f n)) (λ i h. let b : i < n = omega (arith, long) in each i b ∙ sym (at_listed f n i e b))

pub listed_same : {B : Type 0} (f g : ℕ → B) (n : ℕ) → ((i : ℕ) → i < n → f i ≡ g i) → listed f n ≡ listed g n
listed_same f g n each = is_listed (f 0) (listed f n) g n (listed_length f n) (λ i h. at_listed f n i (f 0) h ∙ each i h)

-- a list that agrees with f below n, and at n once that is stored
pub stored : {B : Type 0} (e : B) (f : ℕ → B) (n : ℕ) (l : List B) {v : B} → ((i : ℕ) → i < n → get_or l i e ≡ f i) → n < length l → v ≡ f n → (i : ℕ) → i < n + 1 → get_or (set l n v) i e ≡ f i
stored e f n l {v} each h here i k =
    let m : i ≤ n = omega arith in
    ⊎_elim (λ q. ap (λ (j : ℕ). get_or (set l n v) j e) q ∙ get_or-set_same l n v e h ∙ here ∙ ap f (sym q))
    (λ j. get_or-set_other l n i v e (λ q. omega arith) ∙ each i j) (eq-or-lt_of_le m)
