-- The entries of a list: their range, and a corrected list at each place.
use Rattle.std.proofs.Common.{◌≡◌, ℕ, zero, suc, ◌^◌, ◌<◌, ◌≤◌, Bool, true, ◌&&◌, List, [], ◌∷◌, length, get_or, ℤ, pos, ◌+ℤ◌, nat_abs, refl, ap, arith, length-set, get_or-set_other, get_or-set_same, le-leb, leb-true}
use Rattle.std.specs.List.{list_all}
use Rattle.limits.specs.Limits.{is_entry}
use Rattle.field.specs.Field.{every_in_range}
use Rattle.field.specs.Added.{corrected}
use Rattle.whole.proofs.Tests.{and_left, and_right}

-- the test of all entries is the library's of a list
pub every_listed : (l : List ℤ) → list_all is_entry l ≡ every_in_range l
unfolding every_in_range
every_listed [] = refl
every_listed (z ∷ zs) = ap (λ (b : Bool). is_entry z && b) (every_listed zs)

-- an entry of a list in range, and what stands past its end
pub entry_in_range : (l : List ℤ) → every_in_range l ≡ true → (k : ℕ) → nat_abs (get_or l k (pos 0)) ≤ 2 ^ 60
unfolding every_in_range
entry_in_range [] e k = omega arith
entry_in_range (z ∷ zs) e zero = leb-true _ _ (and_left (is_entry z) (every_in_range zs) e)
entry_in_range (z ∷ zs) e (suc k) = entry_in_range zs (and_right (is_entry z) (every_in_range zs) e) k

-- a list whose entries are each of that size
pub every_small : (l : List ℤ) → ((k : ℕ) → k < length l → nat_abs (get_or l k (pos 0)) ≤ 2 ^ 60) → every_in_range l ≡ true
unfolding every_in_range
every_small [] h = refl
every_small (z ∷ zs) h = rw (le-leb (nat_abs z) (2 ^ 60) (h 0 (omega arith))) (every_small zs (λ k b. h (suc k) (omega arith)))

-- a corrected list: as long as before, the entry corrected, every other as before
module _ (l : List ℤ) (at : ℕ) (d : ℤ) where
  pub corrected_length : length (corrected l at d) ≡ length l
  unfolding corrected
  corrected_length = simp length-set

  pub corrected_here : at < length l → get_or (corrected l at d) at (pos 0) ≡ get_or l at (pos 0) +ℤ d
  unfolding corrected
  corrected_here h = get_or-set_same l at (get_or l at (pos 0) +ℤ d) (pos 0) h

  pub corrected_elsewhere : (k : ℕ) → (k ≡ at → ⊥) → get_or (corrected l at d) k (pos 0) ≡ get_or l k (pos 0)
  unfolding corrected
  corrected_elsewhere k h = get_or-set_other l at k (get_or l at (pos 0) +ℤ d) (pos 0) h

-- an entry that is there and in range may be corrected
pub record Open (l : List ℤ) (k : ℕ) : Type 0 where
  pub there : k < length l
  pub small : nat_abs (get_or l k (pos 0)) ≤ 2 ^ 60

pub open_entry : (l : List ℤ) → every_in_range l ≡ true → (k : ℕ) → k < length l → Open l k
open_entry l e k h = record { there = h; small = entry_in_range l e k }

-- and still may once another was
pub open_after : (l l' : List ℤ) (at : ℕ) (d : ℤ) → l' ≡ corrected l at d → (k : ℕ) → (k ≡ at → ⊥) → Open l k → Open l' k
open_after l l' at d e k h o = rw e (record {
  there = omega (arith, corrected_length l at d, o.there);
  small = rw (corrected_elsewhere l at d k h) o.small;
})
