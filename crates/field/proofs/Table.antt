-- Refusals 1 and 2 are given exactly when 01's table says.
use Rattle.std.proofs.Common.{◌≡◌, ℕ, ◌^◌, ◌≤◌, true, ◌&&◌, eqb, leb, ◌↔◌, List, length, get_or, ℤ, pos, nat_abs, arith, eq-eqb, eqb-true, le-leb, leb-true}
use Rattle.refusals.proofs.Outcomes.{two_tests}
use Rattle.whole.proofs.Tests.{and_left, and_right}
use Rattle.field.specs.Field.{size, shaped, shaped_by, every_in_range, field_refusal}
use Rattle.field.proofs.Entries.{entry_in_range, every_small}

-- N is 4 to 60, and both lists have (N+1)(N+2)/2 entries
pub record Shaped (n : ℕ) (c s : List ℤ) : Type 0 where
  pub least : 4 ≤ n
  pub largest : n ≤ 60
  pub c_size : length c ≡ size n
  pub s_size : length s ≡ size n

-- every entry is from -2^60 to 2^60
pub record InRange (l : List ℤ) : Type 0 where
  pub entry : (k : ℕ) → nat_abs (get_or l k (pos 0)) ≤ 2 ^ 60

is_shaped : (n : ℕ) (c s : List ℤ) → shaped n c s ≡ true ↔ Shaped n c s
unfolding shaped_by
is_shaped n c s = (
  λ e.
      let three = and_left (leb 4 n && leb n 60 && eqb (length c) (size n)) (eqb (length s) (size n)) e in
      let two = and_left (leb 4 n && leb n 60) (eqb (length c) (size n)) three in
      record {
        least = leb-true 4 n (and_left (leb 4 n) (leb n 60) two);
        largest = leb-true n 60 (and_right (leb 4 n) (leb n 60) two);
        c_size = eqb-true _ _ (and_right (leb 4 n && leb n 60) (eqb (length c) (size n)) three);
        s_size = eqb-true _ _ (and_right (leb 4 n && leb n 60 && eqb (length c) (size n)) (eqb (length s) (size n)) e);
      },
  λ h. rw (le-leb 4 n h.least, le-leb n 60 h.largest, eq-eqb (length c) (size n) h.c_size, eq-eqb (length s) (size n) h.s_size),
)

is_in_range : (c s : List ℤ) → (every_in_range c && every_in_range s) ≡ true ↔ (InRange c × InRange s)
is_in_range c s = (
  λ e. (record { entry = entry_in_range c (and_left (every_in_range c) (every_in_range s) e) }, record { entry = entry_in_range s (and_right (every_in_range c) (every_in_range s) e) }),
  λ h. rw (every_small c (λ k b. h.0.entry k), every_small s (λ k b. h.1.entry k)),
)

-- 0: neither; 1: N outside 4..60, or either list of another length; 2: else an entry outside the range
pub field_table : (n : ℕ) (c s : List ℤ)
    → (field_refusal n c s ≡ 0 ↔ (Shaped n c s × (InRange c × InRange s)))
    × (field_refusal n c s ≡ 1 ↔ (Shaped n c s → ⊥))
    × (field_refusal n c s ≡ 2 ↔ (Shaped n c s × ((InRange c × InRange s) → ⊥)))
unfolding field_refusal
field_table n c s =
    two_tests 1 2 (omega arith) (omega arith) (λ e. omega (arith, e)) (shaped n c s) (every_in_range c && every_in_range s) (is_shaped n c s) (is_in_range c s)
