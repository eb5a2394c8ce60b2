-- What an accepted field has.
use Rattle.std.proofs.Common.{◌≡◌, ℕ, ◌<◌, ◌≤◌, true, List, length, ℤ, mul-le-mul, arith}
use Rattle.field.specs.Field.{size, place, every_in_range, field_refusal}
use Rattle.field.proofs.Entries.{every_small}
use Rattle.field.proofs.Table.{field_table}

-- a field that is not refused
pub record Accepted (n : ℕ) (c s : List ℤ) : Type 0 where
  pub least : 4 ≤ n
  pub largest : n ≤ 60
  pub c_size : length c ≡ size n
  pub s_size : length s ≡ size n
  pub c_range : every_in_range c ≡ true
  pub s_range : every_in_range s ≡ true

pub accepted_field : (n : ℕ) (c s : List ℤ) → field_refusal n c s ≡ 0 → Accepted n c s
accepted_field n c s e =
    let t = (field_table n c s).0.0 e in
    record {
      least = t.0.least;
      largest = t.0.largest;
      c_size = t.0.c_size;
      s_size = t.0.s_size;
      c_range = every_small c (λ k b. t.1.0.entry k);
      s_range = every_small s (λ k b. t.1.1.entry k);
    }

-- a place of a degree up to N stands in the list
pub place_below : (N n m : ℕ) → n ≤ N → m ≤ n → place n m < size N
unfolding place size
place_below N n m h k = omega (arith, mul-le-mul h h)

-- 1,891 entries at degree 60
pub size_most : (n : ℕ) → n ≤ 60 → size n ≤ 1891
unfolding size
size_most n h = omega (arith, mul-le-mul h h)

-- degree two stands in every field
pub degree_two : (n : ℕ) (l : List ℤ) → 4 ≤ n → length l ≡ size n → 5 < length l
unfolding place
degree_two n l h e = rw e (place_below n 2 2 (omega arith) (omega arith))
