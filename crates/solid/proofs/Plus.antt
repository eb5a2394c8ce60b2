-- Two lists added: each entry, and the first three entries set; and a count with a small correction, as the machine adds them.
use mathlib.Core.Path.{◌≡◌, refl, sym}
use mathlib.Core.List.{List, [], ◌∷◌}
use Prim.Native.Nat.{ℕ, zero, suc, ◌+◌, ◌^◌, ◌≤◌}
use native.Mathlib.Omega.{arith}
use lib.IntN.{ℤ, pos, nat_abs, ◌+ℤ◌, +ℤ_idl, +ℤ_idr}
use lib.ListN.{length, get_or, set}
use Rattle.whole.proofs.Held.{Held, held, plus as sum}
use Rattle.whole.proofs.Machine.{read}
use Rattle.solid.specs.Solid.{plus}

pub plus_at : (xs ys : List ℤ) (k : ℕ) → get_or (plus xs ys) k (pos 0) ≡ get_or xs k (pos 0) +ℤ get_or ys k (pos 0)
unfolding plus
plus_at xs [] k = sym (+ℤ_idr (get_or xs k (pos 0)))
plus_at [] (y ∷ ys) k = sym (+ℤ_idl (get_or (y ∷ ys) k (pos 0)))
plus_at (x ∷ xs) (y ∷ ys) zero = refl
plus_at (x ∷ xs) (y ∷ ys) (suc k) = plus_at xs ys k

pub three_set : (l : List ℤ) (x y z : ℤ) → 3 ≤ length l
    → set (set (set l 0 (get_or l 0 (pos 0) +ℤ x)) 1 (get_or l 1 (pos 0) +ℤ y)) 2 (get_or l 2 (pos 0) +ℤ z) ≡ plus l (x ∷ y ∷ z ∷ [])
unfolding plus
three_set [] x y z h = absurd (omega arith)
three_set (a ∷ []) x y z h = absurd (omega arith)
three_set (a ∷ b ∷ []) x y z h = absurd (omega arith)
three_set (a ∷ b ∷ c ∷ l) x y z h = refl

-- what is set before an entry leaves it
pub second_kept : (l : List ℤ) (x : ℤ) → get_or (set l 0 x) 1 (pos 0) ≡ get_or l 1 (pos 0)
second_kept [] x = refl
second_kept (a ∷ l) x = refl

pub third_kept : (l : List ℤ) (x y : ℤ) → get_or (set (set l 0 x) 1 y) 2 (pos 0) ≡ get_or l 2 (pos 0)
third_kept [] x y = refl
third_kept (a ∷ []) x y = refl
third_kept (a ∷ b ∷ l) x y = refl

-- a count of step one and a small correction
module _ (x y : ℤ) (a : nat_abs x ≤ 2 ^ 53) (b : nat_abs y ≤ 2 ^ 33) where
  both : Held (read x +ℤ read y) (x +ℤ y) (2 ^ 53 + 2 ^ 33)
  both =
      let count : Held x x (2 ^ 53) = record { reads = refl; most = a } in
      let small : Held y y (2 ^ 33) = record { reads = refl; most = b } in
      sum (held count (omega arith)) (held small (omega arith))

  pub both_read : read (read x +ℤ read y) ≡ x +ℤ y
  both_read = (held both (omega arith)).reads
