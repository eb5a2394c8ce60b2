-- Two lines are twins exactly where their six multipliers are the same.
use mathlib.Core.Bool.{true}
use mathlib.Core.List.{List}
use mathlib.Core.Path.{◌≡◌, refl, ap}
use Prim.Native.Nat.{ℕ, ◌<◌}
use native.Mathlib.Omega.{arith}
use borrow.Author.Tests.{eqb-true, eq-eqb}
use lib.Dec.{eqb}
use lib.IntN.{ℤ, nat_abs, ◌-ℤ◌}
use Rattle.arguments.specs.declared.Multipliers.{Multipliers}
use Rattle.whole.specs.Sum.{all_to}
use Rattle.whole.proofs.Counted.{all_at, all_of}
use Rattle.whole.proofs.Parts.{same, difference, abs, abs_le}
use Rattle.sheet.specs.Sheet.{multiplier, multipliers}
use Rattle.sheet.specs.Accepted.{twins}

-- numbers that differ by nothing
one_number : (x y : ℤ) → eqb (nat_abs (x -ℤ y)) 0 ≡ true → x ≡ y
one_number x y e = same x y (omega (arith, difference x y, abs (x -ℤ y), eqb-true (nat_abs (x -ℤ y)) 0 e))

by_nothing : (x y : ℤ) → x ≡ y → eqb (nat_abs (x -ℤ y)) 0 ≡ true
by_nothing x y e =
    let z = y -ℤ y in
    rw e (eq-eqb (nat_abs z) 0 (omega (arith, abs_le z 0 (omega (arith, difference y y)) (omega (arith, difference y y)))))

module _ (s : List ℕ) (e f : ℕ) where
  pub twins_each : twins s e f ≡ true → (i : ℕ) → i < 6 → multiplier s e i ≡ multiplier s f i
  unfolding twins
  twins_each t i h = one_number _ _ (all_at (λ q. eqb (nat_abs (multiplier s e q -ℤ multiplier s f q)) 0) 6 t i h)

  pub each_twins : ((i : ℕ) → i < 6 → multiplier s e i ≡ multiplier s f i) → twins s e f ≡ true
  unfolding twins
  each_twins m = all_of (λ q. eqb (nat_abs (multiplier s e q -ℤ multiplier s f q)) 0) 6 (λ i h. by_nothing _ _ (m i h))

  pub twins_same : twins s e f ≡ true → multipliers s e ≡ multipliers s f
  unfolding multipliers
  twins_same t =
      let at = twins_each t in
      rw (at 0 (omega arith), at 1 (omega arith), at 2 (omega arith), at 3 (omega arith), at 4 (omega arith), at 5 (omega arith)) refl

  pub same_twins : multipliers s e ≡ multipliers s f → twins s e f ≡ true
  unfolding twins multipliers all_to
  same_twins m =
      rw
      (by_nothing _ _ (ap (λ (n : Multipliers). n.tau) m), by_nothing _ _ (ap (λ (n : Multipliers). n.s) m), by_nothing _ _ (ap (λ (n : Multipliers). n.h) m), by_nothing _ _ (ap (λ (n : Multipliers). n.p) m), by_nothing _ _ (ap (λ (n : Multipliers). n.np) m), by_nothing _ _ (ap (λ (n : Multipliers). n.ps) m))
      refl
