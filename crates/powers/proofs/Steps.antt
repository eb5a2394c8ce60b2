-- The recurrences of E and F from order m - 1 to m, as the code goes.
use mathlib.Core.Path.{◌≡◌, ap, ◌∙◌}
use mathlib.Core.List.{[], ◌∷◌}
use Prim.Native.Nat.{ℕ, zero, suc, ◌-◌, ◌<◌}
use native.Mathlib.Nat.{lt_irrefl}
use native.Mathlib.Numerals.{sub-one}
use native.Mathlib.Omega.{arith}
use lib.Ieee.{Float, binary64, of_bits, round}
use Rattle.doubles.specs.declared.Complex.{Complex}
use Rattle.powers.specs.Powers.{E, F, power, next, powers}

module _ (u v : Float) where
  next_is : (m : ℕ) → 0 < m → next (power (m - 1) u v) u v ≡ power m u v
  unfolding E F
  next_is zero h = absurd (lt_irrefl 0 h)
  next_is (suc m) h = rw sub-one

  pub started : (m : ℕ) → m ≡ 0 → let p : Complex = record { re = of_bits binary64 0x3ff0_0000_0000_0000; im = of_bits binary64 0 } in p ≡ power m u v
  unfolding E F of_bits round
  started m e = rw e

  pub raised : (m : ℕ) → 0 < m → (p q : Complex) → p ≡ power (m - 1) u v → q ≡ next p u v → q ≡ power m u v
  raised m h p q e f = f ∙ ap (λ (x : Complex). next x u v) e ∙ next_is m h

  pub in_turn : (p0 p1 p2 p3 : Complex) → p0 ≡ power 0 u v → p1 ≡ power 1 u v → p2 ≡ next p1 u v → p3 ≡ next p2 u v → (p0 ∷ p1 ∷ p2 ∷ p3 ∷ []) ≡ powers u v
  unfolding powers
  in_turn p0 p1 p2 p3 a b c d =
      let two : p2 ≡ power 2 u v = raised 2 (omega arith) p1 p2 b c in
      let three : p3 ≡ power 3 u v = raised 3 (omega arith) p2 p3 two d in
      rw (a, b, two, three)
