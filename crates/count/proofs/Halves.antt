-- The nearest whole number of a fraction ± q / 2^(h + 1) from the digits of its size: a shift.
use mathlib.Core.Path.{◌≡◌, sym, ap, ◌∙◌}
use mathlib.Core.Bool.{Bool}
use Prim.Native.Nat.{ℕ, ◌+◌, ◌*◌, ◌/◌, ◌^◌, ◌<◌}
use native.Mathlib.Nat.{add-div_right, div-div-eq-div-mul}
use native.Mathlib.Omega.{arith}
use lib.IntN.{ℤ, pos}
use lib.Pow.{pow-add, pow_pos}
use Rattle.whole.specs.Nearest.{signed, nearest}
use Rattle.whole.proofs.Signed.{nearest_signed, signed_none}

unfoldable pub rounded : Bool → ℕ → ℕ → ℤ
rounded s q h = signed s ((q / 2 ^ h + 1) / 2)

pub nearest_is : (q h : ℕ) (s : Bool) → nearest (signed s q) (2 ^ (h + 1)) ≡ rounded s q h
unfolding rounded
nearest_is q h s = rw (pow-add 2 h 1) (nearest_signed s q (p * 2) (omega (arith, pow_pos h)) ∙ ap (signed s) (ap (λ (k : ℕ). (q + k) / (p * 2)) half ∙ shifted))
  where
    p : ℕ
    p = 2 ^ h

    half : p * 2 / 2 ≡ p
    half = omega arith

    shifted : (q + p) / (p * 2) ≡ (q / p + 1) / 2
    shifted = sym (div-div-eq-div-mul (q + p) p 2) ∙ ap (λ (k : ℕ). k / 2) (add-div_right q (pow_pos h))

-- of 53 digits nothing is left after 63 places
pub rounded_none : (s : Bool) (q : ℕ) → q < 2 ^ 53 → rounded s q 63 ≡ pos 0
unfolding rounded
rounded_none s q h = let z : q / 2 ^ 63 ≡ 0 = omega arith in rw z (signed_none s)
