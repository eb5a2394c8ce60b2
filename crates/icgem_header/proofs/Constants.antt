-- A constant: a decimal that is not below zero and fits 64 bits.
use mathlib.Core.Path.{◌≡◌, refl, sym, ap, ◌∙◌}
use mathlib.Core.Bool.{Bool, true, false, not, ◌&&◌}
use mathlib.Core.List.{List}
use Prim.Native.Nat.{ℕ, zero, suc, ◌^◌, ◌<◌}
use native.Mathlib.Omega.{arith}
use borrow.Author.Tests.{le-leb, lt-leb, lt-ltb, ltb-true, ltb-false}
use lib.Dec.{ltb}
use lib.IntN.{nat_abs}
use lib.Signed.{non_neg}
use Rattle.whole.specs.Nearest.{signed}
use Rattle.whole.proofs.Signed.{abs_signed}
use Rattle.icgem_decimal.specs.Decimal.{is_decimal, in_units}
use Rattle.icgem_decimal.proofs.Tests.{and_false}
use Rattle.icgem_file.specs.Header.{is_constant}

and_true : (b : Bool) → (b && true) ≡ b
and_true true = refl
and_true false = refl

-- minus nothing is not below zero
sign_is : (negative : Bool) (size : ℕ) → non_neg (signed negative size) ≡ not (negative && ltb 0 size)
unfolding signed
sign_is false size = refl
sign_is true zero = refl
sign_is true (suc size) = rw (lt-ltb 0 (suc size) (omega arith))

not_below : {n : ℕ} → (n < 18446744073709551616 → ⊥) → 18446744073709551615 < n
not_below {n} h = by_test (ltb n 18446744073709551616) refl
  where
    by_test : (b : Bool) → ltb n 18446744073709551616 ≡ b → 18446744073709551615 < n
    by_test true e = absurd (h (ltb-true n 18446744073709551616 e))
    by_test false e = omega (arith, ltb-false n 18446744073709551616 e)

module _ (places : ℕ) (word : List ℕ) where
  pub no_decimal : is_decimal word ≡ false → is_constant places word ≡ false
  unfolding is_constant
  no_decimal e = rw e

  pub too_large : (nat_abs (in_units places word) < 2 ^ 64 → ⊥) → is_constant places word ≡ false
  unfolding is_constant
  too_large h =
      let large = lt-leb (nat_abs (in_units places word)) 18446744073709551615 (not_below h) in
      rw (large, and_false (non_neg (in_units places word))) (and_false (is_decimal word))

  module _ (negative : Bool) (size : ℕ) (z : in_units places word ≡ signed negative size) where
    pub fits : is_decimal word ≡ true → nat_abs (in_units places word) < 2 ^ 64 → is_constant places word ≡ not (negative && ltb 0 size)
    unfolding is_constant
    fits d h =
        let small = le-leb (nat_abs (in_units places word)) 18446744073709551615 (omega arith) in
        rw (d, small, z, sign_is negative size) (and_true (not (negative && ltb 0 size)))

    pub size_is : size ≡ nat_abs (in_units places word)
    size_is = sym (ap nat_abs z ∙ abs_signed negative size)
