-- What the machine's operations on signed numbers give, and that they fit.
use mathlib.Core.Path.{◌≡◌, refl, sym, ◌∙◌}
use mathlib.Core.Bool.{Bool, true, false, ◌&&◌}
use Prim.Native.Nat.{ℕ, suc, ◌+◌, ◌^◌, ◌≤◌, ◌<◌}
use native.Mathlib.Omega.{arith}
use lib.Dec.{T, leb, leb-suc-suc}
use lib.IntN.{ℤ, pos, negsuc, neg_ℤ, nat_abs, ◌+ℤ◌, ◌-ℤ◌, +ℤ_idl}
use lib.Signed.{le_z, non_neg, mag}
use mir.Syntax.{Width, w64}
use mir.Val.{SFits, to_z, of_z, hbits}
use mir.Facts.{to_z-of_z}
use Rattle.whole.proofs.Parts.{up, dn, fits_abs, abs_sum, abs, abs_le, difference}

pub positive : (x : ℤ) → dn x ≤ up x → T (non_neg x)
positive (pos n) h = tt
positive (negsuc n) h = absurd (omega arith)

pub abs_difference : (a b : ℤ) → nat_abs (a -ℤ b) ≤ nat_abs a + nat_abs b
abs_difference a b = abs_le (a -ℤ b) (nat_abs a + nat_abs b) (omega (arith, difference a b, abs a, abs b)) (omega (arith, difference a b, abs a, abs b))

-- an operation's result fits where bounds on its operands say so
pub sum_fits : (w : Width) (a b : ℤ) → nat_abs a + nat_abs b < 2 ^ hbits w → SFits w (a +ℤ b)
sum_fits w a b h = fits_abs w (a +ℤ b) (omega (arith, abs_sum a b))

pub difference_fits : (w : Width) (a b : ℤ) → nat_abs a + nat_abs b < 2 ^ hbits w → SFits w (a -ℤ b)
difference_fits w a b h = fits_abs w (a -ℤ b) (omega (arith, abs_difference a b))

-- what the machine reads of the 64 bits that it holds for a number
abbrev pub read : ℤ → ℤ
read z = to_z w64 (of_z w64 z)

-- what the machine reads back of a call's result, whose range is `c.f.type_inv`
pub back : (w : Width) (z : ℤ) → mag z < 2 ^ hbits w → to_z w (of_z w z) ≡ z
back w z h = to_z-of_z (record { sfits = h })

-- minus a number, worked out from what the machine holds of it
module _ (w : Width) (n : ℕ) {z : ℤ} (held : to_z w n ≡ z) (small : nat_abs z < 2 ^ hbits w) where
  pub minus_fits : SFits w (pos 0 -ℤ to_z w n)
  minus_fits = rw held (difference_fits w (pos 0) z (omega arith))

  pub minus_read : to_z w (of_z w (pos 0 -ℤ to_z w n)) ≡ neg_ℤ z
  minus_read = to_z-of_z minus_fits ∙ rw held (+ℤ_idl (neg_ℤ z))

-- a number lies between -(k + 1) and k + 1 where its size is at most k + 1
pub band : (k : ℕ) (z : ℤ) → (le_z (negsuc k) z && le_z z (pos (suc k))) ≡ leb (nat_abs z) (suc k)
band k (pos n) = refl
band k (negsuc n) = last (leb n k) ∙ sym (leb-suc-suc n k)
  where
    last : (b : Bool) → (b && true) ≡ b
    last true = refl
    last false = refl
