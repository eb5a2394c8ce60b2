-- Room for products and sums of 64 bits, by what their factors and terms are at most.
use mathlib.Core.Path.{◌≡◌, ap, ap₂, ◌∙◌}
use Prim.Native.Nat.{ℕ, ◌+◌, ◌*◌, ◌^◌, ◌≤◌, ◌<◌}
use native.Mathlib.Nat.{mul-le-mul}
use native.Mathlib.Omega.{arith}
use lib.IntN.{ℤ, nat_abs, ◌+ℤ◌, ◌*ℤ◌}
use mir.Syntax.{w64}
use mir.Val.{SFits}
use mir.Facts.{to_z-of_z}
use Rattle.whole.proofs.Machine.{read}
use Rattle.whole.proofs.Parts.{fits_abs, abs_product, abs_sum}

-- h, as the machine works it out, is the number z, of at most m
pub record Held (h z : ℤ) (m : ℕ) : Type 0 where
  pub reads : h ≡ z
  pub most : nat_abs z ≤ m

module _ {h z : ℤ} {m : ℕ} (a : Held h z m) where
  pub room : m < 2 ^ 63 → SFits w64 h
  room l = rw a.reads (fits_abs w64 z (omega (arith, a.most)))

  pub held : m < 2 ^ 63 → Held (read h) z m
  held l = record { reads = to_z-of_z (room l) ∙ a.reads; most = a.most }

  pub times : (k : ℤ) → Held (k *ℤ h) (k *ℤ z) (nat_abs k * m)
  times k = record { reads = ap (λ (x : ℤ). k *ℤ x) a.reads; most = rw (abs_product k z) (mul-le-mul (omega arith) a.most) }

  pub plus : {h' z' : ℤ} {m' : ℕ} → Held h' z' m' → Held (h +ℤ h') (z +ℤ z') (m + m')
  plus {h'} {z'} b = record { reads = ap₂ ◌+ℤ◌ a.reads b.reads; most = omega (arith, abs_sum z z', a.most, b.most) }

  -- what the rounding asks
  pub ready : {n : ℕ} → 0 < n → m + n < 2 ^ 63 → (0 < n) × (nat_abs h + n < 2 ^ 63)
  ready {n} l r = (l, rw a.reads (omega (arith, a.most)))
