-- Laws of `modulo`: what it is known by, and that sums and multiples may be reduced on the way.
use Rattle.std.proofs.Common.{◌≡◌, ℕ, suc, ◌+◌, ◌-◌, ◌*◌, ◌/◌, ◌%◌, ◌^◌, ◌<◌, ◌≤◌, ℤ, pos, negsuc, ◌+ℤ◌, ◌-ℤ◌, ◌*ℤ◌, nat_abs, ap, mod-lt, arith, w32, SFits, of_z}
use native.Mathlib.Nat.{div-add-mod}
use lib.IntN.{sub_ℕ}
use lib.Signed.{shr_z}
use Rattle.whole.proofs.Parts.{up, dn, diff, sum, difference, product, floored}
use Rattle.whole.proofs.Floor.{only_floor}
use Rattle.arguments.specs.Phase.{modulo}

-- of a number that is not negative
abs_positive : (z : ℤ) → dn z ≤ up z → nat_abs z + dn z ≡ up z
abs_positive (pos a) h = omega arith
abs_positive (negsuc a) h = absurd (omega arith)

-- z is n times its floor, and the modulus more
divided : (z : ℤ) (n : ℕ) → 0 < n → up z + n * dn (shr_z z n) ≡ n * up (shr_z z n) + dn z + modulo z n
unfolding modulo
divided z n h =
    let s = shr_z z n in
    let F = floored z n h in
    let P = product s (pos n) in
    let D = difference z (s *ℤ pos n) in
    omega (arith, F.floor, abs_positive (z -ℤ s *ℤ pos n) (omega (arith, F.floor)))

-- only one number below n is z less a multiple of n
only_modulo : (z : ℤ) (u d n r : ℕ) → r < n → up z + n * d ≡ n * u + dn z + r → r ≡ modulo z n
only_modulo z u d n r h e =
    let k = sub_ℕ u d in
    let K = ap (λ (x : ℕ). n * x) (diff u d) in
    let same : k ≡ shr_z z n = only_floor {z = z} {m = n} k (shr_z z n) (record { floor = omega arith; roof = omega arith }) (floored z n (omega arith)) in
    omega (arith, divided z n (omega arith), ap (λ (x : ℤ). n * up x) same, ap (λ (x : ℤ). n * dn x) same)

module _ (n : ℕ) (h : 0 < n) where
  -- of a sum
  pub modulo_sum : (y z : ℤ) → (modulo y n + modulo z n) % n ≡ modulo (y +ℤ z) n
  modulo_sum y z =
      let m = modulo y n + modulo z n in
      only_modulo (y +ℤ z) (up (shr_z y n) + up (shr_z z n) + m / n) (dn (shr_z y n) + dn (shr_z z n)) n (m % n) (mod-lt m h)
      (omega (arith, divided y n h, divided z n h, sum y z, div-add-mod m n))

  -- of a multiple
  pub modulo_product : (k : ℤ) (a : ℕ) → modulo k n * a % n ≡ modulo (k *ℤ pos a) n
  modulo_product k a =
      let m = modulo k n * a in
      only_modulo (k *ℤ pos a) (up (shr_z k n) * a + m / n) (dn (shr_z k n) * a) n (m % n) (mod-lt m h)
      (omega (arith, ap (λ (x : ℕ). x * a) (divided k n h), product k (pos a), div-add-mod m n))

  -- of a number that is below n already
  pub modulo_below : (a : ℕ) → a < n → a ≡ modulo (pos a) n
  modulo_below a l = only_modulo (pos a) 0 0 n a l (omega arith)

  -- below n
  pub modulo_lt : (z : ℤ) → modulo z n < n
  modulo_lt z = omega (arith, divided z n h, (floored z n h).roof)

-- the bits that hold a signed number are the number modulo a turn
pub modulo_bits : (k : ℤ) → SFits w32 k → of_z w32 k ≡ modulo k (2 ^ 32)
modulo_bits (pos n) f = modulo_below (2 ^ 32) (omega arith) n (omega (arith, f.sfits))
modulo_bits (negsuc n) f = let l = f.sfits in only_modulo (negsuc n) 0 1 (2 ^ 32) (2 ^ 32 - suc n) (omega arith) (omega arith)
