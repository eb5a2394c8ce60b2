-- Whether a count that was read is zero.
use Rattle.std.proofs.Common.{◌≡◌, suc, ◌-◌, ◌^◌, ◌≤◌, eqb, ℤ, pos, negsuc, nat_abs, sym, refl, ap, ◌∙◌, arith, w64, of_z, ne_eqb}

-- the machine compares the bits
bits_zero : (r : ℤ) → nat_abs r ≤ 2 ^ 31 → eqb (of_z w64 r) 0 ≡ eqb (nat_abs r) 0
bits_zero (pos n) h = refl
bits_zero (negsuc n) h = ne_eqb (2 ^ 64 - suc n) 0 (λ q. omega arith) ∙ sym (ne_eqb (suc n) 0 (λ q. omega arith))

pub zero_test : {r z : ℤ} → r ≡ z → nat_abs r ≤ 2 ^ 31 → eqb (of_z w64 r) 0 ≡ eqb (nat_abs z) 0
zero_test {r} e h = bits_zero r h ∙ ap (λ (x : ℤ). eqb (nat_abs x) 0) e
