-- What the machine reads of small numbers, and a line's terms band by band: what a band does not name gains nothing.
use mathlib.Core.Path.{◌≡◌, ◌∙◌}
use mathlib.Core.List.{[], ◌∷◌}
use Prim.Native.Nat.{ℕ, ◌+◌, ◌*◌, ◌^◌, ◌≤◌}
use native.Mathlib.Nat.{mul-le-mul_left, mul-le-mul_right}
use native.Mathlib.Omega.{arith}
use lib.IntN.{ℤ, pos, neg_ℤ, nat_abs, ◌+ℤ◌, ◌-ℤ◌, ◌*ℤ◌}
use mir.Syntax.{w64}
use mir.Val.{to_z, of_z}
use mir.Facts.{to_z-of_z}
use Rattle.whole.proofs.Machine as machine
use Rattle.whole.proofs.Parts.{fits_abs, abs_neg, abs_sum, abs_product}
use Rattle.whole.proofs.Ring.{equal, !, #, ◌⊕◌, ◌⊗◌}
use Rattle.bands.specs.declared.Band.{Band}
use Rattle.bands.specs.declared.Band.TheVariants.{Diurnal, LongPeriod, Semidiurnal}
use Rattle.bands.specs.declared.Line.{Line}
use Rattle.bands.specs.declared.Sums.{Sums}
use Rattle.bands.specs.Bands.{Coefficient, C20, C21, S21, C22, S22, of_diurnal, of_long_period, of_semidiurnal, of_band, taken, term, plus_line}

-- what the machine reads of a number that fits, and of its negative
pub read : (z : ℤ) → nat_abs z ≤ 2 ^ 62 → to_z w64 (of_z w64 z) ≡ z
read z h = to_z-of_z (fits_abs w64 z (omega arith))

pub minus_read : (z : ℤ) → nat_abs z ≤ 2 ^ 24 → to_z w64 (of_z w64 (pos 0 -ℤ to_z w64 (of_z w64 z))) ≡ neg_ℤ z
minus_read z h = machine.minus_read w64 (of_z w64 z) (read z (omega arith)) (omega arith)

pub minus_held : (z : ℤ) → nat_abs z ≤ 2 ^ 24 → nat_abs (to_z w64 (of_z w64 (pos 0 -ℤ to_z w64 (of_z w64 z)))) ≤ 2 ^ 24
minus_held z h = rw (minus_read z h) (omega (arith, abs_neg z))

-- a call of `plus_wave`, its arguments as the machine reads them
module _ {t a c b s t' a' c' b' s' : ℤ} (T : t ≡ t') (A : a ≡ a') (C : c ≡ c') (B : b ≡ b') (S : s ≡ s') where
  pub grown : {r : ℤ} → r ≡ t +ℤ (a *ℤ c +ℤ b *ℤ s) → r ≡ t' +ℤ (a' *ℤ c' +ℤ b' *ℤ s')
  grown e = e ∙ rw (T, A, C, B, S)

-- ---- the five sums, one band at a time
same : (x c s : ℤ) → x ≡ x +ℤ (pos 0 *ℤ c +ℤ pos 0 *ℤ s)
same x c s = equal (! 0) (! 0 ⊕ (# (pos 0) ⊗ ! 1 ⊕ # (pos 0) ⊗ ! 2)) (x ∷ c ∷ s ∷ []) (omega arith)

module _ (sums : Sums) (line : Line) (c s : ℤ) where
  abbrev ip : ℤ
  ip = line.ip

  abbrev op : ℤ
  op = line.op

  pub diurnal : line.band ≡ Diurnal → {x y : ℤ} → x ≡ sums.c21 +ℤ (op *ℤ c +ℤ ip *ℤ s) → y ≡ sums.s21 +ℤ (ip *ℤ c +ℤ neg_ℤ op *ℤ s)
      → ◌≡◌ {A = Sums} (record { c20 = sums.c20; c21 = x; s21 = y; c22 = sums.c22; s22 = sums.s22 }) (plus_line sums line c s)
  unfolding plus_line term of_band of_diurnal
  diurnal e p q =
      rw e (λ i. record { c20 = same sums.c20 c s i; c21 = p i; s21 = q i; c22 = same sums.c22 c s i; s22 = same sums.s22 c s i })

  pub long-period : line.band ≡ LongPeriod → {x : ℤ} → x ≡ sums.c20 +ℤ (ip *ℤ c +ℤ neg_ℤ op *ℤ s)
      → ◌≡◌ {A = Sums} (record { c20 = x; c21 = sums.c21; s21 = sums.s21; c22 = sums.c22; s22 = sums.s22 }) (plus_line sums line c s)
  unfolding plus_line term of_band of_long_period
  long-period e p =
      rw e (λ i. record { c20 = p i; c21 = same sums.c21 c s i; s21 = same sums.s21 c s i; c22 = same sums.c22 c s i; s22 = same sums.s22 c s i })

  pub semidiurnal : line.band ≡ Semidiurnal → {x y : ℤ} → x ≡ sums.c22 +ℤ (ip *ℤ c +ℤ neg_ℤ op *ℤ s) → y ≡ sums.s22 +ℤ (neg_ℤ op *ℤ c +ℤ neg_ℤ ip *ℤ s)
      → ◌≡◌ {A = Sums} (record { c20 = sums.c20; c21 = sums.c21; s21 = sums.s21; c22 = x; s22 = y }) (plus_line sums line c s)
  unfolding plus_line term of_band of_semidiurnal
  semidiurnal e p q =
      rw e (λ i. record { c20 = same sums.c20 c s i; c21 = same sums.c21 c s i; s21 = same sums.s21 c s i; c22 = p i; s22 = q i })

-- ---- sizes: what a coefficient takes of a line is no more than the line has
pub taken_size : (band : Band) (k : Coefficient) (ip op : ℤ) → nat_abs (of_band band k ip op).cosine + nat_abs (of_band band k ip op).sine ≤ nat_abs ip + nat_abs op
unfolding of_band of_diurnal of_long_period of_semidiurnal
taken_size Diurnal C20 ip op = omega arith
taken_size Diurnal C21 ip op = omega arith
taken_size Diurnal S21 ip op = omega (arith, abs_neg op)
taken_size Diurnal C22 ip op = omega arith
taken_size Diurnal S22 ip op = omega arith
taken_size LongPeriod C20 ip op = omega (arith, abs_neg op)
taken_size LongPeriod C21 ip op = omega arith
taken_size LongPeriod S21 ip op = omega arith
taken_size LongPeriod C22 ip op = omega arith
taken_size LongPeriod S22 ip op = omega arith
taken_size Semidiurnal C20 ip op = omega arith
taken_size Semidiurnal C21 ip op = omega arith
taken_size Semidiurnal S21 ip op = omega arith
taken_size Semidiurnal C22 ip op = omega (arith, abs_neg op)
taken_size Semidiurnal S22 ip op = omega (arith, abs_neg ip, abs_neg op)

pub term_size : (k : Coefficient) (line : Line) (c s : ℤ) (w : ℕ) → nat_abs c ≤ w → nat_abs s ≤ w → nat_abs (term k line c s) ≤ (nat_abs line.ip + nat_abs line.op) * w
unfolding term
term_size k line c s w hc hs =
    let a = (taken k line).cosine in
    let b = (taken k line).sine in
    omega (
      arith,
      abs_sum (a *ℤ c) (b *ℤ s),
      abs_product a c,
      abs_product b s,
      mul-le-mul_left (nat_abs a) hc,
      mul-le-mul_left (nat_abs b) hs,
      mul-le-mul_right w (taken_size line.band k line.ip line.op),
    )
