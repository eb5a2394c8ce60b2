-- The fold is the definition's, S(a) and C(a) are worked out once, and in each eighth the sine and the cosine are one of the two with a sign.
use borrow.Author.Tests.{eq-eqb, ne_eqb}
use Rattle.std.proofs.Common.{◌≡◌, ℕ, ◌+◌, ◌/◌, ◌%◌, ◌^◌, ◌≤◌, ℤ, pos, neg_ℤ, ◌-ℤ◌, nat_abs, ap, ◌∙◌, arith, w64, to_z, of_z, to_z-of_z}
use mir.Facts.{to_z_pos}
use Rattle.whole.proofs.Machine.{minus_read}
use Rattle.whole.proofs.Parts.{fits_abs}
use Rattle.wave.specs.Wave.{folded, part, signed, sin, cos}
use Rattle.wave.proofs.Size.{sin_size, cos_size}
use Rattle.wave.proofs.Turn.{sine_in, in_eighth}
use Rattle.wave.proofs.wave_of.Goals as goal
use Rattle.wave.proofs.wave_of.Goals.{then-e-eq0, else-e-eq0, in-0, in-1, in-2, in-3, in-4, in-5, in-6, in-7-to-4294967295}

-- S(a) or C(a), with either sign
module _ {v : ℕ} (small : v ≤ 2 ^ 30) where
  plus : to_z w64 v ≡ pos v
  plus = to_z_pos w64 (omega arith)

  minus : to_z w64 (of_z w64 (pos 0 -ℤ to_z w64 v)) ≡ neg_ℤ (pos v)
  minus = minus_read w64 v plus (omega arith)

-- a wave as the machine reads it
stored : {z v : ℤ} → z ≡ v → nat_abs v ≤ 2 ^ 30 → to_z w64 (of_z w64 z) ≡ v
stored {z} {v} e h = ap (λ (x : ℤ). to_z w64 (of_z w64 x)) e ∙ to_z-of_z (fits_abs w64 v (omega arith))

pub returns : goal.returns
unfolding folded signed part
returns c =
    let t = c.args.phase in
    let a : c.if-e-eq0.a ≡ folded (t / 2 ^ 29) (t % 2 ^ 29) =
    elim c.if-e-eq0.branch [
      | then-e-eq0 w ↦ rw (eq-eqb (t / 2 ^ 29 % 2) 0 w.if-e-eq0.true) w.a-is
      | else-e-eq0 w ↦ rw (ne_eqb (t / 2 ^ 29 % 2) 0 w.if-e-eq0.false) w.a-is
    ] in
    let S = c.eighth_sine_of-s.ensures in
    let C = c.eighth_cosine_of-c.ensures in
    let s : ℕ = c.eighth_sine_of-s.result in
    let d : ℕ = c.eighth_cosine_of-c.result in
    let eighth : (e : ℕ) (u v : ℤ) (p : ℤ × ℤ) → t / 2 ^ 29 ≡ e → p ≡ (u, v) → u ≡ sine_in e s d → v ≡ sine_in ((e + 2) % 8) s d → (p.0 ≡ sin t) × (p.1 ≡ cos t) =
    λ e u v p k. in_eighth t (omega arith) a c.angle_of-x.ensures.0 c.square_of-y.ensures.0 S.0 C.0 k {u = u} {v = v} {p = p} in
    let both : (c.match-e-div536870912.sine.0 ≡ sin t) × (c.match-e-div536870912.sine.1 ≡ cos t) =
    elim c.match-e-div536870912.branch [
      | in-0 w ↦ eighth 0 _ _ _ w.in-0.is w.sine-is (plus S.1) (plus C.1)
      | in-1 w ↦ eighth 1 _ _ _ w.in-1.is w.sine-is (plus C.1) (plus S.1)
      | in-2 w ↦ eighth 2 _ _ _ w.in-2.is w.sine-is (plus C.1) (minus S.1)
      | in-3 w ↦ eighth 3 _ _ _ w.in-3.is w.sine-is (plus S.1) (minus C.1)
      | in-4 w ↦ eighth 4 _ _ _ w.in-4.is w.sine-is (minus S.1) (minus C.1)
      | in-5 w ↦ eighth 5 _ _ _ w.in-5.is w.sine-is (minus C.1) (minus S.1)
      | in-6 w ↦ eighth 6 _ _ _ w.in-6.is w.sine-is (minus C.1) (plus S.1)
      | in-7-to-4294967295 w ↦ let seven : t / 2 ^ 29 ≡ 7 = omega arith in eighth 7 _ _ _ seven w.sine-is (minus S.1) (plus C.1)
    ] in
    (stored both.0 (sin_size t), stored both.1 (cos_size t))
