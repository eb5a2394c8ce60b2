-- What holds on an eighth holds on the whole turn; and the sine and the cosine by the eighth, from one S(a) and one C(a), as the code has them.
use mathlib.Core.Path.{◌≡◌, refl, sym, ap, ◌∙◌}
use mathlib.Core.Bool.{Bool, true, false, cond, ◌||◌}
use Prim.Native.Nat.{ℕ, ◌+◌, ◌-◌, ◌*◌, ◌/◌, ◌%◌, ◌^◌, ◌≤◌, ◌<◌}
use native.Mathlib.Omega.{arith}
use lib.Dec.{ltb, eqb}
use lib.IntN.{ℤ, pos, neg_ℤ}
use Rattle.wave.specs.Wave.{
  folded,
  part,
  signed,
  eighths,
  further,
  angle,
  square,
  steps,
  sine_divisors,
  eighth_sine,
  cosine_divisors,
  eighth_cosine,
  sin,
  cos,
}

by_fold : (c : Bool) (b : ℕ) → b < 2 ^ 29 → cond c b (2 ^ 29 - b) ≤ 2 ^ 29
by_fold true b h = omega arith
by_fold false b h = omega arith

pub folded_size : (e b : ℕ) → b < 2 ^ 29 → folded e b ≤ 2 ^ 29
unfolding folded
folded_size e b h = by_fold (eqb (e % 2) 0) b h

-- a relation of two waves that holds of their parts on an eighth, and of the negatives where it holds of the numbers
module _
    (R : ℤ → ℤ → Type 0)
    (negated : (s x : ℤ) → R s x → R (neg_ℤ s) (neg_ℤ x))
    (S C S' C' : ℕ → ℤ)
    (hs : (a : ℕ) → a ≤ 2 ^ 29 → R (S a) (S' a))
    (hc : (a : ℕ) → a ≤ 2 ^ 29 → R (C a) (C' a))
  where
    by_sign : (c : Bool) (s x : ℤ) → R s x → R (cond c s (neg_ℤ s)) (cond c x (neg_ℤ x))
    by_sign true s x h = h
    by_sign false s x h = negated s x h

    by_part : (c : Bool) (a : ℕ) → a ≤ 2 ^ 29 → R (cond c (S a) (C a)) (cond c (S' a) (C' a))
    by_part true a h = hs a h
    by_part false a h = hc a h

    pub everywhere : (t : ℕ) → R (eighths S C t) (eighths S' C' t)
    unfolding eighths signed part
    everywhere t =
        let e = t / 2 ^ 29 in
        by_sign (ltb e 4) _ _ (by_part (eqb (e % 4) 0 || eqb (e % 4) 3) _ (folded_size e (t % 2 ^ 29) (omega arith)))

-- the sine in eighth e, from S(a) and C(a)
abbrev pub sine_in : ℕ → ℕ → ℕ → ℤ
sine_in e s c = signed e (part (λ _. pos s) (λ _. pos c) e 0)

sin_in : (t : ℕ) → let a = folded (t / 2 ^ 29) (t % 2 ^ 29) in sin t ≡ sine_in (t / 2 ^ 29) (eighth_sine a) (eighth_cosine a)
unfolding sin eighths part
sin_in t = refl

-- a quarter turn further on is two eighths further on, and there a is the same
further_eighth : (t : ℕ) → t < 2 ^ 32 → further t / 2 ^ 29 ≡ (t / 2 ^ 29 + 2) % 8
unfolding further
further_eighth t h = omega arith

further_rest : (t : ℕ) → further t % 2 ^ 29 ≡ t % 2 ^ 29
unfolding further
further_rest t = omega arith

further_folded : (e b : ℕ) → folded ((e + 2) % 8) b ≡ folded e b
unfolding folded
further_folded e b =
    let h : (e + 2) % 8 % 2 ≡ e % 2 = omega arith in
    ap (λ (k : ℕ). cond (eqb k 0) b (2 ^ 29 - b)) h

cos_in : (t : ℕ) → t < 2 ^ 32
    → let a = folded (t / 2 ^ 29) (t % 2 ^ 29) in cos t ≡ sine_in ((t / 2 ^ 29 + 2) % 8) (eighth_sine a) (eighth_cosine a)
unfolding cos
cos_in t h = rw (further_eighth t h, further_rest t, further_folded (t / 2 ^ 29) (t % 2 ^ 29)) at (sin_in (further t))

-- the sine and the cosine in eighth e, where S(a) and C(a) are worked out from one x and one y
module _ (t : ℕ) (ht : t < 2 ^ 32) {a x y s c : ℕ}
    (ha : a ≡ folded (t / 2 ^ 29) (t % 2 ^ 29))
    (hx : x ≡ angle a)
    (hy : y ≡ square x)
    (hs : s ≡ ((x * steps y (2 ^ 32) sine_divisors + 2 ^ 31) / 2 ^ 32 + 2) / 4)
    (hc : c ≡ (steps y (2 ^ 32) cosine_divisors + 2) / 4)
  where
    sine_is : s ≡ eighth_sine a
    unfolding eighth_sine
    sine_is = cc

    cosine_is : c ≡ eighth_cosine a
    unfolding eighth_cosine
    cosine_is = cc

    -- where the code has u and v in eighth e, they are the sine and the cosine
    pub in_eighth : {e : ℕ} → t / 2 ^ 29 ≡ e → {u v : ℤ} {p : ℤ × ℤ} → p ≡ (u, v)
        → u ≡ sine_in e s c → v ≡ sine_in ((e + 2) % 8) s c → (p.0 ≡ sin t) × (p.1 ≡ cos t)
    in_eighth k {u} {v} e f g = (
      ap (λ (p : ℤ × ℤ). p.0) e ∙ f ∙ rw (sine_is, cosine_is, ha, ← k) (sym (sin_in t)),
      ap (λ (p : ℤ × ℤ). p.1) e ∙ g ∙ rw (sine_is, cosine_is, ha, ← k) (sym (cos_in t ht)),
    )
