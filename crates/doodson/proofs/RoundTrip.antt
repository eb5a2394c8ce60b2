-- Number to multipliers to number, and multipliers to number to multipliers, are each the identity wherever not refused.
use borrow.Author.Tests.{leb-true, le-leb}
use mathlib.Core.Path.{◌≡◌, refl, sym, ap, subst, ◌∙◌}
use mathlib.Core.Bool.{Bool, true, false, cond}
use Prim.Native.Nat.{ℕ, ◌+◌, ◌*◌, ◌/◌, ◌%◌, ◌^◌, ◌≤◌}
use native.Mathlib.Nat.{div-div-eq-div-mul}
use native.Mathlib.Omega.{arith}
use lib.Dec.{leb}
use lib.IntN.{ℤ, pos, nat_abs, ◌+ℤ◌, ◌-ℤ◌}
use Rattle.arguments.specs.declared.Multipliers.{Multipliers}
use Rattle.refusals.specs.Told.Told.{accepted, refused}
use Rattle.doodson.specs.Doodson.{digit, multipliers_in, number_of, writable, read_doodson, write_doodson}
use Rattle.doodson.proofs.Digits.{digit_first, digit_other, digit_back, raised_small, raised_back, first_small, first_back, Writable, all_writable, writable_each}

abbrev minus_five : ℕ → ℤ
minus_five d = pos d -ℤ pos 5

-- an accepted answer passed its test, and has its value
told : {A : Type 0} (b : Bool) (n : ℕ) (x y : A) → cond b (accepted x) (refused n) ≡ accepted y → (b ≡ true) × (x ≡ y)
told true n x y e = (refl, cc)
told false n x y e = absurd (let z : ◌≡◌ {A = ℕ} 0 1 = cc in omega arith)

-- six digits, d5 in front
abbrev joined : ℕ → ℕ → ℕ → ℕ → ℕ → ℕ → ℕ
joined d5 d4 d3 d2 d1 d0 = d5 * 10 ^ 5 + d4 * 10 ^ 4 + d3 * 10 ^ 3 + d2 * 10 ^ 2 + d1 * 10 ^ 1 + d0 * 10 ^ 0

-- a number without its last digit, and that digit
split : (x : ℕ) → x ≡ x / 10 * 10 + x % 10
split x = omega arith

-- the digits of a number below a million, put together again
digits : (n : ℕ) → n ≤ 999999 → joined (digit n 5) (digit n 4) (digit n 3) (digit n 2) (digit n 1) (digit n 0) ≡ n
digits n h =
    sums n (n / 1) (n / 10) (n / 100) (n / 1000) (n / 10000) (n / 100000) (digit n 0) (digit n 1) (digit n 2) (digit n 3) (digit n 4) (digit n 5)
    (omega arith)
    (split (n / 1) ∙ ap (λ (q : ℕ). q * 10 + digit n 0) (div-div-eq-div-mul n 1 10))
    (split (n / 10) ∙ ap (λ (q : ℕ). q * 10 + digit n 1) (div-div-eq-div-mul n 10 10))
    (split (n / 100) ∙ ap (λ (q : ℕ). q * 10 + digit n 2) (div-div-eq-div-mul n 100 10))
    (split (n / 1000) ∙ ap (λ (q : ℕ). q * 10 + digit n 3) (div-div-eq-div-mul n 1000 10))
    (split (n / 10000) ∙ ap (λ (q : ℕ). q * 10 + digit n 4) (div-div-eq-div-mul n 10000 10))
    (omega arith)
  where
    sums : (n q0 q1 q2 q3 q4 q5 r0 r1 r2 r3 r4 r5 : ℕ) → q0 ≡ n → q0 ≡ q1 * 10 + r0 → q1 ≡ q2 * 10 + r1 → q2 ≡ q3 * 10 + r2 → q3 ≡ q4 * 10 + r3 → q4 ≡ q5 * 10 + r4 → r5 ≡ q5 → joined r5 r4 r3 r2 r1 r0 ≡ n
    sums n q0 q1 q2 q3 q4 q5 r0 r1 r2 r3 r4 r5 z a b c d e f = omega arith

-- the last digit, and what stands before it
last : (x d : ℕ) → d ≤ 9 → (x * 10 + d) % 10 ≡ d
last x d h = omega arith

front : (n x d : ℕ) → d ≤ 9 → n ≡ x * 10 + d → n / 10 ≡ x
front n x d h e = omega arith

-- digits joined are the number's digits again
module _ (d5 d4 d3 d2 d1 d0 : ℕ) (h5 : d5 ≤ 9) (h4 : d4 ≤ 9) (h3 : d3 ≤ 9) (h2 : d2 ≤ 9) (h1 : d1 ≤ 9) (h0 : d0 ≤ 9) where
  abbrev n : ℕ
  n = joined d5 d4 d3 d2 d1 d0

  million : n ≤ 999999
  million = omega arith

  q0 : n / 1 ≡ ((((d5 * 10 + d4) * 10 + d3) * 10 + d2) * 10 + d1) * 10 + d0
  q0 = omega arith

  q1 : n / 10 ≡ (((d5 * 10 + d4) * 10 + d3) * 10 + d2) * 10 + d1
  q1 = front n ((((d5 * 10 + d4) * 10 + d3) * 10 + d2) * 10 + d1) d0 h0 (omega arith)

  q2 : n / 100 ≡ ((d5 * 10 + d4) * 10 + d3) * 10 + d2
  q2 = sym (div-div-eq-div-mul n 10 10) ∙ front (n / 10) (((d5 * 10 + d4) * 10 + d3) * 10 + d2) d1 h1 q1

  q3 : n / 1000 ≡ (d5 * 10 + d4) * 10 + d3
  q3 = sym (div-div-eq-div-mul n 100 10) ∙ front (n / 100) ((d5 * 10 + d4) * 10 + d3) d2 h2 q2

  q4 : n / 10000 ≡ d5 * 10 + d4
  q4 = sym (div-div-eq-div-mul n 1000 10) ∙ front (n / 1000) (d5 * 10 + d4) d3 h3 q3

  q5 : n / 100000 ≡ d5
  q5 = sym (div-div-eq-div-mul n 10000 10) ∙ front (n / 10000) d5 d4 h4 q4

  s0 : digit n 0 ≡ d0
  s0 = ap (λ (q : ℕ). q % 10) q0 ∙ last ((((d5 * 10 + d4) * 10 + d3) * 10 + d2) * 10 + d1) d0 h0

  s1 : digit n 1 ≡ d1
  s1 = ap (λ (q : ℕ). q % 10) q1 ∙ last (((d5 * 10 + d4) * 10 + d3) * 10 + d2) d1 h1

  s2 : digit n 2 ≡ d2
  s2 = ap (λ (q : ℕ). q % 10) q2 ∙ last ((d5 * 10 + d4) * 10 + d3) d2 h2

  s3 : digit n 3 ≡ d3
  s3 = ap (λ (q : ℕ). q % 10) q3 ∙ last (d5 * 10 + d4) d3 h3

  s4 : digit n 4 ≡ d4
  s4 = ap (λ (q : ℕ). q % 10) q4 ∙ last d5 d4 h4

  s5 : digit n 5 ≡ d5
  s5 = ap (λ (q : ℕ). q % 10) q5 ∙ omega arith

small : (n k : ℕ) → digit n k ≤ 9
small n k = omega arith

in-range : (number : ℕ) → Writable (multipliers_in number)
unfolding multipliers_in
in-range number = record {
  tau = digit_first (digit number 5) (small number 5);
  s = digit_other (digit number 4) (small number 4);
  h = digit_other (digit number 3) (small number 3);
  p = digit_other (digit number 2) (small number 2);
  np = digit_other (digit number 1) (small number 1);
  ps = digit_other (digit number 0) (small number 0);
}

joined_again : (number : ℕ) → number ≤ 999999 → number_of (multipliers_in number) ≡ number
unfolding number_of multipliers_in
joined_again number h =
    rw (digit_back (digit number 4) (small number 4), digit_back (digit number 3) (small number 3), digit_back (digit number 2) (small number 2), digit_back (digit number 1) (small number 1), digit_back (digit number 0) (small number 0))
    (digits number h)

pub number_again : (number : ℕ) (n : Multipliers) → read_doodson number ≡ accepted n → write_doodson n ≡ accepted number
unfolding read_doodson write_doodson
number_again number n e =
    let t = told (leb number 999999) 10 (multipliers_in number) n e in
    subst (λ (m : Multipliers). cond (writable m) (accepted (number_of m)) (refused 10) ≡ accepted number) t.1
    (rw (all_writable (multipliers_in number) (in-range number), joined_again number (leb-true number 999999 t.0)) refl)

module _ (n : Multipliers) (w : Writable n) where
  abbrev d5 : ℕ
  d5 = nat_abs n.tau

  abbrev d4 : ℕ
  d4 = nat_abs (n.s +ℤ pos 5)

  abbrev d3 : ℕ
  d3 = nat_abs (n.h +ℤ pos 5)

  abbrev d2 : ℕ
  d2 = nat_abs (n.p +ℤ pos 5)

  abbrev d1 : ℕ
  d1 = nat_abs (n.np +ℤ pos 5)

  abbrev d0 : ℕ
  d0 = nat_abs (n.ps +ℤ pos 5)

  h5 : d5 ≤ 9
  h5 = first_small n.tau w.tau

  h4 : d4 ≤ 9
  h4 = raised_small n.s w.s

  h3 : d3 ≤ 9
  h3 = raised_small n.h w.h

  h2 : d2 ≤ 9
  h2 = raised_small n.p w.p

  h1 : d1 ≤ 9
  h1 = raised_small n.np w.np

  h0 : d0 ≤ 9
  h0 = raised_small n.ps w.ps

  below_million : number_of n ≤ 999999
  unfolding number_of
  below_million = million d5 d4 d3 d2 d1 d0 h5 h4 h3 h2 h1 h0

  read_again : multipliers_in (number_of n) ≡ n
  unfolding number_of multipliers_in
  read_again = λ i. record {
    tau = (ap pos (s5 d5 d4 d3 d2 d1 d0 h5 h4 h3 h2 h1 h0) ∙ first_back n.tau w.tau) i;
    s = (ap minus_five (s4 d5 d4 d3 d2 d1 d0 h5 h4 h3 h2 h1 h0) ∙ raised_back n.s w.s) i;
    h = (ap minus_five (s3 d5 d4 d3 d2 d1 d0 h5 h4 h3 h2 h1 h0) ∙ raised_back n.h w.h) i;
    p = (ap minus_five (s2 d5 d4 d3 d2 d1 d0 h5 h4 h3 h2 h1 h0) ∙ raised_back n.p w.p) i;
    np = (ap minus_five (s1 d5 d4 d3 d2 d1 d0 h5 h4 h3 h2 h1 h0) ∙ raised_back n.np w.np) i;
    ps = (ap minus_five (s0 d5 d4 d3 d2 d1 d0 h5 h4 h3 h2 h1 h0) ∙ raised_back n.ps w.ps) i;
  }

pub multipliers_again : (n : Multipliers) (number : ℕ) → write_doodson n ≡ accepted number → read_doodson number ≡ accepted n
unfolding read_doodson write_doodson
multipliers_again n number e =
    let t = told (writable n) 10 (number_of n) number e in
    let w = writable_each n t.0 in
    subst (λ (k : ℕ). cond (leb k 999999) (accepted (multipliers_in k)) (refused 10) ≡ accepted n) t.1
    (rw (le-leb (number_of n) 999999 (below_million n w), read_again n w) refl)
