-- A digit and its multiplier.
use borrow.Author.Tests.{leb-true, le-leb}
use mathlib.Core.Path.{◌≡◌, refl, sym, ap, ap₂, subst}
use mathlib.Core.Bool.{Bool, true, ◌&&◌}
use Prim.Native.Nat.{ℕ, ◌≤◌}
use native.Mathlib.Omega.{arith}
use lib.Dec.{T, leb}
use lib.IntN.{ℤ, pos, negsuc, nat_abs, ◌+ℤ◌, ◌-ℤ◌}
use mir.Syntax.{w32}
use mir.Val.{SFits}
use Rattle.arguments.specs.declared.Multipliers.{Multipliers}
use Rattle.whole.proofs.Parts.{up, dn, up_le, dn_le, same, sum, difference, abs}
use Rattle.whole.proofs.Tests.{and_left, and_right}
use Rattle.doodson.specs.Doodson.{first, other, writable}

-- what the two ranges say of a multiplier's parts
pub first_parts : (z : ℤ) → first z ≡ true → (up z ≤ 9) × (dn z ≡ 0)
first_parts (pos n) e = (leb-true n 9 (and_right (leb 0 n) (leb n 9) e), refl)
first_parts (negsuc n) e = absurd (subst T (sym e) tt)

pub other_parts : (z : ℤ) → other z ≡ true → (up z ≤ 4) × (dn z ≤ 5)
other_parts (pos n) e = (leb-true n 4 e, omega arith)
other_parts (negsuc n) e = (omega arith, omega (arith, leb-true n 4 (and_left (leb n 4) true e)))

parts_other : (z : ℤ) → up z ≤ 4 → dn z ≤ 5 → other z ≡ true
parts_other (pos n) h k = le-leb n 4 h
parts_other (negsuc n) h k = ap (λ (b : Bool). b && true) (le-leb n 4 (omega arith))

-- a first digit is its multiplier
module _ (d : ℕ) (h : d ≤ 9) where
  pub digit_first : first (pos d) ≡ true
  digit_first = ap₂ (λ (a b : Bool). a && b) (le-leb 0 d (omega arith)) (le-leb d 9 h)

  -- another digit less 5 is in range, and gives the digit back
  pub digit_other : other (pos d -ℤ pos 5) ≡ true
  digit_other =
      let z = pos d -ℤ pos 5 in
      let D = difference (pos d) (pos 5) in
      parts_other z (up_le z 4 (omega arith)) (dn_le z 5 (omega arith))

  pub digit_back : nat_abs (pos d -ℤ pos 5 +ℤ pos 5) ≡ d
  digit_back = ap nat_abs (same (pos d -ℤ pos 5 +ℤ pos 5) (pos d) (omega (arith, difference (pos d) (pos 5), sum (pos d -ℤ pos 5) (pos 5))))

-- a multiplier with 5 added is a digit, and that less 5 the multiplier
module _ (z : ℤ) (h : other z ≡ true) where
  pub raised_up : (up (z +ℤ pos 5) ≤ 9) × (dn (z +ℤ pos 5) ≡ 0)
  raised_up =
      let r = other_parts z h in
      let S = sum z (pos 5) in
      let low = dn_le (z +ℤ pos 5) 0 (omega arith) in
      (up_le (z +ℤ pos 5) 9 (omega arith), omega arith)

  pub raised_small : nat_abs (z +ℤ pos 5) ≤ 9
  raised_small = omega (arith, abs (z +ℤ pos 5), raised_up)

  pub raised_back : pos (nat_abs (z +ℤ pos 5)) -ℤ pos 5 ≡ z
  raised_back = let r = raised_up in same (pos (nat_abs (z +ℤ pos 5)) -ℤ pos 5) z
      (omega (arith, difference (pos (nat_abs (z +ℤ pos 5))) (pos 5), abs (z +ℤ pos 5), sum z (pos 5)))

pub first_small : (z : ℤ) → first z ≡ true → nat_abs z ≤ 9
first_small z h = omega (arith, abs z, first_parts z h)

pub first_back : (z : ℤ) → first z ≡ true → pos (nat_abs z) ≡ z
first_back z h = let r = first_parts z h in same (pos (nat_abs z)) z (omega (arith, abs z))

-- the test of all six, taken apart and put together
pub record Writable (n : Multipliers) : Type 0 where
  pub tau : first n.tau ≡ true
  pub s : other n.s ≡ true
  pub h : other n.h ≡ true
  pub p : other n.p ≡ true
  pub np : other n.np ≡ true
  pub ps : other n.ps ≡ true

pub writable_each : (n : Multipliers) → writable n ≡ true → Writable n
unfolding writable
writable_each n e =
    let five = and_left (first n.tau && other n.s && other n.h && other n.p && other n.np) (other n.ps) e in
    let four = and_left (first n.tau && other n.s && other n.h && other n.p) (other n.np) five in
    let three = and_left (first n.tau && other n.s && other n.h) (other n.p) four in
    let two = and_left (first n.tau && other n.s) (other n.h) three in
    record {
      tau = and_left (first n.tau) (other n.s) two;
      s = and_right (first n.tau) (other n.s) two;
      h = and_right (first n.tau && other n.s) (other n.h) three;
      p = and_right (first n.tau && other n.s && other n.h) (other n.p) four;
      np = and_right (first n.tau && other n.s && other n.h && other n.p) (other n.np) five;
      ps = and_right (first n.tau && other n.s && other n.h && other n.p && other n.np) (other n.ps) e;
    }

pub all_writable : (n : Multipliers) → Writable n → writable n ≡ true
unfolding writable
all_writable n w = rw (w.tau, w.s, w.h, w.p, w.np, w.ps)

-- six multipliers that the machine holds
pub record Held (n : Multipliers) : Type 0 where
  pub tau : SFits w32 n.tau
  pub s : SFits w32 n.s
  pub h : SFits w32 n.h
  pub p : SFits w32 n.p
  pub np : SFits w32 n.np
  pub ps : SFits w32 n.ps
