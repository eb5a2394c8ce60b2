-- Refusals 12 and 13 are given exactly when T-01 says.
use borrow.Author.Tests.{leb-true, le-leb}
use mathlib.Core.Bool.{true, ◌&&◌}
use mathlib.Core.List.{List}
use mathlib.Core.Logic.{◌↔◌, ◌⊎◌, inl, inr}
use mathlib.Core.Path.{◌≡◌, refl, sym, subst}
use Prim.Native.Nat.{ℕ, zero, suc, ◌≤◌, ◌<◌}
use native.Mathlib.Omega.{arith}
use lib.Dec.{T, leb}
use lib.IntN.{ℤ, pos, negsuc, nat_abs}
use lib.ListN.{length}
use Rattle.limits.specs.Limits.{is_first_multiplier, is_multiplier, is_amplitude, is_record_count}
use Rattle.refusals.proofs.Outcomes.{two_tests}
use Rattle.whole.specs.Sum.{all_to}
use Rattle.whole.proofs.Counted.{all_at, all_of}
use Rattle.whole.proofs.Tests.{and_left, and_right}
use Rattle.own.specs.declared.OwnLine.{OwnLine}
use Rattle.own.specs.Own.{in_range, record_at, records_refusal}

-- 0, 1 or 2
abbrev First : ℤ → Type 0
First k = (k ≡ pos 0) ⊎ ((k ≡ pos 1) ⊎ (k ≡ pos 2))

pub record InRange (l : OwnLine) : Type 0 where
  pub first : First l.multipliers.tau
  pub s : nat_abs l.multipliers.s ≤ 13
  pub h : nat_abs l.multipliers.h ≤ 13
  pub p : nat_abs l.multipliers.p ≤ 13
  pub np : nat_abs l.multipliers.np ≤ 13
  pub ps : nat_abs l.multipliers.ps ≤ 13
  pub ip : nat_abs l.ip ≤ 100000
  pub op : nat_abs l.op ≤ 100000

-- every record of a list
pub record EachInRange (l : List OwnLine) : Type 0 where
  pub each : (i : ℕ) → i < length l → InRange (record_at l i)

-- ---- each test and what it says
small : (n : ℕ) → n ≤ 2 → First (pos n)
small zero h = inl refl
small (suc zero) h = inr (inl refl)
small (suc (suc zero)) h = inr (inr refl)
small (suc (suc (suc n))) h = absurd (omega arith)

few : (k : ℤ) → First k → is_first_multiplier k ≡ true
few k (inl e) = rw e refl
few k (inr (inl e)) = rw e refl
few k (inr (inr e)) = rw e refl

first : (k : ℤ) → is_first_multiplier k ≡ true ↔ First k
first (pos n) = (λ e. small n (leb-true n 2 (and_right (leb 0 n) (leb n 2) e)), few (pos n))
first (negsuc n) = (λ e. absurd (subst T (sym e) tt), few (negsuc n))

multiplier : (k : ℤ) → is_multiplier k ≡ true ↔ (nat_abs k ≤ 13)
multiplier k = (λ e. leb-true _ _ e, λ h. le-leb _ _ h)

amplitude : (a : ℤ) → is_amplitude a ≡ true ↔ (nat_abs a ≤ 100000)
amplitude a = (λ e. leb-true _ _ e, λ h. le-leb _ _ h)

-- of a record
pub of_record : (l : OwnLine) → in_range l ≡ true ↔ InRange l
unfolding in_range
of_record l =
    let a = is_first_multiplier l.multipliers.tau in
    let b = is_multiplier l.multipliers.s in
    let c = is_multiplier l.multipliers.h in
    let d = is_multiplier l.multipliers.p in
    let e = is_multiplier l.multipliers.np in
    let f = is_multiplier l.multipliers.ps in
    let g = is_amplitude l.ip in
    let k = is_amplitude l.op in (
      λ t.
          let t7 = and_left (a && b && c && d && e && f && g) k t in
          let t6 = and_left (a && b && c && d && e && f) g t7 in
          let t5 = and_left (a && b && c && d && e) f t6 in
          let t4 = and_left (a && b && c && d) e t5 in
          let t3 = and_left (a && b && c) d t4 in
          let t2 = and_left (a && b) c t3 in
          record {
            first = (first l.multipliers.tau).0 (and_left a b t2);
            s = (multiplier l.multipliers.s).0 (and_right a b t2);
            h = (multiplier l.multipliers.h).0 (and_right (a && b) c t3);
            p = (multiplier l.multipliers.p).0 (and_right (a && b && c) d t4);
            np = (multiplier l.multipliers.np).0 (and_right (a && b && c && d) e t5);
            ps = (multiplier l.multipliers.ps).0 (and_right (a && b && c && d && e) f t6);
            ip = (amplitude l.ip).0 (and_right (a && b && c && d && e && f) g t7);
            op = (amplitude l.op).0 (and_right (a && b && c && d && e && f && g) k t);
          },
      λ r.
          rw ((first l.multipliers.tau).1 r.first, (multiplier l.multipliers.s).1 r.s, (multiplier l.multipliers.h).1 r.h, (multiplier l.multipliers.p).1 r.p, (multiplier l.multipliers.np).1 r.np, (multiplier l.multipliers.ps).1 r.ps, (amplitude l.ip).1 r.ip, (amplitude l.op).1 r.op)
          refl,
    )

of_list : (l : List OwnLine) → all_to (λ i. in_range (record_at l i)) (length l) ≡ true ↔ EachInRange l
of_list l = (
  λ e. record { each = λ i h. (of_record (record_at l i)).0 (all_at (λ i. in_range (record_at l i)) (length l) e i h) },
  λ r. all_of (λ i. in_range (record_at l i)) (length l) (λ i h. (of_record (record_at l i)).1 (r.each i h)),
)

-- 0: neither; 12: more than 64 records; 13: else a value out of range
pub records_table : (l : List OwnLine)
    → (records_refusal l ≡ 0 ↔ ((length l ≤ 64) × EachInRange l))
    × (records_refusal l ≡ 12 ↔ ((length l ≤ 64) → ⊥))
    × (records_refusal l ≡ 13 ↔ ((length l ≤ 64) × (EachInRange l → ⊥)))
unfolding records_refusal
records_table l =
    two_tests 12 13 (omega arith) (omega arith) (λ e. omega (arith, e)) (is_record_count (length l)) (all_to (λ i. in_range (record_at l i)) (length l))
    (λ e. leb-true _ _ e, λ h. le-leb _ _ h) (of_list l)
