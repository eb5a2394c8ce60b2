-- Where all bits together are below 2^61, so is each raised entry, and it is in range.
use Rattle.std.proofs.Common.{rules, ℕ, ◌+◌, ◌^◌, ◌<◌, ◌≤◌, List, get_or, ℤ, pos, nat_abs, sym, subst, ⊎_elim, eq-or-lt_of_le, arith, w64, ltb-true}
use lib.Bits.{bit_or}
use Rattle.whole.proofs.Bits.{below_or}
use Rattle.whole.proofs.Machine.{back}
use Rattle.field.proofs.Entries.{every_small}
use Rattle.field.proofs.are_small.Goals as goal

-- one entry more, whose raised bits are w
grown : (l : List ℤ) (i any w : ℕ) → (any < 2 ^ 61 → (k : ℕ) → k < i → nat_abs (get_or l k (pos 0)) ≤ 2 ^ 60) → (w < 2 ^ 61 → nat_abs (get_or l i (pos 0)) ≤ 2 ^ 60)
    → bit_or any w < 2 ^ 61 → (k : ℕ) → k < i + 1 → nat_abs (get_or l k (pos 0)) ≤ 2 ^ 60
grown l i any w before this h k b =
    let both = below_or any w h in
    let m : k ≤ i = omega arith in
    ⊎_elim (λ q. subst (λ (j : ℕ). nat_abs (get_or l j (pos 0)) ≤ 2 ^ 60) (sym q) (this both.1)) (λ s. before both.0 k s) (eq-or-lt_of_le m)

pub loop-entry-preserved : goal.loop-entry-preserved
loop-entry-preserved c =
    (omega arith, grown c.args.list.now c.loop-entry.entry-index c.loop-entry.any _ c.loop-entry.invariant.1 (λ h. subst (λ (z : ℤ). nat_abs z ≤ 2 ^ 60) (back w64 (get_or c.args.list.now c.loop-entry.entry-index (pos 0)) (search rules)) (c.bits_of-raised.ensures h)))

pub returns : goal.returns
returns c e = every_small _ (λ k b. c.loop-entry.invariant.1 (ltb-true _ _ e) k (omega (arith, c.loop-entry-test.false)))
