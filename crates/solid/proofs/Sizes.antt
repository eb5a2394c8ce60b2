-- The counts of both steps: each of at most 2^54, which no entry in range overflows with; and none for S at order 0.
use mathlib.Core.Path.{◌∙◌}
use mathlib.Core.List.{List}
use Prim.Native.Nat.{ℕ, zero, suc, ◌^◌, ◌≤◌}
use native.Mathlib.Omega.{arith}
use lib.IntN.{ℤ, pos, nat_abs}
use lib.ListN.{get_or}
use Rattle.bands.specs.declared.Corrections.{Corrections}
use Rattle.bands.proofs.Sizes.{for_c_small, for_s_small}
use Rattle.step_one.specs.Inner.{Small}
use Rattle.step_one.specs.StepOne.{Counts}
use Rattle.step_one.proofs.Counted.{NoOrderZero}
use Rattle.whole.proofs.Parts.{abs_sum}
use Rattle.solid.specs.Solid.{plus, line_counts, with_lines}
use Rattle.solid.specs.Inner.{Room}
use Rattle.solid.proofs.Plus.{plus_at}

plus_small : (xs ys : List ℤ) → Small 53 xs → ((k : ℕ) → nat_abs (get_or ys k (pos 0)) ≤ 2 ^ 33) → Small 54 (plus xs ys)
plus_small xs ys small h =
    record { size = λ k. rw (plus_at xs ys k) (omega (arith, abs_sum (get_or xs k (pos 0)) (get_or ys k (pos 0)), small.size k, h k)) }

module _ (one : Counts) (two : Corrections) where
  pub with_lines_c : Room one two → Small 54 (with_lines one two).c
  unfolding with_lines line_counts
  with_lines_c r = plus_small one.c _ r.in_c (for_c_small two r.lines)

  pub with_lines_s : Room one two → Small 54 (with_lines one two).s
  unfolding with_lines line_counts
  with_lines_s r = plus_small one.s _ r.in-s each
    where
      each : (k : ℕ) → nat_abs (get_or (line_counts two).s k (pos 0)) ≤ 2 ^ 33
      each zero = omega arith
      each (suc k) = for_s_small two r.lines k

  -- S at 20, 30 and 40
  pub still_no_order_zero : NoOrderZero one → NoOrderZero (with_lines one two)
  unfolding with_lines line_counts
  still_no_order_zero z = record {
    s20 = plus_at one.s _ 0 ∙ rw z.s20;
    s30 = plus_at one.s _ 3 ∙ rw z.s30;
    s40 = plus_at one.s _ 7 ∙ rw z.s40;
  }
