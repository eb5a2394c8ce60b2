-- The loop has added the corrections so far; the entry that comes next is still in range.
use Rattle.std.proofs.Common.{◌≡◌, ℕ, suc, ◌+◌, ◌^◌, ◌<◌, ◌≤◌, List, length, get_or, ℤ, pos, nat_abs, sym, arith, to_z-of_z, w64, to_z, of_z}
use Rattle.whole.proofs.Parts.{fits_abs}
use Rattle.field.proofs.Added.{added_none, running_there, running_in_range, running_next, run_rises}
use Rattle.field.proofs.add_run.Goals as goal
use Rattle.field.proofs.add_run.Goals.{In-loop-k}

-- in a turn of the loop
module _ (c : In-loop-k) where
  abbrev list : List ℤ
  list = c.loop-k.list

  abbrev at : ℕ
  at = c.args.from + c.loop-k.k

  abbrev by : ℤ
  by = get_or c.args.by.now c.loop-k.k (pos 0)

  abbrev places : ℕ → ℕ
  places i = c.args.from + i

  abbrev corrections : ℕ → ℤ
  corrections i = get_or c.args.by.now i (pos 0)

  there : at < length list
  there = running_there places corrections c.args.list.now c.loop-k.k list c.loop-k.invariant.1 (omega (arith, c.requires.room))

  in-range : nat_abs (get_or list at (pos 0)) ≤ 2 ^ 60
  in-range =
      running_in_range places corrections c.args.list.now c.loop-k.k list c.loop-k.invariant.1
      (run_rises c.args.from (suc c.loop-k.k)) c.requires.range

  by-is : to_z w64 (of_z w64 by) ≡ by
  by-is = to_z-of_z (fits_abs w64 by (omega (arith, c.requires.small.each c.loop-k.k)))

pub loop-k-init : goal.loop-k-init
loop-k-init c = (omega arith, sym (added_none _ _ _))

pub correct-requires : goal.correct-requires
correct-requires c =
    let h = (goal.at.correct-requires c).In-loop-k in
    record { at_in_bounds = there h; pos_bound = in-range h; by_bound = rw (by-is h) (c.requires.small.each c.loop-k.k) }

pub loop-k-preserved : goal.loop-k-preserved
loop-k-preserved c =
    (omega arith, running_next (places (goal.at.loop-k-preserved c).In-loop-k) (corrections (goal.at.loop-k-preserved c).In-loop-k) c.args.list.now c.loop-k.k (list (goal.at.loop-k-preserved c).In-loop-k) c.loop-k.invariant.1 c.correct.new.list _ c.correct.ensures (by-is (goal.at.loop-k-preserved c).In-loop-k))
