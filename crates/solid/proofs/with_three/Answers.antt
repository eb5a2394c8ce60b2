-- Each of three counts has room for its correction, and the others stay.
use mathlib.Core.List.{List}
use mathlib.Core.Path.{◌≡◌, ◌∙◌}
use Prim.Native.Nat.{ℕ, ◌≤◌}
use lib.IntN.{ℤ, pos, ◌+ℤ◌}
use lib.ListN.{length, get_or, set}
use Rattle.whole.proofs.Machine.{read}
use Rattle.solid.proofs.Plus.{three_set, second_kept, third_kept, both_read}
use Rattle.std.proofs.Common.{rules}
use Rattle.solid.proofs.with_three.Goals as goal
use Rattle.solid.proofs.with_three.Goals.{Start}

module _ (s : Start) where
  abbrev by : List ℤ
  by = s.args.by

  abbrev at : ℕ → ℤ
  at k = get_or by k (pos 0)

  -- the first, the second and the third entry, as the code reads and adds them, each once those before are set
  abbrev one : ℤ
  one = read (read (at 0) +ℤ read s.args.first)

  abbrev two : ℤ
  two = read (read (get_or (set by 0 one) 1 (pos 0)) +ℤ read s.args.second)

  abbrev three : ℤ
  three = read (read (get_or (set (set by 0 one) 1 two) 2 (pos 0)) +ℤ read s.args.third)

  one_is : one ≡ at 0 +ℤ s.args.first
  one_is = both_read (at 0) s.args.first (s.requires.counts.size 0) s.requires.first

  two_is : two ≡ at 1 +ℤ s.args.second
  two_is = rw (second_kept by one) (both_read (at 1) s.args.second (s.requires.counts.size 1) s.requires.second)

  three_is : three ≡ at 2 +ℤ s.args.third
  three_is = rw (third_kept by one two) (both_read (at 2) s.args.third (s.requires.counts.size 2) s.requires.third)

  has-three : 3 ≤ length by
  has-three = search rules

pub overflow_add-by-3 : goal.overflow_add-by-3
overflow_add-by-3 c =
    let s = (goal.at.overflow_add-by-3 c).Start in
    rw (third_kept (by s) _ _) (search rules)

pub returns : goal.returns
returns c =
    let s = (goal.at.returns c).Start in
    (λ i. set (set (set (by s) 0 (one_is s i)) 1 (two_is s i)) 2 (three_is s i)) ∙ three_set (by s) c.args.first c.args.second c.args.third (has-three s)
