-- Degree two stands in both lists, one entry after the other.
use mathlib.Core.Path.{ap, ◌∙◌}
use mathlib.Core.List.{List}
use Prim.Native.Nat.{ℕ, ◌≤◌}
use native.Mathlib.Omega.{arith}
use lib.IntN.{ℤ}
use Rattle.bands.specs.declared.Corrections.{Corrections}
use Rattle.bands.specs.Bands.{for_c, for_s}
use Rattle.field.specs.Inner.{Ready, added_from}
use Rattle.surfgimlet.proofs.Five.{read_c, read_s, small-c, small-s, added_c, added_s}
use Rattle.surfgimlet.proofs.add_five.Goals as goal
use Rattle.surfgimlet.proofs.add_five.Goals.{Start}

module _ (c : Start) where
  abbrev d : Corrections
  d = c.args.d

  -- wherever degree two's entries end in time
  ready-c : (at : ℕ) → at ≤ 3 → Ready c.args.c.now at (for_c d)
  ready-c at h = record { room = omega (arith, c.requires.c-room); range = c.requires.c_range; small = small-c d c.requires.small }

  ready-s : (at : ℕ) → at ≤ 4 → Ready c.args.s.now at (for_s d)
  ready-s at h = record { room = omega (arith, c.requires.s-room); range = c.requires.s_range; small = small-s d c.requires.small }

pub returns : goal.returns
returns c = (
  c.add_run.ensures
      ∙ ap (λ (by : List ℤ). added_from 3 by c.args.c.now) (read_c (d (goal.at.returns c).Start) c.requires.small)
      ∙ added_c (d (goal.at.returns c).Start) c.args.c.now,
  c.add_run-2.ensures
      ∙ ap (λ (by : List ℤ). added_from 4 by c.args.s.now) (read_s (d (goal.at.returns c).Start) c.requires.small)
      ∙ added_s (d (goal.at.returns c).Start) c.args.s.now,
)
