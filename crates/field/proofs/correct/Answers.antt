-- An entry in range and a correction no larger add up within 64 bits.
use Rattle.std.proofs.Common.{◌≡◌, get_or, set, ℤ, pos, ◌+ℤ◌, ap, ◌∙◌, ap₂, arith, to_z-of_z, w64, SFits}
use Rattle.whole.proofs.Parts.{fits_abs}
use Rattle.whole.proofs.Machine.{read, sum_fits}
use Rattle.field.specs.Added.{corrected}
use Rattle.field.proofs.correct.Goals as goal
use Rattle.field.proofs.correct.Goals.{Start}

module _ (s : Start) where
  abbrev old : ℤ
  old = get_or s.args.list.now s.args.at (pos 0)

  new-fits : SFits w64 (old +ℤ s.args.by)
  new-fits = sum_fits w64 old s.args.by (omega arith)

  both_read : read old +ℤ read s.args.by ≡ old +ℤ s.args.by
  both_read = ap₂ ◌+ℤ◌ (to_z-of_z (fits_abs w64 old (omega arith))) (to_z-of_z s.ranges.by)

pub returns : goal.returns
unfolding corrected
returns c = ap (λ (z : ℤ). set c.args.list.now c.args.at z) (ap read (both_read (goal.at.returns c).Start) ∙ to_z-of_z (new-fits (goal.at.returns c).Start))
