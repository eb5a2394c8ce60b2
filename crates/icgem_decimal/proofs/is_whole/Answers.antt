-- Some, and digits in both.
use Rattle.std.proofs.Common.{sym, ◌∙◌, lt-ltb, le-ltb, arith}
use borrow.Author.Tests.{ltb-true}
use Rattle.icgem_decimal.proofs.Digits.{whole_of}
use Rattle.icgem_decimal.proofs.is_whole.Goals.{then-a-b-gt0, else-a-b-gt0}
use Rattle.icgem_decimal.proofs.is_whole.Goals as goal

pub returns-then-all_digits : goal.returns-then-all_digits
returns-then-all_digits c =
    elim c.if-a-b-gt0.branch [
      | then-a-b-gt0 w ↦
          rw (whole_of, lt-ltb 0 _ w.if-a-b-gt0.true, sym w.all_digits.ensures ∙ sym w.value-is ∙ c.if-all_digits.true) c.all_digits-then-all_digits.ensures
      | else-a-b-gt0 w ↦ absurd (omega (arith, ltb-true 0 _ (sym w.value-is ∙ c.if-all_digits.true), w.if-a-b-gt0.false))
    ]

pub returns-else-all_digits : goal.returns-else-all_digits
returns-else-all_digits c =
    elim c.if-a-b-gt0.branch [
      | then-a-b-gt0 w ↦ rw (whole_of, lt-ltb 0 _ w.if-a-b-gt0.true, sym w.all_digits.ensures ∙ sym w.value-is ∙ c.if-all_digits.false) c.if-all_digits.false
      | else-a-b-gt0 w ↦ rw (whole_of, le-ltb 0 _ w.if-a-b-gt0.false) (w.value-is ∙ le-ltb 0 _ w.if-a-b-gt0.false)
    ]
