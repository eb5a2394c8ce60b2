-- A number that is too large stays so with more digits.
use Rattle.std.proofs.Common.{◌≡◌, ◌++◌, ◌-◌, get_or, refl, arith, length-append}
use Rattle.icgem_decimal.specs.Decimal.{read_on}
use Rattle.icgem_decimal.proofs.Digits.{value_next}
use Rattle.icgem_decimal.proofs.Numbers.{tens_stop, digits_stop}
use Rattle.icgem_decimal.proofs.Numeral.first.Goals as goal

pub loop-i-init : goal.loop-i-init
unfolding read_on
loop-i-init c = record { fits = omega arith; read = refl }

pub returns-in_err-checked_mul : goal.returns-in_err-checked_mul
returns-in_err-checked_mul c =
    let text = c.args.self.whole.now ++ c.args.self.fraction.now in
    let n = length-append c.args.self.whole.now c.args.self.fraction.now in
    rw c.from_residual.ensures (tens_stop text _ _ _ c.loop-i-test.true (omega (arith, c.requires)) c.loop-i.invariant.read c.in_err-checked_mul.ensures)

pub returns-in_err-n : goal.returns-in_err-n
returns-in_err-n c =
    let text = c.args.self.whole.now ++ c.args.self.fraction.now in
    let n = length-append c.args.self.whole.now c.args.self.fraction.now in
    let d : c.from.result ≡ get_or text c.loop-i.i 0 - 48 = omega (arith, c.from.ensures, c.byte_at.ensures.value) in
    rw
    c.from_residual-in_err-n.ensures
    (digits_stop text _ _ _ c.loop-i-test.true (omega (arith, c.requires)) c.loop-i.invariant.read _ d (rw c.in_ok-checked_mul.ensures.1 at c.in_err-n.ensures))

pub loop-i-preserved : goal.loop-i-preserved
loop-i-preserved c =
    let text = c.args.self.whole.now ++ c.args.self.fraction.now in
    let n = length-append c.args.self.whole.now c.args.self.fraction.now in
    record {
      fits = omega (arith, c.in_ok-n.ensures, c.in_ok-checked_mul.ensures);
      read = omega (
        arith,
        value_next text c.loop-i.i (omega (arith, c.requires, c.loop-i-test.true)),
        c.in_ok-n.ensures,
        c.in_ok-checked_mul.ensures,
        c.from.ensures,
        c.byte_at.ensures.value,
        c.loop-i.invariant.read,
      );
    }

pub returns : goal.returns
returns c =
    let e : c.loop-i.i ≡ c.args.count = omega (arith, c.loop-i-test.false, c.loop-i.auto.i-end) in
    rw (← e) (rw c.loop-i.invariant.read at c.loop-i.invariant.fits, c.loop-i.invariant.read)
