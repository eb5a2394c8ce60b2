-- Raised by the powers left, or cut where some are wanting.
use Rattle.std.proofs.Common.{◌++◌, arith, length-append}
use Rattle.icgem_decimal.proofs.Rounded.{exact_none, exact, lower, lower_none}
use Rattle.icgem_decimal.proofs.Numeral.scaled.Goals as goal

pub returns-in_err-first : goal.returns-in_err-first
returns-in_err-first c =
    let l = c.args.self.whole.now ++ c.args.self.fraction.now in
    let n = length-append c.args.self.whole.now c.args.self.fraction.now in
    rw c.from_residual.ensures (exact_none l _ _ c.len.result c.if-down-up.true (omega (arith, c.len.ensures)) c.in_err-first.ensures)

pub returns-then-down-up : goal.returns-then-down-up
returns-then-down-up c =
    let l = c.args.self.whole.now ++ c.args.self.fraction.now in
    let n = length-append c.args.self.whole.now c.args.self.fraction.now in
    exact l _ _ c.len.result _ _ c.if-down-up.true (omega (arith, c.len.ensures)) c.in_ok-first.ensures.1 c.raised.ensures

pub returns-in-Some : goal.returns-in-Some
returns-in-Some c =
    let l = c.args.self.whole.now ++ c.args.self.fraction.now in
    let n = length-append c.args.self.whole.now c.args.self.fraction.now in
    lower l _ _ c.args.self.are_digits (omega (arith, c.if-down-up.false)) _ _ (omega (arith, c.in-Some.ensures, c.len-2.ensures, c.if-down-up.false))
    (omega (arith, c.in-Some.ensures, c.len-2.ensures)) (omega (arith, c.in-Some.ensures, c.len-2.ensures)) c.cut.ensures

pub returns-in-None : goal.returns-in-None
returns-in-None c =
    let l = c.args.self.whole.now ++ c.args.self.fraction.now in
    let n = length-append c.args.self.whole.now c.args.self.fraction.now in
    let none = c.in-None.ensures in
    lower_none l _ _ c.args.self.are_digits (omega (arith, c.if-down-up.false)) (omega (arith, c.len-2.ensures))
