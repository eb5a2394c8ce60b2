-- Sign, whole part, dot and decimals.
use mathlib.Core.Path.{◌≡◌}
use Prim.Native.Nat.{◌+◌}
use native.Mathlib.Omega.{arith}
use lib.ListN.{length}
use Rattle.columns.specs.Fixed.{fixed}
use Rattle.columns.proofs.Sizes.{sized, sign_sized}
use Rattle.columns.proofs.FixedValue.len.Goals as goal
use Rattle.columns.proofs.FixedValue.len.Goals.{After-digits_in}

counted : (d : After-digits_in) → d.from.result + d.digits_in.result + 1 + d.args.self.now.decimals ≡ length (fixed d.args.self.now)
counted d = rw (d.digits_in.ensures, d.whole.ensures) (omega (arith, d.from.ensures, sign_sized d.args.self.now.negative, sized d.args.self.now))

pub overflow_add-result : goal.overflow_add-result
overflow_add-result c = omega (arith, c.requires, counted c)

pub overflow_add-result-2 : goal.overflow_add-result-2
overflow_add-result-2 c = omega (arith, c.requires, counted c)

pub overflow_add-result-3 : goal.overflow_add-result-3
overflow_add-result-3 c = omega (arith, c.requires, counted (goal.at.overflow_add-result-3 c).After-digits_in)

pub returns : goal.returns
returns c = counted (goal.at.returns c).After-digits_in
