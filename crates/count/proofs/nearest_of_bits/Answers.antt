-- Twice the size is the digits without their last h places; halved and rounded up, with the sign, that is the nearest count.
use mathlib.Core.Path.{◌≡◌, sym, ap, ◌∙◌}
use mathlib.Core.Bool.{Bool, true, false}
use Prim.Native.Nat.{ℕ, ◌+◌, ◌/◌, ◌^◌}
use native.Mathlib.Omega.{arith}
use lib.Dec.{leb}
use lib.Ieee.{binary64, of_bits}
use lib.IntN.{pos, neg_ℤ}
use mir.Syntax.{w64}
use mir.Val.{to_z, of_z}
use borrow.Author.Tests.{lt-leb, le-leb}
use Rattle.whole.proofs.Machine.{back, minus_read}
use Rattle.whole.specs.Nearest.{signed}
use Rattle.count.specs.Count.{count}
use Rattle.count.proofs.Halves.{rounded}
use Rattle.count.proofs.Fields.{digits, count_of_bits}
use Rattle.count.proofs.nearest_of_bits.Goals as goal
use Rattle.count.proofs.nearest_of_bits.Goals.{After-halved-size}

-- what was halved, and the count of it by the sign
module _ (c : After-halved-size) where
  abbrev b : ℕ
  b = c.args.b

  abbrev h : ℕ
  h = c.places_of-h.result

  halves : c.halved-size.result ≡ pos ((digits b / 2 ^ h + 1) / 2)
  halves = rw c.digits_of.ensures at c.halved-size.ensures.0

  count-is : (s : Bool) → leb (2 ^ 63) b ≡ s → count (of_bits binary64 b) ≡ signed s ((digits b / 2 ^ h + 1) / 2)
  unfolding rounded
  count-is s e = count_of_bits b h c.places_of-h.ensures.1 c.places_of-h.ensures.2 ∙ rw e

  held : to_z w64 (of_z w64 c.halved-size.result) ≡ c.halved-size.result
  held = back w64 c.halved-size.result c.halved-size.type_inv

pub returns-then-b-lt-SIGN : goal.returns-then-b-lt-SIGN
unfolding signed
returns-then-b-lt-SIGN c =
    let a = (goal.at.returns-then-b-lt-SIGN c).After-halved-size in
    held a ∙ halves a ∙ sym (count-is a false (lt-leb (2 ^ 63) (b a) (omega arith)))

pub returns-else-b-lt-SIGN : goal.returns-else-b-lt-SIGN
unfolding signed
returns-else-b-lt-SIGN c =
    let a = (goal.at.returns-else-b-lt-SIGN c).After-halved-size in
    minus_read w64 (of_z w64 c.halved-size.result) (held a) (omega (arith, c.halved-size.ensures.1)) ∙ ap neg_ℤ (halves a)
    ∙ sym (count-is a true (le-leb (2 ^ 63) (b a) (omega arith)))
