-- The products and their sum have room.
use mathlib.Core.Path.{ap, ◌∙◌}
use Prim.Native.Nat.{◌*◌, ◌^◌}
use native.Mathlib.Omega.{arith}
use lib.IntN.{ℤ, pos, ◌+ℤ◌, ◌*ℤ◌}
use mir.Syntax.{w64}
use Rattle.whole.proofs.Held.{Held, room, held, times, plus, ready}
use Rattle.whole.proofs.Machine.{back, read}
use Rattle.whole.specs.Nearest.{nearest}
use Rattle.pole.proofs.Offsets.{offset_held}
use Rattle.pole.proofs.anelastic.Goals as goal
use Rattle.pole.proofs.anelastic.Goals.{Start}

module _ (c : Start) where
  abbrev x : ℤ
  x = c.args.x

  abbrev y : ℤ
  y = c.args.y

  x-times : Held (pos 10000 *ℤ read x) (pos 10000 *ℤ x) (10 ^ 10)
  x-times = times (offset_held x c.ranges.x c.requires.x_value) (pos 10000)

  y-times : Held (pos 112 *ℤ read y) (pos 112 *ℤ y) (112 * 10 ^ 6)
  y-times = times (offset_held y c.ranges.y c.requires.y_value) (pos 112)

  both : Held (read (pos 10000 *ℤ read x) +ℤ read (pos 112 *ℤ read y)) (pos 10000 *ℤ x +ℤ pos 112 *ℤ y) (10112 * 10 ^ 6)
  both = plus (held x-times (omega arith)) (held y-times (omega arith))

  product : Held (pos 1348 *ℤ read (read (pos 10000 *ℤ read x) +ℤ read (pos 112 *ℤ read y))) (pos 1348 *ℤ (pos 10000 *ℤ x +ℤ pos 112 *ℤ y)) (1348 * (10112 * 10 ^ 6))
  product = times (held both (omega arith)) (pos 1348)

pub overflow_mul-x-2 : goal.overflow_mul-x-2
overflow_mul-x-2 c = room (product (goal.at.overflow_mul-x-2 c).Start) (omega arith)

pub nearest_of-requires : goal.nearest_of-requires
nearest_of-requires c = ready (held (product (goal.at.nearest_of-requires c).Start) (omega arith)) (omega arith) (omega arith)

pub returns : goal.returns
returns c =
    back w64 c.nearest_of.result c.nearest_of.type_inv ∙ c.nearest_of.ensures
    ∙ ap (λ (z : ℤ). nearest z 10000000) (held (product (goal.at.returns c).Start) (omega arith)).reads
