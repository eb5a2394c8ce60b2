-- Degree and order are bytes, so nothing overflows.
use native.Mathlib.Nat.{mul-le-mul}
use native.Mathlib.Omega.{arith}
use Prim.Native.Nat.{◌+◌, ◌*◌, ◌≤◌}
use Rattle.field.specs.Field.{place}
use Rattle.sheet.proofs.Acceptance.{Place, accepted}
use Rattle.places.proofs.index_of.Goals as goal
use Rattle.places.proofs.index_of.Goals.{After-degree_at-degree}

module _ (c : After-degree_at-degree) where
  the_place : Place c.args.accepted.now.sheet.bytes.now c.args.j
  the_place = (accepted _ c.args.accepted.now.own).places c.args.j c.requires

  degree-small : c.degree_at-degree.result ≤ 12
  degree-small = rw c.degree_at-degree.ensures the_place.degree_most

  product_small : c.degree_at-degree.result * (c.degree_at-degree.result + 1) ≤ 12 * 13
  product_small = mul-le-mul {n₂ = 12} {m₂ = 13} degree-small (omega (arith, degree-small))

pub overflow_add-result : goal.overflow_add-result
overflow_add-result c = omega (arith, degree-small (goal.at.overflow_add-result c).After-degree_at-degree)

pub overflow_mul-result : goal.overflow_mul-result
overflow_mul-result c = omega (arith, product_small (goal.at.overflow_mul-result c).After-degree_at-degree)

pub overflow_add-result-2 : goal.overflow_add-result-2
overflow_add-result-2 c =
    let w = (goal.at.overflow_add-result-2 c).After-degree_at-degree in
    omega (arith, product_small w, c.order_at.ensures, (the_place w).order_most, (the_place w).degree_most)

pub returns : goal.returns
unfolding place
returns c = rw (c.degree_at-degree.ensures, c.order_at.ensures)
