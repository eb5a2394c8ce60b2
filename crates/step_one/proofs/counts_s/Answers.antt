-- Every float of order above 0 is countable, and has its count.
use mathlib.Core.Path.{◌≡◌, ◌∙◌}
use Prim.Native.Nat.{ℕ, ◌<◌}
use native.Mathlib.Omega.{arith}
use mathlib.Core.List.{List}
use lib.Dec.{T}
use lib.Ieee.{Float, nan}
use lib.ListN.{get_or, length}
use mir.Syntax.{w64}
use Rattle.whole.proofs.Machine.{back}
use Rattle.limits.specs.Limits.{is_countable}
use Rattle.step_one.specs.StepOne.{all_countable, counts_s}
use Rattle.step_one.proofs.Each.{each}
use Rattle.std.proofs.Common.{rules}
use Rattle.step_one.proofs.counts_s.Goals as goal

countable-at : (xs : List Float) → length xs ≡ 10 → T (all_countable xs) → (k : ℕ) → k < 10 → T (is_countable (get_or xs k nan))
countable-at xs ten h k l = each nan xs h k (omega arith)

pub nearest_count-requires : goal.nearest_count-requires
nearest_count-requires c = countable-at c.args.xs (search rules) c.requires 1 (omega arith)

pub nearest_count-requires-2 : goal.nearest_count-requires-2
nearest_count-requires-2 c = countable-at c.args.xs (search rules) c.requires 2 (omega arith)

pub nearest_count-requires-3 : goal.nearest_count-requires-3
nearest_count-requires-3 c = countable-at c.args.xs (search rules) c.requires 4 (omega arith)

pub nearest_count-requires-4 : goal.nearest_count-requires-4
nearest_count-requires-4 c = countable-at c.args.xs (search rules) c.requires 5 (omega arith)

pub nearest_count-requires-5 : goal.nearest_count-requires-5
nearest_count-requires-5 c = countable-at c.args.xs (search rules) c.requires 6 (omega arith)

pub nearest_count-requires-6 : goal.nearest_count-requires-6
nearest_count-requires-6 c = countable-at c.args.xs (search rules) c.requires 8 (omega arith)

pub nearest_count-requires-7 : goal.nearest_count-requires-7
nearest_count-requires-7 c = countable-at c.args.xs (search rules) c.requires 9 (omega arith)

pub returns : goal.returns
unfolding counts_s
returns c =
    rw (
      back w64 c.nearest_count.result c.nearest_count.type_inv ∙ c.nearest_count.ensures,
      back w64 c.nearest_count-2.result c.nearest_count-2.type_inv ∙ c.nearest_count-2.ensures,
      back w64 c.nearest_count-3.result c.nearest_count-3.type_inv ∙ c.nearest_count-3.ensures,
      back w64 c.nearest_count-4.result c.nearest_count-4.type_inv ∙ c.nearest_count-4.ensures,
      back w64 c.nearest_count-5.result c.nearest_count-5.type_inv ∙ c.nearest_count-5.ensures,
      back w64 c.nearest_count-6.result c.nearest_count-6.type_inv ∙ c.nearest_count-6.ensures,
      back w64 c.nearest_count-7.result c.nearest_count-7.type_inv ∙ c.nearest_count-7.ensures,
    )
