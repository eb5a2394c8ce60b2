-- Each element is countable, and each count is that of its element.
use mathlib.Core.Path.{◌≡◌, sym, ap, subst, ◌∙◌}
use native.Mathlib.Omega.{arith}
use lib.Dec.{T}
use lib.Ieee.{Float, nan}
use lib.IntN.{pos}
use lib.ListN.{length}
use Rattle.limits.specs.Limits.{is_countable}
use Rattle.step_one.proofs.Each.{each, counted}
use Rattle.std.specs.Array.{list_steps}
use Rattle.std.proofs.Common.{rules, tests}
use Rattle.std.proofs.lemmas.Iterator.Adapters.{serves_from_places}
use Rattle.std.proofs.lemmas.Iterator.Consumers.{YieldsList-from_shown}
use Rattle.step_one.proofs.counts_c.Goals as goal

pub map-requires : goal.map-requires
map-requires c =
    let xs = c.args.xs in (
      omega arith,
      (
        omega arith,
        (
          omega arith,
          serves_from_places (YieldsList-from_shown list_steps (λ x. x) (λ s. s) (λ s t e. ap length e) (λ s x t e. e) xs) (λ x q k. search (rules, tests))
              (λ x k l e. let h : T (is_countable x) = subst (λ (y : Float). T (is_countable y)) (sym e) (each x xs c.requires k l) in search rules),
        ),
      ),
    )

pub returns : goal.returns
returns c =
    let xs = c.args.xs in
    let ten : length xs ≡ 10 = search rules in
    counted xs c.map.result (c.map.ensures.items.long ∙ sym ten) (λ j l. let h = c.map.ensures.items.at j nan (pos 0) (omega arith) in search (rules, tests))
