-- The selection of all lines names each; of any other the line's bit tells.
use mathlib.Core.Path.{◌≡◌, sym, ap, ◌∙◌}
use Prim.Native.Nat.{ℕ}
use Rattle.profiles.specs.Profiles.{all_lines}
use Rattle.profiles.proofs.Laws.{all_named}
use Rattle.selection.specs.Selection.{names}
use Rattle.step_two.proofs.is_named.Goals as goal

pub returns-then-selection-all_lines : goal.returns-then-selection-all_lines
returns-then-selection-all_lines c =
    let all : c.args.selection ≡ all_lines = c.if-selection-all_lines.true ∙ c.all_lines.ensures in
    sym (ap (λ (x : ℕ). names x c.args.i) all ∙ all_named c.args.i c.requires)
