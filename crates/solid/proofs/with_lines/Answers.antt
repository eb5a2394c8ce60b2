-- C takes three corrections, and S two behind a nothing for S20.
use mathlib.Core.List.{[], ◌∷◌}
use mathlib.Core.Path.{◌∙◌}
use lib.IntN.{pos}
use Rattle.bands.proofs.Sizes.{read_c20, read-c21, read-s21, read_c22, read_s22}
use Rattle.solid.specs.Solid.{plus, line_counts, with_lines}
use Rattle.solid.proofs.with_lines.Goals as goal

pub returns : goal.returns
unfolding with_lines line_counts
returns c =
    let d = c.args.two in
    let s = c.requires.lines in
    λ i. record {
      c = (c.with_three.ensures ∙ λ j. plus c.args.one.c (read_c20 d s j ∷ read-c21 d s j ∷ read_c22 d s j ∷ [])) i;
      s = (c.with_three-2.ensures ∙ λ j. plus c.args.one.s (pos 0 ∷ read-s21 d s j ∷ read_s22 d s j ∷ [])) i;
    }
