-- Document 02, T-06, "One call for the solid tide": "The correction is the sum of the two, added once."
use Rattle.std.specs.Prelude.{List, [], ◌∷◌, ℤ, pos, ◌+ℤ◌}
use Rattle.bands.specs.declared.Corrections.{Corrections}
use Rattle.bands.specs.Bands.{for_c, for_s}
use Rattle.bodies.specs.declared.Body.{Body}
use Rattle.choices.specs.declared.LoveModel.{LoveModel}
use Rattle.refusals.specs.Told.{Told}
use Rattle.refusals.specs.Told.Told.{accepted, refused}
use Rattle.step_one.specs.StepOne.{Counts, corrections as body_corrections}

-- two lists added place by place; what one of them does not reach is the other's alone
unfoldable pub plus : List ℤ → List ℤ → List ℤ
plus xs [] = xs
plus [] (y ∷ ys) = y ∷ ys
plus (x ∷ xs) (y ∷ ys) = (x +ℤ y) ∷ plus xs ys

-- what step two adds at step one's places 20, 21, 22, 30, ..: at degree two, S20 apart, and nothing beyond
unfoldable pub line_counts : Corrections → Counts
line_counts d = record { c = for_c d; s = pos 0 ∷ for_s d }

-- "the sum of the two"
unfoldable pub with_lines : Counts → Corrections → Counts
with_lines one two = record { c = plus one.c (line_counts two).c; s = plus one.s (line_counts two).s }

-- step one's counts; none where a body or a correction is refused
abbrev pub counts_of : Told Counts → Counts
counts_of (accepted counts) = counts
counts_of (refused number) = record { c = []; s = [] }

-- what the bodies raise, with given corrections of lines
unfoldable pub solid_counts : Body → Body → LoveModel → Corrections → Counts
solid_counts moon sun love two = with_lines (counts_of (body_corrections moon sun love)) two
