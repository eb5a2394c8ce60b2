-- Document 01, "Model sheet and ocean tide": the factors of each tide.
use Rattle.std.specs.Prelude.{List, ℕ, ◌^◌, ℤ, ◌*ℤ◌}
use Rattle.arguments.specs.declared.Phases.{Phases}
use Rattle.arguments.specs.Phase.{phase}
use Rattle.sheet.specs.Sheet.{line_count, multipliers, admittance}
use Rattle.wave.specs.Wave.{sin, cos}
use Rattle.whole.specs.Nearest.{nearest}
use Rattle.whole.specs.Sum.{sum_to}

-- the phase of line f
abbrev pub line_phase : List ℕ → Phases → ℕ → ℕ
line_phase s phases f = phase (multipliers s f) phases

-- "sum of admittance*cosine, or sine", of tide k, over the lines' cosines or sines w
unfoldable pub line_sum : List ℕ → (ℕ → ℤ) → ℕ → ℤ
line_sum s w k = sum_to (λ f. admittance s k f *ℤ w f) (line_count s)

-- "fcos, fsin = nearest of (sum of admittance*cosine, or sine)/10^6"
unfoldable pub factor : List ℕ → (ℕ → ℤ) → ℕ → ℤ
factor s w k = nearest (line_sum s w k) (10 ^ 6)

unfoldable pub fcos : List ℕ → Phases → ℕ → ℤ
fcos s phases = factor s (λ f. cos (line_phase s phases f))

unfoldable pub fsin : List ℕ → Phases → ℕ → ℤ
fsin s phases = factor s (λ f. sin (line_phase s phases f))
