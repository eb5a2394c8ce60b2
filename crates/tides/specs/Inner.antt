-- Inner contracts, no words of 01: what the code keeps of the waves and the factors, once a call.
use Rattle.std.specs.Prelude.{List, ◌≡◌, ℕ, ◌^◌, ◌≤◌, ◌<◌, ℤ, pos, nat_abs, ◌+ℤ◌, ◌-ℤ◌, get_or}
use Rattle.arguments.specs.declared.Phases.{Phases}
use Rattle.sheet.specs.Sheet.{tide_count}
use Rattle.wave.specs.Wave.{sin, cos}
use Rattle.whole.specs.Sum.{weight_to}
use Rattle.tides.specs.declared.RowSums.{RowSums}
use Rattle.tides.specs.declared.Factor.{Factor}
use Rattle.tides.specs.Tides.{line_phase, line_sum, factor, fcos, fsin}

-- ---- waves: each is raised by 2^30, which makes it unsigned
-- the waves in such a list
abbrev pub lowered : List ℕ → ℕ → ℤ
lowered l f = pos (get_or l f 0) -ℤ pos (2 ^ 30)

-- the first n of a list are the waves w, raised
pub record Raised (w : ℕ → ℤ) (n : ℕ) (l : List ℕ) : Type 0 where
  pub each : (f : ℕ) → f < n → get_or l f 0 ≡ nat_abs (w f +ℤ pos (2 ^ 30))

-- the cosines and the sines of all lines
pub record Waved (s : List ℕ) (phases : Phases) (n : ℕ) (C S : List ℕ) : Type 0 where
  pub cosines : Raised (λ f. cos (line_phase s phases f)) n C
  pub sines : Raised (λ f. sin (line_phase s phases f)) n S

-- each of the first n of a list has 31 bits
pub record Bounded (n : ℕ) (l : List ℕ) : Type 0 where
  pub each : (f : ℕ) → f < n → get_or l f 0 ≤ 2 ^ 31

-- the first n of a list added up
abbrev pub total : List ℕ → ℕ → ℕ
total l n = weight_to (λ f. pos (get_or l f 0)) n

-- both sums of tide k
pub record Summed (s : List ℕ) (k : ℕ) (C S : List ℕ) (r : RowSums) : Type 0 where
  pub cosines : r.cosines ≡ line_sum s (lowered C) k
  pub sines : r.sines ≡ line_sum s (lowered S) k

-- ---- factors
-- past the end of a list stands none
abbrev none : Factor
none = record { cosine = pos 0; sine = pos 0 }

abbrev pub cosine_of : List Factor → ℕ → ℤ
cosine_of l k = (get_or l k none).cosine

abbrev pub sine_of : List Factor → ℕ → ℤ
sine_of l k = (get_or l k none).sine

-- the first n of v are w 0 .. w (n - 1)
pub record Lists (w : ℕ → ℤ) (n : ℕ) (v : ℕ → ℤ) : Type 0 where
  pub each : (i : ℕ) → i < n → v i ≡ w i

-- each of the first n of v is at most 2^e
pub record Sized (e n : ℕ) (v : ℕ → ℤ) : Type 0 where
  pub each : (i : ℕ) → i < n → nat_abs (v i) ≤ 2 ^ e

-- the factors of all tides, from raised waves, and from the phases
pub record Rowed (s : List ℕ) (C S : List ℕ) (F : List Factor) : Type 0 where
  pub cosines : Lists (factor s (lowered C)) (tide_count s) (cosine_of F)
  pub sines : Lists (factor s (lowered S)) (tide_count s) (sine_of F)

pub record Factored (s : List ℕ) (phases : Phases) (F : List Factor) : Type 0 where
  pub cosines : Lists (fcos s phases) (tide_count s) (cosine_of F)
  pub sines : Lists (fsin s phases) (tide_count s) (sine_of F)
