-- Inner contracts, no words of 01: what is worked out of a place, from a list F of its tides' factors.
use Rattle.std.specs.Prelude.{List, ◌≡◌, ℕ}
use Rattle.choices.specs.declared.Frame.{Frame}
use Rattle.sheet.specs.Sheet.{c_cos, s_cos, c_sin, s_sin}
use Rattle.tides.specs.declared.Factor.{Factor}
use Rattle.tides.specs.Inner.{cosine_of, sine_of}
use Rattle.places.specs.declared.Correction.{Correction}
use Rattle.places.specs.declared.PlaceSums.{PlaceSums}
use Rattle.places.specs.Places.{place_sum, correction}

-- both sums of place j
pub record Summed (s : List ℕ) (F : List Factor) (j : ℕ) (r : PlaceSums) : Type 0 where
  pub sum_c : r.c ≡ place_sum s (cosine_of F) (sine_of F) c_cos c_sin j
  pub sum_s : r.s ≡ place_sum s (cosine_of F) (sine_of F) s_cos s_sin j

-- its correction
pub record Corrects (s : List ℕ) (frame : Frame) (F : List Factor) (j : ℕ) (r : Correction) : Type 0 where
  pub of_c : r.c ≡ correction s frame (cosine_of F) (sine_of F) c_cos c_sin j
  pub of_s : r.s ≡ correction s frame (cosine_of F) (sine_of F) s_cos s_sin j
