-- Inner contracts, no words of 01: lists that have a sheet's places, and what adding to them leaves.
use Rattle.std.specs.Prelude.{true, List, ◌≡◌, ℕ, ◌<◌, ℤ, length}
use Rattle.arguments.specs.declared.Phases.{Phases}
use Rattle.choices.specs.declared.Frame.{Frame}
use Rattle.field.specs.Added.{added}
use Rattle.field.specs.Field.{every_in_range}
use Rattle.places.specs.Places.{correction, index_of}
use Rattle.sheet.specs.Sheet.{place_count, c_cos, s_cos, c_sin, s_sin}
use Rattle.tides.specs.declared.Factor.{Factor}
use Rattle.tides.specs.Inner.{cosine_of, sine_of}
use Rattle.ocean.specs.Ocean.{d_c, d_s}

-- a list whose entries are in range, and which has every place of the sheet
pub record Wide (s : List ℕ) (l : List ℤ) : Type 0 where
  pub range : every_in_range l ≡ true
  pub has : (j : ℕ) → j < place_count s → index_of s j < length l

-- both lists with the corrections of all places, from a list F of the tides' factors
pub record PlacesAdded (sheet : List ℕ) (frame : Frame) (F : List Factor) (c s c' s' : List ℤ) : Type 0 where
  pub list_c : c' ≡ added (index_of sheet) (correction sheet frame (cosine_of F) (sine_of F) c_cos c_sin) (place_count sheet) c
  pub list_s : s' ≡ added (index_of sheet) (correction sheet frame (cosine_of F) (sine_of F) s_cos s_sin) (place_count sheet) s

-- the same from the phases
pub record TideAdded (sheet : List ℕ) (phases : Phases) (frame : Frame) (c s c' s' : List ℤ) : Type 0 where
  pub list_c : c' ≡ added (index_of sheet) (d_c sheet phases frame) (place_count sheet) c
  pub list_s : s' ≡ added (index_of sheet) (d_s sheet phases frame) (place_count sheet) s
