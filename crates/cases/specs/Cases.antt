-- Document 01, "Cases": those marked P, together.
use Rattle.std.specs.Prelude.{◌≡◌, true, false, List, [], ◌∷◌, ◌++◌, map, ℕ, ◌*◌, ◌^◌, ℤ, pos, neg_ℤ, replicate, set, take}
use Rattle.std.specs.Float.{binary64}
use Rattle.std.specs.Float.Ieee.{round}
use Rattle.arguments.specs.declared.Multipliers.{Multipliers}
use Rattle.arguments.specs.declared.Phases.{Phases}
use Rattle.bands.specs.declared.Corrections.{Corrections}
use Rattle.choices.specs.declared.Frame.{Frame}
use Rattle.choices.specs.declared.LoveModel.TheVariants.{Anelastic}
use Rattle.choices.specs.declared.PermanentSystem.TheVariants.{TideFree, Zero, Mean}
use Rattle.refusals.specs.Told.Told.{accepted, refused}
use Rattle.count.specs.Count.{count}
use Rattle.doodson.specs.Doodson.{read_doodson, write_doodson}
use Rattle.refusals.specs.Outcome.{Outcome}
use Rattle.listing.specs.Listing.{listing_of}
use Rattle.permanent.specs.Systems.{moved_c20}
use Rattle.profiles.specs.Profiles.{all_lines}
use Rattle.sheet.specs.Accepted.{sheet_refusal}
use Rattle.step_two.specs.StepTwo.{corrections}
use Rattle.surfgimlet.specs.Calls.{ocean_tide}
use Rattle.text.specs.Text.{ascii}
use Rattle.wave.specs.Wave.{sin}

-- six multipliers in the order of the arguments
abbrev pub six : ℤ → ℤ → ℤ → ℤ → ℤ → ℤ → Multipliers
six a b c d e f = record { tau = a; s = b; h = c; p = d; np = e; ps = f }

-- tau, the other phases 0
abbrev pub tau_alone : ℕ → Phases
tau_alone t = record { tau = t; s = 0; h = 0; p = 0; np = 0; ps = 0 }

abbrev pub counts : ℤ → ℤ → ℤ → ℤ → ℤ → Corrections
counts a b c d e = record { c20 = a; c21 = b; s21 = c; c22 = d; s22 = e }

-- "sheet of line (2,0,0,0,0,0), admittance 1,000,000, place (2,2) with 1000, 0, 0, -500"
abbrev pub sheet : List ℕ
sheet =
    1 ∷ 0 ∷ 2 ∷ 0 ∷ 0 ∷ 0 ∷ 0 ∷ 0
    ∷ 1 ∷ 0 ∷ 64 ∷ 66 ∷ 15 ∷ 0
    ∷ 1 ∷ 0 ∷ 2 ∷ 2 ∷ 232 ∷ 3 ∷ 0 ∷ 0 ∷ 0 ∷ 0 ∷ 0 ∷ 0 ∷ 0 ∷ 0 ∷ 0 ∷ 0 ∷ 12 ∷ 254 ∷ 255 ∷ 255
    ∷ []

-- a field of degree 4, all zeros but for place (2,2)
abbrev pub zeros : List ℤ
zeros = replicate 15 (pos 0)

abbrev pub at_place22 : ℤ → ℤ → Outcome
at_place22 c s = record { number = 0; c = set zeros 5 c; s = set zeros 5 s }

pub record Cases : Type 0 where
  -- "165,555 is (1,1,0,0,0,0) and back"
  pub p1 : read_doodson 165555 ≡ accepted (six (pos 1) (pos 1) (pos 0) (pos 0) (pos 0) (pos 0))
  pub p1_back : write_doodson (six (pos 1) (pos 1) (pos 0) (pos 0) (pos 0) (pos 0)) ≡ accepted 165555
  -- "55,565 is (0,0,0,0,1,0)"
  pub p2 : read_doodson 55565 ≡ accepted (six (pos 0) (pos 0) (pos 0) (pos 0) (pos 1) (pos 0))
  -- "1,000,000: refusal 10"
  pub p3 : read_doodson 1000000 ≡ refused 10
  -- "sine at 0, 2^30, 2^31, 3*2^30: 0, 2^30, 0, -2^30"
  pub p4 : map sin (0 ∷ 2 ^ 30 ∷ 2 ^ 31 ∷ 3 * 2 ^ 30 ∷ []) ≡ pos 0 ∷ pos (2 ^ 30) ∷ pos 0 ∷ neg_ℤ (pos (2 ^ 30)) ∷ []
  -- "2.5 gives 3, -2.5 gives -2, negative zero 0"; document 02, T-07: "P5's second answer becomes -3"
  pub p5 : map count (round binary64 false 5 2 ∷ round binary64 true 5 2 ∷ round binary64 true 0 1 ∷ []) ≡ pos 3 ∷ neg_ℤ (pos 3) ∷ pos 0 ∷ []
  -- "C20 tide-free 0, anelastic: zero -4200675, mean -18114804"
  pub p6_zero : moved_c20 (pos 0) TideFree Zero Anelastic ≡ accepted (neg_ℤ (pos 4200675))
  pub p6_mean : moved_c20 (pos 0) TideFree Mean Anelastic ≡ accepted (neg_ℤ (pos 18114804))
  -- "the listing below", on 24 zero bytes
  pub p7 : listing_of (replicate 24 0) ≡ ascii "model C20 C21 S21 C22 S22\nelastic 0 0 450700 -1500 0\nanelastic 10100 0 450100 -1500 0\n"
  -- "tau 2^30, others 0, anelastic: 10100, 450100, 0, 1500, 0"
  pub p8 : corrections (tau_alone (2 ^ 30)) Anelastic all_lines ≡ counts (pos 10100) (pos 450100) (pos 0) (pos 1500) (pos 0)
  -- "phases 0 give 1000, 0; tau 2^29 gives 0, -500. Its 34 bytes pass; 33 or 35: refusal 7.", in either frame
  pub p9_zero : (frame : Frame) → ocean_tide 4 zeros zeros sheet (tau_alone 0) frame ≡ at_place22 (pos 1000) (pos 0)
  pub p9_eighth : (frame : Frame) → ocean_tide 4 zeros zeros sheet (tau_alone (2 ^ 29)) frame ≡ at_place22 (pos 0) (neg_ℤ (pos 500))
  pub p9_lengths : map (λ s. sheet_refusal s 4) (sheet ∷ take 33 sheet ∷ (sheet ++ 0 ∷ []) ∷ []) ≡ 0 ∷ 7 ∷ 7 ∷ []
