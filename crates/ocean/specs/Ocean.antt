-- Document 01, "Model sheet and ocean tide (002)": what each place of a sheet gains.
use Rattle.std.specs.Prelude.{List, ℕ, ℤ}
use Rattle.arguments.specs.declared.Phases.{Phases}
use Rattle.choices.specs.declared.Frame.{Frame}
use Rattle.places.specs.Places.{correction}
use Rattle.sheet.specs.Sheet.{c_cos, s_cos, c_sin, s_sin}
use Rattle.tides.specs.Tides.{fcos, fsin}

-- "dC = nearest of (sum over tides of fcos*Ccos + fsin*Csin)/2^30; dS alike", of place j
unfoldable pub d_c : List ℕ → Phases → Frame → ℕ → ℤ
d_c s phases frame = correction s frame (fcos s phases) (fsin s phases) c_cos c_sin

unfoldable pub d_s : List ℕ → Phases → Frame → ℕ → ℤ
d_s s phases frame = correction s frame (fcos s phases) (fsin s phases) s_cos s_sin
