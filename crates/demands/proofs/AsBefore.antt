-- Document 02, T-08: on a record that was reached from the start, the solid tide is the one from its bare phases.
use mathlib.Core.List.{List}
use mathlib.Core.Path.{◌≡◌, ap}
use Prim.Native.Nat.{ℕ}
use lib.IntN.{ℤ}
use Rattle.bands.specs.declared.Corrections.{Corrections}
use Rattle.bodies.specs.declared.Body.{Body}
use Rattle.choices.specs.declared.LoveModel.{LoveModel}
use Rattle.hour.specs.Hour.{HourCall, reached}
use Rattle.hour.proofs.Reached.{reached_fresh}
use Rattle.step_two.proofs.Kept.{fresh_corrections}
use Rattle.surfgimlet.specs.Calls.{solid_by, solid_tide}
use Rattle.demands.specs.InTurn.{solid_tide_at}

pub as_before : (n : ℕ) (c s : List ℤ) (moon sun : Body) (love : LoveModel) (calls : List HourCall) (selection : ℕ)
    → solid_tide n c s moon sun love (reached calls) selection ≡ solid_tide_at n c s moon sun love (reached calls).phases selection
unfolding solid_tide solid_tide_at
as_before n c s moon sun love calls selection =
    ap (λ (two : Corrections). solid_by n c s moon sun love selection two) (fresh_corrections (reached calls) (reached_fresh calls) love selection)
