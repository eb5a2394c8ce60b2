-- Document 02, T-08: "After any calls from the start, the kept values equal those worked out afresh from its phases." And of any record: moving by a and
-- then by b is moving by a + b, modulo a turn. Of those reached: moving by nothing changes nothing.
use borrow.Author.Tests.{leb-false}
use mathlib.Core.Bool.{Bool, true, false, cond}
use mathlib.Core.List.{List, [], ◌∷◌}
use mathlib.Core.Path.{◌≡◌, refl, sym, ap, ◌∙◌}
use Prim.Native.Nat.{ℕ, ◌^◌, ◌<◌}
use native.Mathlib.Omega.{arith}
use lib.Dec.{ltb}
use lib.IntN.{ℤ, pos, nat_abs, ◌+ℤ◌}
use Rattle.arguments.specs.declared.Argument.{Argument}
use Rattle.arguments.specs.declared.Multipliers.{Multipliers}
use Rattle.arguments.specs.declared.Phases.{Phases}
use Rattle.arguments.specs.Phase.{modulo, multiplier_of, moved_phases}
use Rattle.arguments.proofs.Moved.{InATurn, moved_twice, moved_by_nothing, phase_unmoved}
use Rattle.lines.specs.Lines.{multipliers_at, line_phase}
use Rattle.wave.specs.Wave.{sin, cos}
use Rattle.whole.proofs.Listed.{at_listed, listed_same}
use Rattle.whole.proofs.Parts.{no_size}
use Rattle.hour.specs.declared.Hour.{Hour}
use Rattle.hour.specs.Hour.{kept, hour_at, start_hour, has_argument, renewed, moved_hour, HourCall, SetHour, MoveHour, called, after, reached, Fresh}

-- ---- what a record that is fresh holds
module _ (hour : Hour) (fresh : Fresh hour) (i : ℕ) (h : i < 49) where
  pub fresh_cosine : kept hour.cosines i ≡ cos (line_phase hour.phases i)
  unfolding hour_at
  fresh_cosine = ap (λ (x : Hour). kept x.cosines i) fresh ∙ at_listed (λ j. cos (line_phase hour.phases j)) 49 i (pos 0) h

  pub fresh_sine : kept hour.sines i ≡ sin (line_phase hour.phases i)
  unfolding hour_at
  fresh_sine = ap (λ (x : Hour). kept x.sines i) fresh ∙ at_listed (λ j. sin (line_phase hour.phases j)) 49 i (pos 0) h

-- ---- a line without the argument keeps its phase, and so its wave
without : (z : ℤ) → ltb 0 (nat_abs z) ≡ false → z ≡ pos 0
without z e = no_size z (omega (arith, leb-false 1 (nat_abs z) e))

module _ (hour : Hour) (argument : Argument) (amount : ℤ) where
  abbrev phases : Phases
  phases = moved_phases hour.phases argument amount

  -- a wave W of line i, held in l
  renewed_is : (W : ℕ → ℤ) (l : List ℤ) (i : ℕ) → kept l i ≡ W (line_phase hour.phases i)
      → cond (has_argument argument (multipliers_at i)) (W (line_phase phases i)) (kept l i) ≡ W (line_phase phases i)
  unfolding has_argument
  renewed_is W l i e = by_test (has_argument argument (multipliers_at i)) refl
    where
      by_test : (b : Bool) → has_argument argument (multipliers_at i) ≡ b → cond b (W (line_phase phases i)) (kept l i) ≡ W (line_phase phases i)
      by_test true q = refl
      by_test false q = e ∙ ap W (sym (phase_unmoved (multipliers_at i) hour.phases argument amount (without (multiplier_of (multipliers_at i) argument) q)))

  pub moved_fresh : Fresh hour → moved_hour hour argument amount ≡ hour_at phases
  unfolding moved_hour hour_at
  moved_fresh fresh =
      let cosines = listed_same _ (λ i. cos (line_phase phases i)) 49 (λ i h. renewed_is cos hour.cosines i (fresh_cosine hour fresh i h)) in
      let sines = listed_same _ (λ i. sin (line_phase phases i)) 49 (λ i h. renewed_is sin hour.sines i (fresh_sine hour fresh i h)) in
      λ j. record { phases = phases; cosines = cosines j; sines = sines j }

-- ---- the start has it, and each call keeps it
pub set_fresh : (phases : Phases) → Fresh (hour_at phases)
unfolding hour_at
set_fresh phases = refl

pub start_fresh : Fresh start_hour
unfolding start_hour
start_fresh = set_fresh _

pub called_fresh : (hour : Hour) (call : HourCall) → Fresh hour → Fresh (called hour call)
unfolding called moved_hour
called_fresh hour (SetHour phases) fresh = set_fresh phases
called_fresh hour (MoveHour argument amount) fresh = moved_fresh hour argument amount fresh

after_fresh : (hour : Hour) (calls : List HourCall) → Fresh hour → Fresh (after hour calls)
unfolding after
after_fresh hour [] fresh = fresh
after_fresh hour (call ∷ calls) fresh = after_fresh (called hour call) calls (called_fresh hour call fresh)

pub reached_fresh : (calls : List HourCall) → Fresh (reached calls)
reached_fresh calls = after_fresh start_hour calls start_fresh

-- ---- moves
-- of any record: a line with the argument is renewed at the last phases, and a line without it stays
renewed_again : (chosen : Multipliers → Bool) (W : ℕ → ℤ) (held : List ℤ) (p q : Phases) → renewed chosen W q (renewed chosen W p held) ≡ renewed chosen W q held
renewed_again chosen W held p q =
    listed_same _ _ 49 (λ i h. by_test (chosen (multipliers_at i)) i (at_listed (λ j. cond (chosen (multipliers_at j)) (W (line_phase p j)) (kept held j)) 49 i (pos 0) h))
  where
    by_test : (b : Bool) (i : ℕ) {x : ℤ} → x ≡ cond b (W (line_phase p i)) (kept held i) → cond b (W (line_phase q i)) x ≡ cond b (W (line_phase q i)) (kept held i)
    by_test true i e = refl
    by_test false i e = e

pub moves_add : (hour : Hour) (argument : Argument) (a b d : ℤ) → modulo d (2 ^ 32) ≡ modulo (a +ℤ b) (2 ^ 32)
    → moved_hour (moved_hour hour argument a) argument b ≡ moved_hour hour argument d
unfolding moved_hour
moves_add hour argument a b d same =
    let first = moved_phases hour.phases argument a in
    let p : moved_phases first argument b ≡ moved_phases hour.phases argument d = moved_twice hour.phases argument a b d same in
    let last = moved_phases first argument b in
    let cosines = renewed_again (has_argument argument) cos hour.cosines first last ∙ ap (λ (q : Phases). renewed (has_argument argument) cos q hour.cosines) p in
    let sines = renewed_again (has_argument argument) sin hour.sines first last ∙ ap (λ (q : Phases). renewed (has_argument argument) sin q hour.sines) p in
    λ j. record { phases = p j; cosines = cosines j; sines = sines j }

-- of a record reached, whose phases the machine holds
pub moved_by_none : (hour : Hour) (argument : Argument) → Fresh hour → InATurn hour.phases → moved_hour hour argument (pos 0) ≡ hour
moved_by_none hour argument fresh turn = moved_fresh hour argument (pos 0) fresh ∙ ap hour_at (moved_by_nothing hour.phases argument turn) ∙ sym fresh
