-- Lists renewed from the front, and what the machine stores of a wave.
use mathlib.Core.Bool.{Bool, true, false, cond}
use mathlib.Core.List.{List}
use mathlib.Core.Logic.{⊎_elim}
use mathlib.Core.Path.{◌≡◌, refl, sym, ap, ◌∙◌}
use Prim.Native.Nat.{ℕ, ◌+◌, ◌^◌, ◌≤◌, ◌<◌}
use native.Mathlib.Nat.{eq-or-lt_of_le}
use native.Mathlib.Omega.{arith}
use lib.IntN.{ℤ, pos, nat_abs}
use lib.ListN.{length, length-set, set}
use lib.Seq.{get_or-set_same, get_or-set_other}
use mir.Syntax.{w32, w64}
use mir.Val.{SFits, to_z, of_z}
use mir.Facts.{to_z-of_z}
use Rattle.arguments.specs.declared.Multipliers.{Multipliers}
use Rattle.arguments.specs.declared.Phases.{Phases}
use Rattle.lines.specs.Lines.{multipliers_at, line_phase}
use Rattle.whole.proofs.Listed.{is_listed}
use Rattle.whole.proofs.Parts.{fits_abs}
use Rattle.hour.specs.Hour.{kept, renewed}

-- what a renewed list has of line j
abbrev renewed_at : (Multipliers → Bool) → (ℕ → ℤ) → Phases → List ℤ → ℕ → ℤ
renewed_at chosen W phases held j = cond (chosen (multipliers_at j)) (W (line_phase phases j)) (kept held j)

-- the first n lines of a list are renewed, and those from n on are as they were held
pub record Upto (chosen : Multipliers → Bool) (W : ℕ → ℤ) (phases : Phases) (held l : List ℤ) (n : ℕ) : Type 0 where
  pub long : length l ≡ 49
  pub passed : (j : ℕ) → j < n → kept l j ≡ renewed_at chosen W phases held j
  pub ahead : (j : ℕ) → n ≤ j → kept l j ≡ kept held j

module _ (chosen : Multipliers → Bool) (W : ℕ → ℤ) (phases : Phases) (held : List ℤ) where
  module _ (l : List ℤ) (n : ℕ) (u : Upto chosen W phases held l n) where
    -- one line more, which is renewed
    pub upto_renewed : {v : ℤ} → chosen (multipliers_at n) ≡ true → n < 49 → v ≡ W (line_phase phases n) → Upto chosen W phases held (set l n v) (n + 1)
    upto_renewed {v} is b e = record {
      long = simp length-set u.long;
      passed = λ j k.
          let m : j ≤ n = omega arith in
          let here : W (line_phase phases n) ≡ renewed_at chosen W phases held n = rw is refl in
          ⊎_elim
          (λ q. ap (kept (set l n v)) q ∙ get_or-set_same l n v (pos 0) (omega (arith, u.long)) ∙ e ∙ here ∙ ap (renewed_at chosen W phases held) (sym q))
          (λ i. get_or-set_other l n j v (pos 0) (λ q. omega arith) ∙ u.passed j i) (eq-or-lt_of_le m);
      ahead = λ j k. get_or-set_other l n j v (pos 0) (λ q. omega arith) ∙ u.ahead j (omega arith);
    }

    -- one line more, which is not
    pub upto_kept : chosen (multipliers_at n) ≡ false → Upto chosen W phases held l (n + 1)
    upto_kept held_on = record {
      long = u.long;
      passed = λ j k.
          let m : j ≤ n = omega arith in
          let here : kept held n ≡ renewed_at chosen W phases held n = rw held_on refl in
          ⊎_elim (λ q. ap (kept l) q ∙ u.ahead n (omega arith) ∙ here ∙ ap (renewed_at chosen W phases held) (sym q)) (u.passed j) (eq-or-lt_of_le m);
      ahead = λ j k. u.ahead j (omega arith);
    }

    -- all lines
    pub upto_all : n ≡ 49 → l ≡ renewed chosen W phases held
    upto_all e = is_listed (pos 0) l (renewed_at chosen W phases held) 49 u.long (λ j h. u.passed j (omega arith))

-- a wave stored in 32 bits
module _ {z v : ℤ} (e : z ≡ v) (h : nat_abs v ≤ 2 ^ 30) where
  same_wave : to_z w64 (of_z w64 z) ≡ v
  same_wave = ap (λ (x : ℤ). to_z w64 (of_z w64 x)) e ∙ to_z-of_z (fits_abs w64 v (omega arith))

  pub wave_fits : SFits w32 (to_z w64 (of_z w64 z))
  wave_fits = rw same_wave (fits_abs w32 v (omega arith))

  pub wave_stored : to_z w32 (of_z w32 (to_z w64 (of_z w64 z))) ≡ v
  wave_stored = to_z-of_z wave_fits ∙ same_wave
