-- What a selection names: how many lines, and none above line 48 where it is accepted.
use borrow.Author.Tests.{ltb-true, lt-ltb}
use mathlib.Core.Bool.{Bool, true, false, cond}
use mathlib.Core.Logic.{◌↔◌}
use mathlib.Core.Path.{◌≡◌, refl}
use Prim.Native.Nat.{ℕ, ◌^◌, ◌≤◌, ◌<◌}
use native.Mathlib.Omega.{arith}
use lib.Count.{ones}
use Rattle.limits.specs.Limits.{is_selection}
use Rattle.selection.specs.Selection.{names, lines_named, selection_refusal}
use Rattle.selection.proofs.Bits.{ones_counted, count_most, clear_above, below}

-- an accepted selection is below 2^49
small : (selection : ℕ) → selection_refusal selection ≡ 0 → selection < 2 ^ 49
unfolding selection_refusal
small selection e = by (is_selection selection) refl e
  where
    by : (b : Bool) → is_selection selection ≡ b → ◌≡◌ {A = ℕ} (cond b 0 14) 0 → selection < 2 ^ 49
    by true t e = ltb-true selection (2 ^ 49) t
    by false t e = absurd (omega (arith, e))

-- the count of ones is the number of lines named
pub lines_counted : (selection : ℕ) → selection_refusal selection ≡ 0 → ones selection ≡ lines_named selection
unfolding lines_named
lines_counted selection e = ones_counted 49 selection (small selection e)

pub lines-most : (selection : ℕ) → lines_named selection ≤ 49
unfolding lines_named
lines-most selection = count_most (names selection) 49

-- a selection is accepted exactly where no bit above 48 is set
pub no_bit_above : (selection : ℕ) → selection_refusal selection ≡ 0 ↔ ((i : ℕ) → 49 ≤ i → names selection i ≡ false)
unfolding selection_refusal
no_bit_above selection = (λ e. clear_above 49 selection (small selection e), λ h. rw (lt-ltb selection (2 ^ 49) (below 49 selection h)) refl)
