-- The places of an accepted sheet rise in a list, so that each correction meets an entry that is still as it was.
use mathlib.Core.List.{List}
use mathlib.Core.Logic.{⊎_elim}
use Prim.Native.Nat.{ℕ, zero, suc, ◌≤◌, ◌<◌}
use native.Mathlib.Nat.{eq-or-lt_of_le}
use native.Mathlib.Numerals.{add-one}
use native.Mathlib.Omega.{arith}
use Rattle.field.proofs.Added.{Rising}
use Rattle.places.specs.Places.{index_of}
use Rattle.sheet.specs.Sheet.{place_count}
use Rattle.sheet.proofs.Acceptance.{Accepted}

rise : {s : List ℕ} → Accepted s → (i j : ℕ) → i < j → j < place_count s → index_of s i < index_of s j
rise A i zero h g = absurd (omega arith)
rise {s} A i (suc j) h g =
    let m : i ≤ j = omega arith in
    let step : index_of s j < index_of s (suc j) = rw (add-one j) at (A.ascending j (omega arith)) in
    ⊎_elim (λ e. rw e step) (λ l. omega (arith, rise A i j l (omega arith))) (eq-or-lt_of_le m)

pub rises : {s : List ℕ} → Accepted s → (n : ℕ) → n ≤ place_count s → Rising (index_of s) n
rises A n h = record { rise = λ i j l b. rise A i j l (omega arith) }
