-- The search, one line at a time.
use borrow.Author.Tests.{eq-eqb, ne_eqb}
use mathlib.Core.Path.{◌≡◌, refl, sym, ap, ◌∙◌}
use mathlib.Core.Bool.{cond}
use mathlib.Core.List.{List}
use Prim.Native.Nat.{ℕ, ◌+◌, ◌≤◌, ◌<◌}
use native.Mathlib.Numerals.{add-one}
use native.Mathlib.Omega.{arith}
use lib.Dec.{eqb}
use lib.ListN.{length, drop}
use lib.Seq.{drop-cons, drop-length}
use Rattle.refusals.specs.Told.{Told}
use Rattle.refusals.specs.Told.Told.{accepted, refused}
use Rattle.lines.specs.Lines.{printed, line_at, nowhere, sought_from, Printed, Found}
use Rattle.lines.proofs.Table.{count}

module _ (number i : ℕ) where
  abbrev here : Told Found
  here = accepted (record { index = i; first = (line_at i).first; second = (line_at i).second })

  step : i < 49 → sought_from number i (drop i printed) ≡ cond (eqb (line_at i).number number) here (sought_from number (i + 1) (drop (i + 1) printed))
  unfolding sought_from line_at
  step h =
      ap (λ (l : List Printed). sought_from number i l) (drop-cons printed i nowhere (omega (arith, count)))
      ∙ ap (λ (k : ℕ). cond (eqb (line_at i).number number) here (sought_from number (i + 1) (drop k printed))) (sym (add-one i))

  pub found : i < 49 → (line_at i).number ≡ number → sought_from number i (drop i printed) ≡ here
  found h e = step h ∙ rw (eq-eqb (line_at i).number number e) refl

  pub passed : i < 49 → ((line_at i).number ≡ number → ⊥) → sought_from number i (drop i printed) ≡ sought_from number (i + 1) (drop (i + 1) printed)
  passed h e = step h ∙ rw (ne_eqb (line_at i).number number e) refl

  pub none_left : 49 ≤ i → i ≤ 49 → sought_from number i (drop i printed) ≡ refused 11
  unfolding sought_from
  none_left h k = let e : i ≡ length printed = omega (arith, count) in rw (e, drop-length)
