-- Lists filled from the front: with numbers, and with raised waves.
use mathlib.Core.Logic.{⊎_elim}
use mathlib.Core.Path.{◌≡◌, ap, sym, ◌∙◌}
use mathlib.Core.List.{List}
use Prim.Native.Nat.{ℕ, ◌+◌, ◌^◌, ◌≤◌, ◌<◌}
use native.Mathlib.Nat.{eq-or-lt_of_le}
use native.Mathlib.Omega.{arith}
use lib.IntN.{ℤ, pos, nat_abs, ◌+ℤ◌}
use lib.ListN.{length, get_or, set}
use lib.Seq.{get_or-set_same, get_or-set_other}
use Rattle.whole.proofs.Listed.{stored}
use Rattle.tides.specs.declared.Factor.{Factor}
use Rattle.tides.specs.Inner.{Raised, Lists}

pub lists_none : (w v : ℕ → ℤ) → Lists w 0 v
lists_none w v = record { each = λ i h. absurd (omega arith) }

-- a list whose entries have the parts w, once one more stands in it
pub lists_more : (part : Factor → ℤ) (w : ℕ → ℤ) (n : ℕ) (l : List Factor) {v : Factor} (d : Factor) → Lists w n (λ i. part (get_or l i d)) → n < length l → part v ≡ w n
    → Lists w (n + 1) (λ i. part (get_or (set l n v) i d))
lists_more part w n l {v} d H h e = record {
  each = λ i k.
      let m : i ≤ n = omega arith in
      ⊎_elim (λ q. ap (λ (j : ℕ). part (get_or (set l n v) j d)) q ∙ ap part (get_or-set_same l n v d h) ∙ e ∙ ap w (sym q))
      (λ j. ap part (get_or-set_other l n i v d (λ q. omega arith)) ∙ H.each i j) (eq-or-lt_of_le m);
}

pub raised_none : (w : ℕ → ℤ) (l : List ℕ) → Raised w 0 l
raised_none w l = record { each = λ i h. absurd (omega arith) }

pub raised_more : (w : ℕ → ℤ) (n : ℕ) (l : List ℕ) {v : ℕ} → Raised w n l → n < length l → v ≡ nat_abs (w n +ℤ pos (2 ^ 30)) → Raised w (n + 1) (set l n v)
raised_more w n l H h e = record { each = stored 0 (λ i. nat_abs (w i +ℤ pos (2 ^ 30))) n l H.each h e }
