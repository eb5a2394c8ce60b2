-- The loop keeps both sums of the tides passed; accepted counts leave room for every term.
use mathlib.Core.List.{List}
use mathlib.Core.Path.{◌≡◌}
use Prim.Native.Nat.{ℕ}
use lib.IntN.{ℤ, ◌+ℤ◌, ◌*ℤ◌}
use Rattle.whole.specs.Sum.{sum_to}
use Rattle.sheet.specs.Sheet.{coefficient}
use Rattle.tides.specs.declared.Factor.{Factor}
use Rattle.tides.specs.Inner.{cosine_of, sine_of}
use Rattle.places.proofs.place_sums.Given as goal

-- what tide k adds, by a cos and a sin column
abbrev pub term : List ℕ → ℕ → List Factor → ℕ → ℕ → ℕ → ℤ
term s j F p q k = cosine_of F k *ℤ coefficient s j k p +ℤ sine_of F k *ℤ coefficient s j k q

abbrev pub invariant-loop-k : goal.invariant-loop-k
invariant-loop-k l =
    let term_of = term l.tides.accepted.sheet.bytes.now l.j l.tides.factors in
    (l.c ≡ sum_to (term_of 0 2) l.k) × (l.s ≡ sum_to (term_of 1 3) l.k)
