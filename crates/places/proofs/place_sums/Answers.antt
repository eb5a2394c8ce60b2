-- The loop keeps both sums of the tides passed; accepted counts leave room for every term.
use mathlib.Core.List.{List}
use mathlib.Core.Path.{◌≡◌, refl, sym, ap, ◌∙◌}
use Prim.Native.Nat.{ℕ, ◌+◌, ◌*◌, ◌^◌, ◌<◌}
use native.Mathlib.Omega.{arith}
use lib.IntN.{ℤ, nat_abs, ◌+ℤ◌}
use lib.Signed.{mag}
use mir.Syntax.{w64}
use mir.Val.{to_z, of_z}
use Rattle.whole.specs.Sum.{sum_to}
use Rattle.whole.proofs.Machine.{back}
use Rattle.whole.proofs.Sums.{sum_next}
use Rattle.sheet.specs.Sheet.{tide_count, place_count, coefficient}
use Rattle.sheet.proofs.Acceptance.{Accepted, accepted}
use Rattle.sheet.proofs.Signs.{told}
use Rattle.tides.specs.declared.Factor.{Factor}
use Rattle.tides.specs.Inner.{cosine_of, sine_of, Sized}
use Rattle.places.specs.Places.{place_sum}
use Rattle.places.proofs.Sizes.{tide_room}
use Rattle.places.proofs.place_sums.Invariants.{term}
use Rattle.places.proofs.place_sums.Goals as goal
use Rattle.places.proofs.place_sums.Goals.{In-loop-k}

one_more : (t : ℕ → ℤ) (k : ℕ) {a r : ℤ} → mag r < 2 ^ 63 → a ≡ sum_to t k → r ≡ a +ℤ t k → to_z w64 (of_z w64 r) ≡ sum_to t (k + 1)
one_more t k {a} {r} m S e = back w64 r m ∙ e ∙ ap (λ (z : ℤ). z +ℤ t k) S ∙ sym (sum_next t k)

-- a turn
module _ {s : List ℕ} (good : Accepted s) (F : List Factor) (C : Sized 32 (tide_count s) (cosine_of F)) (S : Sized 32 (tide_count s) (sine_of F)) (j : ℕ) (h : j < place_count s) (k : ℕ) (below : k < tide_count s) where
  room : (p q : ℕ) → p < 4 → q < 4
      → nat_abs (sum_to (term s j F p q) k) + nat_abs (cosine_of F k) * nat_abs (coefficient s j k p) + nat_abs (sine_of F k) * nat_abs (coefficient s j k q) < 2 ^ 63
  room p q gp gq = tide_room good j h (cosine_of F) (sine_of F) C.each S.each p q gp gq k below

-- a turn's facts by their places in the code
module _ (c : In-loop-k) where
  below : c.loop-k.k < tide_count c.args.tides.now.accepted.sheet.bytes.now
  below = omega (arith, c.args.tides.now.accepted.sheet.laid.tides)

  there : (p q : ℕ) → p < 4 → q < 4
      → nat_abs (sum_to (term c.args.tides.now.accepted.sheet.bytes.now c.args.j c.args.tides.now.factors p q) c.loop-k.k)
      + nat_abs (cosine_of c.args.tides.now.factors c.loop-k.k) * nat_abs (coefficient c.args.tides.now.accepted.sheet.bytes.now c.args.j c.loop-k.k p)
      + nat_abs (sine_of c.args.tides.now.factors c.loop-k.k) * nat_abs (coefficient c.args.tides.now.accepted.sheet.bytes.now c.args.j c.loop-k.k q) < 2 ^ 63
  there p q gp gq = let T = c.args.tides.now in room (accepted _ T.accepted.own) T.factors T.cosines T.sines c.args.j c.requires c.loop-k.k below p q gp gq

pub loop-k-init : goal.loop-k-init
unfolding sum_to
loop-k-init c = (refl, refl)

pub bounds-tides-k : goal.bounds-tides-k
bounds-tides-k c = let T = c.args.tides.now in omega (arith, T.accepted.sheet.laid.tides, (accepted _ T.accepted.own).shape.tides_most)

pub plus_tide-c-requires : goal.plus_tide-c-requires
plus_tide-c-requires c =
    let w = (goal.at.plus_tide-c-requires c).In-loop-k in
    rw (c.loop-k.invariant.0, told w64 c.coefficient_at-c_cos.type_inv c.coefficient_at-c_cos.ensures.0, told w64 c.coefficient_at-c_sin.type_inv c.coefficient_at-c_sin.ensures.0)
    (there w 0 2 (omega arith) (omega arith))

pub plus_tide-s-requires : goal.plus_tide-s-requires
plus_tide-s-requires c =
    let w = (goal.at.plus_tide-s-requires c).In-loop-k in
    rw (c.loop-k.invariant.1, told w64 c.coefficient_at-s_cos.type_inv c.coefficient_at-s_cos.ensures.0, told w64 c.coefficient_at-s_sin.type_inv c.coefficient_at-s_sin.ensures.0)
    (there w 1 3 (omega arith) (omega arith))

pub loop-k-preserved : goal.loop-k-preserved
loop-k-preserved c =
    let w = (goal.at.loop-k-preserved c).In-loop-k in
    let k = c.loop-k.k in
    let i = c.loop-k.invariant in
    let term_of : ℕ → ℕ → ℕ → ℤ = term c.args.tides.now.accepted.sheet.bytes.now c.args.j c.args.tides.now.factors in (
      one_more (term_of 0 2) k c.plus_tide-c.type_inv i.0 (c.plus_tide-c.ensures ∙ rw (told w64 c.coefficient_at-c_cos.type_inv c.coefficient_at-c_cos.ensures.0, told w64 c.coefficient_at-c_sin.type_inv c.coefficient_at-c_sin.ensures.0) refl),
      one_more (term_of 1 3) k c.plus_tide-s.type_inv i.1 (c.plus_tide-s.ensures ∙ rw (told w64 c.coefficient_at-s_cos.type_inv c.coefficient_at-s_cos.ensures.0, told w64 c.coefficient_at-s_sin.type_inv c.coefficient_at-s_sin.ensures.0) refl),
    )

pub returns : goal.returns
unfolding place_sum
returns c =
    let T = c.args.tides.now in
    let term_of = term T.accepted.sheet.bytes.now c.args.j T.factors in
    let e : c.loop-k.k ≡ tide_count T.accepted.sheet.bytes.now = omega (arith, T.accepted.sheet.laid.tides) in
    record {
      sum_c = c.loop-k.invariant.0 ∙ ap (sum_to (term_of 0 2)) e;
      sum_s = c.loop-k.invariant.1 ∙ ap (sum_to (term_of 1 3)) e;
    }
