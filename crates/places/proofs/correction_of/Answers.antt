-- A skipped place has no correction; any other the nearest of its sums, which an accepted sheet keeps within 2^62.
use mathlib.Core.Path.{◌≡◌, refl, sym, ap, ◌∙◌}
use Prim.Native.Nat.{ℕ, ◌^◌, ◌≤◌, ◌<◌}
use native.Mathlib.Omega.{arith}
use lib.IntN.{ℤ, nat_abs}
use mir.Syntax.{w64}
use mir.Val.{to_z, of_z}
use Rattle.whole.specs.Nearest.{nearest}
use Rattle.sheet.specs.Sheet.{degree}
use Rattle.sheet.proofs.Acceptance.{accepted}
use Rattle.sheet.proofs.Signs.{told}
use Rattle.tides.specs.Inner.{cosine_of, sine_of}
use Rattle.tides.proofs.Sizes.{read_back}
use Rattle.places.specs.Places.{place_sum, skipped, unless_skipped, correction}
use Rattle.places.proofs.Sizes.{place_size}
use Rattle.places.proofs.correction_of.Goals as goal
use Rattle.places.proofs.correction_of.Goals.{After-is_skipped, After-place_sums-sums}

skip-told : (c : After-is_skipped) → c.is_skipped.result ≡ skipped c.args.frame (degree c.args.tides.now.accepted.sheet.bytes.now c.args.j)
skip-told c = c.is_skipped.ensures ∙ ap (skipped c.args.frame) c.degree_at.ensures

-- once both sums are known
module _ (c : After-place_sums-sums) where
  abbrev sum : ℕ → ℕ → ℤ
  sum p q = place_sum c.args.tides.now.accepted.sheet.bytes.now (cosine_of c.args.tides.now.factors) (sine_of c.args.tides.now.factors) p q c.args.j

  sum-small : (p q : ℕ) → p < 4 → q < 4 → nat_abs (sum p q) ≤ 2 ^ 62
  sum-small p q gp gq =
      place_size (accepted _ c.args.tides.now.accepted.own) c.args.j c.requires (cosine_of c.args.tides.now.factors) (sine_of c.args.tides.now.factors)
      c.args.tides.now.cosines.each c.args.tides.now.sines.each p q gp gq

  c_read : to_z w64 (of_z w64 c.place_sums-sums.result.c) ≡ sum 0 2
  c_read = read_back c.place_sums-sums.ensures.sum_c (omega (arith, sum-small 0 2 (omega arith) (omega arith)))

  s_read : to_z w64 (of_z w64 c.place_sums-sums.result.s) ≡ sum 1 3
  s_read = read_back c.place_sums-sums.ensures.sum_s (omega (arith, sum-small 1 3 (omega arith) (omega arith)))

pub returns-then-is_skipped : goal.returns-then-is_skipped
unfolding correction unless_skipped
returns-then-is_skipped c = let e = sym (skip-told (goal.at.returns-then-is_skipped c).After-is_skipped) ∙ c.if-is_skipped.true in record { of_c = rw e refl; of_s = rw e refl }

pub nearest_of-requires : goal.nearest_of-requires
nearest_of-requires c =
    (omega arith, rw (c_read (goal.at.nearest_of-requires c).After-place_sums-sums) (omega (arith, sum-small (goal.at.nearest_of-requires c).After-place_sums-sums 0 2 (omega arith) (omega arith))))

pub nearest_of-requires-2 : goal.nearest_of-requires-2
nearest_of-requires-2 c =
    (omega arith, rw (s_read (goal.at.nearest_of-requires-2 c).After-place_sums-sums) (omega (arith, sum-small (goal.at.nearest_of-requires-2 c).After-place_sums-sums 1 3 (omega arith) (omega arith))))

pub returns : goal.returns
unfolding correction unless_skipped
returns c =
    let near : ℤ → ℤ = λ z. nearest z (2 ^ 30) in
    let e = sym (skip-told (goal.at.returns c).After-is_skipped) ∙ c.if-is_skipped.false in
    record {
      of_c = rw e (told w64 c.nearest_of.type_inv (c.nearest_of.ensures ∙ ap near (c_read (goal.at.returns c).After-place_sums-sums)));
      of_s = rw e (told w64 c.nearest_of-2.type_inv (c.nearest_of-2.ensures ∙ ap near (s_read (goal.at.returns c).After-place_sums-sums)));
    }
