-- Each turn writes one more digit; five of them and one more stay below 27^6.
use mathlib.Core.Path.{◌≡◌, refl, ap, ◌∙◌}
use Prim.Native.Nat.{ℕ, ◌^◌, ◌≤◌, ◌<◌}
use native.Mathlib.Nat.{pow-le-pow_right}
use native.Mathlib.Numerals.{add-one}
use native.Mathlib.Omega.{arith}
use lib.IntN.{ℤ, nat_abs}
use mir.Syntax.{w32}
use mir.Val.{to_z, of_z}
use Rattle.sheet.specs.Sheet.{multiplier}
use Rattle.sheet.proofs.Acceptance.{line_small}
use Rattle.sheet.proofs.Signs.{told}
use Rattle.sheet_twins.specs.Inner.{digit, written, key}
use Rattle.sheet_twins.proofs.Keys.{digit_small, written_small}
use Rattle.sheet_twins.proofs.key_at.Goals as goal
use Rattle.sheet_twins.proofs.key_at.Goals.{After-signed_byte_at, In-loop-i}

module _ (c : In-loop-i) where
  small : (i : ℕ) → i < 6 → nat_abs (multiplier c.args.sheet.now.bytes.now c.args.f i) ≤ 13
  small = line_small c.args.sheet.now.bytes.now c.args.f c.requires.1

  -- what is written so far
  so_far : c.loop-i.key < 27 ^ 5
  so_far =
      let i = c.loop-i.i in
      let w = written_small (multiplier c.args.sheet.now.bytes.now c.args.f) i (λ q h. small q (omega arith)) in
      let p = pow-le-pow_right {n = 27} (omega arith) {i = i} {j = 5} (omega arith) in
      omega (arith, w, p, c.loop-i.invariant)

module _ (c : After-signed_byte_at) where
  abbrev this : ℤ
  this = multiplier c.args.sheet.now.bytes.now c.args.f c.loop-i.i

  read : to_z w32 (of_z w32 c.signed_byte_at.result) ≡ this
  unfolding multiplier
  read = told w32 c.signed_byte_at.type_inv c.signed_byte_at.ensures

  this-small : nat_abs this ≤ 13
  this-small = line_small c.args.sheet.now.bytes.now c.args.f c.requires.1 c.loop-i.i (omega arith)

pub loop-i-init : goal.loop-i-init
unfolding written
loop-i-init c = refl

pub overflow_mul-key : goal.overflow_mul-key
overflow_mul-key c = omega (arith, so_far (goal.at.overflow_mul-key c).In-loop-i)

pub digit-requires : goal.digit-requires
digit-requires c = rw (read (goal.at.digit-requires c).After-signed_byte_at) (this-small (goal.at.digit-requires c).After-signed_byte_at)

pub overflow_add-key : goal.overflow_add-key
overflow_add-key c = omega (arith, so_far (goal.at.overflow_add-key c).In-loop-i, digit_small (this (goal.at.overflow_add-key c).After-signed_byte_at) (this-small (goal.at.overflow_add-key c).After-signed_byte_at), c.digit.ensures ∙ ap digit (read (goal.at.overflow_add-key c).After-signed_byte_at))

pub loop-i-preserved : goal.loop-i-preserved
unfolding written
loop-i-preserved c =
    let l = c.loop-i in
    rw (l.invariant, c.digit.ensures ∙ ap digit (read (goal.at.loop-i-preserved c).After-signed_byte_at), add-one) refl

pub returns : goal.returns
unfolding key
returns c =
    let s = c.args in
    let e : c.loop-i.i ≡ 6 = omega arith in
    c.loop-i.invariant ∙ ap (written (multiplier s.sheet.now.bytes.now s.f)) e
