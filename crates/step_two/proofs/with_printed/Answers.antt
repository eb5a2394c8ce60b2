-- A line that is named adds its terms, and has room; one that is not adds nothing.
use mathlib.Core.Path.{◌≡◌, sym, ◌∙◌}
use Prim.Native.Nat.{ℕ, ◌+◌, ◌^◌, ◌<◌}
use native.Mathlib.Omega.{arith}
use lib.IntN.{ℤ}
use lib.Signed.{mag}
use Rattle.bands.specs.declared.Line.{Line}
use Rattle.bands.specs.Bands.{Coefficient, C20, C21, S21, C22, S22, sum_of}
use Rattle.bands.specs.Inner.{sums_of}
use Rattle.bands.proofs.Sizes.{sum_grows, line_room, line_added}
use Rattle.hour.specs.Hour.{kept}
use Rattle.lines.specs.Lines.{printed_line}
use Rattle.selection.specs.Selection.{selected}
use Rattle.step_two.proofs.Sizes.{selected_light, wave-small, wave-read}
use Rattle.step_two.proofs.Unnamed.{named_line, unnamed_sum}
use Rattle.std.proofs.Common.{rules}
use Rattle.step_two.proofs.with_printed.Goals as goal

-- equal sums, all five
same-sums : {f g : Coefficient → ℤ} → ((k : Coefficient) → f k ≡ g k) → sums_of f ≡ sums_of g
unfolding sums_of
same-sums e = λ j. record { c20 = e C20 j; c21 = e C21 j; s21 = e S21 j; c22 = e C22 j; s22 = e S22 j }

pub with_line-requires : goal.with_line-requires
with_line-requires c =
    let a = c.args in
    let lines : ℕ → Line = selected a.selection (printed_line a.love) in
    let C : ℕ → ℤ = kept a.hour.now.cosines in
    let S : ℕ → ℤ = kept a.hour.now.sines in
    let cosine : mag (C a.i) < 2 ^ 31 = search rules in
    let sine : mag (S a.i) < 2 ^ 31 = search rules in
    let running = c.requires.1 in
    line_room lines C S 472000 a.i (omega arith) (omega (arith, c.requires.0)) running.sums_are running.most
    (named_line (printed_line a.love) a.selection a.i (sym c.is_named.ensures ∙ c.if-is_named.true) c.printed_line-line.ensures)
    (wave-read (C a.i) cosine c.from.ensures) (wave-read (S a.i) sine c.from-then-is_named.ensures)
    (selected_light a.love a.selection a.i) (wave-small (C a.i) cosine) (wave-small (S a.i) sine)

pub returns-then-is_named : goal.returns-then-is_named
returns-then-is_named c =
    let a = c.args in
    let lines : ℕ → Line = selected a.selection (printed_line a.love) in
    let C : ℕ → ℤ = kept a.hour.now.cosines in
    let S : ℕ → ℤ = kept a.hour.now.sines in
    let cosine : mag (C a.i) < 2 ^ 31 = search rules in
    let sine : mag (S a.i) < 2 ^ 31 = search rules in
    let running = c.requires.1 in
    record {
      sums_are =
          line_added lines C S 472000 a.i (omega arith) (omega (arith, c.requires.0)) running.sums_are running.most
          (named_line (printed_line a.love) a.selection a.i (sym c.is_named.ensures ∙ c.if-is_named.true) c.printed_line-line.ensures)
          (wave-read (C a.i) cosine c.from.ensures) (wave-read (S a.i) sine c.from-then-is_named.ensures) c.with_line.ensures;
      most = λ k. sum_grows lines C S 472000 a.i (selected_light a.love a.selection a.i) (wave-small (C a.i) cosine) (wave-small (S a.i) sine) k (running.most k);
    }

pub returns-else-is_named : goal.returns-else-is_named
returns-else-is_named c =
    let a = c.args in
    let lines : ℕ → Line = selected a.selection (printed_line a.love) in
    let C : ℕ → ℤ = kept a.hour.now.cosines in
    let S : ℕ → ℤ = kept a.hour.now.sines in
    let running = c.requires.1 in
    let same : (k : Coefficient) → sum_of lines C S (a.i + 1) k ≡ sum_of lines C S a.i k =
    unnamed_sum (printed_line a.love) a.selection a.i (sym c.is_named.ensures ∙ c.if-is_named.false) C S in
    record { sums_are = running.sums_are ∙ same-sums (λ k. sym (same k)); most = λ k. rw (same k) (omega (arith, running.most k)) }
