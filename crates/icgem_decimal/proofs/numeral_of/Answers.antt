-- By what stands before and behind the dot.
use Rattle.std.proofs.Common.{◌++◌, List, ℕ, ap, ap₂, refl, sym, ◌∙◌}
use Rattle.std.proofs.lemmas.Option.{IfSome_then}
use denote.Ref.{Bor}
use Rattle.icgem_decimal.specs.Decimal.{is_letter, is_dot, is_whole, unsigned}
use Rattle.icgem_decimal.specs.Inner.{before, after}
use Rattle.icgem_decimal.proofs.Pieces.{before_is, rest_or}
use Rattle.icgem_decimal.proofs.Words.{mantissa_is}
use Rattle.icgem_decimal.proofs.numeral_of.Goals as goal

pub returns : goal.returns
returns c =
    let m = c.without_sign.ensures ∙ ap unsigned (before_is c.parted.ensures is_letter (λ k b e. e)) in
    let a = before_is c.parted-2.ensures is_dot (λ k b e. e) ∙ ap (before is_dot) m in
    let b = ap (λ (r : Bor (List ℕ)). r.now) c.unwrap_or.ensures ∙ rest_or c.parted-2.ensures is_dot (λ k b e. e) _ refl ∙ ap (after is_dot) m in
    record {
      mantissa = mantissa_is c.args.word.now ∙ ap₂ (λ (x y : List ℕ). is_whole (x ++ y)) (sym a) (sym b) ∙ c.of.ensures.whole;
      parts = IfSome_then c.of.result c.of.ensures.parts (λ d p. (p.0 ∙ a, p.1 ∙ b));
    }
