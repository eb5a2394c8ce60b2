-- Each entry, and what its word should be.
use Rattle.std.proofs.lemmas.Result.{MatchResult-from_err}
use Rattle.std.proofs.Common.{rules}
use Rattle.text.specs.Text.{ascii}
use Rattle.icgem_names.specs.Names as names
use Rattle.icgem_header.specs.Inner.{words_fit}
use Rattle.icgem_header.proofs.Known.{word_is, system_is}
use Rattle.icgem_header.proofs.system_in.Goals as goal
use Rattle.icgem_header.proofs.system_in.Goals.{else-same_word-via-then-same_word+else-may_be, else-same_word-via-else-same_word}

pub returns-in_err-product : goal.returns-in_err-product
unfolding ascii words_fit
returns-in_err-product c = MatchResult-from_err _ _ _ c.from_residual.ensures.0 (λ _. rw c.in_err-product.ensures)

pub returns-in_err-entry_of : goal.returns-in_err-entry_of
unfolding ascii words_fit
returns-in_err-entry_of c =
    MatchResult-from_err _ _ _ c.from_residual-in_err-entry_of.ensures.0 (λ _. rw (c.in_ok-product.ensures.0, c.in_err-entry_of.ensures))

pub returns-in_err-entry_of-2 : goal.returns-in_err-entry_of-2
unfolding ascii words_fit
returns-in_err-entry_of-2 c =
    MatchResult-from_err _ _ _ c.from_residual-in_err-entry_of-2.ensures.0
    (λ _. rw (c.in_ok-product.ensures.0, c.in_ok-entry_of.ensures.0, c.in_err-entry_of-2.ensures))

pub returns-in_err-norm : goal.returns-in_err-norm
unfolding ascii words_fit
returns-in_err-norm c =
    MatchResult-from_err _ _ _ c.from_residual-in_err-norm.ensures.0
    (λ _. rw (c.in_ok-product.ensures.0, c.in_ok-entry_of.ensures.0, c.in_ok-entry_of-2.ensures.0, c.in_err-norm.ensures))

pub returns-in_err-system : goal.returns-in_err-system
unfolding ascii words_fit
returns-in_err-system c =
    MatchResult-from_err _ _ _ c.from_residual-in_err-system.ensures.0
    (λ _. rw (c.in_ok-product.ensures.0, c.in_ok-entry_of.ensures.0, c.in_ok-entry_of-2.ensures.0, c.in_ok-norm.ensures.0, c.in_err-system.ensures))

pub returns-then-may_be : goal.returns-then-may_be
unfolding ascii words_fit
returns-then-may_be c = (
  rw (
    c.in_ok-product.ensures.0,
    c.in_ok-entry_of.ensures.0,
    c.in_ok-entry_of-2.ensures.0,
    c.in_ok-norm.ensures.0,
    c.in_ok-system.ensures.0,
    ← c.in_ok-product.ensures.1.value_is,
    ← c.same_word.ensures,
    c.if-same_word.true,
    word_is names.norm c.args.entries.now c.in_ok-norm.norm c.in_ok-norm.ensures.1 names.fully_normalized c.may_be.result c.may_be.ensures,
    c.if-may_be.true,
  ),
  system_is names.tide_system c.args.entries.now c.in_ok-system.system c.in_ok-system.ensures.1 c.and_then.result c.and_then.ensures (λ v p. search rules),
)

pub returns-else-same_word : goal.returns-else-same_word
unfolding ascii words_fit
returns-else-same_word c =
    elim c.else-same_word.branch [
      | else-same_word-via-then-same_word+else-may_be w ↦
          rw (
            c.in_ok-product.ensures.0,
            c.in_ok-entry_of.ensures.0,
            c.in_ok-entry_of-2.ensures.0,
            c.in_ok-norm.ensures.0,
            c.in_ok-system.ensures.0,
            ← c.in_ok-product.ensures.1.value_is,
            ← c.same_word.ensures,
            w.if-same_word.true,
            word_is names.norm c.args.entries.now c.in_ok-norm.norm c.in_ok-norm.ensures.1 names.fully_normalized w.may_be.result w.may_be.ensures,
            w.if-may_be.false,
          )
      | else-same_word-via-else-same_word w ↦
          rw (
            c.in_ok-product.ensures.0,
            c.in_ok-entry_of.ensures.0,
            c.in_ok-entry_of-2.ensures.0,
            c.in_ok-norm.ensures.0,
            c.in_ok-system.ensures.0,
            ← c.in_ok-product.ensures.1.value_is,
            ← c.same_word.ensures,
            w.if-same_word.false,
          )
    ]
