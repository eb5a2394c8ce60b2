-- One of the names is used.
use mathlib.Core.Path.{◌∙◌}
use Rattle.std.proofs.lemmas.Result.{MatchResult-from_err}
use Rattle.text.specs.Text.{ascii}
use Rattle.icgem_header.proofs.Known.{long_twice, plain_twice, long_used, plain_used, both_used, none_used}
use Rattle.icgem_header.proofs.constant_word.Goals as goal
use Rattle.icgem_header.proofs.constant_word.Goals.{in_default-via-in-Some+in_default, in_default-via-in-None+in_default}

pub returns-in_err-long : goal.returns-in_err-long
unfolding ascii
returns-in_err-long c = MatchResult-from_err _ _ _ c.from_residual.ensures.0 (λ _. long_twice _ c.in_err-long.ensures)

pub returns-in_err-plain : goal.returns-in_err-plain
unfolding ascii
returns-in_err-plain c = MatchResult-from_err _ _ _ c.from_residual-in_err-plain.ensures.0 (λ _. plain_twice _ c.in_err-plain.ensures)

pub returns-in-Some-None : goal.returns-in-Some-None
unfolding ascii
returns-in-Some-None c =
    let long = rw c.in-Some-None.is-0 at c.in_ok-long.ensures in
    let plain = rw c.in-Some-None.is-1 at c.in_ok-plain.ensures in
    let used = long_used _ long.0 plain.0 long.1.0 plain.1 in
    (used.0, record { short = long.1.1.short; value_is = long.1.1.value_is ∙ used.1 })

pub returns-in-None-Some : goal.returns-in-None-Some
unfolding ascii
returns-in-None-Some c =
    let long = rw c.in-None-Some.is-0 at c.in_ok-long.ensures in
    let plain = rw c.in-None-Some.is-1 at c.in_ok-plain.ensures in
    let used = plain_used _ long.0 plain.0 long.1 plain.1.0 in
    (used.0, record { short = plain.1.1.short; value_is = plain.1.1.value_is ∙ used.1 })

pub returns-in_default : goal.returns-in_default
unfolding ascii
returns-in_default c =
    elim c.in_default.branch [
      | in_default-via-in-Some+in_default w ↦
          both_used _ (rw w.in_default.is-0 at c.in_ok-long.ensures).1.0 (rw w.in_default.is-1 at c.in_ok-plain.ensures).1.0
      | in_default-via-in-None+in_default w ↦
          none_used _ (rw w.in_default.is-0 at c.in_ok-long.ensures).1 (rw w.in_default.is-1 at c.in_ok-plain.ensures).1
    ]
