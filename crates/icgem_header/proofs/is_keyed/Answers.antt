-- A line whose first word is the key is no shorter than the key, and begins with it behind blanks.
use Rattle.std.proofs.Common.{◌++◌, List, ℕ, length, true≢false, ap, sym, rules, arith, ◌∙◌}
use Rattle.std.proofs.lemmas.Slice.Eq.{starts_is}
use Rattle.std.proofs.lemmas.Bool.Decides.{Decides-eqb}
use Rattle.icgem_decimal.proofs.Tests.{not_so}
use Rattle.icgem_words.specs.Words.{is_blank}
use Rattle.icgem_words.proofs.Joined.{first_short}
use Rattle.icgem_words.proofs.Read.{first_begins}
use Rattle.icgem_words.proofs.Runs.{run_of}
use Rattle.icgem_words.proofs.Same.{same_equal}
use Rattle.icgem_header.proofs.Words.{part_rest}
use Rattle.icgem_header.proofs.is_keyed.Goals as goal

pub returns-then-line-key : goal.returns-then-line-key
returns-then-line-key c =
    sym (not_so _ (λ same. absurd (omega (arith, c.if-line-key.true, first_short c.args.line.now, ap length (same_equal _ _ same)))))

pub returns-else-starts_with : goal.returns-else-starts_with
returns-else-starts_with c =
    let begins = first_begins (run_of is_blank c.run_end-from.ensures (λ k b e. search rules)) in
    let starts = starts_is Decides-eqb _ _ _ c.starts_with.ensures.value in
    c.if-starts_with.false
    ∙ sym (not_so _ (λ same. true≢false (sym (starts.1 begins.0 (part_rest c.args.line.now c.run_end-from.result ∙ begins.1 ∙ ap (λ (word : List ℕ). word ++ begins.0) (same_equal _ _ same))) ∙ c.if-starts_with.false)))
