-- The digits but the last are put before it, by the same call on a tenth of the number.
use Rattle.std.proofs.Common.{[], ◌∷◌, ◌≡◌, ◌+◌, ◌-◌, ◌/◌, ◌%◌, length, drop, refl, sym, ap, ◌∙◌, arith, slice_set, rules}
use Rattle.std.proofs.lemmas.List.{drop-set, drop_all, nil_from_length}
use Rattle.text.specs.Text.{digit, last_digits}
use Rattle.text.proofs.Columns.{no_digits, last_more}
use Rattle.text.proofs.+put_digits.Goals as goal

pub returns-then-text-gt0 : goal.returns-then-text-gt0
returns-then-text-gt0 t c =
    let l = c.args.text.now in
    let k = length l - 1 in
    let d = digit (c.args.n % 10) in
    let last : drop k (slice_set l k d) ≡ d ∷ [] =
    drop-set l k d (omega arith) ∙ ap (λ s. d ∷ s) (drop_all (k + 1) l (omega arith)) in
    let front : c.put_digits.new.text ≡ last_digits k (c.args.n / 10) = search (rules, c.put_digits.ensures) in
    rw (last_more (length l) c.args.n (omega arith), front, last) refl

pub returns-else-text-gt0 : goal.returns-else-text-gt0
returns-else-text-gt0 t c =
    nil_from_length c.args.text.now (omega arith) ∙ sym (no_digits (length c.args.text.now) c.args.n (omega arith))
