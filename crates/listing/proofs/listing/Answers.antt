-- 24 bytes have their lines put, and any other number of bytes the word `refused`.
use borrow.Author.Tests.{eq-eqb}
use mathlib.Core.Path.{sym, ap}
use Rattle.text.specs.Text.{ascii}
use Rattle.listing.specs.Listing.{models_text, listing_of}
use Rattle.listing.proofs.Lengths.{refused_listed, listed}
use Rattle.std.proofs.Common.{rules}
use Rattle.listing.proofs.listing.Goals as goal
use Rattle.listing.proofs.listing.Goals.{then-input-eq24, else-input-eq24}

pub returns : goal.returns
unfolding ascii listing_of
returns c =
    let start = c.new-page.ensures in
    elim c.if-input-eq24.branch [
      | then-input-eq24 w ↦ rw w.page-is (listed c.args.input.now _ (models_text w.phases_of.result) (rw (eq-eqb _ _ w.if-input-eq24.true) (ap models_text (sym w.phases_of.ensures))) (search rules) start.bytes_are start.at_start w.put_models.ensures)
      | else-input-eq24 w ↦ rw w.page-is (listed c.args.input.now _ (ascii "refused\n") (refused_listed _ w.if-input-eq24.false) (search rules) start.bytes_are start.at_start w.put_word.ensures)
    ]
