-- The parts of the word are those of the decimal.
use Rattle.std.proofs.Common.{le_trans}
use Rattle.icgem_decimal.proofs.Units.{parts_most, taken}
use Rattle.icgem_decimal.proofs.in_units.Goals as goal

pub in_places-requires-clause-len_bound : goal.in_places-requires-clause-len_bound
in_places-requires-clause-len_bound c =
    let p = c.in_ok-numeral.ensures.parts in
    le_trans (parts_most (record { before_is = p.0; after_is = p.1 })) c.requires.word_len_bound

pub returns : goal.returns
returns c =
    let p = c.in_ok-numeral.ensures.parts in
    let x = c.in_ok-exponent.ensures.parts in
    taken (record { before_is = p.0; after_is = p.1 }) c.args.places c.in_ok-exponent.ensures.exponent c.in_ok-numeral.ensures.mantissa c.is_minus.ensures
    (rw x.0 at (c.in_places.ensures _ x.1))
