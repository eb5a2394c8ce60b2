-- Up or down by the exponent; one of a million or more changes nothing past a million.
use Rattle.std.proofs.Common.{add-zero}
use Rattle.icgem_decimal.proofs.Rounded.{read, capped_up, capped_down}
use Rattle.icgem_decimal.proofs.Numeral.in_places.Goals as goal

pub returns-then-exponent : goal.returns-then-exponent
returns-then-exponent c = λ size e.
    rw (c.if-exponent.true, add-zero)
    (capped_down (read _ _ _ size _ c.args.self.are_digits c.requires.len_bound c.requires.places_bound e) _ c.scaled.ensures)

pub returns-else-exponent : goal.returns-else-exponent
returns-else-exponent c = λ size e.
    rw (c.if-exponent.false, add-zero)
    (capped_up (read _ _ _ size _ c.args.self.are_digits c.requires.len_bound c.requires.places_bound e) _ c.scaled-else-exponent.ensures)
