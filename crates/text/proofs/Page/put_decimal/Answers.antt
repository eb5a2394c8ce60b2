-- All the digits that it has are its last ones.
use Rattle.std.proofs.Common.{arith}
use Rattle.text.proofs.Columns.{last_all}
use Rattle.text.proofs.Page.put_decimal.Goals as goal

pub put_last-requires : goal.put_last-requires
put_last-requires c = omega (arith, c.requires, c.digits_in.ensures)

pub returns : goal.returns
returns c =
    let put = rw (c.digits_in.ensures, last_all c.args.n) at c.put_last.ensures in
    put
