-- Each count is read where the section before it ends.
use Rattle.sheet.proofs.Offsets.{laid}
use Rattle.sheet.proofs.Layout.of.Goals as goal

pub returns : goal.returns
returns c = (laid c.args.bytes.now _ _ _ c.half_at-lines.ensures.0 c.half_at-tides.ensures.0 c.half_at-places.ensures.0, c.half_at-lines.ensures.1)
