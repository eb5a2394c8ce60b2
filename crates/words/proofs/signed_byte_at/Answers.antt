-- The byte's bits, read as a signed number.
use mathlib.Core.Path.{refl, ◌∙◌}
use mir.Syntax.{w8, w32}
use Rattle.whole.proofs.Machine.{back}
use Rattle.words.proofs.Signs.{signed_is}
use Rattle.words.proofs.signed_byte_at.Goals as goal

pub returns : goal.returns
returns c =
    back w32 c.from.result c.from.type_inv ∙ c.from.ensures ∙ back w8 c.cast_signed.result c.cast_signed.type_inv ∙ c.cast_signed.ensures ∙ signed_is w8 _ (c.type_inv.bytes c.args.at).fits refl
