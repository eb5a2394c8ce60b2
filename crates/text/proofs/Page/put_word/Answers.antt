-- The bytes of the part are the word's.
use mathlib.Core.Path.{refl, ◌∙◌}
use Rattle.text.proofs.Puts.{puts_part}
use Rattle.text.proofs.Page.put_word.Goals as goal

pub returns : goal.returns
returns c = puts_part c.args.self.now _ _ _ c.requires refl (c.copy_from_slice.ensures.after ∙ c.as_bytes.ensures.value) _ refl refl refl
