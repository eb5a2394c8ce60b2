-- By the first byte.
use Rattle.std.proofs.Common.{sym, ◌∙◌}
use Rattle.icgem_decimal.proofs.Signs.{unsigned_none, unsigned_sign, unsigned_bare}
use Rattle.icgem_decimal.proofs.without_sign.Goals as goal

pub returns-in-len1-up : goal.returns-in-len1-up
returns-in-len1-up c = unsigned_sign _ c.in-len1-up.len_at_least (sym c.is_sign.ensures ∙ c.if-is_sign.true)

pub returns-in_default : goal.returns-in_default
returns-in_default c = unsigned_none _ c.in_default.len_below

pub returns-in_default-2 : goal.returns-in_default-2
returns-in_default-2 c = unsigned_bare _ (sym c.is_sign.ensures ∙ c.if-is_sign.false)
