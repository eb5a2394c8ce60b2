-- By the first byte.
use Rattle.std.proofs.Common.{refl}
use Rattle.icgem_decimal.proofs.Signs.{minus_first}
use Rattle.icgem_decimal.proofs.is_minus.Goals as goal

pub returns : goal.returns
returns c = minus_first _ _ _ _ c.first.ensures.value c.eq.ensures (λ x. refl)
