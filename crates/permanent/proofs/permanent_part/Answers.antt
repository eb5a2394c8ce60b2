-- Each case is its constant.
use mathlib.Core.Path.{refl}
use Rattle.permanent.specs.Systems.{permanent_part}
use Rattle.permanent.proofs.permanent_part.Goals as goal

pub returns-in-Elastic : goal.returns-in-Elastic
unfolding permanent_part
returns-in-Elastic c = rw c.in-Elastic.is refl

pub returns-in-Anelastic : goal.returns-in-Anelastic
unfolding permanent_part
returns-in-Anelastic c = rw c.in-Anelastic.is refl
