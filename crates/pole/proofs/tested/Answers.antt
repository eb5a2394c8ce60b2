-- By both tests together, which are the definition's.
use mathlib.Core.Path.{◌≡◌, refl, sym, ap, ap₂, ◌∙◌}
use mathlib.Core.Bool.{◌&&◌}
use mir.Facts.{to_z-of_z}
use Rattle.limits.specs.Limits.{is_pole_offset}
use Rattle.pole.specs.Pole.{offsets_refusal}
use Rattle.pole.proofs.tested.Goals as goal
use Rattle.pole.proofs.tested.Goals.{After-is_pole_offset-2}

tests : (c : After-is_pole_offset-2) → let s = c.before.before in (is_pole_offset s.args.xp && is_pole_offset s.args.yp) ≡ (c.is_pole_offset.result && c.is_pole_offset-2.result)
tests c =
    let s = c.before.before in
    sym (ap₂ ◌&&◌
    (c.is_pole_offset.ensures ∙ ap is_pole_offset (to_z-of_z s.ranges.xp))
    (c.is_pole_offset-2.ensures ∙ ap is_pole_offset (to_z-of_z s.ranges.yp)))

pub returns-then-is_pole_offset : goal.returns-then-is_pole_offset
unfolding offsets_refusal
returns-then-is_pole_offset c = rw (tests (goal.at.returns-then-is_pole_offset c).After-is_pole_offset-2 ∙ c.if-is_pole_offset.true) refl

pub returns-else-is_pole_offset : goal.returns-else-is_pole_offset
unfolding offsets_refusal
returns-else-is_pole_offset c = rw (tests (goal.at.returns-else-is_pole_offset c).After-is_pole_offset-2 ∙ c.if-is_pole_offset.false) refl
