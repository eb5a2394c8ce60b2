-- Document 01, "Step one": the corrections of the Moon and the Sun in counts, with refusals 3 to 6.
use Rattle.std.specs.Prelude.{Bool, cond, ◌&&◌, List, [], ◌∷◌, map, ℕ, Float, ℤ, pos, ◌-ℤ◌, get_or, set}
use Rattle.std.specs.Float.{nan}
use Rattle.std.specs.List.{list_all}
use Rattle.choices.specs.declared.LoveModel.{LoveModel}
use Rattle.refusals.specs.Told.{Told, next}
use Rattle.refusals.specs.Told.Told.{accepted, refused}
use Rattle.limits.specs.Limits.{is_countable}
use Rattle.field.specs.Field.{place}
use Rattle.permanent.specs.Systems.{permanent_part}
use Rattle.count.specs.Count.{count}
use Rattle.constants.specs.Love.{loves, loves3}
use Rattle.bodies.specs.declared.Body.{Body}
use Rattle.bodies.specs.declared.Direction.{Direction}
use Rattle.bodies.specs.Bodies.{sighted}
use Rattle.potential.specs.Potential.{terms, shared}
use Rattle.response.specs.declared.Changes.{Changes}
use Rattle.response.specs.Response.{changes}
use Rattle.step_one.specs.declared.Corrections.{Corrections}

-- the places of degree 2, 3 and 4 that step one corrects
unfoldable pub places : List ℕ
unfolding place
places =
    place 2 0 ∷ place 2 1 ∷ place 2 2 ∷ place 3 0 ∷ place 3 1 ∷ place 3 2 ∷ place 3 3 ∷ place 4 0 ∷ place 4 1 ∷ place 4 2 ∷ []

-- what is added at each of them, to C and to S
abbrev pub Counts : Type 0
Counts = Corrections

-- dC and dS times 10^15: the Moon at m, the Sun at s
unfoldable pub floats : Body → Direction → Body → Direction → LoveModel → Changes
floats moon m sun s love = changes (loves love) loves3 (shared (terms moon.ratio m) (terms sun.ratio s))

-- each strictly between -2^52 and 2^52
unfoldable pub all_countable : List Float → Bool
all_countable xs = list_all is_countable xs

-- "nearest count of the float's exact value"
unfoldable pub counts_c : List Float → List ℤ
counts_c xs = map count xs

abbrev count_at : List Float → ℕ → ℤ
count_at xs k = count (get_or xs k nan)

-- "For m = 0 only C is used."
unfoldable pub counts_s : List Float → List ℤ
counts_s xs =
    pos 0 ∷ count_at xs 1 ∷ count_at xs 2 ∷ pos 0 ∷ count_at xs 4 ∷ count_at xs 5 ∷ count_at xs 6 ∷ pos 0 ∷ count_at xs 8 ∷ count_at xs 9 ∷ []

-- "From C20 the permanent part is then subtracted"
unfoldable pub without_permanent : LoveModel → List ℤ → List ℤ
without_permanent love by = set by 0 (get_or by 0 (pos 0) -ℤ permanent_part love)

-- 6: "a step-one dC or dS times 10^15, before the permanent part, not strictly between -2^52 and 2^52"
unfoldable pub measured : Changes → LoveModel → Told Counts
measured f love =
    cond (all_countable f.c && all_countable f.s) (accepted (record { c = without_permanent love (counts_c f.c); s = counts_s f.s })) (refused 6)

-- "the Moon is tested for 3, 4, 5 before the Sun"
unfoldable pub corrections : Body → Body → LoveModel → Told Counts
corrections moon sun love = next (sighted moon) (λ m. next (sighted sun) (λ s. measured (floats moon m sun s love) love))
