-- Step one is refused exactly when 01's table says: the Moon's 3, 4, 5 (`Rattle.bodies.proofs.Table.body_table` says when), then the Sun's, then 6.
use mathlib.Core.Path.{◌≡◌, refl, sym, ap, subst, ◌∙◌}
use mathlib.Core.Bool.{Bool, true, false, cond, ◌&&◌}
use mathlib.Core.List.{List}
use mathlib.Core.Logic.{◌⊎◌, inl, inr, ◌↔◌}
use Prim.Native.Nat.{ℕ, ◌≤◌, ◌<◌}
use native.Mathlib.Omega.{arith}
use lib.Dec.{T}
use lib.Ieee.{Float, nan}
use lib.Ieee.Bits.{is_true}
use lib.Ieee.Fits.{and_i, and_l, and_r}
use lib.ListN.{length, get_or}
use Rattle.limits.specs.Limits.{is_countable}
use Rattle.choices.specs.declared.LoveModel.{LoveModel}
use Rattle.refusals.specs.Told.{Told, told_number, next}
use Rattle.refusals.specs.Told.Told.{accepted, refused}
use Rattle.bodies.specs.declared.Body.{Body}
use Rattle.bodies.specs.declared.Direction.{Direction}
use Rattle.bodies.specs.Bodies.{direction_of, finite_body, in_reach, of_length_one, sighted}
use Rattle.response.specs.declared.Changes.{Changes}
use Rattle.step_one.specs.StepOne.{Counts, floats, all_countable, measured, corrections}
use Rattle.step_one.proofs.Each.{each, all_true}

-- every dC and dS times 10^15 lies strictly between -2^52 and 2^52
pub record Countable (f : Changes) : Type 0 where
  pub in_c : (k : ℕ) → k < length f.c → T (is_countable (get_or f.c k nan))
  pub in-s : (k : ℕ) → k < length f.s → T (is_countable (get_or f.s k nan))

-- the Moon is seen, and the Sun refused
pub record SunRefused (moon sun : Body) (number : ℕ) : Type 0 where
  pub m : Direction
  pub moon_at : sighted moon ≡ accepted m
  pub sun_refused : sighted sun ≡ refused number

-- both are seen, and some dC or dS times 10^15 is out of range
pub record TooLarge (moon sun : Body) (love : LoveModel) : Type 0 where
  pub m : Direction
  pub s : Direction
  pub moon_at : sighted moon ≡ accepted m
  pub sun_at : sighted sun ≡ accepted s
  pub large : Countable (floats moon m sun s love) → ⊥

-- ---- what is told
apart : {A : Type 0} {a : A} {number : ℕ} → accepted a ≡ refused number → ⊥
apart e = let z : ◌≡◌ {A = ℕ} 0 1 = cc in omega arith

-- a body is refused with 3, 4 or 5
sight_number : (b : Body) → told_number (sighted b) < 6
unfolding sighted
sight_number b = go (finite_body b) (in_reach (direction_of b.place).r b.ratio) (of_length_one (direction_of b.place))
  where
    go : (f i o : Bool) → told_number (cond f (cond i (cond o (accepted (direction_of b.place)) (refused 5)) (refused 4)) (refused 3)) < 6
    go true true true = omega arith
    go true true false = omega arith
    go true false o = omega arith
    go false i o = omega arith

-- ---- the test for 6
all_are : (xs : List Float) → ((k : ℕ) → k < length xs → T (is_countable (get_or xs k nan))) → T (all_countable xs)
all_are xs h = subst T (all_true xs (λ k l. is_true _ (h k l))) tt

is-countable : (f : Changes) → T (all_countable f.c && all_countable f.s) ↔ Countable f
is-countable f =
    let c = all_countable f.c in
    let s = all_countable f.s in (
      λ t. record { in_c = each nan f.c (and_l c s t); in-s = each nan f.s (and_r c s t) },
      λ h. and_i c s (all_are f.c h.in_c) (all_are f.s h.in-s),
    )

module _ {A : Type 0} {B : Type 0} (a : A) where
  by_test : (b : Bool) → T b ↔ B → (cond b (accepted a) (refused 6) ≡ refused 6 ↔ (B → ⊥)) × ((number : ℕ) → number < 6 → cond b (accepted a) (refused 6) ≡ refused number → ⊥)
  by_test true p = ((λ e. absurd (apart e), λ h. absurd (h (p.0 tt))), λ number l e. apart e)
  by_test false p = ((λ e. p.1, λ h. refl), λ number l e. omega (arith, ap told_number e))

-- ---- the table
module _ (moon sun : Body) (love : LoveModel) where
  abbrev Table : Told Counts → Type 0
  Table t =
      ((number : ℕ) → number < 6 → t ≡ refused number ↔ ((sighted moon ≡ refused number) ⊎ SunRefused moon sun number))
      × (t ≡ refused 6 ↔ TooLarge moon sun love)

  by_sights : (t u : Told Direction) → sighted moon ≡ t → sighted sun ≡ u → Table (next t (λ m. next u (λ s. measured (floats moon m sun s love) love)))
  unfolding measured
  by_sights (refused a) u M S = (
    λ number l. (
      λ e. inl (M ∙ ap refused (ap told_number e)),
      λ h. elim h [
        | inl r ↦ ap refused (ap told_number (sym M ∙ r))
        | inr r ↦ absurd (apart (sym r.moon_at ∙ M))
      ],
    ),
    (λ e. absurd (omega (arith, ap told_number e, ap told_number M, sight_number moon)), λ h. absurd (apart (sym h.moon_at ∙ M))),
  )
  by_sights (accepted m) (refused b) M S = (
    λ number l. (
      λ e. inr (record { m = m; moon_at = M; sun_refused = S ∙ ap refused (ap told_number e) }),
      λ h. elim h [
        | inl r ↦ absurd (apart (sym M ∙ r))
        | inr r ↦ ap refused (ap told_number (sym S ∙ r.sun_refused))
      ],
    ),
    (λ e. absurd (omega (arith, ap told_number e, ap told_number S, sight_number sun)), λ h. absurd (apart (sym h.sun_at ∙ S))),
  )
  by_sights (accepted m) (accepted s) M S =
      let f = floats moon m sun s love in
      let six = by_test _ (all_countable f.c && all_countable f.s) (is-countable f) in (
        λ number l. (
          λ e. absurd (six.1 number l e),
          λ h. elim h [
            | inl r ↦ absurd (apart (sym M ∙ r))
            | inr r ↦ absurd (apart (sym S ∙ r.sun_refused))
          ],
        ),
        (
          λ e. record { m = m; s = s; moon_at = M; sun_at = S; large = six.0.0 e },
          λ h. six.0.1 (λ k. h.large (same_floats h.m h.s (sym M ∙ h.moon_at) (sym S ∙ h.sun_at) k)),
        ),
      )
    where
      same_floats : (m' s' : Direction) → accepted m ≡ accepted m' → accepted s ≡ accepted s' → Countable (floats moon m sun s love) → Countable (floats moon m' sun s' love)
      same_floats m' s' p q k =
          let e : m ≡ m' = cc in
          let g : s ≡ s' = cc in
          subst (λ (x : Direction). Countable (floats moon x sun s' love)) e (subst (λ (x : Direction). Countable (floats moon m sun x love)) g k)

  -- 3, 4, 5: "the Moon is tested .. before the Sun"; 6: else "a step-one dC or dS times 10^15 .. not strictly between -2^52 and 2^52"
  pub step_one_table :
      ((number : ℕ) → number < 6 → corrections moon sun love ≡ refused number ↔ ((sighted moon ≡ refused number) ⊎ SunRefused moon sun number))
      × (corrections moon sun love ≡ refused 6 ↔ TooLarge moon sun love)
  unfolding corrections
  step_one_table = by_sights (sighted moon) (sighted sun) refl refl

  -- no other number
  pub at_most_six : told_number (corrections moon sun love) ≤ 6
  unfolding corrections measured
  at_most_six = by (sighted moon) (sighted sun) (sight_number moon) (sight_number sun)
    where
      six : (b : Bool) (k : Counts) → told_number (cond b (accepted k) (refused 6)) ≤ 6
      six true k = omega arith
      six false k = omega arith

      by : (t u : Told Direction) → told_number t < 6 → told_number u < 6 → told_number (next t (λ m. next u (λ s. measured (floats moon m sun s love) love))) ≤ 6
      by (refused a) u h g = omega (arith, h)
      by (accepted m) (refused b) h g = omega (arith, g)
      by (accepted m) (accepted s) h g = let f = floats moon m sun s love in six (all_countable f.c && all_countable f.s) _
