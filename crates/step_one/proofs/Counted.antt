-- What accepted counts have: a size of at most 2^53 each, and nothing for S at order 0.
use mathlib.Core.Path.{◌≡◌, refl, subst}
use mathlib.Core.Bool.{Bool, true, false, ◌&&◌, cond}
use native.Mathlib.Omega.{arith}
use lib.Dec.{T}
use lib.Ieee.Fits.{and_l, and_r}
use lib.IntN.{pos}
use lib.ListN.{get_or}
use Rattle.choices.specs.declared.LoveModel.{LoveModel}
use Rattle.refusals.specs.Told.{Told, next}
use Rattle.refusals.specs.Told.Told.{accepted, refused}
use Rattle.bodies.specs.declared.Body.{Body}
use Rattle.bodies.specs.Bodies.{sighted}
use Rattle.response.specs.declared.Changes.{Changes}
use Rattle.step_one.specs.Inner.{Small}
use Rattle.step_one.proofs.Each.{counts_c_small, counts_s_small}
use Rattle.step_one.proofs.Permanent.{without_small}
use Rattle.step_one.specs.StepOne.{Counts, floats, all_countable, counts_c, counts_s, without_permanent, measured, corrections}

-- what is so of accepted counts
abbrev pub WhereAccepted : (Counts → Type 0) → Told Counts → Type 0
WhereAccepted P (accepted k) = P k
WhereAccepted P (refused number) = Unit {0}

abbrev counted : Changes → LoveModel → Counts
counted f love = record { c = without_permanent love (counts_c f.c); s = counts_s f.s }

module _ (P : Counts → Type 0) where
  by_test : (b : Bool) (k : Counts) → (T b → P k) → WhereAccepted P (cond b (accepted k) (refused 6))
  by_test true k f = f tt
  by_test false k f = tt

  by_next : {A : Type 0} (t : Told A) (f : A → Told Counts) → ((a : A) → WhereAccepted P (f a)) → WhereAccepted P (next t f)
  by_next (accepted a) f h = h a
  by_next (refused number) f h = tt

  where_accepted : (moon sun : Body) (love : LoveModel)
      → ((f : Changes) → T (all_countable f.c && all_countable f.s) → P (counted f love))
      → WhereAccepted P (corrections moon sun love)
  unfolding corrections measured
  where_accepted moon sun love h =
      by_next (sighted moon) _ (λ m. by_next (sighted sun) _ (λ s.
      let f = floats moon m sun s love in by_test (all_countable f.c && all_countable f.s) (counted f love) (h f)))

pub record SmallCounts (k : Counts) : Type 0 where
  pub in_c : Small 53 k.c
  pub in-s : Small 53 k.s

pub accepted_small : (moon sun : Body) (love : LoveModel) (k : Counts) → corrections moon sun love ≡ accepted k → SmallCounts k
accepted_small moon sun love k e =
    subst (WhereAccepted SmallCounts) e (where_accepted SmallCounts moon sun love (λ f t.
    let c = all_countable f.c in
    record {
      in_c = without_small love (counts_c f.c) (record { size = counts_c_small f.c (and_l c _ t) });
      in-s = record { size = λ i. omega (arith, counts_s_small f.s (and_r c _ t) i) };
    }))

-- S at 20, 30 and 40
pub record NoOrderZero (k : Counts) : Type 0 where
  pub s20 : get_or k.s 0 (pos 0) ≡ pos 0
  pub s30 : get_or k.s 3 (pos 0) ≡ pos 0
  pub s40 : get_or k.s 7 (pos 0) ≡ pos 0

pub no_order_zero : (moon sun : Body) (love : LoveModel) → WhereAccepted NoOrderZero (corrections moon sun love)
unfolding counts_s
no_order_zero moon sun love = where_accepted NoOrderZero moon sun love (λ f t. record { s20 = refl; s30 = refl; s40 = refl })
