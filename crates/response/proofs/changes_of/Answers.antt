-- Each place has its own change: those of degree 4 and the zeros of order 0 are the definition's as they stand.
use mathlib.Core.List.{[], ◌∷◌}
use lib.Ieee.{of_bits, round}
use Rattle.response.specs.Response.{d_c4, d_s4, unused, changes}
use Rattle.response.proofs.changes_of.Goals as goal

pub returns : goal.returns
unfolding changes of_bits round
returns c =
    let k = c.args.k in
    let x = c.args.x in
    λ i. record {
      c =
          c.d_c.ensures i ∷ c.d_c-2.ensures i ∷ c.d_c-3.ensures i
          ∷ c.d_c-4.ensures i ∷ c.d_c-5.ensures i ∷ c.d_c-6.ensures i ∷ c.d_c-7.ensures i
          ∷ d_c4 k.plus0 x.t20 ∷ d_c4 k.plus1 x.t21 ∷ d_c4 k.plus2 x.t22 ∷ [];
      s =
          unused ∷ c.d_s.ensures i ∷ c.d_s-2.ensures i
          ∷ unused ∷ c.d_s-3.ensures i ∷ c.d_s-4.ensures i ∷ c.d_s-5.ensures i
          ∷ unused ∷ d_s4 k.plus1 x.t21 ∷ d_s4 k.plus2 x.t22 ∷ [];
    }
