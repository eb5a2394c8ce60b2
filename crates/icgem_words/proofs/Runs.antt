-- Bytes that pass a test, one after the other, as a loop goes along them.
use mathlib.Core.Path.{◌≡◌, sym, ◌∙◌}
use mathlib.Core.Bool.{Bool, true, false, not}
use mathlib.Core.List.{List, [], ◌∷◌, ◌++◌}
use Prim.Native.Nat.{ℕ, zero, suc, ◌+◌, ◌-◌, ◌≤◌, ◌<◌}
use native.Mathlib.Omega.{arith}
use lib.ListN.{length, get_or, take, drop, length-drop, take-append-drop}
use lib.Seq.{take-suc, get_or-drop, drop-drop}
use Rattle.whole.proofs.Tests.{and_left, and_right}
use Rattle.icgem_words.specs.Inner.{part, all_of, RunTo, Run}

-- ---- parts of a text
-- a text from a place on, cut at another
pub cut : (text : List ℕ) (from to : ℕ) → from ≤ to → drop from text ≡ part from to text ++ drop to text
cut text from to h =
    let e : from + (to - from) ≡ to = omega arith in
    sym (take-append-drop (to - from) (drop from text)) ∙ rw (drop-drop, e)

-- ---- bytes that all pass
module _ (test : ℕ → Bool) where
  pub all_head : (b : ℕ) (text : List ℕ) → all_of test (b ∷ text) ≡ true → test b ≡ true
  unfolding all_of
  all_head b text h = and_left (test b) (all_of test text) h

  pub all_tail : (b : ℕ) (text : List ℕ) → all_of test (b ∷ text) ≡ true → all_of test text ≡ true
  unfolding all_of
  all_tail b text h = and_right (test b) (all_of test text) h

  pub all_one : (b : ℕ) → test b ≡ true → all_of test (b ∷ []) ≡ true
  unfolding all_of
  all_one b h = rw h

  pub all_append : (a b : List ℕ) → all_of test a ≡ true → all_of test b ≡ true → all_of test (a ++ b) ≡ true
  unfolding all_of
  all_append [] b h g = g
  all_append (x ∷ a) b h g = rw (all_head x a h, all_append a b (all_tail x a h) g)

-- ---- a run
all_part : (test : ℕ → Bool) (text : List ℕ) (from n : ℕ) → from + n ≤ length text → ((k : ℕ) → from ≤ k → k < from + n → test (get_or text k 0) ≡ true)
    → all_of test (take n (drop from text)) ≡ true
unfolding all_of
all_part test text from zero h f = λ i. true
all_part test text from (suc n) h f =
    let p = all_part test text from n (omega arith) (λ k l g. f k l (omega arith)) in
    rw (take-suc (drop from text) n 0 (omega (arith, length-drop from text)), get_or-drop)
    (all_append test (take n (drop from text)) (get_or text (from + n) 0 ∷ []) p (all_one test (get_or text (from + n) 0) (f (from + n) (omega arith) (omega arith))))

-- a run ends where a test answers that it does
pub run_of : {ends : ℕ → Bool → Type 0} {text : List ℕ} {from to : ℕ} (test : ℕ → Bool) → RunTo ends text from to
    → ((k : ℕ) (b : Bool) → ends (get_or text k 0) b → not b ≡ test (get_or text k 0)) → Run test text from to
run_of test r is =
    record {
      low = r.low;
      within = r.within;
      passed = all_part test _ _ _ (omega (arith, r.low, r.within)) (λ k l g. sym (is k false (r.passed k l (omega (arith, r.low)))));
      stops = λ h. sym (is _ true (r.stops h));
    }
