-- The first piece of a text, and what stands after it.
use Rattle.std.proofs.Common.{◌≡◌, ℕ, zero, suc, ◌+◌, ◌-◌, ◌<◌, ◌≤◌, Option, Some, None, Bool, true, false, eqb, List, [], ◌∷◌, length, get_or, take, drop, sym, refl, ap, ◌∙◌, arith, eqb-true, length-drop, take_all, drop_of_length-le}
use Rattle.std.specs.Option.{unwrap_or}
use denote.Ref.{Bor}
use lib.Seq.{length-take-le}
use Rattle.whole.proofs.Tests.{and_left, and_right}
use Rattle.icgem_words.specs.Inner.{RunTo}
use Rattle.icgem_words.specs.Words.{on_first, pieces}
use Rattle.icgem_decimal.specs.Decimal.{is_digit, all_digits, unsigned}
use Rattle.icgem_decimal.specs.Inner.{before, after, Parted}
use Rattle.icgem_decimal.proofs.Tests.{either}

on-first : (b : ℕ) (l : List (List ℕ)) → get_or (on_first b l) 0 [] ≡ b ∷ get_or l 0 []
unfolding on_first
on-first b [] = refl
on-first b (x ∷ l) = refl

on_second : (b : ℕ) (l : List (List ℕ)) → get_or (on_first b l) 1 [] ≡ get_or l 1 []
unfolding on_first
on_second b [] = refl
on_second b (x ∷ l) = refl

on_length : (b : ℕ) (l : List (List ℕ)) → 1 ≤ length l → length (on_first b l) ≡ length l
unfolding on_first
on_length b [] h = absurd (omega arith)
on_length b (x ∷ l) h = refl

module _ (parts : ℕ → Bool) where
  -- a text starts with a byte that parts it, or not
  here : (b : ℕ) (t : List ℕ) → parts b ≡ true → pieces parts (b ∷ t) ≡ [] ∷ pieces parts t
  unfolding pieces
  here b t e = rw e

  further : (b : ℕ) (t : List ℕ) → parts b ≡ false → pieces parts (b ∷ t) ≡ on_first b (pieces parts t)
  unfolding pieces
  further b t e = rw e

  pub before_here : (b : ℕ) (t : List ℕ) → parts b ≡ true → before parts (b ∷ t) ≡ []
  before_here b t e = ap (λ (l : List (List ℕ)). get_or l 0 []) (here b t e)

  pub before_further : (b : ℕ) (t : List ℕ) → parts b ≡ false → before parts (b ∷ t) ≡ b ∷ before parts t
  before_further b t e = ap (λ (l : List (List ℕ)). get_or l 0 []) (further b t e) ∙ on-first b (pieces parts t)

  after_here : (b : ℕ) (t : List ℕ) → parts b ≡ true → after parts (b ∷ t) ≡ t
  after_here b t e = ap (λ (l : List ℕ). drop (length l) t) (before_here b t e)

  after_further : (b : ℕ) (t : List ℕ) → parts b ≡ false → after parts (b ∷ t) ≡ after parts t
  after_further b t e = ap (λ (l : List ℕ). drop (length l) t) (before_further b t e)

  pub some : (text : List ℕ) → 1 ≤ length (pieces parts text)
  unfolding pieces
  some [] = omega arith
  some (b ∷ t) = either (parts b) (λ e. rw (here b t e) (omega arith)) (λ e. rw (further b t e, on_length b (pieces parts t) (some t)) (some t))

  further_length : (b : ℕ) (t : List ℕ) → parts b ≡ false → length (pieces parts (b ∷ t)) ≡ length (pieces parts t)
  further_length b t e = ap length (further b t e) ∙ on_length b (pieces parts t) (some t)

  -- the first piece is what stands first
  pub before_take : (text : List ℕ) → take (length (before parts text)) text ≡ before parts text
  unfolding pieces
  before_take [] = refl
  before_take (b ∷ t) =
      either (parts b) (λ e. rw (before_here b t e)) (λ e. rw (before_further b t e) (ap (λ (l : List ℕ). b ∷ l) (before_take t)))

  pub before_most : (text : List ℕ) → length (before parts text) ≤ length text
  unfolding pieces
  before_most [] = omega arith
  before_most (b ∷ t) =
      either (parts b) (λ e. rw (before_here b t e) (omega arith)) (λ e. rw (before_further b t e) (omega (arith, before_most t)))

  -- a byte parts the text, or none does
  pub one_more : (text : List ℕ) → length (before parts text) < length text → length (pieces parts text) ≡ suc (length (pieces parts (after parts text)))
  one_more [] h = absurd (omega arith)
  one_more (b ∷ t) h =
      either (parts b) (λ e. ap length (here b t e) ∙ ap (λ (l : List ℕ). suc (length (pieces parts l))) (sym (after_here b t e)))
      (λ e. further_length b t e ∙ one_more t (omega (arith, ap length (before_further b t e)))
      ∙ ap (λ (l : List ℕ). suc (length (pieces parts l))) (sym (after_further b t e)))

  pub no_more : (text : List ℕ) → length text ≤ length (before parts text) → length (pieces parts text) ≡ 1
  unfolding pieces
  no_more [] h = refl
  no_more (b ∷ t) h =
      either (parts b) (λ e. absurd (omega (arith, ap length (before_here b t e))))
      (λ e. further_length b t e ∙ no_more t (omega (arith, ap length (before_further b t e))))

  -- the second piece is the first of what stands after
  pub second : (text : List ℕ) → get_or (pieces parts text) 1 [] ≡ before parts (after parts text)
  unfolding pieces
  second [] = refl
  second (b ∷ t) =
      either (parts b) (λ e. ap (λ (l : List (List ℕ)). get_or l 1 []) (here b t e) ∙ ap (before parts) (sym (after_here b t e)))
      (λ e. ap (λ (l : List (List ℕ)). get_or l 1 []) (further b t e) ∙ on_second b (pieces parts t) ∙ second t ∙ ap (before parts) (sym (after_further b t e)))

  -- one piece is the text
  pub sole : (text : List ℕ) → length (pieces parts text) ≡ 1 → before parts text ≡ text
  unfolding pieces
  sole [] h = refl
  sole (b ∷ t) h =
      either (parts b) (λ e. absurd (omega (arith, h, ap length (here b t e), some t)))
      (λ e. before_further b t e ∙ ap (λ (l : List ℕ). b ∷ l) (sole t (sym (further_length b t e) ∙ h)))

  -- digits part nothing
  pub digits_sole : ((b : ℕ) → is_digit b ≡ true → parts b ≡ false) → (text : List ℕ) → all_digits text ≡ true → length (pieces parts text) ≡ 1
  unfolding pieces all_digits
  digits_sole D [] h = refl
  digits_sole D (b ∷ t) h =
      further_length b t (D b (and_left (is_digit b) (all_digits t) h)) ∙ digits_sole D t (and_right (is_digit b) (all_digits t) h)

  -- nor do signs
  pub sign_sole : parts 43 ≡ false → parts 45 ≡ false → (text : List ℕ) → length (pieces parts text) ≡ length (pieces parts (unsigned text))
  unfolding unsigned
  sign_sole P M [] = refl
  sign_sole P M (b ∷ t) =
      either (eqb b 43) (λ e. rw e (further_length b t (ap parts (eqb-true b 43 e) ∙ P)))
      (λ p. either (eqb b 45) (λ e. rw (p, e) (further_length b t (ap parts (eqb-true b 45 e) ∙ M))) (λ e. rw (p, e)))

  -- the first piece ends at the first byte that parts the text, or at its end
  pub before_length : (text : List ℕ) (n : ℕ) → n ≤ length text → ((k : ℕ) → k < n → parts (get_or text k 0) ≡ false) → (n < length text → parts (get_or text n 0) ≡ true)
      → length (before parts text) ≡ n
  unfolding pieces
  before_length [] n h f s = omega arith
  before_length (b ∷ t) zero h f s = ap length (before_here b t (s (omega arith)))
  before_length (b ∷ t) (suc n) h f s =
      ap length (before_further b t (f 0 (omega arith)))
      ∙ ap suc (before_length t n (omega arith) (λ k g. f (suc k) (omega arith)) (λ g. s (omega arith)))

-- ---- a text parted
module _ {parts : ℕ → Bool → Type 0} {text : List ℕ} where
  pub parted_at : {end : ℕ} {rest : Bor (List ℕ)} → RunTo parts text 0 end → end < length text → rest.now ≡ take (length text - (end + 1)) (drop (end + 1) text)
      → Parted parts text (take end text) (Some rest)
  parted_at {end} {rest} r h e =
      let l : length (take end text) ≡ end = length-take-le end text (omega arith) in
      let past : end + 1 ≡ suc (length (take end text)) = omega arith in
      record {
        run = rw l r;
        head_is = ap (λ (n : ℕ). take n text) (sym l);
        rest_is =
            (omega arith, e ∙ take_all (length text - (end + 1)) (drop (end + 1) text) (omega (arith, length-drop (end + 1) text)) ∙ ap (λ (n : ℕ). drop n text) past);
      }

  module _ {head : List ℕ} {rest : Option (Bor (List ℕ))} (p : Parted parts text head rest) (test : ℕ → Bool)
      (is : (k : ℕ) (b : Bool) → parts (get_or text k 0) b → b ≡ test (get_or text k 0)) where
    head_length : length (before test text) ≡ length head
    head_length = before_length test text (length head) p.run.within (λ k g. sym (is k false (p.run.passed k (omega arith) g))) (λ g. sym (is _ true (p.run.stops g)))

    pub before_is : head ≡ before test text
    before_is = p.head_is ∙ ap (λ (n : ℕ). take n text) (sym head_length) ∙ before_take test text

    pub rest_none : rest ≡ None → length text ≤ length (before test text)
    rest_none e = omega (arith, head_length, rw e at p.rest_is)

    pub rest_some : {r : Bor (List ℕ)} → rest ≡ Some r → (length (before test text) < length text) × (r.now ≡ after test text)
    rest_some e = let h = rw e at p.rest_is in (omega (arith, head_length, h.0), h.1 ∙ ap (λ (n : ℕ). drop (suc n) text) (sym head_length))

    -- what stands behind, empty where nothing does
    pub rest_or : (none : Bor (List ℕ)) → none.now ≡ [] → (unwrap_or rest none).now ≡ after test text
    rest_or none e = by_rest rest refl
      where
        by_rest : (r : Option (Bor (List ℕ))) → rest ≡ r → (unwrap_or r none).now ≡ after test text
        by_rest None q = let past : length text ≤ suc (length (before test text)) = omega (arith, rest_none q) in e ∙ sym (drop_of_length-le text past)
        by_rest (Some r) q = (rest_some q).1
