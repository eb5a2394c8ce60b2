-- What is known of the first line with a key, as a loop goes along the lines before it.
use mathlib.Core.Path.{◌≡◌, refl, sym, ap, subst, ◌∙◌}
use mathlib.Core.Bool.{true, false}
use mathlib.Core.List.{List, [], ◌∷◌, ◌++◌, append-nil, append_assoc}
use Prim.Native.Nat.{ℕ, ◌+◌, ◌-◌, ◌≤◌, ◌<◌, min}
use native.Mathlib.Numerals.{add-one}
use native.Mathlib.Omega.{arith}
use borrow.Author.Tests.{not-false, ltb-true, ltb-false}
use lib.Dec.{T, ltb}
use lib.ListN.{length, get_or, take, drop, length-drop, take-append-drop}
use lib.Seq.{take_all, take-suc, take-add, length-take-le}
use Rattle.icgem_decimal.proofs.Tests.{either}
use Rattle.icgem_words.specs.Inner.{part, ahead, in_line, Run}
use Rattle.icgem_words.specs.Words.{words, worded, same_word, nonempty, pieces}
use Rattle.icgem_words.proofs.Joined.{worded_then}
use Rattle.icgem_words.proofs.Read.{worded_from, worded_past}
use Rattle.icgem_file.specs.Header.{Word, Line, keyed, has, before, after, first}
use Rattle.icgem_header.specs.declared.Cut.{Cut}
use Rattle.icgem_header.specs.Inner.{CutAt}
use Rattle.icgem_header.proofs.Words.{part_rest}

-- ---- a line, where it has a word, in front of others
-- one without the key changes nothing but what stands before the first that has it
record Passes (key : Word) (line : Line) (others lines : List Line) : Type 0 where
  has_is : has key lines ≡ has key others
  before_is : before key lines ≡ ahead line [] ++ before key others
  first_is : first key lines ≡ first key others
  after_is : after key lines ≡ after key others

passes : (key : Word) (line : Line) (others : List Line) → keyed key line ≡ false → Passes key line others (ahead line others)
unfolding has before first after
passes key [] others e = record { has_is = refl; before_is = refl; first_is = refl; after_is = refl }
passes key (word ∷ more) others e = record { has_is = rw e; before_is = rw e; first_is = rw e; after_is = rw e }

-- one with the key is the first of them
record Opens (key : Word) (line : Line) (others lines : List Line) : Type 0 where
  has_is : has key lines ≡ true
  before_is : before key lines ≡ []
  first_is : first key lines ≡ line
  after_is : after key lines ≡ others

no_key_lem : (key : Word) → 0 < length key → same_word [] key ≡ false
unfolding same_word
no_key_lem [] h = absurd (omega arith)
no_key_lem (b ∷ key) h = refl

opens : (key : Word) (line : Line) (others : List Line) → 0 < length key → keyed key line ≡ true → Opens key line others (ahead line others)
unfolding has before first after
opens key [] others some e = absurd (subst T (sym e ∙ no_key_lem key some) tt)
opens key (word ∷ more) others some e = record { has_is = rw e; before_is = rw e; first_is = rw e; after_is = rw e }

ahead_joined : {A : Type 0} (piece : List A) (others : List (List A)) → ahead piece others ≡ ahead piece [] ++ others
ahead_joined [] others = refl
ahead_joined (x ∷ piece) others = refl

-- the place after a line's end, where the text goes on
abbrev pub past_end : ℕ → ℕ → ℕ
past_end end size = min (end + 1) size

-- ---- a place that lines without the key lead to
-- a line starts at the place: what stands before it has its own lines, whatever follows
abbrev Splits : List ℕ → ℕ → Type 0
Splits text at = (rest : List ℕ) → worded (take at text ++ rest) ≡ worded (take at text) ++ worded rest

pub record Reached (key text : List ℕ) (at : ℕ) : Type 0 where
  pub within : at ≤ length text
  pub has_is : has key (worded text) ≡ has key (worded (drop at text))
  pub before_is : before key (worded text) ≡ worded (take at text) ++ before key (worded (drop at text))
  pub first_is : first key (worded text) ≡ first key (worded (drop at text))
  pub after_is : after key (worded text) ≡ after key (worded (drop at text))
  pub splits : at < length text → Splits text at

pub reached_start : (key text : List ℕ) → Reached key text 0
unfolding worded pieces nonempty
reached_start key text = record {
  within = omega arith;
  has_is = refl;
  before_is = refl;
  first_is = refl;
  after_is = refl;
  splits = λ h rest. refl;
}

module _ {text : List ℕ} {at end : ℕ} (r : Run in_line text at end) where
  abbrev line : List ℕ
  line = part at end text

  abbrev next : ℕ
  next = past_end end (length text)

  with_end : end < length text → take (end + 1) text ≡ take at text ++ (line ++ get_or text end 0 ∷ [])
  with_end h =
      let b = get_or text end 0 ∷ [] in
      let e : at + (end - at) ≡ end = omega (arith, r.low) in
      let f = sym (ap (λ (n : ℕ). take n text) e) ∙ take-add at (end - at) text in
      rw (add-one, take-suc text end 0 h) (ap (λ (l : List ℕ). l ++ b) f ∙ append_assoc (take at text) line b)

  next_is : end < length text → next ≡ end + 1
  next_is h = omega arith

  from_line : worded (drop at text) ≡ ahead (words line) (worded (drop next text))
  from_line =
      worded_from r
      ∙ ap (ahead (words line))
      (either (ltb end (length text))
      (λ e. rw (next_is (ltb-true end (length text) e)))
      (λ e. let h = ltb-false end (length text) e in worded_past text (end + 1) (omega arith) ∙ sym (worded_past text next (omega arith))))

  -- the lines before the next: those before the line, and the line
  module _ (splits : Splits text at) where
    abbrev lines : List Line
    lines = worded (take at text) ++ ahead (words line) []

    regroup : (rest : List ℕ) → end < length text → worded (take (end + 1) text ++ rest) ≡ lines ++ worded rest
    regroup rest h =
        let b = get_or text end 0 in
        ap worded (rw (with_end h, append_assoc (take at text), append_assoc line (b ∷ []) rest) refl)
        ∙ splits (line ++ b ∷ rest)
        ∙ ap (λ (l : List Line). worded (take at text) ++ l)
        (worded_then line r.passed b rest (not-false _ (r.stops h)) ∙ ahead_joined (words line) (worded rest))
        ∙ sym (append_assoc (worded (take at text)) (ahead (words line) []) (worded rest))

    before_next : worded (take next text) ≡ lines
    unfolding worded pieces nonempty
    before_next =
        either (ltb end (length text))
        (λ e.
        let h = ltb-true end (length text) e in
        rw (next_is h, ← append-nil (take (end + 1) text)) (regroup [] h ∙ append-nil lines))
        (λ e.
        let h = ltb-false end (length text) e in
        ap worded (take_all next text (omega arith) ∙ sym (take-append-drop at text)) ∙ splits (drop at text)
        ∙ ap (λ (l : List Line). worded (take at text) ++ l) (worded_from r ∙ ap (ahead (words line)) (worded_past text (end + 1) (omega arith))))

    splits_next : next < length text → Splits text next
    splits_next h rest = rw before_next (rw (next_is (omega arith)) (regroup rest (omega arith)))

module _ {key text : List ℕ} {at end : ℕ} (p : Reached key text at) (h : at < length text) (r : Run in_line text at end) where
  before_line : before key (worded text) ≡ worded (take at text) ++ before key (ahead (words (part at end text)) (worded (drop (past_end end (length text)) text)))
  before_line = p.before_is ∙ ap (λ (l : List Line). worded (take at text) ++ before key l) (from_line r)

  -- a line without the key is passed
  pub reached_next : keyed key (words (part at end text)) ≡ false → Reached key text (past_end end (length text))
  reached_next e =
      let line = words (part at end text) in
      let others = worded (drop (past_end end (length text)) text) in
      let o = passes key line others e in
      record {
        within = omega arith;
        has_is = p.has_is ∙ ap (has key) (from_line r) ∙ o.has_is;
        before_is =
            before_line ∙ ap (λ (l : List Line). worded (take at text) ++ l) o.before_is
            ∙ sym (append_assoc (worded (take at text)) (ahead line []) (before key others))
            ∙ ap (λ (l : List Line). l ++ before key others) (sym (before_next r (p.splits h)));
        first_is = p.first_is ∙ ap (first key) (from_line r) ∙ o.first_is;
        after_is = p.after_is ∙ ap (after key) (from_line r) ∙ o.after_is;
        splits = splits_next r (p.splits h);
      }

  pub cut_here : 0 < length key → keyed key (words (part at end text)) ≡ true → (cut : Cut)
      → cut.before.now ≡ take at text → cut.line.now ≡ part at end text → cut.after.now ≡ part (past_end end (length text)) (length text) text → CutAt key text cut
  cut_here some e cut b l a =
      let o = opens key (words (part at end text)) (worded (drop (past_end end (length text)) text)) some e in
      let last = a ∙ part_rest text (past_end end (length text)) in
      let size : length cut.after.now ≡ length text - past_end end (length text) = ap length last ∙ length-drop (past_end end (length text)) text in
      let place : length text - length cut.after.now ≡ past_end end (length text) = omega arith in
      record {
        before_short = omega (arith, ap length b, length-take-le at text p.within);
        line_short = omega (arith, ap length l, length-take-le (end - at) (drop at text) (omega (arith, r.within, length-drop at text)));
        after_last = rw place last;
        has_is = p.has_is ∙ ap (has key) (from_line r) ∙ o.has_is;
        before_is = before_line ∙ ap (λ (l : List Line). worded (take at text) ++ l) o.before_is ∙ append-nil (worded (take at text)) ∙ ap worded (sym b);
        first_is = p.first_is ∙ ap (first key) (from_line r) ∙ o.first_is ∙ ap words (sym l);
        after_is = p.after_is ∙ ap (after key) (from_line r) ∙ o.after_is ∙ ap worded (sym last);
      }

-- no line is left
pub none_left : {key text : List ℕ} {at : ℕ} → Reached key text at → length text ≤ at → has key (worded text) ≡ false
unfolding has
none_left {key} {text} {at} p h = p.has_is ∙ ap (has key) (worded_past text at h)

pub after_short : {key text : List ℕ} {cut : Cut} → CutAt key text cut → length cut.after.now ≤ length text
after_short {text} {cut} c = omega (arith, ap length c.after_last, length-drop (length text - length cut.after.now) text)
