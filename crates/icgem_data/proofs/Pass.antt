-- Lines passed one after the other: what their list, their starts and the two filled lists come to.
use mathlib.Core.Path.{◌≡◌, refl, sym, ap, ap₂, ◌∙◌}
use mathlib.Core.Bool.{Bool, true, false, ◌&&◌, and_assoc}
use mathlib.Core.List.{List, [], ◌∷◌, ◌++◌, append-nil, append_assoc, map-append}
use Prim.Native.Nat.{ℕ, ◌+◌, ◌*◌, ◌≤◌, ◌<◌}
use native.Mathlib.Numerals.{add-one}
use native.Mathlib.Omega.{arith}
use borrow.Author.Tests.{eqb-true, eqb-false}
use lib.Dec.{eqb}
use lib.IntN.{ℤ}
use lib.ListN.{length, get_or, take, drop, set}
use lib.Seq.{take-suc-set, get_or-set_same, get_or-set_other}
use Rattle.whole.proofs.Tests.{and_left}
use Rattle.field.specs.Field.{place}
use Rattle.limits.specs.Limits.{is_entry}
use Rattle.icgem_decimal.proofs.Tests.{either, and_false}
use Rattle.icgem_file.specs.Header.{Line}
use Rattle.icgem_file.specs.Data.{line_formed, data_formed, all_in_range, filled, degree_in, order_in, c_in, s_in, line_at}
use Rattle.icgem_words.specs.Inner.{part, in_line, Run}
use Rattle.icgem_words.specs.Words.{words, worded}
use Rattle.icgem_words.proofs.Read.{lines_from, worded_some, worded_none, worded_past}
use Rattle.icgem_data.proofs.Formed.{part_length}
use Rattle.icgem_data.specs.Inner.{LineAdded, LineKept, LinesKept, LinesRead}
use Rattle.icgem_data.specs.declared.Lines.{Lines}
use Rattle.std.specs.Prelude.{Option, Some, None}

-- ---- lines joined
pub formed_append : (n : ℕ) (a b : List Line) → data_formed n (a ++ b) ≡ (data_formed n a && data_formed n b)
unfolding data_formed
formed_append n [] b = refl
formed_append n (line ∷ a) b = ap (λ (t : Bool). line_formed n line && t) (formed_append n a b) ∙ sym (and_assoc (line_formed n line) (data_formed n a) (data_formed n b))

pub range_append : (a b : List Line) → all_in_range (a ++ b) ≡ (all_in_range a && all_in_range b)
unfolding all_in_range
range_append [] b = refl
range_append (line ∷ a) b =
    let r = is_entry (c_in line) && is_entry (s_in line) in
    ap (λ (t : Bool). r && t) (range_append a b) ∙ sym (and_assoc r (all_in_range a) (all_in_range b))

pub filled_append : (count : Line → ℤ) (a b : List Line) (l : List ℤ) → filled count (a ++ b) l ≡ filled count b (filled count a l)
unfolding filled
filled_append count [] b l = refl
filled_append count (line ∷ a) b l = filled_append count a b _

range_one : (line : Line) → all_in_range (line ∷ []) ≡ (is_entry (c_in line) && is_entry (s_in line))
unfolding all_in_range
range_one line = by_test (is_entry (c_in line) && is_entry (s_in line))
  where
    by_test : (t : Bool) → (t && true) ≡ t
    by_test true = refl
    by_test false = refl

filled_more : (count : Line → ℤ) (a : List Line) (line : Line) (l : List ℤ) {x y : List ℤ} → x ≡ filled count a l
    → y ≡ set x (place (degree_in line) (order_in line)) (count line) → y ≡ filled count (a ++ (line ∷ [])) l
unfolding filled
filled_more count a line l e g = g ∙ ap (λ (v : List ℤ). set v (place (degree_in line) (order_in line)) (count line)) e ∙ sym (filled_append count a (line ∷ []) l)

-- ---- a pass along the lines
pub record Passed (text : List ℕ) (from n at : ℕ) (lines : Lines) (starts₀ starts : List ℕ) (c₀ s₀ c s : List ℤ) : Type 0 where
  pub ls : List Line
  pub low : 8 * lines.count + from ≤ at
  pub most : at ≤ length text + 1
  pub formed : data_formed n ls ≡ true
  pub lines_all : worded (drop from text) ≡ ls ++ worded (drop at text)
  pub kept : LinesKept text ls lines.inside lines.count starts c₀ s₀ c s
  pub starts_room : length starts ≡ length starts₀
  pub c-room : length c ≡ length c₀
  pub s-room : length s ≡ length s₀

pub passed_none : (text : List ℕ) (from n : ℕ) (starts : List ℕ) (c s : List ℤ) → from ≤ length text
    → Passed text from n from (record { inside = true; count = 0 }) starts starts c s c s
unfolding data_formed all_in_range filled
passed_none text from n starts c s h =
    record {
      ls = [];
      low = omega arith;
      most = omega arith;
      formed = refl;
      lines_all = refl;
      kept = record { few = omega arith; lines_are = refl; within = λ k g. absurd (omega arith); inside_is = refl; c_is = λ _. refl; s_is = λ _. refl };
      starts_room = refl;
      c-room = refl;
      s-room = refl;
    }

module _ {text : List ℕ} {from n at : ℕ} {lines : Lines} {starts₀ starts : List ℕ} {c₀ s₀ c s : List ℤ} (p : Passed text from n at lines starts₀ starts c₀ s₀ c s) where
  -- nothing is left
  pub pass_ends : length text ≤ at → LinesRead text from n starts₀ c₀ s₀ (Some lines) starts c s
  pass_ends h =
      let e : worded (drop from text) ≡ p.ls = p.lines_all ∙ rw (worded_past text at h) (append-nil p.ls) in
      record {
        told = (ap (data_formed n) e ∙ p.formed, rw e p.kept);
        starts_room = p.starts_room;
        c-room = p.c-room;
        s-room = p.s-room;
      }

  module _ {end : ℕ} (r : Run in_line text at end) where
    abbrev line : List ℕ
    line = part at end text

    pub passed_blank : at < length text → words line ≡ [] → Passed text from n (end + 1) lines starts₀ starts c₀ s₀ c s
    passed_blank h e =
        record {
          ls = p.ls;
          low = omega (arith, p.low, r.low);
          most = omega (arith, r.within);
          formed = p.formed;
          lines_all = p.lines_all ∙ ap (λ (l : List Line). p.ls ++ l) (worded_none r (ap length e));
          kept = p.kept;
          starts_room = p.starts_room;
          c-room = p.c-room;
          s-room = p.s-room;
        }

    module _ (some : 0 < length (words line)) {result : Option Lines} {starts' : List ℕ} {c' s' : List ℤ} (k : LineKept n line at lines starts c s result starts' c' s') where
      all_left : worded (drop from text) ≡ p.ls ++ words line ∷ worded (drop (end + 1) text)
      all_left = p.lines_all ∙ ap (λ (l : List Line). p.ls ++ l) (worded_some r some)

      pub pass_refused : result ≡ None → LinesRead text from n starts₀ c₀ s₀ None starts' c' s'
      unfolding data_formed
      pass_refused e =
          record {
            told =
                ap (data_formed n) all_left ∙ formed_append n p.ls (words line ∷ worded (drop (end + 1) text))
                ∙ rw (rw e at k.told) (and_false (data_formed n p.ls));
            starts_room = k.starts_room ∙ p.starts_room;
            c-room = k.c-room ∙ p.c-room;
            s-room = k.s-room ∙ p.s-room;
          }

      module _ {lines' : Lines} (e : result ≡ Some lines') (h : at < length text) (room : lines.count < length starts) where
        added : LineAdded n line at lines starts c s starts' c' s' lines'
        added = rw e at k.told

        abbrev more : List Line
        more = p.ls ++ (words line ∷ [])

        longer : 8 * (lines.count + 1) + from ≤ end + 1
        longer = omega (arith, p.low, added.long, part_length text at end r.within)

        inside_before : lines'.inside ≡ true → lines.inside ≡ true
        inside_before i = and_left lines.inside _ (sym added.inside_is ∙ i)

        start_within : (i : ℕ) → i < lines.count + 1 → get_or (set starts lines.count at) i 0 ≤ length text
        start_within i g =
            either (eqb i lines.count)
            (λ q. rw (eqb-true i lines.count q, get_or-set_same starts lines.count at 0 room) (omega arith))
            (λ q. rw (get_or-set_other starts lines.count i at 0 (eqb-false i lines.count q)) (p.kept.within i (omega (arith, eqb-false i lines.count q))))

        kept_more : LinesKept text more lines'.inside lines'.count starts' c₀ s₀ c' s'
        kept_more =
            record {
              few = rw added.count-is (omega (arith, longer, r.within));
              lines_are =
                  rw (added.count-is, added.starts_is, add-one lines.count, take-suc-set starts lines.count at room)
                  (map-append (line_at text) (take lines.count starts) (at ∷ []) ∙ ap₂ (λ (a b : List Line). a ++ b) p.kept.lines_are (ap (λ (l : Line). l ∷ []) line_is));
              within = rw (added.count-is, added.starts_is) start_within;
              inside_is = added.inside_is ∙ ap₂ ◌&&◌ p.kept.inside_is (sym (range_one (words line))) ∙ sym (range_append p.ls (words line ∷ []));
              c_is = λ i. filled_more c_in p.ls (words line) c₀ (p.kept.c_is (inside_before i)) (added.c_is i);
              s_is = λ i. filled_more s_in p.ls (words line) s₀ (p.kept.s_is (inside_before i)) (added.s_is i);
            }
          where
            line_is : line_at text at ≡ words line
            line_is = ap (λ (l : List (List ℕ)). words (get_or l 0 [])) (lines_from r)

        pub passed_more : Passed text from n (end + 1) lines' starts₀ starts' c₀ s₀ c' s'
        unfolding data_formed
        passed_more =
            record {
              ls = more;
              low = rw added.count-is longer;
              most = omega (arith, r.within);
              formed = formed_append n p.ls (words line ∷ []) ∙ rw (p.formed, added.formed);
              lines_all = all_left ∙ sym (append_assoc p.ls (words line ∷ []) (worded (drop (end + 1) text)));
              kept = kept_more;
              starts_room = k.starts_room ∙ p.starts_room;
              c-room = k.c-room ∙ p.c-room;
              s-room = k.s-room ∙ p.s-room;
            }
