-- The lines of a file, each formed, are sound for the search of repeated places.
use mathlib.Core.Bool.{true, ◌&&◌}
use mathlib.Core.Path.{◌≡◌, refl}
use mathlib.Core.List.{List, [], ◌∷◌, map}
use Prim.Native.Nat.{ℕ, zero, suc, ◌≤◌, ◌<◌}
use native.Mathlib.Nat.{le_of_suc-le-suc, not-suc-le-zero}
use borrow.Author.Tests.{le-leb}
use lib.Dec.{leb}
use lib.ListN.{length, get_or}
use Rattle.whole.proofs.Tests.{and_left, and_right}
use Rattle.icgem_names.specs.Names as names
use Rattle.icgem_decimal.specs.Decimal.{is_whole, is_decimal}
use Rattle.icgem_file.specs.Header.{Line, word_at, keyed}
use Rattle.icgem_file.specs.Data.{degree_in, order_in, columned, line_at, line_formed, data_formed}
use Rattle.icgem_repeats.specs.Inner.{sound, Lent}

each_formed : (n : ℕ) (f : ℕ → Line) (l : List ℕ) → data_formed n (map f l) ≡ true → (k : ℕ) → k < length l → line_formed n (f (get_or l k 0)) ≡ true
unfolding data_formed
each_formed n f [] e k h = absurd (not-suc-le-zero h)
each_formed n f (x ∷ l) e zero h = and_left (line_formed n (f x)) (data_formed n (map f l)) e
each_formed n f (x ∷ l) e (suc k) h = each_formed n f l (and_right (line_formed n (f x)) (data_formed n (map f l)) e) k (le_of_suc-le-suc h)

formed_sound : (n : ℕ) (text : List ℕ) (start : ℕ) → start ≤ length text → line_formed n (line_at text start) ≡ true → sound text start ≡ true
unfolding line_formed sound
formed_sound n text start h e =
    let line = line_at text start in
    let whole = is_whole (word_at 1 line) && is_whole (word_at 2 line) in
    let decimal = is_decimal (word_at 3 line) && is_decimal (word_at 4 line) in
    let ordered = leb (order_in line) (degree_in line) in
    let below = leb (degree_in line) n in
    let numbers : (whole && (decimal && (ordered && below))) ≡ true = and_right (keyed names.gfc line && columned line) (whole && (decimal && (ordered && below))) e in
    let rest : (decimal && (ordered && below)) ≡ true = and_right whole (decimal && (ordered && below)) numbers in
    let w : whole ≡ true = and_left whole (decimal && (ordered && below)) numbers in
    let o : ordered ≡ true = and_left ordered below (and_right decimal (ordered && below) rest) in
    rw (le-leb start (length text) h, w, o) refl

pub lines_sound : (n : ℕ) (text starts spare : List ℕ) → data_formed n (map (line_at text) starts) ≡ true → ((k : ℕ) → k < length starts → get_or starts k 0 ≤ length text)
    → length starts ≤ length spare → Lent text starts spare
lines_sound n text starts spare e within room = record {
  room = room;
  each = λ k h. formed_sound n text (get_or starts k 0) (within k h) (each_formed n (line_at text) starts e k h);
}
