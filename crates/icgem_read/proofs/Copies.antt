-- The front of a list copied into another, entry by entry.
use mathlib.Core.Path.{◌≡◌, sym, ap, ◌∙◌}
use mathlib.Core.List.{List, append-nil}
use Prim.Native.Nat.{ℕ, ◌+◌, ◌<◌}
use native.Mathlib.Nat.{zero-add}
use native.Mathlib.Numerals.{add-one}
use lib.IntN.{ℤ, pos}
use lib.ListN.{length, get_or, set, take}
use lib.Seq.{paste, paste-suc, drop-length}

pub copied_next : (d s : List ℤ) (i : ℕ) {l : List ℤ} {v : ℤ} → i < length d → i < length s → l ≡ paste d 0 s i → v ≡ get_or s i (pos 0) → set l i v ≡ paste d 0 s (i + 1)
copied_next d s i {l} {v} h k e f =
    rw (e, f, add-one i) (ap (λ (k : ℕ). set (paste d 0 s i) k (get_or s i (pos 0))) (sym (zero-add i)) ∙ paste-suc d 0 s i (pos 0) (rw (zero-add i) h) k)

pub copied_all : (d s : List ℤ) (i : ℕ) {l : List ℤ} → i ≡ length d → l ≡ paste d 0 s i → l ≡ take (length d) s
copied_all d s i {l} e f = f ∙ rw (e, zero-add (length d), drop-length d) (append-nil (take (length d) s))
