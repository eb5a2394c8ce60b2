-- Document 01, "What the promises settle": any two results that the listing's promise allows for one input are equal.
use mathlib.Core.List.{List}
use mathlib.Core.Path.{◌≡◌, sym, ◌∙◌}
use Prim.Native.Nat.{ℕ}
use Rattle.listing.specs.Listing.{Listed}

pub one_listing : (input before after after' : List ℕ) (count count' : ℕ) → Listed input before after count → Listed input before after' count' → (count ≡ count') × (after ≡ after')
one_listing input before after after' count count' l m = (l.count-is ∙ sym m.count-is, l.bytes_are ∙ sym m.bytes_are)
