-- Document 01, "Phase, sine and cosine", line by line: the sine and the cosine of a phase, a turn being 2^32, in units of 2^-30.
use Rattle.std.specs.Prelude.{cond, ◌||◌, List, [], ◌∷◌, ℕ, ◌+◌, ◌-◌, ◌*◌, ◌/◌, ◌%◌, ◌^◌, ltb, eqb, ℤ, pos, neg_ℤ}

-- a = b for even e, 2^29 - b for odd e
unfoldable pub folded : ℕ → ℕ → ℕ
folded e b = cond (eqb (e % 2) 0) b (2 ^ 29 - b)

-- for e = 0..3 it is S(a), C(a), C(a), S(a), and so again for e = 4..7
unfoldable pub part : {A : Type 0} → (ℕ → A) → (ℕ → A) → ℕ → ℕ → A
part S C e a = cond (eqb (e % 4) 0 || eqb (e % 4) 3) (S a) (C a)

-- for e = 4..7 the negatives
unfoldable pub signed : ℕ → ℤ → ℤ
signed e z = cond (ltb e 4) z (neg_ℤ z)

-- "Split it into eighth e = floor(phase/2^29) and rest b": the sine from its values on an eighth, S and C, be they rounded or exact
unfoldable pub eighths : (ℕ → ℤ) → (ℕ → ℤ) → ℕ → ℤ
eighths S C t =
    let e = t / 2 ^ 29 in
    let b = t % 2 ^ 29 in
    signed e (part S C e (folded e b))

-- "Cosine is the sine a quarter turn further on."
unfoldable pub further : ℕ → ℕ
further t = (t + 2 ^ 30) % 2 ^ 32

-- x = floor((a*13493037705 + 2^30)/2^31)
unfoldable pub angle : ℕ → ℕ
angle a = (a * 13493037705 + 2 ^ 30) / 2 ^ 31

-- y = floor((x*x + 2^31)/2^32)
unfoldable pub square : ℕ → ℕ
square x = (x * x + 2 ^ 31) / 2 ^ 32

-- h becomes 2^32 - floor((y*h + 2^31*d)/(2^32*d))
unfoldable pub step : ℕ → ℕ → ℕ → ℕ
step y h d = 2 ^ 32 - (y * h + 2 ^ 31 * d) / (2 ^ 32 * d)

-- for each d in turn
unfoldable pub steps : ℕ → ℕ → List ℕ → ℕ
steps y h [] = h
steps y h (d ∷ ds) = steps y (step y h d) ds

-- S(a): d = 110, 72, 42, 20, 6; then g = floor((x*h + 2^31)/2^32); answer floor((g+2)/4)
abbrev pub sine_divisors : List ℕ
sine_divisors = 110 ∷ 72 ∷ 42 ∷ 20 ∷ 6 ∷ []

unfoldable pub eighth_sine : ℕ → ℕ
eighth_sine a =
    let x = angle a in
    let h = steps (square x) (2 ^ 32) sine_divisors in
    let g = (x * h + 2 ^ 31) / 2 ^ 32 in
    (g + 2) / 4

-- C(a): d = 132, 90, 56, 30, 12, 2; answer floor((h+2)/4)
abbrev pub cosine_divisors : List ℕ
cosine_divisors = 132 ∷ 90 ∷ 56 ∷ 30 ∷ 12 ∷ 2 ∷ []

unfoldable pub eighth_cosine : ℕ → ℕ
eighth_cosine a =
    let h = steps (square (angle a)) (2 ^ 32) cosine_divisors in
    (h + 2) / 4

-- the sine of a phase, and its cosine
unfoldable pub sin : ℕ → ℤ
sin t = eighths (λ a. pos (eighth_sine a)) (λ a. pos (eighth_cosine a)) t

unfoldable pub cos : ℕ → ℤ
cos t = sin (further t)
