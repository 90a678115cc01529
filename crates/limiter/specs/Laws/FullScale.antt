-- Every sample of every frame that is taken comes out between -32768 and 32767.
use Rattle.std.specs.Prelude.{◌≡◌, refl, List, [], ◌∷◌, Bool, true, false, cond, ℕ, zero, suc, ◌+◌, ◌-◌, ◌*◌, ◌≤◌, length, take, drop}
use Rattle.std.proofs.Common.{sym, ap, ap₂, ◌∙◌, le_of_suc-le-suc, not-suc-le-zero, arith, length-append, length-take, length-drop}
use lib.Ieee.{Float, binary32, of_bits, mul, div, sub}
use Rattle.std.specs.Float.Ieee.Fits.{mul-fits}
use Rattle.floats.specs.Choice.{clamp}
use Rattle.intervals.specs.Laws.Choice.{clamp_in, Leq}
use Rattle.frames.specs.Parts.{each_part}
use Rattle.lists.specs.Each.{Each, each_take, each_drop, each_append}
use Rattle.limiter.specs.Factors.{whole, line, straight, curved, first_part, later_parts, factors, limited}
use Rattle.limiter.specs.Scale.{Fits16, FullScale, Finite}
use Rattle.limiter.specs.Laws.Products.{product_not_nan, lowest, highest}

-- ---- as many factors as samples
line_long : (a d : Float) (j k : ℕ) → length (line a d j k) ≡ k
unfolding line
line_long a d j zero = refl
line_long a d j (suc k) = ap suc (line_long a d (j + 1) k)

curve_long : (s : ℕ) (a b : Float) (j k : ℕ) → length (curved s a b j k) ≡ k
unfolding curved
curve_long s a b j zero = refl
curve_long s a b j (suc k) = ap suc (curve_long s a b (j + 1) k)

straight_long : (s : ℕ) (a b : Float) → length (straight s a b) ≡ s
unfolding straight
straight_long s a b = line_long a (div binary32 (sub binary32 b a) (whole s)) 0 s

first_long : (s : ℕ) (a b : Float) → length (first_part s a b) ≡ s
unfolding first_part
first_long s a b = go (lib.Ieee.lt b a)
  where
    go : (c : Bool) → length (cond c (curved s a b 0 s) (straight s a b)) ≡ s
    go true = curve_long s a b 0 s
    go false = straight_long s a b

later_long : (s : ℕ) (a : Float) (bs : List Float) → length (later_parts s a bs) ≡ length bs * s
unfolding later_parts
later_long s a [] = sym (none s)
  where
    none : (s : ℕ) → 0 * s ≡ 0
    none s = omega arith
later_long s a (b ∷ bs) = length-append (straight s a b) (later_parts s b bs) ∙ ap₂ ◌+◌ (straight_long s a b) (later_long s b bs) ∙ more s (length bs)
  where
    more : (s n : ℕ) → s + n * s ≡ suc n * s
    more s n = omega arith

pub factors_long : (s : ℕ) (a : Float) (bs : List Float) → length (factors s a bs) ≡ length bs * s
unfolding factors
factors_long s a [] = sym (none s)
  where
    none : (s : ℕ) → 0 * s ≡ 0
    none s = omega arith
factors_long s a (b ∷ bs) = length-append (first_part s a b) (later_parts s b bs) ∙ ap₂ ◌+◌ (first_long s a b) (later_long s b bs) ∙ more s (length bs)
  where
    more : (s n : ℕ) → s + n * s ≡ suc n * s
    more s n = omega arith

-- ---- a sample between the ends of 16 bits
in_order : Leq (of_bits binary32 0xc700_0000) (of_bits binary32 0x46ff_fe00)
in_order =
    let a = lowest.plus in
    let b = highest.minus in
    omega arith

clamped : (x f : Float) → Finite x → Finite f → Fits16 (clamp (mul binary32 x f) (of_bits binary32 0xc700_0000) (of_bits binary32 0x46ff_fe00))
clamped x f s n =
    clamp_in (mul binary32 x f) (of_bits binary32 0xc700_0000) (of_bits binary32 0x46ff_fe00) (mul-fits binary32 x f) (product_not_nan x f s n)
    lowest.number highest.number in_order

-- ---- over a channel, and over a frame
limited_scale : (fs xs : List Float) → Each Finite fs → Each Finite xs → length xs ≤ length fs → FullScale (limited fs xs)
unfolding limited Each
limited_scale fs [] n s h = tt
limited_scale [] (x ∷ xs) n s h = absurd (not-suc-le-zero h)
limited_scale (f ∷ fs) (x ∷ xs) n s h = (clamped x f s.0 n.0, limited_scale fs xs n.1 s.1 (le_of_suc-le-suc h))

nothing_left : (xs : List Float) → length xs ≡ 0 → FullScale xs
unfolding Each
nothing_left [] h = tt
nothing_left (x ∷ xs) h = absurd (omega arith)

pub frame_scale : (fs : List Float) → Each Finite fs → (k n : ℕ) → n ≤ length fs → (xs : List Float) → Each Finite xs → length xs ≡ k * n → FullScale (each_part (limited fs) k n xs)
unfolding each_part
frame_scale fs f zero n h xs s l = nothing_left xs (l ∙ none n)
  where
    none : (n : ℕ) → 0 * n ≡ 0
    none n = omega arith
frame_scale fs f (suc k) n h xs s l =
    let t = length-take n xs in
    let d = length-drop n xs in
    each_append Fits16 (limited fs (take n xs)) (each_part (limited fs) k n (drop n xs))
    (limited_scale fs (take n xs) f (each_take Finite n xs s) (omega arith))
    (frame_scale fs f k n h (drop n xs) (each_drop Finite n xs s) (rest (length xs) (length (drop n xs)) k n l d))
  where
    rest : (a b k n : ℕ) → a ≡ suc k * n → b ≡ a - n → b ≡ k * n
    rest a b k n i j = omega arith
