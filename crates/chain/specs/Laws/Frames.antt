-- The frame with the gain on it is as long as it was, and its samples are f32. Laws.
-- Assumes nothing.
use Rattle.std.specs.Prelude.{◌≡◌, Bool, false, cond, ℕ, zero, suc, T, eqb, pos, take, drop, Float}
use Rattle.std.proofs.Math.Path.{refl}
use Rattle.std.proofs.Common.{ap, ◌∙◌}
use Rattle.std.proofs.Math.Bool.{true}
use mathlib.Core.List.{List, [], ◌∷◌}
use Rattle.std.proofs.Math.ListN.{length}
use Rattle.std.specs.Float.{nan, binary32}
use Rattle.std.specs.Float.Ieee.{fits, of_bits, add, lt, eq}
use Rattle.std.specs.Float.Ieee.Bits.{of_bits-fits}
use Rattle.std.specs.Float.Ieee.Fits.{mul-fits}
use Rattle.lists.specs.Each.{Each, each_drop, each_append}
use Rattle.floats.specs.Choice.{larger, smaller, clamp}
use Rattle.units.specs.Replies.{done}
use Rattle.frames.specs.Parts.{each_part}
use Rattle.frames.specs.Refusal.{frame_refusal}
use Rattle.frames.specs.Samples.{largest_input}
use Rattle.frames.specs.Walk.{each_part_length}
use Rattle.gain_applier.specs.Sound.{close_to_one, scaled, ramped, step_of, clipped, gained, finished}
use Rattle.gain_applier.specs.Range.{Held}
use Rattle.gain_applier.specs.Applier.{passes, inverse_of, applied}
use Rattle.gain_applier.specs.declared.Applier.{Applier}

-- Whichever of two is chosen has what both have.
pub either : {A : Type 0} (P : A → Type 0) (b : Bool) {x y : A} → P x → P y → P (cond b x y)
either P true p q = p
either P false p q = q

-- ---- f32
abbrev Fits : Float → Type 0
Fits x = T (fits binary32 x)

nan_held : Fits nan
unfolding fits
nan_held = tt

each_held : (xs : List Float) → Held xs → Each Fits xs
unfolding Each
each_held [] h = tt
each_held (x ∷ xs) h = (h 0, each_held xs (λ (i : ℕ). h (suc i)))

held_each : (xs : List Float) → Each Fits xs → Held xs
unfolding Each
held_each [] h i = nan_held
held_each (x ∷ xs) h zero = h.0
held_each (x ∷ xs) h (suc i) = held_each xs h.1 i

scaled_held : (g : Float) (xs : List Float) → Each Fits (scaled g xs)
unfolding scaled Each
scaled_held g [] = tt
scaled_held g (x ∷ xs) = (mul-fits binary32 x g, scaled_held g xs)

ramped_held : (g step : Float) (xs : List Float) → Each Fits (ramped g step xs)
unfolding ramped Each
ramped_held g step [] = tt
ramped_held g step (x ∷ xs) = (mul-fits binary32 x g, ramped_held (add binary32 g step) step xs)

clamp_held : (x low high : Float) → Fits x → Fits low → Fits high → Fits (clamp x low high)
unfolding clamp larger smaller
clamp_held x low high a b c = either Fits (lt high (larger x low)) c (either Fits (lt x low) b a)

clipped_held : (xs : List Float) → Each Fits xs → Each Fits (clipped xs)
unfolding clipped Each
clipped_held [] h = tt
clipped_held (x ∷ xs) h =
    (clamp_held x (of_bits binary32 0xc700_0000) (of_bits binary32 0x46ff_fe00) h.0 (of_bits-fits binary32 0xc700_0000) (of_bits-fits binary32 0x46ff_fe00), clipped_held xs h.1)

parts_held : (f : List Float → List Float) → ((xs : List Float) → Each Fits (f xs)) → (k n : ℕ) (xs : List Float) → Each Fits xs → Each Fits (each_part f k n xs)
unfolding each_part
parts_held f all zero n xs h = h
parts_held f all (suc k) n xs h = each_append Fits (f (take n xs)) (each_part f k n (drop n xs)) (all (take n xs)) (parts_held f all k n (drop n xs) (each_drop Fits n xs h))

gained_held : (last current inverse : Float) (channels samples : ℕ) (frame : List Float) → Each Fits frame → Each Fits (gained last current inverse channels samples frame)
unfolding gained
gained_held last current inverse channels samples frame h =
    either (Each Fits) (eq last current)
    (either (Each Fits) (close_to_one current) h (parts_held (scaled current) (scaled_held current) channels samples frame h))
    (parts_held (ramped last (step_of last current inverse)) (ramped_held last (step_of last current inverse)) channels samples frame h)

finished_held : (clip : Bool) (xs : List Float) → Each Fits xs → Each Fits (finished clip xs)
unfolding finished
finished_held clip xs h = either (Each Fits) clip (clipped_held xs h) h

-- ---- as long
scaled_long : (g : Float) (xs : List Float) → length (scaled g xs) ≡ length xs
unfolding scaled
scaled_long g [] = refl
scaled_long g (x ∷ xs) = ap suc (scaled_long g xs)

ramped_long : (g step : Float) (xs : List Float) → length (ramped g step xs) ≡ length xs
unfolding ramped
ramped_long g step [] = refl
ramped_long g step (x ∷ xs) = ap suc (ramped_long (add binary32 g step) step xs)

clipped_long : (xs : List Float) → length (clipped xs) ≡ length xs
unfolding clipped
clipped_long [] = refl
clipped_long (x ∷ xs) = ap suc (clipped_long xs)

gained_long : (last current inverse : Float) (channels samples : ℕ) (frame : List Float) → length (gained last current inverse channels samples frame) ≡ length frame
unfolding gained
gained_long last current inverse channels samples frame =
    either (λ (xs : List Float). length xs ≡ length frame) (eq last current)
    (either (λ (xs : List Float). length xs ≡ length frame) (close_to_one current) refl (each_part_length (scaled current) (scaled_long current) channels samples frame))
    (each_part_length (ramped last (step_of last current inverse)) (ramped_long last (step_of last current inverse)) channels samples frame)

finished_long : (clip : Bool) (xs : List Float) (n : ℕ) → length xs ≡ n → length (finished clip xs) ≡ n
unfolding finished
finished_long clip xs n h = either (λ (ys : List Float). length ys ≡ n) clip (clipped_long xs ∙ h) h

module _ (a : Applier) (frame : List Float) (channels samples : ℕ) where
  -- What an applier hands on has f32 samples,
  pub applied_held : Held frame → Held (applied a frame channels samples).frame
  unfolding applied
  applied_held h =
      let all = each_held frame h in
      held_each (applied a frame channels samples).frame
      (either (Each Fits) (eqb (frame_refusal frame channels samples true (passes a) true largest_input) done)
      (finished_held a.clip (gained a.last a.current (inverse_of (pos samples)) channels samples frame) (gained_held a.last a.current (inverse_of (pos samples)) channels samples frame all))
      all)

  -- and as many as came in.
  pub applied_long : length (applied a frame channels samples).frame ≡ length frame
  unfolding applied
  applied_long =
      either (λ (xs : List Float). length xs ≡ length frame) (eqb (frame_refusal frame channels samples true (passes a) true largest_input) done)
      (finished_long a.clip (gained a.last a.current (inverse_of (pos samples)) channels samples frame) (length frame) (gained_long a.last a.current (inverse_of (pos samples)) channels samples frame))
      refl
