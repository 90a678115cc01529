-- What a frame's tests show where they pass, and what a frame that is not refused has. Laws.
-- Assumes nothing.
use Rattle.std.specs.Prelude.{◌≡◌, refl, Bool, true, ◌&&◌, List, [], ◌∷◌, ◌++◌, ℕ, ◌*◌, ◌%◌, ◌≤◌, ◌<◌, leb, length, get_or, take, drop, Float}
use Rattle.std.proofs.Common.{sym, ap, ◌∙◌, take-append-drop, leb-true, eqb-true}
use Rattle.std.proofs.Math.Bool.{and_assoc}
use Rattle.std.specs.Float.Ieee.{nan}
use Rattle.lists.specs.Stores.{next}
use Rattle.lists.specs.Tests.{each_of}
use Rattle.units.specs.Replies.{refusal, done}
use Rattle.units.specs.Laws.Replies.{none_refused}
use Rattle.frames.specs.Shape.{is_samples, is_shape}
use Rattle.frames.specs.Samples.{within, all_within}
use Rattle.frames.specs.Refusal.{frame_refusal}

-- a channel's number of samples
pub record Samples (samples : ℕ) : Type 0 where
  pub least : 40 ≤ samples
  pub most : samples ≤ 480
  pub whole : samples % 20 ≡ 0

-- What is known of a channel's number of samples that passes.
pub samples_facts : (samples : ℕ) → is_samples samples ≡ true → Samples samples
unfolding is_samples
samples_facts samples h =
    let p = each_of (_ ∷ _ ∷ _ ∷ []) h in
    record { least = leb-true 40 samples (p 0); most = leb-true samples 480 (p 1); whole = eqb-true (samples % 20) 0 (p 2) }

-- the number of channels, and that of the samples of each
pub record Sizes (channels samples : ℕ) : Type 0 where
  pub one : 1 ≤ channels
  pub eight : channels ≤ 8
  pub each : Samples samples

-- What is known of the sizes of a frame where they pass.
pub sizes_facts : (channels samples : ℕ) → leb 1 channels && leb channels 8 && is_samples samples ≡ true → Sizes channels samples
sizes_facts channels samples h =
    let p = each_of (_ ∷ _ ∷ _ ∷ []) h in
    record { one = leb-true 1 channels (p 0); eight = leb-true channels 8 (p 1); each = samples_facts samples (p 2) }

-- What is known of a frame whose shape passes: its sizes, and that its length is exactly the product.
pub shape_facts : (channels samples length : ℕ) → is_shape channels samples length ≡ true → Sizes channels samples × (length ≡ channels * samples)
unfolding is_shape
shape_facts channels samples length h =
    let p = each_of (_ ∷ _ ∷ []) h in
    (sizes_facts channels samples (p 0), eqb-true length (channels * samples) (p 1))

-- what a frame that is not refused has passed
pub record Taken (frame : List Float) (channels samples : ℕ) (set setting figure : Bool) (bound : Float) : Type 0 where
  pub shape : is_shape channels samples (length frame) ≡ true
  pub same : set ≡ true
  pub settings : setting ≡ true
  pub figures : figure ≡ true
  pub sound : all_within bound frame ≡ true

module _ (frame : List Float) (channels samples : ℕ) (set setting figure : Bool) (bound : Float) where
  -- A frame that is not refused has passed every test.
  pub taken : frame_refusal frame channels samples set setting figure bound ≡ done → Taken frame channels samples set setting figure bound
  unfolding frame_refusal
  taken h =
      let four = none_refused (is_shape channels samples (length frame) && set) setting figure (all_within bound frame) h in
      let two = each_of (_ ∷ _ ∷ []) four.0 in
      record { shape = two 0; same = two 1; settings = four.1; figures = four.2; sound = four.3 }

  -- A frame that passes every test is not refused.
  pub not_refused : Taken frame channels samples set setting figure bound → frame_refusal frame channels samples set setting figure bound ≡ done
  unfolding frame_refusal refusal
  not_refused t = rw (t.shape, t.same, t.settings, t.figures, t.sound)

-- The samples of one list and then of another are within the bound where those of both are.
pub within_append : (bound : Float) (xs ys : List Float) → all_within bound (xs ++ ys) ≡ all_within bound xs && all_within bound ys
unfolding all_within
within_append bound [] ys = refl
within_append bound (x ∷ xs) ys = ap (λ (b : Bool). within bound x && b) (within_append bound xs ys) ∙ sym (and_assoc (within bound x) _ _)

module _ (bound : Float) (n : ℕ) (xs : List Float) (h : all_within bound xs ≡ true) where
  halves : all_within bound (take n xs) && all_within bound (drop n xs) ≡ true
  halves = sym (within_append bound (take n xs) (drop n xs)) ∙ ap (all_within bound) (take-append-drop n xs) ∙ h

  -- Where all samples are within the bound, the first n are.
  pub within_take : all_within bound (take n xs) ≡ true
  within_take = each_of (_ ∷ _ ∷ []) halves 0

  -- Where all samples are within the bound, those after the first n are.
  pub within_drop : all_within bound (drop n xs) ≡ true
  within_drop = each_of (all_within bound (take n xs) ∷ _ ∷ []) halves 1

  -- Where all samples are within the bound, each is.
  pub within_at : n < length xs → within bound (get_or xs n nan) ≡ true
  unfolding all_within
  within_at in_range = each_of (_ ∷ _ ∷ []) (ap (all_within bound) (sym (next xs n nan in_range)) ∙ within_drop) 0
