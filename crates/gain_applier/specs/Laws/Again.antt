-- Accepted states pass again: the one that `new` makes, and those after a frame and after another factor was set.
use Rattle.std.specs.Prelude.{◌≡◌, ℕ, ◌+◌, Bool, true, false, cond, ◌&&◌, List, [], ◌∷◌, length, pos, negsuc, ◌==◌, nat_le, refl, Float}
use Rattle.std.proofs.Common.{◌∙◌, arith}
use Rattle.std.proofs.lemmas.Bool.{false≢true}
use Rattle.std.proofs.Math.Dec.{eqb_refl}
use Rattle.std.specs.Float.{binary32}
use Rattle.std.specs.Float.Ieee.{of_bits, of_int, div, eq, size as bits}
use Rattle.std.specs.Float.Ieee.Bits.{is_true}
use Rattle.lists.specs.Tests.{each_of, ◌and◌}
use Rattle.rounding.specs.Units.{P, N, Number}
use Rattle.rounding.specs.Laws.Order.{eq_units}
use Rattle.units.specs.Figures.{gain_factor}
use Rattle.units.specs.Replies.{done}
use Rattle.units.specs.Laws.Replies.{none_refused}
use Rattle.frames.specs.Shape.{is_samples, is_shape}
use Rattle.frames.specs.Samples.{largest_input}
use Rattle.frames.specs.Refusal.{frame_refusal}
use Rattle.frames.specs.Facts.{samples_facts, taken}
use Rattle.gain_applier.specs.declared.Applier.{Applier}
use Rattle.gain_applier.specs.Applier.{remembered, inverse_of, passes, starting, none, made, arrived, applied, aimed}
use Rattle.gain_applier.specs.Laws.Inverse.{inverse_number}

-- what a state that passes has passed
pub record Passed (a : Applier) : Type 0 where
  pub last : gain_factor a.last ≡ true
  pub current : gain_factor a.current ≡ true
  pub samples : remembered a.samples ≡ true
  pub inverse : eq a.inverse (inverse_of a.samples) ≡ true

-- A state that passes has both factors in range, samples that are remembered and 1 over them.
pub passed : (a : Applier) → passes a ≡ true → Passed a
unfolding passes
passed a h =
    let p = each_of (_ ∷ _ ∷ _ ∷ _ ∷ []) h in
    record { last = p 0; current = p 1; samples = p 2; inverse = p 3 }

-- And what has all four passes.
pub passing : (a : Applier) → Passed a → passes a ≡ true
unfolding passes
passing a p = p.last and p.current and p.samples and p.inverse

-- A number equals itself.
pub equals_itself : (x : Float) → Number x → eq x x ≡ true
equals_itself x n = eq_units x x n n ∙ is_true (P x + N x == P x + N x) (eqb_refl (P x + N x))

-- Before the first frame the samples are -1, and so is 1 over them.
minus_one : eq (of_bits binary32 0xbf80_0000) (inverse_of (negsuc 0)) ≡ true
unfolding inverse_of of_bits of_int div eq bits
minus_one = refl

-- The state of a new applier passes.
pub starting_passes : (clip : Bool) (factor : Float) → gain_factor factor ≡ true → passes (starting clip factor) ≡ true
unfolding passes starting remembered
starting_passes clip factor g = g and g and refl and minus_one

-- The state after a frame passes.
pub arrived_passes : (a : Applier) (n : ℕ) → passes a ≡ true → is_samples n ≡ true → passes (arrived a n) ≡ true
unfolding passes arrived remembered
arrived_passes a n h s =
    let p = passed a h in
    let f = samples_facts n s in
    p.current and p.current and s and equals_itself (inverse_of (pos n)) (inverse_number n (omega arith) f.most)

-- The state with another factor to come passes.
pub aimed_passes : (a : Applier) (factor : Float) → passes a ≡ true → gain_factor factor ≡ true → passes (aimed a factor).applier ≡ true
unfolding aimed passes
aimed_passes a factor h g =
    let p = passed a h in
    go (passes a && gain_factor factor) (p.last and g and p.samples and p.inverse)
  where
    next : Applier
    next = record { clip = a.clip; last = a.last; current = factor; samples = a.samples; inverse = a.inverse }

    go : (b : Bool) → passes next ≡ true → passes (cond b next a) ≡ true
    go true k = k
    go false k = h

-- ---- of the calls: where the reply is 0, the state that comes out passes
-- A new applier that is not refused passes.
pub made_passes : (clip : Bool) (factor : Float) → (made clip factor).reply ≡ done → passes (made clip factor).applier ≡ true
unfolding made
made_passes clip factor h =
    let g = (none_refused true true (gain_factor factor) true h).2 in
    go (gain_factor factor) g (starting_passes clip factor g)
  where
    go : (b : Bool) → b ≡ true → passes (starting clip factor) ≡ true → passes (cond b (starting clip factor) none) ≡ true
    go true k p = p
    go false k p = absurd (false≢true k)

-- A frame whose shape passes has samples that do.
pub samples_pass : (channels samples length : ℕ) → is_shape channels samples length ≡ true → is_samples samples ≡ true
unfolding is_shape
samples_pass channels samples length h = each_of (nat_le 1 channels ∷ nat_le channels 8 ∷ _ ∷ _ ∷ []) h 2

-- After a frame that is not refused the state passes.
pub applied_passes : (a : Applier) (frame : List Float) (channels samples : ℕ)
    → (applied a frame channels samples).next.reply ≡ done → passes (applied a frame channels samples).next.applier ≡ true
unfolding applied
applied_passes a frame channels samples h =
    let t = taken frame channels samples true (passes a) true largest_input h in
    go (frame_refusal frame channels samples true (passes a) true largest_input == done) t.settings
    (arrived_passes a samples t.settings (samples_pass channels samples (length frame) t.shape))
  where
    go : (b : Bool) → passes a ≡ true → passes (arrived a samples) ≡ true → passes (cond b (arrived a samples) a) ≡ true
    go true p q = q
    go false p q = p

-- After another factor that is not refused the state passes.
pub set_passes : (a : Applier) (factor : Float) → (aimed a factor).reply ≡ done → passes (aimed a factor).applier ≡ true
unfolding aimed
set_passes a factor h = let t = none_refused true (passes a) (gain_factor factor) true h in aimed_passes a factor t.1 t.2
