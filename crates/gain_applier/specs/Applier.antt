-- The state of the applier, and what each call answers, refusals first. Definitions only.
use Rattle.std.specs.Prelude.{ℕ, zero, suc, Bool, true, false, cond, ◌&&◌, List, ℤ, pos, negsuc, ◌==◌, from_bits, Float}
use Rattle.std.specs.Float.{binary32}
use Rattle.std.specs.Float.Ieee.{of_int, div, eq}
use Rattle.units.specs.Figures.{gain_factor}
use Rattle.units.specs.Replies.{done, refusal}
use Rattle.frames.specs.Shape.{is_samples}
use Rattle.frames.specs.Samples.{largest_input}
use Rattle.frames.specs.Refusal.{frame_refusal}
use Rattle.gain_applier.specs.Sound.{gained, finished}
use Rattle.gain_applier.specs.declared.Applier.{Applier}

-- "samples a shape's (an applier's also -1)"
unfoldable pub remembered : ℤ → Bool
unfolding is_samples
remembered (pos n) = is_samples n
remembered (negsuc zero) = true
remembered (negsuc (suc n)) = false

-- 1 over the samples; before the first frame, where they are -1, that is -1
unfoldable pub inverse_of : ℤ → Float
inverse_of samples = div binary32 (from_bits binary32 0x3f80_0000) (of_int binary32 samples)

-- "gain factor above 0, below 512; .. inverse as [its] rule gives"
unfoldable pub passes : Applier → Bool
unfolding remembered inverse_of
passes a = gain_factor a.last && gain_factor a.current && remembered a.samples && eq a.inverse (inverse_of a.samples)

-- all fields 0 and false
unfoldable pub none : Applier
none = record { clip = false; last = from_bits binary32 0x0000_0000; current = from_bits binary32 0x0000_0000; samples = pos 0; inverse = from_bits binary32 0x0000_0000 }

unfoldable pub starting : Bool → Float → Applier
starting clip factor = record { clip = clip; last = factor; current = factor; samples = negsuc 0; inverse = from_bits binary32 0xbf80_0000 }

-- a reply, and the applier that goes on from there: the one that came in where it is refused, and all 0 and false where it is a new one
pub record Next : Type 0 where
  pub reply : ℕ
  pub applier : Applier

-- a reply, and a gain factor: 0 where it is refused
pub record Factor : Type 0 where
  pub reply : ℕ
  pub factor : Float

-- a new applier: reply 2 where the factor is out of range
unfoldable pub made : Bool → Float → Next
unfolding refusal starting none
made clip factor = record { reply = refusal true true (gain_factor factor) true; applier = cond (gain_factor factor) (starting clip factor) none }

-- after a frame: the ramp has arrived, and the samples are remembered with 1 over them
unfoldable pub arrived : Applier → ℕ → Applier
unfolding inverse_of
arrived a samples = record { clip = a.clip; last = a.current; current = a.current; samples = pos samples; inverse = inverse_of (pos samples) }

-- a call over a lent frame: what it answers, and the frame as it leaves it
pub record Applied : Type 0 where
  pub next : Next
  pub frame : List Float

unfoldable pub applied : Applier → List Float → ℕ → ℕ → Applied
unfolding frame_refusal passes arrived inverse_of gained finished
applied a frame channels samples =
    let reply = frame_refusal frame channels samples true (passes a) true largest_input in
    record {
      next = record { reply = reply; applier = cond (reply == done) (arrived a samples) a };
      frame = cond (reply == done) (finished a.clip (gained a.last a.current (inverse_of (pos samples)) channels samples frame)) frame;
    }

-- the gain factor to end the next frame with: 4 for the state comes before 2 for the factor
unfoldable pub aimed : Applier → Float → Next
unfolding refusal passes
aimed a factor =
    record {
      reply = refusal true (passes a) (gain_factor factor) true;
      applier = cond (passes a && gain_factor factor) (record { clip = a.clip; last = a.last; current = factor; samples = a.samples; inverse = a.inverse }) a;
    }

unfoldable pub told : Applier → Factor
unfolding refusal passes
told a = record { reply = refusal true (passes a) true true; factor = cond (passes a) a.current (from_bits binary32 0x0000_0000) }
