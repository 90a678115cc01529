-- What each call of the library answers, refusals first. A number that stands for a flag and is none fails the state's test, as the rest of the state
-- may. Definitions only.
use Rattle.std.specs.Prelude.{Bool, true, ◌&&◌, cond, List, ℕ, eqb, get_or, Float, Result, Ok, Err}
use Rattle.std.specs.Float.{binary32}
use Rattle.std.specs.Float.Ieee.{of_bits}
use Rattle.units.specs.Figures.{accepted}
use Rattle.units.specs.Replies.{done, bad_setting, refusal}
use Rattle.units.specs.declared.figures.Figures.{Figures}
use Rattle.units.specs.declared.settings.Settings.{Settings}
use Rattle.frames.specs.Samples.{largest_input, largest_level}
use Rattle.frames.specs.Refusal.{frame_refusal}
use Rattle.limiter.specs.Limiter as Limiting
use Rattle.limiter.specs.Limiter.{Heard}
use Rattle.units.specs.Handed.{number_of as number_of_refusal}
use Rattle.units.specs.declared.kinds.LinearS16.{LinearS16}
use Rattle.units.specs.declared.refusals.Refusal.{Refusal}
use Rattle.chain.specs.Answer.{Said, non_speech}
use Rattle.chain.specs.Chain as Chains
use Rattle.chain.specs.Calls as Chaining
use Rattle.chain.specs.declared.Published.{Published as ChainPublished}
use Rattle.chain.specs.Calls.{Reading as ChainReading}
use Rattle.kept.specs.States.{number_of, sound_limiter, limiter_of, kept_limiter, sound_chain, chain_of, kept_chain}
use Rattle.kept.specs.declared.states.KeptLimiter.{KeptLimiter}
use Rattle.kept.specs.declared.states.KeptChain.{KeptChain}
use Rattle.kept.specs.declared.calls.KeptAnswer.{KeptAnswer}
use Rattle.kept.specs.declared.calls.Published.{Published}
use Rattle.kept.specs.declared.calls.Stepped.{Stepped}

abbrev zero : Float
zero = of_bits binary32 0x0000_0000

-- ---- what each call tells, by a reply's number: of a refusal its number, with what stands there then
-- a limiter: a new one, all 0 where it is refused; or the one that goes on, which is the one that came in where it is refused
pub record NewLimiter : Type 0 where
  pub reply : ℕ
  pub limiter : KeptLimiter

unfoldable pub told_limiter : KeptLimiter → Result KeptLimiter Refusal → NewLimiter
unfolding number_of_refusal
told_limiter k (Ok l) = record { reply = done; limiter = l }
told_limiter k (Err e) = record { reply = number_of_refusal e; limiter = k }

-- the envelope's last value: 0 where it is refused
pub record LevelRead : Type 0 where
  pub reply : ℕ
  pub level : LinearS16

unfoldable pub told_level : Result LinearS16 Refusal → LevelRead
unfolding number_of_refusal
told_level (Ok x) = record { reply = done; level = x }
told_level (Err e) = record { reply = number_of_refusal e; level = record { 0 = zero } }

-- a chain: a new one, all 0 where it is refused; or the one that goes on after a gap, which is the one that came in where it is refused
pub record NewChain : Type 0 where
  pub reply : ℕ
  pub chain : KeptChain

unfoldable pub told_chain : KeptChain → Result KeptChain Refusal → NewChain
unfolding number_of_refusal
told_chain k (Ok c) = record { reply = done; chain = c }
told_chain k (Err e) = record { reply = number_of_refusal e; chain = k }

-- what a frame was, and the chain that goes on: no speech and the one that came in, where it is refused
pub record NextChain : Type 0 where
  pub reply : ℕ
  pub answer : KeptAnswer
  pub chain : KeptChain

-- what the chain publishes: all 0 where it is refused
pub record Reading : Type 0 where
  pub reply : ℕ
  pub published : Published

-- ---- the limiter alone
unfoldable pub limiter_passes : KeptLimiter → Bool
unfolding sound_limiter limiter_of Limiting.passes
limiter_passes k = sound_limiter k && Limiting.passes (limiter_of k)

-- a refused one is all 0
unfoldable pub limiter_made : ℕ → NewLimiter
unfolding Limiting.made kept_limiter
limiter_made samples = let m = Limiting.made samples in record { reply = m.reply; limiter = kept_limiter m.limiter }

-- a call over a lent frame: what it answers, and the frame as it leaves it
pub record LimiterStepped : Type 0 where
  pub next : NewLimiter
  pub frame : List Float

unfoldable pub limiter_stepped : KeptLimiter → List Float → ℕ → ℕ → LimiterStepped
unfolding frame_refusal limiter_passes limiter_of kept_limiter Limiting.processed
limiter_stepped k frame channels samples =
    let reply = frame_refusal frame channels samples (eqb samples k.estimator.samples) (limiter_passes k) true largest_level in
    let p = Limiting.processed (limiter_of k) frame channels samples in
    record {
      next = record { reply = reply; limiter = cond (eqb reply done) (kept_limiter p.next.limiter) k };
      frame = cond (eqb reply done) p.frame frame;
    }

-- the envelope's last value: what the limiter tells, where the flags are flags, and otherwise 4 and 0
unfoldable pub limiter_read : KeptLimiter → LevelRead
unfolding sound_limiter limiter_of Limiting.heard
limiter_read k =
    let nothing : Heard = record { reply = bad_setting; level = record { 0 = zero } } in
    let told = cond (sound_limiter k) (Limiting.heard (limiter_of k)) nothing in
    record { reply = told.reply; level = told.level }

-- ---- the chain
unfoldable pub chain_passes : KeptChain → Bool
unfolding sound_chain chain_of Chains.passes
chain_passes k = sound_chain k && Chains.passes (chain_of k)

-- of settings, a threshold, the samples of a channel and the capacity of the rings; a refused one is all 0
unfoldable pub chain_made : Settings → ℕ → ℕ → ℕ → NewChain
unfolding Chaining.made kept_chain
chain_made s t samples capacity = let m = Chaining.made s t samples capacity in record { reply = m.reply; chain = kept_chain m.chain }

-- an answer as numbers: its kind, how many frames are missing, the level and the headroom; 0 where it says nothing of them
unfoldable pub kept_answer : Said → KeptAnswer
kept_answer s = record { kind = s.number; missing = s.missing; level = record { 0 = get_or s.values 0 zero }; headroom = record { 0 = get_or s.values 1 zero } }

unfoldable pub told_step : KeptChain → Result Stepped Refusal → NextChain
unfolding number_of_refusal kept_answer
told_step k (Ok s) = record { reply = done; answer = s.answer; chain = s.chain }
told_step k (Err e) = record { reply = number_of_refusal e; answer = kept_answer non_speech; chain = k }

pub record ChainStepped : Type 0 where
  pub next : NextChain
  pub frame : List Float

unfoldable pub chain_stepped : KeptChain → Figures → List Float → ℕ → ℕ → ChainStepped
unfolding frame_refusal chain_passes accepted chain_of kept_chain kept_answer Chaining.called
chain_stepped k f frame channels samples =
    let reply = frame_refusal frame channels samples (eqb samples (Chains.samples_of (chain_of k))) (chain_passes k) (accepted f) largest_input in
    let c = Chaining.called (chain_of k) f frame channels samples in
    record {
      next =
          record {
            reply = reply;
            answer = kept_answer (cond (eqb reply done) c.told.answer non_speech);
            chain = cond (eqb reply done) (kept_chain c.told.chain) k;
          };
      frame = cond (eqb reply done) c.frame frame;
    }

-- a gap of the chain inside; it has neither figures nor sound, so it is refused for the state alone, and then the one that came in stays
unfoldable pub chain_gapped : KeptChain → NewChain
unfolding refusal chain_passes chain_of kept_chain Chaining.gap
chain_gapped k = record { reply = refusal true (chain_passes k) true true; chain = cond (chain_passes k) (kept_chain (Chaining.gap (chain_of k)).chain) k }

-- what a chain publishes, with a number for the flag
unfoldable pub kept_published : ChainPublished → Published
unfolding number_of
kept_published p = record { level = p.level; headroom = p.headroom; gain = p.gain; confident = number_of p.confident }

unfoldable pub told_published : Result Published Refusal → Reading
unfolding number_of_refusal kept_published
told_published (Ok p) = record { reply = done; published = p }
told_published (Err e) = record { reply = number_of_refusal e; published = kept_published Chaining.nothing_published }

-- what the chain tells, where the flags are flags, and otherwise 4 and all 0
unfoldable pub chain_read : KeptChain → Reading
unfolding sound_chain chain_of Chaining.published_told kept_published
chain_read k =
    let nothing : ChainReading = record { reply = bad_setting; published = Chaining.nothing_published } in
    let told = cond (sound_chain k) (Chaining.published_told (chain_of k)) nothing in
    record { reply = told.reply; published = kept_published told.published }
