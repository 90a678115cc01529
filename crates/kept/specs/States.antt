-- What a caller in another language keeps of a limiter and of a chain: numbers in the place of flags, samples in 32 bits, and all else as it is. Definitions
-- only.
use Rattle.std.specs.Prelude.{Bool, ◌&&◌, cond, ℕ, ◌%◌, eqb, leb}
use Rattle.fixed_digital_level_estimator.specs.declared.Estimator.{Estimator}
use Rattle.limiter.specs.Limiter as Limiting
use Rattle.limiter.specs.declared.Limiter.{Limiter}
use Rattle.chain.specs.Calls as Chaining
use Rattle.chain.specs.declared.Chain.{Chain}
use Rattle.kept.specs.declared.states.KeptEnvelope.{KeptEnvelope}
use Rattle.kept.specs.declared.states.KeptLimiter.{KeptLimiter}
use Rattle.kept.specs.declared.states.KeptChain.{KeptChain}

-- ---- a flag is the number 0 or 1
unfoldable pub is_flag : ℕ → Bool
is_flag n = leb n 1

unfoldable pub flag_of : ℕ → Bool
flag_of n = eqb n 1

unfoldable pub number_of : Bool → ℕ
number_of b = cond b 1 0

-- ---- a number of 64 bits is kept in 32: its last ones, which are the number itself where it is below 2 ^ 32
unfoldable pub narrow : ℕ → ℕ
narrow n = n % 4294967296

-- ---- the limiter
unfoldable pub envelope_of : KeptEnvelope → Estimator
envelope_of k = record { level = k.level; samples = k.samples; part = k.part }

unfoldable pub kept_envelope : Estimator → KeptEnvelope
unfolding narrow
kept_envelope e = record { level = e.level; samples = narrow e.samples; part = narrow e.part }

unfoldable pub sound_limiter : KeptLimiter → Bool
unfolding is_flag
sound_limiter k = is_flag k.curve.available

unfoldable pub limiter_of : KeptLimiter → Limiter
unfolding flag_of envelope_of
limiter_of k =
    record {
      estimator = envelope_of k.estimator;
      curve =
          record {
            identity = k.curve.identity;
            knee = k.curve.knee;
            limiter = k.curve.limiter;
            saturation = k.curve.saturation;
            available = flag_of k.curve.available;
            region = k.curve.region;
            duration = k.curve.duration;
          };
      carried = k.carried;
    }

unfoldable pub kept_limiter : Limiter → KeptLimiter
unfolding number_of kept_envelope
kept_limiter l =
    record {
      estimator = kept_envelope l.estimator;
      carried = l.carried;
      curve =
          record {
            identity = l.curve.identity;
            knee = l.curve.knee;
            limiter = l.curve.limiter;
            saturation = l.curve.saturation;
            available = number_of l.curve.available;
            region = l.curve.region;
            duration = l.curve.duration;
          };
    }

-- what is kept of the limiter that is all 0
unfoldable pub none_limiter : KeptLimiter
unfolding kept_limiter Limiting.none
none_limiter = kept_limiter Limiting.none

-- ---- the chain
unfoldable pub sound_chain : KeptChain → Bool
unfolding is_flag sound_limiter
sound_chain k = is_flag k.estimator.confident && is_flag k.controller.applier.clip && sound_limiter k.limiter

unfoldable pub chain_of : KeptChain → Chain
unfolding flag_of limiter_of
chain_of k =
    record {
      estimator =
          record {
            settings = k.estimator.settings;
            threshold = k.estimator.threshold;
            initial = k.estimator.initial;
            preliminary = k.estimator.preliminary;
            reliable = k.estimator.reliable;
            level = k.estimator.level;
            confident = flag_of k.estimator.confident;
            count = k.estimator.count;
          };
      protector = k.protector;
      controller =
          record {
            applier =
                record {
                  clip = flag_of k.controller.applier.clip;
                  last = k.controller.applier.last;
                  current = k.controller.applier.current;
                  samples = k.controller.applier.samples;
                  inverse = k.controller.applier.inverse;
                };
            settings = k.controller.settings;
            threshold = k.controller.threshold;
            change = k.controller.change;
            waiting = k.controller.waiting;
            gain = k.controller.gain;
          };
      limiter = limiter_of k.limiter;
    }

unfoldable pub kept_chain : Chain → KeptChain
unfolding number_of kept_limiter
kept_chain c =
    record {
      estimator =
          record {
            settings = c.estimator.settings;
            threshold = c.estimator.threshold;
            initial = c.estimator.initial;
            preliminary = c.estimator.preliminary;
            reliable = c.estimator.reliable;
            level = c.estimator.level;
            confident = number_of c.estimator.confident;
            count = c.estimator.count;
          };
      protector = c.protector;
      controller =
          record {
            applier =
                record {
                  clip = number_of c.controller.applier.clip;
                  last = c.controller.applier.last;
                  current = c.controller.applier.current;
                  samples = c.controller.applier.samples;
                  inverse = c.controller.applier.inverse;
                };
            settings = c.controller.settings;
            threshold = c.controller.threshold;
            change = c.controller.change;
            waiting = c.controller.waiting;
            gain = c.controller.gain;
          };
      limiter = kept_limiter c.limiter;
    }

-- what is kept of the chain that is all 0
unfoldable pub none_chain : KeptChain
unfolding kept_chain Chaining.nothing
none_chain = kept_chain Chaining.nothing
