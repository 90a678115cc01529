-- `strip_run::frame_length` meets its contract: the first n of fewer are all of them. Assumes nothing.
use Rattle.std.proofs.Common.{◌≡◌, ℕ, ◌≤◌, List, take, replicate, sym, ap, ◌∙◌, arith, take_all}
use lib.Ieee.{Float, binary32, of_bits}
use Rattle.strip_run.specs.Lines.{silence}
use Rattle.strip_run.proofs.frame_length.Goals as goal

-- all that there are
whole : silence 480 ≡ replicate 480 (of_bits binary32 0x0000_0000)
unfolding silence
whole = take_all 480 (replicate 480 (of_bits binary32 0x0000_0000)) (omega arith)

first : (n : ℕ) → take n (silence 480) ≡ silence n
unfolding silence
first n = ap (λ (xs : List Float). take n xs) whole

-- so many silent samples are no more than there are
all : (n : ℕ) → 480 ≤ n → take 480 (silence 480) ≡ silence n
unfolding silence
all n h = first 480 ∙ whole ∙ sym (take_all n (replicate 480 (of_bits binary32 0x0000_0000)) h)

pub returns-then-samples-le-SAMPLES : goal.returns-then-samples-le-SAMPLES
returns-then-samples-le-SAMPLES c = record {
  upper_bound = c.if-samples-le-SAMPLES.true;
  silence_value = first _;
}

pub returns-else-samples-le-SAMPLES : goal.returns-else-samples-le-SAMPLES
returns-else-samples-le-SAMPLES c = record {
  upper_bound = omega arith;
  silence_value = all _ (omega (arith, c.if-samples-le-SAMPLES.false));
}
