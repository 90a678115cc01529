-- The three ways in which a run begins. Laws.
-- Assumes nothing.
use Rattle.std.specs.Prelude.{◌≡◌, ℕ, true, List, refl}
use Rattle.std.proofs.Common.{eq-eqb, ne_eqb}
use Rattle.units.specs.Replies.{done}
use Rattle.chain.specs.Calls.{Made, made}
use Rattle.chain.specs.declared.Chain.{Chain}
use Rattle.strip_format.specs.declared.Head.{Head}
use Rattle.units.specs.Output.{Put}
use Rattle.wav_format.specs.Head.{head_length, put_head}
use Rattle.recording_run.specs.Levelling.{Beginning, extent_of, begun, opened}
use Rattle.recording_run.specs.declared.levelling.Begun as Declared

module _ (head : Head) (capacity channels samples mask size : ℕ) (out : List ℕ) where
  abbrev pub new : Made
  new = made head.settings head.threshold head.samples capacity

  abbrev pub written : Put
  written = put_head channels samples mask (extent_of size channels).size out

  abbrev pub all : Beginning
  all = begun head capacity channels samples mask size out

  -- The strip is for other samples, or the chain is refused, and nothing is written;
  pub not_made : samples ≡ head.samples → (new.reply ≡ done → ⊥) → (all.begun.reply ≡ new.reply) × (all.out ≡ out)
  unfolding begun
  not_made e n = (rw (eq-eqb _ _ e, ne_eqb _ _ n), rw (eq-eqb _ _ e, ne_eqb _ _ n))

  -- or the head is written, or refused,
  pub is_made : samples ≡ head.samples → new.reply ≡ done
      → all ≡ record {
        begun = record { reply = written.reply; head = head_length mask; run = record { chain = new.chain; number = 1; frames = 0; left = (extent_of size channels).left; more = true; well = true; refused = 0 } };
        out = written.out;
      }
  unfolding begun
  is_made e d = rw (eq-eqb _ _ e, eq-eqb _ _ d)

  -- and this is the run then.
  pub opened_is : {chain : Chain} {long left : ℕ} → samples ≡ head.samples → new.reply ≡ done → new.chain ≡ chain → long ≡ head_length mask → left ≡ (extent_of size channels).left
      → ◌≡◌ {A = Declared.Begun} (record { head = long; run = record { chain = chain; number = 1; frames = 0; left = left; more = true; well = true; refused = 0 } }) (opened all.begun)
  opened_is e d c l x = rw (is_made e d, c, l, x)
