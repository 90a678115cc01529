-- The call of an event, at a chain that passes: its step where the chain takes the event, and otherwise nothing changes. Laws.
-- Assumes nothing.
use Rattle.std.specs.Prelude.{◌≡◌, Bool, ℕ, eqb}
use Rattle.std.proofs.Math.Path.{refl, ap, subst}
use Rattle.std.proofs.Common.{sym, ◌∙◌}
use Rattle.std.proofs.Math.Bool.{true, false, false≢true}
use mathlib.Core.List.{List, [], ◌∷◌}
use Rattle.lists.specs.Each.{Each}
use Rattle.lists.specs.Tests.{each_of, ◌and◌}
use Rattle.units.specs.Replies.{done}
use Rattle.units.specs.Figures.{accepted}
use Rattle.units.specs.declared.figures.Figures.{Figures}
use Rattle.frames.specs.Samples.{largest_input}
use Rattle.frames.specs.Facts.{taken, not_refused}
use Rattle.limiter.specs.Scale.{FullScale}
use Rattle.chain.specs.Answer.{non_speech}
use Rattle.chain.specs.Chain.{passes, samples_of, published}
use Rattle.chain.specs.Calls.{Called, refused, called}
use Rattle.chain.specs.declared.Chain.{Chain}
use Rattle.chain.specs.declared.Published.{Published}
use Rattle.chain.specs.Laws.Steps.{stepped_samples}
use Rattle.chain.specs.Laws.Calls.{shown, called_refused, called_accepted, called_ready, called_full_scale}
use Rattle.chain.specs.Laws.Gaps.{gap_taken, gap_samples, gap_ready}
use Rattle.chain.specs.Calls.{Gapped}
use Rattle.histories.specs.Histories.{Sound, Event, frame, gap, takes, next, after, Out, out}
use Rattle.histories.specs.Held.{HeldEvent, ReadyAt}
use Rattle.histories.specs.Laws.Steps.{step_of}

-- ---- a frame
-- what its call hands out
abbrev handed : Called → Out
handed x = record { figures = published x.told.chain; sound = x.frame }

module _ (n : ℕ) (c : Chain) (r : ReadyAt n c) (f : Figures) (s : Sound) where
  abbrev call : Called
  call = called c f s.buffer s.channels s.samples

  -- One that is taken is not refused,
  taken_done : takes n (frame f s) ≡ true → refused c f s.buffer s.channels s.samples ≡ done
  unfolding takes refused
  taken_done h =
      let p = each_of (_ ∷ _ ∷ _ ∷ _ ∷ []) h in
      not_refused s.buffer s.channels s.samples (eqb s.samples (samples_of c)) (passes c) (accepted f) largest_input
      (record { shape = p 0; same = rw r.samples (p 1); settings = r.ready.state; figures = p 2; sound = p 3 })

  -- and one that is not taken is.
  not_taken : takes n (frame f s) ≡ false → refused c f s.buffer s.channels s.samples ≡ done → ⊥
  unfolding takes refused
  not_taken h e =
      let t = taken s.buffer s.channels s.samples (eqb s.samples (samples_of c)) (passes c) (accepted f) largest_input e in
      false≢true (sym h ∙ (t.shape and (rw r.samples at t.same) and t.figures and t.sound))

  frame_refused : takes n (frame f s) ≡ false → call ≡ record { told = record { reply = refused c f s.buffer s.channels s.samples; answer = non_speech; chain = c }; frame = s.buffer }
  frame_refused h = called_refused c f s.buffer s.channels s.samples refl (not_taken h)

  frame_done : takes n (frame f s) ≡ true → call.told.reply ≡ done
  unfolding called
  frame_done h = taken_done h

-- ---- an event
-- the figures that come out are those of the chain after it
pub out_figures : (c : Chain) (e : Event) → (out c e).figures ≡ published (next c e)
unfolding out
out_figures c (frame f s) = refl
out_figures c gap = refl

-- What comes out at a refused event of two chains that publish the same.
pub out_refused : (n : ℕ) (a b : Chain) (e : Event) → ReadyAt n a → ReadyAt n b → takes n e ≡ false → published a ≡ published b → out a e ≡ out b e
unfolding out next takes
out_refused n a b (frame f s) r q h same =
    ap handed (frame_refused n a r f s h) ∙ ap (λ (p : Published). record { figures = p; sound = s.buffer }) same ∙ sym (ap handed (frame_refused n b q f s h))
out_refused n a b gap r q h same = absurd (false≢true (sym h))

module _ (n : ℕ) (c : Chain) (r : ReadyAt n c) where
  -- An event that is taken makes its step,
  pub next_is : (e : Event) → takes n e ≡ true → next c e ≡ (step_of c e).chain
  unfolding next step_of shown
  next_is (frame f s) h = ap (λ (x : Called). x.told.chain) (called_accepted c f s.buffer s.channels s.samples (taken_done n c r f s h))
  next_is gap h = ap (λ (x : Gapped). x.chain) (gap_taken c r.ready.state)

  pub out_is : (e : Event) → takes n e ≡ true → out c e ≡ (step_of c e).out
  unfolding out next step_of shown
  out_is (frame f s) h = ap handed (called_accepted c f s.buffer s.channels s.samples (taken_done n c r f s h))
  out_is gap h = ap (λ (x : Gapped). record { figures = published x.chain; sound = [] }) (gap_taken c r.ready.state)

  -- and one that is refused leaves the chain as it was.
  pub next_refused : (e : Event) → takes n e ≡ false → next c e ≡ c
  unfolding next takes
  next_refused (frame f s) h = ap (λ (x : Called). x.told.chain) (frame_refused n c r f s h)
  next_refused gap h = absurd (false≢true (sym h))

  -- After every event the chain passes again,
  pub next_ready : (e : Event) → HeldEvent e → ReadyAt n (next c e)
  unfolding next step_of
  next_ready e held = go e held (takes n e) refl
    where
      go : (d : Event) → HeldEvent d → (b : Bool) → takes n d ≡ b → ReadyAt n (next c d)
      go (frame f s) h true taken =
          record {
            ready = called_ready c f s.buffer s.channels s.samples r.ready.held h.0 h.1 (frame_done n c r f s taken);
            samples = ap samples_of (next_is (frame f s) taken) ∙ stepped_samples c f s.buffer s.channels s.samples ∙ r.samples;
          }
      go gap h true taken = record { ready = gap_ready c r.ready; samples = gap_samples c ∙ r.samples }
      go d h false taken = subst (ReadyAt n) (sym (next_refused d taken)) r

  -- and what comes out of one that is taken is of full scale.
  pub out_full_scale : (e : Event) → HeldEvent e → takes n e ≡ true → FullScale (out c e).sound
  unfolding out Each
  out_full_scale (frame f s) h taken = called_full_scale c f s.buffer s.channels s.samples r.ready.held h.0 h.1 (frame_done n c r f s taken)
  out_full_scale gap h taken = tt

-- So it passes after every history.
pub after_ready : (n : ℕ) (c : Chain) (es : List Event) → ReadyAt n c → Each HeldEvent es → ReadyAt n (after c es)
unfolding after Each
after_ready n c [] r held = r
after_ready n c (e ∷ es) r held = after_ready n (next c e) es (next_ready n c r e held.0) held.1
