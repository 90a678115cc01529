-- What a closed run leaves behind: a run shorter than the threshold nothing, and a longer one its preliminary state, over any kind of state
-- and any threshold. Laws.
-- Assumes nothing.
use Rattle.std.specs.Prelude.{◌≡◌, Bool, ℕ, suc, ◌+◌, ◌≤◌, ◌<◌}
use Rattle.std.proofs.Math.Path.{refl, sym, ap}
use Rattle.std.proofs.Common.{◌∙◌}
use Rattle.std.proofs.Math.Bool.{true, false}
use Rattle.std.proofs.lemmas.Bool.{false≢true}
use mathlib.Core.List.{List, [], ◌∷◌}
use native.Mathlib.Omega.{arith}
use Rattle.std.proofs.Math.Dec.{ltb}
use Rattle.std.proofs.Math.ListN.{length}
use borrow.Author.Tests.{lt-ltb, le-ltb, le-leb, lt-leb, ltb-true, ltb-false}
use Rattle.lists.specs.Each.{Each}
use Rattle.runs.specs.Runs.{Run, advanced, closed, framed, longer}
use Rattle.runs.specs.Histories.{Frame, after, advanced_by, AllSpeech, Settled}
use Rattle.runs.specs.Laws.Counts.{longer_below, longer_at, held, held_longer, held_below, held_at}

module _ {S : Type 0} (t : ℕ) where
  -- A run after speech frames: the preliminary state has advanced by each, the reliable one stays, and the count is held.
  pub after_speech : (r : Run S) (n : ℕ) (fs : List (Frame S)) → r.count ≡ held t n → AllSpeech fs
      → after t r fs ≡ record { preliminary = advanced_by r.preliminary fs; reliable = r.reliable; count = held t (n + length fs) }
  unfolding after advanced_by Each framed advanced
  after_speech r n [] h s =
      let count : r.count ≡ held t (n + 0) = h ∙ ap (held t) (omega arith) in
      ap (λ (c : ℕ). record { preliminary = r.preliminary; reliable = r.reliable; count = c }) count
  after_speech r n (f ∷ fs) h s =
      let next : Run S = advanced f.advance t r in
      let step : framed f.speech f.advance t r ≡ next = by_speech f.speech s.0 in
      let count : next.count ≡ held t (n + 1) = rw h (held_longer t n) in
      rw step (after_speech next (n + 1) fs count s.1 ∙ more)
    where
      by_speech : (b : Bool) → b ≡ true → framed b f.advance t r ≡ advanced f.advance t r
      by_speech true e = refl
      by_speech false e = absurd (false≢true e)

      ran : ℕ → Run S
      ran count = record { preliminary = advanced_by (f.advance r.preliminary) fs; reliable = r.reliable; count = count }

      more : ran (held t (n + 1 + length fs)) ≡ ran (held t (n + suc (length fs)))
      more = ap (λ (k : ℕ). ran (held t k)) (omega arith)

  -- "A non-speech frame keeps a run of T or more"
  pub kept : (r : Run S) → 1 < t → t ≤ r.count → closed t r ≡ record { preliminary = r.preliminary; reliable = r.preliminary; count = 0 }
  unfolding closed
  kept r two h = rw (lt-ltb 1 t two, le-leb t r.count h, le-ltb r.count t h, lt-ltb 0 r.count (omega arith)) refl

  -- "and throws away a shorter one"
  pub thrown : (r : Run S) → 1 < t → 0 < r.count → r.count < t → closed t r ≡ record { preliminary = r.reliable; reliable = r.reliable; count = 0 }
  unfolding closed
  thrown r two some h = rw (lt-ltb 1 t two, lt-leb t r.count h, lt-ltb r.count t h, lt-ltb 0 r.count some) refl

  -- Where no run is open, a non-speech frame changes neither state.
  pub idle : (r : Run S) → 1 < t → r.count ≡ 0 → closed t r ≡ record { preliminary = r.preliminary; reliable = r.reliable; count = 0 }
  unfolding closed
  idle r two h = rw (h, lt-ltb 1 t two, lt-leb t 0 (omega arith)) refl

  -- "with T = 1 it does neither"
  pub neither : (r : Run S) → t ≡ 1 → closed t r ≡ record { preliminary = r.preliminary; reliable = r.reliable; count = 0 }
  unfolding closed
  neither r one = rw one refl

  -- A new run, with both states alike, is settled.
  pub new_settled : (s : S) → Settled (record { preliminary = s; reliable = s; count = 0 })
  new_settled s = record { same = λ h. refl }

  -- A settled run stays settled whatever frame comes, where the threshold is two or more.
  pub framed_settled : (speech : Bool) (advance : S → S) (r : Run S) → 1 < t → Settled r → Settled (framed speech advance t r)
  unfolding framed advanced
  framed_settled true advance r two s = record { same = λ h. absurd (grown (ltb r.count t) refl h) }
    where
      grown : (b : Bool) → ltb r.count t ≡ b → longer t r.count ≡ 0 → ⊥
      grown true e h = omega (arith, longer_below t r.count (ltb-true r.count t e), h)
      grown false e h = let at = ltb-false r.count t e in omega (arith, longer_at t r.count at, h)
  framed_settled false advance r two s = go (ltb r.count t) refl (ltb 0 r.count) refl
    where
      go : (b : Bool) → ltb r.count t ≡ b → (d : Bool) → ltb 0 r.count ≡ d → Settled (closed t r)
      go false e d k = rw (kept r two (ltb-false r.count t e)) (record { same = λ h. refl })
      go true e true k = rw (thrown r two (ltb-true 0 r.count k) (ltb-true r.count t e)) (record { same = λ h. refl })
      go true e false k =
          let none : r.count ≡ 0 = omega (arith, ltb-false 0 r.count k) in
          rw (idle r two none) (record { same = λ h. s.same none })

  -- A settled run with no run open is as it was after any non-speech frame,
  pub quiet : (r : Run S) → 1 < t → r.count ≡ 0 → closed t r ≡ r
  quiet r two h = idle r two h ∙ rw (sym h) refl

  -- and after any run that is shorter than the threshold and closed by a non-speech frame: it leaves no trace.
  pub short_run : (r : Run S) (fs : List (Frame S)) → 1 < t → Settled r → r.count ≡ 0 → AllSpeech fs → length fs < t → closed t (after t r fs) ≡ r
  unfolding after
  short_run r [] two s none speech h = quiet r two none
  short_run r (f ∷ fs) two s none speech h =
      let start : r.count ≡ held t 0 = none ∙ sym (held_below t 0 (omega arith)) in
      let ran : Run S = record { preliminary = advanced_by r.preliminary (f ∷ fs); reliable = r.reliable; count = held t (0 + length (f ∷ fs)) } in
      let count : ran.count ≡ length (f ∷ fs) = held_below t (0 + length (f ∷ fs)) (omega (arith, h)) ∙ omega arith in
      rw (after_speech r 0 (f ∷ fs) start speech, thrown ran two (rw count (omega (arith, length_some))) (rw count h)) (back (s.same none))
    where
      length_some : 0 < length (f ∷ fs)
      length_some = omega arith

      back : r.preliminary ≡ r.reliable → record { preliminary = r.reliable; reliable = r.reliable; count = 0 } ≡ r
      back e = rw (sym e, sym none) refl

  -- A run that reached the threshold is kept: both states are the preliminary one, advanced by each of its frames.
  pub long_run : (r : Run S) (fs : List (Frame S)) → 1 < t → r.count ≡ 0 → AllSpeech fs → t ≤ length fs
      → closed t (after t r fs) ≡ record { preliminary = advanced_by r.preliminary fs; reliable = advanced_by r.preliminary fs; count = 0 }
  long_run r fs two none speech h =
      let start : r.count ≡ held t 0 = none ∙ sym (held_below t 0 (omega arith)) in
      let ran : Run S = record { preliminary = advanced_by r.preliminary fs; reliable = r.reliable; count = held t (0 + length fs) } in
      let count : ran.count ≡ t = held_at t (0 + length fs) (omega arith) in
      rw (after_speech r 0 fs start speech) (kept ran two (rw count (omega arith)))
