-- What is published after any frames is what the frames that count make of the start: "the frames of closed runs that reached the threshold; then the
-- current run's, once it has reached it". Over any kind of state and any threshold from 1 on. Laws; `Stands` is what is kept from frame to frame.
-- Assumes nothing.
use Rattle.std.specs.Prelude.{◌≡◌, Bool, ℕ, ◌+◌, ◌≤◌, ◌<◌, ltb}
use Rattle.std.proofs.Math.Path.{refl, sym, ap, subst}
use Rattle.std.proofs.Common.{◌∙◌, arith, length-append}
use Rattle.std.proofs.Math.Bool.{true, false, cond}
use mathlib.Core.List.{List, [], ◌∷◌, ◌++◌}
use Rattle.std.proofs.Math.Dec.{leb}
use Rattle.std.proofs.Math.ListN.{length}
use borrow.Author.Tests.{leb-true, leb-false, ltb-true, ltb-false, le-leb, lt-leb}
use Rattle.runs.specs.Runs.{Run, longer, advanced, closed, framed, published}
use Rattle.runs.specs.Histories.{Frame, advanced_by, reached, counting, counted, Shown, showing, shown_after}
use Rattle.runs.specs.Laws.Counts.{held, held_longer, held_publishes, held_below, held_at}
use Rattle.runs.proofs.Short.{kept, thrown, idle, neither}

-- A state that frames advance one after the other.
pub advanced_append : {S : Type 0} (s : S) (fs gs : List (Frame S)) → advanced_by s (fs ++ gs) ≡ advanced_by (advanced_by s fs) gs
unfolding advanced_by
advanced_append s [] gs = refl
advanced_append s (f ∷ fs) gs = advanced_append (f.advance s) fs gs

module _ {A : Type 0} where
  -- A run that has reached the threshold counts,
  pub reached_long : (t : ℕ) (run : List A) → t ≤ length run → reached t run ≡ run
  unfolding reached
  reached_long t run h = rw (le-leb t (length run) h) refl

  -- and a shorter one does not.
  pub reached_short : (t : ℕ) (run : List A) → length run < t → reached t run ≡ []
  unfolding reached
  reached_short t run h = rw (lt-leb t (length run) h) refl

  pub one_longer : (run : List A) (f : A) → length (run ++ f ∷ []) ≡ length run + 1
  one_longer run f = length-append run (f ∷ [])

module _ {S B : Type 0} (g : S → B) (t : ℕ) where
  -- where a run stands behind kept frames that led to s, with the frames of the run that is open
  pub record Stands (s : S) (run : List (Frame S)) (x : Shown S B) : Type 0 where
    pub preliminary : x.run.preliminary ≡ advanced_by s run
    pub reliable : 1 < t → x.run.reliable ≡ s
    pub count : x.run.count ≡ held t (length run)
    pub value : x.value ≡ g (advanced_by s (reached t run))

  -- At the start no frame has come.
  pub stands_new : (s : S) → 1 ≤ t → Stands s [] (record { run = record { preliminary = s; reliable = s; count = 0 }; value = g s })
  unfolding advanced_by
  stands_new s one =
      record {
        preliminary = refl;
        reliable = λ h. refl;
        count = sym (held_below t 0 (omega arith));
        value = ap (λ (fs : List (Frame S)). g (advanced_by s fs)) (sym (reached_short t [] (omega arith)));
      }

  -- a frame, by whether it is speech
  by_speech : (f : Frame S) (b : Bool) → f.speech ≡ b → (x : Shown S B)
      → showing g t f x
      ≡ record {
        run = framed b f.advance t x.run;
        value = cond (published b t x.run.count) (g (framed b f.advance t x.run).preliminary) x.value;
      }
  unfolding showing
  by_speech f b e x =
      ap
      (λ (c : Bool). record {
        run = framed c f.advance t x.run;
        value = cond (published c t x.run.count) (g (framed c f.advance t x.run).preliminary) x.value;
      })
      e

  -- A speech frame joins the open run.
  pub stands_speech : (s : S) (run : List (Frame S)) (f : Frame S) (x : Shown S B) → f.speech ≡ true → Stands s run x → Stands s (run ++ f ∷ []) (showing g t f x)
  unfolding framed advanced published advanced_by
  stands_speech s run f x speech h =
      subst (Stands s (run ++ f ∷ [])) (sym (by_speech f true speech x))
      (record {
        preliminary = made;
        reliable = h.reliable;
        count = counts;
        value = rw (h.count, held_longer t (length run), held_publishes t (length run + 1)) (shows (leb t (length run + 1)) refl);
      })
    where
      made : f.advance x.run.preliminary ≡ advanced_by s (run ++ f ∷ [])
      made = ap f.advance h.preliminary ∙ sym (advanced_append s run (f ∷ []))

      counts : longer t x.run.count ≡ held t (length (run ++ f ∷ []))
      counts = rw (h.count, one_longer run f) (held_longer t (length run))

      shows : (b : Bool) → leb t (length run + 1) ≡ b
          → cond b (g (f.advance x.run.preliminary)) x.value ≡ g (advanced_by s (reached t (run ++ f ∷ [])))
      shows true e = ap g made ∙ rw (reached_long t (run ++ f ∷ []) (omega (arith, one_longer run f, leb-true t (length run + 1) e))) refl
      shows false e =
          let below = leb-false t (length run + 1) e in
          h.value ∙ rw (reached_short t run (omega arith), reached_short t (run ++ f ∷ []) (omega (arith, one_longer run f))) refl

  -- what a non-speech frame leaves: both states are s, the reliable one where it is used at all
  record Leaves (s : S) (r : Run S) : Type 0 where
    preliminary : r.preliminary ≡ s
    reliable : 1 < t → r.reliable ≡ s
    count : r.count ≡ 0

  both : (r : Run S) (s : S) → closed t r ≡ record { preliminary = s; reliable = s; count = 0 } → Leaves s (closed t r)
  both r s e =
      record {
        preliminary = ap (λ (x : Run S). x.preliminary) e;
        reliable = λ two. ap (λ (x : Run S). x.reliable) e;
        count = ap (λ (x : Run S). x.count) e;
      }

  alone : (r : Run S) → t ≡ 1 → Leaves r.preliminary (closed t r)
  alone r one =
      let e = neither t r one in
      record {
        preliminary = ap (λ (x : Run S). x.preliminary) e;
        reliable = λ two. absurd (omega arith);
        count = ap (λ (x : Run S). x.count) e;
      }

  -- after a run that has reached the threshold
  leaves_long : (r : Run S) → 1 ≤ t → t ≤ r.count → Leaves r.preliminary (closed t r)
  leaves_long r one h = go (ltb 1 t) refl
    where
      go : (b : Bool) → ltb 1 t ≡ b → Leaves r.preliminary (closed t r)
      go true e = both r r.preliminary (kept t r (ltb-true 1 t e) h)
      go false e = alone r (omega (arith, ltb-false 1 t e))

  -- after a shorter one, or none
  leaves_short : (r : Run S) (s : S) → 1 ≤ t → r.count < t → (1 < t → r.reliable ≡ s) → (r.count ≡ 0 → r.preliminary ≡ s) → Leaves s (closed t r)
  leaves_short r s one h same none = go (ltb 1 t) refl (ltb 0 r.count) refl
    where
      go : (b : Bool) → ltb 1 t ≡ b → (d : Bool) → ltb 0 r.count ≡ d → Leaves s (closed t r)
      go true e true k =
          let two = ltb-true 1 t e in
          subst (λ (z : S). Leaves z (closed t r)) (same two) (both r r.reliable (thrown t r two (ltb-true 0 r.count k) h))
      go true e false k =
          let two = ltb-true 1 t e in
          let zero : r.count ≡ 0 = omega (arith, ltb-false 0 r.count k) in
          both r s (idle t r two zero ∙ rw (none zero, same two) refl)
      go false e d k =
          let zero : r.count ≡ 0 = omega (arith, ltb-false 1 t e) in
          subst (λ (z : S). Leaves z (closed t r)) (none zero) (alone r (omega (arith, ltb-false 1 t e)))

  -- where no frame is in a run, it has no length
  empty : {A : Type 0} (run : List A) → length run ≡ 0 → run ≡ []
  empty [] h = refl
  empty (f ∷ run) h = absurd (omega arith)

  -- A non-speech frame keeps the open run where it has reached the threshold, and forgets it otherwise.
  pub stands_silence : (s : S) (run : List (Frame S)) (f : Frame S) (x : Shown S B) → 1 ≤ t → f.speech ≡ false → Stands s run x
      → Stands (advanced_by s (reached t run)) [] (showing g t f x)
  unfolding framed published advanced_by
  stands_silence s run f x one silence h =
      let left = leaves (leb t (length run)) refl in
      subst (Stands (advanced_by s (reached t run)) []) (sym (by_speech f false silence x))
      (record {
        preliminary = left.preliminary;
        reliable = left.reliable;
        count = left.count ∙ sym (held_below t 0 (omega arith));
        value = h.value ∙ ap (λ (fs : List (Frame S)). g (advanced_by (advanced_by s (reached t run)) fs)) (sym (reached_short t [] (omega arith)));
      })
    where
      leaves : (b : Bool) → leb t (length run) ≡ b → Leaves (advanced_by s (reached t run)) (closed t x.run)
      leaves true e =
          let long = leb-true t (length run) e in
          rw (reached_long t run long)
          (subst (λ (z : S). Leaves z (closed t x.run)) h.preliminary
          (leaves_long x.run one (omega (arith, h.count, held_at t (length run) long))))
      leaves false e =
          let short = leb-false t (length run) e in
          let count : x.run.count ≡ length run = h.count ∙ held_below t (length run) short in
          rw (reached_short t run short)
          (leaves_short x.run s one (omega (arith, count)) h.reliable
          (λ zero. h.preliminary ∙ ap (advanced_by s) (empty run (sym count ∙ zero))))

  -- From where a run stands, what is published after frames is what the frames that count make of it,
  pub published_from : (s : S) (run : List (Frame S)) (x : Shown S B) (fs : List (Frame S)) → 1 ≤ t → Stands s run x
      → (shown_after g t x fs).value ≡ g (advanced_by s (counting (λ f. f.speech) t run fs))
  unfolding shown_after counting
  published_from s run x [] one h = h.value
  published_from s run x (f ∷ fs) one h =
      go f.speech refl
      (λ e. published_from s (run ++ f ∷ []) (showing g t f x) fs one (stands_speech s run f x e h))
      (λ e. published_from (advanced_by s (reached t run)) [] (showing g t f x) fs one (stands_silence s run f x one e h))
    where
      joined : List (Frame S)
      joined = counting (λ e. e.speech) t (run ++ f ∷ []) fs

      afresh : List (Frame S)
      afresh = counting (λ e. e.speech) t [] fs

      shown : B
      shown = (shown_after g t (showing g t f x) fs).value

      go : (b : Bool) → f.speech ≡ b → (f.speech ≡ true → shown ≡ g (advanced_by s joined))
          → (f.speech ≡ false → shown ≡ g (advanced_by (advanced_by s (reached t run)) afresh))
          → shown ≡ g (advanced_by s (cond b joined (reached t run ++ afresh)))
      go true e spoken silent = spoken e
      go false e spoken silent = silent e ∙ ap g (sym (advanced_append s (reached t run) afresh))

  -- and so from the start.
  pub published_after : (s : S) (fs : List (Frame S)) → 1 ≤ t
      → (shown_after g t (record { run = record { preliminary = s; reliable = s; count = 0 }; value = g s }) fs).value
      ≡ g (advanced_by s (counted (λ f. f.speech) t fs))
  published_after s fs one = published_from s [] (record { run = record { preliminary = s; reliable = s; count = 0 }; value = g s }) fs one (stands_new s one)
