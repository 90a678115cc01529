-- Frames one after the other, as a run meets them: each is speech or not, and has its own way to advance a state. Definitions only.
use Rattle.std.specs.Prelude.{◌≡◌, Bool, true, cond, List, [], ◌∷◌, ◌++◌, ℕ, leb, length}
use Rattle.lists.specs.Each.{Each}
use Rattle.runs.specs.Runs.{Run, framed, published}

pub record Frame (S : Type 0) : Type 0 where
  pub speech : Bool
  pub advance : S → S

-- the run after frames
unfoldable pub after : {S : Type 0} → ℕ → Run S → List (Frame S) → Run S
unfolding framed
after t r [] = r
after t r (f ∷ fs) = after t (framed f.speech f.advance t r) fs

-- a state that each frame advances
unfoldable pub advanced_by : {S : Type 0} → S → List (Frame S) → S
advanced_by s [] = s
advanced_by s (f ∷ fs) = advanced_by (f.advance s) fs

-- each of these frames is speech
abbrev pub AllSpeech : {S : Type 0} → List (Frame S) → Type 0
AllSpeech fs = Each (λ f. f.speech ≡ true) fs

-- Where no run is open, the preliminary state is the reliable one.
pub record Settled {S : Type 0} (r : Run S) : Type 0 where
  pub same : r.count ≡ 0 → r.preliminary ≡ r.reliable

-- ---- which frames count, by the list of them alone
-- a run that has reached the threshold, and nothing of a shorter one
unfoldable pub reached : {A : Type 0} → ℕ → List A → List A
reached t run = cond (leb t (length run)) run []

-- "the frames of closed runs that reached the threshold; then the current run's, once it has reached it", behind an open run
unfoldable pub counting : {A : Type 0} → (A → Bool) → ℕ → List A → List A → List A
unfolding reached
counting speech t run [] = reached t run
counting speech t run (f ∷ fs) = cond (speech f) (counting speech t (run ++ f ∷ []) fs) (reached t run ++ counting speech t [] fs)

-- and from the first frame on
abbrev pub counted : {A : Type 0} → (A → Bool) → ℕ → List A → List A
counted speech t fs = counting speech t [] fs

-- ---- a result that is published
-- a run, and what was published last
pub record Shown (S B : Type 0) : Type 0 where
  pub run : Run S
  pub value : B

-- a frame: from the T-th of a run on, what g says of the preliminary state is published
unfoldable pub showing : {S B : Type 0} → (S → B) → ℕ → Frame S → Shown S B → Shown S B
unfolding framed published
showing g t f x =
    let next = framed f.speech f.advance t x.run in
    record { run = next; value = cond (published f.speech t x.run.count) (g next.preliminary) x.value }

unfoldable pub shown_after : {S B : Type 0} → (S → B) → ℕ → Shown S B → List (Frame S) → Shown S B
unfolding showing
shown_after g t x [] = x
shown_after g t x (f ∷ fs) = shown_after g t (showing g t f x) fs
