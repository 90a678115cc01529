-- Where the longest run stays below the threshold no frame counts; and a gap closes a run, and parts two. Laws.
-- Assumes nothing.
use Rattle.std.specs.Prelude.{◌≡◌, refl, Bool, true, false, cond, List, [], ◌∷◌, ◌++◌, ℕ, ◌+◌, ◌<◌, max, length}
use Rattle.std.proofs.Common.{arith}
use Rattle.runs.specs.Histories.{reached, counting, counted}
use Rattle.runs.proofs.Published.{reached_short, one_longer}
use Rattle.histories.specs.Histories.{Event, gap, is_speech, takes, only_taken}
use Rattle.histories.specs.Changes.{ahead}
use Rattle.histories.specs.Longest.{longest}
use Rattle.histories.specs.Laws.NoTrace.{ahead_speech}

-- ---- no frame counts
-- the speech frames that come first are a run
ahead_longest : (t : ℕ) (es : List Event) → 0 < t → longest es < t → ahead es < t
unfolding longest
ahead_longest t [] some h = some
ahead_longest t (e ∷ es) some h = omega (arith, h)

-- behind an open run that stays below the threshold
none_counts : (t : ℕ) (run es : List Event) → length run + ahead es < t → longest es < t → counting is_speech t run es ≡ []
unfolding counting longest
none_counts t run [] few h = reached_short t run (omega (arith, few))
none_counts t run (e ∷ es) few h = go (is_speech e) refl (λ more. none_counts t (run ++ e ∷ []) es more rest) (λ none. none_counts t [] es none rest)
  where
    rest : longest es < t
    rest = omega (arith, h)

    joined : List Event
    joined = counting is_speech t (run ++ e ∷ []) es

    afresh : List Event
    afresh = counting is_speech t [] es

    go : (b : Bool) → is_speech e ≡ b → (length (run ++ e ∷ []) + ahead es < t → joined ≡ []) → (0 + ahead es < t → afresh ≡ []) → cond b joined (reached t run ++ afresh) ≡ []
    go true spoken more none = more (omega (arith, few, ahead_speech e es spoken, one_longer run e))
    go false silent more none = rw (reached_short t run (omega (arith, few))) (none (omega (arith, ahead_longest t es (omega (arith, few)) rest)))

-- Where the longest run is below the threshold no frame counts.
pub none_counted : (t : ℕ) (es : List Event) → longest es < t → counted is_speech t es ≡ []
none_counted t es h = none_counts t [] es (omega (arith, ahead_longest t es (omega (arith, h)) h)) h

-- ---- a gap parts
ahead_parted : (xs ys : List Event) → ahead (xs ++ gap ∷ ys) ≡ ahead xs
unfolding ahead is_speech
ahead_parted [] ys = refl
ahead_parted (x ∷ xs) ys = rw (ahead_parted xs ys) refl

-- The longest run of two histories with a gap between them is that of the one or of the other.
pub longest_parted : (xs ys : List Event) → longest (xs ++ gap ∷ ys) ≡ max (longest xs) (longest ys)
unfolding longest ahead is_speech
longest_parted [] ys = refl
longest_parted (x ∷ xs) ys = omega (arith, longest_parted xs ys, ahead_parted (x ∷ xs) ys)

-- A gap is taken between what is taken of both.
pub only_parted : (n : ℕ) (xs ys : List Event) → only_taken n (xs ++ gap ∷ ys) ≡ only_taken n xs ++ gap ∷ only_taken n ys
unfolding only_taken takes
only_parted n [] ys = refl
only_parted n (x ∷ xs) ys = rw (only_parted n xs ys) (go (takes n x))
  where
    go : (b : Bool) → cond b (x ∷ (only_taken n xs ++ gap ∷ only_taken n ys)) (only_taken n xs ++ gap ∷ only_taken n ys) ≡ cond b (x ∷ only_taken n xs) (only_taken n xs) ++ gap ∷ only_taken n ys
    go true = refl
    go false = refl
