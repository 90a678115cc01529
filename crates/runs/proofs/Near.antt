-- Two runs that differ only in a short one, each with what it published last: they have published the same all the while, and are the same once the
-- short run is closed. Laws; `Near` is what is kept meanwhile.
-- Assumes nothing.
use Rattle.std.specs.Prelude.{◌≡◌, Bool, ℕ, ◌+◌, ◌<◌}
use Rattle.std.proofs.Math.Path.{refl, sym}
use Rattle.std.proofs.Common.{◌∙◌}
use Rattle.std.proofs.Math.Bool.{true, false}
use Rattle.std.proofs.lemmas.Bool.{false≢true}
use Rattle.runs.specs.Runs.{framed, published}
use Rattle.runs.specs.Histories.{Frame, Settled, Shown, showing}
use Rattle.runs.proofs.Apart.{Apart, apart_itself, apart_closed, apart_stays, nothing_published_lem}

module _ {S B : Type 0} (g : S → B) (t : ℕ) where
  -- the runs are apart, and the same was published last
  pub record Near (x y : Shown S B) : Type 0 where
    pub apart : Apart t x.run y.run
    pub value : x.value ≡ y.value

  -- A settled run that has not reached the threshold is near to itself.
  pub near_itself : (x : Shown S B) → Settled x.run → x.run.count < t → Near x x
  near_itself x s h = record { apart = apart_itself t x.run s h; value = refl }

  -- what a frame below the threshold shows is what was shown before
  stays_shown : (f : Frame S) (x : Shown S B) → x.run.count < t → (f.speech ≡ true → x.run.count + 1 < t) → (showing g t f x).value ≡ x.value
  unfolding showing
  stays_shown f x h more = rw (nothing_published_lem t f.speech x.run.count h more) refl

  -- Whatever frame each meets, they stay near, as long as a speech frame does not reach the threshold.
  pub near_stays : (f d : Frame S) (x y : Shown S B) → 1 < t → Near x y → (f.speech ≡ true → x.run.count + 1 < t) → (d.speech ≡ true → y.run.count + 1 < t)
      → Near (showing g t f x) (showing g t d y)
  unfolding showing
  near_stays f d x y two n more other =
      record {
        apart = both;
        value = stays_shown f x n.apart.first more ∙ n.value ∙ sym (stays_shown d y n.apart.second other);
      }
    where
      both : Apart t (showing g t f x).run (showing g t d y).run
      both = apart_stays t f.speech d.speech f.advance d.advance x.run y.run two n.apart more other

  -- After a non-speech frame they are the same.
  pub near_closed : (f : Frame S) (x y : Shown S B) → 1 < t → Near x y → f.speech ≡ false → showing g t f x ≡ showing g t f y
  unfolding showing framed published
  near_closed f x y two n silent = go f.speech silent
    where
      go : (b : Bool) → b ≡ false → showing g t (record { speech = b; advance = f.advance }) x ≡ showing g t (record { speech = b; advance = f.advance }) y
      go true e = absurd (false≢true (sym e))
      go false e = rw (apart_closed t x.run y.run two n.apart, n.value) refl
