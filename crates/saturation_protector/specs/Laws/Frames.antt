-- A frame by what `runs` tells the code of it. A law.
-- Assumes nothing.
use Rattle.std.specs.Prelude.{◌≡◌, refl, Bool, true, false, cond, Float}
use Rattle.std.proofs.Common.{ap, ◌∙◌}
use Rattle.runs.specs.Runs.{speech, framed, advanced, closed, published, turned}
use Rattle.saturation_protector.specs.Peaks as Peaks
use Rattle.saturation_protector.specs.Protector.{run, analyzed}
use Rattle.saturation_protector.specs.declared.Peaks.{Peaks as State}
use Rattle.saturation_protector.specs.declared.Protector.{Protector}

-- what the code makes of a frame: the preliminary state advances in a speech frame, and otherwise it is kept or thrown away as the turn says
unfoldable pub preliminary_of : Bool → Float → Float → Protector → State
preliminary_of b peak level s =
    cond b (Peaks.advanced peak level s.preliminary) (cond (turned b s.threshold s.count).throw s.reliable s.preliminary)

unfoldable pub turned_to : Bool → Float → Float → Protector → Protector
unfolding preliminary_of
turned_to b peak level s =
    let turn = turned b s.threshold s.count in
    record {
      initial = s.initial;
      threshold = s.threshold;
      count = turn.count;
      headroom = cond turn.publish (preliminary_of b peak level s).headroom s.headroom;
      preliminary = preliminary_of b peak level s;
      reliable = cond turn.keep s.preliminary s.reliable;
    }

-- A frame is what the turn says.
pub analyzed_turned : (s : Protector) (p peak level : Float) → analyzed s p peak level ≡ turned_to (speech p) peak level s
unfolding analyzed turned_to turned framed advanced closed
analyzed_turned s p peak level = go (speech p)
  where
    go : (b : Bool)
        → ◌≡◌ {A = Protector}
        (record {
          initial = s.initial;
          threshold = s.threshold;
          count = (framed b (Peaks.advanced peak level) s.threshold (run s)).count;
          headroom =
              cond (published b s.threshold s.count) (framed b (Peaks.advanced peak level) s.threshold (run s)).preliminary.headroom s.headroom;
          preliminary = (framed b (Peaks.advanced peak level) s.threshold (run s)).preliminary;
          reliable = (framed b (Peaks.advanced peak level) s.threshold (run s)).reliable;
        })
        (turned_to b peak level s)
    go true = refl
    go false = refl

-- So of speech, and of what is none.
pub analyzed_as : (s : Protector) (p peak level : Float) (b : Bool) → speech p ≡ b → analyzed s p peak level ≡ turned_to b peak level s
analyzed_as s p peak level b e = analyzed_turned s p peak level ∙ ap (λ (x : Bool). turned_to x peak level s) e
