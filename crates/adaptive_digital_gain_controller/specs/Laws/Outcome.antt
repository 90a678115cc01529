-- Each promise leaves one outcome.
use Rattle.std.specs.Prelude.{◌≡◌, ℕ, List, Float}
use Rattle.lists.specs.Promise.{one_outcome}
use Rattle.units.specs.Handed.{handed}
use Rattle.units.specs.declared.settings.Settings.{Settings as Set}
use Rattle.adaptive_digital_gain_controller.specs.Controller.{passes}
use Rattle.adaptive_digital_gain_controller.specs.Calls.{made, processed, gap}
use Rattle.adaptive_digital_gain_controller.specs.declared.Info.{Info}
use Rattle.adaptive_digital_gain_controller.specs.declared.Controller.{Controller}

-- whatever two results both are what d says are the same
abbrev pub Once {ℓ} : {A : Type ℓ} → A → Type ℓ
Once {A} d = (r s : A) → r ≡ d → s ≡ d → r ≡ s

-- Any two outcomes of new, of passes, of a frame, its answer and every sample of it, and of a gap, that meet the promise are the same.
pub one_answer : (s : Set) (t : ℕ) (c : Controller) (i : Info) (frame : List Float) (channels samples : ℕ)
    → Once (made s t) × Once (passes c) × Once (processed c i frame channels samples).next × Once (processed c i frame channels samples).frame
    × Once (gap c)
one_answer s t c i frame channels samples = (one_outcome, one_outcome, one_outcome, one_outcome, one_outcome)

-- So are any two that they hand back.
pub one_result : (s : Set) (t : ℕ) (c : Controller) (i : Info) (frame : List Float) (channels samples : ℕ)
    → Once (handed (made s t).reply (made s t).controller)
    × Once (handed (processed c i frame channels samples).next.reply (processed c i frame channels samples).next.controller)
    × Once (handed (gap c).reply (gap c).controller)
one_result s t c i frame channels samples = (one_outcome, one_outcome, one_outcome)
