-- `adaptive_digital_gain_controller::Controller::new` meets its contract: settings that are accepted have an initial gain whose ratio is a gain factor.
-- Assumes nothing.
use Rattle.std.proofs.Common.{◌≡◌, ◌∙◌, ℕ, Bool, true, false, [], ◌∷◌, ◌&&◌, sym, refl, rules, Ok, Err}
use Rattle.std.specs.Prelude.{Result}
use Rattle.std.specs.Result.{IsErrAnd}
use lib.Ieee.{Float}
use Rattle.lists.specs.Tests.{each_of}
use Rattle.decibels.specs.Ratio.{answer}
use Rattle.units.specs.Replies.{done, refusal}
use Rattle.units.specs.Laws.Replies.{none_refused}
use Rattle.units.specs.Settings as Settings
use Rattle.units.specs.Figures as Figures
use Rattle.units.specs.Handed.{handed}
use Rattle.units.specs.Laws.Handed.{refused_by, passed_done, handed_ok, handed_done}
use Rattle.units.specs.declared.refusals.Refusal.{Refusal}
use Rattle.units.specs.declared.settings.Settings.{Settings as Set}
use Rattle.gain_applier.specs.Applier as Applier
use Rattle.gain_applier.specs.declared.Applier.{Applier as Gain}
use Rattle.adaptive_digital_gain_controller.specs.Change.{per_frame}
use Rattle.adaptive_digital_gain_controller.specs.Controller.{fresh}
use Rattle.adaptive_digital_gain_controller.specs.Calls.{made}
use Rattle.adaptive_digital_gain_controller.specs.Range.{HeldSettings}
use Rattle.adaptive_digital_gain_controller.specs.Laws.Boxes.{in_settings}
use Rattle.adaptive_digital_gain_controller.specs.Laws.Factor.{factor_stays, factor_passes}
use Rattle.adaptive_digital_gain_controller.specs.Laws.States.{initial_passes}
use Rattle.adaptive_digital_gain_controller.specs.declared.Controller.{Controller}
use Rattle.adaptive_digital_gain_controller.proofs.Controller.new.Goals as goal

-- the answer, with what the calls gave
module _ (s : Set) (t : ℕ) (known within : Bool) (k : known ≡ Settings.accepted s) (w : within ≡ Settings.threshold t) where
  abbrev reply : ℕ
  reply = refusal true (known && within) true true

  refuses : (e : Refusal) (r : Result Controller Refusal) → IsErrAnd r (λ d. d ≡ e) → ◌≡◌ {A = Result Unit Refusal} (Err e) (handed reply tt)
      → r ≡ handed (made s t).reply (made s t).controller
  unfolding made
  refuses e r out h = rw (← k, ← w) (refused_by r e reply tt _ out h)

  module _ (h : ◌≡◌ {A = Result Unit Refusal} (Ok tt) (handed reply tt)) where
    passed : known && within ≡ true
    passed = (none_refused true (known && within) true true (passed_done reply tt tt h)).1

    module _ (held : HeldSettings s) where
      initial : Figures.gain s.initial.0 ≡ true
      initial = initial_passes s.initial.0 (in_settings s held (sym k ∙ each_of (known ∷ within ∷ []) passed 0)).initial

      -- the initial gain has a ratio
      has-ratio : (answer s.initial.0).reply ≡ done
      unfolding answer
      has-ratio = rw initial

      -- and the ratio is a gain factor
      is-factor : (Applier.made false (answer s.initial.0).ratio).reply ≡ done
      unfolding Applier.made refusal
      is-factor = rw (factor_passes (answer s.initial.0).ratio (factor_stays s.initial.0 held.initial initial)).0

      never-ratio : {A : Type 0} (e : Refusal) → Err e ≡ handed (answer s.initial.0).reply (answer s.initial.0).ratio → A
      never-ratio e g = let clash = g ∙ handed_done (answer s.initial.0).reply (answer s.initial.0).ratio has-ratio in absurd cc

      module _ (ratio : Float) (r : Ok ratio ≡ handed (answer s.initial.0).reply (answer s.initial.0).ratio) where
        same : (answer s.initial.0).ratio ≡ ratio
        same = (handed_ok (answer s.initial.0).reply (answer s.initial.0).ratio ratio (sym r)).1

        never-applier : {A : Type 0} (e : Refusal) → Err e ≡ handed (Applier.made false ratio).reply (Applier.made false ratio).applier → A
        never-applier e g =
            let clash = (rw (← same) at g) ∙ handed_done (Applier.made false (answer s.initial.0).ratio).reply (Applier.made false (answer s.initial.0).ratio).applier is-factor in absurd cc

        makes : (applier : Gain) (change : Float) → Ok applier ≡ handed (Applier.made false ratio).reply (Applier.made false ratio).applier → change ≡ per_frame s.change
            → Ok (record { applier = applier; settings = s; threshold = t; change = change; waiting = t; gain = s.initial.0 }) ≡ handed (made s t).reply (made s t).controller
        unfolding made fresh refusal
        makes applier change a p =
            let one = (handed_ok (Applier.made false ratio).reply (Applier.made false ratio).applier applier (sym a)).1 in
            rw (← k, ← w, passed, same, p, ← one) (sym (handed_done done _ refl))

pub returns-in_err-check : goal.returns-in_err-check
returns-in_err-check c =
    refuses c.args.settings c.args.threshold _ _ c.accepted.ensures c.is_threshold.ensures c.in_err-check.field-0.0 c.from_residual.result c.from_residual.ensures.1 c.in_err-check.ensures

pub returns-in_err-ratio : goal.returns-in_err-ratio
returns-in_err-ratio c =
    let h : HeldSettings c.args.settings = record { headroom = search rules; largest = search rules; initial = search rules; change = search rules; noise = search rules } in
    never-ratio c.args.settings c.args.threshold _ _ c.accepted.ensures c.is_threshold.ensures c.in_ok-check.ensures h c.in_err-ratio.field-0.0 c.in_err-ratio.ensures

pub returns-in_err-applier : goal.returns-in_err-applier
returns-in_err-applier c =
    let h : HeldSettings c.args.settings = record { headroom = search rules; largest = search rules; initial = search rules; change = search rules; noise = search rules } in
    never-applier c.args.settings c.args.threshold _ _ c.accepted.ensures c.is_threshold.ensures c.in_ok-check.ensures h _ c.in_ok-ratio.ensures c.in_err-applier.field-0.0 c.in_err-applier.ensures

pub returns : goal.returns
returns c =
    let h : HeldSettings c.args.settings = record { headroom = search rules; largest = search rules; initial = search rules; change = search rules; noise = search rules } in
    makes c.args.settings c.args.threshold _ _ c.accepted.ensures c.is_threshold.ensures c.in_ok-check.ensures h _ c.in_ok-ratio.ensures _ _ c.in_ok-applier.ensures c.per_frame.ensures
