-- `adaptive_digital_gain_controller::aimed` meets its contract: what is refused leaves the applier as it was. Assumes nothing.
use Rattle.std.proofs.Common.{◌≡◌, ◌∙◌, ℕ, Bool, true, false, cond, ◌&&◌, eqb, sym, refl, Ok, Err}
use Rattle.std.specs.Prelude.{Result}
use Rattle.std.specs.Result.{result_unwrap_or}
use Rattle.std.proofs.lemmas.Bool.{eqb-false}
use lib.Ieee.{Float, binary32, of_bits, ne, lt}
use Rattle.decibels.specs.Ratio.{Answer, ratio_of, answer}
use Rattle.units.specs.Figures.{gain, gain_factor}
use Rattle.units.specs.Replies.{done, bad_figure, refusal}
use Rattle.units.specs.Laws.Replies.{none_refused}
use Rattle.units.specs.Handed.{handed, refusal_of}
use Rattle.units.specs.Laws.Handed.{handed_ok, handed_done}
use Rattle.units.specs.declared.refusals.Refusal.{Refusal}
use Rattle.gain_applier.specs.Applier as Applier
use Rattle.gain_applier.specs.declared.Applier.{Applier as Gain}
use Rattle.adaptive_digital_gain_controller.specs.Controller.{aimed}
use Rattle.adaptive_digital_gain_controller.proofs.aimed.Goals as goal

-- what is handed back, or else what was there, is what was made: where it is refused, that is what was there
or-there : {A : Type 0} (reply : ℕ) (made there : A) → ((reply ≡ done → ⊥) → made ≡ there) → result_unwrap_or (handed reply made) there ≡ made
unfolding handed
or-there reply made there same = go (eqb reply done) (λ e. same (eqb-false reply done e))
  where
    go : (b : Bool) → (b ≡ false → made ≡ there) → result_unwrap_or (cond b (Ok made) (Err (refusal_of reply))) there ≡ made
    go true f = refl
    go false f = sym (f refl)

-- an applier that is refused a factor stays as it was
stays : (a : Gain) (factor : Float) → (refusal true (Applier.passes a) (gain_factor factor) true ≡ done → ⊥) → (Applier.aimed a factor).applier ≡ a
unfolding Applier.aimed refusal
stays a factor n = go (Applier.passes a) (gain_factor factor) n
  where
    go : (ok fits : Bool) → (refusal true ok fits true ≡ done → ⊥) → cond (ok && fits) (record { clip = a.clip; last = a.last; current = factor; samples = a.samples; inverse = a.inverse }) a ≡ a
    go true true m = absurd (m refl)
    go true false m = refl
    go false fits m = refl

-- a gain that is refused has the ratio 0, and no applier takes that
no-ratio : (x : Float) → ((answer x).reply ≡ done → ⊥) → (answer x).ratio ≡ of_bits binary32 0x0000_0000
unfolding answer
no-ratio x n = go (gain x) n
  where
    go : (b : Bool) → ((cond {A = Answer} b (record { reply = done; ratio = ratio_of x }) (record { reply = bad_figure; ratio = of_bits binary32 0x0000_0000 })).reply ≡ done → ⊥)
        → (cond {A = Answer} b (record { reply = done; ratio = ratio_of x }) (record { reply = bad_figure; ratio = of_bits binary32 0x0000_0000 })).ratio ≡ of_bits binary32 0x0000_0000
    go true m = absurd (m refl)
    go false m = refl

refused : (ok : Bool) → refusal true ok (gain_factor (of_bits binary32 0x0000_0000)) true ≡ done → ⊥
unfolding lt of_bits
refused ok h = let p : false ≡ true = (none_refused true ok (gain_factor (of_bits binary32 0x0000_0000)) true h).2 in cc

no-factor : (a : Gain) → (Applier.aimed a (of_bits binary32 0x0000_0000)).applier ≡ a
no-factor a = stays a (of_bits binary32 0x0000_0000) (refused (Applier.passes a))

-- the definition, where the gain changed
module _ (a : Gain) (change x : Float) (changes : ne change (of_bits binary32 0x0000_0000) ≡ true) where
  has-ratio : (ratio : Float) (set : Result Gain Refusal) (after : Gain) → Ok ratio ≡ handed (answer x).reply (answer x).ratio
      → set ≡ handed (Applier.aimed a ratio).reply (Applier.aimed a ratio).applier → after ≡ result_unwrap_or set a → after ≡ aimed a change x
  unfolding aimed Applier.aimed
  has-ratio ratio set after h s u =
      let same : (answer x).ratio ≡ ratio = (handed_ok (answer x).reply (answer x).ratio ratio (sym h)).1 in
      rw (changes, same, u, s) (or-there (Applier.aimed a ratio).reply (Applier.aimed a ratio).applier a (stays a ratio))

  has-none : (e : Refusal) → Err e ≡ handed (answer x).reply (answer x).ratio → a ≡ aimed a change x
  unfolding aimed
  has-none e h =
      let other : (answer x).reply ≡ done → ⊥ = λ d. let clash = h ∙ handed_done (answer x).reply (answer x).ratio d in cc in
      rw (changes, no-ratio x other) (sym (no-factor a))

pub returns-in-Ok : goal.returns-in-Ok
returns-in-Ok c = has-ratio _ _ _ c.if-change.true _ _ _ c.in-Ok.ensures c.set_gain_factor.ensures c.unwrap_or.ensures

pub returns-in-Err : goal.returns-in-Err
returns-in-Err c = has-none _ _ _ c.if-change.true _ c.in-Err.ensures

pub returns-else-change : goal.returns-else-change
unfolding aimed
returns-else-change c = rw c.if-change.false
