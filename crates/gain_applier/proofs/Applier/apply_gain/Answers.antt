-- `gain_applier::Applier::apply_gain` meets its contract: a frame that is not refused has the shape that the walk asks for. Assumes nothing.
use Rattle.std.proofs.Common.{◌≡◌, ℕ, ◌*◌, ◌^◌, ◌<◌, ◌≤◌, Bool, true, List, length, ℤ, pos, sym, ◌∙◌, refl, arith, w32, ne_eqb, Ok, Err}
use lib.Ieee.{Float}
use mir.Facts.{to_z_pos}
use Rattle.std.specs.Prelude.{Result}
use Rattle.std.specs.Result.{IsErrAnd}
use Rattle.units.specs.Replies.{done}
use Rattle.units.specs.Handed.{handed}
use Rattle.units.specs.Laws.Handed.{refused_by, passed_done, handed_done}
use Rattle.units.specs.declared.refusals.Refusal.{Refusal}
use Rattle.frames.specs.Facts.{Sizes, taken, shape_facts}
use Rattle.frames.specs.Refusal.{frame_refusal}
use Rattle.frames.specs.Samples.{largest_input}
use Rattle.gain_applier.specs.Applier.{passes, applied, arrived, inverse_of}
use Rattle.gain_applier.specs.Sound.{gained, finished}
use Rattle.gain_applier.specs.declared.Applier.{Applier}
use Rattle.gain_applier.proofs.Applier.apply_gain.Goals as goal

-- what a frame that is not refused has
facts : (frame : List Float) (channels samples : ℕ) (ok : Bool) → ◌≡◌ {A = Result Unit Refusal} (Ok tt) (handed (frame_refusal frame channels samples true ok true largest_input) tt)
    → Sizes channels samples × (length frame ≡ channels * samples)
facts frame channels samples ok h =
    let t = taken frame channels samples true ok true largest_input (passed_done _ _ _ h) in
    shape_facts channels samples (length frame) t.shape

narrow : {n : ℕ} → n ≤ 480 → n < 2 ^ 31
narrow h = omega arith

pub overflow_cast-samples : goal.overflow_cast-samples
overflow_cast-samples c = record { sfits = narrow (facts c.args.frame.now c.args.channels c.args.samples _ c.in_ok-check.ensures).0.each.most }

pub put_gain-requires : goal.put_gain-requires
put_gain-requires c = let shape = facts c.args.frame.now c.args.channels c.args.samples _ c.in_ok-check.ensures in (shape.1, shape.0.each.most)

pub overflow_cast-result : goal.overflow_cast-result
overflow_cast-result c = record { sfits = narrow (facts c.args.frame.now c.args.channels c.args.samples _ c.in_ok-check.ensures).0.each.most }

-- the answer, with what the calls gave
module _ (a : Applier) (frame : List Float) (channels samples : ℕ) (ok : Bool) (p : ok ≡ passes a) where
  abbrev reply : ℕ
  reply = frame_refusal frame channels samples true ok true largest_input

  refuses : (e : Refusal) (r : Result Applier Refusal) → IsErrAnd r (λ d. d ≡ e) → ◌≡◌ {A = Result Unit Refusal} (Err e) (handed reply tt)
      → (r ≡ handed (applied a frame channels samples).next.reply (applied a frame channels samples).next.applier) × (frame ≡ (applied a frame channels samples).frame)
  unfolding applied
  refuses e r out h =
      let other : reply ≡ done → ⊥ = λ d. let clash = h ∙ handed_done reply tt d in cc in
      (rw (← p) (refused_by r e reply tt _ out h), rw (← p, ne_eqb reply done other))

  applies : (z : ℤ) (inverse : Float) (louder ended : List Float) → ◌≡◌ {A = Result Unit Refusal} (Ok tt) (handed reply tt) → z ≡ pos samples → inverse ≡ inverse_of z
      → louder ≡ gained a.last a.current inverse channels samples frame → ended ≡ finished a.clip louder
      → (Ok (record { clip = a.clip; last = a.current; current = a.current; samples = z; inverse = inverse }) ≡ handed (applied a frame channels samples).next.reply (applied a frame channels samples).next.applier)
      × (ended ≡ (applied a frame channels samples).frame)
  unfolding applied arrived
  applies z inverse louder ended h e i g f =
      let k = passed_done reply tt tt h in
      (rw (← p, k, i, e) (sym (handed_done done _ refl)), rw (← p, k, f, g, i, e))

pub returns-in_err-check : goal.returns-in_err-check
returns-in_err-check c =
    let both = refuses c.args.self c.args.frame.now c.args.channels c.args.samples _ c.passes-ok.ensures c.in_err-check.field-0.0 c.from_residual.result c.from_residual.ensures.1 c.in_err-check.ensures in
    record { value = both.0; frame_after = both.1 }

pub returns : goal.returns
returns c =
    let a = c.args in
    let both =
    applies a.self a.frame.now a.channels a.samples _ c.passes-ok.ensures _ _ _ _ c.in_ok-check.ensures
    (to_z_pos w32 (narrow (facts a.frame.now a.channels a.samples _ c.in_ok-check.ensures).0.each.most)) c.inverse_of-inverse.ensures c.put_gain.ensures c.finish.ensures in
    record { value = both.0; frame_after = both.1 }
