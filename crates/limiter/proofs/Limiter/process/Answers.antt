-- `limiter::Limiter::process` meets its contract: the frame that is taken has the shape that each step asks for, and each step's promise is a part of the definition. Assumes nothing.
use mathlib.Core.Path.{◌≡◌, refl, sym, ap, ◌∙◌, subst}
use mathlib.Core.Bool.{Bool, true, ◌&&◌}
use mathlib.Core.List.{List}
use Prim.Native.Nat.{ℕ, ◌≤◌}
use native.Mathlib.Nat.{le_of_eq}
use native.Mathlib.Omega.{arith}
use borrow.Author.Rules.{rules}
use borrow.Author.Tests.{ne_eqb}
use lib.Dec.{eqb}
use lib.ListN.{length, take, length-take}
use lib.Ieee.{Float}
use Rattle.std.specs.Prelude.{Result, Ok}
use Rattle.units.specs.Replies.{done, refusal}
use Rattle.units.specs.Laws.Replies.{none_refused}
use Rattle.units.specs.Handed.{handed}
use Rattle.units.specs.Laws.Handed.{refused_by, refused_not_done, passed_done, handed_ok}
use Rattle.units.specs.declared.refusals.Refusal.{Refusal}
use Rattle.frames.specs.Shape.{is_shape}
use Rattle.frames.specs.Samples.{largest_level, all_within}
use Rattle.frames.specs.Refusal.{frame_refusal}
use Rattle.floats.specs.Laws.Kinds.{passed}
use Rattle.fixed_digital_level_estimator.specs.declared.Levels.{Levels as Told}
use Rattle.fixed_digital_level_estimator.specs.Estimator as E
use Rattle.fixed_digital_level_estimator.specs.Envelope.{linear, plain}
use Rattle.fixed_digital_level_estimator.specs.Laws.Kinds.{plain_linear}
use Rattle.fixed_digital_level_estimator.specs.Laws.Accepted.{refused_early}
use Rattle.limiter.specs.declared.Limiter.{Limiter}
use Rattle.limiter.specs.Limiter.{passes, processed, levels_of, after}
use Rattle.limiter.specs.Scale.{FullScale, Ready}
use Rattle.limiter.specs.Laws.States.{processed_full_scale}
use Rattle.limiter.specs.Laws.Taken.{levels}
use Rattle.limiter.specs.Laws.Taking.{parts_pass, fine, joined}
use Rattle.limiter.proofs.Limiter.process.Goals as goal

module _ (l : Limiter) (frame : List Float) (channels samples : ℕ) where
  abbrev shape : Bool
  shape = is_shape channels samples (length frame) && eqb samples l.estimator.samples

  -- the reply of a frame
  reply_of : refusal shape (passes l) true (all_within largest_level frame) ≡ (processed l frame channels samples).next.reply
  unfolding processed frame_refusal
  reply_of = refl

  -- where the state passes, it is the estimator's
  same_reply : passes l ≡ true → (E.computed l.estimator frame channels samples).reply ≡ (processed l frame channels samples).next.reply
  unfolding processed E.computed frame_refusal
  same_reply p = rw (p, (parts_pass l p).estimator)

  -- a frame that is refused stays
  stays : ((processed l frame channels samples).next.reply ≡ done → ⊥) → frame ≡ (processed l frame channels samples).frame
  unfolding processed
  stays n = rw (ne_eqb _ done n)

  -- a frame that is taken
  takes : (processed l frame channels samples).next.reply ≡ done → frame_refusal frame channels samples (eqb samples l.estimator.samples) (passes l) true largest_level ≡ done
  unfolding processed
  takes h = h

  value_is : (next : Limiter) → (processed l frame channels samples).next.reply ≡ done → next ≡ after l (levels_of l frame channels)
      → Ok next ≡ handed (processed l frame channels samples).next.reply (processed l frame channels samples).next.limiter
  unfolding processed handed
  value_is next h e = rw h (ap Ok e)

  -- what the check shows where it refuses nothing
  tests : ◌≡◌ {A = Result (Unit {0}) Refusal} (Ok tt) (handed (refusal shape (passes l) true true) tt) → passes l ≡ true
  tests h = (none_refused shape (passes l) true true (passed_done _ _ _ h)).1

  -- what the estimator hands out
  module _ (heard : Told) (p : passes l ≡ true) (h : Ok heard ≡ handed (E.computed l.estimator frame channels samples).reply (E.told (E.computed l.estimator frame channels samples))) where
    goes : (processed l frame channels samples).next.reply ≡ done
    goes = sym (same_reply p) ∙ passed_done _ _ _ h

    took : frame_refusal frame channels samples (eqb samples l.estimator.samples) (passes l) true largest_level ≡ done
    took = takes goes

    abbrev found : E.Levels
    found = record { reply = done; estimator = heard.estimator; envelope = heard.envelope }

    found_is : found ≡ record { reply = done; estimator = E.heard_up_to l.estimator (levels_of l frame channels); envelope = linear (levels_of l frame channels) }
    found_is =
        ap (λ (z : Told). record { reply = done; estimator = z.estimator; envelope = z.envelope }) (sym (handed_ok _ _ heard (sym h)).1)
        ∙ ap (λ (z : E.Levels). record { reply = done; estimator = z.estimator; envelope = z.envelope }) (fine l frame channels samples took).found

    levels_are : plain heard.envelope ≡ levels_of l frame channels
    levels_are = ap (λ (z : E.Levels). plain z.envelope) found_is ∙ plain_linear (levels_of l frame channels)

start-long : {n : ℕ} → n ≤ 480 → (xs : List Float) → length xs ≡ 480 → length (take n xs) ≡ n
start-long {n} h xs l = let t = length-take n xs in omega arith

pub returns-in_err-check-clause-value : goal.returns-in_err-check-clause-value
returns-in_err-check-clause-value c =
    let a = c.args in
    let h = rw (c.is_shape.ensures, c.passes.ensures) at c.in_err-check.ensures in
    let next = (processed a.self a.frame.now a.channels a.samples).next in
    refused_by _ _ _ tt next.limiter c.from_residual.ensures.1 h
    ∙ refused_early (shape a.self a.frame.now a.channels a.samples) (passes a.self) (all_within largest_level a.frame.now) _ next.limiter h
    ∙ ap (λ (n : ℕ). handed n next.limiter) (reply_of a.self a.frame.now a.channels a.samples)

pub returns-in_err-check-clause-frame_after : goal.returns-in_err-check-clause-frame_after
returns-in_err-check-clause-frame_after c =
    let a = c.args in
    let h = rw (c.is_shape.ensures, c.passes.ensures) at c.in_err-check.ensures in
    let e = refused_early (shape a.self a.frame.now a.channels a.samples) (passes a.self) (all_within largest_level a.frame.now) _ (tt {0}) h in
    stays a.self a.frame.now a.channels a.samples (refused_not_done _ (tt {0}) _ (h ∙ e ∙ ap (λ (n : ℕ). handed n (tt {0})) (reply_of a.self a.frame.now a.channels a.samples)))

pub returns-in_err-heard-clause-value : goal.returns-in_err-heard-clause-value
returns-in_err-heard-clause-value c =
    let a = c.args in
    let p = tests a.self a.frame.now a.channels a.samples (rw (c.is_shape.ensures, c.passes.ensures) at c.in_ok-check.ensures) in
    let next = (processed a.self a.frame.now a.channels a.samples).next in
    refused_by _ _ _ _ next.limiter c.from_residual-in_err-heard.ensures.1 c.in_err-heard.ensures
    ∙ ap (λ (n : ℕ). handed n next.limiter) (same_reply a.self a.frame.now a.channels a.samples p)

pub returns-in_err-heard-clause-frame_after : goal.returns-in_err-heard-clause-frame_after
returns-in_err-heard-clause-frame_after c =
    let a = c.args in
    let p = tests a.self a.frame.now a.channels a.samples (rw (c.is_shape.ensures, c.passes.ensures) at c.in_ok-check.ensures) in
    let same = same_reply a.self a.frame.now a.channels a.samples p in
    stays a.self a.frame.now a.channels a.samples (λ (d : (processed a.self a.frame.now a.channels a.samples).next.reply ≡ done). refused_not_done _ _ _ c.in_err-heard.ensures (same ∙ d))

pub look_up-looked-requires : goal.look_up-looked-requires
look_up-looked-requires c =
    let a = c.args in
    let p = tests a.self a.frame.now a.channels a.samples (rw (c.is_shape.ensures, c.passes.ensures) at c.in_ok-check.ensures) in
    let q = took a.self a.frame.now a.channels a.samples _ p c.in_ok-heard.ensures in
    let ready : Ready a.self = record { level = search rules; carried = search rules; state = p } in
    (passed (parts_pass a.self p).curve, rw (levels_are a.self a.frame.now a.channels a.samples _ p c.in_ok-heard.ensures) (levels a.self a.frame.now a.channels a.samples ready c.slice_known-1.given q))

pub channel_factors-by-requires : goal.channel_factors-by-requires
channel_factors-by-requires c =
    let a = c.args in
    let p = tests a.self a.frame.now a.channels a.samples (rw (c.is_shape.ensures, c.passes.ensures) at c.in_ok-check.ensures) in
    let f = fine a.self a.frame.now a.channels a.samples (took a.self a.frame.now a.channels a.samples _ p c.in_ok-heard.ensures) in
    (f.parts, f.small)

pub slice_bounds-by-end : goal.slice_bounds-by-end
slice_bounds-by-end c =
    let a = c.args in
    let p = tests a.self a.frame.now a.channels a.samples (rw (c.is_shape.ensures, c.passes.ensures) at c.in_ok-check.ensures) in
    let f = fine a.self a.frame.now a.channels a.samples (took a.self a.frame.now a.channels a.samples _ p c.in_ok-heard.ensures) in
    let h : length c.channel_factors-by.result ≡ 480 = search rules in
    omega (arith, f.most)

pub slice_bounds-limit_channels-end : goal.slice_bounds-limit_channels-end
slice_bounds-limit_channels-end c =
    let a = c.args in
    let p = tests a.self a.frame.now a.channels a.samples (rw (c.is_shape.ensures, c.passes.ensures) at c.in_ok-check.ensures) in
    let f = fine a.self a.frame.now a.channels a.samples (took a.self a.frame.now a.channels a.samples _ p c.in_ok-heard.ensures) in
    sym (start-long f.most c.channel_factors-by.result (search rules))

pub limit_channels-requires : goal.limit_channels-requires
limit_channels-requires c =
    let a = c.args in
    let p = tests a.self a.frame.now a.channels a.samples (rw (c.is_shape.ensures, c.passes.ensures) at c.in_ok-check.ensures) in
    let f = fine a.self a.frame.now a.channels a.samples (took a.self a.frame.now a.channels a.samples _ p c.in_ok-heard.ensures) in
    (f.long, le_of_eq (sym (start-long f.most c.channel_factors-by.result (search rules))))

pub returns : goal.returns
unfolding processed
returns c =
    let a = c.args in
    let p = tests a.self a.frame.now a.channels a.samples (rw (c.is_shape.ensures, c.passes.ensures) at c.in_ok-check.ensures) in
    let h = goes a.self a.frame.now a.channels a.samples _ p c.in_ok-heard.ensures in
    let ready : Ready a.self = record { level = search rules; carried = search rules; state = p } in
    let held = c.slice_known-1.given in
    let is = found_is a.self a.frame.now a.channels a.samples _ p c.in_ok-heard.ensures in
    let g = c.look_up-looked.ensures in
    let j = joined a.self a.frame.now a.channels a.samples _ _ _ _ _ is g.0 g.1 c.channel_factors-by.ensures c.limit_channels.ensures in
    let frame_is : c.limit_channels.new.frame ≡ (processed a.self a.frame.now a.channels a.samples).frame = rw h j.1 in
    record {
      value = value_is a.self a.frame.now a.channels a.samples _ h j.0;
      frame_after = frame_is;
      scale = subst FullScale (sym frame_is) (processed_full_scale a.self a.frame.now a.channels a.samples held ready h);
    }
