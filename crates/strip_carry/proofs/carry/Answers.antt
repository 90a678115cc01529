-- `strip_carry::carry` meets its contract: what is tallied of a whole strip is what is told of it. Assumes nothing.
use Rattle.std.proofs.Common.{◌≡◌, ℕ, ◌^◌, ◌<◌, ◌≤◌, false, cond, eqb, List, ◌++◌, length, drop, sym, refl, ap, ◌∙◌, append-nil, arith, ne_eqb}
use Rattle.units.specs.Handed.{number_of}
use Rattle.units.specs.Replies.{done, no_room}
use Rattle.units.specs.Output.{Put, put}
use Rattle.strip_format.specs.Laws.Refusals.{put_fits, put_too_short}
use Rattle.strip_format.specs.Laws.Steps.{put_refused}
use Rattle.strip_format.specs.declared.Version.{Version}
use Rattle.strip_reader.specs.Reader.{begun, fresh_in, asked}
use Rattle.strip_reader.specs.Telling.{ran, ended}
use Rattle.strip_reader.specs.Laws.Telling.{whole_tells}
use Rattle.strip_carry.specs.Carry.{Carried, other, judged, carried_bytes, carried_to, carried, carried_out}
use Rattle.strip_carry.specs.declared.Tally.{Tally}
use Rattle.strip_carry.specs.declared.Run.{Run}
use Rattle.strip_carry.specs.Run.{at_start, told, new, run_of}
use Rattle.strip_carry.specs.Laws.Room.{ended_empty}
use Rattle.strip_carry.specs.Laws.Tally.{quiet, carried_number, Tallied, tallied}
use Rattle.strip_carry.proofs.carry.Goals as goal

-- ---- what was seen of the whole strip
whole : (v : Version) (strip : List ℕ) → length strip < 2 ^ 63
    → Tallied v strip (ended told (ran told (fresh_in v) (at_start (other v)) strip).reader (ran told (fresh_in v) (at_start (other v)) strip).desk).desk (ran told (fresh_in v) (at_start (other v)) strip).lines
unfolding fresh_in asked
whole v strip l =
    let r = ran told (begun false v) (at_start (other v)) strip in
    let tells = whole_tells told quiet false v (at_start (other v)) strip in
    let lines = sym (append-nil r.lines) ∙ ap (λ (xs : List ℕ). r.lines ++ xs) (sym (ended_empty r.reader r.desk)) ∙ tells.0 in
    rw (tells.1, lines) (tallied v strip l)

-- the same of the runs that the code has
seen : (v : Version) (strip : List ℕ) (first middle last : Run) → length strip < 2 ^ 63 → first ≡ new v → middle ≡ run_of first.place (ran told first.reader first.tally strip)
    → last ≡ run_of middle.place (ended told middle.reader middle.tally) → Tallied v strip last.tally (ran told first.reader first.tally strip).lines
unfolding new
seen v strip first middle last l e f g = rw (g, f, e) (whole v strip l)

-- ---- what is answered
module _ (v : Version) (strip out : List ℕ) where
  abbrev bytes : List ℕ
  bytes = carried_bytes v strip

  -- by what is put, and the number that is told
  abbrev answer : Put → ℕ → Carried
  answer p n = record { reply = p.reply; number = n; length = cond (eqb p.reply done) (length (carried_bytes v strip)) 0 }

  answered : {p : Put} {n : ℕ} → carried_to v strip out ≡ p → (judged v strip).number ≡ n → (answer p n ≡ carried v strip out) × (p.out ≡ carried_out v strip out)
  unfolding carried carried_out
  answered e f = (λ i. answer (sym e i) (sym f i), ap (λ (x : Put). x.out) (sym e))

  module _ {t : Tally} {lines : List ℕ} (s : Tallied v strip t lines) where
    -- where the strip can be said
    module _ (k : t.reply ≡ done) where
      well : (judged v strip).reply ≡ done
      well = sym s.reply ∙ k

      -- what it puts out has as many bytes as were counted
      counted : length lines ≡ t.length
      counted = ap length (s.put well) ∙ sym (s.long well)

      pub written : {n : ℕ} {end : List ℕ} → t.length ≤ length out → n ≡ length lines → end ≡ lines ++ drop (length lines) out
          → (◌≡◌ {A = Carried} (record { reply = 0; number = 0; length = n }) (carried v strip out)) × (end ≡ carried_out v strip out)
      unfolding carried_to
      written l m o =
          let fits : length (carried_bytes v strip) ≤ length out = omega (arith, s.long well) in
          let told = answered (ap (λ (i : ℕ). put i (carried_bytes v strip) out) well ∙ put_fits (carried_bytes v strip) out fits) (carried_number v strip well) in
          let long = m ∙ ap length (s.put well) in
          (ap {B = Carried} (λ (i : ℕ). record { reply = 0; number = 0; length = i }) long ∙ told.0, o ∙ ap (λ (xs : List ℕ). xs ++ drop (length xs) out) (s.put well) ∙ told.1)

      pub without_room : length out < t.length → (◌≡◌ {A = Carried} (record { reply = no_room; number = 0; length = 0 }) (carried v strip out)) × (out ≡ carried_out v strip out)
      unfolding carried_to
      without_room l =
          let short : length out < length (carried_bytes v strip) = omega (arith, s.long well) in
          answered (ap (λ (i : ℕ). put i (carried_bytes v strip) out) well ∙ put_too_short (carried_bytes v strip) out short) (carried_number v strip well)

    -- and where it is refused, or something of it cannot be said
    pub refused : (t.reply ≡ done → ⊥) → (◌≡◌ {A = Carried} (record { reply = t.reply; number = t.at; length = 0 }) (carried v strip out)) × (out ≡ carried_out v strip out)
    unfolding carried_to
    refused n =
        let bad : (judged v strip).reply ≡ done → ⊥ = λ e. n (s.reply ∙ e) in
        let told = answered (put_refused (judged v strip).reply (carried_bytes v strip) out bad) refl in
        (rw (s.reply, s.at) (rw (ne_eqb (judged v strip).reply done bad) at told.0), told.1)

pub take_bytes-taken-requires : goal.take_bytes-taken-requires
take_bytes-taken-requires c =
    let a = c.args in
    let known = seen a.from a.strip.now c.new-first.result c.judge_bytes.result c.finish-last.result (omega (arith, c.well_formed.1.0.1)) c.new-first.ensures
    c.judge_bytes.ensures c.finish-last.ensures in
    omega (arith, counted a.from a.strip.now a.out.now known c.if-seen-ne-DONE.false, c.if-space-seen.false)

pub returns : goal.returns
returns c =
    let a = c.args in
    let known = seen a.from a.strip.now c.new-first.result c.judge_bytes.result c.finish-last.result (omega (arith, c.well_formed.1.0.1)) c.new-first.ensures
    c.judge_bytes.ensures c.finish-last.ensures in
    let bytes = c.take_bytes-taken in
    let both = written a.from a.strip.now a.out.now known c.if-seen-ne-DONE.false c.if-space-seen.false bytes.ensures.put_out bytes.ensures.out_after in
    record { value = both.0; out_after = both.1 }

pub returns-then-space-seen : goal.returns-then-space-seen
unfolding number_of
returns-then-space-seen c =
    let a = c.args in
    let known = seen a.from a.strip.now c.new-first.result c.judge_bytes.result c.finish-last.result (omega (arith, c.well_formed.1.0.1)) c.new-first.ensures
    c.judge_bytes.ensures c.finish-last.ensures in
    let both = without_room a.from a.strip.now a.out.now known c.if-seen-ne-DONE.false c.if-space-seen.true in
    record { value = rw c.number.ensures both.0; out_after = both.1 }

pub returns-then-seen-ne-DONE : goal.returns-then-seen-ne-DONE
returns-then-seen-ne-DONE c =
    let a = c.args in
    let known = seen a.from a.strip.now c.new-first.result c.judge_bytes.result c.finish-last.result (omega (arith, c.well_formed.1.0.1)) c.new-first.ensures
    c.judge_bytes.ensures c.finish-last.ensures in
    let both = refused a.from a.strip.now a.out.now known c.if-seen-ne-DONE.true in
    record { value = both.0; out_after = both.1 }
