-- What the promises of `draw` and `refill` are worth: what an answer hands out determines it, so each leaves one outcome. Laws.
-- Assumes nothing.
use Rattle.std.specs.Prelude.{◌≡◌, ℕ, Bool, List}
use Rattle.std.proofs.Common.{ap}
use Rattle.lists.specs.Promise.{one_outcome}
use Rattle.strip_reader.specs.Laws.Outcome.{handed_one}
use Rattle.recording_run.specs.Strip.{Drawing, drawn_of, drawn_from, refilled}
use Rattle.recording_run.specs.declared.strip.Source.{Source}
use Rattle.recording_run.specs.declared.strip.Drawn.{Drawn}

-- What an answer hands out determines it.
pub drawn_of_one : (d e : Drawn) → drawn_of d ≡ drawn_of e → d ≡ e
unfolding drawn_of
drawn_of_one d e h =
    rw (handed_one d.got e.got (ap (λ (x : Drawing). x.got) h))
    (ap (λ (x : Drawing). record { source = x.source; got = e.got; more = x.more }) h)

pub draw_one : (source : Source) (block : List ℕ) (d e : Drawn) → drawn_of d ≡ drawn_from source block → drawn_of e ≡ drawn_from source block → d ≡ e
draw_one source block d e h k = drawn_of_one d e (one_outcome (drawn_of d) (drawn_of e) h k)

pub refill_one : (source : Source) (block : List ℕ) (came : ℕ) (failed : Bool) (d e : Drawn)
    → drawn_of d ≡ refilled source block came failed → drawn_of e ≡ refilled source block came failed → d ≡ e
refill_one source block came failed d e h k = drawn_of_one d e (one_outcome (drawn_of d) (drawn_of e) h k)
