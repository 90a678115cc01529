use Rattle.std.specs.Prelude.{◌≡◌, List, ℕ, Float, Ok, Err}
use Rattle.std.proofs.Common.{sym}
use borrow.Author.Tests.{ne_eqb}
use Rattle.units.specs.Replies.{done}
use Rattle.units.specs.Handed.{handed}
use Rattle.units.specs.Laws.Handed.{refused_not_done, handed_ok}
use Rattle.units.specs.declared.refusals.Refusal.{Refusal}
use Rattle.limiter.specs.declared.Limiter.{Limiter}
use Rattle.limiter.specs.Limiter.{processed}

-- a refused step leaves the limiter that came in
pub stays : (limiter : Limiter) (frame : List Float) (channels samples : ℕ) (e : Refusal)
    → Err e ≡ handed (processed limiter frame channels samples).next.reply (processed limiter frame channels samples).next.limiter
    → limiter ≡ (processed limiter frame channels samples).next.limiter
unfolding processed
stays limiter frame channels samples e h =
    let made = (processed limiter frame channels samples).next in
    let t = ne_eqb made.reply done (refused_not_done made.reply made.limiter e h) in
    rw t

-- a step that is done hands out the next one
pub stored : (limiter next : Limiter) (frame : List Float) (channels samples : ℕ)
    → Ok next ≡ handed (processed limiter frame channels samples).next.reply (processed limiter frame channels samples).next.limiter
    → next ≡ (processed limiter frame channels samples).next.limiter
stored limiter next frame channels samples h =
    let made = (processed limiter frame channels samples).next in
    sym (handed_ok made.reply made.limiter next (sym h)).1
