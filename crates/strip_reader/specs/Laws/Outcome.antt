-- What the promises are worth: what an answer hands out determines it, so each leaves one outcome. Laws.
-- Assumes nothing.
use Rattle.std.specs.Prelude.{◌≡◌, refl, ℕ, List}
use Rattle.std.proofs.Common.{sym, ◌∙◌, ap}
use Rattle.lists.specs.Promise.{one_outcome}
use Rattle.strip_format.specs.Format.{figures, gap}
use Rattle.strip_reader.specs.Reader.{Handed, more, head, entry, end, refused, handed, Fed, step_of, fed, finished, Taken, next_of, next}
use Rattle.strip_reader.specs.declared.Reader.{Reader}
use Rattle.strip_reader.specs.declared.Got.{Got}
use Rattle.strip_reader.specs.declared.Got.TheVariants as Cases
use Rattle.strip_reader.specs.declared.Step.{Step}
use Rattle.strip_reader.specs.declared.Next.{Next}

-- ---- what is handed out determines what came out
-- the case of the code that hands this out
got_of : Handed → Got
got_of more = Cases.More
got_of (head h) = Cases.Head h
got_of (entry (figures f)) = Cases.Record f
got_of (entry gap) = Cases.Gap
got_of end = Cases.End
got_of (refused reply) = Cases.Refused reply

got_back : (g : Got) → got_of (handed g) ≡ g
unfolding handed got_of
got_back Cases.More = refl
got_back (Cases.Head h) = refl
got_back (Cases.Record f) = refl
got_back Cases.Gap = refl
got_back Cases.End = refl
got_back (Cases.Refused reply) = refl

pub handed_one : (g h : Got) → handed g ≡ handed h → g ≡ h
handed_one g h e = sym (got_back g) ∙ ap got_of e ∙ got_back h

pub step_of_one : (s t : Step) → step_of s ≡ step_of t → s ≡ t
unfolding step_of
step_of_one s t e = sym (back s) ∙ ap whole e ∙ back t
  where
    whole : Fed → Step
    whole f = record { reader = f.reader; got = got_of f.got }

    back : (s : Step) → whole (step_of s) ≡ s
    back s = ap (λ (g : Got). record { reader = s.reader; got = g }) (got_back s.got)

pub next_of_one : (m n : Next) → next_of m ≡ next_of n → m ≡ n
unfolding next_of
next_of_one m n e = sym (back m) ∙ ap whole e ∙ back n
  where
    whole : Taken → Next
    whole t = record { reader = t.reader; used = t.used; got = got_of t.got }

    back : (n : Next) → whole (next_of n) ≡ n
    back n = ap (λ (g : Got). record { reader = n.reader; used = n.used; got = g }) (got_back n.got)

-- ---- so the promises of `take`, `finish` and `next` leave one outcome
pub take_one : (r : Reader) (byte : ℕ) (s t : Step) → step_of s ≡ fed r byte → step_of t ≡ fed r byte → s ≡ t
take_one r byte s t h k = step_of_one s t (one_outcome (step_of s) (step_of t) h k)

pub finish_one : (r : Reader) (g h : Got) → handed g ≡ finished r → handed h ≡ finished r → g ≡ h
finish_one r g h i k = handed_one g h (one_outcome (handed g) (handed h) i k)

pub next_one : (r : Reader) (bytes : List ℕ) (m n : Next) → next_of m ≡ next r bytes → next_of n ≡ next r bytes → m ≡ n
next_one r bytes m n h k = next_of_one m n (one_outcome (next_of m) (next_of n) h k)
