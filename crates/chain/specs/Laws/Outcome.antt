-- What the promises are worth: what is told of an answer determines it, so each leaves one outcome. Laws.
-- Assumes nothing.
use Rattle.std.specs.Prelude.{◌≡◌, refl, List, ℕ, get_or, Float, Result, Ok, Err}
use Rattle.std.proofs.Common.{sym, ap, ap₂, arith}
use Rattle.lists.specs.Promise.{one_outcome}
use Rattle.units.specs.Handed.{handed}
use Rattle.units.specs.Laws.Handed.{number_one, number_not_done}
use Rattle.units.specs.declared.refusals.Refusal.{Refusal}
use Rattle.units.specs.declared.settings.Settings.{Settings as Set}
use Rattle.chain.specs.Answer.{Said, said}
use Rattle.chain.specs.Calls.{Told, made, told, called, gap}
use Rattle.chain.specs.declared.Answer.{Answer}
use Rattle.chain.specs.declared.Answer.TheVariants.{NonSpeech, Waiting, Publishing}
use Rattle.chain.specs.declared.Chain.{Chain}
use Rattle.units.specs.declared.figures.Figures.{Figures}
use Rattle.chain.specs.Calls.{Gapped}
use Rattle.chain.specs.Calls.{Made}
use Rattle.chain.specs.declared.Next.{Next}

-- two cases with different numbers are not told as one
number : {x y : Said} → x ≡ y → x.number ≡ y.number
number h = ap (λ (s : Said). s.number) h

-- The paper's letter and values of a case determine the case.
pub said_one : (f g : Answer) → said f ≡ said g → f ≡ g
unfolding said
said_one NonSpeech NonSpeech h = refl
said_one NonSpeech (Waiting n) h = absurd (omega (arith, number h))
said_one NonSpeech (Publishing x y) h = absurd (omega (arith, number h))
said_one (Waiting m) NonSpeech h = absurd (omega (arith, number h))
said_one (Waiting m) (Waiting n) h = ap Waiting (ap (λ (s : Said). s.missing) h)
said_one (Waiting m) (Publishing x y) h = absurd (omega (arith, number h))
said_one (Publishing a b) NonSpeech h = absurd (omega (arith, number h))
said_one (Publishing a b) (Waiting n) h = absurd (omega (arith, number h))
said_one (Publishing a b) (Publishing x y) h =
    ap₂ (λ (p q : Float). Publishing (record { 0 = p }) (record { 0 = q })) (ap (λ (s : Said). get_or s.values 0 a.0) h) (ap (λ (s : Said). get_or s.values 1 b.0) h)

-- What is told of an answer determines it.
pub told_one : (c : Chain) (m n : Result Next Refusal) → told c m ≡ told c n → m ≡ n
unfolding told
told_one c (Ok m) (Ok n) h =
    let q : m.answer ≡ n.answer = said_one m.answer n.answer (ap (λ (t : Told). t.answer) h) in
    let r : m.chain ≡ n.chain = ap (λ (t : Told). t.chain) h in
    λ i. Ok (record { answer = q i; chain = r i })
told_one c (Ok m) (Err e) h = absurd (number_not_done e (sym (ap (λ (t : Told). t.reply) h)))
told_one c (Err d) (Ok n) h = absurd (number_not_done d (ap (λ (t : Told). t.reply) h))
told_one c (Err d) (Err e) h = ap Err (number_one d e (ap (λ (t : Told). t.reply) h))

module _ (c : Chain) (f : Figures) (frame : List Float) (channels samples : ℕ) where
  -- So the promise of `step` leaves one outcome, in what it answers
  pub step_one : (m n : Result Next Refusal) → told c m ≡ (called c f frame channels samples).told → told c n ≡ (called c f frame channels samples).told → m ≡ n
  step_one m n p q = told_one c m n (one_outcome (told c m) (told c n) p q)

  -- and in every sample;
  pub frame_one : (x y : List Float) → x ≡ (called c f frame channels samples).frame → y ≡ (called c f frame channels samples).frame → x ≡ y
  frame_one x y p q = one_outcome x y p q

-- and so does that of `gap`, in its definition,
pub gap_one : (c : Chain) (g h : Gapped) → g ≡ gap c → h ≡ gap c → g ≡ h
gap_one c g h p q = one_outcome g h p q

-- and in what is handed back;
pub gap_handed_one : (c : Chain) (g h : Result Chain Refusal) → g ≡ handed (gap c).reply (gap c).chain → h ≡ handed (gap c).reply (gap c).chain → g ≡ h
gap_handed_one c g h p q = one_outcome g h p q

-- and so does that of `new`, in its definition,
pub made_one : (s : Set) (t samples capacity : ℕ) (m n : Made) → m ≡ made s t samples capacity → n ≡ made s t samples capacity → m ≡ n
made_one s t samples capacity m n p q = one_outcome m n p q

-- and in what is handed back.
pub made_handed_one : (s : Set) (t samples capacity : ℕ) (m n : Result Chain Refusal)
    → m ≡ handed (made s t samples capacity).reply (made s t samples capacity).chain
    → n ≡ handed (made s t samples capacity).reply (made s t samples capacity).chain
    → m ≡ n
made_handed_one s t samples capacity m n p q = one_outcome m n p q
