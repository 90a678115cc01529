-- `strip_run::show` meets its contract: case by case. Assumes nothing.
use Rattle.std.proofs.Common.{◌≡◌, ℕ, List, sym, refl, ap}
use Rattle.strip_reader.specs.Reader.{handed}
use Rattle.strip_reader.specs.declared.Got.{Got}
use Rattle.strip_run.specs.Lines.{shown}
use Rattle.strip_run.specs.declared.Desk.{Desk}
use Rattle.strip_run.specs.declared.Line.{Line}
use Rattle.strip_run.proofs.Printed.{Prints, moved, finally}
use Rattle.strip_run.proofs.show.Goals as goal

-- what a case prints, what was handed out prints
of-case : (d : Desk) (g h : Got) (out : List ℕ) (line : Line) (end : List ℕ) → g ≡ h → Prints (shown d (handed h)) out line end → Prints (shown d (handed g)) out line end
of-case d g h out line end e p = moved (shown d (handed h)) (shown d (handed g)) out line end (ap (λ (x : Got). shown d (handed x)) (sym e)) p

pub returns-in-More : goal.returns-in-More
unfolding shown handed
returns-in-More c =
    let both = of-case c.args.desk _ _ c.args.out.now _ _ c.in-More.is (refl, refl) in
    record { value = both.0; out_after = both.1 }

pub returns-in-Head : goal.returns-in-Head
unfolding shown handed
returns-in-Head c =
    let put = finally _ c.args.desk _ c.args.out.now _ _ _ (c.begin.ensures c.args.out.now) c.or_refuse.ensures.put c.or_refuse.ensures.refused in
    let both = of-case c.args.desk _ _ c.args.out.now _ _ c.in-Head.is put in
    record { value = both.0; out_after = both.1 }

pub returns-in-Record : goal.returns-in-Record
unfolding shown handed
returns-in-Record c =
    let put = finally _ c.args.desk _ c.args.out.now _ _ _ c.take_figures-put.ensures c.or_refuse-in-Record.ensures.put c.or_refuse-in-Record.ensures.refused in
    let both = of-case c.args.desk _ _ c.args.out.now _ _ c.in-Record.is put in
    record { value = both.0; out_after = both.1 }

pub returns-in-Gap : goal.returns-in-Gap
unfolding shown handed
returns-in-Gap c =
    let put = finally _ c.args.desk _ c.args.out.now _ _ _ c.take_gap-put.ensures c.or_refuse-in-Gap.ensures.put c.or_refuse-in-Gap.ensures.refused in
    let both = of-case c.args.desk _ _ c.args.out.now _ _ c.in-Gap.is put in
    record { value = both.0; out_after = both.1 }

pub returns-in-End : goal.returns-in-End
unfolding shown handed
returns-in-End c =
    let both = of-case c.args.desk _ _ c.args.out.now _ _ c.in-End.is (refl, refl) in
    record { value = both.0; out_after = both.1 }

pub returns-in-Refused : goal.returns-in-Refused
unfolding shown handed
returns-in-Refused c =
    let both = of-case c.args.desk _ _ c.args.out.now _ _ c.in-Refused.is (c.refuse.ensures.value, c.refuse.ensures.out_after) in
    record { value = both.0; out_after = both.1 }
