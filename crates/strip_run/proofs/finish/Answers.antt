-- `strip_run::finish` meets its contract. Assumes nothing.
use Rattle.std.proofs.Common.{◌≡◌, ℕ, false, List, ◌++◌, length, drop, ap, ◌∙◌}
use Rattle.strip_reader.specs.Reader.{Handed, finished}
use Rattle.strip_reader.specs.Telling.{ended}
use Rattle.strip_run.specs.Lines.{told}
use Rattle.strip_run.specs.Run.{stopped, run_of, line_of, line_out}
use Rattle.strip_run.specs.declared.Line.{Line}
use Rattle.strip_run.specs.declared.Run.{Run}
use Rattle.strip_run.proofs.finish.Goals as goal

run-is : (r : Run) (g : Handed) (line : Line) → g ≡ finished r.reader → line ≡ line_of (told r.desk g)
    → record { reader = r.reader; desk = record { chain = line.desk.chain; capacity = line.desk.capacity; number = line.desk.number; more = false; reply = line.desk.reply } }
    ≡ stopped (run_of (ended told r.reader r.desk))
unfolding ended
run-is r g line e h = rw (h, e)

length-is : (r : Run) (g : Handed) (line : Line) → g ≡ finished r.reader → line ≡ line_of (told r.desk g) → line.length ≡ length (ended told r.reader r.desk).lines
unfolding ended
length-is r g line e h = rw (h, e)

out-is : (r : Run) (g : Handed) (out end : List ℕ) → g ≡ finished r.reader → end ≡ line_out (told r.desk g) out
    → end ≡ (ended told r.reader r.desk).lines ++ drop (length (ended told r.reader r.desk).lines) out
unfolding ended
out-is r g out end e h = h ∙ ap (λ (x : Handed). line_out (told r.desk x) out) e

pub returns : goal.returns
returns c =
    let tell = c.tell-line in
    let finish = c.finish-got in
    let a = c.args in
    record {
      run = run-is a.run _ tell.result finish.ensures tell.ensures.value;
      length = length-is a.run _ tell.result finish.ensures tell.ensures.value;
      out_after = out-is a.run _ a.out.now _ finish.ensures tell.ensures.out_after;
    }
