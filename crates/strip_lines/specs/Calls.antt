-- What each call answers, refusals first. Definitions only.
use Rattle.std.specs.Prelude.{Bool, true, ◌&&◌, cond, List, ℕ, eqb, length, Float, Result}
use Rattle.units.specs.Replies.{done, refusal}
use Rattle.units.specs.Figures as Figures
use Rattle.units.specs.Handed.{handed}
use Rattle.units.specs.Output.{Put, put}
use Rattle.units.specs.declared.refusals.Refusal.{Refusal}
use Rattle.chain.specs.declared.Published.{Published}
use Rattle.strip_lines.specs.Lines.{record_line, refusal_line}

-- the reply's number, and how many bytes a line has
pub record Line : Type 0 where
  pub reply : ℕ
  pub length : ℕ

-- what a put line answers: the reply's number, and how many bytes the line has, 0 where it is refused
unfoldable pub line_of : Put → List ℕ → Line
line_of p line = record { reply = p.reply; length = cond (eqb p.reply done) (length line) 0 }

-- a published level, headroom and gain are in their ranges: otherwise 2
unfoldable pub record_refusal : Float → Float → Float → ℕ
unfolding refusal
record_refusal level headroom gain = refusal true true (Figures.level level && Figures.headroom headroom && Figures.gain gain) true

unfoldable pub put_record_line : ℕ → ℕ → Float → Float → Float → Bool → List ℕ → Put
unfolding put record_refusal record_line
put_record_line number kind level headroom gain confident out =
    put (record_refusal level headroom gain) (record_line number kind level headroom gain confident) out

unfoldable pub put_refusal_line : ℕ → ℕ → List ℕ → Put
unfolding put refusal_line
put_refusal_line number reply out = put done (refusal_line number reply) out

-- ---- as the calls hand it out: how many bytes a put line has, or the refusal
abbrev pub handed_line : Put → List ℕ → Result ℕ Refusal
handed_line p line = handed (line_of p line).reply (line_of p line).length

-- the same of what a chain publishes
abbrev pub refusal_of : Published → ℕ
refusal_of p = record_refusal p.level.0 p.headroom.0 p.gain.0

abbrev pub line_of_record : ℕ → ℕ → Published → List ℕ
line_of_record number kind p = record_line number kind p.level.0 p.headroom.0 p.gain.0 p.confident

abbrev pub put_record : ℕ → ℕ → Published → List ℕ → Put
put_record number kind p out = put_record_line number kind p.level.0 p.headroom.0 p.gain.0 p.confident out
