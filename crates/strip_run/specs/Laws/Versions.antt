-- What a strip prints does not depend on its version: a strip in either version with the same settings and records prints the same lines, and has the
-- same reply. Laws.
-- Assumes nothing.
use Rattle.std.specs.Prelude.{◌≡◌, ℕ, List, ◌∷◌}
use Rattle.std.proofs.Math.Path.{sym, ap}
use Rattle.std.proofs.Common.{◌∙◌}
use Rattle.lists.specs.Each.{Each}
use Rattle.units.specs.Replies.{done}
use Rattle.strip_format.specs.Format.{version_of, in_version, Entry, strip_bytes}
use Rattle.strip_format.specs.Calls.{head_refusal}
use Rattle.strip_format.specs.Whole.{read_strip}
use Rattle.strip_format.specs.Laws.Heads.{Held, held_in}
use Rattle.strip_format.specs.Laws.Whole.{Accepted, strip_back, strip_says}
use Rattle.strip_format.specs.declared.Version.{Version}
use Rattle.strip_format.specs.declared.Head.{Head}
use Rattle.strip_reader.specs.Reader.{Handed, head, end}
use Rattle.strip_reader.specs.Feeding.{ending, entries_then, handed_by}
use Rattle.strip_reader.specs.Telling.{lines_of, desk_of}
use Rattle.strip_run.specs.Lines.{at_start, begun, shown, told, lines, reply_of}

-- a strip that the version can say: its head and its records are not refused
pub record Said (v : Version) (h : Head) (es : List Entry) : Type 0 where
  pub held : Held h
  pub head : head_refusal (in_version v h) ≡ done
  pub records : Each (Accepted v) es

module _ (v : Version) (h : Head) (es : List Entry) (s : Said v h es) where
  -- what is handed out of the strip in a version
  handed_out_lem : let strip = strip_bytes (in_version v h) es in handed_by (read_strip (version_of strip) strip) ≡ head (in_version v h) ∷ entries_then es end
  unfolding handed_by ending in_version
  handed_out_lem =
      let g = in_version v h in
      let strip = strip_bytes g es in
      let p = held_in v h s.held in
      ap (λ (w : Version). handed_by (read_strip w strip)) (strip_says g es p s.head s.records) ∙ ap handed_by (strip_back g es p s.head s.records)

module _ (capacity : ℕ) (v w : Version) (h : Head) (es : List Entry) (s : Said v h es) (t : Said w h es) where
  pub same_lines : lines capacity (strip_bytes (in_version v h) es) ≡ lines capacity (strip_bytes (in_version w h) es)
  unfolding lines lines_of told shown begun in_version
  same_lines = ap (lines_of told (at_start capacity)) (handed_out_lem v h es s) ∙ sym (ap (lines_of told (at_start capacity)) (handed_out_lem w h es t))

  pub same_reply : reply_of capacity (strip_bytes (in_version v h) es) ≡ reply_of capacity (strip_bytes (in_version w h) es)
  unfolding reply_of desk_of told shown begun in_version
  same_reply =
      ap (λ (hs : List Handed). (desk_of told (at_start capacity) hs).reply) (handed_out_lem v h es s) ∙ sym (ap (λ (hs : List Handed). (desk_of told (at_start capacity) hs).reply) (handed_out_lem w h es t))
