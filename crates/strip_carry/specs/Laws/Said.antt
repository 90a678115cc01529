-- What of a strip that was read a version can say: its head by the threshold, and its records by whether the version has gaps. Laws.
-- Assumes nothing.
use Rattle.std.specs.Prelude.{◌≡◌, ℕ, zero, suc, ◌≤◌, Bool, true, false, cond, ◌&&◌, leb, List, [], ◌∷◌, ◌++◌, length, drop, ◌==◌, nat_le}
use Rattle.std.proofs.Math.Path.{refl}
use Rattle.std.proofs.Common.{sym, ap, subst, ◌∙◌, arith, leb-true, le-leb, eq-eqb}
use Rattle.lists.specs.Each.{Each, each_so}
use Rattle.lists.specs.Tests.{each_of}
use Rattle.units.specs.Replies.{done, bad_length, bad_setting, unsaid, refusal}
use Rattle.units.specs.Laws.Replies.{none_refused}
use Rattle.units.specs.Settings as Settings
use Rattle.units.specs.declared.figures.Figures.{Figures}
use Rattle.frames.specs.Shape.{is_samples}
use Rattle.strip_format.specs.Fields.{size, fields_at}
use Rattle.strip_format.specs.Format.{in_version, largest_said, has_gaps, head_fields, head_of, Entry, figures, gap, entry_size, entry_bytes}
use Rattle.strip_format.specs.Calls.{HeadRead, is_threshold, head_refusal, read_head, record_refusal, refused_record, ended, found}
use Rattle.strip_format.specs.Whole.{joined, behind, entries_in, entries_of, read_strip}
use Rattle.strip_format.specs.Laws.Heads.{Held, read_not_refused, read_is, read_version, held_head}
use Rattle.strip_format.specs.Laws.Records as Records
use Rattle.strip_format.specs.Laws.Gaps.{gap_had, written_gap_reads}
use Rattle.strip_format.specs.Laws.Versions.{figures_stay}
use Rattle.strip_format.specs.Laws.Whole.{Accepted, read_by, written_entry_reads, read_accepted, Seen, here, over, refused, seen}
use Rattle.strip_format.specs.declared.Head.{Head}
use Rattle.strip_format.specs.declared.Version.{Version}
use Rattle.strip_format.specs.declared.Version.TheVariants.{One, Two}
use Rattle.strip_carry.specs.Carry.{other, says_head, says_entry, Verdict, entries_said, strip_said, judged}
use Rattle.strip_carry.specs.Laws.Tally.{judged_read, judged_whole, whole_head}

-- ---- a head
-- Of a head that is accepted another version says all but a threshold above its largest.
pub head_said : (w : Version) (h : Head) → head_refusal h ≡ done → says_head w h ≡ nat_le h.threshold (largest_said w)
unfolding says_head head_refusal in_version refusal
head_said w h r =
    let parts = none_refused (is_samples h.samples) (Settings.accepted h.settings && is_threshold h.version h.threshold) true true r in
    let p = each_of (Settings.accepted h.settings ∷ is_threshold h.version h.threshold ∷ []) parts.1 in
    let least : leb 1 h.threshold ≡ true = each_of (nat_le 1 h.threshold ∷ nat_le h.threshold (largest_said h.version) ∷ []) (p 1) 0 in
    rw (parts.0, p 0, least) (go (nat_le h.threshold (largest_said w)))
  where
    go : (b : Bool) → (cond b done bad_setting == done) ≡ b
    go true = refl
    go false = refl

-- In its own version a head is itself,
pub own_version : (v : Version) (h : Head) → h.version ≡ v → in_version v h ≡ h
unfolding in_version
own_version v h e = rw (← e)

-- so the version says it,
pub own_head_said : (v : Version) (h : Head) → head_refusal h ≡ done → h.version ≡ v → says_head v h ≡ true
unfolding says_head
own_head_said v h r e = eq-eqb (head_refusal (in_version v h)) done (ap head_refusal (own_version v h e) ∙ r)

-- and its threshold is not above the version's largest.
pub threshold_most : (v : Version) (h : Head) → head_refusal h ≡ done → h.version ≡ v → h.threshold ≤ largest_said v
threshold_most v h r e = leb-true h.threshold (largest_said v) (sym (head_said v h r) ∙ own_head_said v h r e)

-- ---- a record
-- Every version says figures that are accepted,
pub figures_said : (v w : Version) (f : Figures) → Accepted v (figures f) → says_entry w (figures f) ≡ true
unfolding says_entry
figures_said v w f a =
    eq-eqb (record_refusal f) done (Records.read_not_refused v (entry_bytes (figures f) ++ []) 0 f (written_entry_reads v (figures f) [] a))

-- and a version that has gaps says one.
pub gap_said : (w : Version) → says_entry w gap ≡ has_gaps w
unfolding says_entry
gap_said w = go (has_gaps w)
  where
    go : (b : Bool) → (cond b done bad_length == done) ≡ b
    go true = refl
    go false = refl

-- A version says what it accepts,
pub own_said : (v : Version) (e : Entry) → Accepted v e → says_entry v e ≡ true
own_said v (figures f) a = figures_said v v f a
own_said v gap a = gap_said v ∙ gap_had v (entry_bytes gap ++ []) 0 (written_entry_reads v gap [] a)

-- version 2 says all,
pub said_in_two : (v : Version) (e : Entry) → Accepted v e → says_entry Two e ≡ true
said_in_two v (figures f) a = figures_said v Two f a
said_in_two v gap a = gap_said Two

-- and what a version says it accepts.
pub said_accepted : (v w : Version) (e : Entry) → Accepted v e → says_entry w e ≡ true → Accepted w e
said_accepted v w (figures f) a s =
    let bytes = entry_bytes (figures f) ++ [] in
    read_accepted w bytes (figures f) (figures_stay v w bytes 0 f (written_entry_reads v (figures f) [] a))
said_accepted v w gap a s = read_accepted w (entry_bytes gap ++ []) gap (written_gap_reads w [] [] (sym (gap_said w) ∙ s))

-- ---- what was read
all_accepted : (most : ℕ) (v : Version) (bytes : List ℕ) → Each (Accepted v) (entries_in most v bytes).entries
unfolding Each entries_in joined behind found ended refused_record
all_accepted zero v bytes = tt
all_accepted (suc most) v bytes = go (all_accepted most v) (seen v bytes)
  where
    go : ((rest : List ℕ) → Each (Accepted v) (entries_in most v rest).entries) → Seen v bytes → Each (Accepted v) (entries_in (suc most) v bytes).entries
    go again (here h) = rw h.is (read_accepted v bytes h.entry h.is, again (drop (entry_size h.entry) bytes))
    go again (over o) = rw o.is tt
    go again (refused r) = rw r.is tt

module _ (v : Version) (strip : List ℕ) where
  -- The records that are read of a strip are accepted.
  pub entries_accepted : Each (Accepted v) (read_strip v strip).entries
  unfolding read_strip entries_of Each
  entries_accepted = go ((read_head v strip).reply == done)
    where
      go : (b : Bool) → Each (Accepted v) (read_by v strip b).entries
      go true = let rest = drop (size (head_fields v)) strip in all_accepted (length rest) v rest
      go false = tt

  -- The head that a strip has is the one that is read.
  pub strip_head : (read_strip v strip).head ≡ read_head v strip
  unfolding read_strip
  strip_head = go ((read_head v strip).reply == done)
    where
      go : (b : Bool) → (read_by v strip b).head ≡ read_head v strip
      go true = refl
      go false = refl

  module _ (e : (read_strip v strip).reply ≡ done) where
    reply : (read_head v strip).reply ≡ done
    reply = sym (ap (λ (r : HeadRead). r.reply) strip_head) ∙ whole_head v strip e

    head_is : (read_strip v strip).head.head ≡ head_of v (fields_at (head_fields v) strip 0)
    head_is = ap (λ (r : HeadRead). r.head) strip_head ∙ read_is v strip reply

    -- The head of a strip that is read whole is accepted,
    pub head_accepted : head_refusal (read_strip v strip).head.head ≡ done
    head_accepted = ap head_refusal head_is ∙ read_not_refused v strip reply

    -- of the version,
    pub head_version : (read_strip v strip).head.head.version ≡ v
    head_version = ap (λ (r : HeadRead). r.head.version) strip_head ∙ read_version v strip reply

    -- and its settings are f32.
    pub head_held : Held (read_strip v strip).head.head
    head_held = subst Held (sym head_is) (held_head v strip)

-- ---- a whole strip
-- a version says a head and its records
pub record Said (w : Version) (h : Head) (es : List Entry) : Type 0 where
  pub head : says_head w h ≡ true
  pub records : Each (λ (e : Entry). says_entry w e ≡ true) es

entries_said_lem : (w : Version) (n : ℕ) (es : List Entry) → (entries_said w n es).reply ≡ done → Each (λ (e : Entry). says_entry w e ≡ true) es
unfolding entries_said Each
entries_said_lem w n [] = λ d. tt
entries_said_lem w n (e ∷ es) = go (says_entry w e) (entries_said_lem w (suc n) es)
  where
    go : (b : Bool) → ((entries_said w (suc n) es).reply ≡ done → Each (λ (x : Entry). says_entry w x ≡ true) es)
        → (cond b (entries_said w (suc n) es) (record { reply = unsaid; number = n })).reply ≡ done → (b ≡ true) × Each (λ (x : Entry). says_entry w x ≡ true) es
    go true again d = (refl, again d)
    go false again d = absurd (omega arith)

said_entries : (w : Version) (n : ℕ) (es : List Entry) → Each (λ (e : Entry). says_entry w e ≡ true) es → (entries_said w n es).reply ≡ done
unfolding entries_said Each
said_entries w n [] s = refl
said_entries w n (e ∷ es) s = rw s.0 (said_entries w (suc n) es s.1)

strip_said_lem : (w : Version) (h : Head) (es : List Entry) → (strip_said w h es).reply ≡ done → Said w h es
unfolding strip_said
strip_said_lem w h es = go (says_head w h) refl
  where
    go : (b : Bool) → says_head w h ≡ b → (cond b (entries_said w 1 es) (record { reply = unsaid; number = 0 })).reply ≡ done → Said w h es
    go true s d = record { head = s; records = entries_said_lem w 1 es d }
    go false s d = absurd (omega arith)

said_strip : (w : Version) (h : Head) (es : List Entry) → Said w h es → (strip_said w h es).reply ≡ done
unfolding strip_said
said_strip w h es s = rw s.head (said_entries w 1 es s.records)

module _ (v : Version) (strip : List ℕ) where
  -- A strip can be carried exactly where it is read whole and the other version says its head and its records.
  pub judged-exactly :
      ((judged v strip).reply ≡ done → ((read_strip v strip).reply ≡ done) × Said (other v) (read_strip v strip).head.head (read_strip v strip).entries)
      × (((read_strip v strip).reply ≡ done) × Said (other v) (read_strip v strip).head.head (read_strip v strip).entries → (judged v strip).reply ≡ done)
  judged-exactly = (only, every)
    where
      only : (judged v strip).reply ≡ done → ((read_strip v strip).reply ≡ done) × Said (other v) (read_strip v strip).head.head (read_strip v strip).entries
      only d =
          let e = judged_read v strip d in
          (e, strip_said_lem (other v) (read_strip v strip).head.head (read_strip v strip).entries (sym (ap (λ (x : Verdict). x.reply) (judged_whole v strip e)) ∙ d))

      every : ((read_strip v strip).reply ≡ done) × Said (other v) (read_strip v strip).head.head (read_strip v strip).entries → (judged v strip).reply ≡ done
      every s =
          ap (λ (x : Verdict). x.reply) (judged_whole v strip s.0) ∙ said_strip (other v) (read_strip v strip).head.head (read_strip v strip).entries s.1

-- A strip that is read whole in version 1 can always be said in version 2.
pub says_all_up : (strip : List ℕ) → (read_strip One strip).reply ≡ done → (judged One strip).reply ≡ done
says_all_up strip e =
    let h = (read_strip One strip).head.head in
    let most : h.threshold ≤ largest_said One = threshold_most One h (head_accepted One strip e) (head_version One strip e) in
    (judged-exactly One strip).1 (
      e,
      record {
        head = head_said Two h (head_accepted One strip e) ∙ le-leb h.threshold (largest_said Two) (omega arith);
        records = each_so (Accepted One) (λ (x : Entry). says_entry Two x ≡ true) (said_in_two One) (read_strip One strip).entries (entries_accepted One strip);
      },
    )
