-- Heads of any version: what is written reads back equal, what reads rewrites to the same bytes, and the reader accepts exactly what
-- the description gives. Laws. Assumes nothing.
use Rattle.std.specs.Prelude.{◌≡◌, refl, Bool, true, false, ◌&&◌, cond, ℕ, ◌+◌, ◌^◌, ◌≤◌, ◌<◌, T, eqb, leb, length, get_or, take}
use Rattle.std.proofs.Math.Path.{sym, ap}
use Rattle.std.proofs.Common.{subst, ◌∙◌, arith, leb-true, eqb-true, ne_eqb, length-append}
use mathlib.Core.List.{List, [], ◌∷◌, ◌++◌}
use Rattle.std.specs.Float.{binary32}
use Rattle.std.specs.Float.Ieee.{fits}
use Rattle.std.proofs.Math.ListN.{drop, take-append-drop}
use Rattle.lists.specs.Tests.{each_of}
use Rattle.bits.specs.Floats.{float_of, pattern_of}
use Rattle.bits.specs.Laws.RoundTrip.{float_fits, pattern_small, float_back}
use Rattle.units.specs.Replies.{done, bad_version}
use Rattle.units.specs.Laws.Replies.{none_refused}
use Rattle.units.specs.Settings as Settings
use Rattle.frames.specs.Shape.{is_samples}
use Rattle.frames.specs.Facts.{samples_facts}
use Rattle.strip_format.specs.Fields.{number_at, size, written, fields_at}
use Rattle.strip_format.specs.Format.{number_of, threshold_bytes, largest_said, version_of, head_fields, head_length, head_numbers, head_of, in_version, head_bytes}
use Rattle.strip_format.specs.Calls.{HeadRead, is_threshold, head_refusal, refused_head, judged_head, read_head, put_head}
use Rattle.strip_format.specs.Steps.{head_place}
use Rattle.strip_format.specs.Laws.Steps.{HeadThere, head_by_place, head_there, head_placed, put_done}
use Rattle.strip_format.specs.Laws.Fields.{Fits, Bytes, written_length, numbers_back, bytes_back}
use Rattle.strip_format.specs.Laws.Refusals.{head_other_version}
use Rattle.strip_format.specs.Laws.NoNan.{PlainSettings, plain_settings, same_bits}
use Rattle.strip_format.specs.declared.Version.{Version}
use Rattle.strip_format.specs.declared.Version.TheVariants.{One, Two}
use Rattle.strip_format.specs.declared.Head.{Head}

-- of each version the number is a byte, the head's length fits the two bytes that say it, and the largest threshold fits its own
record Usable (v : Version) : Type 0 where
  number : number_of v < 256
  long : head_length v < 65536
  said : largest_said v < 256 ^ threshold_bytes v

usable : (v : Version) → Usable v
usable One = record { number = omega arith; long = omega arith; said = omega arith }
usable Two = record { number = omega arith; long = omega arith; said = omega arith }

-- the settings are floats of 32 bits, as all that the code holds are
pub record Held (h : Head) : Type 0 where
  pub headroom : T (fits binary32 h.settings.headroom.0)
  pub largest : T (fits binary32 h.settings.largest.0)
  pub initial : T (fits binary32 h.settings.initial.0)
  pub change : T (fits binary32 h.settings.change)
  pub noise : T (fits binary32 h.settings.noise.0)

-- They are the same in another version.
pub held_in : (v : Version) (h : Head) → Held h → Held (in_version v h)
unfolding in_version
held_in v h p = record { headroom = p.headroom; largest = p.largest; initial = p.initial; change = p.change; noise = p.noise }

-- what an accepted head is known to be
record Accepted (h : Head) : Type 0 where
  threshold : h.threshold < 256 ^ threshold_bytes h.version
  samples : h.samples < 65536
  plain : PlainSettings h.settings

plain_head : (h : Head) → head_refusal h ≡ done → PlainSettings h.settings
unfolding head_refusal
plain_head h e =
    plain_settings h.settings
    (each_of (Settings.accepted h.settings ∷ is_threshold h.version h.threshold ∷ []) (none_refused (is_samples h.samples) _ true true e).1 0)

accepted_is : (h : Head) → head_refusal h ≡ done → Accepted h
unfolding head_refusal
accepted_is h e =
    let s = h.samples in
    let v = h.version in
    let parts = none_refused (is_samples s) (Settings.accepted h.settings && is_threshold v h.threshold) true true e in
    let upper : s ≤ 480 = (samples_facts s parts.0).most in
    let p = each_of (Settings.accepted h.settings ∷ is_threshold v h.threshold ∷ []) parts.1 in
    let most : h.threshold ≤ largest_said v = leb-true h.threshold (largest_said v) (each_of (leb 1 h.threshold ∷ leb h.threshold (largest_said v) ∷ []) (p 1) 1) in
    record { threshold = omega (arith, (usable v).said); samples = omega arith; plain = plain_head h e }

-- ---- written, then read
fits_fields : (h : Head) → Held h → Accepted h → Fits (head_fields h.version) (head_numbers h)
unfolding Fits head_numbers
fits_fields h p a =
    let u = usable h.version in (
      u.long,
      (
        u.number,
        (
          a.threshold,
          (
            a.samples,
            (
              pattern_small h.settings.headroom.0 p.headroom,
              (
                pattern_small h.settings.largest.0 p.largest,
                (
                  pattern_small h.settings.initial.0 p.initial,
                  (pattern_small h.settings.change p.change, (pattern_small h.settings.noise.0 p.noise, tt)),
                ),
              ),
            ),
          ),
        ),
      ),
    )

head_of_numbers : (h : Head) → Held h → PlainSettings h.settings → head_of h.version (head_numbers h) ≡ h
unfolding head_of head_numbers
head_of_numbers h p n =
    rw (
      float_back h.settings.headroom.0 p.headroom n.headroom,
      float_back h.settings.largest.0 p.largest n.largest,
      float_back h.settings.initial.0 p.initial n.initial,
      float_back h.settings.change p.change n.change,
      float_back h.settings.noise.0 p.noise n.noise,
    )

-- A head has as many bytes as its description says.
pub head_length_lem : (h : Head) → length (head_bytes h) ≡ size (head_fields h.version)
unfolding head_bytes head_numbers
head_length_lem h = written_length (head_fields h.version) (head_numbers h) refl

there : (strip rest : List ℕ) (h : Head) → Fits (head_fields h.version) (head_numbers h) → strip ≡ head_bytes h ++ rest
    → fields_at (head_fields h.version) strip 0 ≡ head_numbers h → HeadThere h.version strip
unfolding head_bytes fields_at head_numbers
there strip rest h f s e =
    record {
      version = ap (λ (ns : List ℕ). get_or ns 1 0) e;
      says = ap (λ (ns : List ℕ). get_or ns 0 0) e;
      whole = rw (s, length-append, written_length (head_fields h.version) (head_numbers h) refl) (omega arith);
    }

accepted_reads : (strip : List ℕ) (h : Head) → HeadThere h.version strip → head_of h.version (fields_at (head_fields h.version) strip 0) ≡ h → head_refusal h ≡ done
    → read_head h.version strip ≡ record { reply = done; head = h }
unfolding judged_head
accepted_reads strip h t e r = head_by_place h.version strip ∙ rw (head_placed h.version strip t, e, r)

module _ (h : Head) (p : Held h) where
  module _ (rest : List ℕ) (r : head_refusal h ≡ done) where
    back : fields_at (head_fields h.version) (head_bytes h ++ rest) 0 ≡ head_numbers h
    unfolding head_bytes
    back = numbers_back (head_fields h.version) (head_numbers h) [] rest (fits_fields h p (accepted_is h r))

    -- What is written is there whole,
    pub written_head_there : HeadThere h.version (head_bytes h ++ rest)
    written_head_there = there (head_bytes h ++ rest) rest h (fits_fields h p (accepted_is h r)) refl back

    -- and reads back equal, whatever follows it.
    pub written_head_reads : read_head h.version (head_bytes h ++ rest) ≡ record { reply = done; head = h }
    written_head_reads = accepted_reads (head_bytes h ++ rest) h written_head_there (ap (head_of h.version) back ∙ head_of_numbers h p (accepted_is h r).plain) r

  -- What was put into a buffer reads back equal from it.
  pub put_head_reads : (out : List ℕ) → (put_head h out).reply ≡ done
      → read_head h.version (put_head h out).out ≡ record { reply = done; head = h }
  unfolding put_head
  put_head_reads out e =
      let d = put_done (head_refusal h) (head_bytes h) out e in
      ap (read_head h.version) d.1 ∙ written_head_reads (drop (length (head_bytes h)) out) d.0

-- ---- read, then written
settled : (n : ℕ) (x : HeadRead) → (cond (eqb n done) x (refused_head n)).reply ≡ done → n ≡ done
unfolding refused_head
settled n x = go (eqb n done) refl
  where
    go : (b : Bool) → eqb n done ≡ b → (cond b x (refused_head n)).reply ≡ done → n ≡ done
    go true e h = eqb-true n done e
    go false e h = h

module _ (v : Version) where
  -- What was accepted stood in its place, and was not refused.
  module _ (strip : List ℕ) (e : (read_head v strip).reply ≡ done) where
    placed : head_place v strip ≡ done
    placed =
        settled (head_place v strip) (judged_head (head_of v (fields_at (head_fields v) strip 0)))
        (sym (ap (λ (r : HeadRead). r.reply) (head_by_place v strip)) ∙ e)

    -- What was accepted is there whole.
    pub head_stood : HeadThere v strip
    head_stood = head_there v strip placed

    judged : read_head v strip ≡ judged_head (head_of v (fields_at (head_fields v) strip 0))
    judged = head_by_place v strip ∙ rw placed

    pub read_not_refused : head_refusal (head_of v (fields_at (head_fields v) strip 0)) ≡ done
    unfolding judged_head
    read_not_refused =
        let h = head_of v (fields_at (head_fields v) strip 0) in
        settled (head_refusal h) (record { reply = done; head = h }) (sym (ap (λ (r : HeadRead). r.reply) judged) ∙ e)

    -- The head that is read is that of its numbers.
    pub read_is : (read_head v strip).head ≡ head_of v (fields_at (head_fields v) strip 0)
    unfolding judged_head
    read_is = ap (λ (r : HeadRead). r.head) judged ∙ rw read_not_refused

  numbers_of_head : (n0 n1 n2 n3 n4 n5 n6 n7 n8 : ℕ) → head_length v ≡ n0 → number_of v ≡ n1
      → pattern_of (float_of n4) ≡ n4 → pattern_of (float_of n5) ≡ n5 → pattern_of (float_of n6) ≡ n6 → pattern_of (float_of n7) ≡ n7 → pattern_of (float_of n8) ≡ n8
      → head_numbers (head_of v (n0 ∷ n1 ∷ n2 ∷ n3 ∷ n4 ∷ n5 ∷ n6 ∷ n7 ∷ n8 ∷ [])) ≡ n0 ∷ n1 ∷ n2 ∷ n3 ∷ n4 ∷ n5 ∷ n6 ∷ n7 ∷ n8 ∷ []
  unfolding head_numbers head_of
  numbers_of_head n0 n1 n2 n3 n4 n5 n6 n7 n8 a b c d e f g = rw (a, b, c, d, e, f, g)

  rewritten : (strip : List ℕ) → Bytes strip → HeadThere v strip → PlainSettings (head_of v (fields_at (head_fields v) strip 0)).settings
      → head_numbers (head_of v (fields_at (head_fields v) strip 0)) ≡ fields_at (head_fields v) strip 0
  unfolding fields_at head_of
  rewritten strip b t n =
      let at = 3 + threshold_bytes v + 2 in
      let whole = t.whole in
      numbers_of_head (number_at strip 0 2) (number_at strip 2 1) (number_at strip 3 (threshold_bytes v)) (number_at strip (3 + threshold_bytes v) 2)
      (number_at strip at 4) (number_at strip (at + 4) 4) (number_at strip (at + 4 + 4) 4) (number_at strip (at + 4 + 4 + 4) 4)
      (number_at strip (at + 4 + 4 + 4 + 4) 4) (sym t.says) (sym t.version)
      (same_bits strip at b (omega arith) n.headroom) (same_bits strip (at + 4) b (omega arith) n.largest)
      (same_bits strip (at + 4 + 4) b (omega arith) n.initial) (same_bits strip (at + 4 + 4 + 4) b (omega arith) n.change)
      (same_bits strip (at + 4 + 4 + 4 + 4) b (omega arith) n.noise)

  -- What reads rewrites to the same bytes, a negative zero's too.
  pub read_head_rewrites : (strip : List ℕ) → Bytes strip → (read_head v strip).reply ≡ done
      → head_bytes (read_head v strip).head ≡ take (size (head_fields v)) strip
  unfolding head_bytes head_of
  read_head_rewrites strip b e =
      let t = head_stood strip e in
      let h = head_of v (fields_at (head_fields v) strip 0) in
      ap head_bytes (read_is strip e)
      ∙ ap (written (head_fields v)) (rewritten strip b t (plain_head h (read_not_refused strip e)))
      ∙ bytes_back (head_fields v) strip 0 b (omega (arith, t.whole))

  -- No NaN is read.
  pub read_head_no_nan : (strip : List ℕ) → (read_head v strip).reply ≡ done → PlainSettings (read_head v strip).head.settings
  read_head_no_nan strip e =
      subst (λ (h : Head). PlainSettings h.settings) (sym (read_is strip e))
      (plain_head (head_of v (fields_at (head_fields v) strip 0)) (read_not_refused strip e))

  -- The head that is read is of the version.
  pub read_version : (strip : List ℕ) → (read_head v strip).reply ≡ done → (read_head v strip).head.version ≡ v
  unfolding head_of
  read_version strip e = ap (λ (h : Head). h.version) (read_is strip e)

  -- ---- exactly
  -- A strip begins with the bytes of a head of the version that is accepted.
  pub record Begins (strip : List ℕ) : Type 0 where
    pub head : Head
    pub rest : List ℕ
    pub of : head.version ≡ v
    pub held : Held head
    pub accepted : head_refusal head ≡ done
    pub is : strip ≡ head_bytes head ++ rest

  -- The settings of a head that is read are f32.
  pub held_head : (strip : List ℕ) → Held (head_of v (fields_at (head_fields v) strip 0))
  unfolding head_of
  held_head strip =
      let ns = fields_at (head_fields v) strip 0 in
      record {
        headroom = float_fits (get_or ns 4 0);
        largest = float_fits (get_or ns 5 0);
        initial = float_fits (get_or ns 6 0);
        change = float_fits (get_or ns 7 0);
        noise = float_fits (get_or ns 8 0);
      }

  -- The reader accepts a strip exactly where it begins with the bytes of such a head.
  pub heads_accepted_exactly : (strip : List ℕ) → Bytes strip
      → ((read_head v strip).reply ≡ done → Begins strip) × (Begins strip → (read_head v strip).reply ≡ done)
  unfolding head_of
  heads_accepted_exactly strip b = (only, every)
    where
      only : (read_head v strip).reply ≡ done → Begins strip
      only e =
          record {
            head = head_of v (fields_at (head_fields v) strip 0);
            rest = drop (size (head_fields v)) strip;
            of = refl;
            held = held_head strip;
            accepted = read_not_refused strip e;
            is =
                sym
                (ap (λ (l : List ℕ). l ++ drop (size (head_fields v)) strip)
                (ap head_bytes (sym (read_is strip e)) ∙ read_head_rewrites strip b e)
                ∙ take-append-drop (size (head_fields v)) strip);
          }

      every : Begins strip → (read_head v strip).reply ≡ done
      every s =
          ap (λ (w : Version). (read_head w strip).reply) (sym s.of)
          ∙ ap (λ (l : List ℕ). (read_head s.head.version l).reply) s.is
          ∙ ap (λ (r : HeadRead). r.reply) (written_head_reads s.head s.held s.rest s.accepted)

-- ---- the version that a strip says
-- A strip whose head is there says its version.
pub version_there : (v : Version) (strip : List ℕ) → HeadThere v strip → version_of strip ≡ v
unfolding version_of
version_there One strip t = rw t.version
version_there Two strip t = rw t.version

-- So what is written reads back equal in the version that it says,
pub written_says : (h : Head) (rest : List ℕ) → Held h → head_refusal h ≡ done → version_of (head_bytes h ++ rest) ≡ h.version
written_says h rest p r = version_there h.version (head_bytes h ++ rest) (written_head_there h p rest r)

-- and a strip that is accepted in a version is accepted in the one that it says.
pub accepted_says : (v : Version) (strip : List ℕ) → (read_head v strip).reply ≡ done → version_of strip ≡ v
accepted_says v strip e = version_there v strip (head_stood v strip e)

-- "7 now means neither 1 nor 2"
pub neither_version : (strip : List ℕ) → 3 ≤ length strip → (number_at strip 2 1 ≡ number_of One → ⊥) → (number_at strip 2 1 ≡ number_of Two → ⊥)
    → read_head (version_of strip) strip ≡ refused_head bad_version
unfolding version_of
neither_version strip l one two = rw (ne_eqb (number_at strip 2 1) (number_of Two) two) (head_other_version One strip l one)
