-- A head or a record that is settled by the first bytes of a strip stays so, whatever bytes follow: what reading in pieces rests on. Laws.
-- Assumes nothing.
use Rattle.std.specs.Prelude.{◌≡◌, Bool, true, false, ◌&&◌, List, [], ◌∷◌, ◌++◌, ℕ, zero, suc, ◌+◌, ◌≤◌, ◌<◌, ◌⊎◌, length}
use Rattle.std.proofs.Math.Path.{refl}
use Rattle.std.proofs.Common.{sym, ap, ◌∙◌, inl, inr, arith, leb-true, leb-false, eqb-true, lt-ltb, length-append}
use Rattle.std.proofs.Math.Bool.{cond}
use Rattle.std.proofs.lemmas.Bool.{eqb-false}
use Rattle.std.proofs.Math.Dec.{eqb, leb}
use Rattle.std.proofs.Math.ListN.{get_or-append}
use Rattle.units.specs.Replies.{done, cut, bad_length, bad_version, refusal}
use Rattle.units.specs.Figures as Figure
use Rattle.units.specs.Settings as Settings
use Rattle.units.specs.declared.figures.Figures.{Figures}
use Rattle.frames.specs.Shape.{is_samples}
use Rattle.strip_format.specs.Fields.{size, number_at, fields_at}
use Rattle.strip_format.specs.Format.{number_of, version_of, head_fields, head_length, head_of, record_fields, record_length, figures_of, Entry, figures, gap, entry_size}
use Rattle.strip_format.specs.Calls.{HeadRead, Read, is_threshold, head_refusal, record_refusal, refused_head, judged_head, read_head, refused_record, ended, found, judged_record, is_gap, read_record}
use Rattle.strip_format.specs.Laws.Steps.{HeadThere, RecordThere}
use Rattle.strip_format.specs.Laws.Heads.{head_stood}
use Rattle.strip_format.specs.Laws.Records.{stood}
use Rattle.strip_format.specs.Laws.Gaps.{gap_says, gap_stood}
use Rattle.strip_format.specs.Laws.Refusals.{head_too_short, head_wrong_length, head_other_version, head_judged, record_none, record_gap, record_wrong_length, record_judged, judged_head_reply, judged_record_reply}
use Rattle.strip_format.specs.declared.Version.{Version}
use Rattle.strip_format.specs.declared.Head.{Head}

-- ---- numbers and fields that lie within the first bytes
pub number_within : (xs ys : List ℕ) (at w : ℕ) → at + w ≤ length xs → number_at (xs ++ ys) at w ≡ number_at xs at w
unfolding number_at
number_within xs ys at zero l = refl
number_within xs ys at (suc w) l = rw (number_within xs ys at w (omega arith), get_or-append xs ys 0 (at + w) (omega arith))

pub fields_within : (ws xs ys : List ℕ) (at : ℕ) → at + size ws ≤ length xs → fields_at ws (xs ++ ys) at ≡ fields_at ws xs at
unfolding fields_at
fields_within [] xs ys at l = refl
fields_within (w ∷ ws) xs ys at l = rw (number_within xs ys at w (omega arith), fields_within ws xs ys (at + w) (omega arith))

longer : (xs ys : List ℕ) → length xs ≤ length (xs ++ ys)
longer xs ys = rw length-append (omega arith)

-- ---- a record
module _ (v : Version) (xs ys : List ℕ) where
  there_within : RecordThere xs 0 → RecordThere (xs ++ ys) 0
  there_within t =
      let l = t.whole in
      record { says = number_within xs ys 0 2 (omega arith) ∙ t.says; whole = omega (arith, longer xs ys) }

  there_again : 0 + size record_fields ≤ length xs → RecordThere (xs ++ ys) 0 → RecordThere xs 0
  there_again l t = record { says = sym (number_within xs ys 0 2 (omega arith)) ∙ t.says; whole = l }

  judged_within : RecordThere xs 0 → read_record v (xs ++ ys) 0 ≡ read_record v xs 0
  judged_within t =
      record_judged v (xs ++ ys) 0 (there_within t)
      ∙ ap (λ (ns : List ℕ). judged_record (figures_of ns)) (fields_within record_fields xs ys 0 t.whole)
      ∙ sym (record_judged v xs 0 t)

  -- What is read of bytes that are not cut stays, whatever follows.
  pub record_settled : 0 < length xs → ((read_record v xs 0).reply ≡ cut → ⊥) → read_record v (xs ++ ys) 0 ≡ read_record v xs 0
  unfolding read_record refused_record
  record_settled some n =
      go (leb (0 + 2) (length xs)) refl (is_gap v (number_at xs 0 2)) refl (eqb (number_at xs 0 2) record_length) refl (leb (0 + size record_fields) (length xs)) refl
    where
      begun : {b g c d : Bool} → leb (0 + 2) (length xs) ≡ b → is_gap v (number_at xs 0 2) ≡ g → eqb (number_at xs 0 2) record_length ≡ c → leb (0 + size record_fields) (length xs) ≡ d
          → read_record v xs 0 ≡ cond b (cond g (found gap) (cond c (cond d (judged_record (figures_of (fields_at record_fields xs 0))) (refused_record cut)) (refused_record bad_length))) (refused_record cut)
      begun p q r s = rw (lt-ltb 0 (length xs) some, p, q, r, s)

      reply_cut : read_record v xs 0 ≡ refused_record cut → (read_record v xs 0).reply ≡ cut
      reply_cut e = ap (λ (r : Read). r.reply) e

      two : leb (0 + 2) (length xs) ≡ true → number_at (xs ++ ys) 0 2 ≡ number_at xs 0 2
      two p = number_within xs ys 0 2 (leb-true (0 + 2) (length xs) p)

      enough : leb (0 + 2) (length xs) ≡ true → 0 + 2 ≤ length (xs ++ ys)
      enough p = omega (arith, leb-true (0 + 2) (length xs) p, longer xs ys)

      go : (b : Bool) → leb (0 + 2) (length xs) ≡ b → (g : Bool) → is_gap v (number_at xs 0 2) ≡ g → (c : Bool) → eqb (number_at xs 0 2) record_length ≡ c
          → (d : Bool) → leb (0 + size record_fields) (length xs) ≡ d → read_record v (xs ++ ys) 0 ≡ read_record v xs 0
      go false p g q c r d s = absurd (n (reply_cut (begun p q r s)))
      go true p true q c r d s = record_gap v (xs ++ ys) 0 (enough p) (ap (is_gap v) (two p) ∙ q) ∙ sym (begun p q r s)
      go true p false q false r d s =
          record_wrong_length v (xs ++ ys) 0 (enough p) (ap (is_gap v) (two p) ∙ q) (λ e. eqb-false (number_at xs 0 2) record_length r (sym (two p) ∙ e))
          ∙ sym (begun p q r s)
      go true p false q true r false s = absurd (n (reply_cut (begun p q r s)))
      go true p false q true r true s =
          judged_within (record { says = eqb-true (number_at xs 0 2) record_length r; whole = leb-true (0 + size record_fields) (length xs) s })

  -- A record that is found within the first bytes is found in them alone.
  pub found_within : (e : Entry) → read_record v (xs ++ ys) 0 ≡ found e → entry_size e ≤ length xs → read_record v xs 0 ≡ found e
  found_within (figures f) h l = sym (judged_within (there_again (omega arith) (stood v (xs ++ ys) 0 f h))) ∙ h
  found_within gap h l =
      record_gap v xs 0 (omega arith) (ap (is_gap v) (sym (number_within xs ys 0 2 (omega arith))) ∙ gap_says v (xs ++ ys) 0 h)

-- A record that is found is there whole.
pub entry_fits : (v : Version) (strip : List ℕ) (e : Entry) → read_record v strip 0 ≡ found e → entry_size e ≤ length strip
entry_fits v strip (figures f) h = omega (arith, (stood v strip 0 f h).whole)
entry_fits v strip gap h = omega (arith, (gap_stood v strip 0 h).whole)

-- Of no byte there is no record.
pub none_of_nothing : (v : Version) → read_record v [] 0 ≡ ended
none_of_nothing v = record_none v [] 0 (omega arith)

no_entry : (n : ℕ) (e : Entry) → refused_record n ≡ found e → ⊥
unfolding refused_record found
no_entry n e h = omega (arith, ap (λ (r : Read). length r.found) h)

some_bytes : (e : Entry) (n : ℕ) → n ≡ 0 → entry_size e ≤ n → ⊥
some_bytes (figures f) n z l = omega arith
some_bytes gap n z l = omega arith

-- A record that its last byte settles ends with that byte: bytes that end in none or are cut, and one byte more, are the whole record.
pub record_ends : (v : Version) (xs : List ℕ) (b : ℕ) (e : Entry) → (length xs ≡ 0) ⊎ ((read_record v xs 0).reply ≡ cut) → read_record v (xs ++ (b ∷ [])) 0 ≡ found e
    → entry_size e ≡ length (xs ++ (b ∷ []))
unfolding found
record_ends v xs b e held h = go (leb (entry_size e) (length xs)) refl
  where
    long : length (xs ++ (b ∷ [])) ≡ length xs + 1
    long = rw length-append

    unsettled : (length xs ≡ 0) ⊎ ((read_record v xs 0).reply ≡ cut) → entry_size e ≤ length xs → ⊥
    unsettled (inl z) l = some_bytes e (length xs) z l
    unsettled (inr c) l = omega (arith, sym c ∙ ap (λ (r : Read). r.reply) (found_within v xs (b ∷ []) e h l))

    go : (t : Bool) → leb (entry_size e) (length xs) ≡ t → entry_size e ≡ length (xs ++ (b ∷ []))
    go false l = omega (arith, leb-false (entry_size e) (length xs) l, long, entry_fits v (xs ++ (b ∷ [])) e h)
    go true l = absurd (unsettled held (leb-true (entry_size e) (length xs) l))

-- ---- a head
module _ (v : Version) (xs ys : List ℕ) where
  head_within : HeadThere v xs → HeadThere v (xs ++ ys)
  head_within t =
      let l = t.whole in
      record {
        version = number_within xs ys 2 1 (omega arith) ∙ t.version;
        says = number_within xs ys 0 2 (omega arith) ∙ t.says;
        whole = omega (arith, longer xs ys);
      }

  head_again : size (head_fields v) ≤ length xs → HeadThere v (xs ++ ys) → HeadThere v xs
  head_again l t =
      record {
        version = sym (number_within xs ys 2 1 (omega arith)) ∙ t.version;
        says = sym (number_within xs ys 0 2 (omega arith)) ∙ t.says;
        whole = l;
      }

  whole_within : HeadThere v xs → read_head v (xs ++ ys) ≡ read_head v xs
  whole_within t =
      head_judged v (xs ++ ys) (head_within t)
      ∙ ap (λ (ns : List ℕ). judged_head (head_of v ns)) (fields_within (head_fields v) xs ys 0 (omega (arith, t.whole)))
      ∙ sym (head_judged v xs t)

  -- What is read of bytes that are not cut stays, whatever follows.
  pub head_settled : ((read_head v xs).reply ≡ cut → ⊥) → read_head v (xs ++ ys) ≡ read_head v xs
  unfolding read_head refused_head
  head_settled n = go (leb 3 (length xs)) refl (eqb (number_at xs 2 1) (number_of v)) refl (eqb (number_at xs 0 2) (head_length v)) refl (leb (size (head_fields v)) (length xs)) refl
    where
      begun : {a b c d : Bool} → leb 3 (length xs) ≡ a → eqb (number_at xs 2 1) (number_of v) ≡ b → eqb (number_at xs 0 2) (head_length v) ≡ c → leb (size (head_fields v)) (length xs) ≡ d
          → read_head v xs ≡ cond a (cond b (cond c (cond d (judged_head (head_of v (fields_at (head_fields v) xs 0))) (refused_head cut)) (refused_head bad_length)) (refused_head bad_version)) (refused_head cut)
      begun p q r s = rw (p, q, r, s)

      reply_cut : read_head v xs ≡ refused_head cut → (read_head v xs).reply ≡ cut
      reply_cut e = ap (λ (r : HeadRead). r.reply) e

      three : leb 3 (length xs) ≡ true → 3 ≤ length xs
      three p = leb-true 3 (length xs) p

      enough : leb 3 (length xs) ≡ true → 3 ≤ length (xs ++ ys)
      enough p = omega (arith, three p, longer xs ys)

      third : leb 3 (length xs) ≡ true → number_at (xs ++ ys) 2 1 ≡ number_at xs 2 1
      third p = let l = three p in number_within xs ys 2 1 (omega arith)

      first : leb 3 (length xs) ≡ true → number_at (xs ++ ys) 0 2 ≡ number_at xs 0 2
      first p = let l = three p in number_within xs ys 0 2 (omega arith)

      go : (a : Bool) → leb 3 (length xs) ≡ a → (b : Bool) → eqb (number_at xs 2 1) (number_of v) ≡ b → (c : Bool) → eqb (number_at xs 0 2) (head_length v) ≡ c
          → (d : Bool) → leb (size (head_fields v)) (length xs) ≡ d → read_head v (xs ++ ys) ≡ read_head v xs
      go false p b q c r d s = absurd (n (reply_cut (begun p q r s)))
      go true p false q c r d s =
          head_other_version v (xs ++ ys) (enough p) (λ e. eqb-false (number_at xs 2 1) (number_of v) q (sym (third p) ∙ e)) ∙ sym (begun p q r s)
      go true p true q false r d s =
          head_wrong_length v (xs ++ ys) (enough p) (third p ∙ eqb-true (number_at xs 2 1) (number_of v) q) (λ e. eqb-false (number_at xs 0 2) (head_length v) r (sym (first p) ∙ e))
          ∙ sym (begun p q r s)
      go true p true q true r false s = absurd (n (reply_cut (begun p q r s)))
      go true p true q true r true s =
          whole_within
          (record {
            version = eqb-true (number_at xs 2 1) (number_of v) q;
            says = eqb-true (number_at xs 0 2) (head_length v) r;
            whole = leb-true (size (head_fields v)) (length xs) s;
          })

-- A head that its last byte settles ends with that byte.
pub head_ends : (v : Version) (xs : List ℕ) (b : ℕ) → (read_head v xs).reply ≡ cut → (read_head v (xs ++ (b ∷ []))).reply ≡ done
    → size (head_fields v) ≡ length (xs ++ (b ∷ []))
head_ends v xs b held h = go (leb (size (head_fields v)) (length xs)) refl
  where
    there : HeadThere v (xs ++ (b ∷ []))
    there = head_stood v (xs ++ (b ∷ [])) h

    long : length (xs ++ (b ∷ [])) ≡ length xs + 1
    long = rw length-append

    go : (t : Bool) → leb (size (head_fields v)) (length xs) ≡ t → size (head_fields v) ≡ length (xs ++ (b ∷ []))
    go false l = omega (arith, leb-false (size (head_fields v)) (length xs) l, long, there.whole)
    go true l =
        let same : (read_head v (xs ++ (b ∷ []))).reply ≡ (read_head v xs).reply = ap (λ (r : HeadRead). r.reply) (whole_within v xs (b ∷ []) (head_again v xs (b ∷ []) (leb-true (size (head_fields v)) (length xs) l) there)) in
        absurd (omega (arith, sym h ∙ same ∙ held))

-- ---- what is cut is not there whole
never_cut : (shape setting figure sample : Bool) → refusal shape setting figure sample ≡ cut → ⊥
unfolding refusal
never_cut true true true true e = omega arith
never_cut true true true false e = omega arith
never_cut true true false sample e = omega arith
never_cut true false figure sample e = omega arith
never_cut false setting figure sample e = omega arith

figures_never_cut : (f : Figures) → record_refusal f ≡ cut → ⊥
unfolding record_refusal
figures_never_cut f e = never_cut true true (Figure.accepted f) true e

numbers_never_cut : (h : Head) → head_refusal h ≡ cut → ⊥
unfolding head_refusal
numbers_never_cut h e = never_cut (is_samples h.samples) (Settings.accepted h.settings && is_threshold h.version h.threshold) true true e

pub record_cut_short : (v : Version) (xs : List ℕ) → (read_record v xs 0).reply ≡ cut → length xs < size record_fields
unfolding refused_record found
record_cut_short v xs e = go (leb (0 + size record_fields) (length xs)) refl
  where
    whole : 0 + size record_fields ≤ length xs → (g : Bool) → is_gap v (number_at xs 0 2) ≡ g → (c : Bool) → eqb (number_at xs 0 2) record_length ≡ c → ⊥
    whole l true q c r = omega (arith, sym e ∙ ap (λ (x : Read). x.reply) (record_gap v xs 0 (omega arith) q))
    whole l false q false r =
        omega (arith, sym e ∙ ap (λ (x : Read). x.reply) (record_wrong_length v xs 0 (omega arith) q (eqb-false (number_at xs 0 2) record_length r)))
    whole l false q true r =
        let t : RecordThere xs 0 = record { says = eqb-true (number_at xs 0 2) record_length r; whole = l } in
        figures_never_cut (figures_of (fields_at record_fields xs 0)) (sym (judged_record_reply (figures_of (fields_at record_fields xs 0))) ∙ sym (ap (λ (x : Read). x.reply) (record_judged v xs 0 t)) ∙ e)

    go : (d : Bool) → leb (0 + size record_fields) (length xs) ≡ d → length xs < size record_fields
    go false s = omega (arith, leb-false (0 + size record_fields) (length xs) s)
    go true s = absurd (whole (leb-true (0 + size record_fields) (length xs) s) (is_gap v (number_at xs 0 2)) refl (eqb (number_at xs 0 2) record_length) refl)

pub head_cut_short : (v : Version) (xs : List ℕ) → (read_head v xs).reply ≡ cut → length xs < size (head_fields v)
unfolding refused_head
head_cut_short v xs e = go (leb (size (head_fields v)) (length xs)) refl
  where
    whole : size (head_fields v) ≤ length xs → (b : Bool) → eqb (number_at xs 2 1) (number_of v) ≡ b → (c : Bool) → eqb (number_at xs 0 2) (head_length v) ≡ c → ⊥
    whole l false q c r =
        omega (arith, sym e ∙ ap (λ (x : HeadRead). x.reply) (head_other_version v xs (omega arith) (eqb-false (number_at xs 2 1) (number_of v) q)))
    whole l true q false r =
        omega (arith, sym e ∙ ap (λ (x : HeadRead). x.reply) (head_wrong_length v xs (omega arith) (eqb-true (number_at xs 2 1) (number_of v) q) (eqb-false (number_at xs 0 2) (head_length v) r)))
    whole l true q true r =
        let t : HeadThere v xs = record { version = eqb-true (number_at xs 2 1) (number_of v) q; says = eqb-true (number_at xs 0 2) (head_length v) r; whole = l } in
        numbers_never_cut (head_of v (fields_at (head_fields v) xs 0)) (sym (judged_head_reply (head_of v (fields_at (head_fields v) xs 0))) ∙ sym (ap (λ (x : HeadRead). x.reply) (head_judged v xs t)) ∙ e)

    go : (d : Bool) → leb (size (head_fields v)) (length xs) ≡ d → length xs < size (head_fields v)
    go false s = omega (arith, leb-false (size (head_fields v)) (length xs) s)
    go true s = absurd (whole (leb-true (size (head_fields v)) (length xs) s) (eqb (number_at xs 2 1) (number_of v)) refl (eqb (number_at xs 0 2) (head_length v)) refl)

-- ---- in the version that a strip says
-- Once three bytes are there the version stays.
pub version_within : (xs ys : List ℕ) → 3 ≤ length xs → version_of (xs ++ ys) ≡ version_of xs
unfolding version_of
version_within xs ys l = rw (number_within xs ys 2 1 (omega arith))

-- Fewer than three are cut in every version.
too_few : (v : Version) (xs : List ℕ) → length xs < 3 → (read_head v xs).reply ≡ cut
unfolding refused_head
too_few v xs l = ap (λ (r : HeadRead). r.reply) (head_too_short v xs l)

module _ (xs ys : List ℕ) where
  -- The version of a head that is settled stays, whatever follows,
  pub version_settled : ((read_head (version_of xs) xs).reply ≡ cut → ⊥) → version_of (xs ++ ys) ≡ version_of xs
  version_settled n = go (leb 3 (length xs)) refl
    where
      go : (t : Bool) → leb 3 (length xs) ≡ t → version_of (xs ++ ys) ≡ version_of xs
      go true l = version_within xs ys (leb-true 3 (length xs) l)
      go false l = absurd (n (too_few (version_of xs) xs (leb-false 3 (length xs) l)))

  -- and so does what is read.
  pub said_settled : ((read_head (version_of xs) xs).reply ≡ cut → ⊥) → read_head (version_of (xs ++ ys)) (xs ++ ys) ≡ read_head (version_of xs) xs
  said_settled n = ap (λ (v : Version). read_head v (xs ++ ys)) (version_settled n) ∙ head_settled (version_of xs) xs ys n

  -- What is cut in the version that it says is cut in the one that it says with what follows.
  pub cut_before : (read_head (version_of xs) xs).reply ≡ cut → (read_head (version_of (xs ++ ys)) xs).reply ≡ cut
  cut_before e = go (leb 3 (length xs)) refl
    where
      go : (t : Bool) → leb 3 (length xs) ≡ t → (read_head (version_of (xs ++ ys)) xs).reply ≡ cut
      go true l = ap (λ (v : Version). (read_head v xs).reply) (version_within xs ys (leb-true 3 (length xs) l)) ∙ e
      go false l = too_few (version_of (xs ++ ys)) xs (leb-false 3 (length xs) l)
