-- The head of a file: what its tests come to, and how many bytes are written. Laws.
-- Assumes nothing.
use Rattle.std.specs.Prelude.{◌≡◌, Err, IfErr, ℕ, ◌+◌, ◌-◌, ◌*◌, ◌/◌, ◌%◌, ◌<◌, ◌≤◌, Bool, true, false, cond, ◌&&◌, ◌||◌, leb, List, [], ◌∷◌, ◌++◌, length, take, drop, ◌==◌, nat_eq, nat_le}
use Rattle.std.proofs.Math.Path.{refl, sym}
use Rattle.std.proofs.lemmas.Result.{IfErr-at_err}
use Rattle.units.specs.Handed.{handed, refusal_of, number_of}
use Rattle.units.specs.declared.refusals.Refusal.{Refusal}
use Rattle.std.proofs.Common.{arith, le-leb}
use Rattle.std.proofs.lemmas.Bool.{lt-leb}
use Rattle.units.specs.Replies.{done, bad_shape, cut, bad_length, bad_version, no_room, refusal}
use Rattle.units.specs.Output.{put}
use Rattle.frames.specs.Shape.{is_samples}
use Rattle.wav_format.specs.Bytes.{little_at, little}
use Rattle.wav_format.specs.Steps.{in_fours}
use Rattle.wav_format.specs.Head.{riff, wave, format_name, samples_name, plain, takeable, format_refusal, format_of, format_length, head_length, following, extension, head_bytes, put_head}
use Rattle.wav_format.specs.Laws.Bytes.{none_put, puts_all, put_fits, put_short}
use Rattle.wav_format.specs.Laws.Fours.{fours_length, two_fours, paired}

-- What a format chunk is refused with, by its numbers.
module _ (bytes : List ℕ) where
  abbrev pub kind : Bool
  kind = plain bytes && little_at bytes 14 2 == 16

  abbrev pub together : Bool
  together = little_at bytes 12 2 == 2 * little_at bytes 2 2

  abbrev pub shape : Bool
  shape = takeable (little_at bytes 2 2) (little_at bytes 4 4)

  -- the tests of the numbers are these
  pub kind_is : {tag later bits : ℕ} → tag ≡ little_at bytes 0 2 → later ≡ little_at bytes 24 2 → bits ≡ little_at bytes 14 2
      → ((tag == 1 || (tag == 65534 && later == 1)) && bits == 16) ≡ kind
  unfolding plain
  kind_is t l b = rw (t, l, b)

  pub together_is : {channels group : ℕ} → channels ≡ little_at bytes 2 2 → group ≡ little_at bytes 12 2 → (group == 2 * channels) ≡ together
  together_is c g = rw (c, g)

  pub shape_is : {channels rate : ℕ} {sizes : Bool} → channels ≡ little_at bytes 2 2 → rate ≡ little_at bytes 4 4 → sizes ≡ is_samples (rate / 100)
      → (nat_le 1 channels && nat_le channels 8 && rate % 100 == 0 && sizes) ≡ shape
  unfolding takeable
  shape_is c r s = rw (s, c, r)

  pub refused_cut : length bytes < 16 → format_refusal bytes ≡ cut
  unfolding format_refusal
  refused_cut h = rw (lt-leb 16 (length bytes) h)

  module _ (long : 16 ≤ length bytes) where
    pub refused_kind : kind ≡ false → format_refusal bytes ≡ bad_version
    unfolding format_refusal
    refused_kind k = rw (le-leb 16 (length bytes) long, k)

    pub refused_group : kind ≡ true → together ≡ false → format_refusal bytes ≡ bad_length
    unfolding format_refusal
    refused_group k t = rw (le-leb 16 (length bytes) long, k, t)

    pub refused_shape : kind ≡ true → together ≡ true → shape ≡ false → format_refusal bytes ≡ bad_shape
    unfolding format_refusal
    refused_shape k t s = rw (le-leb 16 (length bytes) long, k, t, s)

    pub not_refused : kind ≡ true → together ≡ true → shape ≡ true → format_refusal bytes ≡ done
    unfolding format_refusal
    not_refused k t s = rw (le-leb 16 (length bytes) long, k, t, s)

  -- what it says where it is not refused, by whether it is extended
  pub said_plain : format_refusal bytes ≡ done → (little_at bytes 0 2 == 65534) ≡ false
      → format_of bytes ≡ record { reply = done; channels = little_at bytes 2 2; samples = little_at bytes 4 4 / 100; mask = 0 }
  unfolding format_of
  said_plain h e = rw (h, e)

  pub said_extended : format_refusal bytes ≡ done → (little_at bytes 0 2 == 65534) ≡ true
      → format_of bytes ≡ record { reply = done; channels = little_at bytes 2 2; samples = little_at bytes 4 4 / 100; mask = little_at bytes 20 4 }
  unfolding format_of
  said_extended h e = rw (h, e)

  -- the reply is the refusal's
  pub said_reply : (format_of bytes).reply ≡ format_refusal bytes
  unfolding format_of
  said_reply = refl

-- a refusal of a format has its reply's number
numbered : {A : Type 0} (long kind together shape : Bool) (made : A)
    → IfErr (handed (cond long (cond kind (cond together (cond shape done bad_shape) bad_length) bad_version) cut) made)
    (λ d. number_of d ≡ cond long (cond kind (cond together (cond shape done bad_shape) bad_length) bad_version) cut)
unfolding handed refusal_of number_of
numbered false kind together shape made = refl
numbered true false together shape made = refl
numbered true true false shape made = refl
numbered true true true false made = refl
numbered true true true true made = tt

pub format_number : {A : Type 0} (bytes : List ℕ) (made : A) (e : Refusal) → Err e ≡ handed (format_of bytes).reply made → number_of e ≡ (format_of bytes).reply
unfolding format_of format_refusal
format_number bytes made e h =
    IfErr-at_err (λ d. number_of d ≡ (format_of bytes).reply) (sym h)
    (numbered (nat_le 16 (length bytes)) (kind bytes) (together bytes) (shape bytes) made)

-- A head has as many bytes as it says.
pub head_length_lem : (channels samples mask size : ℕ) → length (head_bytes channels samples mask size) ≡ head_length mask
unfolding head_bytes extension little following
head_length_lem channels samples mask size = go (mask == 0) refl
  where
    go : (none : Bool) → (mask == 0) ≡ none → length (head_bytes channels samples mask size) ≡ head_length mask
    go true e = rw e
    go false e = rw e

-- ---- a head as numbers of four bytes
-- the nine that each begins with
abbrev pub firsts : ℕ → ℕ → ℕ → ℕ → ℕ → List ℕ
firsts rest long tag channels samples =
    riff ∷ rest ∷ wave ∷ format_name ∷ long ∷ (tag + 65536 * channels) ∷ samples * 100 ∷ samples * 100 * (2 * channels) ∷ (2 * channels + 65536 * 16) ∷ []

-- the six of an extended format
abbrev pub extras : ℕ → List ℕ
extras mask = 0x0010_0016 ∷ mask ∷ 1 ∷ 0x0010_0000 ∷ 0xaa00_0080 ∷ 0x719b_3800 ∷ []

extended : (mask : ℕ) (none : Bool) → in_fours (take (cond none 0 6) (extras mask)) ≡ cond none [] (extension mask)
unfolding in_fours extension little
extended mask true = refl
extended mask false = refl

-- The sizes of a head with and without a mask: of all of it, of its tag, and how many of the six numbers it has.
pub record Sizes (long tag n : ℕ) : Type 0 where
  pub least : 44 ≤ long
  pub most : long ≤ 68
  pub small : tag < 65536
  pub few : n ≤ 6
  pub all : 36 + 4 * n + 8 ≡ long

pub sizes : (mask : ℕ) {long tag n : ℕ} → long ≡ head_length mask → tag ≡ cond (mask == 0) 1 65534 → n ≡ cond (mask == 0) 0 6 → Sizes long tag n
sizes mask {long} {tag} {n} = go (mask == 0)
  where
    go : (none : Bool) → long ≡ cond none 44 68 → tag ≡ cond none 1 65534 → n ≡ cond none 0 6 → Sizes long tag n
    go true l t n = record { least = omega arith; most = omega arith; small = omega arith; few = omega arith; all = omega arith }
    go false l t n = record { least = omega arith; most = omega arith; small = omega arith; few = omega arith; all = omega arith }

-- All of them are a head.
in_fours_lem : (channels samples mask size : ℕ) → channels ≤ 8
    → in_fours (firsts (following (head_length mask) size) (format_length mask) (cond (mask == 0) 1 65534) channels samples)
    ++ in_fours (take (cond (mask == 0) 0 6) (extras mask)) ++ in_fours (samples_name ∷ size ∷ [])
    ≡ head_bytes channels samples mask size
in_fours_lem channels samples mask size h =
    rw (two_fours _ samples_name size, extended mask (mask == 0))
    (unfold in_fours in
    rw (paired (cond (mask == 0) 1 65534) channels (sizes mask refl refl refl).small (omega arith), paired (2 * channels) 16 (omega arith) (omega arith))
    (unfold head_bytes little in refl))

-- A buffer that nine numbers were put into, then those of an extended format, and then two, has a head in its first bytes.
pub head_put : (channels samples mask size : ℕ) (o : List ℕ) {o₁ o₂ o₃ : List ℕ} {long rest bytes tag n : ℕ} → channels ≤ 8
    → long ≡ head_length mask → rest ≡ following long size → bytes ≡ format_length mask → tag ≡ cond (mask == 0) 1 65534 → n ≡ cond (mask == 0) 0 6
    → o₁ ≡ take 0 o ++ in_fours (firsts rest bytes tag channels samples) ++ drop 36 o
    → o₂ ≡ take 36 o₁ ++ in_fours (take n (extras mask)) ++ drop (36 + 4 * length (take n (extras mask))) o₁
    → o₃ ≡ take (long - 8) o₂ ++ in_fours (samples_name ∷ size ∷ []) ++ drop (long - 8 + 8) o₂
    → o₃ ≡ head_bytes channels samples mask size ++ drop (head_length mask) o
head_put channels samples mask size o few l r b t n first more last =
    let none = nat_eq mask 0 in
    let F = firsts (following (head_length mask) size) (format_length mask) (cond none 1 65534) channels samples in
    let E = take (cond none 0 6) (extras mask) in
    let L = samples_name ∷ size ∷ [] in
    let one = puts_all (in_fours F) 36 36 (fours_length F) refl (none_put o) (rw (t, b, r, l) at first) in
    let two = puts_all (in_fours E) (4 * length E) (head_length mask - 8) (fours_length E) (before none) one (rw n at more) in
    let three = puts_all (in_fours L) 8 (head_length mask) (fours_length L) (after none) two (rw l at last) in
    rw (in_fours_lem channels samples mask size few) at three.are
  where
    before : (none : Bool) → 36 + 4 * length (take (cond none 0 6) (extras mask)) ≡ cond none 44 68 - 8
    before true = refl
    before false = refl

    after : (none : Bool) → cond none 44 68 - 8 + 8 ≡ cond none 44 68
    after true = refl
    after false = refl

-- What a head's writer answers: it is written where the sizes are a frame's and the buffer has room.
module _ (channels samples mask size : ℕ) (out : List ℕ) where
  pub head_written : leb 1 channels && nat_le channels 8 && is_samples samples ≡ true → head_length mask ≤ length out
      → put_head channels samples mask size out ≡ record { reply = done; out = head_bytes channels samples mask size ++ drop (head_length mask) out }
  unfolding put_head refusal
  head_written h l = rw h (put_fits (head_length mask) (head_bytes channels samples mask size) out (head_length_lem channels samples mask size) l)

  pub head_short : leb 1 channels && nat_le channels 8 && is_samples samples ≡ true → length out < head_length mask
      → put_head channels samples mask size out ≡ record { reply = no_room; out = out }
  unfolding put_head refusal
  head_short h l = rw h (put_short (head_length mask) (head_bytes channels samples mask size) out (head_length_lem channels samples mask size) l)

  pub head_refused : leb 1 channels && nat_le channels 8 && is_samples samples ≡ false → put_head channels samples mask size out ≡ record { reply = bad_shape; out = out }
  unfolding put_head refusal put
  head_refused h = rw h
