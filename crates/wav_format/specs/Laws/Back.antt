-- What is written is read back, and what is read is written back. Laws.
-- Assumes nothing.
use Rattle.std.specs.Prelude.{◌≡◌, ℕ, zero, suc, ◌+◌, ◌-◌, ◌*◌, ◌/◌, ◌%◌, ◌^◌, ◌<◌, ◌≤◌, Bool, true, false, cond, ◌&&◌, List, [], ◌∷◌, ◌++◌, length, get_or, take, drop, ◌==◌, from_bits, nat_le, slice_index, slice_index_or, Float}
use Rattle.std.proofs.Math.Path.{refl, sym, ap₂}
use Rattle.std.proofs.Common.{ap, ◌∙◌, le_trans, add-zero, not-suc-le-zero, le_of_suc-le-suc, mod-lt, mod-eq_of_lt, div-add-mod', div-lt_iff_lt-mul, mul-le-mul_right, mul_comm, suc-mul, zero-add, eqb-true, eq-eqb, lit≤}
use Rattle.std.proofs.Math.Nat.{div-eq_of_lt, mul-add-div_right, mul-add-mod_self_right}
use native.Mathlib.Omega.{arith}
use Rattle.std.proofs.Math.Seq.{take-add, take_all, drop-drop}
use Rattle.lists.specs.Stores.{next}
use Rattle.lists.specs.Tests.{each_of}
use Rattle.std.specs.Float.{binary32}
use Rattle.units.specs.Replies.{done, refusal}
use Rattle.units.specs.Output.{put}
use Rattle.frames.specs.Shape.{is_samples, is_shape}
use Rattle.frames.specs.Facts.{sizes_facts, shape_facts}
use Rattle.wav_format.specs.Bytes.{little_at, little}
use Rattle.wav_format.specs.Head.{format_name, samples_name, is_wave, chunk_of, plain, takeable, format_refusal, format_of, format_length, head_length, following, extension, head_bytes}
use Rattle.wav_format.specs.Samples.{sound_of, heard_from, number_of, all_full_scale, bytes_from, frame_written}
use Rattle.wav_format.specs.Laws.Rounds.{sound_back}
use Rattle.wav_format.specs.Laws.Samples.{heard_length}

-- ---- a head
two_back : (n : ℕ) → n < 65536 → n % 256 + 256 * (n / 256 % 256 + 256 * 0) ≡ n
two_back n h = omega arith

four_back : (n : ℕ) → n < 2 ^ 32 → n % 256 + 256 * (n / 256 % 256 + 256 * (n / 256 / 256 % 256 + 256 * (n / 256 / 256 / 256 % 256 + 256 * 0))) ≡ n
four_back n h = omega arith

module _ (channels samples mask size : ℕ) where
  -- What is written begins as a WAV file does,
  pub head_is_wave : is_wave (head_bytes channels samples mask size) ≡ true
  unfolding is_wave little_at head_bytes little following
  head_is_wave = refl

  -- its first chunk is a format,
  pub format_chunk : chunk_of (drop 12 (head_bytes channels samples mask size)) ≡ record { name = format_name; size = format_length mask }
  unfolding chunk_of little_at head_bytes little following
  format_chunk = go (mask == 0) refl
    where
      go : (none : Bool) → (mask == 0) ≡ none → chunk_of (drop 12 (head_bytes channels samples mask size)) ≡ record { name = format_name; size = format_length mask }
      go true e = rw e
      go false e = rw e

  -- and its second has the samples.
  pub samples_chunk : size < 2 ^ 32 → chunk_of (drop (head_length mask - 8) (head_bytes channels samples mask size)) ≡ record { name = samples_name; size = size }
  unfolding chunk_of little_at head_bytes extension little following
  samples_chunk h = go (mask == 0) refl
    where
      go : (none : Bool) → (mask == 0) ≡ none
          → chunk_of (drop (head_length mask - 8) (head_bytes channels samples mask size)) ≡ record { name = samples_name; size = size }
      go true e = rw (e, four_back size h)
      go false e = rw (e, four_back size h)

-- The format of a frame's sizes is not refused.
format_taken : (bytes : List ℕ) (channels samples mask : ℕ) → nat_le 16 (length bytes) ≡ true → plain bytes ≡ true → little_at bytes 14 2 ≡ 16
    → little_at bytes 2 2 ≡ channels → little_at bytes 12 2 ≡ 2 * channels → little_at bytes 4 4 ≡ samples * 100
    → cond (little_at bytes 0 2 == 65534) (little_at bytes 20 4) 0 ≡ mask
    → nat_le 1 channels && nat_le channels 8 ≡ true → is_samples samples ≡ true
    → format_of bytes ≡ record { reply = done; channels = channels; samples = samples; mask = mask }
unfolding format_of format_refusal takeable
format_taken bytes channels samples mask l p b c g r m few sizes =
    let whole : samples * 100 % 100 ≡ 0 = omega arith in
    let hundredth : samples * 100 / 100 ≡ samples = omega arith in
    rw (l, p, b, c, g, r, eq-eqb (2 * channels) (2 * channels) refl, whole, hundredth, few, sizes, m)

-- What is written as a format is read back.
pub format_back : (channels samples mask size : ℕ) → nat_le 1 channels && nat_le channels 8 && is_samples samples ≡ true → mask < 2 ^ 32
    → format_of (take (format_length mask) (drop 20 (head_bytes channels samples mask size)))
    ≡ record { reply = done; channels = channels; samples = samples; mask = mask }
unfolding plain little_at head_bytes extension little following
format_back channels samples mask size h few = go (mask == 0) refl
  where
    go : (none : Bool) → (mask == 0) ≡ none
        → format_of (take (format_length mask) (drop 20 (head_bytes channels samples mask size)))
        ≡ record { reply = done; channels = channels; samples = samples; mask = mask }
    go true e =
        let s = sizes_facts channels samples h in
        let p = each_of (_ ∷ _ ∷ []) h in
        rw e (format_taken _ channels samples mask refl refl refl (two_back channels (omega (arith, s.eight)))
        (two_back (2 * channels) (omega (arith, s.eight))) (four_back (samples * 100) (omega (arith, s.each.most))) (sym (eqb-true mask 0 e)) (p 0) (p 1))
    go false e =
        let s = sizes_facts channels samples h in
        let p = each_of (_ ∷ _ ∷ []) h in
        rw e (format_taken _ channels samples mask refl refl refl (two_back channels (omega (arith, s.eight)))
        (two_back (2 * channels) (omega (arith, s.eight))) (four_back (samples * 100) (omega (arith, s.each.most))) (four_back mask few) (p 0) (p 1))

-- ---- a frame
-- The samples that were read, one by one.
heard_at : (bytes : List ℕ) (channels samples j k i : ℕ) (d : Float) → i < k
    → slice_index_or (heard_from bytes channels samples j k) i d ≡ sound_of (little_at bytes (2 * ((j + i) % samples * channels + (j + i) / samples)) 2)
unfolding heard_from
heard_at bytes channels samples j zero i d h = absurd (not-suc-le-zero h)
heard_at bytes channels samples j (suc k) zero d h = rw (add-zero j)
heard_at bytes channels samples j (suc k) (suc i) d h =
    let next : j + 1 + i ≡ j + suc i = omega arith in
    heard_at bytes channels samples (j + 1) k i d (le_of_suc-le-suc h) ∙ rw next

-- The place of a file's sample in the frame, and back.
record Turned (channels samples k : ℕ) : Type 0 where
  pub within : k % channels * samples + k / channels < channels * samples
  pub back : (k % channels * samples + k / channels) % samples * channels + (k % channels * samples + k / channels) / samples ≡ k

turned : (channels samples k : ℕ) → 0 < channels → 0 < samples → k < channels * samples → Turned channels samples k
turned channels samples k c s h =
    let q = k / channels in
    let r = k % channels in
    let few : q < samples = (div-lt_iff_lt-mul c).1 (rw (mul_comm samples channels) h) in
    let rest : r < channels = mod-lt k c in
    let most : suc r * samples ≤ channels * samples = mul-le-mul_right samples rest in
    let one : suc r * samples ≡ r * samples + samples = suc-mul r samples in
    let remainder : (r * samples + q) % samples ≡ q = mul-add-mod_self_right r samples q ∙ mod-eq_of_lt few in
    let quotient : (r * samples + q) / samples ≡ r = mul-add-div_right s r q ∙ ap (λ (z : ℕ). r + z) (div-eq_of_lt few) ∙ add-zero r in
    record { within = less (r * samples) q samples (suc r * samples) (channels * samples) few one most; back = rw (remainder, quotient) (div-add-mod' k channels) }
  where
    less : (p q s w z : ℕ) → q < s → w ≡ p + s → w ≤ z → p + q < z
    less p q s w z a b c = omega arith

-- each is a byte, and what is not there counts as 0
abbrev pub Bytes : List ℕ → Type 0
Bytes bytes = (i : ℕ) → slice_index bytes i < 256

-- The number of two bytes, and its bytes.
two_small : (bytes : List ℕ) (at : ℕ) → Bytes bytes → little_at bytes at 2 < 65536
unfolding little_at
two_small bytes at b = omega (arith, b at, b (at + 1))

two_kept : (bytes : List ℕ) (at : ℕ) → Bytes bytes → at + 2 ≤ length bytes → little 2 (little_at bytes at 2) ≡ take 2 (drop at bytes)
unfolding little_at little
two_kept bytes at b h =
    let first = get_or bytes at 0 in
    let second = get_or bytes (at + 1) 0 in
    let low : (first + 256 * (second + 256 * 0)) % 256 ≡ first = lower first second (b at) in
    let high : (first + 256 * (second + 256 * 0)) / 256 % 256 ≡ second = ap (λ (z : ℕ). z % 256) (upper first second (b at)) ∙ mod-eq_of_lt (b (at + 1)) in
    let one : drop at bytes ≡ first ∷ drop (at + 1) bytes = next bytes at 0 (omega arith) in
    let two : drop (at + 1) bytes ≡ second ∷ drop (at + 1 + 1) bytes = next bytes (at + 1) 0 (omega arith) in
    rw (low, high, one, two)
  where
    lower : (x y : ℕ) → x < 256 → (x + 256 * (y + 256 * 0)) % 256 ≡ x
    lower x y h = omega arith

    upper : (x y : ℕ) → x < 256 → (x + 256 * (y + 256 * 0)) / 256 ≡ y
    upper x y h = omega arith

module _ (bytes : List ℕ) (channels samples n : ℕ) (shape : is_shape channels samples n ≡ true) (b : Bytes bytes) where
  abbrev frame : List Float
  frame = heard_from bytes channels samples 0 n

  -- Every sample that was read lies between the ends.
  heard_full : (j k : ℕ) → all_full_scale (heard_from bytes channels samples j k) ≡ true
  unfolding heard_from all_full_scale
  heard_full j zero = refl
  heard_full j (suc k) =
      let at = 2 * (j % samples * channels + j / samples) in
      rw ((sound_back (little_at bytes at 2) (two_small bytes at b)).full_scale_lem, heard_full (j + 1) k)

  -- The number of the sample at a place of the file is the number that stood there.
  number_kept : (j : ℕ) → j < n → number_of (slice_index_or frame (j % channels * samples + j / channels) (from_bits binary32 0)) ≡ little_at bytes (2 * j) 2
  number_kept j h =
      let f = shape_facts channels samples n shape in
      let size : n ≡ channels * samples = f.1 in
      let t = turned channels samples j f.0.one (le_trans (lit≤ tt) f.0.each.least) (rw size at h) in
      let i = j % channels * samples + j / channels in
      let inside : i < n = rw size t.within in
      let heard : get_or (heard_from bytes channels samples 0 n) i (from_bits binary32 0) ≡ sound_of (little_at bytes (2 * j) 2) =
      heard_at bytes channels samples 0 n i (from_bits binary32 0) inside ∙ rw (zero-add, t.back)
      in
      rw heard (sound_back (little_at bytes (2 * j) 2) (two_small bytes (2 * j) b)).number

  bytes_kept : (j k : ℕ) → j + k ≡ n → length bytes ≡ 2 * n → bytes_from frame channels samples j k ≡ take (2 * k) (drop (2 * j) bytes)
  unfolding bytes_from
  bytes_kept j zero e l = refl
  bytes_kept j (suc k) e l =
      let more : 2 * suc k ≡ 2 + 2 * k = omega arith in
      let after : 2 * j + 2 ≡ 2 * (j + 1) = omega arith in
      ap₂ ◌++◌ (ap (little 2) (number_kept j (omega arith)) ∙ two_kept bytes (2 * j) b (omega arith)) (bytes_kept (j + 1) k (omega arith) l)
      ∙ sym (rw (more, take-add 2 (2 * k) (drop (2 * j) bytes), drop-drop 2 (2 * j) bytes, after))

  -- A frame that is read, and written as it is, comes back byte for byte.
  pub comes_back : (out : List ℕ) → length bytes ≡ 2 * n → frame_written frame channels samples out ≡ put done bytes out
  unfolding frame_written refusal
  comes_back out l =
      let same : bytes_from (heard_from bytes channels samples 0 n) channels samples 0 n ≡ bytes = bytes_kept 0 n (zero-add n) l ∙ take_all (2 * n) bytes (omega arith) in
      rw (heard_length bytes channels samples 0 n, shape, heard_full 0 n, same)
