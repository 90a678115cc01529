-- The samples of a frame to and from bytes: how many they are, and where one more stands. Laws.
-- Assumes nothing.
use Rattle.std.specs.Prelude.{◌≡◌, ℕ, zero, suc, ◌+◌, ◌-◌, ◌*◌, ◌/◌, ◌%◌, ◌<◌, ◌≤◌, Bool, true, false, cond, ◌&&◌, pos, negsuc, nat_lt, List, [], ◌∷◌, ◌++◌, length, get_or, take, drop, ◌==◌, refl, Float}
use Rattle.std.proofs.Common.{append-nil, le_trans, le_of_lt, mod-lt, div-le_self, mul-le-mul, mul-le-mul_right, le_of_suc-le-suc, zero-add, add-zero, not-suc-le-zero, add-one, arith, lit≤, length-append}
use Rattle.std.specs.Float.{binary32}
use Rattle.std.specs.Float.Ieee.{of_bits, of_int, neg, round}
use Rattle.std.specs.Int.{w16, cast_signed}
use mir.Val.{sel}
use lib.Ieee.{Format, inf, odd, units, prec, low, emax}
use Prim.Native.Nat.{◌^◌}
use Rattle.units.specs.Replies.{done, bad_shape, bad_sample, no_room, refusal}
use Rattle.units.specs.Output.{put}
use Rattle.frames.specs.Shape.{is_shape}
use Rattle.frames.specs.Facts.{shape_facts}
use Rattle.wav_format.specs.Bytes.{little}
use Rattle.wav_format.specs.Samples.{sound_of, heard_from, frame_read, number_of, all_full_scale, bytes_from, frame_written}
use Rattle.wav_format.specs.Laws.Bytes.{little_length, Begun, none_put, puts, put_fits, put_short}

-- Within a list the default has no part in the element.
pub same_element {ℓ} : {A : Type ℓ} (xs : List A) (i : ℕ) (d e : A) → i < length xs → get_or xs i d ≡ get_or xs i e
same_element [] i d e h = absurd (not-suc-le-zero h)
same_element (x ∷ xs) zero d e h = refl
same_element (x ∷ xs) (suc i) d e h = same_element xs i d e (le_of_suc-le-suc h)

-- ---- how many
pub heard_length : (bytes : List ℕ) (channels samples j k : ℕ) → length (heard_from bytes channels samples j k) ≡ k
unfolding heard_from
heard_length bytes channels samples j zero = refl
heard_length bytes channels samples j (suc k) = rw (heard_length bytes channels samples (j + 1) k)

pub bytes_length : (frame : List Float) (channels samples j k : ℕ) → length (bytes_from frame channels samples j k) ≡ 2 * k
unfolding bytes_from
bytes_length frame channels samples j zero = refl
bytes_length frame channels samples j (suc k) =
    let x = get_or frame (j % channels * samples + j / channels) (of_bits binary32 0) in
    rw (length-append, little_length 2 (number_of x), bytes_length frame channels samples (j + 1) k) (omega arith)

-- ---- where one more stands
pub one_more : (frame : List Float) (channels samples j k : ℕ)
    → bytes_from frame channels samples j (suc k)
    ≡ bytes_from frame channels samples j k ++ little 2 (number_of (get_or frame ((j + k) % channels * samples + (j + k) / channels) (of_bits binary32 0)))
unfolding bytes_from
one_more frame channels samples j zero = rw (append-nil, add-zero)
one_more frame channels samples j (suc k) =
    let next : j + 1 + k ≡ j + suc k = omega arith in
    rw (one_more frame channels samples (j + 1) k, next)

-- Nothing was put yet.
pub none_yet : (frame : List Float) (channels samples : ℕ) (o : List ℕ) → Begun o (bytes_from frame channels samples 0 0) o (2 * 0)
unfolding bytes_from
none_yet frame channels samples o = none_put o

-- Two bytes that are put behind those of k samples: those of k + 1.
pub put_more : (frame : List Float) (channels samples : ℕ) {o o' o'' : List ℕ} (k : ℕ) {n : ℕ} {x : Float}
    → x ≡ get_or frame (k % channels * samples + k / channels) (of_bits binary32 0) → n ≡ number_of x
    → Begun o (bytes_from frame channels samples 0 k) o' (2 * k) → o'' ≡ take (2 * k) o' ++ little 2 n ++ drop (2 * k + 2) o'
    → Begun o (bytes_from frame channels samples 0 (k + 1)) o'' (2 * (k + 1))
put_more frame channels samples k {n} e f b h =
    rw (add-one, one_more frame channels samples 0 k, zero-add, ← e, ← f) (puts 2 n (2 * suc k) (omega arith) b h)

-- ---- the place of a sample in the other order: its product and its quotient are small
placed : (a b j : ℕ) → 1 ≤ a → a * b ≤ 3840 → j % a * b ≤ 3840
placed a b j h l =
    let low : j % a ≤ a = le_of_lt (mod-lt j h) in
    le_trans (mul-le-mul_right b low) l

-- What is known of a place of a frame, in either order.
pub record Place (channels samples j : ℕ) : Type 0 where
  pub some_channels : 1 ≤ channels
  pub some_samples : 1 ≤ samples
  pub by_samples : j % samples * channels ≤ 3840
  pub by_channels : j % channels * samples ≤ 3840
  pub whole_samples : j / samples ≤ 3840
  pub whole_channels : j / channels ≤ 3840

pub place : (channels samples n j : ℕ) → is_shape channels samples n ≡ true → j < n → Place channels samples j
place channels samples n j h k =
    let f = shape_facts channels samples n h in
    let s = f.0 in
    let e : n ≡ channels * samples = f.1 in
    let p : channels * samples ≤ 8 * 480 = mul-le-mul s.eight s.each.most in
    let some : 1 ≤ samples = le_trans (lit≤ tt) s.each.least in
    let most : j ≤ 3840 = omega arith in
    record {
      some_channels = s.one;
      some_samples = some;
      by_samples = placed samples channels j some (mul-le-mul s.each.most s.eight);
      by_channels = placed channels samples j s.one p;
      whole_samples = le_trans (div-le_self j samples) most;
      whole_channels = le_trans (div-le_self j channels) most;
    }

-- ---- a sample's number as a signed number of 16 bits
neg_odd : (d q k l : ℕ) → neg (odd d false q k l) ≡ odd d true q k l
unfolding odd neg
neg_odd d zero k l = refl
neg_odd d (suc q) k l = refl

neg_units : (f : Format) (q k : ℕ) → neg (units f false q k) ≡ units f true q k
unfolding units neg
neg_units f q k = go (nat_lt (q * 2 ^ k) (2 ^ (low f + suc (emax f))))
  where
    go : (b : Bool) → neg (cond b (odd (suc (prec f)) false q k (low f)) (inf false)) ≡ cond b (odd (suc (prec f)) true q k (low f)) (inf true)
    go true = neg_odd (suc (prec f)) q k (low f)
    go false = refl

neg_round : (f : Format) (n : ℕ) → neg (round f false n 1) ≡ round f true n 1
unfolding round
neg_round f n = neg_units f _ _

pub signed_sound : (n : ℕ) → n < 65536 → of_int binary32 (cast_signed w16 n) ≡ sound_of n
unfolding sound_of of_int
signed_sound n h = go (nat_lt n 32768)
  where
    go : (b : Bool) → of_int binary32 (sel b (pos n) (negsuc (65536 - suc n))) ≡ cond b (of_int binary32 (pos n)) (neg (of_int binary32 (pos (65536 - n))))
    go true = refl
    go false =
        let e : suc (65536 - suc n) ≡ 65536 - n = omega arith in
        rw (e, neg_round binary32 (65536 - n))

-- ---- what a reader answers
module _ (bytes : List ℕ) (frame : List Float) (channels samples : ℕ) where
  pub frame_heard : is_shape channels samples (length frame) && (length bytes == 2 * length frame) ≡ true
      → frame_read bytes frame channels samples ≡ record { reply = done; frame = heard_from bytes channels samples 0 (length frame) }
  unfolding frame_read
  frame_heard h = rw h

  pub frame_left : is_shape channels samples (length frame) && (length bytes == 2 * length frame) ≡ false
      → frame_read bytes frame channels samples ≡ record { reply = bad_shape; frame = frame }
  unfolding frame_read
  frame_left h = rw h

-- ---- what a writer answers
module _ (frame : List Float) (channels samples : ℕ) (out : List ℕ) where
  pub frame_written_lem : is_shape channels samples (length frame) ≡ true → all_full_scale frame ≡ true → 2 * length frame ≤ length out
      → frame_written frame channels samples out
      ≡ record { reply = done; out = bytes_from frame channels samples 0 (length frame) ++ drop (2 * length frame) out }
  unfolding frame_written refusal
  frame_written_lem h f l = rw (h, f) (put_fits (2 * length frame) (bytes_from frame channels samples 0 (length frame)) out (bytes_length frame channels samples 0 (length frame)) l)

  pub frame_short : is_shape channels samples (length frame) ≡ true → all_full_scale frame ≡ true → length out < 2 * length frame
      → frame_written frame channels samples out ≡ record { reply = no_room; out = out }
  unfolding frame_written refusal
  frame_short h f l = rw (h, f) (put_short (2 * length frame) (bytes_from frame channels samples 0 (length frame)) out (bytes_length frame channels samples 0 (length frame)) l)

  pub frame_beyond : is_shape channels samples (length frame) ≡ true → all_full_scale frame ≡ false
      → frame_written frame channels samples out ≡ record { reply = bad_sample; out = out }
  unfolding frame_written refusal put
  frame_beyond h f = rw (h, f)

  pub frame_refused : is_shape channels samples (length frame) ≡ false → frame_written frame channels samples out ≡ record { reply = bad_shape; out = out }
  unfolding frame_written refusal put
  frame_refused h = rw h
