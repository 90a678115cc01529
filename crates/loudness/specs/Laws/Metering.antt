-- What is written of a metering: its bytes where nothing is refused and they fit, and nothing where it is refused. Laws.
-- Assumes nothing.
use Rattle.std.specs.Prelude.{◌≡◌, refl, true, false, List, ◌++◌, ℕ, ◌/◌, ◌≤◌, ◌<◌, length, drop}
use Rattle.std.proofs.Common.{◌∙◌, ap, arith, ne_eqb}
use Rattle.units.specs.Replies.{done, bad_shape, no_room, refusal}
use Rattle.units.specs.Output.{put}
use Rattle.wav_format.specs.Bytes.{little}
use Rattle.wav_format.specs.Laws.Bytes.{little_length, stored, Begun, puts, put_fits, put_short}
use borrow.Rule.Slice.PartMut.{put_mid}
use Rattle.loudness.specs.Sound.{Loud, is_sizes, loudness_of}
use Rattle.loudness.specs.Metering.{put_loudness, put_format}

-- Eight bytes of a number are four of it and four of what is above them.
pub eight : (n : ℕ) → little 8 n ≡ little 4 n ++ little 4 (n / 4294967296)
unfolding little
eight n =
    let above : n / 256 / 256 / 256 / 256 ≡ n / 4294967296 = omega arith in
    rw above

-- Three numbers of four bytes have twelve, and so have one of eight and one of four.
pub twelve : (a b c : ℕ) → length (little 4 a ++ little 4 b ++ little 4 c) ≡ 12
unfolding little
twelve a b c = refl

pub eight_and_four : (a b : ℕ) → length (little 8 a ++ little 4 b) ≡ 12
unfolding little
eight_and_four a b = refl

-- The three that are copied one after the other to the first twelve bytes of a buffer stand there,
pub three_copied : (o first second third : List ℕ) (a b c : ℕ) → first ≡ little 4 a → second ≡ little 4 b → third ≡ little 4 c
    → put_mid 8 4 (put_mid 4 4 (first ++ drop 4 o) second) third ≡ little 4 a ++ little 4 b ++ little 4 c ++ drop 12 o
three_copied o first second third a b c e f g =
    let one : Begun o (little 4 a) (first ++ drop 4 o) 4 = record { long = little_length 4 a; are = ap (λ (xs : List ℕ). xs ++ drop 4 o) e } in
    let two = puts 4 b 8 refl one (stored (first ++ drop 4 o) second 4 4 b f) in
    (puts 4 c 12 refl two (stored (put_mid 4 4 (first ++ drop 4 o) second) third 8 4 c g)).are

-- and so do the two.
pub two_copied : (o first second : List ℕ) (a b : ℕ) → first ≡ little 8 a → second ≡ little 4 b
    → put_mid 8 4 (first ++ drop 8 o) second ≡ little 8 a ++ little 4 b ++ drop 12 o
two_copied o first second a b e f =
    let one : Begun o (little 8 a) (first ++ drop 8 o) 8 = record { long = little_length 8 a; are = ap (λ (xs : List ℕ). xs ++ drop 8 o) e } in
    (puts 4 b 12 refl one (stored (first ++ drop 8 o) second 8 4 b f)).are

-- What is refused before is not written.
left : (r : ℕ) (bytes out : List ℕ) → (r ≡ done → ⊥) → put r bytes out ≡ record { reply = r; out = out }
unfolding put
left r bytes out h =
    let e = ne_eqb r done h in
    rw (e, e)

module _ (bytes : List ℕ) (channels samples : ℕ) (out : List ℕ) (heard : Loud) (e : heard ≡ loudness_of bytes channels samples) where
  pub loudness_written : heard.reply ≡ done → 12 ≤ length out
      → put_loudness bytes channels samples out
      ≡ record { reply = done; out = little 8 heard.square ++ little 4 heard.peak ++ drop 12 out }
  unfolding put_loudness
  loudness_written d h =
      rw (← e, d) (put_fits 12 (little 8 heard.square ++ little 4 heard.peak) out (eight_and_four heard.square heard.peak) h)

  -- the same with the square as two numbers of four bytes
  pub loudness_in_fours : heard.reply ≡ done → 12 ≤ length out
      → put_loudness bytes channels samples out
      ≡ record { reply = done; out = little 4 heard.square ++ little 4 (heard.square / 4294967296) ++ little 4 heard.peak ++ drop 12 out }
  loudness_in_fours d h =
      loudness_written d h ∙ ap (λ (xs : List ℕ). record { reply = done; out = xs ++ little 4 heard.peak ++ drop 12 out }) (eight heard.square)

  pub loudness_short : heard.reply ≡ done → length out < 12 → put_loudness bytes channels samples out ≡ record { reply = no_room; out = out }
  unfolding put_loudness
  loudness_short d h =
      rw (← e, d) (put_short 12 (little 8 heard.square ++ little 4 heard.peak) out (eight_and_four heard.square heard.peak) h)

  pub loudness_left : (heard.reply ≡ done → ⊥) → put_loudness bytes channels samples out ≡ record { reply = heard.reply; out = out }
  unfolding put_loudness
  loudness_left h = rw (← e) (left heard.reply (little 8 heard.square ++ little 4 heard.peak) out h)

module _ (channels samples size : ℕ) (out : List ℕ) where
  pub format_written : is_sizes channels samples ≡ true → 12 ≤ length out
      → put_format channels samples size out ≡ record { reply = done; out = little 4 samples ++ little 4 channels ++ little 4 size ++ drop 12 out }
  unfolding put_format refusal
  format_written e h = rw e (put_fits 12 (little 4 samples ++ little 4 channels ++ little 4 size) out (twelve samples channels size) h)

  pub format_short : is_sizes channels samples ≡ true → length out < 12 → put_format channels samples size out ≡ record { reply = no_room; out = out }
  unfolding put_format refusal
  format_short e h = rw e (put_short 12 (little 4 samples ++ little 4 channels ++ little 4 size) out (twelve samples channels size) h)

  pub format_left : is_sizes channels samples ≡ false → put_format channels samples size out ≡ record { reply = bad_shape; out = out }
  unfolding put_format refusal put
  format_left e = rw e
