-- Numbers as bytes: how many they are, and what reading and storing two or four of them comes to. Laws.
-- Assumes nothing.
use Rattle.std.specs.Prelude.{◌≡◌, ℕ, zero, suc, ◌+◌, ◌-◌, ◌*◌, ◌/◌, ◌<◌, ◌≤◌, List, [], ◌∷◌, ◌++◌, length, take, drop, slice_index, refl}
use Rattle.std.proofs.lemmas.Slice.{put_mid-paste}
use Rattle.std.proofs.Common.{sym, ap, ◌∙◌, arith, take_all, length-append, take_at, drop-drop, drop_at, le-leb}
use Rattle.std.specs.Int.{w16, w32, w64, to_le_bytes, from_le_bytes}
use borrow.Rule.Slice.PartMut.{put_mid}
use Rattle.std.proofs.lemmas.Bool.{lt-leb}
use Rattle.units.specs.Replies.{done, no_room}
use Rattle.units.specs.Output.{put}
use Rattle.wav_format.specs.Bytes.{little_at, little}

-- a number's first w bytes are w
pub little_length : (w n : ℕ) → length (little w n) ≡ w
unfolding little
little_length zero n = refl
little_length (suc w) n = rw (little_length w (n / 256))

-- ---- reading
-- the number of two bytes
pub two_bytes : (bytes : List ℕ) (at : ℕ) {a b : ℕ} → a ≡ slice_index bytes at → b ≡ slice_index bytes (at + 1) → a + 256 * b ≡ little_at bytes at 2
unfolding little_at
two_bytes bytes at h k = rw (h, k) (omega arith)

pub two_read : (bytes : List ℕ) (at : ℕ) {a b : ℕ} → a ≡ slice_index bytes at → b ≡ slice_index bytes (at + 1) → from_le_bytes w16 (a ∷ b ∷ []) ≡ little_at bytes at 2
unfolding little_at
two_read bytes at h k = rw (h, k) (omega arith)

-- the number of four bytes, by its halves
pub four_bytes : (bytes : List ℕ) (at : ℕ) {a b : ℕ} → a ≡ little_at bytes at 2 → b ≡ little_at bytes (at + 2) 2 → a + 65536 * b ≡ little_at bytes at 4
unfolding little_at
four_bytes bytes at h k =
    let two : at + 1 + 1 ≡ at + 2 = omega arith in
    rw (h, k, two) (omega arith)

-- ---- storing
-- the bytes of a number of two, and of four
pub two_of : (n : ℕ) → to_le_bytes w16 n ≡ little 2 n
unfolding little
two_of n = refl

pub four_of : (n : ℕ) → to_le_bytes w32 n ≡ little 4 n
unfolding little
four_of n =
    let two : n / 65536 ≡ n / 256 / 256 = omega arith in
    let three : n / 16777216 ≡ n / 256 / 256 / 256 = omega arith in
    rw (two, three)

pub eight_of : (n : ℕ) → to_le_bytes w64 n ≡ little 8 n
unfolding little
eight_of n =
    let two : n / 65536 ≡ n / 256 / 256 = omega arith in
    let three : n / 16777216 ≡ n / 256 / 256 / 256 = omega arith in
    let four : n / 4294967296 ≡ n / 256 / 256 / 256 / 256 = omega arith in
    let five : n / 1099511627776 ≡ n / 256 / 256 / 256 / 256 / 256 = omega arith in
    let six : n / 281474976710656 ≡ n / 256 / 256 / 256 / 256 / 256 / 256 = omega arith in
    let seven : n / 72057594037927936 ≡ n / 256 / 256 / 256 / 256 / 256 / 256 / 256 = omega arith in
    rw (two, three, four, five, six, seven)

-- a number's bytes that are stored in the w bytes at a place
pub stored : (o bytes : List ℕ) (at w n : ℕ) → bytes ≡ little w n → put_mid at (at + w - at) o bytes ≡ take at o ++ little w n ++ drop (at + w) o
stored o bytes at w n e =
    let long = little_length w n in
    put_mid-paste at (at + w - at) o bytes (little w n) w e (omega arith) (sym long)
    ∙ ap (λ (xs : List ℕ). take at o ++ xs ++ drop (at + w) o) (take_all w (little w n) (omega (arith, long)))

-- The buffer o begins with p, n bytes, and is otherwise as it was.
pub record Begun (o p o' : List ℕ) (n : ℕ) : Type 0 where
  pub long : length p ≡ n
  pub are : o' ≡ p ++ drop n o

-- Nothing was put yet.
pub none_put : (o : List ℕ) → Begun o [] o 0
none_put o = record { long = refl; are = refl }

-- Bytes that are put behind those that were put join them.
pub puts_all : {o p o' o'' : List ℕ} {n : ℕ} (q : List ℕ) (w m : ℕ) → length q ≡ w → n + w ≡ m → Begun o p o' n
    → o'' ≡ take n o' ++ q ++ drop (n + w) o' → Begun o (p ++ q) o'' m
puts_all {o} {p} {o'} {o''} {n} q w m z s b e =
    let l = b.long in
    let joined : take n (p ++ drop n o) ++ q ++ drop (n + w) (p ++ drop n o) ≡ p ++ q ++ drop m o =
    rw (take_at p (drop n o) n l, ← drop-drop w n (p ++ drop n o), drop_at p (drop n o) n l, drop-drop w n o, s)
    in
    record { long = rw (length-append, l, z) s; are = e ∙ rw b.are joined }

-- So do those of a number.
pub puts : {o p o' o'' : List ℕ} {n : ℕ} (w x m : ℕ) → n + w ≡ m → Begun o p o' n
    → o'' ≡ take n o' ++ little w x ++ drop (n + w) o' → Begun o (p ++ little w x) o'' m
puts w x m s b e = puts_all (little w x) w m (little_length w x) s b e

-- Bytes that are put where nothing is refused: they fit, or not.
pub put_fits : (n : ℕ) (bytes out : List ℕ) → length bytes ≡ n → n ≤ length out → put done bytes out ≡ record { reply = done; out = bytes ++ drop n out }
unfolding put
put_fits n bytes out e h = rw (e, le-leb n (length out) h)

pub put_short : (n : ℕ) (bytes out : List ℕ) → length bytes ≡ n → length out < n → put done bytes out ≡ record { reply = no_room; out = out }
unfolding put
put_short n bytes out e h = rw (e, lt-leb n (length out) h)
