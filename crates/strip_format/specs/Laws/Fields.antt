-- By any description: what is written is read back, and what is read is written back. Laws.
-- Assumes nothing.
use Rattle.std.specs.Prelude.{◌≡◌, refl, List, [], ◌∷◌, ◌++◌, ℕ, zero, suc, ◌+◌, ◌*◌, ◌/◌, ◌%◌, ◌^◌, ◌≤◌, ◌<◌, length, get_or, take, drop}
use Rattle.std.proofs.Common.{sym, ap, ◌∙◌, append_assoc, div-add-mod', arith, length-append, length-drop, take-suc, take-add, drop-drop, get_or-drop}
use Rattle.std.proofs.Math.Nat.{pow-succ'}
use Rattle.std.proofs.Math.Seq.{append_snoc}
use Rattle.std.proofs.lemmas.List.{get_or_at}
use Rattle.lists.specs.Each.{Each, each_at}
use Rattle.strip_format.specs.Fields.{big_endian, number_at, size, written, fields_at}

-- there is a number for each field, and each fits its field
unfoldable pub Fits : List ℕ → List ℕ → Type 0
Fits [] [] = Unit {0}
Fits [] (n ∷ ns) = ⊥
Fits (w ∷ ws) [] = ⊥
Fits (w ∷ ws) (n ∷ ns) = (n < 256 ^ w) × Fits ws ns

-- each is a byte
abbrev pub Bytes : List ℕ → Type 0
Bytes bytes = Each (λ (b : ℕ). b < 256) bytes

-- ---- one field
-- A field has as many bytes as the description says.
pub field_length : (w n : ℕ) → length (big_endian w n) ≡ w
unfolding big_endian
field_length zero n = refl
field_length (suc w) n = rw (length-append, field_length w (n / 256)) (omega arith)

less : (w n : ℕ) → n < 256 ^ suc w → n / 256 < 256 ^ w
less w n h = omega (arith, pow-succ' 256 w)

number_back : (pre post : List ℕ) (w n : ℕ) → n < 256 ^ w → number_at (pre ++ (big_endian w n ++ post)) (length pre) w ≡ n
unfolding number_at big_endian
number_back pre post zero n h = sym (omega arith)
number_back pre post (suc w) n h =
    let front = big_endian w (n / 256) in
    let last = n % 256 in
    let there : get_or (pre ++ (front ++ (last ∷ post))) (length pre + w) 0 ≡ last =
    rw (← append_assoc pre front (last ∷ post))
    (get_or_at (pre ++ front) last post 0 (length pre + w) (rw (length-append, field_length w (n / 256)))) in
    let whole : big_endian (suc w) n ++ post ≡ front ++ (last ∷ post) = append_snoc front last post in
    let high : number_at (pre ++ (big_endian (suc w) n ++ post)) (length pre) w ≡ n / 256 =
    ap (λ (l : List ℕ). number_at (pre ++ l) (length pre) w) whole ∙ number_back pre (last ∷ post) w (n / 256) (less w n h) in
    let low : get_or (pre ++ (big_endian (suc w) n ++ post)) (length pre + w) 0 ≡ last =
    ap (λ (l : List ℕ). get_or (pre ++ l) (length pre + w) 0) whole ∙ there in
    rw (high, low) (div-add-mod' n 256)

-- The number of bytes is below what as many bytes can say.
pub number_small : (bytes : List ℕ) (at w : ℕ) → Bytes bytes → at + w ≤ length bytes → number_at bytes at w < 256 ^ w
unfolding number_at
number_small bytes at zero b l = omega arith
number_small bytes at (suc w) b l =
    let below : get_or bytes (at + w) 0 < 256 = each_at (λ (x : ℕ). x < 256) bytes 0 (at + w) (omega arith) b in
    let front : number_at bytes at w < 256 ^ w = number_small bytes at w b (omega arith) in
    omega (arith, pow-succ' 256 w)

number_rewrites : (bytes : List ℕ) (at w : ℕ) → Bytes bytes → at + w ≤ length bytes → big_endian w (number_at bytes at w) ≡ take w (drop at bytes)
unfolding number_at big_endian
number_rewrites bytes at zero b l = refl
number_rewrites bytes at (suc w) b l =
    let below : get_or bytes (at + w) 0 < 256 = each_at (λ (x : ℕ). x < 256) bytes 0 (at + w) (omega arith) b in
    let front : (number_at bytes at w * 256 + get_or bytes (at + w) 0) / 256 ≡ number_at bytes at w = omega arith in
    let last : (number_at bytes at w * 256 + get_or bytes (at + w) 0) % 256 ≡ get_or bytes (at + w) 0 = omega arith in
    let long : w < length (drop at bytes) = simp length-drop (omega arith) in
    rw (front, last, number_rewrites bytes at w b (omega arith), take-suc (drop at bytes) w 0 long, get_or-drop at bytes w 0)

-- ---- a description
-- The bytes of numbers, one for each field, are as many as the description says.
pub written_length : (ws ns : List ℕ) → length ns ≡ length ws → length (written ws ns) ≡ size ws
unfolding written
written_length [] ns h = refl
written_length (w ∷ ws) [] h = absurd (omega arith)
written_length (w ∷ ws) (n ∷ ns) h = rw (length-append, field_length w n, written_length ws ns (omega arith))

back : (ws ns pre post : List ℕ) → Fits ws ns → fields_at ws (pre ++ (written ws ns ++ post)) (length pre) ≡ ns
unfolding Fits written fields_at
back [] [] pre post h = refl
back [] (n ∷ ns) pre post h = absurd h
back (w ∷ ws) [] pre post h = absurd h
back (w ∷ ws) (n ∷ ns) pre post h =
    let this = big_endian w n in
    let rest = written ws ns ++ post in
    let long : length pre + w ≡ length (pre ++ this) = rw (length-append, field_length w n) in
    rw (append_assoc this (written ws ns) post, number_back pre rest w n h.0)
    (ap (λ (l : List ℕ). n ∷ l)
    (rw (long, ← append_assoc pre this rest) (back ws ns (pre ++ this) post h.1)))

-- What is written by a description is read back by it, wherever it stands.
pub numbers_back : (ws ns pre post : List ℕ) → Fits ws ns → fields_at ws (pre ++ written ws ns ++ post) (length pre) ≡ ns
numbers_back ws ns pre post h = rw append_assoc (back ws ns pre post h)

-- What is read by a description is written back by it.
pub bytes_back : (ws bytes : List ℕ) (at : ℕ) → Bytes bytes → at + size ws ≤ length bytes
    → written ws (fields_at ws bytes at) ≡ take (size ws) (drop at bytes)
unfolding written fields_at
bytes_back [] bytes at b l = refl
bytes_back (w ∷ ws) bytes at b l =
    rw (
      number_rewrites bytes at w b (omega arith),
      bytes_back ws bytes (at + w) b (omega arith),
      take-add w (size ws) (drop at bytes),
      drop-drop w at bytes,
    )
