-- Numbers of four bytes, one after the other: how many bytes they are, and what storing them comes to. Laws.
-- Assumes nothing.
use Rattle.std.specs.Prelude.{◌≡◌, ℕ, suc, ◌+◌, ◌*◌, ◌/◌, ◌%◌, ◌<◌, ◌≤◌, List, [], ◌∷◌, ◌++◌, length, take, drop, slice_index, refl}
use Rattle.std.proofs.Common.{sym, append_assoc, append-nil, add-zero, add-one, arith, length-append, take-append-drop, take-suc, take_all, length-take-le}
use Rattle.wav_format.specs.Bytes.{little}
use Rattle.wav_format.specs.Steps.{in_fours}
use Rattle.wav_format.specs.Laws.Bytes.{little_length, Begun, puts}

-- Each has four bytes.
pub fours_length : (ns : List ℕ) → length (in_fours ns) ≡ 4 * length ns
unfolding in_fours
fours_length [] = refl
fours_length (n ∷ ns) = rw (length-append, little_length 4 n, fours_length ns) (omega arith)

one_more : (ns : List ℕ) (n : ℕ) → in_fours (ns ++ (n ∷ [])) ≡ in_fours ns ++ little 4 n
unfolding in_fours
one_more [] n = append-nil (little 4 n)
one_more (m ∷ ns) n = rw (one_more ns n) (sym (append_assoc (little 4 m) (in_fours ns) (little 4 n)))

module _ (ns o : List ℕ) (at : ℕ) where
  -- Nothing was put yet behind the bytes before a place.
  pub none_yet : at ≤ length o → Begun o (take at o ++ in_fours []) o (at + 4 * 0)
  unfolding in_fours
  none_yet h = record { long = rw (append-nil, add-zero) (length-take-le at o h); are = rw (append-nil, add-zero) (sym (take-append-drop at o)) }

  -- Four bytes that are put behind those of k numbers: those of k + 1.
  pub put_next : {o' o'' : List ℕ} (k : ℕ) → k < length ns → Begun o (take at o ++ in_fours (take k ns)) o' (at + 4 * k)
      → o'' ≡ take (at + 4 * k) o' ++ little 4 (slice_index ns k) ++ drop (at + 4 * k + 4) o'
      → Begun o (take at o ++ in_fours (take (k + 1) ns)) o'' (at + 4 * (k + 1))
  put_next k h b e =
      rw (add-one, take-suc ns k 0 h, one_more (take k ns) (slice_index ns k), ← append_assoc (take at o) (in_fours (take k ns)) (little 4 (slice_index ns k)))
      (puts 4 (slice_index ns k) (at + 4 * suc k) (omega arith) b e)

  -- All were put.
  pub all_put : {o' : List ℕ} (k : ℕ) → k ≡ length ns → Begun o (take at o ++ in_fours (take k ns)) o' (at + 4 * k)
      → o' ≡ take at o ++ in_fours ns ++ drop (at + 4 * length ns) o
  all_put k e b = rw (e, take_all (length ns) ns (omega arith)) at b.are

-- Two of them behind other bytes.
pub two_fours : (xs : List ℕ) (a b : ℕ) → xs ++ in_fours (a ∷ b ∷ []) ≡ xs ++ little 4 a ++ little 4 b
unfolding in_fours
two_fours xs a b = rw (append-nil, append_assoc)

-- Two numbers of two bytes as one of four.
pub paired : (a b : ℕ) → a < 65536 → b < 65536 → little 4 (a + 65536 * b) ≡ little 2 a ++ little 2 b
unfolding little
paired a b h k =
    let n = a + 65536 * b in
    let first : n % 256 ≡ a % 256 = omega arith in
    let once : n / 256 ≡ a / 256 + 256 * b = omega arith in
    let second : (a / 256 + 256 * b) % 256 ≡ a / 256 % 256 = omega arith in
    let twice : (a / 256 + 256 * b) / 256 ≡ b = omega arith in
    rw (first, once, second, twice)
