-- What a line is like, whatever it says: it ends with its one newline, it fits into 96 bytes, and it signs no zero.
-- Assumes nothing.
use Rattle.std.specs.Prelude.{◌≡◌, refl, Bool, true, false, ◌&&◌, cond, ℕ, zero, suc, ◌+◌, ◌/◌, ◌%◌, ◌≤◌, eqb, ltb, leb, length, drop, Float}
use Rattle.std.proofs.Math.Path.{sym}
use Rattle.std.proofs.Common.{ap, le_trans, arith, le→leb, length-append}
use mathlib.Core.List.{List, [], ◌∷◌, ◌++◌, append_assoc}
use Rattle.std.specs.Float.{binary32}
use Rattle.std.specs.Float.Ieee.{of_bits, lt}
use Rattle.std.specs.Float.Ieee.Bits.{is_true}
use Rattle.lists.specs.Each.{Each, each_append}
use Rattle.rounding.specs.Units.{U, size}
use Rattle.units.specs.Replies.{done}
use Rattle.units.specs.Output.{put}
use Rattle.strip_lines.specs.Lines.{longest, space, newline, minus, digit, spelled, decimal, hundredths, figure, gap_kind, letter, flag, record_line, refusal_line}
use Rattle.strip_lines.specs.Calls.{record_refusal, put_record_line, put_refusal_line}

-- ---- no zero is signed
pub less_than_a_hundredth : (x : Float) → hundredths x ≡ 0 → figure x ≡ digit 0 ∷ []
unfolding figure decimal spelled
less_than_a_hundredth x e = rw e (go (lt x (of_bits binary32 0x0000_0000)))
  where
    go : (b : Bool) → cond (b && false) (minus ∷ digit 0 ∷ []) (digit 0 ∷ []) ≡ digit 0 ∷ []
    go true = refl
    go false = refl

pub zero_unsigned : figure (of_bits binary32 0x0000_0000) ≡ digit 0 ∷ []
unfolding hundredths size U of_bits
zero_unsigned = less_than_a_hundredth (of_bits binary32 0x0000_0000) refl

pub negative_zero_unsigned : figure (of_bits binary32 0x8000_0000) ≡ digit 0 ∷ []
unfolding hundredths size U of_bits
negative_zero_unsigned = less_than_a_hundredth (of_bits binary32 0x8000_0000) refl

-- ---- a text that can be printed: so many bytes at most, and each from the space on, so no newline
pub record Text (most : ℕ) (bytes : List ℕ) : Type 0 where
  pub short : length bytes ≤ most
  pub plain : Each (λ (b : ℕ). space ≤ b) bytes

none : Text 0 []
none = record { short = omega arith; plain = unfold Each in tt }

after : (b n : ℕ) (xs : List ℕ) → space ≤ b → Text n xs → Text (suc n) (b ∷ xs)
after b n xs h t = record { short = omega (arith, t.short); plain = unfold Each in (h, t.plain) }

joined : (m n : ℕ) (xs ys : List ℕ) → Text m xs → Text n ys → Text (m + n) (xs ++ ys)
joined m n xs ys s t =
    record {
      short = omega (arith, length-append xs ys, s.short, t.short);
      plain = each_append (λ (b : ℕ). space ≤ b) xs ys s.plain t.plain;
    }

chosen : (p : Bool) (n : ℕ) (xs ys : List ℕ) → Text n xs → Text n ys → Text n (cond p xs ys)
chosen true n xs ys s t = s
chosen false n xs ys s t = t

wider : (m n : ℕ) (xs : List ℕ) → m ≤ n → Text m xs → Text n xs
wider m n xs h t = record { short = omega (arith, t.short); plain = t.plain }

spelled_text : (k n : ℕ) → Text k (spelled k n)
unfolding spelled
spelled_text zero n = none
spelled_text (suc k) n =
    chosen (ltb n 10) (suc k) (digit n ∷ []) (spelled k (n / 10) ++ (digit (n % 10) ∷ []))
    (wider 1 (suc k) (digit n ∷ []) (omega arith) (after (digit n) 0 [] (omega arith) none))
    (wider (k + 1) (suc k) (spelled k (n / 10) ++ (digit (n % 10) ∷ [])) (omega arith)
    (joined k 1 (spelled k (n / 10)) (digit (n % 10) ∷ []) (spelled_text k (n / 10)) (after (digit (n % 10)) 0 [] (omega arith) none)))

decimal_text : (n : ℕ) → Text 20 (decimal n)
unfolding decimal
decimal_text n = spelled_text 20 n

figure_text : (x : Float) → Text 21 (figure x)
unfolding figure
figure_text x =
    chosen (lt x (of_bits binary32 0x0000_0000) && ltb 0 (hundredths x)) 21 (minus ∷ decimal (hundredths x)) (decimal (hundredths x))
    (after minus 20 (decimal (hundredths x)) (omega arith) (decimal_text (hundredths x)))
    (wider 20 21 (decimal (hundredths x)) (omega arith) (decimal_text (hundredths x)))

letter_text : (kind : ℕ) → Text 1 (letter kind)
unfolding letter
letter_text kind =
    chosen (eqb kind 0) 1 (78 ∷ []) _ (one 78 (omega arith))
    (chosen (eqb kind 1) 1 (87 ∷ []) _ (one 87 (omega arith))
    (chosen (eqb kind 2) 1 (80 ∷ []) _ (one 80 (omega arith))
    (chosen (eqb kind gap_kind) 1 (71 ∷ []) [] (one 71 (omega arith)) (wider 0 1 [] (omega arith) none))))
  where
    one : (b : ℕ) → space ≤ b → Text 1 (b ∷ [])
    one b h = after b 0 [] h none

flag_plain : (b : Bool) → space ≤ flag b
flag_plain true = omega arith
flag_plain false = omega arith

-- ---- a line: such a text, and a newline after it
pub record Ended (line : List ℕ) : Type 0 where
  pub body : List ℕ
  pub text : Text 95 body
  pub ends : line ≡ body ++ (newline ∷ [])

pub ended_fits : (line : List ℕ) → Ended line → length line ≤ longest
ended_fits line e = omega (arith, ap length e.ends, length-append e.body (newline ∷ []), e.text.short)

module _ (number kind : ℕ) (level headroom gain : Float) (confident : Bool) where
  record_body : List ℕ
  record_body =
      decimal number
      ++ (space
      ∷ letter kind
      ++ (space
      ∷ figure level
      ++ (space ∷ figure headroom ++ (space ∷ figure gain ++ (space ∷ flag confident ∷ [])))))

  record_text : Text 95 record_body
  unfolding record_body
  record_text =
      let last = after space 1 (flag confident ∷ []) (omega arith) (after (flag confident) 0 [] (flag_plain confident) none) in
      let third = after space 23 (figure gain ++ _) (omega arith) (joined 21 2 (figure gain) _ (figure_text gain) last) in
      let second = after space 45 (figure headroom ++ _) (omega arith) (joined 21 24 (figure headroom) _ (figure_text headroom) third) in
      let first = after space 67 (figure level ++ _) (omega arith) (joined 21 46 (figure level) _ (figure_text level) second) in
      let whole = after space 69 (letter kind ++ _) (omega arith) (joined 1 68 (letter kind) _ (letter_text kind) first) in
      wider 90 95 record_body (omega arith) (joined 20 70 (decimal number) _ (decimal_text number) whole)

  pub record_line_ended : Ended (record_line number kind level headroom gain confident)
  unfolding record_line record_body
  record_line_ended = record { body = record_body; text = record_text; ends = sym (simp append_assoc) }

module _ (number reply : ℕ) where
  refusal_body : List ℕ
  refusal_body = decimal number ++ (space ∷ 82 ∷ space ∷ decimal reply)

  refusal_text : Text 95 refusal_body
  unfolding refusal_body
  refusal_text =
      let last = after space 20 (decimal reply) (omega arith) (decimal_text reply) in
      let whole = after space 22 _ (omega arith) (after 82 21 _ (omega arith) last) in
      wider 43 95 refusal_body (omega arith) (joined 20 23 (decimal number) _ (decimal_text number) whole)

  pub refusal_line_ended : Ended (refusal_line number reply)
  unfolding refusal_line refusal_body
  refusal_line_ended = record { body = refusal_body; text = refusal_text; ends = sym (simp append_assoc) }

-- ---- a buffer of 96 bytes is never too short
pub record_line_fits : (number kind : ℕ) (level headroom gain : Float) (confident : Bool)
    → length (record_line number kind level headroom gain confident) ≤ longest
record_line_fits number kind level headroom gain confident =
    ended_fits (record_line number kind level headroom gain confident) (record_line_ended number kind level headroom gain confident)

pub refusal_line_fits : (number reply : ℕ) → length (refusal_line number reply) ≤ longest
refusal_line_fits number reply = ended_fits (refusal_line number reply) (refusal_line_ended number reply)

-- so what is put into one is the line, and the rest of the buffer stays
put_whole : (line out : List ℕ) → length line ≤ length out → put done line out ≡ record { reply = done; out = line ++ drop (length line) out }
unfolding put
put_whole line out h = rw (is_true (leb (length line) (length out)) (le→leb (length line) (length out) h))

pub record_line_put : (number kind : ℕ) (level headroom gain : Float) (confident : Bool) (out : List ℕ)
    → record_refusal level headroom gain ≡ done → longest ≤ length out
    → (let line = record_line number kind level headroom gain confident in put_record_line number kind level headroom gain confident out ≡ record { reply = done; out = line ++ drop (length line) out })
unfolding put_record_line
record_line_put number kind level headroom gain confident out e h =
    rw e
    (put_whole (record_line number kind level headroom gain confident) out
    (le_trans (record_line_fits number kind level headroom gain confident) h))

pub refusal_line_put : (number reply : ℕ) (out : List ℕ) → longest ≤ length out
    → (let line = refusal_line number reply in put_refusal_line number reply out ≡ record { reply = done; out = line ++ drop (length line) out })
unfolding put_refusal_line
refusal_line_put number reply out h = put_whole (refusal_line number reply) out (le_trans (refusal_line_fits number reply) h)
