-- An average that passes still passes with one speech frame more. The exact sum is at most 151 times the exact weight with room of nearly 1, and the
-- roundings of the two products and the two sums take less of it than a fiftieth. Laws.
-- Assumes nothing.
use Rattle.std.specs.Prelude.{◌≡◌, ℕ, ◌+◌, ◌-◌, ◌*◌, ◌%◌, ◌^◌, ◌<◌, ◌≤◌, true, T, Float}
use Rattle.std.proofs.Common.{ap, le_trans, le_of_eq, lt_of_le_of_lt, mul-le-mul_left, mul-le-mul_right, mul-lt-mul_of_pos_right, le_of_mul-le-mul_right, arith, lit<}
use Rattle.std.specs.Float.{binary32}
use Rattle.std.specs.Float.Ieee.{fits, add, mul}
use Rattle.rounding.specs.Units.{U, P, N, Number, rnd}
use Rattle.rounding.specs.Laws.Operations.{add_rounds, mul_rounds, add_above, mul_above}
use Rattle.rounding.specs.Laws.Whole.{U_pos}
use Rattle.floats.specs.Laws.Kinds.{passed as holds}
use Rattle.units.specs.Figures.{probability, rms}
use Rattle.runs.specs.Runs.{speech}
use Rattle.speech_level_estimator.specs.Average.{leak, advanced, passes}
use Rattle.speech_level_estimator.specs.Held.{Held}
use Rattle.speech_level_estimator.specs.declared.Average.{Average}
use Rattle.speech_level_estimator.specs.Laws.Facts.{Weight, Passed, passed, passing}
use Rattle.speech_level_estimator.specs.Laws.Near.{u, U-is, rnd_most, large_hi, small_hi, small_lo, near, above}
use Rattle.speech_level_estimator.specs.Laws.Figures.{Chance, chance, Loud, loud, Leak, leaks}

-- a product whose second factor is not below zero, by magnitudes
flat : (a b l n : ℕ) → n ≡ 0 → a * l + b * n + (a * n + b * l) ≡ (a + b) * l
flat a b l n e = rw e (omega arith)

-- The weight with one frame more: from 1 to what the next frame allows, and off by 2 u at most.
heavier : (w l p : Float) (left : ℕ) → Weight w left → Leak l left → Chance p
    → Weight (add binary32 (mul binary32 w l) p) (left - 10) × (2 * (P w * P l + P p * U) ≤ 2 * (P (add binary32 (mul binary32 w l) p) * U) + U * (4 * u))
heavier w l p left h k q =
    let few : 450 - (left - 10) < 2 ^ 24 = omega arith in
    let next = k.next in
    let exact = fits_in (P w) (P l) (450 - left) k.top U h.most k.kept in
    let x = above (mul binary32 w l) (P w * P l) U k.top U_pos (omega arith) (mul_above w l h.number k.number h.none_below k.none_below) exact in
    let m = rnd (P w * P l) U in
    let most = rnd_most (P w * P l) U k.top U_pos (omega arith) exact in
    let sum = total (P (mul binary32 w l)) m (P p) k.top U x.plus most q.most in
    let y = above (add binary32 (mul binary32 w l) p) (P (mul binary32 w l) + P p) 1 (k.top + 1) (lit< tt) (omega arith) (add_above (mul binary32 w l) p x.number q.number x.minus q.none_below) sum in
    let a = rnd_most (P (mul binary32 w l) + P p) 1 (k.top + 1) (lit< tt) (omega arith) sum in
    let low = small_lo (P w * P l) U U_pos (roomy (P w * P l) k.top U U (omega arith) U_pos U_pos exact) in
    let low' = small_lo (P (mul binary32 w l) + P p) 1 (lit< tt) (roomy (P (mul binary32 w l) + P p) (k.top + 1) U 1 (omega arith) U_pos (lit< tt) sum) in
    let off = both (P w * P l) m (P (mul binary32 w l)) (P p) (rnd (P (mul binary32 w l) + P p) 1) (P (add binary32 (mul binary32 w l) p)) U u x.plus y.plus low low' in (
      record {
        number = y.number;
        none_below = y.minus;
        least = le_of_mul-le-mul_right (some (P w) (P l) (P p) (P (add binary32 (mul binary32 w l) p)) U u U-is h.least k.half q.least off) U_pos;
        most = le_trans (le_of_eq y.plus) (le_trans a (mul-le-mul_right U next));
      },
      off,
    )
  where
    both : (x m w q r s o v : ℕ) → w ≡ m → s ≡ r → 2 * x ≤ 2 * (m * o) + o * (2 * v) → 2 * (w + q) ≤ 2 * (r * 1) + 1 * (2 * v) → 2 * (x + q * o) ≤ 2 * (s * o) + o * (4 * v)
    both x m w q r s o v i j e f =
        let z : 2 * (m + q) ≤ 2 * s + 2 * v = omega arith in
        let g : 2 * (m + q) * o ≤ (2 * s + 2 * v) * o = mul-le-mul_right o z in
        omega arith

    some : (w l q s o v : ℕ) → o ≡ 65536 * v → o ≤ w → o ≤ 2 * l → 60000 * v ≤ q → 2 * (w * l + q * o) ≤ 2 * (s * o) + o * (4 * v) → o * o ≤ s * o
    some w l q s o v i j e f g =
        let z : o * l ≤ w * l = mul-le-mul_right l j in
        let y : 2 * o + 4 * v ≤ 2 * l + 2 * q = omega arith in
        let x : (2 * o + 4 * v) * o ≤ (2 * l + 2 * q) * o = mul-le-mul_right o y in
        omega arith

    fits_in : (a l c t o : ℕ) → a ≤ c * o → c * l ≤ t * o → a * l ≤ t * o * o
    fits_in a l c t o i j =
        let e : a * l ≤ c * o * l = mul-le-mul_right l i in
        let f : c * l * o ≤ t * o * o = mul-le-mul_right o j in
        omega arith

    total : (a m q t o : ℕ) → a ≡ m → m ≤ t * o → q ≤ o → a + q ≤ (t + 1) * o * 1
    total a m q t o i j e = omega arith

    roomy : (a b o v : ℕ) → b < 512 → 0 < o → 0 < v → a ≤ b * o * v → a < 512 * o * v
    roomy a b o v i j e f = lt_of_le_of_lt f (mul-lt-mul_of_pos_right (mul-lt-mul_of_pos_right i j) e)

-- The sum with one frame more is a number, of magnitude at most exactly 151 times the weight with that frame.
fuller : (s w l r p v : Float) (left : ℕ) → Number s → Weight w left → P s + N s ≤ 151 * P w → Leak l left → Loud r → Chance p
    → 2 * (P w * P l + P p * U) ≤ 2 * (P v * U) + U * (4 * u)
    → Number (add binary32 (mul binary32 s l) (mul binary32 r p))
    × (P (add binary32 (mul binary32 s l) (mul binary32 r p)) + N (add binary32 (mul binary32 s l) (mul binary32 r p)) ≤ 151 * P v)
fuller s w l r p v left n h small k m q off =
    let first = mul binary32 s l in
    let second = mul binary32 r p in
    let out = add binary32 first second in
    let e1 = flat (P s) (N s) (P l) (N l) k.none_below in
    let e2 = flat (P r) (N r) (P p) (N p) q.none_below in
    let top1 = largest (P s + N s) (P w) (P l) left U small h.most k.most in
    let top2 = louder (P r + N r) (P p) U m.most q.most in
    let x = near first (P s * P l + N s * N l) (P s * N l + N s * P l) U 67950 U_pos (lit< tt) (mul_rounds s l n k.number) (le_trans (le_of_eq e1) top1) in
    let y = near second (P r * P p + N r * N p) (P r * N p + N r * P p) U 150 U_pos (lit< tt) (mul_rounds r p m.number q.number) (le_trans (le_of_eq e2) top2) in
    let a = P first + P second + (N first + N second) in
    let r1 = rnd ((P s + N s) * P l) U in
    let r2 = rnd ((P r + N r) * P p) U in
    let x-most : P first + N first ≤ r1 = le_trans x.most (le_of_eq (ap (λ (z : ℕ). rnd z U) e1)) in
    let y-most : P second + N second ≤ r2 = le_trans y.most (le_of_eq (ap (λ (z : ℕ). rnd z U) e2)) in
    let top3 = together (P first) (N first) (P second) (N second) U x.under y.under in
    let z = near out (P first + P second) (N first + N second) 1 68100 (lit< tt) (lit< tt) (add_rounds first second x.number y.number) top3 in
    let f1 = large_hi ((P s + N s) * P l) U U_pos (roomy ((P s + N s) * P l) 67950 131072 U U (lit< tt) U_pos U_pos top1) in
    let f2 = small_hi ((P r + N r) * P p) U U_pos (roomy ((P r + N r) * P p) 150 512 U U (lit< tt) U_pos U_pos top2) in
    let f3 = large_hi a 1 (lit< tt) (roomy a 68100 131072 U 1 (lit< tt) U_pos (lit< tt) top3) in
    let sum : a ≤ r1 + r2 = omega arith in (
      z.number,
      le_of_mul-le-mul_right
          (count (P s + N s) (P w) (P l) (P r + N r) (P p) r1 r2 a (rnd a 1) (P out + N out) (P v) U u U-is small m.most q.least f1 f2 f3 sum z.most off) U_pos,
    )
  where
    largest : (a w l t o : ℕ) → a ≤ 151 * w → w ≤ (450 - t) * o → l ≤ o → a * l ≤ 67950 * o * o
    largest a w l t o i j e =
        let z : (450 - t) * o ≤ 450 * o = mul-le-mul_right o (omega arith) in
        let y : a ≤ 67950 * o = omega arith in
        le_trans (mul-le-mul_right l y) (mul-le-mul_left (67950 * o) e)

    louder : (a q o : ℕ) → a ≤ 150 * o → q ≤ o → a * q ≤ 150 * o * o
    louder a q o i j = le_trans (mul-le-mul_right q i) (mul-le-mul_left (150 * o) j)

    together : (a b c d o : ℕ) → a + b ≤ 67950 * o → c + d ≤ 150 * o → a + c + (b + d) ≤ 68100 * o * 1
    together a b c d o i j = omega arith

    roomy : (a b c o d : ℕ) → b < c → 0 < o → 0 < d → a ≤ b * o * d → a < c * o * d
    roomy a b c o d i j e f = lt_of_le_of_lt f (mul-lt-mul_of_pos_right (mul-lt-mul_of_pos_right i j) e)

    count : (S W l R Q r1 r2 a b T X o v : ℕ) → o ≡ 65536 * v → S ≤ 151 * W → R ≤ 150 * o → 60000 * v ≤ Q
        → 2 * (r1 * o) ≤ 2 * (S * l) + o * (512 * v) → 2 * (r2 * o) ≤ 2 * (R * Q) + o * (2 * v) → 2 * (b * 1) ≤ 2 * a + 1 * (512 * v)
        → a ≤ r1 + r2 → T ≤ b → 2 * (W * l + Q * o) ≤ 2 * (X * o) + o * (4 * v) → T * o ≤ 151 * X * o
    count S W l R Q r1 r2 a b T X o v i small loud some f1 f2 f3 sum most off =
        let g1 : S * l ≤ 151 * W * l = mul-le-mul_right l small in
        let g2 : R * Q ≤ 150 * o * Q = mul-le-mul_right Q loud in
        let g3 : 2 * T ≤ 2 * (r1 + r2) + 512 * v = omega arith in
        let g4 : 2 * T * o ≤ (2 * (r1 + r2) + 512 * v) * o = mul-le-mul_right o g3 in
        let g5 : 60000 * v * o ≤ Q * o = mul-le-mul_right o some in
        omega arith

-- What an average that passes has passed, it has with a frame more whose level is accepted and whose probability is accepted and speech.
pub advanced_passed : (a : Average) (r p : Float) → Passed a → T (fits binary32 r) → T (fits binary32 p) → T (rms r) → T (probability p) → T (speech p) → Passed (advanced r p a)
unfolding advanced
advanced_passed a r p h f g loudness likely spoken =
    let l = leaks a.left h.time h.tens in
    let q = chance p g spoken likely in
    let w = heavier a.weight (leak a.left) p a.left h.weight l q in
    let x = fuller a.sum a.weight (leak a.left) r p (add binary32 (mul binary32 a.weight (leak a.left)) p) a.left h.sum h.weight h.small l (loud r f loudness) q w.1 in
    record { time = earlier a.left h.time; tens = still a.left h.tens; weight = w.0; sum = x.0; small = x.1 }
  where
    earlier : (n : ℕ) → n ≤ 400 → n - 10 ≤ 400
    earlier n i = omega arith

    still : (n : ℕ) → n % 10 ≡ 0 → (n - 10) % 10 ≡ 0
    still n i = omega arith

-- An average that passes, advanced by an accepted rms and an accepted probability that is speech, passes again.
pub advanced_passes : (a : Average) (r p : Float) → Held a → T (fits binary32 r) → T (fits binary32 p)
    → passes a ≡ true → rms r ≡ true → probability p ≡ true → speech p ≡ true → passes (advanced r p a) ≡ true
advanced_passes a r p held f g h i j k = passing (advanced r p a) (advanced_passed a r p (passed a held h) f g (holds i) (holds j) (holds k))

-- The numbers of an average that passes so are f32.
pub passed_held : (a : Average) → Passed a → Held a
passed_held a h = record { sum = h.sum.held; weight = h.weight.number.held }
