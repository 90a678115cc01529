-- The target of a frame is a number from 0 to the f32 next above 50. It can be that one, though no setting is above 50: the sum of headroom
-- and largest gain is rounded before the level is compared with it.
use Rattle.std.specs.Prelude.{◌≡◌, ℕ, ◌+◌, ◌-◌, ◌*◌, ◌^◌, ◌<◌, ◌≤◌, Bool, true, false, cond, not, ◌||◌, T, List, [], ◌∷◌, refl, Float}
use Rattle.std.proofs.Common.{ap, ◌∙◌, subst, lt_of_le_of_lt, lit<}
use Rattle.std.proofs.Math.Nat.{zero-sub}
use native.Mathlib.Omega.{arith}
use Rattle.std.specs.Float.Ieee.{binary32, of_bits, add, sub, neg, le, lt, eq, fits, size as bits}
use Rattle.rounding.specs.Units.{U, size, P, N, Number, Value, In, rnd}
use Rattle.rounding.specs.Laws.Rnd.{rnd_zero, under_hi}
use Rattle.rounding.specs.Laws.Order.{lt→units, not-lt→units}
use Rattle.rounding.specs.Laws.Operations.{add_above, sub_rounds, neg_value}
use Rattle.rounding.specs.Laws.Between.{in_real, known}
use Rattle.rounding.specs.Laws.Exact.{constant_number}
use Rattle.floats.specs.Choice.{larger, smaller}
use Rattle.floats.specs.Kinds.{is_negative_zero}
use Rattle.floats.specs.Laws.Kinds.{nought_value}
use Rattle.intervals.specs.Interval.{Expr, variable, constant, sum, difference, eval, Box, box, bounded, Boxed}
use Rattle.intervals.specs.Interval as I
use Rattle.intervals.specs.Laws.Interval.{interval}
use Rattle.units.specs.Settings as Settings
use Rattle.units.specs.declared.settings.Settings.{Settings as Set}
use Rattle.adaptive_digital_gain_controller.specs.Target.{wanted, under_noise, loud, under_envelope, target}
use Rattle.adaptive_digital_gain_controller.specs.Controller.{accepted}
use Rattle.adaptive_digital_gain_controller.specs.Range.{zero, past50, Goal, Gain}
use Rattle.adaptive_digital_gain_controller.specs.Laws.Boxes.{from_to, boxed, Above, from_zero, InSettings, InFigures}
use Rattle.adaptive_digital_gain_controller.specs.declared.Info.{Info}

-- ---- the ends, in units: an f32 between 64 and 128 is a multiple of 2 * gap
gap : ℕ
gap = 2 ^ 131

pub past_value : Value past50 (50 * U + 2 ^ 131) 0
unfolding P N size U of_bits
past_value = record { number = constant_number 0x4248_0001 tt; plus = refl; minus = refl }

fifty_value : Value (of_bits binary32 0x4248_0000) (50 * U) 0
unfolding P N size U of_bits
fifty_value = record { number = constant_number 0x4248_0000 tt; plus = refl; minus = refl }

-- ---- the sum of the level and the headroom
sum_expr : Expr
sum_expr = sum (variable 0) (variable 1)

sum_bounded : T (bounded (from_to 0xc316_0000 0x4248_0000 ∷ from_to 0x0000_0000 0x42c8_0000 ∷ []) sum_expr)
unfolding sum_expr bounded add larger smaller of_bits bits fits lt
sum_bounded = tt

sum_number : (x y : Float) → Boxed (from_to 0xc316_0000 0x4248_0000) x → Boxed (from_to 0x0000_0000 0x42c8_0000) y → Number (add binary32 x y)
unfolding sum_expr eval
sum_number x y b d = (interval (from_to 0xc316_0000 0x4248_0000 ∷ from_to 0x0000_0000 0x42c8_0000 ∷ []) (x ∷ y ∷ []) (b, (d, tt)) sum_expr sum_bounded).inside.number

-- ---- the gain that is wanted
fifty : (x : Float) → Boxed (from_to 0x0000_0000 0x4248_0000) x → Above (50 * U) x
fifty x b = from_zero (of_bits binary32 0x4248_0000) x (50 * U) fifty_value b.inside

below_128 : 100 * U < 2 ^ (24 + 132) * 1
unfolding U
below_128 = lit< tt

two_gaps : 2 ^ 132 ≡ 2 * gap
unfolding gap
two_gaps = refl

-- headroom and largest gain, rounded: at most a gap more
record Sum (h l : Float) : Type 0 where
  pub number : Number (add binary32 h l)
  pub none : N (add binary32 h l) ≡ 0
  pub most : P (add binary32 h l) ≤ P h + P l + gap

both_sum : T (bounded (from_to 0x0000_0000 0x4248_0000 ∷ from_to 0x0000_0000 0x4248_0000 ∷ []) sum_expr)
unfolding sum_expr bounded add larger smaller of_bits bits fits lt
both_sum = tt

summed : (h l : Float) → Boxed (from_to 0x0000_0000 0x4248_0000) h → Boxed (from_to 0x0000_0000 0x4248_0000) l → Sum h l
unfolding sum_expr eval
summed h l b d =
    let n : Number (add binary32 h l) = (interval (from_to 0x0000_0000 0x4248_0000 ∷ from_to 0x0000_0000 0x4248_0000 ∷ []) (h ∷ l ∷ []) (b, (d, tt)) sum_expr both_sum).inside.number in
    let f = fifty h b in
    let g = fifty l d in
    let v = known (add_above h l f.number g.number f.none g.none) n.real in
    let up = under_hi 132 (P h + P l - 0) 1 (lit< tt) (lt_of_le_of_lt (few (P h) (P l) U f.most g.most) below_128) in
    record {
      number = n;
      none = v.minus ∙ ap (λ (z : ℕ). rnd z 1) (zero-sub (P h + P l)) ∙ rnd_zero 1 (lit< tt);
      most = bring (P (add binary32 h l)) (rnd (P h + P l - 0) 1) (P h) (P l) (2 ^ 132) gap v.plus up two_gaps;
    }
  where
    few : (p q u : ℕ) → p ≤ 50 * u → q ≤ 50 * u → p + q - 0 ≤ 100 * u
    few p q u i j = omega arith

    bring : (s r p q z g : ℕ) → s ≡ r → 2 * (r * 1) ≤ 2 * (p + q - 0) + 1 * z → z ≡ 2 * g → s ≤ p + q + g
    bring s r p q z g i j k = omega arith

-- what has at most 50 * U units lies from 0 to the f32 next above 50
within_50 : (x : Float) → Above (50 * U) x → Goal x
within_50 x f =
    let z = nought_value in
    let v = past_value in
    record {
      number = f.number;
      above = low (P x) (N x) (P zero) (N zero) f.none z.plus;
      below = high (P x) (N x) (P past50) (N past50) (50 * U) (2 ^ 131) f.most v.plus v.minus;
    }
  where
    low : (p n q m : ℕ) → n ≡ 0 → q ≡ 0 → q + n ≤ p + m
    low p n q m i j = omega arith

    high : (p n q m c g : ℕ) → p ≤ c → q ≡ c + g → m ≡ 0 → p + m ≤ q + n
    high p n q m c g i j k = omega arith

-- 0 does
none_50 : Goal zero
none_50 =
    let z = nought_value in
    let p = z.plus in
    within_50 zero (record { number = z.number; none = z.minus; most = omega arith })

module _ (level headroom largest : Float) (n : Number level) (h : Above (50 * U) headroom) (l : Above (50 * U) largest) (s : Sum headroom largest) where
  -- what brings the level to the headroom below full scale, for a level that is not very low
  lifted : N (add binary32 headroom largest) + N level ≤ P level + P (add binary32 headroom largest) → P level + P headroom < N headroom + N level
      → Goal (sub binary32 (neg headroom) level)
  unfolding gap
  lifted low high =
      let v = neg_value headroom h.number in
      let z = nought_value in
      let t = past_value in
      in_real zero past50 (sub binary32 (neg headroom) level) (P (neg headroom) + N level) (N (neg headroom) + P level) 1 (lit< tt) z.number t.number
      (sub_rounds (neg headroom) level v.number n)
      (bottom (P headroom) (N headroom) (P level) (N level) (P (neg headroom)) (N (neg headroom)) (P zero) (N zero) v.plus v.minus z.plus high)
      (top (P headroom) (N headroom) (P level) (N level) (P (neg headroom)) (N (neg headroom)) (P past50) (N past50) (P largest) (P (add binary32 headroom largest)) (N (add binary32 headroom largest)) (50 * U) (2 ^ 131) v.plus v.minus t.plus t.minus h.none l.most s.none s.most low)
    where
      bottom : (p n q m v w y z : ℕ) → v ≡ n → w ≡ p → y ≡ 0 → q + p < n + m → y * 1 + (w + q) ≤ v + m + z * 1
      bottom p n q m v w y z i j k r = omega arith

      top : (p n q m v w y z l a b c g : ℕ) → v ≡ n → w ≡ p → y ≡ c + g → z ≡ 0 → n ≡ 0 → l ≤ c → b ≡ 0 → a ≤ p + l + g → b + m ≤ q + a → v + m + z * 1 ≤ y * 1 + (w + q)
      top p n q m v w y z l a b c g i j k o r s t f d = omega arith

  chosen : (low below : Bool) → (T (not low) → N (add binary32 headroom largest) + N level ≤ P level + P (add binary32 headroom largest))
      → (T below → P level + P headroom < N headroom + N level) → Goal (cond low largest (cond below (sub binary32 (neg headroom) level) zero))
  chosen true below f g = within_50 largest l
  chosen false true f g = lifted (f tt) (g tt)
  chosen false false f g = none_50

-- The gain that is wanted lies from 0 to the f32 next above 50.
pub wanted_goal : (level headroom largest : Float) → Number level → Boxed (from_to 0x0000_0000 0x4248_0000) headroom → Boxed (from_to 0x0000_0000 0x4248_0000) largest
    → Goal (wanted level headroom largest)
unfolding wanted
wanted_goal level headroom largest n b d =
    let h = fifty headroom b in
    let s = summed headroom largest b d in
    let hv = neg_value headroom h.number in
    let total = add binary32 headroom largest in
    let sv = neg_value total s.number in
    chosen level headroom largest n h (fifty largest d) s (lt level (neg total)) (lt level (neg headroom))
    (λ (t : T (not (lt level (neg total)))). turned (P (neg total)) (N (neg total)) (P total) (N total) (P level) (N level) sv.plus sv.minus (not-lt→units level (neg total) n sv.number t))
    (λ (t : T (lt level (neg headroom))). turned' (P (neg headroom)) (N (neg headroom)) (P headroom) (N headroom) (P level) (N level) hv.plus hv.minus (lt→units level (neg headroom) n hv.number t))
  where
    turned : (v w p n q m : ℕ) → v ≡ n → w ≡ p → v + m ≤ q + w → n + m ≤ q + p
    turned v w p n q m i j k = omega arith

    turned' : (v w p n q m : ℕ) → v ≡ n → w ≡ p → q + w < v + m → q + p < n + m
    turned' v w p n q m i j k = omega arith

-- ---- the two limits: neither brings it above what it was, nor below 0
noise_expr : Expr
noise_expr = I.smaller (variable 0) (I.larger (difference (variable 1) (variable 2)) (constant zero))

noise_boxes : List Box
noise_boxes = from_to 0x0000_0000 0x4248_0001 ∷ from_to 0xc2b4_0000 0x0000_0000 ∷ from_to 0xc316_0000 0x4248_0000 ∷ []

noise_bounded : T (bounded noise_boxes noise_expr)
unfolding noise_expr noise_boxes bounded sub add neg larger smaller of_bits bits fits lt
noise_bounded = tt

noise_low : (box noise_boxes noise_expr).low ≡ zero
unfolding noise_expr noise_boxes box sub add neg larger smaller of_bits bits lt
noise_low = refl

noise_high : (box noise_boxes noise_expr).high ≡ past50
unfolding noise_expr noise_boxes box sub add neg larger smaller of_bits bits lt
noise_high = refl

-- what lies in a box whose ends are those of a target
as_goal : (b : Box) (x : Float) → b.low ≡ zero → b.high ≡ past50 → Boxed b x → Goal x
as_goal b x p q i = subst (λ (z : Float). In z past50 x) p (subst (λ (z : Float). In b.low z x) q i.inside)

-- Under the limit by noise it stays there.
pub noise_goal : (gain noise loudest : Float) → Goal gain → Boxed (from_to 0xc316_0000 0x4248_0000) noise → Boxed (from_to 0xc2b4_0000 0x0000_0000) loudest
    → Goal (under_noise gain noise loudest)
unfolding under_noise noise_expr noise_boxes eval of_bits
noise_goal gain noise loudest g b d =
    as_goal (box noise_boxes noise_expr) (under_noise gain noise loudest) noise_low noise_high
    (interval noise_boxes (gain ∷ loudest ∷ noise ∷ []) (boxed 0x0000_0000 0x4248_0001 tt tt gain g, (d, (b, tt))) noise_expr noise_bounded)

envelope_expr : Expr
envelope_expr = I.smaller (I.larger (difference (constant loud) (difference (variable 1) (variable 2))) (constant zero)) (variable 0)

envelope_boxes : List Box
envelope_boxes = from_to 0x0000_0000 0x4248_0001 ∷ from_to 0xc316_0000 0x42c8_0000 ∷ from_to 0x0000_0000 0x424c_0000 ∷ []

envelope_bounded : T (bounded envelope_boxes envelope_expr)
unfolding envelope_expr envelope_boxes bounded sub add neg larger smaller of_bits bits fits lt
envelope_bounded = tt

envelope_low : (box envelope_boxes envelope_expr).low ≡ zero
unfolding envelope_expr envelope_boxes box sub add neg larger smaller of_bits bits lt
envelope_low = refl

envelope_high : (box envelope_boxes envelope_expr).high ≡ past50
unfolding envelope_expr envelope_boxes box sub add neg larger smaller of_bits bits lt
envelope_high = refl

-- Under the limit by the limiter's envelope it stays there.
pub envelope_goal : (gain last envelope : Float) (reliable : Bool) → Goal gain → Gain last → Boxed (from_to 0xc316_0000 0x42c8_0000) envelope
    → Goal (under_envelope gain last envelope reliable)
unfolding under_envelope envelope_expr envelope_boxes eval of_bits
envelope_goal gain last envelope reliable g l b =
    go (reliable || le envelope loud)
    (as_goal (box envelope_boxes envelope_expr) (eval (gain ∷ envelope ∷ last ∷ []) envelope_expr) envelope_low envelope_high
    (interval envelope_boxes (gain ∷ envelope ∷ last ∷ []) (boxed 0x0000_0000 0x4248_0001 tt tt gain g, (b, (boxed 0x0000_0000 0x424c_0000 tt tt last l, tt))) envelope_expr envelope_bounded))
  where
    go : {lowered : Float} (trusted : Bool) → Goal lowered → Goal (cond trusted gain lowered)
    go true k = g
    go false k = k

-- For accepted settings, accepted figures and a gain from 0 to 51 the target is a number from 0 to the f32 next above 50.
pub target_in_range : (s : Set) (last : Float) (i : Info) → InSettings s → Gain last → InFigures i → Goal (target s last i)
unfolding target
target_in_range s last i b l f =
    envelope_goal (under_noise (wanted (add binary32 i.level.0 i.headroom.0) s.headroom.0 s.largest.0) i.noise.0 s.noise.0) last i.envelope.0 i.reliable
    (noise_goal (wanted (add binary32 i.level.0 i.headroom.0) s.headroom.0 s.largest.0) i.noise.0 s.noise.0
    (wanted_goal (add binary32 i.level.0 i.headroom.0) s.headroom.0 s.largest.0 (sum_number i.level.0 i.headroom.0 f.level f.headroom) b.headroom b.largest)
    f.noise b.noise)
    l f.envelope

-- settings that are accepted, with a headroom and a largest gain that are hard to add
unfoldable pub high_settings : Set
high_settings =
    record {
      headroom = record { 0 = of_bits binary32 0x4247_ffff };
      largest = record { 0 = of_bits binary32 0x4248_0000 };
      initial = record { 0 = of_bits binary32 0x4170_0000 };
      change = of_bits binary32 0x40c0_0000;
      noise = record { 0 = zero };
    }

-- figures that are accepted, with a low level
unfoldable pub low_figures : Info
low_figures =
    record {
      probability = zero;
      level = record { 0 = of_bits binary32 0xc316_0000 };
      reliable = true;
      noise = record { 0 = of_bits binary32 0xc316_0000 };
      headroom = record { 0 = of_bits binary32 0x4248_0000 };
      envelope = record { 0 = of_bits binary32 0xc316_0000 };
    }

-- It can be above 50: with headroom 49.999996 and largest gain 50, at level -150 and a headroom of 50 above it, it is 50.000004.
pub target_above_50 : (Settings.accepted high_settings ≡ true) × (accepted low_figures ≡ true) × (target high_settings zero low_figures ≡ past50)
unfolding high_settings low_figures Settings.accepted accepted is_negative_zero target wanted under_noise under_envelope larger smaller add sub neg le lt eq of_bits bits
target_above_50 = (refl, refl, refl)
