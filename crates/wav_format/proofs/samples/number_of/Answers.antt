-- `wav_format::samples::number_of` meets its contract: what is cut off is at most 32768. Assumes nothing.
use Rattle.std.proofs.Common.{◌≡◌, ℕ, ◌-◌, ◌%◌, ◌≤◌, sym, ap, ◌∙◌, subst, arith}
use Rattle.floats.specs.Laws.Kinds.{passed}
use Rattle.wav_format.specs.Samples.{rounded}
use Rattle.wav_format.specs.Laws.Rounds.{Full, full, castable, cut_off, rounded_most, number_beyond, number_below, number_above}
use Rattle.wav_format.proofs.samples.number_of.Goals as goal
use Rattle.wav_format.proofs.samples.number_of.Goals.{After-truncating_f32_to_u64-size, Then-is_full_scale}

full-of : (c : Then-is_full_scale) → Full c.args.x
full-of c =
    full c.args.x (passed c.well_formed.0.1) (sym c.is_full_scale.ensures ∙ c.if-is_full_scale.true)

pub truncating_f32_to_u64-size-requires : goal.truncating_f32_to_u64-size-requires
truncating_f32_to_u64-size-requires c =
    let both = castable c.args.x c.magnitude.result c.magnitude.ensures (full-of c.before) in
    record { lower_bound = both.0; upper_bound = both.1 }

cut : (c : After-truncating_f32_to_u64-size) → c.truncating_f32_to_u64-size.result ≡ rounded c.args.x
cut c = cut_off c.args.x c.magnitude.ensures c.truncating_f32_to_u64-size.ensures

most : (c : After-truncating_f32_to_u64-size) → c.truncating_f32_to_u64-size.result ≤ 32768
most c = subst (λ (z : ℕ). z ≤ 32768) (sym (cut c)) (rounded_most c.args.x (full-of c.before.before))

pub overflow_cast-size : goal.overflow_cast-size
overflow_cast-size c = omega (arith, most c)

pub returns-then-x : goal.returns-then-x
returns-then-x c =
    let same = cut_off c.args.x c.magnitude.ensures c.truncating_f32_to_u64-size.ensures in
    let small = rounded_most c.args.x (full c.args.x (passed c.well_formed.0.1) (sym c.is_full_scale.ensures ∙ c.if-is_full_scale.true)) in
    let turned : c.wrapping_neg.result ≡ (65536 - c.truncating_f32_to_u64-size.result) % 65536 = omega (arith, same, small) in
    turned
    ∙ ap (λ (z : ℕ). (65536 - z) % 65536) same
    ∙ sym (number_below c.args.x (sym c.is_full_scale.ensures ∙ c.if-is_full_scale.true) c.if-x.true)

pub returns-else-x : goal.returns-else-x
returns-else-x c =
    cut c.before ∙ sym (number_above c.args.x (sym c.is_full_scale.ensures ∙ c.if-is_full_scale.true) c.if-x.false)

pub returns-else-is_full_scale : goal.returns-else-is_full_scale
returns-else-is_full_scale c = sym (number_beyond c.args.x (sym c.is_full_scale.ensures ∙ c.if-is_full_scale.false))
