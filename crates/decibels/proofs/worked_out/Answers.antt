-- `decibels::worked_out` meets its contract: x * 16.0 is exact, and what it is without its fraction indexes the two tables.
-- Assumes nothing.
use Rattle.std.proofs.Common.{◌≡◌, ℕ, ◌/◌, ◌^◌, ◌<◌, ◌≤◌, sym, ◌∙◌, subst, arith}
use Rattle.floats.specs.Laws.Kinds.{passed}
use Rattle.decibels.specs.Ratio.{steps, rest, A, B, ratio_of, whole_bits, sixteenth_bits}
use Rattle.decibels.specs.Laws.Split.{Gain, accepted, castable, cut_off, steps_most}
use Rattle.decibels.proofs.worked_out.Goals as goal
use Rattle.decibels.proofs.worked_out.Goals.{After-truncating_f32_to_u64-steps, Start}

gain-of : (c : Start) → Gain c.args.x
gain-of c = accepted c.args.x (passed c.well_formed.0.1) c.requires

steps-are : (c : After-truncating_f32_to_u64-steps) → c.truncating_f32_to_u64-steps.result ≡ steps c.args.x
steps-are c = c.truncating_f32_to_u64-steps.ensures ∙ cut_off c.args.x (gain-of c.before)

whole-steps : (c : After-truncating_f32_to_u64-steps) → c.truncating_f32_to_u64-steps.result ≤ 816
whole-steps c = subst (λ (z : ℕ). z ≤ 816) (sym (steps-are c)) (steps_most c.args.x (gain-of c.before))

narrow : {j : ℕ} → j ≤ 816 → j < 2 ^ 32
narrow h = omega arith

within : {j : ℕ} → j ≤ 816 → j / 16 < 52
within h = omega arith

pub truncating_f32_to_u64-steps-requires : goal.truncating_f32_to_u64-steps-requires
truncating_f32_to_u64-steps-requires c =
    let both = castable c.args.x (gain-of c) in
    record { lower_bound = both.0; upper_bound = both.1 }

pub overflow_cast-steps : goal.overflow_cast-steps
overflow_cast-steps c = record { fits = narrow (whole-steps c) }

pub bounds-n : goal.bounds-n
bounds-n c = within (whole-steps c.before.before)

pub returns : goal.returns
unfolding ratio_of A B rest whole_bits sixteenth_bits
returns c = rw (c.nearest_u32_to_f32.ensures, steps-are c.before.before.before.before.before)
