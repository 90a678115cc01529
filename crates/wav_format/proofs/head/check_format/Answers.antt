-- `wav_format::head::check_format` meets its contract: its four choices are the definition's. Assumes nothing.
use Rattle.std.proofs.Common.{sym, ◌∙◌, eq-eqb, ne_eqb}
use Rattle.units.specs.Handed.{handed, refusal_of}
use Rattle.wav_format.specs.Laws.Head.{kind_is, together_is, shape_is, refused_cut, refused_kind, refused_group, refused_shape, not_refused}
use Rattle.wav_format.proofs.head.check_format.Goals as goal

pub returns-then-bytes-lt16 : goal.returns-then-bytes-lt16
unfolding handed refusal_of
returns-then-bytes-lt16 c = rw (refused_cut c.args.bytes.now c.if-bytes-lt16.true)

pub returns-then-not-kind : goal.returns-then-not-kind
unfolding handed refusal_of
returns-then-not-kind c =
    rw (refused_kind c.args.bytes.now c.if-bytes-lt16.false (sym (kind_is c.args.bytes.now c.two_at-tag.ensures c.two_at-later.ensures c.two_at-bits.ensures) ∙ c.if-not-kind.true))

pub returns-then-not-together : goal.returns-then-not-together
unfolding handed refusal_of
returns-then-not-together c =
    rw (refused_group c.args.bytes.now c.if-bytes-lt16.false (sym (kind_is c.args.bytes.now c.two_at-tag.ensures c.two_at-later.ensures c.two_at-bits.ensures) ∙ c.if-not-kind.false) (sym (together_is c.args.bytes.now c.two_at-channels.ensures c.two_at-group.ensures) ∙ ne_eqb _ _ c.if-not-together.true))

pub returns-then-not-shape : goal.returns-then-not-shape
unfolding handed refusal_of
returns-then-not-shape c =
    rw (refused_shape c.args.bytes.now c.if-bytes-lt16.false (sym (kind_is c.args.bytes.now c.two_at-tag.ensures c.two_at-later.ensures c.two_at-bits.ensures) ∙ c.if-not-kind.false) (sym (together_is c.args.bytes.now c.two_at-channels.ensures c.two_at-group.ensures) ∙ eq-eqb _ _ c.if-not-together.false) (sym (shape_is c.args.bytes.now c.two_at-channels.ensures c.four_at-rate.ensures c.is_samples.ensures) ∙ c.if-not-shape.true))

pub returns-else-not-shape : goal.returns-else-not-shape
unfolding handed
returns-else-not-shape c =
    rw (not_refused c.args.bytes.now c.if-bytes-lt16.false (sym (kind_is c.args.bytes.now c.two_at-tag.ensures c.two_at-later.ensures c.two_at-bits.ensures) ∙ c.if-not-kind.false) (sym (together_is c.args.bytes.now c.two_at-channels.ensures c.two_at-group.ensures) ∙ eq-eqb _ _ c.if-not-together.false) (sym (shape_is c.args.bytes.now c.two_at-channels.ensures c.four_at-rate.ensures c.is_samples.ensures) ∙ c.if-not-shape.false))
