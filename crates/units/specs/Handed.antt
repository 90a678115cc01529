-- What a call hands back, by its reply's number. Definitions only.
use Rattle.std.specs.Prelude.{cond, ℕ, eqb, Result, Ok, Err}
use Rattle.units.specs.Replies.{done, bad_shape, bad_figure, bad_sample, bad_setting, cut, bad_length, bad_version, no_room, unsaid}
use Rattle.units.specs.declared.refusals.Refusal.{Refusal}
use Rattle.units.specs.declared.refusals.Refusal.TheVariants as R

-- the number of each refusal
unfoldable pub number_of : Refusal → ℕ
number_of R.Shape = bad_shape
number_of R.Figure = bad_figure
number_of R.Sample = bad_sample
number_of R.Setting = bad_setting
number_of R.Cut = cut
number_of R.Length = bad_length
number_of R.Version = bad_version
number_of R.Room = no_room
number_of R.Unsaid = unsaid

-- the refusal of a number: it is used of the numbers 1 to 9 alone
unfoldable pub refusal_of : ℕ → Refusal
refusal_of n =
    cond (eqb n bad_shape) R.Shape (cond (eqb n bad_figure) R.Figure (cond (eqb n bad_sample) R.Sample (cond (eqb n bad_setting) R.Setting
    (cond (eqb n cut) R.Cut (cond (eqb n bad_length) R.Length (cond (eqb n bad_version) R.Version (cond (eqb n no_room) R.Room R.Unsaid)))))))

-- what a call hands back: what it made, where its reply is 0, and otherwise the refusal of that number
unfoldable pub handed : {A : Type 0} → ℕ → A → Result A Refusal
unfolding refusal_of
handed reply made = cond (eqb reply done) (Ok made) (Err (refusal_of reply))
