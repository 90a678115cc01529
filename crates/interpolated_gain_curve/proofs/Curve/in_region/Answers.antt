-- `interpolated_gain_curve::Curve::in_region` meets its contract: each field by its own rule. Assumes nothing.
use Rattle.std.proofs.Common.{◌≡◌, T, leb, w64, to_z, of_z, rules}
use lib.Ieee.Fits.{and_r}
use Rattle.interpolated_gain_curve.specs.Curve.{number_of, passes, not_negative, counted, in_region}
use Rattle.interpolated_gain_curve.specs.declared.Curve.{Curve as State}
use Rattle.interpolated_gain_curve.proofs.Curve.in_region.Goals as goal
use Rattle.interpolated_gain_curve.proofs.Curve.in_region.Goals.{in-Identity, in-Knee, in-Limiter, in-Saturation}

-- the state passes, so its duration is not negative
lasts : (s : State) → T (passes s) → T (not_negative s.duration)
unfolding passes
lasts s h = and_r (leb s.region 3) (not_negative s.duration) h

pub lasting-requires : goal.lasting-requires
lasting-requires c =
    let d = c.args.self.duration in
    let back : to_z w64 (of_z w64 d) ≡ d = search rules in
    rw back (lasts c.args.self c.requires)

pub returns : goal.returns
unfolding in_region counted number_of
returns c =
    let last = c.lasting.result in
    let d = c.args.self.duration in
    let back : to_z w64 (of_z w64 d) ≡ d = search rules in
    let out : to_z w64 (of_z w64 last) ≡ last = search rules in
    elim c.match-now.branch [
      | in-Identity w ↦ rw (w.next-is, out, c.lasting.ensures, back, w.in-Identity.is)
      | in-Knee w ↦ rw (w.next-is, out, c.lasting.ensures, back, w.in-Knee.is)
      | in-Limiter w ↦ rw (w.next-is, out, c.lasting.ensures, back, w.in-Limiter.is)
      | in-Saturation w ↦ rw (w.next-is, out, c.lasting.ensures, back, w.in-Saturation.is)
    ]
