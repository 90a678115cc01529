-- `units::settings::Settings::accepted` meets its contract: each test is its definition, and `&` groups as one likes. Assumes nothing.
use mathlib.Core.Bool.{Bool, ◌&&◌, and_assoc}
use mathlib.Core.Path.{◌≡◌, refl}
use lib.Ieee.{Float, neg, of_bits, binary32, lt, le}
use Rattle.units.specs.Settings.{setting, accepted}
use Rattle.units.specs.declared.settings.Settings.{Settings}
use Rattle.units.proofs.settings.Settings.accepted.Goals as goal

-- the code's -90 is the definition's
minus-ninety : neg (of_bits binary32 0x42b4_0000) ≡ of_bits binary32 0xc2b4_0000
unfolding neg of_bits
minus-ninety = refl

-- the definition, with what the calls gave
all-five : (s : Settings) (a b c d : Bool) (low : Float) → low ≡ of_bits binary32 0xc2b4_0000
    → a ≡ setting (of_bits binary32 0x0000_0000) s.headroom.0 (of_bits binary32 0x4248_0000)
    → b ≡ setting (of_bits binary32 0x0000_0000) s.initial.0 (of_bits binary32 0x4248_0000)
    → c ≡ setting (of_bits binary32 0x3c23_d70a) s.change (of_bits binary32 0x42c8_0000)
    → d ≡ setting low s.noise.0 (of_bits binary32 0x0000_0000)
    → a && lt (of_bits binary32 0x0000_0000) s.largest.0 && le s.largest.0 (of_bits binary32 0x4248_0000) && b && c && d ≡ accepted s
unfolding accepted
all-five s a b c d low e h i g n =
    rw (and_assoc a (lt (of_bits binary32 0x0000_0000) s.largest.0) (le s.largest.0 (of_bits binary32 0x4248_0000)), h, i, g, n, e)

pub returns : goal.returns
returns c =
    all-five _ _ _ _ _ _ minus-ninety c.is_setting.ensures c.is_setting-2.ensures c.is_setting-3.ensures
    c.is_setting-4.ensures
