-- Document 01's table of figures, a line of it for each definition. A negative zero is allowed in a figure.
-- Definitions only.
use Rattle.std.specs.Prelude.{Bool, ◌&&◌, Float}
use Rattle.std.specs.Float.{binary32}
use Rattle.std.specs.Float.Ieee.{of_bits}
use Rattle.units.specs.Ranges.{closed, inside, above}
use Rattle.units.specs.declared.figures.Figures.{Figures}

-- "probability: 0 to 1"
abbrev pub probability : Float → Bool
probability x = closed (of_bits binary32 0x0000_0000) x (of_bits binary32 0x3f80_0000)

-- "rms: above -150, below 50"
abbrev pub rms : Float → Bool
rms x = inside (of_bits binary32 0xc316_0000) x (of_bits binary32 0x4248_0000)

-- "peak, noise, speech level: -150 to 50"
abbrev pub level : Float → Bool
level x = closed (of_bits binary32 0xc316_0000) x (of_bits binary32 0x4248_0000)

-- "limiter envelope (dBFS): -150 to 100"
abbrev pub envelope : Float → Bool
envelope x = closed (of_bits binary32 0xc316_0000) x (of_bits binary32 0x42c8_0000)

-- "headroom, initial headroom: above 0, to 100"
abbrev pub headroom : Float → Bool
headroom x = above (of_bits binary32 0x0000_0000) x (of_bits binary32 0x42c8_0000)

-- "curve level: 0 to 33554432"
abbrev pub curve_level : Float → Bool
curve_level x = closed (of_bits binary32 0x0000_0000) x (of_bits binary32 0x4c00_0000)

-- "gain factor: above 0, below 512"
abbrev pub gain_factor : Float → Bool
gain_factor x = inside (of_bits binary32 0x0000_0000) x (of_bits binary32 0x4400_0000)

-- "gain in dB to be made a ratio: 0 to 51"
abbrev pub gain : Float → Bool
gain x = closed (of_bits binary32 0x0000_0000) x (of_bits binary32 0x424c_0000)

-- a frame's figures are in their ranges
unfoldable pub accepted : Figures → Bool
accepted f = probability f.probability && rms f.rms.0 && level f.peak.0 && level f.noise.0 && envelope f.envelope.0
