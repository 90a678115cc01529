-- Document 01's "Decibels to ratio". Definitions only.
use Rattle.std.specs.Prelude.{ℕ, ◌*◌, ◌/◌, ◌%◌, cond, List, [], ◌∷◌, map, pos, from_bits, slice_index_or, Float}
use Rattle.std.specs.Float.{nan, binary32}
use Rattle.std.specs.Float.Ieee.{add, sub, mul, of_int}
use Rattle.std.specs.Float.Ieee.Positive.{num, den}
use Rattle.units.specs.Figures.{gain}
use Rattle.units.specs.Replies.{done, bad_figure}

-- "A (n 0 to 51) and B (k 0 to 15) hold the f32 nearest to 10^(n/20) and 10^(k/320)": their bits
unfoldable pub whole_bits : List ℕ
whole_bits =
    0x3f80_0000 ∷ 0x3f8f_9e4d ∷ 0x3fa1_2478 ∷ 0x3fb4_ce08 ∷ 0x3fca_ddc8 ∷ 0x3fe3_9ea9 ∷ 0x3fff_64c1 ∷ 0x400f_4735 ∷
    0x4020_c2bf ∷ 0x4034_6063 ∷ 0x404a_62c2 ∷ 0x4063_14a0 ∷ 0x407e_c9e1 ∷ 0x408e_f052 ∷ 0x40a0_6142 ∷ 0x40b3_f300 ∷
    0x40c9_e807 ∷ 0x40e2_8aeb ∷ 0x40fe_2f5e ∷ 0x410e_99a3 ∷ 0x4120_0000 ∷ 0x4133_85e0 ∷ 0x4149_6d96 ∷ 0x4162_018a ∷
    0x417d_953a ∷ 0x418e_432a ∷ 0x419f_9ef9 ∷ 0x41b3_1902 ∷ 0x41c8_f36f ∷ 0x41e1_787c ∷ 0x41fc_fb72 ∷ 0x420d_ece4 ∷
    0x421f_3e2d ∷ 0x4232_ac66 ∷ 0x4248_7993 ∷ 0x4260_efc0 ∷ 0x427c_6208 ∷ 0x428d_96d3 ∷ 0x429e_dd9b ∷ 0x42b2_400c ∷
    0x42c8_0000 ∷ 0x42e0_6758 ∷ 0x42fb_c8fb ∷ 0x430d_40f6 ∷ 0x431e_7d44 ∷ 0x4331_d3f4 ∷ 0x4347_86b7 ∷ 0x435f_df43 ∷
    0x437b_304b ∷ 0x438c_eb4d ∷ 0x439e_1d27 ∷ 0x43b1_681d ∷ []

unfoldable pub sixteenth_bits : List ℕ
sixteenth_bits =
    0x3f80_0000 ∷ 0x3f80_eca3 ∷ 0x3f81_dafb ∷ 0x3f82_cb0b ∷ 0x3f83_bcd8 ∷ 0x3f84_b063 ∷ 0x3f85_a5b1 ∷ 0x3f86_9cc4 ∷
    0x3f87_95a0 ∷ 0x3f88_9048 ∷ 0x3f89_8cc0 ∷ 0x3f8a_8b0a ∷ 0x3f8b_8b2a ∷ 0x3f8c_8d24 ∷ 0x3f8d_90fb ∷ 0x3f8e_96b2 ∷ []

unfoldable pub A : ℕ → Float
unfolding whole_bits
A n = slice_index_or (map (from_bits binary32) whole_bits) n nan

unfoldable pub B : ℕ → Float
unfolding sixteenth_bits
B k = slice_index_or (map (from_bits binary32) sixteenth_bits) k nan

-- "x = n + k/16 + f with whole n, whole k below 16": j = 16n + k, the whole sixteenths in x, which is the fraction num x / den x
unfoldable pub steps : Float → ℕ
steps x = num x * 16 / den x

-- "and f below 1/16": what is left of x. `Split` shows that nothing is rounded
unfoldable pub rest : Float → Float
unfolding steps
rest x = sub binary32 x (mul binary32 (of_int binary32 (pos (steps x))) (from_bits binary32 0x3d80_0000))

-- "The ratio is (A[n]*B[k])*(1+f*0.11512925), each operation rounded"
unfoldable pub ratio_of : Float → Float
unfolding A B steps rest
ratio_of x =
    mul binary32
    (mul binary32 (A (steps x / 16)) (B (steps x % 16)))
    (add binary32 (from_bits binary32 0x3f80_0000) (mul binary32 (rest x) (from_bits binary32 0x3deb_c8e2)))

-- a reply's number, and the ratio: 0 where it is refused
pub record Answer : Type 0 where
  pub reply : ℕ
  pub ratio : Float

-- "gain in dB to be made a ratio: 0 to 51", and reply 2 outside
unfoldable pub answer : Float → Answer
unfolding ratio_of
answer x =
    cond (gain x)
    (record { reply = done; ratio = ratio_of x })
    (record { reply = bad_figure; ratio = from_bits binary32 0x0000_0000 })
