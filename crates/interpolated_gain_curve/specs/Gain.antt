-- The curve itself: the gain, the region and the piece of a level. Definitions only.
use Rattle.std.specs.Prelude.{ℕ, suc, cond, List, [], ◌∷◌, map, from_bits, slice_index_or, Float}
use Rattle.std.specs.Float.{nan, binary32}
use Rattle.std.specs.Float.Ieee.{add, mul, div, lt, le}

-- "The three tables are copied from source document 000": their bits
unfoldable pub knot_bits : List ℕ
knot_bits =
    0x46ea_d298 ∷ 0x46eb_89f9 ∷ 0x46ec_415a ∷ 0x46ed_b01b ∷ 0x46ef_1edc ∷ 0x46f0_8d9d ∷ 0x46f1_fc5e ∷ 0x46f3_6b1f ∷
    0x46f4_d9e1 ∷ 0x46f6_48a2 ∷ 0x46f7_b763 ∷ 0x46f9_2624 ∷ 0x46fa_94e5 ∷ 0x46fc_03a6 ∷ 0x46fd_7267 ∷ 0x46fe_e129 ∷
    0x4700_27f5 ∷ 0x4700_df55 ∷ 0x4701_96b6 ∷ 0x4702_4e17 ∷ 0x4703_0577 ∷ 0x4703_bcd8 ∷ 0x4704_1b89 ∷ 0x4704_d98a ∷
    0x4705_980f ∷ 0x4706_55d1 ∷ 0x4707_727d ∷ 0x4708_ee60 ∷ 0x470a_6add ∷ 0x470b_e6d1 ∷ 0x470d_632b ∷ 0x470e_df08 ∷ []

unfoldable pub slope_bits : List ℕ
slope_bits =
    0xb4bc_b908 ∷ 0xb58c_f65f ∷ 0xb60b_efb3 ∷ 0xb667_0e5f ∷ 0xb6a0_2f0e ∷ 0xb6cb_ec43 ∷ 0xb6f6_bc01 ∷ 0xb710_4df5 ∷
    0xb724_c4ee ∷ 0xb738_c20b ∷ 0xb74c_44a1 ∷ 0xb75f_4c2a ∷ 0xb771_d847 ∷ 0xb781_f45f ∷ 0xb78a_bec0 ∷ 0xb793_4b4c ∷
    0xb79b_9a12 ∷ 0xb7a3_ab45 ∷ 0xb7ab_7f1d ∷ 0xb7b3_15d4 ∷ 0xb7ba_6fc2 ∷ 0xb7be_088d ∷ 0xb7bc_1ed8 ∷ 0xb7ba_3cc2 ∷
    0xb7b8_6224 ∷ 0xb7b6_8ed5 ∷ 0xb7b2_fd8a ∷ 0xb7af_87b5 ∷ 0xb7ac_2c3c ∷ 0xb7a8_ea10 ∷ 0xb7a5_c032 ∷ 0xb7a2_adad ∷ []

unfoldable pub intercept_bits : List ℕ
intercept_bits =
    0x3f81_5a39 ∷ 0x3f84_0c83 ∷ 0x3f88_0e15 ∷ 0x3f8d_57b6 ∷ 0x3f92_8e7a ∷ 0x3f97_b1ac ∷ 0x3f9c_c0a5 ∷ 0x3fa1_bac7 ∷
    0x3fa6_9f7b ∷ 0x3fab_6e34 ∷ 0x3fb0_2672 ∷ 0x3fb4_c7bd ∷ 0x3fb9_51a4 ∷ 0x3fbd_c3c2 ∷ 0x3fc2_1dba ∷ 0x3fc6_5f36 ∷
    0x3fca_87e5 ∷ 0x3fce_9788 ∷ 0x3fd2_8de3 ∷ 0x3fd6_6abd ∷ 0x3fda_2dea ∷ 0x3fdc_07c1 ∷ 0x3fdb_0b0b ∷ 0x3fda_10de ∷
    0x3fd9_1930 ∷ 0x3fd8_23f8 ∷ 0x3fd6_40c1 ∷ 0x3fd4_66ef ∷ 0x3fd2_9639 ∷ 0x3fd0_ce5b ∷ 0x3fcf_0f12 ∷ 0x3fcd_581f ∷ []

unfoldable pub knots : List Float
unfolding knot_bits
knots = map (from_bits binary32) knot_bits

unfoldable pub slopes : List Float
unfolding slope_bits
slopes = map (from_bits binary32) slope_bits

unfoldable pub intercepts : List Float
unfolding intercept_bits
intercepts = map (from_bits binary32) intercept_bits

-- 30057.297, the first knot; 33724.844, knot 21; and 36766.3
abbrev pub first_knot : Float
first_knot = from_bits binary32 0x46ea_d298

abbrev pub knee_end : Float
knee_end = from_bits binary32 0x4703_bcd8

abbrev pub largest_level : Float
largest_level = from_bits binary32 0x470f_9e4d

-- ---- the regions, by number
abbrev pub identity : ℕ
identity = 0

abbrev pub knee : ℕ
knee = 1

abbrev pub limiter : ℕ
limiter = 2

abbrev pub saturation : ℕ
saturation = 3

-- "Regions count by strict comparison: identity below 30057.297, knee below knot 21 (33724.844), limiter below 36766.3, else saturation."
unfoldable pub region_of : Float → ℕ
region_of level = cond (lt level first_knot) identity (cond (lt level knee_end) knee (cond (lt level largest_level) limiter saturation))

-- ---- the piece
-- the last of the places, counted from i, whose number is strictly below the level; `best` where there is none
unfoldable pub last_below : Float → ℕ → ℕ → List Float → ℕ
last_below level i best [] = best
last_below level i best (x ∷ xs) = last_below level (suc i) (cond (lt x level) i best) xs

-- "piece i, the largest i whose knot is strictly below the level"
unfoldable pub piece_of : Float → ℕ
unfolding knots last_below
piece_of level = last_below level 0 0 knots

-- ---- the gain
-- "Else piece i .. gives m*level+q, each operation rounded"
unfoldable pub on_piece : ℕ → Float → Float
unfolding slopes intercepts
on_piece i level = add binary32 (mul binary32 (slice_index_or slopes i nan) level) (slice_index_or intercepts i nan)

-- "At or below 30057.297 the gain is 1. At or above 36766.3 it is 32768/level."
unfoldable pub gain_of : Float → Float
unfolding on_piece piece_of
gain_of level =
    cond (le level first_knot) (from_bits binary32 0x3f80_0000)
    (cond (le largest_level level) (div binary32 (from_bits binary32 0x4700_0000) level) (on_piece (piece_of level) level))
