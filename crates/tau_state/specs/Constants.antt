-- The constants of the block, by their bits, and the smoothing that many steps share.
use Rattle.std.specs.Prelude.{Float}
use Rattle.std.specs.Float.{binary32, binary64}
use Rattle.std.specs.Float.Ieee.{add, sub, mul, of_bits}

abbrev pub zero32 : Float
zero32 = of_bits binary32 0

abbrev pub zero64 : Float
zero64 = of_bits binary64 0

abbrev pub one : Float
one = of_bits binary64 0x3ff0_0000_0000_0000

abbrev pub f1em4 : Float
f1em4 = of_bits binary64 0x3f1a_36e2_eb1c_432d

abbrev pub f0·0003 : Float
f0·0003 = of_bits binary64 0x3f33_a92a_3055_3261

abbrev pub f0·001 : Float
f0·001 = of_bits binary64 0x3f50_624d_d2f1_a9fc

abbrev pub f0·01 : Float
f0·01 = of_bits binary64 0x3f84_7ae1_47ae_147b

abbrev pub f0·02 : Float
f0·02 = of_bits binary64 0x3f94_7ae1_47ae_147b

abbrev pub f0·1 : Float
f0·1 = of_bits binary64 0x3fb9_9999_9999_999a

abbrev pub f0·2 : Float
f0·2 = of_bits binary64 0x3fc9_9999_9999_999a

abbrev pub f0·5 : Float
f0·5 = of_bits binary64 0x3fe0_0000_0000_0000

abbrev pub f0·7 : Float
f0·7 = of_bits binary64 0x3fe6_6666_6666_6666

abbrev pub f0·75 : Float
f0·75 = of_bits binary64 0x3fe8_0000_0000_0000

abbrev pub f0·8 : Float
f0·8 = of_bits binary64 0x3fe9_9999_9999_999a

abbrev pub f0·9 : Float
f0·9 = of_bits binary64 0x3fec_cccc_cccc_cccd

abbrev pub f0·98 : Float
f0·98 = of_bits binary64 0x3fef_5c28_f5c2_8f5c

abbrev pub f0·99 : Float
f0·99 = of_bits binary64 0x3fef_ae14_7ae1_47ae

abbrev pub f0·999 : Float
f0·999 = of_bits binary64 0x3fef_f7ce_d916_872b

abbrev pub f1·05 : Float
f1·05 = of_bits binary64 0x3ff0_cccc_cccc_cccd

abbrev pub f3 : Float
f3 = of_bits binary64 0x4008_0000_0000_0000

abbrev pub f4 : Float
f4 = of_bits binary64 0x4010_0000_0000_0000

-- a * old + (1 - a) * new: 1 - a is a subtraction, and no decimal of its own
unfoldable pub smooth_by : Float → Float → Float → Float
smooth_by a old new = add binary64 (mul binary64 a old) (mul binary64 (sub binary64 one a) new)
