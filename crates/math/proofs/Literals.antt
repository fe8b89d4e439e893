-- Each number that the definitions name is the one written in the code, computed.
use Rattle.std.proofs.Common.{◌≡◌, refl}
use lib.Ieee.{binary64, of_bits, mul, div, neg, round}
use Rattle.math.specs.Phase.{pi, two_pi}
use Rattle.math.specs.Carrier.{half_pi, outer_limit, inner_limit, odd, factorial, sine_coefficient, cosine_coefficient}

pub pi_is : pi ≡ of_bits binary64 0x4009_21fb_5444_2d18
unfolding pi
pi_is = refl

pub two_pi_is : two_pi ≡ mul binary64 (of_bits binary64 0x4000_0000_0000_0000) pi
unfolding two_pi pi of_bits mul
two_pi_is = refl

pub half_pi_is : half_pi ≡ of_bits binary64 0x3ff9_21fb_5444_2d18
unfolding half_pi pi of_bits div
half_pi_is = refl

pub outer_limit_is : outer_limit ≡ of_bits binary64 0x4002_d97c_7f33_21d2
unfolding outer_limit half_pi pi of_bits mul div
outer_limit_is = refl

pub inner_limit_is : inner_limit ≡ of_bits binary64 0x3fe9_21fb_5444_2d18
unfolding inner_limit half_pi pi of_bits mul div
inner_limit_is = refl

pub sine_0 : sine_coefficient 0 ≡ of_bits binary64 0x3ff0_0000_0000_0000
unfolding sine_coefficient odd factorial round of_bits neg
sine_0 = refl

pub sine_1 : sine_coefficient 1 ≡ neg (of_bits binary64 0x3fc5_5555_5555_5555)
unfolding sine_coefficient odd factorial round of_bits neg
sine_1 = refl

pub sine_2 : sine_coefficient 2 ≡ of_bits binary64 0x3f81_1111_1111_1111
unfolding sine_coefficient odd factorial round of_bits neg
sine_2 = refl

pub sine_3 : sine_coefficient 3 ≡ neg (of_bits binary64 0x3f2a_01a0_1a01_a01a)
unfolding sine_coefficient odd factorial round of_bits neg
sine_3 = refl

pub sine_4 : sine_coefficient 4 ≡ of_bits binary64 0x3ec7_1de3_a556_c734
unfolding sine_coefficient odd factorial round of_bits neg
sine_4 = refl

pub sine_5 : sine_coefficient 5 ≡ neg (of_bits binary64 0x3e5a_e645_67f5_44e4)
unfolding sine_coefficient odd factorial round of_bits neg
sine_5 = refl

pub sine_6 : sine_coefficient 6 ≡ of_bits binary64 0x3de6_1246_13a8_6d09
unfolding sine_coefficient odd factorial round of_bits neg
sine_6 = refl

pub cosine_0 : cosine_coefficient 0 ≡ of_bits binary64 0x3ff0_0000_0000_0000
unfolding cosine_coefficient odd factorial round of_bits neg
cosine_0 = refl

pub cosine_1 : cosine_coefficient 1 ≡ neg (of_bits binary64 0x3fe0_0000_0000_0000)
unfolding cosine_coefficient odd factorial round of_bits neg
cosine_1 = refl

pub cosine_2 : cosine_coefficient 2 ≡ of_bits binary64 0x3fa5_5555_5555_5555
unfolding cosine_coefficient odd factorial round of_bits neg
cosine_2 = refl

pub cosine_3 : cosine_coefficient 3 ≡ neg (of_bits binary64 0x3f56_c16c_16c1_6c17)
unfolding cosine_coefficient odd factorial round of_bits neg
cosine_3 = refl

pub cosine_4 : cosine_coefficient 4 ≡ of_bits binary64 0x3efa_01a0_1a01_a01a
unfolding cosine_coefficient odd factorial round of_bits neg
cosine_4 = refl

pub cosine_5 : cosine_coefficient 5 ≡ neg (of_bits binary64 0x3e92_7e4f_b778_9f5c)
unfolding cosine_coefficient odd factorial round of_bits neg
cosine_5 = refl

pub cosine_6 : cosine_coefficient 6 ≡ of_bits binary64 0x3e21_eed8_eff8_d898
unfolding cosine_coefficient odd factorial round of_bits neg
cosine_6 = refl

pub cosine_7 : cosine_coefficient 7 ≡ neg (of_bits binary64 0x3da9_3974_a8c0_7c9d)
unfolding cosine_coefficient odd factorial round of_bits neg
cosine_7 = refl
