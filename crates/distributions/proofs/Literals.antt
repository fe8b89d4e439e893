-- The limits that the definitions name are the numbers written in the code, computed.
use mathlib.Core.Path.{◌≡◌, refl}
use lib.Ieee.{Float, binary64, of_bits, of_int}
use Rattle.constants.specs.declared.SamplesPerPulse.{SamplesPerPulse}
use Rattle.constants.specs.declared.SamplesPerPulse.TheVariants.{Four, Eight}
use Rattle.constants.specs.Setting.{per_pulse}
use Rattle.distributions.specs.Accepted.{offset_limit, tenth}

-- 4,000,000 at 4 samples per pulse, 8,000,000 at 8
abbrev pub offset_literal : SamplesPerPulse → Float
offset_literal Four = of_bits binary64 0x414e_8480_0000_0000
offset_literal Eight = of_bits binary64 0x415e_8480_0000_0000

pub offset_limit_is : (s : SamplesPerPulse) → offset_limit (per_pulse s) ≡ offset_literal s
unfolding offset_limit of_int of_bits
offset_limit_is Four = refl
offset_limit_is Eight = refl

pub tenth_is : tenth ≡ of_bits binary64 0x3fb9_9999_9999_999a
unfolding tenth
tenth_is = refl
