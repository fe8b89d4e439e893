-- The pulses of a reply by its kind: `message_to_pulses` of the Rust.
use Rattle.std.specs.Prelude.{ℕ, ◌+◌, ◌*◌, ◌/◌, ◌%◌, Bool, true, false, List, eqb, get_or, take}
use Rattle.message.specs.declared.Reply.{Reply}
use Rattle.message.specs.declared.ReplyKind.{ReplyKind}
use Rattle.message.specs.declared.ReplyKind.TheVariants.{Short, Long, ModeAc}
use Rattle.pulse_map.specs.declared.Pulses.{Pulses}
use Rattle.pulse_map.specs.ModeS.{mode_s_pulses}
use Rattle.pulse_map.specs.ModeAC.{mode_ac_pulses}
use Rattle.pulse_map.specs.Length.{mode_s_num_samples, mode_ac_num_samples}

-- Mode A/C is 2 bytes (SPECIFICATION 7.3): low first, SPI as bit 12
unfoldable pub data_of : List ℕ → ℕ
data_of bytes = get_or bytes 0 0 + get_or bytes 1 0 % 16 * 256

unfoldable pub spi_of : List ℕ → Bool
spi_of bytes = eqb (get_or bytes 1 0 / 16 % 2) 1

abbrev pub pulses_of_kind : ReplyKind → List ℕ → Pulses
pulses_of_kind Short bytes = mode_s_pulses bytes false
pulses_of_kind Long bytes = mode_s_pulses bytes true
pulses_of_kind ModeAc bytes = mode_ac_pulses (data_of bytes) (spi_of bytes)

unfoldable pub pulses_of : Reply → Pulses
pulses_of r = pulses_of_kind r.kind r.bytes

-- the positions that a reply takes, and whether a pulse stands at each
unfoldable pub positions_of : Reply → List Bool
positions_of r = take (pulses_of r).len (pulses_of r).on

-- `message_num_samples`: the samples that a reply lasts at the nominal clock rate
abbrev pub num_samples_of_kind : ℕ → ReplyKind → List ℕ → ℕ
num_samples_of_kind sps Short bytes = mode_s_num_samples sps false
num_samples_of_kind sps Long bytes = mode_s_num_samples sps true
num_samples_of_kind sps ModeAc bytes = mode_ac_num_samples sps (spi_of bytes)

unfoldable pub num_samples_of : ℕ → Reply → ℕ
num_samples_of sps r = num_samples_of_kind sps r.kind r.bytes
