-- A message's configuration, five floats with its reply: what follows from it, given the delays of the filters (SPECIFICATION 5.5, 6.4, 6.5, 6.10).
use Rattle.std.specs.Prelude.{ℕ, ℤ, Float}
use Rattle.message_config.specs.declared.Delays.{Delays}
use Rattle.message_config.specs.declared.MessageConfig.{MessageConfig}
use Rattle.message_config.specs.declared.Onset.{Onset}
use Rattle.message_config.specs.Timing.{delay_of, start_of, filter_clock_error, clock_phase}
use Rattle.message_config.specs.Carrier.{carrier_rate, first_phase}

abbrev pub config_delay : Delays → MessageConfig → Float
config_delay delays c = delay_of delays c.reply.kind

-- the first sample
unfoldable pub config_start : Delays → MessageConfig → ℤ
config_start delays c = start_of c.time (config_delay delays c) c.error

unfoldable pub config_clock_error : MessageConfig → Float
config_clock_error c = filter_clock_error c.reply.kind c.error

unfoldable pub config_clock_phase : Delays → MessageConfig → Float
config_clock_phase delays c = clock_phase c.time (config_delay delays c) c.error (config_clock_error c)

unfoldable pub config_rate : ℕ → MessageConfig → Float
config_rate sps c = carrier_rate sps c.offset

unfoldable pub config_phase : ℕ → Delays → MessageConfig → Float
config_phase sps delays c = first_phase c.phase c.time (config_start delays c) (config_rate sps c)

-- how its samples begin
unfoldable pub onset_of : ℕ → Delays → MessageConfig → Onset
onset_of sps delays c = record {
  clock_error = config_clock_error c;
  clock_phase = config_clock_phase delays c;
  carrier_rate = config_rate sps c;
  carrier_phase = config_phase sps delays c;
}
