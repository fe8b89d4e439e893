-- A Mode A/C reply that was made from a draw's data and SPI has their pulses: the two bytes hold both.
use Prim.Native.Nat.{ℕ, ◌+◌, ◌*◌, ◌/◌, ◌%◌, ◌<◌}
use native.Mathlib.Omega.{arith}
use mathlib.Core.Path.{◌≡◌, ap, ◌∙◌}
use lib.Dec.{eqb}
use Rattle.message.specs.declared.Picks.{Picks}
use Rattle.message.specs.declared.MessageType.TheVariants.{ModeAc}
use Rattle.message.specs.Making.{message_bytes, kind_of, filled, reply_of}
use Rattle.pulse_map.specs.ModeAC.{mode_ac_pulses}
use Rattle.reply_pulses.specs.ReplyPulses.{data_of, spi_of, pulses_of}

data_held : (d s : ℕ) → d < 4096 → s < 2 → d % 256 + (d / 256 + 16 * s) % 16 * 256 ≡ d
data_held d s h k = omega arith

spi_held : (d s : ℕ) → d < 4096 → s < 2 → (d / 256 + 16 * s) / 16 % 2 ≡ s
spi_held d s h k = omega arith

pub made_data : (p : Picks) → p.«data» < 4096 → p.spi < 2 → data_of (reply_of ModeAc p).bytes ≡ p.«data»
unfolding data_of reply_of filled message_bytes
made_data p h k = data_held p.«data» p.spi h k

pub made_spi : (p : Picks) → p.«data» < 4096 → p.spi < 2 → spi_of (reply_of ModeAc p).bytes ≡ eqb p.spi 1
unfolding spi_of reply_of filled message_bytes
made_spi p h k = ap (λ (n : ℕ). eqb n 1) (spi_held p.«data» p.spi h k)

pub made_pulses : (p : Picks) → p.«data» < 4096 → p.spi < 2 → pulses_of (reply_of ModeAc p) ≡ mode_ac_pulses p.«data» (eqb p.spi 1)
unfolding pulses_of reply_of kind_of
made_pulses p h k = ap (λ (d : ℕ). mode_ac_pulses d (spi_of (reply_of ModeAc p).bytes)) (made_data p h k) ∙ ap (mode_ac_pulses p.«data») (made_spi p h k)
