-- `mode_s_pulses` meets its contract: at every step, marking what is left gives what marking all gives.
use mathlib.Core.Path.{◌≡◌}
use Prim.Native.Nat.{◌-◌}
use lib.ListN.{length}
use Rattle.pulse_map.specs.ModeS.{bit_positions}
use Rattle.pulse_map.proofs.Marked.{mark}
use Rattle.pulse_map.proofs.ModeSLoop.{preambled}
use Rattle.pulse_map.proofs.mode_s_pulses.Given as goal

abbrev pub invariant-loop-n : goal.invariant-loop-n
invariant-loop-n l =
    (length l.on ≡ 240) × (mark (bit_positions l.bytes (l.bits - l.n) l.n) l.on ≡ mark (bit_positions l.bytes l.bits 0) preambled)
