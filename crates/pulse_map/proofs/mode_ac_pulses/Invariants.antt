-- `mode_ac_pulses` meets its contract: at every step, marking what is left gives what marking all gives.
use mathlib.Core.Path.{◌≡◌}
use Prim.Native.Nat.{◌-◌}
use lib.ListN.{length}
use Rattle.pulse_map.specs.ModeAC.{data_positions}
use Rattle.pulse_map.proofs.Marked.{mark}
use Rattle.pulse_map.proofs.ModeACLoop.{framed}
use Rattle.pulse_map.proofs.mode_ac_pulses.Given as goal

abbrev pub invariant-loop-n : goal.invariant-loop-n
invariant-loop-n l = (length l.on ≡ 240) × (mark (data_positions l.«data» (12 - l.n) l.n) l.on ≡ mark (data_positions l.«data» 12 0) framed)
