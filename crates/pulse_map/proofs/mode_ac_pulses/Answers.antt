-- `mode_ac_pulses` meets its contract: at every step, marking what is left gives what marking all gives.
use mathlib.Core.Path.{sym, ap, ◌∙◌}
use mathlib.Core.Bool.{Bool, true}
use mathlib.Core.List.{List}
use Prim.Native.Nat.{ℕ, ◌+◌, ◌-◌}
use lib.ListN.{length, set, length-set}
use Rattle.mode_ac.proofs.RisingPositions.{position_below}
use Rattle.pulse_map.specs.ModeAC.{data_positions}
use Rattle.pulse_map.proofs.Marked.{mark}
use Rattle.pulse_map.proofs.ModeACLoop.{step_set, step_clear, end, whole_spi, whole}
use native.Mathlib.Omega.{arith}
use Rattle.pulse_map.proofs.mode_ac_pulses.Goals as goal
use Rattle.pulse_map.proofs.mode_ac_pulses.Goals.{then-bit_of, else-bit_of}

pub bounds-on-position_of : goal.bounds-on-position_of
bounds-on-position_of c = omega (arith, position_below c.loop-n.n c.loop-n-test.true)

pub loop-n-preserved : goal.loop-n-preserved
loop-n-preserved c =
    let l = c.loop-n in
    let d = c.args.«data» in
    let h = c.loop-n-test.true in
    let left : List Bool → List Bool = mark (data_positions d (12 - (l.n + 1)) (l.n + 1)) in (
      elim c.if-bit_of.branch [
        | then-bit_of w ↦ ap length w.on-is ∙ length-set l.on w.position_of.result true ∙ l.invariant.0
        | else-bit_of w ↦ ap length w.on-is ∙ l.invariant.0
      ],
      elim c.if-bit_of.branch [
        | then-bit_of w ↦ ap left (w.on-is ∙ ap (λ (p : ℕ). set l.on p true) w.position_of.ensures) ∙ step_set d l.n l.on h (sym c.bit_of.ensures ∙ w.if-bit_of.true) ∙ l.invariant.1
        | else-bit_of w ↦ ap left w.on-is ∙ step_clear d l.n l.on h (sym c.bit_of.ensures ∙ w.if-bit_of.false) ∙ l.invariant.1
      ],
    )

pub returns-then-spi : goal.returns-then-spi
returns-then-spi c =
    let l = c.loop-n in
    let a = c.args in
    whole_spi a.«data» a.spi l.on (sym (end a.«data» l.n l.on c.loop-n-test.false) ∙ l.invariant.1) c.if-spi.true

pub returns : goal.returns
returns c =
    let l = c.loop-n in
    let a = c.args in
    whole a.«data» a.spi l.on (sym (end a.«data» l.n l.on c.loop-n-test.false) ∙ l.invariant.1) c.if-spi.false
