-- `mode_s_pulses` meets its contract: at every step, marking what is left gives what marking all gives.
use mathlib.Core.Path.{sym, ap, ◌∙◌}
use Prim.Native.Nat.{ℕ, ◌+◌, ◌-◌, ◌*◌}
use mathlib.Core.Bool.{true}
use lib.ListN.{set, length-set}
use Rattle.pulse_map.specs.ModeS.{bit_of, pair_position, bit_positions, mode_s_length}
use Rattle.pulse_map.proofs.Marked.{mark}
use Rattle.pulse_map.proofs.ModeSLoop.{pair_position_lem, turn, end, preambled, whole}
use borrow.Author.Rules.{rules}
use Rattle.pulse_map.proofs.mode_s_pulses.Goals as goal

pub loop-n-preserved : goal.loop-n-preserved
unfolding bit_of
loop-n-preserved c =
    let l = c.loop-n in
    let bytes = c.args.bytes in
    let bits = c.num_bits-bits.result in (
      length-set l.on _ true ∙ l.invariant.0,
      ap (λ (p : ℕ). mark (bit_positions bytes (bits - (l.n + 1)) (l.n + 1)) (set l.on p true)) (sym (pair_position_lem l.n c.bit-second.result (search rules)) ∙ ap (pair_position l.n) c.bit-second.ensures.0)
          ∙ turn bytes bits l.n l.on c.loop-n-test.true
          ∙ l.invariant.1,
    )

pub returns : goal.returns
unfolding mode_s_length
returns c =
    let l = c.loop-n in
    let a = c.args in
    let bits = c.num_bits-bits.result in
    whole a.bytes a.long l.on _
    (sym (end a.bytes bits l.n l.on c.loop-n-test.false) ∙ l.invariant.1 ∙ ap (λ (n : ℕ). mark (bit_positions a.bytes n 0) preambled) c.num_bits-bits.ensures.0)
    (ap (λ (n : ℕ). 16 + 2 * n) c.num_bits-bits.ensures.0)
