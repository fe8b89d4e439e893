-- `step` meets its contract: each arm by what its plan says.
use mathlib.Core.Path.{◌≡◌, ap, ◌∙◌}
use mathlib.Core.List.{List}
use Prim.Native.Nat.{ℕ, ◌-◌, ◌*◌}
use lib.Ieee.{Float}
use Rattle.constants.specs.Rate.{working_memory}
use Rattle.constants.specs.Setting.{per_pulse}
use Rattle.draw.specs.Draw.{draw_at}
use Rattle.draw.specs.Config.{time_after}
use Rattle.draw.specs.Pending.{pending_of}
use Rattle.message_config.specs.declared.MessageConfig.{MessageConfig}
use Rattle.run_call.specs.declared.State.{State}
use Rattle.run_steps.specs.declared.Progress.{Progress}
use Rattle.run_steps.specs.declared.Plan as Plan
use Rattle.run_steps.specs.declared.Room.{Room}
use Rattle.run_steps.specs.PlanModel.{plan_read, chosen}
use Rattle.run_call.specs.StepModel.{Inside}
use lib.ListN.{length}
use Rattle.run_call.proofs.Said.{Sized, Planned, untouched, wrote, added}
use native.Mathlib.Omega.{arith}
use Rattle.run_call.proofs.step.Goals as goal

-- a step with its plan
abbrev planned : (s : State) (mode_s mode_ac noise : List Float) (t : Progress) (memory : List Float) (rest : List ℕ) (output : List Float) (records : List ℕ) (last : MessageConfig) (room : Room) (plan : Plan.Plan)
    → length memory ≡ working_memory (per_pulse s.setting) → Inside t (length noise) (length output) (length records) → Sized s.total t.taken (length rest) (length output) (length records)
    → last ≡ pending_of s.distributions (time_after t.time (draw_at rest)) (draw_at rest)
    → room ≡ record { output = length output - 2 * t.samples; noise = length noise - 2 * t.samples; records = length records - 66 * t.records }
    → plan_read plan ≡ chosen s.setting t.ended t.written s.total s.delays last (length rest) room.output room.noise room.records → Planned
planned s mode_s mode_ac noise t memory rest output records last room plan m i z n left h = record {
  s = s;
  mode_s = mode_s;
  mode_ac = mode_ac;
  noise = noise;
  t = t;
  memory = memory;
  rest = rest;
  output = output;
  records = records;
  last = last;
  plan = plan;
  memory_is = m;
  inside = i;
  sized = z;
  next_is = n;
  chose = h ∙ ap (λ (r : Room). chosen s.setting t.ended t.written s.total s.delays last (length rest) r.output r.noise r.records) left;
}

pub returns-in-Halt : goal.returns-in-Halt
returns-in-Halt c =
    let a = c.args in
    let z : Sized a.s.total a.t.taken (length a.rest.now) (length a.output.now) (length a.records.now) = record { run_in = c.requires.3; draws_in_lem = c.requires.2; output_in = omega arith; records_in_lem = omega arith } in
    let p = planned a.s a.prototypes.mode_s.now a.prototypes.mode_ac.now a.noise.now a.t a.memory.now a.rest.now a.output.now a.records.now c.pending-last.result c.left-room.result c.next-p.result c.requires.0 c.requires.1 z c.pending-last.ensures c.left-room.ensures c.next-p.ensures in
    untouched p c.in-Halt.is _ c.after_step-r.ensures

pub returns-in-Drain : goal.returns-in-Drain
returns-in-Drain c =
    let a = c.args in
    let z : Sized a.s.total a.t.taken (length a.rest.now) (length a.output.now) (length a.records.now) = record { run_in = c.requires.3; draws_in_lem = c.requires.2; output_in = omega arith; records_in_lem = omega arith } in
    let p = planned a.s a.prototypes.mode_s.now a.prototypes.mode_ac.now a.noise.now a.t a.memory.now a.rest.now a.output.now a.records.now c.pending-last.result c.left-room.result c.next-p.result c.requires.0 c.requires.1 z c.pending-last.ensures c.left-room.ensures c.next-p.ensures in
    wrote p _ c.in-Drain.is _ _ _ c.after_step-r.ensures c.write_due.ensures

pub returns-in-Add : goal.returns-in-Add
returns-in-Add c =
    let a = c.args in
    let z : Sized a.s.total a.t.taken (length a.rest.now) (length a.output.now) (length a.records.now) = record { run_in = c.requires.3; draws_in_lem = c.requires.2; output_in = omega arith; records_in_lem = omega arith } in
    let p = planned a.s a.prototypes.mode_s.now a.prototypes.mode_ac.now a.noise.now a.t a.memory.now a.rest.now a.output.now a.records.now c.pending-last.result c.left-room.result c.next-p.result c.requires.0 c.requires.1 z c.pending-last.ensures c.left-room.ensures c.next-p.ensures in
    added p _ _ c.in-Add.is c.add-count.result (omega (arith, c.add-count.type_inv)) _ _ _ c.after_step.ensures c.add-count.ensures.0 c.add-count.ensures.1 c.add-count.ensures.2
