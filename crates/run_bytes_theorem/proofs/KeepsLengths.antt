-- A run call keeps the lengths of a run's lists (`call_fits`), and so does a call on its rack (`feed_fits`).
use Rattle.std.specs.Prelude.{Option, Some, None, is_some, Ok, Err}
use mathlib.Core.Path.{◌≡◌, refl, ap, ◌∙◌}
use mathlib.Core.Bool.{Bool, true, false, cond}
use mathlib.Core.List.{List, ◌++◌}
use native.Mathlib.Omega.{arith}
use lib.ListN.{length, length-append, length-drop}
use lib.Ieee.{Float, nan}
use Rattle.refusals.specs.declared.Refusal.TheVariants.{Length}
use Rattle.rack.specs.declared.Rack.{Rack}
use Rattle.rack.specs.Memory.{held_after}
use Rattle.rack.specs.Calls as Racks
use Rattle.run_theory.specs.PlainBench as Bench
use Rattle.run_call_model.specs.Machine as Machine
use Rattle.run_call.specs.StateGenerator.{gen_of}
use Rattle.run_call.specs.Buffers.{Left, CallBuffers}
use Rattle.run_call.specs.Calls.{call_of}
use Rattle.run_call.specs.MachineModel.{machine_of, left_given}
use Rattle.run_call.proofs.RunIsTheModels.{run_is}
use Rattle.run_call.proofs.RunsAreTheModels.{given_state}
use Rattle.run_call.proofs.MemoryKept.{run_kept}
use Rattle.run_bytes.specs.Layout.{Held, lists_fit, held_fits, stored_length}
use Rattle.run_bytes.proofs.Lengths.{lengths}
use Rattle.run_bytes_theorem.specs.StoredRuns.{call, feed, called, fed, after}

module _ (h : Held) (f : held_fits h ≡ true) (c : CallBuffers) where
  run : Bench.Given (gen_of h.state h.mode_s h.mode_ac) × Machine.State (gen_of h.state h.mode_s h.mode_ac) nan
  run = Machine.machine_run (gen_of h.state h.mode_s h.mode_ac) nan (machine_of h.state h.mode_s h.mode_ac h.memory) (call_of h.state h.mode_s h.mode_ac c)

  is_given : called h c ≡ left_given h.state h.mode_s h.mode_ac (Bench.result_of (gen_of h.state h.mode_s h.mode_ac) (call_of h.state h.mode_s h.mode_ac c) run.0) run.1
  unfolding held_fits run
  is_given =
      let n = lengths h.state.setting (is_some h.rack) (length h.mode_s) (length h.mode_ac) (length h.memory) (length h.rack_memory) (stored_length h.state.setting (is_some h.rack)) f refl in
      run_is h.state h.mode_s h.mode_ac h.memory (call_of h.state h.mode_s h.mode_ac c) n.1.0 n.0.0 n.0.1

  memory_long : length (called h c).memory ≡ length h.memory
  unfolding left_given run
  memory_long = ap (λ (l : Left). length l.memory) is_given ∙ run_kept (gen_of h.state h.mode_s h.mode_ac) nan (machine_of h.state h.mode_s h.mode_ac h.memory) (call_of h.state h.mode_s h.mode_ac c)

  same_setting : (called h c).ran.state.setting ≡ h.state.setting
  unfolding left_given
  same_setting = ap (λ (l : Left). l.ran.state.setting) is_given ∙ ap (λ s. s.setting) (given_state h.state h.mode_s h.mode_ac _ run.1)

  pub call_fits : held_fits (after h (call c)) ≡ true
  unfolding held_fits
  call_fits = (λ i. lists_fit (same_setting i) (is_some h.rack) (length h.mode_s) (length h.mode_ac) (memory_long i) (length h.rack_memory)) ∙ f

held_long : (memory samples : List Float) → length (held_after memory samples) ≡ length memory
unfolding held_after
held_long memory samples = length-drop (length samples) (memory ++ samples) ∙ omega (arith, length-append memory samples)

feed_long : (rack : Rack) (memory : List Float) (c : Racks.Call) → length (Racks.run_left rack memory c).memory ≡ length memory
unfolding Racks.run_left
feed_long rack memory c = go (Racks.lengths_fit (Racks.feed_count rack.feeds) (length memory) (length c.samples) (length c.room))
  where
    go : (b : Bool) → length (cond {A = Racks.Left} b
        (record { answer = Ok (Racks.rack_after rack (length c.samples)); memory = held_after memory c.samples; room = Racks.feeds_up_to (Racks.feed_count rack.feeds) rack.delays rack.gains rack.seen memory c.samples })
        (record { answer = Err Length; memory = memory; room = c.room })).memory ≡ length memory
    go true = held_long memory c.samples
    go false = refl

pub feed_fits : (h : Held) (c : Racks.Call) → held_fits h ≡ true → held_fits (after h (feed c)) ≡ true
unfolding held_fits
feed_fits h c f = go h.rack f
  where
    go : (o : Option Rack) → lists_fit h.state.setting (is_some o) (length h.mode_s) (length h.mode_ac) (length h.memory) (length h.rack_memory) ≡ true → held_fits (fed h o c) ≡ true
    go None g = f
    go (Some rack) g = (λ i. lists_fit h.state.setting true (length h.mode_s) (length h.mode_ac) (length h.memory) (feed_long rack h.rack_memory c i)) ∙ g
