-- No sample is ever infinite or a NaN: every number that a list of run calls on an opened run writes is finite and at most 2^53 in size, however long the run and however many replies overlap (`opened-finite`).
use Rattle.std.specs.Prelude.{Ok}
use mathlib.Core.Path.{◌≡◌}
use Prim.Native.Nat.{ℕ, ◌*◌, ◌^◌}
use native.Mathlib.Nat.{mul-one, le_trans, le_of_eq}
use mathlib.Core.Bool.{false}
use mathlib.Core.List.{List, [], ◌∷◌}
use lib.IntN.{pos}
use lib.Ieee.{Float, nan, inf, fin, up}
use lib.Ieee.Bits.{is_true}
use Rattle.constants.specs.Setting.{per_pulse}
use Rattle.float_rounding.proofs.AtMost.{AtMost}
use Rattle.float_rounding.proofs.Order.{fin_le}
use Rattle.floats.specs.Range.{abs, within}
use Rattle.run_theory.specs.Each.{Each}
use Rattle.run_theory.specs.Generator.{Generator}
use Rattle.run_theory.specs.PlainBench as Bench
use Rattle.run_theory.proofs.ListClaim.{all_samples, Demand3}
use Rattle.pulse_shape.specs.Prototype.{mode_s_prototype, mode_ac_prototype}
use Rattle.pulse_shape.proofs.Whole.{length_prototype}
use Rattle.run_generator.proofs.SampleSizes.{samples_sized}
use Rattle.run_call.specs.declared.State.{State}
use Rattle.run_call.specs.StateGenerator.{filters_of, gen_of}
use Rattle.run_open.specs.Opening as Opening
use Rattle.run_open.proofs.WhatIsOpened.{opened_run_in_range, what_is_opened}
use Rattle.run_theorem.specs.OpenedRuns.{Finite53}

pub each_on : {X : Type 0} (P Q : X → Type 0) → ((x : X) → P x → Q x) → (xs : List X) → Each P xs → Each Q xs
each_on P Q f [] h = tt
each_on P Q f (x ∷ xs) h = (f x h.0, each_on P Q f xs h.1)

pub finite_53 : (x : Float) → AtMost (2 ^ 53) x → Finite53 x
unfolding within abs
finite_53 nan h = absurd h
finite_53 (inf s) h = absurd h
finite_53 (fin s m e) h = is_true (within (fin s m e) (fin false 1 (pos 53))) (fin_le false m e false 1 (pos 53) (le_trans (le_of_eq (mul-one (m * up e))) h))

module _ (taps_s taps_ac : List Float) (bytes : List ℕ) (lent : Opening.OpenBuffers) (s : State) (opens : Opening.opened_of taps_s taps_ac bytes lent ≡ Ok s) where
  abbrev G : Generator
  G = gen_of s (mode_s_prototype (per_pulse s.setting) taps_s) (mode_ac_prototype (per_pulse s.setting) taps_ac)

  pub opened_finite : (run : List (Bench.Call G) → List (Bench.Result G)) → Demand3 G run → (cs : List (Bench.Call G)) → Each Finite53 (all_samples G (run cs))
  opened_finite run D cs =
      let r = opened_run_in_range taps_s taps_ac bytes lent s opens in
      let w = what_is_opened taps_s taps_ac bytes lent s opens in
      each_on (AtMost (2 ^ 53)) Finite53 finite_53 (all_samples G (run cs))
      (samples_sized (filters_of s (mode_s_prototype (per_pulse s.setting) taps_s) (mode_ac_prototype (per_pulse s.setting) taps_ac)) r.0 s.total r.1 (record { whole = length_prototype (per_pulse s.setting) _ taps_s; small = w.delay_s.0 }) (record { whole = length_prototype (per_pulse s.setting) _ taps_ac; small = w.delay_ac.0 }) run D cs)
