-- Demand 3 of the real generator, by filters in range and at most 2^52 samples (`instance-demand3`).
use Prim.Native.Nat.{ℕ, ◌^◌, ◌≤◌}
use lib.Ieee.{Float}
use Rattle.run_theory.specs.Laws.{Laws}
use Rattle.run_call_model.specs.Machine.{runs}
use Rattle.run_theory.proofs.ListClaim.{Demand3}
use Rattle.run_call_model.proofs.FloatLaws.{laws, float_demand3}
use Rattle.run_generator.specs.Instance.{Filters, pulse_samples, draws, instance_of}
use Rattle.run_generator.proofs.FiltersInRange.{FiltersInRange}
use Rattle.run_generator.proofs.InstanceDrawLaws.{instance_draw_laws}

module _ (f : Filters) (R : FiltersInRange f) (total : ℕ) (few : total ≤ 2 ^ 52) where
  unfoldable pub instance_laws : Laws (instance_of f total)
  instance_laws = laws (draws f) (pulse_samples f) total (instance_draw_laws f R total few)

  -- o is what a read out of range gives; it is never met
  pub instance_demand3 : (o : Float) → Demand3 (instance_of f total) (runs (instance_of f total) o)
  instance_demand3 o = float_demand3 (draws f) (pulse_samples f) total (instance_draw_laws f R total few) o
