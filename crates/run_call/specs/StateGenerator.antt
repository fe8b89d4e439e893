-- The generator of a state and its prototypes, as plain run and plain bench take it.
use Rattle.std.specs.Prelude.{List, Float}
use Rattle.run_theory.specs.Generator.{Generator}
use Rattle.run_generator.specs.Instance.{Filters, instance_of}
use Rattle.run_call.specs.declared.State.{State}

-- what a state and the prototypes fix
abbrev pub filters_of : State → List Float → List Float → Filters
filters_of s mode_s mode_ac = record { setting = s.setting; rates = s.rates; distributions = s.distributions; delays = s.delays; mode_s = mode_s; mode_ac = mode_ac }

abbrev pub gen_of : State → List Float → List Float → Generator
gen_of s mode_s mode_ac = instance_of (filters_of s mode_s mode_ac) s.total
