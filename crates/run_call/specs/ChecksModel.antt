-- A model of code: refusals 9 and 7 of a run call in the code's own tests. The plain bench has them as `wrong_lengths` and `draw_refusal`.
use Rattle.std.specs.Prelude.{Option, Some, None, ℕ, ◌%◌, Bool, false, cond, not, ◌||◌, List, [], eqb, ltb, length, Float}
use Rattle.std.specs.Float.Ieee.{lt}
use Rattle.run_theory.specs.Generator.{Generator}
use Rattle.run_theory.specs.PlainBench as Bench
use Rattle.run_theory.specs.FloatGenerator.{nought}
use Rattle.settings.specs.declared.Distributions.{Distributions}
use Rattle.settings.specs.declared.MessagesPerSecond.{MessagesPerSecond}
use Rattle.draw.specs.Draw.{draw_at}
use Rattle.draw.specs.Config.{time_after}
use Rattle.constants.specs.declared.SamplesPerPulse.TheVariants.{Four}
use Rattle.run_generator.specs.Instance.{instance_of}

-- and of a run call's own: output empty or of odd length, or draw bytes no multiple of 65
abbrev pub wrong_buffers : ℕ → ℕ → Bool
wrong_buffers output draws = eqb output 0 || not (eqb (output % 2) 0) || not (eqb (draws % 65) 0)

-- a first draw jumps back
unfoldable pub jump_of : Float → Float → List ℕ → Bool
jump_of time latest draws = cond (ltb (length draws) 65) false (lt (time_after time (draw_at draws)) latest)

-- the first fault of draws, as the plain bench refuses it
unfoldable pub fault_read : Option (ℕ × ℕ) → Option Bench.Refusal
fault_read None = None
fault_read (Some (k, field)) = Some (Bench.wrong_draw k field)

-- the generator of rates and distributions: the check of draws depends on nothing else
abbrev pub check_generator : MessagesPerSecond → Distributions → Generator
check_generator rates all = instance_of (record { setting = Four; rates = rates; distributions = all; delays = record { mode_s = nought; mode_ac = nought }; mode_s = []; mode_ac = [] }) 0
