-- Refusal 8 (SPECIFICATION 3.1): a noise value not finite or above 64 in size, with the index of the first.
use Rattle.std.specs.Prelude.{Option, Some, None, ℕ, suc, cond, List, [], ◌∷◌, Float}
use Rattle.run_theory.specs.PlainBench as Bench
use Rattle.run_generator.specs.Instance.{out_of_range}

-- the first noise value at fault, from index k on
unfoldable pub out_of_range_from : ℕ → List Float → Option Bench.Refusal
out_of_range_from k [] = None
out_of_range_from k (v ∷ vs) = cond (out_of_range v) (Some (Bench.wrong_noise k)) (out_of_range_from (suc k) vs)

-- the code's answer, as the plain bench refuses it
unfoldable pub noise_fault_read : Option ℕ → Option Bench.Refusal
noise_fault_read None = None
noise_fault_read (Some index) = Some (Bench.wrong_noise index)
