-- Refusal 9 of a run call for the buffers of its opening.
use Rattle.std.specs.Prelude.{ℕ, Bool, not, ◌||◌, eqb}
use Rattle.constants.specs.Rate.{working_memory, prototype_length}

-- Refusal 9 (SPECIFICATION 3.1) of opening's buffers
abbrev pub wrong_memory : ℕ → ℕ → ℕ → ℕ → Bool
wrong_memory sps memory mode_s mode_ac = not (eqb memory (working_memory sps)) || not (eqb mode_s (prototype_length sps)) || not (eqb mode_ac (prototype_length sps))
