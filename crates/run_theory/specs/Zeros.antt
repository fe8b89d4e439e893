-- A list of 0.0.
use Rattle.std.specs.Prelude.{List, ℕ, replicate, Float}
use Rattle.run_theory.specs.FloatGenerator.{nought}

abbrev pub zeros : ℕ → List Float
zeros n = replicate n nought
