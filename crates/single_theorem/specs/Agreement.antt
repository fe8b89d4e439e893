-- Where one reply alone and the plain run agree (SPECIFICATION 14.4): a draw that is a reply of a run has there the samples of the plain run of this draw and of draws that add nothing after it, an end draw say, where no noise value times 2^-10 is -0.0.
use Rattle.std.specs.Prelude.{ℕ, ◌*◌, ◌≤◌, ◌≡◌, true, List, [], ◌∷◌, ◌≢◌, pos, length, Float}
use Rattle.std.specs.Float.{fin}
use Rattle.run_theory.specs.Each.{Each}
use Rattle.run_theory.specs.PlainRun.{reply, kind, replies}
use Rattle.run_theory.specs.PlainBench.{pairs}
use Rattle.run_theory.specs.Demand3.{plain_output}
use Rattle.run_theory.specs.FloatGenerator.{nought}
use Rattle.run_generator.specs.Instance.{Filters, RepresentableDraw, instance_of}
use Rattle.single_add.specs.Stretch.{scaled_noise}
use Rattle.draw.specs.Config.{time_after}
use Rattle.single_theory.specs.Single.{single_samples}

abbrev pub minus_zero : Float
minus_zero = fin true 0 (pos 0)

-- Filters of a run, the samples of the run, the draw, what comes after it, the start of its reply, and the noise of n samples. The run may have more samples than the stretch: then the two agree on the stretch, also where the reply is trimmed at its end.
abbrev pub Agreement : Type 0
Agreement =
    (f : Filters) (total : ℕ) (d : RepresentableDraw) (rest : List RepresentableDraw) (s n : ℕ) (noise : List Float)
    → kind (instance_of f total) (time_after nought d.draw) d ≡ reply s
    → replies (instance_of f total) (time_after nought d.draw) rest ≡ []
    → length noise ≡ 2 * n
    → n ≤ total
    → Each (λ (v : Float). v ≢ minus_zero) (scaled_noise noise)
    → single_samples f d.draw noise ≡ plain_output (instance_of f total) (d ∷ rest) (pairs noise)
