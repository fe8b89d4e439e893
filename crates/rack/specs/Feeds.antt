-- A feed (SPECIFICATION 15): the samples so far, delayed and scaled. Samples are flat lists of numbers, two for each sample, real part first.
use Rattle.std.specs.Prelude.{false, List, ◌++◌, map, ℕ, ◌*◌, pos, Float, length, take, replicate}
use Rattle.std.specs.Float.{fin, binary32}
use Rattle.std.specs.Float.Ieee.{mul}

-- the most feeds; the longest delay, in samples; and the memory, two numbers for each of these
abbrev pub most_feeds : ℕ
most_feeds = 16

abbrev pub longest_delay : ℕ
longest_delay = 4095

abbrev pub memory_length : ℕ
memory_length = 8190

-- 0.0, the positive one
abbrev pub nought : Float
nought = fin false 0 (pos 0)

unfoldable pub silent : ℕ → List Float
silent n = replicate n nought

-- the gain times each number, one product of f32 each
unfoldable pub scaled : Float → List Float → List Float
scaled gain xs = map (λ x. mul binary32 gain x) xs

-- The feed of a delay and a gain, as long as the samples: 0.0 before the delay, then the gain times the samples.
unfoldable pub delayed : Float → ℕ → List Float → List Float
delayed gain delay samples = take (length samples) (silent (2 * delay) ++ scaled gain samples)
