-- The delay of a prototype: `compute_group_delay`, with the level as an argument.
use Rattle.refusals.specs.declared.Refusal.{Refusal}
use Rattle.std.specs.Prelude.{ℕ, ◌+◌, Bool, true, false, ◌&&◌, List, [], ◌∷◌, pos, Float, Option, Some, None, Result, Ok, Err}
use Rattle.std.specs.Float.{binary64}
use Rattle.std.specs.Float.Ieee.{of_int, add, sub, div, lt, le}
use Rattle.constants.specs.Rate.{branches_per_sample}
use Rattle.refusals.specs.declared.Refusal.TheVariants.{Prototype}

-- the level is at or above the first value and below the second
unfoldable pub crosses : Float → Float → Float → Bool
crosses level a b = le a level && lt level b

-- where between indices j and j + 1, with values a and b, the level lies, in samples
unfoldable pub delay_at : Float → ℕ → Float → Float → Float
delay_at level j a b =
    div binary64 (add binary64 (of_int binary64 (pos j)) (div binary64 (sub binary64 level a) (sub binary64 b a))) (of_int binary64 (pos branches_per_sample))

abbrev pub choose : Bool → Option Float → Option Float → Option Float
choose true a b = a
choose false a b = b

-- the first pair that the level crosses, the first value standing at index j
unfoldable pub delay_from : Float → ℕ → List Float → Option Float
delay_from level j [] = None
delay_from level j (a ∷ []) = None
delay_from level j (a ∷ b ∷ rest) = choose (crosses level a b) (Some (delay_at level j a b)) (delay_from level (j + 1) (b ∷ rest))

unfoldable pub group_delay : Float → List Float → Option Float
group_delay level prototype = delay_from level 0 prototype

-- 1500.0 / 1450.0: how much faster the Mode A/C filterbank runs than the Mode S one
unfoldable pub mode_ac_ratio : Float
mode_ac_ratio = div binary64 (of_int binary64 (pos 1500)) (of_int binary64 (pos 1450))

abbrev pub over : Float → Option Float → Option Float
over ratio (Some delay) = Some (div binary64 delay ratio)
over ratio None = None

-- the delay of a Mode A/C prototype, in samples of the Mode S rate
unfoldable pub mode_ac_group_delay : Float → List Float → Option Float
mode_ac_group_delay level prototype = over mode_ac_ratio (group_delay level prototype)

-- a crossing in the specification's terms: a delay, or, where the level is not crossed, refusal 6
unfoldable pub crossing_answer : Option Float → Result Float Refusal
crossing_answer (Some delay) = Ok delay
crossing_answer None = Err Prototype
