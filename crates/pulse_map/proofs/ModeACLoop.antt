-- The loop of `mode_ac_pulses`, one step and the end: what is left to mark, marked from here, is the whole marked from the start.
use mathlib.Core.Path.{◌≡◌}
use mathlib.Core.Bool.{Bool, true, false}
use mathlib.Core.List.{List, [], ◌∷◌, ◌++◌}
use Prim.Native.Nat.{ℕ, ◌+◌, ◌-◌, ◌≤◌, ◌<◌}
use native.Mathlib.Numerals.{add-one}
use native.Mathlib.Omega.{arith}
use lib.ListN.{set, replicate}
use Rattle.mode_ac.specs.Data.{bit_of}
use Rattle.mode_ac.specs.Positions.{position_of}
use Rattle.pulse_map.specs.Map.{map_of}
use Rattle.pulse_map.specs.ModeAC.{data_positions, mode_ac_positions, mode_ac_pulses, mode_ac_length}
use Rattle.pulse_map.proofs.Marked.{mark, mark_append, marked, left_suc}

-- the map before the first step
abbrev pub framed : List Bool
framed = set (replicate 240 false) 0 true

-- a bit that is set is marked
pub step_set : (d n : ℕ) (on : List Bool) → n < 12 → bit_of d n ≡ true
    → mark (data_positions d (12 - (n + 1)) (n + 1)) (set on (position_of n) true) ≡ mark (data_positions d (12 - n) n) on
unfolding data_positions mark
step_set d n on h e = rw (left_suc 12 n h, add-one, e)

-- and another is not
pub step_clear : (d n : ℕ) (on : List Bool) → n < 12 → bit_of d n ≡ false
    → mark (data_positions d (12 - (n + 1)) (n + 1)) on ≡ mark (data_positions d (12 - n) n) on
unfolding data_positions mark
step_clear d n on h e = rw (left_suc 12 n h, add-one, e)

pub end : (d n : ℕ) (on : List Bool) → 12 ≤ n → mark (data_positions d (12 - n) n) on ≡ on
unfolding data_positions mark
end d n on h = let e : 12 - n ≡ 0 = omega arith in rw e

-- 0 before the bits, 42 and 51 after them
pub whole_spi : (d : ℕ) (spi : Bool) (on : List Bool) → on ≡ mark (data_positions d 12 0) framed → spi ≡ true
    → record { on = set (set on 42 true) 51 true; len = 52 } ≡ mode_ac_pulses d spi
unfolding mode_ac_pulses map_of mode_ac_positions mode_ac_length mark
whole_spi d spi on e f =
    rw f (cc (mark_append (data_positions d 12 0) (42 ∷ 51 ∷ []) framed, marked (0 ∷ (data_positions d 12 0 ++ (42 ∷ 51 ∷ [])))))

-- and without SPI
pub whole : (d : ℕ) (spi : Bool) (on : List Bool) → on ≡ mark (data_positions d 12 0) framed → spi ≡ false
    → record { on = set on 42 true; len = 43 } ≡ mode_ac_pulses d spi
unfolding mode_ac_pulses map_of mode_ac_positions mode_ac_length mark
whole d spi on e f =
    rw f (cc (mark_append (data_positions d 12 0) (42 ∷ []) framed, marked (0 ∷ (data_positions d 12 0 ++ (42 ∷ [])))))
