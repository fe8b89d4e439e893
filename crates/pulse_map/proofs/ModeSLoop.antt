-- The loop of `mode_s_pulses`, one step and the end: what is left to mark, marked from here, is the whole marked from the start.
use mathlib.Core.Path.{◌≡◌, refl}
use mathlib.Core.Bool.{Bool, true, false}
use mathlib.Core.List.{List, ◌∷◌}
use Prim.Native.Nat.{ℕ, zero, suc, ◌+◌, ◌-◌, ◌*◌, ◌≤◌, ◌<◌}
use native.Mathlib.Numerals.{add-one}
use native.Mathlib.Omega.{arith}
use lib.ListN.{set, replicate}
use Rattle.pulse_map.specs.Map.{map_of}
use Rattle.pulse_map.specs.ModeS.{mode_s_bits, mode_s_length, bit_of, pair_position, bit_positions, mode_s_positions, mode_s_pulses}
use Rattle.pulse_map.proofs.Marked.{mark, marked, left_suc}

pub pair_position_lem : (n b : ℕ) → b < 2 → pair_position n b ≡ 16 + 2 * n + (1 - b)
pair_position_lem n zero h = refl
pair_position_lem n (suc b) h = omega arith

pub turn : (m : List ℕ) (bits n : ℕ) (on : List Bool) → n < bits
    → mark (bit_positions m (bits - (n + 1)) (n + 1)) (set on (pair_position n (bit_of m n)) true) ≡ mark (bit_positions m (bits - n) n) on
unfolding bit_positions mark
turn m bits n on h = rw (left_suc bits n h, add-one)

pub end : (m : List ℕ) (bits n : ℕ) (on : List Bool) → bits ≤ n → mark (bit_positions m (bits - n) n) on ≡ on
unfolding bit_positions mark
end m bits n on h = let e : bits - n ≡ 0 = omega arith in rw e

abbrev pub preambled : List Bool
preambled = set (set (set (set (replicate 240 false) 0 true) 2 true) 7 true) 9 true

pub whole : (m : List ℕ) (long : Bool) (on : List Bool) (len : ℕ) → on ≡ mark (bit_positions m (mode_s_bits long) 0) preambled
    → len ≡ mode_s_length long → record { on = on; len = len } ≡ mode_s_pulses m long
unfolding mode_s_pulses map_of mode_s_positions mark
whole m long on len e f = cc (marked (0 ∷ 2 ∷ 7 ∷ 9 ∷ bit_positions m (mode_s_bits long) 0))
