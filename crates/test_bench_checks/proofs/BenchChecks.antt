-- Every line of the table of bench checks holds: the definitions give what SPECIFICATION 12 says.
use Rattle.std.specs.Prelude.{Some, None}
use Rattle.std.specs.Option.{option_or}
use mathlib.Core.Path.{◌≡◌, ap, ap₂}
use mathlib.Core.Bool.{false, cond}
use mathlib.Core.List.{List, [], ◌∷◌, ◌++◌}
use Prim.Native.Nat.{ℕ, ◌+◌, ◌*◌, ◌/◌, ◌%◌, ◌<◌}
use native.Mathlib.Omega.{arith}
use lib.Dec.{eqb}
use lib.ListN.{take}
use Rattle.refusals.specs.Number.{number_of}
use Rattle.settings_duration.specs.Duration.{duration_of}
use Rattle.mode_ac.specs.Data.{bits_of, bit_of}
use Rattle.mode_ac.specs.Positions.{position_of}
use Rattle.mode_ac.specs.Building.{from_data, from_digits}
use Rattle.mode_s.specs.Parity.{reduced, brought, remainder, bits, parity_of}
use Rattle.message.specs.Making.{formats}
use Rattle.message.specs.Types.{type_number}
use Rattle.message.specs.declared.ReplyKind.TheVariants.{Short, Long}
use Rattle.message.specs.declared.Class.TheVariants.{TisB}
use Rattle.message.specs.Classing.{listed, short_class, long_class, kind_class, tis_b_controls, is_tis_b, is_long, relay_class, type_class, class_by}
use Rattle.pulse_map.specs.ModeS.{mode_s_bits, mode_s_length}
use Rattle.pulse_map.specs.ModeAC.{mode_ac_length, data_positions, mode_ac_positions}
use Rattle.pulse_map.specs.Length.{mode_s_num_samples, mode_ac_num_samples}
use Rattle.test_bench_checks.specs.Table.{Value, of_class, no_class, class, durations, parity, lengths, replies, table, gives, says}

-- the format of a message does not depend on the low three bits
long_eleven : (low : ℕ) (later : List ℕ) → low < 8 → of_class (class_by Long ((11 * 8 + low) ∷ later)) ≡ no_class
unfolding class_by is_long relay_class is_tis_b type_class kind_class long_class formats
long_eleven low later h =
    let e : (11 * 8 + low) / 8 ≡ 11 = omega arith in
    ap (λ (df : ℕ). of_class (option_or (cond (cond (eqb df 18) (listed tis_b_controls ((11 * 8 + low) % 8)) false) (Some TisB) None) (type_class (long_class df)))) e

short_four : (low : ℕ) (later : List ℕ) → low < 8 → of_class (class_by Short ((4 * 8 + low) ∷ later)) ≡ class 2
unfolding class_by is_long relay_class type_class kind_class short_class formats type_number
short_four low later h =
    let e : (4 * 8 + low) / 8 ≡ 4 = omega arith in
    ap (λ (df : ℕ). of_class (type_class (short_class df (take 7 ((4 * 8 + low) ∷ later))))) e

pub bench_checks : (low : ℕ) (later : List ℕ) → low < 8 → gives (table low later) ≡ says (table low later)
unfolding number_of duration_of bits_of bit_of position_of from_data from_digits reduced brought remainder bits parity_of mode_s_bits mode_s_length mode_ac_length data_positions mode_ac_positions mode_s_num_samples mode_ac_num_samples
bench_checks low later h =
    ap (λ (vs : List Value). says (durations ++ (parity ++ (lengths ++ replies))) ++ vs)
    (ap₂ (λ (v w : Value). v ∷ w ∷ []) (long_eleven low later h) (short_four low later h))
