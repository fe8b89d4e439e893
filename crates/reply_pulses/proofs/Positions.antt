-- The positions of a reply: as many as its length says, at most 240; 128 for a short message, 240 for a long one, 43 for Mode A/C and 52 with SPI.
use mathlib.Core.Path.{◌≡◌, sym, ap, ◌∙◌, subst}
use Prim.Native.Nat.{ℕ, ◌+◌, ◌*◌, ◌%◌, ◌≤◌}
use native.Mathlib.Nat.{le_trans, le_of_eq}
use mathlib.Core.Bool.{Bool, true, false}
use mathlib.Core.List.{List}
use lib.Dec.{lit≤}
use lib.ListN.{length, get_or}
use lib.Seq.{length-take-le}
use Rattle.message.specs.declared.Reply.{Reply}
use Rattle.message.specs.declared.ReplyKind.{ReplyKind}
use Rattle.message.specs.declared.ReplyKind.TheVariants.{Short, Long, ModeAc}
use Rattle.pulse_map.specs.Map.{map_of}
use Rattle.pulse_map.proofs.Marked.{map_length}
use Rattle.pulse_map.specs.ModeS.{mode_s_pulses, mode_s_length, mode_s_bits}
use Rattle.pulse_map.specs.ModeAC.{mode_ac_pulses, mode_ac_length}
use Rattle.pulse_map.specs.Length.{mode_s_num_samples, mode_ac_num_samples}
use Rattle.reply_pulses.specs.ReplyPulses.{data_of, spi_of, pulses_of_kind, pulses_of, positions_of, num_samples_of_kind, num_samples_of}

kind_on : (k : ReplyKind) (b : List ℕ) → length (pulses_of_kind k b).on ≡ 240
unfolding mode_s_pulses mode_ac_pulses map_of
kind_on Short b = map_length _ 0 240
kind_on Long b = map_length _ 0 240
kind_on ModeAc b = map_length _ 0 240

mode_ac_most : (spi : Bool) → mode_ac_length spi ≤ 240
unfolding mode_ac_length
mode_ac_most true = lit≤ tt
mode_ac_most false = lit≤ tt

kind_most : (k : ReplyKind) (b : List ℕ) → (pulses_of_kind k b).len ≤ 240
unfolding mode_s_pulses mode_ac_pulses map_of mode_s_length mode_s_bits
kind_most Short b = lit≤ tt
kind_most Long b = lit≤ tt
kind_most ModeAc b = mode_ac_most (spi_of b)

pub len_most : (r : Reply) → (pulses_of r).len ≤ 240
unfolding pulses_of
len_most r = kind_most r.kind r.bytes

on_length : (r : Reply) → length (pulses_of r).on ≡ 240
unfolding pulses_of
on_length r = kind_on r.kind r.bytes

pub positions_len : (r : Reply) → length (positions_of r) ≡ (pulses_of r).len
unfolding positions_of
positions_len r = length-take-le (pulses_of r).len (pulses_of r).on (le_trans (len_most r) (le_of_eq (sym (on_length r))))

pub positions_most : (r : Reply) → length (positions_of r) ≤ 240
positions_most r = subst (λ (n : ℕ). n ≤ 240) (sym (positions_len r)) (len_most r)

pub positions_short : (r : Reply) → r.kind ≡ Short → length (positions_of r) ≡ 128
unfolding pulses_of mode_s_pulses map_of mode_s_length mode_s_bits
positions_short r e = positions_len r ∙ ap (λ (k : ReplyKind). (pulses_of_kind k r.bytes).len) e

pub positions_mode_ac : (r : Reply) → r.kind ≡ ModeAc → length (positions_of r) ≡ mode_ac_length (spi_of r.bytes)
unfolding pulses_of mode_ac_pulses map_of
positions_mode_ac r e = positions_len r ∙ ap (λ (k : ReplyKind). (pulses_of_kind k r.bytes).len) e
