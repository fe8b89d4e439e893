-- The fields of a record's bytes, with other bytes behind them, are those that it was made of; and the length of a message is its type's (`type-sized`).
use Rattle.std.specs.Prelude.{Some}
use Prim.Native.Nat.{ℕ, zero, suc, ◌^◌, ◌≤◌, ◌<◌}
use mathlib.Core.Path.{◌≡◌, refl, sym, ap, ◌∙◌}
use mathlib.Core.List.{List, [], ◌∷◌, ◌++◌, append_assoc}
use native.Mathlib.Nat.{mod-eq_of_lt}
use native.Mathlib.Omega.{arith}
use lib.ListN.{length, get_or, take, length-append}
use lib.Seq.{take_at, drop_at, get_or_at}
use Rattle.le_read.specs.LeBytes.{le_of, bytes_of, le_at}
use Rattle.le_read.proofs.Halves.{length_bytes}
use Rattle.le_read.proofs.RoundTrip.{le_bytes}
use Rattle.message.specs.declared.MessageType.{MessageType}
use Rattle.message.specs.Types.{type_numbered}
use Rattle.message.specs.Making.{kind_of}
use Rattle.message_config.specs.declared.MessageConfig.{MessageConfig}
use Rattle.draw.specs.Config.{type_drawn}
use Rattle.reply_record.specs.Record.{message_length, float_bytes, other_bytes, record_bytes}
use Rattle.reply_record.proofs.RecordLength.{float_length, record_length_lem}
use Rattle.record_check.specs.Accepted.{type_length, first_sample, type_of, count_of, length_of}
use Rattle.record_check.specs.FaultLaws.{InRange}

number_at_lem : (front : List ℕ) (n v : ℕ) (more : List ℕ) (at : ℕ) → length front ≡ at → v < 256 ^ n → le_at n (front ++ (bytes_of n v ++ more)) at ≡ v
unfolding le_at
number_at_lem front n v more at e h = ap le_of (ap (take n) (drop_at front (bytes_of n v ++ more) at e) ∙ take_at (bytes_of n v) more n (length_bytes n v)) ∙ le_bytes n v ∙ mod-eq_of_lt h

-- a type from 0 to 6, with its length
pub type_sized : (n : ℕ) (t : MessageType) → type_numbered n ≡ Some t → (n ≤ 6) × (message_length (kind_of (type_drawn (type_numbered n))) ≡ type_length n)
unfolding type_numbered type_drawn kind_of message_length type_length
type_sized zero t e = (omega arith, refl)
type_sized (suc zero) t e = (omega arith, refl)
type_sized (suc (suc zero)) t e = (omega arith, refl)
type_sized (suc (suc (suc zero))) t e = (omega arith, refl)
type_sized (suc (suc (suc (suc zero)))) t e = (omega arith, refl)
type_sized (suc (suc (suc (suc (suc zero))))) t e = (omega arith, refl)
type_sized (suc (suc (suc (suc (suc (suc zero)))))) t e = (omega arith, refl)
type_sized (suc (suc (suc (suc (suc (suc (suc n))))))) t e = let z : ◌≡◌ {A = ℕ} 0 1 = cc in absurd (omega arith)

module _ (c : MessageConfig) (first type count : ℕ) (rest : List ℕ) where
  abbrev l : List ℕ
  l = record_bytes c first type count ++ rest

  abbrev size : ℕ
  size = message_length c.reply.kind

  abbrev start : List ℕ
  start = float_bytes c ++ bytes_of 8 first

  abbrev middle : List ℕ
  middle = start ++ (type ∷ [])

  by_first : l ≡ float_bytes c ++ (bytes_of 8 first ++ ((type ∷ []) ++ (bytes_of 2 count ++ ((size ∷ []) ++ (c.reply.bytes ++ rest)))))
  unfolding record_bytes other_bytes
  by_first = simp append_assoc

  by_type : l ≡ start ++ (type ∷ (bytes_of 2 count ++ ((size ∷ []) ++ (c.reply.bytes ++ rest))))
  unfolding record_bytes other_bytes
  by_type = simp append_assoc

  by_count : l ≡ middle ++ (bytes_of 2 count ++ ((size ∷ []) ++ (c.reply.bytes ++ rest)))
  unfolding record_bytes other_bytes
  by_count = simp append_assoc

  by_size : l ≡ (middle ++ bytes_of 2 count) ++ (size ∷ (c.reply.bytes ++ rest))
  unfolding record_bytes other_bytes
  by_size = simp append_assoc

  pub record_in_range : length c.reply.bytes ≡ 14 → first ≤ 2 ^ 52 → type ≤ 6 → count ≤ 9999 → message_length c.reply.kind ≡ type_length type → InRange l
  record_in_range h a b d e =
      let x : first_sample l ≡ first = ap (λ (s : List ℕ). le_at 8 s 40) by_first ∙ number_at_lem (float_bytes c) 8 first ((type ∷ []) ++ (bytes_of 2 count ++ ((size ∷ []) ++ (c.reply.bytes ++ rest)))) 40 (float_length c) (omega arith) in
      let y : type_of l ≡ type = ap (λ (s : List ℕ). get_or s 48 0) by_type ∙ get_or_at start type (bytes_of 2 count ++ ((size ∷ []) ++ (c.reply.bytes ++ rest))) 0 48 (simp (length-append, length_bytes, float_length c)) in
      let z : count_of l ≡ count = ap (λ (s : List ℕ). le_at 2 s 49) by_count ∙ number_at_lem middle 2 count ((size ∷ []) ++ (c.reply.bytes ++ rest)) 49 (simp (length-append, length_bytes, float_length c)) (omega arith) in
      let w : length_of l ≡ size = ap (λ (s : List ℕ). get_or s 51 0) by_size ∙ get_or_at (middle ++ bytes_of 2 count) size (c.reply.bytes ++ rest) 0 51 (simp (length-append, length_bytes, float_length c)) in
      record {
        whole = omega (arith, length-append (record_bytes c first type count) rest, record_length_lem c first type count h);
        first = omega arith;
        type = omega arith;
        count = omega arith;
        size = w ∙ e ∙ ap type_length (sym y);
      }
