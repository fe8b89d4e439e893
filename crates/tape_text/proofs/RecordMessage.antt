-- What a line prints of a record that is not Mode A/C is its reply, whole: as many bytes as the reply's kind has (`record-message`), which are 14 at most (`at-most-14`).
-- A reply is taken to have its 14 bytes.
use Prim.Native.Nat.{ℕ, ◌≤◌}
use mathlib.Core.Path.{◌≡◌, sym, ap, ◌∙◌}
use mathlib.Core.Bool.{Bool, cond}
use mathlib.Core.List.{List, [], ◌∷◌, ◌++◌, append_assoc}
use native.Mathlib.Omega.{arith}
use lib.ListN.{length, get_or, take, drop, length-append}
use lib.Seq.{get_or-append_seam, take_at, drop_at}
use borrow.Author.Tests.{ne_eqb}
use Rattle.le_read.specs.LeBytes.{bytes_of}
use Rattle.le_read.proofs.Halves.{length_bytes}
use Rattle.message.specs.declared.ReplyKind.{ReplyKind}
use Rattle.message.specs.declared.ReplyKind.TheVariants.{Short, Long, ModeAc}
use Rattle.message_config.specs.declared.MessageConfig.{MessageConfig}
use Rattle.reply_record.specs.Record.{message_length, float_bytes, other_bytes, record_bytes}
use Rattle.reply_record.proofs.RecordLength.{float_length}
use Rattle.tape_text.specs.Text.{message_of}

pub at_most_14 : (k : ReplyKind) → message_length k ≤ 14
unfolding message_length
at_most_14 Short = omega arith
at_most_14 Long = omega arith
at_most_14 ModeAc = omega arith

seam : (xs : List ℕ) (y : ℕ) (ys : List ℕ) (n : ℕ) → length xs ≡ n → get_or (xs ++ (y ∷ ys)) n 0 ≡ y
seam xs y ys n h = ap (λ (k : ℕ). get_or (xs ++ (y ∷ ys)) k 0) (sym h) ∙ get_or-append_seam xs y ys 0

module _ (c : MessageConfig) (first type count : ℕ) (more : List ℕ) where
  -- a record before its type, and before its message's length
  abbrev start : List ℕ
  start = float_bytes c ++ bytes_of 8 first

  abbrev middle : List ℕ
  middle = start ++ (type ∷ bytes_of 2 count)

  abbrev size : ℕ
  size = message_length c.reply.kind

  at_type : record_bytes c first type count ++ more ≡ start ++ (type ∷ (bytes_of 2 count ++ (size ∷ (c.reply.bytes ++ more))))
  unfolding record_bytes other_bytes
  at_type = simp append_assoc

  at_size : record_bytes c first type count ++ more ≡ middle ++ (size ∷ (c.reply.bytes ++ more))
  unfolding record_bytes other_bytes
  at_size = simp append_assoc

  at_bytes : record_bytes c first type count ++ more ≡ (middle ++ (size ∷ [])) ++ (c.reply.bytes ++ more)
  at_bytes = at_size ∙ sym (append_assoc middle (size ∷ []) (c.reply.bytes ++ more))

  pub record_message : (type ≡ 6 → ⊥) → length c.reply.bytes ≡ 14 → message_of (record_bytes c first type count ++ more) ≡ take (message_length c.reply.kind) c.reply.bytes
  unfolding message_of
  record_message h l =
      ap (λ (b : Bool). cond b (get_or r 53 0 ∷ get_or r 52 0 ∷ []) (take (get_or r 51 0) (take 14 (drop 52 r)))) (ne_eqb (get_or r 48 0) 6 (λ e. h (sym its_type ∙ e)))
      ∙ (λ i. take (its_size i) (its_bytes i))
    where
      r : List ℕ
      r = record_bytes c first type count ++ more

      its_type : get_or (record_bytes c first type count ++ more) 48 0 ≡ type
      its_type = ap (λ (s : List ℕ). get_or s 48 0) at_type ∙ seam start type (bytes_of 2 count ++ (size ∷ (c.reply.bytes ++ more))) 48 (simp (length-append, length_bytes, float_length c))

      its_size : get_or (record_bytes c first type count ++ more) 51 0 ≡ size
      its_size = ap (λ (s : List ℕ). get_or s 51 0) at_size ∙ seam middle size (c.reply.bytes ++ more) 51 (simp (length-append, length_bytes, float_length c))

      its_bytes : take 14 (drop 52 (record_bytes c first type count ++ more)) ≡ c.reply.bytes
      its_bytes =
          ap (λ (s : List ℕ). take 14 (drop 52 s)) at_bytes
          ∙ ap (take 14) (drop_at (middle ++ (size ∷ [])) (c.reply.bytes ++ more) 52 (simp (length-append, length_bytes, float_length c)))
          ∙ take_at c.reply.bytes more 14 l
