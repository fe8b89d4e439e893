-- How replies cross to the Rust, as numbers.
use Rattle.message.specs.declared.MessageType.{MessageType}
use Rattle.std.specs.Prelude.{ℕ, zero, suc, ◌≡◌, Option, Some, None, Result, Ok, Err, List, replicate}
use Rattle.message.specs.declared.ReplyKind.{ReplyKind}
use Rattle.message.specs.declared.ReplyKind.TheVariants.{Short, Long, ModeAc}
use Rattle.message.specs.declared.Reply.{Reply}
use Rattle.message.specs.declared.Picks.{Picks}
use Rattle.message.specs.Making.{made}

-- the kinds: 0 short, 1 long, and Mode A/C, which any other number stands for too
unfoldable pub kind_number : ReplyKind → ℕ
kind_number Short = 0
kind_number Long = 1
kind_number ModeAc = 2

unfoldable pub kind_numbered : ℕ → ReplyKind
kind_numbered zero = Short
kind_numbered (suc zero) = Long
kind_numbered (suc (suc n)) = ModeAc

-- the fields of a draw that a reply is made of
unfoldable pub picks_of : ℕ → ℕ → ℕ → List ℕ → ℕ → ℕ → Picks
picks_of f c o b d s = record { format = f; capability = c; overlay = o; bytes = b; «data» = d; spi = s }

-- what making answers for a type's number; a number of no type is a fault of field 1
unfoldable pub made_for : (Option MessageType) → Picks → (Result Reply ℕ)
made_for (Some t) p = made t p
made_for None p = Err 1

-- the field at fault, 0 for none: making faults no field 0
unfoldable pub field_number : (Result Reply ℕ) → ℕ
field_number (Ok r) = 0
field_number (Err n) = n

-- the reply; where it is refused, a short one of zeros
unfoldable pub reply_made : (Result Reply ℕ) → Reply
reply_made (Ok r) = r
reply_made (Err n) = record { kind = Short; bytes = replicate 14 0 }

-- what was made, as three numbers: the field at fault, the kind and the bytes
pub record MadeNumbers (m : Result Reply ℕ) (f k : ℕ) (b : List ℕ) : Type 0 where
  pub fault : f ≡ field_number m
  pub kind : k ≡ kind_number (reply_made m).kind
  pub bytes : b ≡ (reply_made m).bytes

unfoldable pub reply_with : ℕ → List ℕ → Reply
reply_with k b = record { kind = kind_numbered k; bytes = b }
