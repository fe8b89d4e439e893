-- The bytes of a made reply, or of zeros in its place, are 14, whatever the type and the picks (`made_bytes`).
use Rattle.std.specs.Prelude.{Option, Some, None}
use Prim.Native.Nat.{ℕ, ◌+◌, ◌-◌, ◌≤◌}
use mathlib.Core.Path.{◌≡◌, ap, ◌∙◌}
use mathlib.Core.List.{List, [], ◌∷◌}
use native.Mathlib.Omega.{arith}
use lib.ListN.{length, drop, replicate, length-append, length-take, length-replicate}
use Rattle.mode_s.specs.Parity.{parity_of, parity_bytes, with_parity}
use Rattle.message.specs.declared.MessageType.{MessageType}
use Rattle.message.specs.declared.MessageType.TheVariants.{ExtendedSquitter, AcquisitionSquitter, ShortAp, AllCallReply, LongAp, MilitaryExtendedSquitter, ModeAc}
use Rattle.message.specs.declared.Picks.{Picks}
use Rattle.message.specs.Making.{byte0, later, message_bytes, filled, reply_of, field_fault, made_where, made}
use Rattle.draw.specs.Config.{bytes_made}

later_most : (p : Picks) (n : ℕ) → length (later p n) ≤ n
unfolding later
later_most p n = omega (arith, length-take n (drop 1 p.bytes))

sealed_length : (m : List ℕ) (o : ℕ) → length (with_parity m o) ≡ length m + 3
unfolding with_parity parity_bytes
sealed_length m o = length-append m (parity_bytes (parity_of m) o)

most : (t : MessageType) (p : Picks) → length (message_bytes t p) ≤ 14
unfolding message_bytes
most ExtendedSquitter p = omega (arith, sealed_length (byte0 ExtendedSquitter p ∷ later p 10) 0, later_most p 10)
most AcquisitionSquitter p = omega (arith, sealed_length (byte0 AcquisitionSquitter p ∷ later p 3) 0, later_most p 3)
most ShortAp p = omega (arith, later_most p 6)
most AllCallReply p = omega (arith, sealed_length (byte0 AllCallReply p ∷ 0 ∷ 0 ∷ 0 ∷ []) p.overlay)
most LongAp p = omega (arith, later_most p 13)
most MilitaryExtendedSquitter p = omega (arith, later_most p 13)
most ModeAc p = omega arith

filled_length : (m : List ℕ) → length m ≤ 14 → length (filled m) ≡ 14
unfolding filled
filled_length m h = length-append m (replicate (14 - length m) 0) ∙ ap (λ (n : ℕ). length m + n) (length-replicate {A = ℕ} (14 - length m) 0) ∙ omega arith

pub made_bytes : (t : MessageType) (p : Picks) → length (bytes_made (made t p)) ≡ 14
unfolding made
made_bytes t p = go (field_fault t p)
  where
    go : (x : Option ℕ) → length (bytes_made (made_where x (reply_of t p))) ≡ 14
    go None = unfold made_where bytes_made reply_of in filled_length (message_bytes t p) (most t p)
    go (Some k) = unfold made_where bytes_made in length-replicate {A = ℕ} 14 0
