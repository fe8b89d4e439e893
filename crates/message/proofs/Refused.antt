-- What making answers, in the specification's terms: for the draw at any index, the reply of its type, or refusal 7 with the first field at fault (`made-answers`).
use Rattle.std.specs.Prelude.{Option, Some, None}
use Prim.Native.Nat.{ℕ}
use mathlib.Core.Path.{◌≡◌, refl}
use Rattle.refusals.specs.Answer.{unless}
use Rattle.message.specs.declared.MessageType.{MessageType}
use Rattle.message.specs.declared.Picks.{Picks}
use Rattle.message.specs.Making.{reply_of, field_fault, made_where, made, field_refusal, made_answer}

pub made_answers : (draw : ℕ) (t : MessageType) (p : Picks) → made_answer draw (made t p) ≡ unless (field_refusal draw (field_fault t p)) (reply_of t p)
unfolding made
made_answers draw t p = go (field_fault t p)
  where
    go : (f : Option ℕ) → made_answer draw (made_where f (reply_of t p)) ≡ unless (field_refusal draw f) (reply_of t p)
    go None = unfold made_answer made_where field_refusal unless in refl
    go (Some field) = unfold made_answer made_where field_refusal unless in refl
