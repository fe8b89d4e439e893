-- What building a Mode A/C reply answers: the reply, or the refusal whose number is 10.
use Rattle.std.specs.Prelude.{ℕ, Bool, cond, ltb, Result, Ok, Err}
use Rattle.refusals.specs.declared.Refusal.{Refusal}
use Rattle.refusals.specs.declared.Refusal.TheVariants as Refused
use Rattle.mode_ac.specs.Data.{data_of}
use Rattle.mode_ac.specs.declared.ModeACReply.{ModeACReply}

-- data of 4096 or more is refused
unfoldable pub from_data : ℕ → Bool → Result ModeACReply Refusal
from_data n spi = cond (ltb n 4096) (Ok (record { «data» = n; spi = spi })) (Err Refused.Reply)

-- and so is a digit of 8 or more
unfoldable pub from_digits : ℕ → ℕ → ℕ → ℕ → Bool → Result ModeACReply Refusal
from_digits a b c d spi =
    cond (ltb a 8)
    (cond (ltb b 8)
    (cond (ltb c 8) (cond (ltb d 8) (Ok (record { «data» = data_of a b c d; spi = spi })) (Err Refused.Reply)) (Err Refused.Reply))
    (Err Refused.Reply))
    (Err Refused.Reply)
