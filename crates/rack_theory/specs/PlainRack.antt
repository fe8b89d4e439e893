-- The plain rack (SPECIFICATION 15.3): its state is the samples taken so far. It knows no memory.
use Rattle.std.specs.Prelude.{Option, Some, None, Bool, cond, List, [], ◌∷◌, ◌++◌, ℕ, zero, suc, Float, length, get_or, drop}
use Rattle.std.specs.Float.{nan}
use Rattle.refusals.specs.declared.Refusal.{Refusal}
use Rattle.refusals.specs.declared.Refusal.TheVariants.{Length}
use Rattle.rack.specs.Feeds.{memory_length, delayed}
use Rattle.rack.specs.Calls.{lengths_fit, Call}

-- lists in order: the first k of them, joined
abbrev pub in_order : (ℕ → List Float) → ℕ → List Float
in_order f zero = []
in_order f (suc i) = in_order f i ++ f i

module _ (delays : List ℕ) (gains : List Float) where
  -- feed i of all samples so far
  abbrev pub feed_so_far : ℕ → List Float → List Float
  feed_so_far i samples = delayed (get_or gains i nan) (get_or delays i 0) samples

  -- the new part of each feed, feed 0's first, where `taken` were taken before
  abbrev pub new_feeds : List Float → List Float → List Float
  new_feeds taken samples = in_order (λ i. drop (length taken) (feed_so_far i (taken ++ samples))) (length delays)

  -- a call is accepted by its lengths alone
  abbrev pub accepts : Call → Bool
  accepts c = lengths_fit (length delays) memory_length (length c.samples) (length c.room)

  -- what a caller sees: the refusal, if any, and the room after the call
  pub record Seen : Type 0 where
    pub refusal : Option Refusal
    pub room : List Float

  abbrev pub plain_call : List Float → Call → Seen
  plain_call taken c = cond (accepts c) (record { refusal = None; room = new_feeds taken c.samples }) (record { refusal = Some Length; room = c.room })

  abbrev pub plain_after : List Float → Call → List Float
  plain_after taken c = cond (accepts c) (taken ++ c.samples) taken

  abbrev pub plain_calls : List Float → List Call → List Seen
  plain_calls taken [] = []
  plain_calls taken (c ∷ cs) = plain_call taken c ∷ plain_calls (plain_after taken c) cs
