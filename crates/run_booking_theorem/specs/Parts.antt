-- A booking in parts (SPECIFICATION 10.4): each part is asked from the time at which draws ran out in the one before, and the figures are added. They are those of the whole: `Parts`, at the end of this file.
use Rattle.std.specs.Prelude.{Result, Ok, Err}
use Rattle.refusals.specs.declared.Refusal.{Refusal}
use Rattle.std.specs.Prelude.{ℕ, ◌+◌, ◌%◌, List, [], ◌∷◌, ◌≡◌, length, Float}
use Rattle.draw.specs.Draw.{draw_length}
use Rattle.run_theory.specs.Each.{Each}
use Rattle.run_theory.specs.PlainBench.{join}
use Rattle.run_booking.specs.Walk.{End, at_draw, ran_out}
use Rattle.run_booking.specs.Booking.{Figures, booking_of}

-- an index of a draw counted from n draws earlier
abbrev pub behind : {Time : Type 0} → ℕ → End Time → End Time
behind n (at_draw k) = at_draw (n + k)
behind n (ran_out t) = ran_out t

-- records and draws taken added; samples and noise values are the run's in each part
abbrev pub added : Figures Float → Figures Float → Figures Float
added f g = record { samples = f.samples; noise = f.noise; records = f.records + g.records; taken = f.taken + g.taken; end = behind f.taken g.end }

abbrev pub added_to : Figures Float → Result (Figures Float) Refusal → Result (Figures Float) Refusal
added_to f (Ok g) = Ok (added f g)
added_to f (Err q) = Err q

-- a part, and what is asked behind it: nothing once a draw ends the run
abbrev pub go_on : Figures Float → (Float → Result (Figures Float) Refusal) → End Float → Result (Figures Float) Refusal
go_on f next (at_draw k) = Ok f
go_on f next (ran_out t) = added_to f (next t)

abbrev pub and_then : Result (Figures Float) Refusal → (Float → Result (Figures Float) Refusal) → Result (Figures Float) Refusal
and_then (Ok f) next = go_on f next f.end
and_then (Err q) next = Err q

module _ (taps_s taps_ac : List Float) (settings : List ℕ) where
  -- what a host has that asks part after part, from a time on
  abbrev pub in_parts : Float → List (List ℕ) → Result (Figures Float) Refusal
  in_parts t [] = booking_of taps_s taps_ac t settings []
  in_parts t (p ∷ ps) = and_then (booking_of taps_s taps_ac t settings p) (λ t'. in_parts t' ps)

-- whole draws
abbrev pub WholeDraws : List ℕ → Type 0
WholeDraws bytes = length bytes % draw_length ≡ 0

-- Wherever draws that are accepted are cut, the parts give what the whole gives.
abbrev pub Parts : Type 0
Parts = (taps_s taps_ac : List Float) (settings : List ℕ) (t : Float) (parts : List (List ℕ)) → Each WholeDraws parts
    → (f : Figures Float) → booking_of taps_s taps_ac t settings (join parts) ≡ Ok f → in_parts taps_s taps_ac settings t parts ≡ Ok f
