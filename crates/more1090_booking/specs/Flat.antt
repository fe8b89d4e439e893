-- What a booking answers, as C has it: plain numbers, refusal 0 for none.
use Rattle.std.specs.Prelude.{Result, Ok, Err}
use Rattle.refusals.specs.declared.Refusal.{Refusal}
use Rattle.std.specs.Prelude.{Float}
use Rattle.std.specs.Float.{binary64}
use Rattle.std.specs.Float.Ieee.{of_bits}
use Rattle.refusals.specs.Number.{number_of}
use Rattle.refusals.specs.Flat.{values_flat}
use Rattle.run_booking.specs.Walk.{End, at_draw, ran_out}
use Rattle.run_booking.specs.Booking.{Figures}
use Rattle.more1090_booking.specs.declared.FlatBooking.{FlatBooking}

abbrev pub zero64 : Float
zero64 = of_bits binary64 0

-- ended is 1 where a draw ends the run, with its index, and 0 where draws ran out, with their time
unfoldable pub ended_flat : Figures Float → End Float → FlatBooking
ended_flat f (at_draw k) =
    record { samples = f.samples; noise = f.noise; records = f.records; taken = f.taken; ended = 1; draw = k; time = zero64; refusal = 0; value = 0; field = 0 }
ended_flat f (ran_out t) =
    record { samples = f.samples; noise = f.noise; records = f.records; taken = f.taken; ended = 0; draw = 0; time = t; refusal = 0; value = 0; field = 0 }

-- a refusal has no figures
unfoldable pub booking_flat : Result (Figures Float) Refusal → FlatBooking
booking_flat (Ok f) = ended_flat f f.end
booking_flat (Err q) =
    record { samples = 0; noise = 0; records = 0; taken = 0; ended = 0; draw = 0; time = zero64; refusal = number_of q; value = (values_flat q).value; field = (values_flat q).field }
