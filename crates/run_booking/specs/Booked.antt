-- The code's figures in the specification's terms.
use Rattle.std.specs.Prelude.{Result, Ok, Err}
use Rattle.refusals.specs.declared.Refusal.{Refusal}
use Rattle.std.specs.Prelude.{Float}
use Rattle.run_booking.specs.Answered.{end_read}
use Rattle.run_booking.specs.declared.Figures as Code
use Rattle.run_booking.specs.Booking.{Figures}

unfoldable pub figures_read : Code.Figures → Figures Float
figures_read f = record { samples = f.samples; noise = f.noise; records = f.records; taken = f.taken; end = end_read f.end }

unfoldable pub booked_read : (Result Code.Figures Refusal) → Result (Figures Float) Refusal
booked_read (Ok f) = Ok (figures_read f)
booked_read (Err refusal) = Err refusal
