-- A finished run uses exactly what its booking says (SPECIFICATION 10.4), hypothesis and claim in one statement: `FinishedRuns`, at the end of this file.
use Rattle.std.specs.Prelude.{Ok}
use Rattle.std.specs.Prelude.{ℕ, suc, ◌+◌, ◌%◌, List, [], ◌∷◌, ◌++◌, ◌≡◌, length, Float}
use Rattle.draw.specs.Draw.{draw_length}
use Rattle.run_theory.specs.FloatGenerator.{nought}
use Rattle.run_theory.specs.PlainBench as Bench
use Rattle.run_theory.specs.Laws.{AllInRange}
use Rattle.run_generator.specs.Instance.{RepresentableDraw}
use Rattle.run_call.specs.declared.Counts.{Counts}
use Rattle.run_call.specs.Buffers.{Left, CallBuffers}
use Rattle.run_open.specs.Opening as Opening
use Rattle.run_theorem.specs.OpenedRuns.{Run, Opens, calls, gen, draws_taken, ReachesDone}
use Rattle.run_booking.specs.Walk.{at_draw}
use Rattle.run_booking.specs.Booking.{booking_of}

-- draws taken, samples written, noise values used and records written by a list of calls in all
pub record Totals : Type 0 where
  pub taken : ℕ
  pub samples : ℕ
  pub noise : ℕ
  pub records : ℕ

abbrev pub added : Counts → Totals → Totals
added a b = record { taken = a.taken + b.taken; samples = a.samples + b.samples; noise = a.noise + b.noise; records = a.records + b.records }

abbrev pub in_all : List Left → Totals
in_all [] = record { taken = 0; samples = 0; noise = 0; records = 0 }
in_all (l ∷ ls) = added l.ran.counts (in_all ls)

-- draw bytes that hold the draws that a list of calls took, and then any draws in range
pub record Follows (r : Run) (cs : List CallBuffers) (bytes : List ℕ) : Type 0 where
  pub whole : length bytes % draw_length ≡ 0
  pub behind : List RepresentableDraw
  pub in_range : AllInRange (gen r) behind
  pub holds : Bench.draws_of (gen r) bytes ≡ draws_taken r cs ++ behind

-- Where a list of run calls on an opened run reaches Done, a booking of the draws taken, whatever draws in range are put after, is accepted: its samples, noise values and records are those of the list in all,
-- and the draw that ends the run is the last one taken.
pub record Finished (taps_s taps_ac : List Float) (settings : List ℕ) (r : Run) (cs : List CallBuffers) (bytes : List ℕ) : Type 0 where
  pub last : ℕ
  pub taken : (in_all (calls r cs)).taken ≡ suc last
  pub booked :
      booking_of taps_s taps_ac nought settings bytes
      ≡ Ok (record { samples = (in_all (calls r cs)).samples; noise = (in_all (calls r cs)).noise; records = (in_all (calls r cs)).records; taken = suc last; end = at_draw last })

abbrev pub FinishedRuns : Type 0
FinishedRuns = (taps_s taps_ac : List Float) (settings : List ℕ) (given : Opening.OpenBuffers) (r : Run) → Opens taps_s taps_ac settings given r
    → (cs : List CallBuffers) → ReachesDone (calls r cs) → (bytes : List ℕ) → Follows r cs bytes → Finished taps_s taps_ac settings r cs bytes
