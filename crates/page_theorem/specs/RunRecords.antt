-- The claim on what a run writes (SPECIFICATION 4.7): whatever list of run calls is made on an opened run, all records that it writes are whole and accepted, so that they can be put on paper.
use Rattle.std.specs.Prelude.{None, ℕ, ◌%◌, List, ◌≡◌, Float, length}
use Rattle.run_open.specs.Opening as Opening
use Rattle.run_call.specs.Buffers.{CallBuffers}
use Rattle.run_theorem.specs.OpenedRuns.{Run, Opens, records_written}
use Rattle.record_check.specs.FirstFault.{first_fault}

abbrev pub RunRecordsAccepted : Type 0
RunRecordsAccepted =
    (taps_s taps_ac : List Float) (settings : List ℕ) (given : Opening.OpenBuffers) (r : Run) → Opens taps_s taps_ac settings given r
    → (cs : List CallBuffers) → (length (records_written r cs) % 66 ≡ 0) × (first_fault (records_written r cs) ≡ None)
