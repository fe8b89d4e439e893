-- A list of nine calls computed: refusals, draws given and replaced, a jump back, Done, and a call after Done.
-- Every number is what an independent reading of SPECIFICATION 9 and 10 gives.
use mathlib.Core.List.{List, [], ◌∷◌}
use mathlib.Core.Path.{◌≡◌, refl}
use Prim.Native.Nat.{ℕ}
use Rattle.run_theory.specs.PlainRun.{plain_added}
use Rattle.run_theory.specs.PlainBench.{Call, Result, refused, ran, wrong_length, wrong_draw, wrong_noise, done, output_full, wants_noise, wants_draws, records_full, bench0, bench_results}
use Rattle.run_theory.specs.Demand3.{bench, plain_output, plain_lines}
use Rattle.run_call_model.specs.Machine.{runs}
use Rattle.run_theory.proofs.ListClaim.{all_samples, all_records, all_added}
use Rattle.test_run_theory.specs.Small.{small_of, small}

abbrev pub calls : List (Call small)
calls =
    -- an ignored draw whose time counts, a reply at sample 1, and one by whose start a sample is due and for which no record bytes are left
    record { draws = 1 ∷ 2 ∷ 70 ∷ 1 ∷ 1 ∷ 10 ∷ 1 ∷ 0 ∷ 20 ∷ []; noise = (1 ∷ []) ∷ (2 ∷ []) ∷ (3 ∷ []) ∷ []; output = (99 ∷ []) ∷ (99 ∷ []) ∷ (99 ∷ []) ∷ (99 ∷ []) ∷ []; records = 7 ∷ 7 ∷ 7 ∷ 7 ∷ [] }
    -- refused: the delay of draw 1; the noise value at index 1; draw bytes of a wrong length
    ∷ record { draws = 1 ∷ 0 ∷ 20 ∷ 1 ∷ 3 ∷ 0 ∷ []; noise = (1 ∷ []) ∷ (2 ∷ []) ∷ []; output = (99 ∷ []) ∷ (99 ∷ []) ∷ (99 ∷ []) ∷ (99 ∷ []) ∷ []; records = 7 ∷ 7 ∷ 7 ∷ [] }
    ∷ record { draws = 1 ∷ 0 ∷ 20 ∷ []; noise = (1 ∷ []) ∷ (1 ∷ 1 ∷ []) ∷ []; output = (99 ∷ []) ∷ (99 ∷ []) ∷ (99 ∷ []) ∷ (99 ∷ []) ∷ []; records = 7 ∷ 7 ∷ 7 ∷ [] }
    ∷ record { draws = 1 ∷ 0 ∷ []; noise = (1 ∷ []) ∷ (2 ∷ []) ∷ []; output = (99 ∷ []) ∷ (99 ∷ []) ∷ (99 ∷ []) ∷ (99 ∷ []) ∷ []; records = 7 ∷ 7 ∷ 7 ∷ [] }
    -- that draw is taken; by the start of the next, at time 7, one sample is written, and a noise value is left over
    ∷ record { draws = 1 ∷ 0 ∷ 20 ∷ 4 ∷ 0 ∷ 30 ∷ []; noise = (1 ∷ []) ∷ (2 ∷ []) ∷ (3 ∷ []) ∷ []; output = (99 ∷ []) ∷ (99 ∷ []) ∷ (99 ∷ []) ∷ (99 ∷ []) ∷ []; records = 7 ∷ 7 ∷ 7 ∷ 7 ∷ 7 ∷ [] }
    -- passed again, two more are written by its start; it is still untaken
    ∷ record { draws = 4 ∷ 0 ∷ 30 ∷ []; noise = (3 ∷ []) ∷ (4 ∷ []) ∷ (5 ∷ []) ∷ (6 ∷ []) ∷ (7 ∷ []) ∷ (8 ∷ []) ∷ (9 ∷ []) ∷ []; output = (99 ∷ []) ∷ (99 ∷ []) ∷ (99 ∷ []) ∷ (99 ∷ []) ∷ []; records = 7 ∷ 7 ∷ 7 ∷ [] }
    -- replaced by a draw at time 6, which jumps back
    ∷ record { draws = 3 ∷ 2 ∷ 40 ∷ []; noise = (7 ∷ []) ∷ (8 ∷ []) ∷ []; output = (99 ∷ []) ∷ (99 ∷ []) ∷ []; records = 7 ∷ 7 ∷ 7 ∷ [] }
    -- replaced by a draw at time 7, which does not, with the end draw, which is not recorded, and one behind it
    ∷ record { draws = 4 ∷ 2 ∷ 40 ∷ 20 ∷ 0 ∷ 50 ∷ 0 ∷ 0 ∷ 60 ∷ []; noise = (7 ∷ []) ∷ (8 ∷ []) ∷ (9 ∷ []) ∷ (10 ∷ []) ∷ (11 ∷ []) ∷ (12 ∷ []) ∷ (13 ∷ []) ∷ (14 ∷ []) ∷ (15 ∷ []) ∷ (16 ∷ []) ∷ (17 ∷ []) ∷ (18 ∷ []) ∷ (19 ∷ []) ∷ (20 ∷ []) ∷ (21 ∷ []) ∷ (22 ∷ []) ∷ (23 ∷ []) ∷ (24 ∷ []) ∷ (25 ∷ []) ∷ (26 ∷ []) ∷ (27 ∷ []) ∷ (28 ∷ []) ∷ (29 ∷ []) ∷ (30 ∷ []) ∷ []; output = (99 ∷ []) ∷ (99 ∷ []) ∷ (99 ∷ []) ∷ (99 ∷ []) ∷ (99 ∷ []) ∷ (99 ∷ []) ∷ (99 ∷ []) ∷ (99 ∷ []) ∷ (99 ∷ []) ∷ (99 ∷ []) ∷ (99 ∷ []) ∷ (99 ∷ []) ∷ (99 ∷ []) ∷ (99 ∷ []) ∷ (99 ∷ []) ∷ (99 ∷ []) ∷ (99 ∷ []) ∷ (99 ∷ []) ∷ (99 ∷ []) ∷ (99 ∷ []) ∷ (99 ∷ []) ∷ (99 ∷ []) ∷ (99 ∷ []) ∷ (99 ∷ []) ∷ (99 ∷ []) ∷ (99 ∷ []) ∷ (99 ∷ []) ∷ (99 ∷ []) ∷ (99 ∷ []) ∷ (99 ∷ []) ∷ []; records = 7 ∷ 7 ∷ 7 ∷ 7 ∷ 7 ∷ 7 ∷ 7 ∷ 7 ∷ 7 ∷ [] }
    -- after Done
    ∷ record { draws = 0 ∷ 0 ∷ 60 ∷ []; noise = []; output = (99 ∷ []) ∷ (99 ∷ []) ∷ []; records = [] }
    ∷ []

abbrev pub results : List (Result small)
results =
    record { answer = ran 2 1 2 1 3 records_full; output = (1 ∷ []) ∷ (2 ∷ []) ∷ (99 ∷ []) ∷ (99 ∷ []) ∷ []; records = 2 ∷ 1 ∷ 3 ∷ 7 ∷ [] }
    ∷ record { answer = refused (wrong_draw 1 1); output = (99 ∷ []) ∷ (99 ∷ []) ∷ (99 ∷ []) ∷ (99 ∷ []) ∷ []; records = 7 ∷ 7 ∷ 7 ∷ [] }
    ∷ record { answer = refused (wrong_noise 1); output = (99 ∷ []) ∷ (99 ∷ []) ∷ (99 ∷ []) ∷ (99 ∷ []) ∷ []; records = 7 ∷ 7 ∷ 7 ∷ [] }
    ∷ record { answer = refused wrong_length; output = (99 ∷ []) ∷ (99 ∷ []) ∷ (99 ∷ []) ∷ (99 ∷ []) ∷ []; records = 7 ∷ 7 ∷ 7 ∷ [] }
    ∷ record { answer = ran 1 1 2 1 3 wants_noise; output = (10 ∷ 1 ∷ []) ∷ (2 ∷ []) ∷ (99 ∷ []) ∷ (99 ∷ []) ∷ []; records = 3 ∷ 3 ∷ 3 ∷ 7 ∷ 7 ∷ [] }
    ∷ record { answer = ran 0 2 4 0 0 output_full; output = (11 ∷ 3 ∷ []) ∷ (4 ∷ []) ∷ (12 ∷ 20 ∷ 5 ∷ []) ∷ (10 ∷ 6 ∷ []) ∷ []; records = 7 ∷ 7 ∷ 7 ∷ [] }
    ∷ record { answer = refused (wrong_draw 0 0); output = (99 ∷ []) ∷ (99 ∷ []) ∷ []; records = 7 ∷ 7 ∷ 7 ∷ [] }
    ∷ record { answer = ran 2 8 16 1 3 done; output = (21 ∷ 7 ∷ []) ∷ (8 ∷ []) ∷ (22 ∷ 40 ∷ 9 ∷ []) ∷ (20 ∷ 10 ∷ []) ∷ (41 ∷ 11 ∷ []) ∷ (12 ∷ []) ∷ (42 ∷ 13 ∷ []) ∷ (40 ∷ 14 ∷ []) ∷ (15 ∷ []) ∷ (16 ∷ []) ∷ (17 ∷ []) ∷ (18 ∷ []) ∷ (19 ∷ []) ∷ (20 ∷ []) ∷ (21 ∷ []) ∷ (22 ∷ []) ∷ (99 ∷ []) ∷ (99 ∷ []) ∷ (99 ∷ []) ∷ (99 ∷ []) ∷ (99 ∷ []) ∷ (99 ∷ []) ∷ (99 ∷ []) ∷ (99 ∷ []) ∷ (99 ∷ []) ∷ (99 ∷ []) ∷ (99 ∷ []) ∷ (99 ∷ []) ∷ (99 ∷ []) ∷ (99 ∷ []) ∷ []; records = 7 ∷ 5 ∷ 3 ∷ 7 ∷ 7 ∷ 7 ∷ 7 ∷ 7 ∷ 7 ∷ [] }
    ∷ record { answer = ran 0 0 0 0 0 done; output = (99 ∷ []) ∷ (99 ∷ []) ∷ []; records = [] }
    ∷ []

-- the machine gives them
pub machine_gives : runs small [] calls ≡ results
machine_gives = refl

-- and so does the plain bench
pub bench_gives : bench_results small (bench0 small) calls ≡ results
bench_gives = refl

-- all samples and records, joined, are the plain run on the draws taken and noise used
abbrev pub samples : List (List ℕ)
samples = (1 ∷ []) ∷ (2 ∷ []) ∷ (10 ∷ 1 ∷ []) ∷ (2 ∷ []) ∷ (11 ∷ 3 ∷ []) ∷ (4 ∷ []) ∷ (12 ∷ 20 ∷ 5 ∷ []) ∷ (10 ∷ 6 ∷ []) ∷ (21 ∷ 7 ∷ []) ∷ (8 ∷ []) ∷ (22 ∷ 40 ∷ 9 ∷ []) ∷ (20 ∷ 10 ∷ []) ∷ (41 ∷ 11 ∷ []) ∷ (12 ∷ []) ∷ (42 ∷ 13 ∷ []) ∷ (40 ∷ 14 ∷ []) ∷ (15 ∷ []) ∷ (16 ∷ []) ∷ (17 ∷ []) ∷ (18 ∷ []) ∷ (19 ∷ []) ∷ (20 ∷ []) ∷ (21 ∷ []) ∷ (22 ∷ []) ∷ []

abbrev pub records : List ℕ
records = 2 ∷ 1 ∷ 3 ∷ 3 ∷ 3 ∷ 3 ∷ 7 ∷ 5 ∷ 3 ∷ []

pub all_written : all_samples small results ≡ samples
all_written = refl

pub all_recorded : all_records small results ≡ records
all_recorded = refl

pub plain_gives : plain_output small (bench small calls).taken (bench small calls).used ≡ samples
plain_gives = refl

pub plain_records_lem : plain_lines small (bench small calls).taken ≡ records
plain_records_lem = refl

-- reply samples added: three for each of three replies
pub all_added_lem : all_added small results ≡ 9
all_added_lem = refl

pub plain_added_lem : plain_added small (bench small calls).taken ≡ 9
plain_added_lem = refl

-- ---- short runs: a draw at time 1 that starts before sample 0, then one that starts at 1 - 1 = 0
abbrev pub short : (total : ℕ) → List (Call (small_of total))
short total = record { draws = 1 ∷ 2 ∷ 10 ∷ 0 ∷ 1 ∷ 20 ∷ []; noise = (1 ∷ []) ∷ (2 ∷ []) ∷ (3 ∷ []) ∷ (4 ∷ []) ∷ []; output = [] ∷ [] ∷ [] ∷ [] ∷ []; records = 7 ∷ 7 ∷ 7 ∷ [] } ∷ []

-- a run of 0 samples is Done once its end draw is taken
pub no_samples : runs (small_of 0) [] (short 0) ≡ record { answer = ran 2 0 0 0 0 done; output = [] ∷ [] ∷ [] ∷ [] ∷ []; records = 7 ∷ 7 ∷ 7 ∷ [] } ∷ []
no_samples = refl

-- a run of as many samples as the limit holds no reply at all; one sample more, and it may hold one at 0
pub at_limit : runs (small_of 3) [] (short 3) ≡ record { answer = ran 2 2 4 0 0 output_full; output = (1 ∷ []) ∷ (2 ∷ []) ∷ (3 ∷ []) ∷ (4 ∷ []) ∷ []; records = 7 ∷ 7 ∷ 7 ∷ [] } ∷ []
at_limit = refl

pub above_limit : runs (small_of 4) [] (short 4) ≡ record { answer = ran 2 0 0 1 3 wants_draws; output = [] ∷ [] ∷ [] ∷ [] ∷ []; records = 1 ∷ 0 ∷ 3 ∷ [] } ∷ []
above_limit = refl
