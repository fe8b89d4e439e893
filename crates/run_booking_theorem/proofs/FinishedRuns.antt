-- A finished run uses exactly what its booking says: `finished-runs`, at the end.
use Rattle.std.specs.Prelude.{Ok}
use Prim.Native.Nat.{ℕ, suc, ◌+◌, ◌*◌}
use mathlib.Core.Bool.{true}
use mathlib.Core.List.{List, [], ◌∷◌, ◌++◌, map, append-nil}
use mathlib.Core.Path.{◌≡◌, refl, sym, ap, ◌∙◌, subst}
use native.Mathlib.Nat.{zero-add}
use native.Mathlib.Omega.{arith}
use lib.ListN.{length}
use lib.Ieee.{Float, nan}
use Rattle.constants.specs.Rate.{working_memory}
use Rattle.constants.specs.Setting.{per_pulse}
use Rattle.pulse_shape.specs.Prototype.{mode_s_prototype, mode_ac_prototype}
use Rattle.run_theory.specs.FloatGenerator.{nought}
use Rattle.run_theory.specs.Zeros.{zeros}
use Rattle.run_theory.specs.Generator.{Generator}
use Rattle.run_theory.specs.PlainRun.{ended, replies}
use Rattle.run_theory.specs.PlainBench as Bench
use Rattle.run_theory.specs.Laws.{AllInRange}
use Rattle.run_theory.proofs.ListClaim as Theory
use Rattle.run_call_model.proofs.Demand3.{reached}
use Rattle.run_generator.specs.Instance.{RepresentableDraw}
use Rattle.run_generator.proofs.InstanceDemand3.{instance_laws}
use Rattle.run_call.specs.declared.State.{State}
use Rattle.run_call.specs.StateGenerator.{filters_of}
use Rattle.run_call.specs.Buffers.{Left, CallBuffers}
use Rattle.run_open.specs.Opening as Opening
use Rattle.run_open.proofs.OpenedSetting.{setting_opened, opened_at_setting}
use Rattle.run_open.proofs.WhatIsOpened.{opened_run_in_range}
use Rattle.run_theorem.specs.Seen.{Seen, seen_left, counts_of, seen_result}
use Rattle.run_theorem.specs.OpenedRuns.{Run, Opens, calls, gen, bench_calls, results, bench, draws_taken, ReachesDone, Demand3}
use Rattle.run_theorem.proofs.Demand3.{opened_runs}
use Rattle.run_booking.specs.Walk.{Walk, at_draw, walk_of, walk_from}
use Rattle.run_booking_theorem.specs.FinishedRuns.{Totals, added, in_all, Follows, Finished, FinishedRuns}
use Rattle.run_booking_theorem.proofs.Walked.{walk_ends}
use Rattle.run_booking_theorem.proofs.BenchCounts.{sum_taken, sum_samples, sum_noise, sum_records, Sums, sums}
use Rattle.run_booking_theorem.proofs.OpenedBooking.{both_in_range, booked}

-- ---- counts of calls are those of the plain bench
abbrev seen_all : List Seen → Totals
seen_all [] = record { taken = 0; samples = 0; noise = 0; records = 0 }
seen_all (x ∷ xs) = added x.counts (seen_all xs)

seen_left_lem : (ls : List Left) → seen_all (map seen_left ls) ≡ in_all ls
unfolding seen_left
seen_left_lem [] = refl
seen_left_lem (l ∷ ls) = ap (added l.ran.counts) (seen_left_lem ls)

module _ (r : Run) where
  abbrev G : Generator
  G = gen r

  counts_in_lem : (a : Bench.Answer) (n : Totals)
      → added (counts_of a) n ≡ record { taken = Theory.draws_taken a + n.taken; samples = Theory.samples_written a + n.samples; noise = Theory.noise_used a + n.noise; records = Theory.records_written a + n.records }
  unfolding counts_of
  counts_in_lem (Bench.refused q) n = refl
  counts_in_lem (Bench.ran taken samples noise records reply-samples stop) n = refl

  abbrev totals : List (Bench.Result (gen r)) → Totals
  totals xs = record { taken = sum_taken (gen r) xs; samples = sum_samples (gen r) xs; noise = sum_noise (gen r) xs; records = sum_records (gen r) xs }

  seen_results : (xs : List (Bench.Result (gen r))) → seen_all (map (seen_result r.state r.buffers.mode_s r.buffers.mode_ac) xs) ≡ totals xs
  unfolding seen_result
  seen_results [] = refl
  seen_results (x ∷ xs) = ap (added (counts_of x.answer)) (seen_results xs) ∙ counts_in_lem x.answer (totals xs)

-- ---- a run opened to its buffers
module _ (taps_s taps_ac : List Float) (settings : List ℕ) (given : Opening.OpenBuffers) (s : State) (opens : Opening.opened_of taps_s taps_ac settings given ≡ Ok s) where
  abbrev run : Run
  run = record { state = s; buffers = record { mode_s = mode_s_prototype (per_pulse s.setting) taps_s; mode_ac = mode_ac_prototype (per_pulse s.setting) taps_ac; memory = zeros (working_memory (per_pulse s.setting)) } }

  is_opened : Opens taps_s taps_ac settings given run
  unfolding Opening.left_by
  is_opened = record { answers = opens; leaves = refl }

  module _ (cs : List CallBuffers) (d : ReachesDone (calls run cs)) (bytes : List ℕ) (F : Follows run cs bytes) where
    D : Demand3 taps_s taps_ac settings run
    D = opened_runs taps_s taps_ac settings given run is_opened

    abbrev H : Generator
    H = gen run

    abbrev B : Bench.Bench (gen run)
    B = bench run cs

    S : Sums (gen run) (Bench.bench0 (gen run)) (results run cs) (bench run cs)
    S = sums (gen run) (bench_calls run cs) (Bench.bench0 (gen run))

    counts_are : in_all (calls run cs) ≡ record { taken = sum_taken (gen run) (results run cs); samples = sum_samples (gen run) (results run cs); noise = sum_noise (gen run) (results run cs); records = sum_records (gen run) (results run cs) }
    counts_are = sym (seen_left_lem (calls run cs)) ∙ ap seen_all (D.answers cs) ∙ seen_results run (results run cs)

    -- the bench used as many noise pairs as the run has samples
    used_all : length (bench run cs).used ≡ s.total
    used_all =
        let a : ◌≡◌ {A = ℕ} _ (2 * s.total) = (D.whole cs d).1 in
        let b = D.written cs ∙ ap (λ (x : State). 2 * x.written) (D.state cs) in
        half (length (bench run cs).used) s.total (sym b ∙ a)
      where
        half : (a b : ℕ) → 2 * a ≡ 2 * b → a ≡ b
        half a b e = omega arith

    over : ended (gen run) (gen run).t0 (bench run cs).taken ≡ true
    over = ap (λ (l : List RepresentableDraw). ended (gen run) (gen run).t0 l) (sym (D.taken cs)) ∙ (D.whole cs d).0

    found : (last : ℕ) × ((es : List RepresentableDraw) → walk_from (gen run) 0 0 (gen run).t0 ((bench run cs).taken ++ es) ≡ record { records = 0 + length (replies (gen run) (gen run).t0 (bench run cs).taken); taken = suc last; end = at_draw last })
    found = walk_ends (gen run) 0 0 (gen run).t0 (bench run cs).taken over

    all_taken_lem : suc found.0 ≡ length (bench run cs).taken
    all_taken_lem =
        sym (ap (λ (w : Walk Float). w.taken) (ap (walk_from (gen run) 0 0 (gen run).t0) (sym (append-nil (bench run cs).taken)) ∙ found.1 []))
        ∙ S.all_taken_lem refl

    draws_are : Bench.draws_of (gen run) bytes ≡ (bench run cs).taken ++ F.behind
    draws_are = F.holds ∙ ap (λ (l : List RepresentableDraw). l ++ F.behind) (D.taken cs)

    in_range : AllInRange (gen run) (Bench.draws_of (gen run) bytes)
    in_range =
        let q = opened_run_in_range taps_s taps_ac settings given s opens in
        let b = reached (gen run) (instance_laws (filters_of s (mode_s_prototype (per_pulse s.setting) taps_s) (mode_ac_prototype (per_pulse s.setting) taps_ac)) q.0 s.total q.1) nan (bench_calls run cs) in
        subst (AllInRange (gen run)) (sym draws_are) (both_in_range (gen run) (bench run cs).taken F.behind b.in_range F.in_range)

    finished : Finished taps_s taps_ac settings run cs bytes
    finished = record {
      last = found.0;
      taken = ap (λ (n : Totals). n.taken) counts_are ∙ sym (zero-add _) ∙ S.taken ∙ sym all_taken_lem;
      booked =
          booked taps_s taps_ac settings s.setting s nought bytes (setting_opened taps_s taps_ac settings given s opens) (opened_at_setting taps_s taps_ac settings given s opens) F.whole in_range
          ∙ (λ i. Ok (record {
            samples = samples_are i;
            noise = noise_are i;
            records = records_are i;
            taken = (walked i).taken;
            end = (walked i).end;
          }));
    }
      where
        walked : walk_of (gen run) (gen run).t0 (Bench.draws_of (gen run) bytes) ≡ record { records = 0 + length (replies (gen run) (gen run).t0 (bench run cs).taken); taken = suc found.0; end = at_draw found.0 }
        walked = ap (walk_from (gen run) 0 0 (gen run).t0) draws_are ∙ found.1 F.behind

        samples_are : s.total ≡ (in_all (calls run cs)).samples
        samples_are = sym used_all ∙ sym S.samples ∙ zero-add _ ∙ sym (ap (λ (n : Totals). n.samples) counts_are)

        noise_are : 2 * s.total ≡ (in_all (calls run cs)).noise
        noise_are = ap (λ (n : ℕ). 2 * n) (sym used_all) ∙ sym S.noise ∙ zero-add _ ∙ sym (ap (λ (n : Totals). n.noise) counts_are)

        records_are : (walk_of (gen run) (gen run).t0 (Bench.draws_of (gen run) bytes)).records ≡ (in_all (calls run cs)).records
        records_are = ap (λ (w : Walk Float). w.records) walked ∙ zero-add _ ∙ sym S.records ∙ zero-add _ ∙ sym (ap (λ (n : Totals). n.records) counts_are)

pub finished_runs : FinishedRuns
unfolding Opening.left_by
finished_runs taps_s taps_ac settings given r o =
    subst (λ (x : Run). (cs : List CallBuffers) → ReachesDone (calls x cs) → (bytes : List ℕ) → Follows x cs bytes → Finished taps_s taps_ac settings x cs bytes) (λ i. record { state = r.state; buffers = sym o.leaves i })
    (λ cs d bytes F. finished taps_s taps_ac settings given r.state o.answers cs d bytes F)
