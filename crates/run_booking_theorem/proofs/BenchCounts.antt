-- What a list of calls on the plain bench counts in all is what the bench took and used; and the draws that it took end at the end draw, if that is among them.
use Rattle.std.specs.Prelude.{Option, Some, None}
use Prim.Native.Nat.{ℕ, zero, suc, ◌+◌, ◌-◌, ◌*◌, ◌≤◌}
use mathlib.Core.Bool.{false}
use mathlib.Core.List.{List, [], ◌∷◌, ◌++◌}
use mathlib.Core.Path.{◌≡◌, refl, sym, ap, ◌∙◌}
use native.Mathlib.Omega.{arith}
use lib.ListN.{length, length-append}
use Rattle.run_theory.specs.Generator.{Generator, NoisePair}
use Rattle.run_theory.specs.PlainRun.{Kind, ignored, ends, reply, kind, time_of, ended, push, replies}
use Rattle.run_theory.specs.PlainBench.{Refusal, Call, Result, Remaining, remaining_of, Step, halt, drain, due, taking, latest, Bench, Benched, bench_step, bench_on, bench_steps, fuel, result_of, refusal_of, bench_call, bench_run, bench_results, bench_after}
use Rattle.run_theory.proofs.PlainFacts.{length_snoc, replies_append}
use Rattle.run_theory.proofs.StepFacts.{used_slots, Says, step_says}
use Rattle.run_theory.proofs.ListClaim.{draws_taken, samples_written, noise_used, records_written}
use Rattle.run_booking.specs.Walk.{Walk, by_kind, at_draw, walk_from, walk_of}
use Rattle.run_booking_theorem.proofs.Walked.{walk_on}

module _ (G : Generator) where
  open G use {Draw, Time, t0, after}

  -- a walk over the draws taken takes all of them
  abbrev pub AllTaken : List Draw → Type 0
  AllTaken ds = (walk_of G t0 ds).taken ≡ length ds

  -- one more draw is taken only where none ends the run
  all_taken_on : (ds : List Draw) (d : Draw) → ended G t0 ds ≡ false → AllTaken (ds ++ (d ∷ []))
  all_taken_on ds d h =
      ap (λ (w : Walk Time). w.taken) (walk_on G 0 0 t0 ds (d ∷ []) h)
      ∙ one (0 + length ds) (0 + length (replies G t0 ds)) (kind G (after (time_of G t0 ds) d) d)
      ∙ sym (length_snoc ds d ∙ omega arith)
    where
      one : (k n : ℕ) (x : Kind) → (by_kind x (walk_from G (suc k) n (after (time_of G t0 ds) d) []) (record { records = n; taken = suc k; end = at_draw k }) (walk_from G (suc k) (suc n) (after (time_of G t0 ds) d) [])).taken ≡ suc k
      one k n ignored = refl
      one k n ends = refl
      one k n (reply s) = refl

  slots_of : (t : Time) (d : Draw) (k : Kind) → kind G (after t d) d ≡ k → length (replies G t (d ∷ [])) ≡ used_slots G k
  slots_of t d k e = ap (λ (x : Kind). length (push G x (after t d) d [])) e ∙ by k
    where
      by : (x : Kind) → length (push G x (after t d) d []) ≡ used_slots G x
      by ignored = refl
      by ends = refl
      by (reply s) = refl

  replies_on : (ds : List Draw) (d : Draw) (k : Kind) → ended G t0 ds ≡ false → kind G (after (time_of G t0 ds) d) d ≡ k → length (replies G t0 (ds ++ (d ∷ []))) ≡ length (replies G t0 ds) + used_slots G k
  replies_on ds d k h e =
      ap length (replies_append G t0 ds (d ∷ []) h)
      ∙ length-append (replies G t0 ds) (replies G (time_of G t0 ds) (d ∷ []))
      ∙ ap (λ (n : ℕ). length (replies G t0 ds) + n) (slots_of (time_of G t0 ds) d k e)

  -- ---- the steps of a call
  record Used (b : Bench G) (l : Remaining G) (r : Benched G) : Type 0 where
    draws : length r.bench.taken + length r.rest.draws ≡ length b.taken + length l.draws
    fewer_draws : length r.rest.draws ≤ length l.draws
    noise : length r.bench.used + length r.rest.noise ≡ length b.used + length l.noise
    less_noise : length r.rest.noise ≤ length l.noise
    room : length r.bench.used + r.rest.room ≡ length b.used + l.room
    less_room : r.rest.room ≤ l.room
    slots : length (replies G t0 r.bench.taken) + r.rest.slots ≡ length (replies G t0 b.taken) + l.slots
    fewer_slots : r.rest.slots ≤ l.slots
    all_taken_lem : AllTaken b.taken → AllTaken r.bench.taken

  nothing : (b : Bench G) (l : Remaining G) (r : Benched G) → r.bench ≡ b → r.rest ≡ l → Used b l r
  nothing b l r e f = record {
    draws = λ i. length (e i).taken + length (f i).draws;
    fewer_draws = omega (arith, ap (λ (x : Remaining G). length x.draws) f);
    noise = λ i. length (e i).used + length (f i).noise;
    less_noise = omega (arith, ap (λ (x : Remaining G). length x.noise) f);
    room = λ i. length (e i).used + (f i).room;
    less_room = omega (arith, ap (λ (x : Remaining G). x.room) f);
    slots = λ i. length (replies G t0 (e i).taken) + (f i).slots;
    fewer_slots = omega (arith, ap (λ (x : Remaining G). x.slots) f);
    all_taken_lem = λ h. ap (λ (x : Bench G). (walk_of G t0 x.taken).taken) e ∙ h ∙ ap (λ (x : Bench G). length x.taken) (sym e);
  }

  module _ (b : Bench G) (l : Remaining G) (go : Bench G → Remaining G → Benched G) (ih : (b' : Bench G) (l' : Remaining G) → Used b' l' (go b' l')) where
    used_one : (v : NoisePair G) (m : Option Time) (l' : Remaining G) → l'.draws ≡ l.draws → l.noise ≡ v ∷ l'.noise → l.room ≡ suc l'.room → l'.slots ≡ l.slots
        → Used b l (go (record { taken = b.taken; used = b.used ++ (v ∷ []); mark = m }) l')
    used_one v m l' ds vs rm sl =
        let k = ih (record { taken = b.taken; used = b.used ++ (v ∷ []); mark = m }) l' in
        let n = length_snoc b.used v in
        record {
          draws = k.draws ∙ ap (λ (x : List Draw). length b.taken + length x) ds;
          fewer_draws = omega (arith, k.fewer_draws, ap length ds);
          noise = omega (arith, k.noise, n, ap length vs);
          less_noise = omega (arith, k.less_noise, ap length vs);
          room = omega (arith, k.room, n, rm);
          less_room = omega (arith, k.less_room, rm);
          slots = omega (arith, k.slots, sl);
          fewer_slots = omega (arith, k.fewer_slots, sl);
          all_taken_lem = k.all_taken_lem;
        }

    used_on : (c : Step G) → Says G (ended G t0 b.taken) (length b.used) (time_of G t0 b.taken) l c → Used b l (bench_on G go b l c)
    used_on (halt s) f = nothing b l (record { bench = b; rest = l; stop = s }) refl refl
    used_on (drain v l') f = used_one v b.mark l' f.draws f.noise f.room f.slots
    used_on (due t v l') f = used_one v (latest G b.mark t) l' f.draws f.noise f.room f.slots
    used_on (taking d k l') f =
        let m = ih (record { taken = b.taken ++ (d ∷ []); used = b.used; mark = b.mark }) l' in
        let n = length_snoc b.taken d in
        let q = replies_on b.taken d k f.going f.is in
        record {
          draws = omega (arith, m.draws, n, ap length f.draws);
          fewer_draws = omega (arith, m.fewer_draws, ap length f.draws);
          noise = m.noise ∙ ap (λ (x : List (NoisePair G)). length b.used + length x) f.noise;
          less_noise = omega (arith, m.less_noise, ap length f.noise);
          room = omega (arith, m.room, f.room);
          less_room = omega (arith, m.less_room, f.room);
          slots = omega (arith, m.slots, q, f.slots);
          fewer_slots = omega (arith, m.fewer_slots, f.slots);
          all_taken_lem = λ h. m.all_taken_lem (all_taken_on b.taken d f.going);
        }

  steps_used : (f : ℕ) (b : Bench G) (l : Remaining G) → Used b l (bench_steps G f b l)
  steps_used zero b l = nothing b l (bench_steps G zero b l) refl refl
  steps_used (suc f) b l =
      used_on b l (λ b' l'. bench_steps G f b' l') (λ b' l'. steps_used f b' l') (bench_step G b l)
      (step_says G (ended G t0 b.taken) (length b.used) (time_of G t0 b.taken) l.draws l.noise l.room l.slots)

  -- ---- a list of calls
  abbrev pub sum_taken : List (Result G) → ℕ
  sum_taken [] = 0
  sum_taken (x ∷ xs) = draws_taken x.answer + sum_taken xs

  abbrev pub sum_samples : List (Result G) → ℕ
  sum_samples [] = 0
  sum_samples (x ∷ xs) = samples_written x.answer + sum_samples xs

  abbrev pub sum_noise : List (Result G) → ℕ
  sum_noise [] = 0
  sum_noise (x ∷ xs) = noise_used x.answer + sum_noise xs

  abbrev pub sum_records : List (Result G) → ℕ
  sum_records [] = 0
  sum_records (x ∷ xs) = records_written x.answer + sum_records xs

  pub record Sums (b : Bench G) (xs : List (Result G)) (b' : Bench G) : Type 0 where
    pub taken : length b.taken + sum_taken xs ≡ length b'.taken
    pub samples : length b.used + sum_samples xs ≡ length b'.used
    pub noise : 2 * length b.used + sum_noise xs ≡ 2 * length b'.used
    pub records : length (replies G t0 b.taken) + sum_records xs ≡ length (replies G t0 b'.taken)
    pub all_taken_lem : AllTaken b.taken → AllTaken b'.taken

  one_call : (b : Bench G) (c : Call G) (x : Option Refusal) → Sums b (result_of G c (bench_call G b c x).0 ∷ []) (bench_call G b c x).1
  one_call b c (Some q) = record { taken = omega arith; samples = omega arith; noise = omega arith; records = omega arith; all_taken_lem = λ h. h }
  one_call b c None =
      let l = remaining_of G c in
      let u = steps_used (fuel G l) b l in
      record {
        taken = omega (arith, u.draws, u.fewer_draws);
        samples = omega (arith, u.room, u.less_room);
        noise = omega (arith, u.noise, u.less_noise);
        records = omega (arith, u.slots, u.fewer_slots);
        all_taken_lem = u.all_taken_lem;
      }

  pub sums : (cs : List (Call G)) (b : Bench G) → Sums b (bench_results G b cs) (bench_after G b cs)
  sums [] b = record { taken = omega arith; samples = omega arith; noise = omega arith; records = omega arith; all_taken_lem = λ h. h }
  sums (c ∷ cs) b =
      let x = one_call b c (refusal_of G (time_of G t0 b.taken) b.mark c) in
      let y = sums cs (bench_run G b c).1 in
      record {
        taken = omega (arith, x.taken, y.taken);
        samples = omega (arith, x.samples, y.samples);
        noise = omega (arith, x.noise, y.noise);
        records = omega (arith, x.records, y.records);
        all_taken_lem = λ h. y.all_taken_lem (x.all_taken_lem h);
      }
