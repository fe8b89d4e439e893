-- What a call's steps use up of the buffers: the counts of an answer are those of the draws taken, noise used, samples and records.
use Rattle.std.specs.Prelude.{Option}
use mathlib.Core.List.{List, [], ◌∷◌, ◌++◌, append-nil, append_assoc}
use mathlib.Core.Path.{◌≡◌, refl, sym, ap, ◌∙◌}
use Prim.Native.Nat.{ℕ, zero, suc, ◌+◌, ◌≤◌}
use native.Mathlib.Omega.{arith}
use lib.ListN.{length}
use Rattle.run_theory.specs.Generator.{Generator, NoisePair}
use Rattle.run_theory.specs.PlainRun.{Kind, ignored, ends, reply, time_of, ended}
use Rattle.run_theory.specs.PlainBench.{Remaining, Step, halt, drain, due, taking, latest, Bench, Benched, bench_step, bench_on, bench_steps}
use Rattle.run_call_model.specs.Machine.{later, State, Ran, state_step, state_after_sample, state_after_draw, noted, machine_on, machine_steps}
use Rattle.run_theory.proofs.StepFacts.{Says, step_says, Takes}
use Rattle.run_call_model.proofs.FlatLists.{AllOf}

module _ (G : Generator) where
  open G use {Draw, Time, t0, after, adds, entry, record_bytes}

  -- the bench took the first of the draws and used the first of the noise
  pub record Moved (b : Bench G) (l : Remaining G) (r : Benched G) : Type 0 where
    pub tk : List Draw
    pub us : List (NoisePair G)
    pub taken : r.bench.taken ≡ b.taken ++ tk
    pub used : r.bench.used ≡ b.used ++ us
    pub draws : l.draws ≡ tk ++ r.rest.draws
    pub noise : l.noise ≡ us ++ r.rest.noise

  module _ (b : Bench G) (l : Remaining G) (go : Bench G → Remaining G → Benched G) (ih : (b' : Bench G) (l' : Remaining G) → Moved b' l' (go b' l')) where
    -- a sample written, whatever the latest time is then
    used_one : (v : NoisePair G) (m : Option Time) (l' : Remaining G) → l'.draws ≡ l.draws → l.noise ≡ v ∷ l'.noise → Moved b l (go (record { taken = b.taken; used = b.used ++ (v ∷ []); mark = m }) l')
    used_one v m l' ds vs =
        let k = ih (record { taken = b.taken; used = b.used ++ (v ∷ []); mark = m }) l' in
        record {
          tk = k.tk;
          us = v ∷ k.us;
          taken = k.taken;
          used = k.used ∙ append_assoc b.used (v ∷ []) k.us;
          draws = sym ds ∙ k.draws;
          noise = vs ∙ ap (λ (ws : List (NoisePair G)). v ∷ ws) k.noise;
        }

    moved_on : (c : Step G) → Says G (ended G t0 b.taken) (length b.used) (time_of G t0 b.taken) l c → Moved b l (bench_on G go b l c)
    moved_on (halt s) f = record { tk = []; us = []; taken = sym (append-nil b.taken); used = sym (append-nil b.used); draws = refl; noise = refl }
    moved_on (drain v l') f = used_one v b.mark l' f.draws f.noise
    moved_on (due t v l') f = used_one v (latest G b.mark t) l' f.draws f.noise
    moved_on (taking d k l') f =
        let m = ih (record { taken = b.taken ++ (d ∷ []); used = b.used; mark = b.mark }) l' in
        record {
          tk = d ∷ m.tk;
          us = m.us;
          taken = m.taken ∙ append_assoc b.taken (d ∷ []) m.tk;
          used = m.used;
          draws = f.draws ∙ ap (λ (ds : List Draw). d ∷ ds) m.draws;
          noise = sym f.noise ∙ m.noise;
        }

  pub moved : (f : ℕ) (b : Bench G) (l : Remaining G) → Moved b l (bench_steps G f b l)
  moved zero b l = record { tk = []; us = []; taken = sym (append-nil b.taken); used = sym (append-nil b.used); draws = refl; noise = refl }
  moved (suc f) b l =
      moved_on b l (λ b' l'. bench_steps G f b' l') (λ b' l'. moved f b' l') (bench_step G b l)
      (step_says G (ended G t0 b.taken) (length b.used) (time_of G t0 b.taken) l.draws l.noise l.room l.slots)

  module _ (o : G.Value) where
    -- the machine wrote one sample for each noise pair and sample of output, and one record for each slot
    pub record Counted (l : Remaining G) (r : Ran G o) : Type 0 where
      pub draws : length r.rest.draws ≤ length l.draws
      pub noise : length l.noise ≡ length r.samples + length r.rest.noise
      pub room : l.room ≡ length r.samples + r.rest.room
      pub slots : l.slots ≡ length r.records + r.rest.slots

    -- a step that writes no record leaves the counts to what follows; one that takes a reply adds a record
    module _ (z : State G o) (l : Remaining G) (go : State G o → Remaining G → Ran G o) (ih : (z' : State G o) (l' : Remaining G) → Counted l' (go z' l')) where
      noted_counted : (t : Time) (d : Draw) (k : Kind) (l' : Remaining G) (r : Ran G o) → Takes G z.over z.written z.time l d k l' → Counted l' r → Counted l (noted G o t d k r)
      noted_counted t d ignored l' r f m = record
          { draws = omega (arith, m.draws, ap length f.draws); noise = omega (arith, m.noise, ap length f.noise); room = omega (arith, m.room, f.room); slots = omega (arith, m.slots, f.slots) }
      noted_counted t d ends l' r f m = record
          { draws = omega (arith, m.draws, ap length f.draws); noise = omega (arith, m.noise, ap length f.noise); room = omega (arith, m.room, f.room); slots = omega (arith, m.slots, f.slots) }
      noted_counted t d (reply s) l' r f m = record
          { draws = omega (arith, m.draws, ap length f.draws); noise = omega (arith, m.noise, ap length f.noise); room = omega (arith, m.room, f.room); slots = omega (arith, m.slots, f.slots) }

      counted_on : (c : Step G) → Says G z.over z.written z.time l c → Counted l (machine_on G o go z l c)
      counted_on (halt s) f = record { draws = omega arith; noise = omega arith; room = omega arith; slots = omega arith }
      counted_on (drain v l') f =
          let m = ih (state_after_sample G o z z.mark) l' in
          record { draws = omega (arith, m.draws, ap length f.draws); noise = omega (arith, m.noise, ap length f.noise); room = omega (arith, m.room, f.room); slots = omega (arith, m.slots, f.slots) }
      counted_on (due t v l') f =
          let m = ih (state_after_sample G o z (later G z.mark t)) l' in
          record { draws = omega (arith, m.draws, ap length f.draws); noise = omega (arith, m.noise, ap length f.noise); room = omega (arith, m.room, f.room); slots = omega (arith, m.slots, f.slots) }
      counted_on (taking d k l') f = noted_counted (after z.time d) d k l' (go (state_after_draw G o z d k) l') f (ih (state_after_draw G o z d k) l')

    pub counted : (f : ℕ) (z : State G o) (l : Remaining G) → Counted l (machine_steps G o f z l)
    counted zero z l = record { draws = omega arith; noise = omega arith; room = omega arith; slots = omega arith }
    counted (suc f) z l =
        counted_on z l (λ z' l'. machine_steps G o f z' l') (λ z' l'. counted f z' l') (state_step G o z l)
        (step_says G z.over z.written z.time l.draws l.noise l.room l.slots)

    -- every record has its length
    module _ (line : (t : Time) (d : Draw) (s n : ℕ) → length (entry t d s n) ≡ record_bytes) where
      noted_lines : (t : Time) (d : Draw) (k : Kind) (r : Ran G o) → AllOf record_bytes r.records → AllOf record_bytes (noted G o t d k r).records
      noted_lines t d ignored r h = h
      noted_lines t d ends r h = h
      noted_lines t d (reply s) r h = (line t d s (length (adds t d s)), h)

      lines_on : (z : State G o) (l : Remaining G) (go : State G o → Remaining G → Ran G o) → ((z' : State G o) (l' : Remaining G) → AllOf record_bytes (go z' l').records) → (c : Step G) → AllOf record_bytes (machine_on G o go z l c).records
      lines_on z l go ih (halt s) = tt
      lines_on z l go ih (drain v l') = ih (state_after_sample G o z z.mark) l'
      lines_on z l go ih (due t v l') = ih (state_after_sample G o z (later G z.mark t)) l'
      lines_on z l go ih (taking d k l') = noted_lines (after z.time d) d k (go (state_after_draw G o z d k) l') (ih (state_after_draw G o z d k) l')

      pub lines : (f : ℕ) (z : State G o) (l : Remaining G) → AllOf record_bytes (machine_steps G o f z l).records
      lines zero z l = tt
      lines (suc f) z l = lines_on z l (λ z' l'. machine_steps G o f z' l') (λ z' l'. lines f z' l') (state_step G o z l)
