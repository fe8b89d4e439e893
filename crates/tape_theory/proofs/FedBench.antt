-- A bench that is fed a tape: each call is given every draw that is not taken, the next noise, room for more samples than that noise has, and room for a record of each of those draws.
-- Then no call stops for room (`fed-on`), and however the noise was cut the bench is Done exactly where the tape has the end draw and noise for every sample (`fed-end`), with the plain run of the whole tape written (`fed-done`).
use Prim.Native.Nat.{ℕ, zero, suc, ◌+◌, ◌-◌, ◌≤◌, ◌<◌}
use mathlib.Core.Bool.{Bool, true, false, cond, ◌&&◌}
use mathlib.Core.List.{List, [], ◌∷◌, ◌++◌, map, append-nil, append_assoc}
use mathlib.Core.Path.{◌≡◌, refl, sym, ap, ◌∙◌, subst}
use native.Mathlib.Omega.{arith}
use lib.Dec.{leb, ltb}
use lib.ListN.{length, take, length-append}
use lib.Seq.{take_all, take_at}
use borrow.Author.Tests.{leb-true, leb-false, ltb-true, le-leb, lt-leb}
use Rattle.run_theory.specs.Generator.{Generator, NoisePair}
use Rattle.run_theory.specs.PlainRun.{Kind, ignored, ends, reply, Reply, kind, time_of, ended, replies, samples_from, plain_samples, plain_records}
use Rattle.run_theory.specs.PlainBench.{Stop, done, output_full, wants_noise, wants_draws, records_full, Remaining, Step, halt, drain, due, taking, write, step5, step4, due_by, step1, latest, Bench, Benched, bench_step, bench_on, bench_steps, fuel}
use Rattle.run_theory.specs.Laws.{Laws, Accepted}
use Rattle.run_theory.proofs.ListClaim.{is_done}
use Rattle.run_theory.proofs.PlainFacts.{ended_still, replies_still}
use Rattle.run_theory.proofs.StepFacts.{used_slots, Says, step_says, reply_fits}
use Rattle.run_theory.proofs.Reached.{Reached, Left, reached_drain, reached_due, reached_take, left_drain, left_due, left_take}
use Rattle.run_call_model.proofs.Counted.{Moved, moved}

module _ (G : Generator) (L : Laws G) where
  open G use {Draw, Time, t0, after, start, hold, total}

  -- why a call stops, where output and record bytes have room: of a bench whose end draw is taken or not and that has written w samples, with these draws and noise left
  abbrev pub StopsFor : Bool → ℕ → List Draw → List (NoisePair G) → Stop → Type 0
  StopsFor e w ds vs done = (e ≡ true) × (total ≤ w)
  StopsFor e w ds vs output_full = ⊥
  StopsFor e w ds vs wants_noise = (vs ≡ []) × (w < total)
  StopsFor e w ds vs wants_draws = (ds ≡ []) × (e ≡ false)
  StopsFor e w ds vs records_full = ⊥

  abbrev Halts : Bool → ℕ → List Draw → List (NoisePair G) → Step G → Type 0
  Halts e w ds vs (halt s) = StopsFor e w ds vs s
  Halts e w ds vs (drain v l) = Unit {0}
  Halts e w ds vs (due t v l) = Unit {0}
  Halts e w ds vs (taking d k l) = Unit {0}

  write_halts : (e : Bool) (w : ℕ) (ds : List Draw) (vs : List (NoisePair G)) (room slots : ℕ) (f : NoisePair G → Remaining G → Step G)
      → ((us : List (NoisePair G)) (v : NoisePair G) (l : Remaining G) → Halts e w ds us (f v l)) → w < total → length vs < room → Halts e w ds vs (write G f ds vs room slots)
  write_halts e w ds vs zero slots f h lt room = absurd (omega arith)
  write_halts e w ds [] (suc room) slots f h lt more = (refl, lt)
  write_halts e w ds (v ∷ vs) (suc room) slots f h lt more = h (v ∷ vs) v (record { draws = ds; noise = vs; room = room; slots = slots })

  step_halts : (e : Bool) (w : ℕ) (t : Time) (ds : List Draw) (vs : List (NoisePair G)) (room slots : ℕ) → length vs < room → length ds ≤ slots → Halts e w ds vs (step1 G e w t ds vs room slots)
  step_halts true w t ds vs room slots more rows = go (leb total w) refl
    where
      go : (b : Bool) → leb total w ≡ b → Halts true w ds vs (cond b (halt done) (write G drain ds vs room slots))
      go true p = (refl, leb-true total w p)
      go false p = write_halts true w ds vs room slots drain (λ us v l. tt) (leb-false total w p) more
  step_halts false w t [] vs room slots more rows = (refl, refl)
  step_halts false w t (d ∷ ds) vs room slots more rows = go (kind G (after t d) d) refl
    where
      go : (k : Kind) → kind G (after t d) d ≡ k
          → Halts false w (d ∷ ds) vs (cond (due_by G w k) (write G (due (after t d)) (d ∷ ds) vs room slots) (step4 G d k ds vs room slots))
      go ignored p = tt
      go ends p = tt
      go (reply s) p = on (ltb w (s - hold)) refl
        where
          added : (n : ℕ) → suc (length ds) ≤ n → Halts false w (d ∷ ds) vs (step5 G d s ds vs room n)
          added zero h = absurd (omega arith)
          added (suc n) h = tt

          on : (b : Bool) → ltb w (s - hold) ≡ b → Halts false w (d ∷ ds) vs (cond b (write G (due (after t d)) (d ∷ ds) vs room slots) (step5 G d s ds vs room slots))
          on true q = write_halts false w (d ∷ ds) vs room slots (due (after t d)) (λ us v l. tt) (omega (arith, ltb-true w (s - hold) q, reply_fits G (start (after t d) d) s p)) more
          on false q = added slots rows

  few_slots : (k : Kind) → used_slots G k ≤ 1
  few_slots ignored = omega arith
  few_slots ends = omega arith
  few_slots (reply s) = omega arith

  -- what a call yields: why it stopped, and that the draws that are left will not be refused
  record Stopped (r : Benched G) : Type 0 where
    why : StopsFor (ended G t0 r.bench.taken) (length r.bench.used) r.rest.draws r.rest.noise r.stop
    reached : Reached G L r.bench
    left : Left G L r.bench r.rest

  module _ (b : Bench G) (l : Remaining G) (go : Bench G → Remaining G → Benched G)
      (ih : (b' : Bench G) (l' : Remaining G) → fuel G l' < fuel G l → length l'.noise < l'.room → length l'.draws ≤ l'.slots → Reached G L b' → Left G L b' l' → Stopped (go b' l'))
      (more : length l.noise < l.room) (rows : length l.draws ≤ l.slots) (g : Reached G L b) (a : Left G L b l) where
    on_stops : (c : Step G) → Says G (ended G t0 b.taken) (length b.used) (time_of G t0 b.taken) l c → Halts (ended G t0 b.taken) (length b.used) l.draws l.noise c → Stopped (bench_on G go b l c)
    on_stops (halt s) f h = record { why = h; reached = g; left = a }
    on_stops (drain v l') f h =
        ih (record { taken = b.taken; used = b.used ++ (v ∷ []); mark = b.mark }) l'
        (omega (arith, f.room, ap length f.draws)) (omega (arith, f.room, ap length f.noise)) (omega (arith, f.slots, ap length f.draws))
        (reached_drain G L b l l' v g f) (left_drain G L b l l' v a f)
    on_stops (due t v l') f h =
        ih (record { taken = b.taken; used = b.used ++ (v ∷ []); mark = latest G b.mark t }) l'
        (omega (arith, f.room, ap length f.draws)) (omega (arith, f.room, ap length f.noise)) (omega (arith, f.slots, ap length f.draws))
        (reached_due G L b l l' t v g a f) (left_due G L b l l' t v g a f)
    on_stops (taking d k l') f h =
        ih (record { taken = b.taken ++ (d ∷ []); used = b.used; mark = b.mark }) l'
        (omega (arith, f.room, ap length f.draws)) (omega (arith, f.room, ap length f.noise)) (omega (arith, f.slots, ap length f.draws, few_slots k))
        (reached_take G L b l l' d k g a f) (left_take G L b l l' d k g a f)

  steps_stop : (f : ℕ) (b : Bench G) (l : Remaining G) → fuel G l ≤ f → length l.noise < l.room → length l.draws ≤ l.slots → Reached G L b → Left G L b l → Stopped (bench_steps G f b l)
  steps_stop zero b l p more rows g a = absurd (omega arith)
  steps_stop (suc f) b l p more rows g a =
      on_stops b l (λ b' l'. bench_steps G f b' l') (λ b' l' less. steps_stop f b' l' (omega arith)) more rows g a (bench_step G b l)
      (step_says G (ended G t0 b.taken) (length b.used) (time_of G t0 b.taken) l.draws l.noise l.room l.slots)
      (step_halts (ended G t0 b.taken) (length b.used) (time_of G t0 b.taken) l.draws l.noise l.room l.slots more rows)

  -- a bench at the tape of these draws, some of them left, that was fed this noise
  pub record At (tape : List Draw) (b : Bench G) (rest : List Draw) (vs : List (NoisePair G)) : Type 0 where
    pub reached : Reached G L b
    pub accepted : Accepted G (time_of G t0 b.taken) b.mark rest
    pub draws : b.taken ++ rest ≡ tape
    -- noise that was fed and not used
    pub unused : List (NoisePair G)
    pub noise : b.used ++ unused ≡ vs

  -- and how its last call stopped
  pub record Fed (tape : List Draw) (w : Stop) (b : Bench G) (rest : List Draw) (vs : List (NoisePair G)) : Type 0 where
    pub at : At tape b rest vs
    pub why : StopsFor (ended G t0 b.taken) (length b.used) rest at.unused w

  module _ (tape : List Draw) where
    -- a call where all noise fed so far is used
    pub fed_first : (b : Bench G) (rest : List Draw) (vs : List (NoisePair G)) (l : Remaining G) (a : At tape b rest vs) → a.unused ≡ []
        → l.draws ≡ rest → length l.noise < l.room → length l.draws ≤ l.slots
        → (let r = bench_steps G (fuel G l) b l in Fed tape r.stop r.bench r.rest.draws (vs ++ l.noise))
    fed_first b rest vs l a none_left same more rows = record {
      at = record {
        reached = s.reached;
        accepted = s.left;
        draws = ap (λ (ds : List Draw). ds ++ r.rest.draws) m.taken ∙ append_assoc b.taken m.tk r.rest.draws ∙ ap (λ (ds : List Draw). b.taken ++ ds) (sym m.draws ∙ same) ∙ a.draws;
        unused = r.rest.noise;
        noise =
            ap (λ (us : List (NoisePair G)). us ++ r.rest.noise) m.used
            ∙ append_assoc b.used m.us r.rest.noise
            ∙ ap (λ (us : List (NoisePair G)). b.used ++ us) (sym m.noise)
            ∙ ap (λ (us : List (NoisePair G)). us ++ l.noise) (sym (append-nil b.used) ∙ ap (λ (us : List (NoisePair G)). b.used ++ us) (sym none_left) ∙ a.noise);
      };
      why = s.why;
    }
      where
        r : Benched G
        r = bench_steps G (fuel G l) b l

        m : Moved G b l r
        m = moved G (fuel G l) b l

        s : Stopped r
        s = steps_stop (fuel G l) b l (omega arith) more rows a.reached (subst (λ (ds : List Draw). Accepted G (time_of G t0 b.taken) b.mark ds) (sym same) a.accepted)

    -- a bench that stops at once is as it was, and more noise is unused
    stays : (w : Stop) (b : Bench G) (rest : List Draw) (vs : List (NoisePair G)) (l : Remaining G) (a : At tape b rest vs) → StopsFor (ended G t0 b.taken) (length b.used) rest (a.unused ++ l.noise) w → l.draws ≡ rest
        → bench_step G b l ≡ halt w → (let r = bench_steps G (fuel G l) b l in Fed tape r.stop r.bench r.rest.draws (vs ++ l.noise))
    stays w b rest vs l a why same stop =
        subst (λ (c : Step G). (let r = bench_on G (λ b' l'. bench_steps G (length l.draws + l.room) b' l') b l c in Fed tape r.stop r.bench r.rest.draws (vs ++ l.noise))) (sym stop)
        (subst (λ (ds : List Draw). Fed tape w b ds (vs ++ l.noise)) (sym same)
        (record {
          at = record {
            reached = a.reached;
            accepted = a.accepted;
            draws = a.draws;
            unused = a.unused ++ l.noise;
            noise = sym (append_assoc b.used a.unused l.noise) ∙ ap (λ (us : List (NoisePair G)). us ++ l.noise) a.noise;
          };
          why = why;
        }))

    -- a call more
    pub fed_on : (w : Stop) (b : Bench G) (rest : List Draw) (vs : List (NoisePair G)) (l : Remaining G) → Fed tape w b rest vs
        → l.draws ≡ rest → length l.noise < l.room → length l.draws ≤ l.slots
        → (let r = bench_steps G (fuel G l) b l in Fed tape r.stop r.bench r.rest.draws (vs ++ l.noise))
    fed_on done b rest vs l f same more rows = stays done b rest vs l f.at f.why same (rw (f.why.0, le-leb total (length b.used) f.why.1))
    fed_on output_full b rest vs l f same more rows = absurd f.why
    fed_on wants_noise b rest vs l f same more rows = fed_first b rest vs l f.at f.why.0 same more rows
    fed_on wants_draws b rest vs l f same more rows = stays wants_draws b rest vs l f.at f.why same (rw (f.why.1, same ∙ f.why.0))
    fed_on records_full b rest vs l f same more rows = absurd f.why

    -- Done exactly where the tape has the end draw and noise for every sample
    pub fed_end : (w : Stop) (b : Bench G) (rest : List Draw) (vs : List (NoisePair G)) → Fed tape w b rest vs → (ended G t0 tape && leb total (length vs)) ≡ is_done w
    fed_end done b rest vs f =
        rw (
          sym (ap (ended G t0) f.at.draws) ∙ ended_still G t0 b.taken rest f.why.0,
          le-leb total (length vs) (omega (arith, f.why.1, ap length f.at.noise, length-append b.used f.at.unused)),
        )
    fed_end output_full b rest vs f = absurd f.why
    fed_end wants_noise b rest vs f = both_not (ended G t0 tape) (lt-leb total (length vs) (omega (arith, f.why.1, ap length f.at.noise, length-append b.used f.at.unused, ap length f.why.0)))
      where
        both_not : (x : Bool) {y : Bool} → y ≡ false → (x && y) ≡ false
        both_not true e = e
        both_not false e = refl
    fed_end wants_draws b rest vs f =
        rw (sym (ap (ended G t0) (sym (append-nil b.taken) ∙ ap (λ (ds : List Draw). b.taken ++ ds) (sym f.why.0) ∙ f.at.draws)) ∙ f.why.1)
    fed_end records_full b rest vs f = absurd f.why

    -- and then the plain run of the tape is written
    pub record Whole (b : Bench G) (vs : List (NoisePair G)) : Type 0 where
      pub samples : plain_samples G b.taken b.used ≡ plain_samples G tape vs
      pub records : plain_records G b.taken ≡ plain_records G tape
      pub written : length b.used ≡ total

    pub fed_done : (b : Bench G) (rest : List Draw) (vs : List (NoisePair G)) → Fed tape done b rest vs → Whole b vs
    fed_done b rest vs f = record {
      samples =
          (λ i. samples_from G (still i) 0 (take total b.used))
          ∙ ap (λ (us : List (NoisePair G)). samples_from G (replies G t0 tape) 0 us) (take_all total b.used f.at.reached.within ∙ sym (take_at b.used f.at.unused total all) ∙ ap (take total) f.at.noise);
      records = ap (λ (rs : List (Reply G)). map (λ r. r.line) rs) still;
      written = all;
    }
      where
        still : replies G t0 b.taken ≡ replies G t0 tape
        still = sym (replies_still G t0 b.taken rest f.why.0) ∙ ap (replies G t0) f.at.draws

        all : length b.used ≡ total
        all = omega (arith, f.why.1, f.at.reached.within)
