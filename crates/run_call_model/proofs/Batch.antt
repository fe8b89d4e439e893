-- Due samples written at once: n of them are n of the steps of SPECIFICATION 9.4, by `drain-many` after the end draw and `due-many` before a draw; and a batch cut in two.
use mathlib.Core.Bool.{Bool, true, false, cond}
use mathlib.Core.List.{List, [], ◌∷◌, ◌++◌}
use mathlib.Core.Path.{◌≡◌, refl, sym, ap, ◌∙◌}
use Prim.Native.Nat.{ℕ, zero, suc, ◌+◌, ◌-◌, ◌%◌, ◌≤◌, ◌<◌}
use native.Mathlib.Omega.{arith}
use lib.ListN.{length}
use borrow.Author.Tests.{lt-leb, lt-ltb}
use Rattle.run_theory.specs.Generator.{Generator, Sample, NoisePair, silence, noisy}
use Rattle.run_theory.specs.PlainRun.{Kind, reply, kind}
use Rattle.run_theory.specs.PlainBench.{Step, drain, due, write, step4, due_by, step1}
use Rattle.run_call_model.specs.Machine.{window, rd, wr, later, State, Ran, state_step, with_sample, state_after_sample, sample, machine_on}
use Rattle.run_call_model.specs.Batch.{written, cleared}
use Rattle.run_call_model.specs.Progress.{all_steps, remaining_with}
use Rattle.run_call_model.proofs.EnoughFuel.{machine_repeats}
use Rattle.run_call_model.proofs.Ring.{length_wr}

module _ (G : Generator) (o : G.Value) where
  open G use {Value, Draw, Time, after, hold, total}

  -- ---- one sample
  drain_one : (z : State G o) (ds : List Draw) (v : NoisePair G) (vs : List (NoisePair G)) (room slots : ℕ) → z.over ≡ true → z.written < total
      → all_steps G o z (remaining_with G o ds (v ∷ vs) (suc room) slots) ≡ with_sample G o (sample G o z v) (all_steps G o (state_after_sample G o z z.mark) (remaining_with G o ds vs room slots))
  drain_one z ds v vs room slots e h =
      machine_repeats G o z (remaining_with G o ds (v ∷ vs) (suc room) slots)
      ∙ ap (λ (s : Step G). machine_on G o (λ z' l'. all_steps G o z' l') z (remaining_with G o ds (v ∷ vs) (suc room) slots) s) is
    where
      is : state_step G o z (remaining_with G o ds (v ∷ vs) (suc room) slots) ≡ drain v (remaining_with G o ds vs room slots)
      is = rw (e, lt-leb total z.written h)

  due_one : (z : State G o) (d : Draw) (ds : List Draw) (v : NoisePair G) (vs : List (NoisePair G)) (room slots s : ℕ) → z.over ≡ false
      → kind G (after z.time d) d ≡ reply s → z.written + hold < s
      → all_steps G o z (remaining_with G o (d ∷ ds) (v ∷ vs) (suc room) slots) ≡ with_sample G o (sample G o z v) (all_steps G o (state_after_sample G o z (later G z.mark (after z.time d))) (remaining_with G o (d ∷ ds) vs room slots))
  due_one z d ds v vs room slots s e k h =
      machine_repeats G o z (remaining_with G o (d ∷ ds) (v ∷ vs) (suc room) slots)
      ∙ ap (λ (s : Step G). machine_on G o (λ z' l'. all_steps G o z' l') z (remaining_with G o (d ∷ ds) (v ∷ vs) (suc room) slots) s) is
    where
      at : Time
      at = after z.time d

      by_kind : (k' : Kind) → k' ≡ reply s → cond (due_by G z.written k') (write G (due at) (d ∷ ds) (v ∷ vs) (suc room) slots) (step4 G d k' ds (v ∷ vs) (suc room) slots) ≡ due at v (remaining_with G o (d ∷ ds) vs room slots)
      by_kind k' q = rw (q, lt-ltb z.written (s - hold) (omega arith))

      is : state_step G o z (remaining_with G o (d ∷ ds) (v ∷ vs) (suc room) slots) ≡ due at v (remaining_with G o (d ∷ ds) vs room slots)
      is = ap (λ (x : Bool). step1 G x z.written z.time (d ∷ ds) (v ∷ vs) (suc room) slots) e ∙ by_kind (kind G at d) k

  -- ---- n samples
  pub length_written : (vs : List (NoisePair G)) (m : List Value) (w : ℕ) → length (written G o m w vs) ≡ length vs
  length_written [] m w = refl
  length_written (v ∷ vs) m w = ap suc (length_written vs (wr G o m (w % window G o) (silence G)) (suc w))

  -- the state after n samples, with the latest time t
  abbrev pub state_after_samples : State G o → ℕ → Time → State G o
  state_after_samples z n t = record { memory = cleared G o z.memory z.written n; written = z.written + n; time = z.time; over = z.over; mark = t }

  abbrev pub with_samples : List (Sample G) → Ran G o → Ran G o
  with_samples xs r = record { state = r.state; rest = r.rest; stop = r.stop; samples = xs ++ r.samples; records = r.records; added = r.added }

  abbrev more : List (NoisePair G) → ℕ → ℕ
  more [] n = n
  more (v ∷ vs) n = suc (more vs n)

  more_is : (vs : List (NoisePair G)) (n : ℕ) → more vs n ≡ length vs + n
  more_is [] n = omega arith
  more_is (v ∷ vs) n = omega (arith, more_is vs n)

  -- n samples, each written G o with the latest time t
  abbrev each : State G o → Time → List (NoisePair G) → State G o
  each z t [] = z
  each z t (v ∷ vs) = each (state_after_sample G o z t) t vs

  each_is : (vs : List (NoisePair G)) (z : State G o) (t : Time) → 0 < length vs → each z t vs ≡ state_after_samples z (length vs) t
  each_is [] z t h = absurd (omega arith)
  each_is (v ∷ []) z t h = λ i. record { memory = (state_after_sample G o z t).memory; written = q i; time = z.time; over = z.over; mark = t }
    where
      q : suc z.written ≡ z.written + 1
      q = omega arith
  each_is (v ∷ u ∷ vs) z t h = each_is (u ∷ vs) (state_after_sample G o z t) t (omega arith) ∙ (λ i. record { memory = (state_after_samples z (suc (suc (length vs))) t).memory; written = q i; time = z.time; over = z.over; mark = t })
    where
      q : suc z.written + suc (length vs) ≡ z.written + suc (suc (length vs))
      q = omega arith

  drain_each : (vs ws : List (NoisePair G)) (z : State G o) (ds : List Draw) (room slots : ℕ) → z.over ≡ true → z.written + length vs ≤ total
      → all_steps G o z (remaining_with G o ds (vs ++ ws) (more vs room) slots) ≡ with_samples (written G o z.memory z.written vs) (all_steps G o (each z z.mark vs) (remaining_with G o ds ws room slots))
  drain_each [] ws z ds room slots e h = refl
  drain_each (v ∷ vs) ws z ds room slots e h =
      drain_one z ds v (vs ++ ws) (more vs room) slots e (omega arith)
      ∙ ap (λ (r : Ran G o). with_sample G o (sample G o z v) r) (drain_each vs ws (state_after_sample G o z z.mark) ds room slots e (omega arith))

  later_same : (m t : Time) → later G (later G m t) t ≡ later G m t
  later_same m t = go (G.before m t) refl
    where
      both : (x : Bool) → cond x t t ≡ t
      both true = refl
      both false = refl

      go : (x : Bool) → G.before m t ≡ x → cond (G.before (cond x t m) t) t (cond x t m) ≡ cond x t m
      go true e = both (G.before t t)
      go false e = rw e

  due_each : (vs ws : List (NoisePair G)) (z : State G o) (d : Draw) (ds : List Draw) (room slots s : ℕ) → z.over ≡ false
      → kind G (after z.time d) d ≡ reply s → z.written + length vs + hold ≤ s
      → all_steps G o (record { memory = z.memory; written = z.written; time = z.time; over = z.over; mark = later G z.mark (after z.time d) }) (remaining_with G o (d ∷ ds) (vs ++ ws) (more vs room) slots)
      ≡ with_samples (written G o z.memory z.written vs) (all_steps G o (each (record { memory = z.memory; written = z.written; time = z.time; over = z.over; mark = later G z.mark (after z.time d) }) (later G z.mark (after z.time d)) vs) (remaining_with G o (d ∷ ds) ws room slots))
  due_each [] ws z d ds room slots s e k h = refl
  due_each (v ∷ vs) ws z d ds room slots s e k h =
      due_one marked d ds v (vs ++ ws) (more vs room) slots s e k (omega arith)
      ∙ ap (λ (m : Time). with_sample G o (sample G o z v) (all_steps G o (state_after_sample G o marked m) (remaining_with G o (d ∷ ds) (vs ++ ws) (more vs room) slots))) (later_same z.mark (after z.time d))
      ∙ ap (λ (r : Ran G o). with_sample G o (sample G o z v) r) (due_each vs ws (state_after_sample G o z z.mark) d ds room slots s e k (omega arith))
    where
      marked : State G o
      marked = record { memory = z.memory; written = z.written; time = z.time; over = z.over; mark = later G z.mark (after z.time d) }

  -- after the end draw: n samples at once
  pub drain_many_lem : (vs ws : List (NoisePair G)) (z : State G o) (ds : List Draw) (room slots : ℕ) → 0 < length vs → z.over ≡ true → z.written + length vs ≤ total
      → all_steps G o z (remaining_with G o ds (vs ++ ws) (length vs + room) slots) ≡ with_samples (written G o z.memory z.written vs) (all_steps G o (state_after_samples z (length vs) z.mark) (remaining_with G o ds ws room slots))
  drain_many_lem vs ws z ds room slots p e h =
      ap (λ (n : ℕ). all_steps G o z (remaining_with G o ds (vs ++ ws) n slots)) (sym (more_is vs room))
      ∙ drain_each vs ws z ds room slots e h
      ∙ ap (λ (y : State G o). with_samples (written G o z.memory z.written vs) (all_steps G o y (remaining_with G o ds ws room slots))) (each_is vs z z.mark p)

  -- by the start of the next draw: n samples at once; the latest time moves once
  pub due_many_lem : (vs ws : List (NoisePair G)) (z : State G o) (d : Draw) (ds : List Draw) (room slots s : ℕ) → 0 < length vs → z.over ≡ false
      → kind G (after z.time d) d ≡ reply s → z.written + length vs + hold ≤ s
      → all_steps G o z (remaining_with G o (d ∷ ds) (vs ++ ws) (length vs + room) slots) ≡ with_samples (written G o z.memory z.written vs) (all_steps G o (state_after_samples z (length vs) (later G z.mark (after z.time d))) (remaining_with G o (d ∷ ds) ws room slots))
  due_many_lem [] ws z d ds room slots s p e k h = absurd (omega arith)
  due_many_lem (v ∷ vs) ws z d ds room slots s p e k h =
      ap (λ (n : ℕ). all_steps G o z (remaining_with G o (d ∷ ds) (v ∷ (vs ++ ws)) n slots)) (sym (more_is (v ∷ vs) room))
      ∙ due_one z d ds v (vs ++ ws) (more vs room) slots s e k (omega arith)
      ∙ ap (λ (r : Ran G o). with_sample G o (sample G o z v) r) (due_each vs ws (state_after_sample G o z z.mark) d ds room slots s e k (omega arith))
      ∙ ap (λ (y : State G o). with_samples (written G o z.memory z.written (v ∷ vs)) (all_steps G o y (remaining_with G o (d ∷ ds) ws room slots))) (each_is (v ∷ vs) z (later G z.mark (after z.time d)) p)

  -- ---- cut into stretches
  pub written_append : (vs us : List (NoisePair G)) (m : List Value) (w : ℕ) → written G o m w (vs ++ us) ≡ written G o m w vs ++ written G o (cleared G o m w (length vs)) (w + length vs) us
  written_append [] us m w = ap (λ (n : ℕ). written G o m n us) (omega arith)
  written_append (v ∷ vs) us m w =
      ap (λ (l : List (Sample G)). noisy G (rd G o m (w % window G o)) v ∷ l)
      (written_append vs us (wr G o m (w % window G o) (silence G)) (suc w)
      ∙ ap (λ (n : ℕ). written G o (wr G o m (w % window G o) (silence G)) (suc w) vs ++ written G o (cleared G o m w (suc (length vs))) n us) (omega arith))

  pub cleared_add : (k n : ℕ) (m : List Value) (w : ℕ) → cleared G o m w (k + n) ≡ cleared G o (cleared G o m w k) (w + k) n
  cleared_add zero n m w = (λ i. cleared G o m w (p i)) ∙ (λ i. cleared G o m (q i) n)
    where
      p : 0 + n ≡ n
      p = omega arith

      q : w ≡ w + 0
      q = omega arith
  cleared_add (suc k) n m w = (λ i. cleared G o m w (p i)) ∙ cleared_add k n (wr G o m (w % window G o) (silence G)) (suc w) ∙ (λ i. cleared G o (cleared G o m w (suc k)) (q i) n)
    where
      p : suc k + n ≡ suc (k + n)
      p = omega arith

      q : suc w + k ≡ w + suc k
      q = omega arith

  pub length_cleared : (n : ℕ) (m : List Value) (w : ℕ) → length (cleared G o m w n) ≡ length m
  length_cleared zero m w = refl
  length_cleared (suc n) m w = length_cleared n (wr G o m (w % window G o) (silence G)) (suc w) ∙ length_wr G o m (w % window G o) (silence G)
