-- The fuel of a call is enough: the loops go on until a step stops them.
use mathlib.Core.List.{[], ◌∷◌, ◌++◌}
use mathlib.Core.Path.{◌≡◌, refl, ap}
use Prim.Native.Nat.{ℕ, zero, suc, ◌+◌, ◌≤◌, ◌<◌}
use native.Mathlib.Omega.{arith}
use lib.ListN.{length}
use Rattle.run_theory.specs.Generator.{Generator, NoisePair}
use Rattle.run_theory.specs.PlainRun.{Kind, time_of, ended}
use Rattle.run_theory.specs.PlainBench.{Remaining, Step, halt, drain, due, taking, latest, Bench, Benched, bench_step, bench_on, bench_steps, fuel}
use Rattle.run_call_model.specs.Machine.{later, State, Ran, state_step, state_after_sample, sample, state_after_draw, noted, with_sample, machine_on, machine_steps}
use Rattle.run_theory.proofs.StepFacts.{Says, step_says, Drains, Dues, Takes}

module _ (G : Generator) where
  open G use {Value, Draw, Time, t0, after}

  less_drain : {e : _} {w : ℕ} (l l' : Remaining G) (v : NoisePair G) → Drains G e w l v l' → fuel G l' < fuel G l
  less_drain l l' v s = omega (arith, s.room, ap length s.draws)

  less_due : {e : _} {w : ℕ} {t : Time} (l l' : Remaining G) (u : Time) (v : NoisePair G) → Dues G e w t l u v l' → fuel G l' < fuel G l
  less_due l l' u v s = omega (arith, s.room, ap length s.draws)

  less_take : {e : _} {w : ℕ} {t : Time} (l l' : Remaining G) (d : Draw) (k : Kind) → Takes G e w t l d k l' → fuel G l' < fuel G l
  less_take l l' d k s = omega (arith, s.room, ap length s.draws)

  says : (b : Bench G) (l : Remaining G) → Says G (ended G t0 b.taken) (length b.used) (time_of G t0 b.taken) l (bench_step G b l)
  says b l = step_says G (ended G t0 b.taken) (length b.used) (time_of G t0 b.taken) l.draws l.noise l.room l.slots

  module _ (b : Bench G) (l : Remaining G) (go go' : Bench G → Remaining G → Benched G)
      (ih : (b' : Bench G) (l' : Remaining G) → fuel G l' < fuel G l → go b' l' ≡ go' b' l') where
    bench_alike : (c : Step G) → Says G (ended G t0 b.taken) (length b.used) (time_of G t0 b.taken) l c → bench_on G go b l c ≡ bench_on G go' b l c
    bench_alike (halt s) f = refl
    bench_alike (drain v l') f = ih (record { taken = b.taken; used = b.used ++ (v ∷ []); mark = b.mark }) l' (less_drain l l' v f)
    bench_alike (due t v l') f = ih (record { taken = b.taken; used = b.used ++ (v ∷ []); mark = latest G b.mark t }) l' (less_due l l' t v f)
    bench_alike (taking d k l') f = ih (record { taken = b.taken ++ (d ∷ []); used = b.used; mark = b.mark }) l' (less_take l l' d k f)

  pub bench_enough : (f g : ℕ) (b : Bench G) (l : Remaining G) → fuel G l ≤ f → fuel G l ≤ g → bench_steps G f b l ≡ bench_steps G g b l
  bench_enough zero g b l p q = absurd (omega arith)
  bench_enough (suc f) zero b l p q = absurd (omega arith)
  bench_enough (suc f) (suc g) b l p q =
      bench_alike b l (λ b' l'. bench_steps G f b' l') (λ b' l'. bench_steps G g b' l') (λ b' l' lt. bench_enough f g b' l' (omega arith) (omega arith)) (bench_step G b l) (says b l)

  -- the steps are repeated until one stops the call
  pub bench_repeats : (b : Bench G) (l : Remaining G) → bench_steps G (fuel G l) b l ≡ bench_on G (λ b' l'. bench_steps G (fuel G l') b' l') b l (bench_step G b l)
  bench_repeats b l =
      bench_alike b l (λ b' l'. bench_steps G (length l.draws + l.room) b' l') (λ b' l'. bench_steps G (fuel G l') b' l')
      (λ b' l' lt. bench_enough (length l.draws + l.room) (fuel G l') b' l' (omega arith) (omega arith)) (bench_step G b l) (says b l)

  module _ (o : G.Value) where
    machine_says : (z : State G o) (l : Remaining G) → Says G z.over z.written z.time l (state_step G o z l)
    machine_says z l = step_says G z.over z.written z.time l.draws l.noise l.room l.slots

    module _ (z : State G o) (l : Remaining G) (go go' : State G o → Remaining G → Ran G o)
        (ih : (z' : State G o) (l' : Remaining G) → fuel G l' < fuel G l → go z' l' ≡ go' z' l') where
      machine_alike : (c : Step G) → Says G z.over z.written z.time l c → machine_on G o go z l c ≡ machine_on G o go' z l c
      machine_alike (halt s) f = refl
      machine_alike (drain v l') f = ap (λ (r : Ran G o). with_sample G o (sample G o z v) r) (ih (state_after_sample G o z z.mark) l' (less_drain l l' v f))
      machine_alike (due t v l') f = ap (λ (r : Ran G o). with_sample G o (sample G o z v) r) (ih (state_after_sample G o z (later G z.mark t)) l' (less_due l l' t v f))
      machine_alike (taking d k l') f = ap (λ (r : Ran G o). noted G o (after z.time d) d k r) (ih (state_after_draw G o z d k) l' (less_take l l' d k f))

    pub machine_enough : (f g : ℕ) (z : State G o) (l : Remaining G) → fuel G l ≤ f → fuel G l ≤ g → machine_steps G o f z l ≡ machine_steps G o g z l
    machine_enough zero g z l p q = absurd (omega arith)
    machine_enough (suc f) zero z l p q = absurd (omega arith)
    machine_enough (suc f) (suc g) z l p q =
        machine_alike z l (λ z' l'. machine_steps G o f z' l') (λ z' l'. machine_steps G o g z' l') (λ z' l' lt. machine_enough f g z' l' (omega arith) (omega arith)) (state_step G o z l) (machine_says z l)

    pub machine_repeats : (z : State G o) (l : Remaining G) → machine_steps G o (fuel G l) z l ≡ machine_on G o (λ z' l'. machine_steps G o (fuel G l') z' l') z l (state_step G o z l)
    machine_repeats z l =
        machine_alike z l (λ z' l'. machine_steps G o (length l.draws + l.room) z' l') (λ z' l'. machine_steps G o (fuel G l') z' l')
        (λ z' l' lt. machine_enough (length l.draws + l.room) (fuel G l') z' l' (omega arith) (omega arith)) (state_step G o z l) (machine_says z l)
