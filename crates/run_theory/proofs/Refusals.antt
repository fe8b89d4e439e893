-- A run call is refused with a number exactly where the cause of that number is the first: `refused-for` and `refused-if`, at the end.
use Rattle.std.specs.Prelude.{Option, Some, None}
use mathlib.Core.Bool.{Bool, true, false, cond}
use mathlib.Core.List.{List, [], ◌∷◌}
use mathlib.Core.Logic.{◌⊎◌, inl, inr}
use mathlib.Core.Path.{◌≡◌, refl, sym, ap, ◌∙◌, subst}
use Prim.Native.Nat.{ℕ, zero, suc, ◌+◌}
use native.Mathlib.Omega.{arith}
use Rattle.run_theory.specs.Each.{Each}
use Rattle.run_theory.specs.Generator.{Generator}
use Rattle.run_theory.specs.PlainBench.{Refusal, wrong_length, wrong_draw, wrong_noise, Call, draws_of, wrong_lengths, or_else, at_draw, first_fault, jumps_back, draw_refusal, first_out_of_range, refusal_of, remaining_of}
use Rattle.run_theory.specs.Laws.{AllInRange, NoJump, Accepted}
use Rattle.run_theory.specs.Refusals.{FaultAt, OutOfRangeAt, JumpAt, Cause}

module _ (G : Generator) where
  open G use {Value, Draw, Time, after, fault, out_of_range}

  none_of : (p q : Option Refusal) → or_else G p q ≡ None → (p ≡ None) × (q ≡ None)
  none_of None q e = (refl, e)
  none_of (Some r) q e = let z : ◌≡◌ {A = ℕ} 0 1 = cc in absurd (omega arith)

  -- ---- every draw
  no_fault : (k : ℕ) (f : Option ℕ) → at_draw G k f ≡ None → f ≡ None
  no_fault k None e = refl
  no_fault k (Some f) e = let z : ◌≡◌ {A = ℕ} 0 1 = cc in absurd (omega arith)

  all_in_range : (k : ℕ) (ds : List Draw) → first_fault G k ds ≡ None → AllInRange G ds
  all_in_range k [] e = tt
  all_in_range k (d ∷ ds) e =
      let b = none_of (at_draw G k (fault d)) (first_fault G (suc k) ds) e in
      (no_fault k (fault d) b.0, all_in_range (suc k) ds b.1)

  no_fault_if : (k : ℕ) (ds : List Draw) → AllInRange G ds → first_fault G k ds ≡ None
  no_fault_if k [] h = refl
  no_fault_if k (d ∷ ds) h = ap (λ (f : Option ℕ). or_else G (at_draw G k f) (first_fault G (suc k) ds)) h.0 ∙ no_fault_if (suc k) ds h.1

  fault_for : (j : ℕ) (ds : List Draw) (r : Refusal) → first_fault G j ds ≡ Some r → (i : ℕ) × (f : ℕ) × (r ≡ wrong_draw (j + i) f) × FaultAt G i f ds
  fault_for j [] r e = let z : ◌≡◌ {A = ℕ} 0 1 = cc in absurd (omega arith)
  fault_for j (d ∷ ds) r e = go (fault d) refl e (λ p. fault_for (suc j) ds r p)
    where
      go : (o : Option ℕ) → fault d ≡ o → or_else G (at_draw G j o) (first_fault G (suc j) ds) ≡ Some r
          → (first_fault G (suc j) ds ≡ Some r → (i : ℕ) × (f : ℕ) × (r ≡ wrong_draw (suc j + i) f) × FaultAt G i f ds)
          → (i : ℕ) × (f : ℕ) × (r ≡ wrong_draw (j + i) f) × FaultAt G i f (d ∷ ds)
      go (Some f) p q ih =
          let same : wrong_draw j f ≡ r = cc in
          (0, f, sym same ∙ ap (λ (n : ℕ). wrong_draw n f) {x = j} {y = j + 0} (omega arith), p)
      go None p q ih =
          let a = ih q in
          (suc a.0, a.1, a.2 ∙ ap (λ (n : ℕ). wrong_draw n a.1) {x = suc j + a.0} {y = j + suc a.0} (omega arith), (p, a.3))

  fault_if : (j i f : ℕ) (ds : List Draw) → FaultAt G i f ds → first_fault G j ds ≡ Some (wrong_draw (j + i) f)
  fault_if j i f [] h = absurd h
  fault_if j zero f (d ∷ ds) h =
      ap (λ (o : Option ℕ). or_else G (at_draw G j o) (first_fault G (suc j) ds)) h ∙ ap (λ (n : ℕ). Some (wrong_draw n f)) {x = j} {y = j + 0} (omega arith)
  fault_if j (suc i) f (d ∷ ds) h =
      ap (λ (o : Option ℕ). or_else G (at_draw G j o) (first_fault G (suc j) ds)) h.0
      ∙ fault_if (suc j) i f ds h.1
      ∙ ap (λ (n : ℕ). Some (wrong_draw n f)) {x = suc j + i} {y = j + suc i} (omega arith)

  -- ---- every noise value
  out_of_range_for : (j : ℕ) (vs : List Value) (r : Refusal) → first_out_of_range G j vs ≡ Some r → (i : ℕ) × (r ≡ wrong_noise (j + i)) × OutOfRangeAt G i vs
  out_of_range_for j [] r e = let z : ◌≡◌ {A = ℕ} 0 1 = cc in absurd (omega arith)
  out_of_range_for j (v ∷ vs) r e = go (out_of_range v) refl e (λ p. out_of_range_for (suc j) vs r p)
    where
      go : (x : Bool) → out_of_range v ≡ x → cond x (Some (wrong_noise j)) (first_out_of_range G (suc j) vs) ≡ Some r
          → (first_out_of_range G (suc j) vs ≡ Some r → (i : ℕ) × (r ≡ wrong_noise (suc j + i)) × OutOfRangeAt G i vs)
          → (i : ℕ) × (r ≡ wrong_noise (j + i)) × OutOfRangeAt G i (v ∷ vs)
      go true p q ih =
          let same : wrong_noise j ≡ r = cc in
          (0, sym same ∙ ap wrong_noise {x = j} {y = j + 0} (omega arith), p)
      go false p q ih =
          let a = ih q in
          (suc a.0, a.1 ∙ ap wrong_noise {x = suc j + a.0} {y = j + suc a.0} (omega arith), (p, a.2))

  out_of_range_if : (j i : ℕ) (vs : List Value) → OutOfRangeAt G i vs → first_out_of_range G j vs ≡ Some (wrong_noise (j + i))
  out_of_range_if j i [] h = absurd h
  out_of_range_if j zero (v ∷ vs) h =
      ap (λ (x : Bool). cond x (Some (wrong_noise j)) (first_out_of_range G (suc j) vs)) h ∙ ap (λ (n : ℕ). Some (wrong_noise n)) {x = j} {y = j + 0} (omega arith)
  out_of_range_if j (suc i) (v ∷ vs) h =
      ap (λ (x : Bool). cond x (Some (wrong_noise j)) (first_out_of_range G (suc j) vs)) h.0
      ∙ out_of_range_if (suc j) i vs h.1
      ∙ ap (λ (n : ℕ). Some (wrong_noise n)) {x = suc j + i} {y = j + suc i} (omega arith)

  noise_in_range : (j : ℕ) (vs : List Value) → first_out_of_range G j vs ≡ None → Each (λ v. out_of_range v ≡ false) vs
  noise_in_range j [] e = tt
  noise_in_range j (v ∷ vs) e = go (out_of_range v) refl e (λ p. noise_in_range (suc j) vs p)
    where
      go : (x : Bool) → out_of_range v ≡ x → cond x (Some (wrong_noise j)) (first_out_of_range G (suc j) vs) ≡ None → (first_out_of_range G (suc j) vs ≡ None → Each (λ w. out_of_range w ≡ false) vs) → Each (λ w. out_of_range w ≡ false) (v ∷ vs)
      go true p q ih = let z : ◌≡◌ {A = ℕ} 0 1 = cc in absurd (omega arith)
      go false p q ih = (p, ih q)

  -- ---- draws, with the jump back
  -- draws that are not refused are in range and do not jump back, and conversely
  pub accepted_draws : (t : Time) (m : Option Time) (ds : List Draw) → draw_refusal G t m ds ≡ None → Accepted G t m ds
  accepted_draws t m [] e = record { in_range = tt; no_jump = tt }
  accepted_draws t m (d ∷ ds) e = go (jumps_back G m (after t d)) refl e
    where
      go : (x : Bool) → jumps_back G m (after t d) ≡ x → cond x (Some (wrong_draw 0 0)) (first_fault G 0 (d ∷ ds)) ≡ None → Accepted G t m (d ∷ ds)
      go true p q = let z : ◌≡◌ {A = ℕ} 0 1 = cc in absurd (omega arith)
      go false p q = record { in_range = all_in_range 0 (d ∷ ds) q; no_jump = p }

  pub accepted_if : (t : Time) (m : Option Time) (ds : List Draw) → Accepted G t m ds → draw_refusal G t m ds ≡ None
  accepted_if t m [] a = refl
  accepted_if t m (d ∷ ds) a = ap (λ (x : Bool). cond x (Some (wrong_draw 0 0)) (first_fault G 0 (d ∷ ds))) a.no_jump ∙ no_fault_if 0 (d ∷ ds) a.in_range

  abbrev DrawCause : Time → Option Time → List Draw → ℕ → ℕ → Type 0
  DrawCause t m ds k f = JumpAt G t m ds k f ⊎ (NoJump G t m ds × FaultAt G k f ds)

  draw_for : (t : Time) (m : Option Time) (ds : List Draw) (r : Refusal) → draw_refusal G t m ds ≡ Some r → (k : ℕ) × (f : ℕ) × (r ≡ wrong_draw k f) × DrawCause t m ds k f
  draw_for t m [] r e = let z : ◌≡◌ {A = ℕ} 0 1 = cc in absurd (omega arith)
  draw_for t m (d ∷ ds) r e = go (jumps_back G m (after t d)) refl e
    where
      go : (x : Bool) → jumps_back G m (after t d) ≡ x → cond x (Some (wrong_draw 0 0)) (first_fault G 0 (d ∷ ds)) ≡ Some r → (k : ℕ) × (f : ℕ) × (r ≡ wrong_draw k f) × DrawCause t m (d ∷ ds) k f
      go true p q =
          let same : wrong_draw 0 0 ≡ r = cc in
          (0, 0, sym same, inl (p, refl, refl))
      go false p q =
          let a = fault_for 0 (d ∷ ds) r q in
          (a.0, a.1, a.2 ∙ ap (λ (n : ℕ). wrong_draw n a.1) {x = 0 + a.0} {y = a.0} (omega arith), inr (p, a.3))

  draw_if : (t : Time) (m : Option Time) (ds : List Draw) (k f : ℕ) → DrawCause t m ds k f → draw_refusal G t m ds ≡ Some (wrong_draw k f)
  draw_if t m [] k f (inl h) = absurd h
  draw_if t m [] k f (inr h) = absurd h.1
  draw_if t m (d ∷ ds) k f (inl h) =
      ap (λ (x : Bool). cond x (Some (wrong_draw 0 0)) (first_fault G 0 (d ∷ ds))) h.0 ∙ (λ i. Some (wrong_draw (sym h.1 i) (sym h.2 i)))
  draw_if t m (d ∷ ds) k f (inr h) =
      ap (λ (x : Bool). cond x (Some (wrong_draw 0 0)) (first_fault G 0 (d ∷ ds))) h.0
      ∙ fault_if 0 k f (d ∷ ds) h.1
      ∙ ap (λ (n : ℕ). Some (wrong_draw n f)) {x = 0 + k} {y = k} (omega arith)

  -- ---- the call
  module _ (t : Time) (m : Option Time) (c : Call G) where
    abbrev ds : List Draw
    ds = draws_of G c.draws

    after_length : (r : Refusal) → wrong_lengths G c ≡ false → (o : Option Refusal) → draw_refusal G t m ds ≡ o → or_else G o (first_out_of_range G 0 c.noise) ≡ Some r → Cause G t m c r
    after_length r w (Some q) e p =
        let same : q ≡ r = cc in
        let a = draw_for t m ds r (e ∙ ap Some same) in
        subst (λ (x : Refusal). Cause G t m c x) (sym a.2) (w, a.3)
    after_length r w None e p =
        let a = out_of_range_for 0 c.noise r p in
        subst (λ (x : Refusal). Cause G t m c x) (sym (a.1 ∙ ap wrong_noise {x = 0 + a.0} {y = a.0} (omega arith))) (w, accepted_draws t m ds e, a.2)

    -- a refusal's number is given for its cause only
    pub refused_for : (r : Refusal) → refusal_of G t m c ≡ Some r → Cause G t m c r
    refused_for r e = go (wrong_lengths G c) refl e
      where
        go : (x : Bool) → wrong_lengths G c ≡ x → cond x (Some wrong_length) (or_else G (draw_refusal G t m ds) (first_out_of_range G 0 c.noise)) ≡ Some r → Cause G t m c r
        go true p q =
            let same : wrong_length ≡ r = cc in
            subst (λ (x : Refusal). Cause G t m c x) same p
        go false p q = after_length r p (draw_refusal G t m ds) refl q

    -- and where its cause is the first, it is given
    pub refused_if : (r : Refusal) → Cause G t m c r → refusal_of G t m c ≡ Some r
    refused_if wrong_length h = ap (λ (x : Bool). cond x (Some wrong_length) (or_else G (draw_refusal G t m ds) (first_out_of_range G 0 c.noise))) h
    refused_if (wrong_draw k f) h =
        ap (λ (x : Bool). cond x (Some wrong_length) (or_else G (draw_refusal G t m ds) (first_out_of_range G 0 c.noise))) h.0
        ∙ ap (λ (o : Option Refusal). or_else G o (first_out_of_range G 0 c.noise)) (draw_if t m ds k f h.1)
    refused_if (wrong_noise p) h =
        ap (λ (x : Bool). cond x (Some wrong_length) (or_else G (draw_refusal G t m ds) (first_out_of_range G 0 c.noise))) h.0
        ∙ ap (λ (o : Option Refusal). or_else G o (first_out_of_range G 0 c.noise)) (accepted_if t m ds h.1)
        ∙ out_of_range_if 0 p c.noise h.2
        ∙ ap (λ (n : ℕ). Some (wrong_noise n)) {x = 0 + p} {y = p} (omega arith)

    -- a call that is not refused has its draws in range, and its first does not jump back
    pub not_refused : refusal_of G t m c ≡ None → Accepted G t m (remaining_of G c).draws
    not_refused e = go (wrong_lengths G c) e
      where
        go : (x : Bool) → cond x (Some wrong_length) (or_else G (draw_refusal G t m ds) (first_out_of_range G 0 c.noise)) ≡ None → Accepted G t m ds
        go true q = let z : ◌≡◌ {A = ℕ} 0 1 = cc in absurd (omega arith)
        go false q = accepted_draws t m ds (none_of (draw_refusal G t m ds) (first_out_of_range G 0 c.noise) q).0

    -- and no noise value out of range
    pub not_out_of_range : refusal_of G t m c ≡ None → Each (λ v. out_of_range v ≡ false) c.noise
    not_out_of_range e = go (wrong_lengths G c) e
      where
        go : (x : Bool) → cond x (Some wrong_length) (or_else G (draw_refusal G t m ds) (first_out_of_range G 0 c.noise)) ≡ None → Each (λ v. out_of_range v ≡ false) c.noise
        go true q = let z : ◌≡◌ {A = ℕ} 0 1 = cc in absurd (omega arith)
        go false q = noise_in_range 0 c.noise (none_of (draw_refusal G t m ds) (first_out_of_range G 0 c.noise) q).1
