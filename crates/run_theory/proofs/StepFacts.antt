-- What the five steps yield says of the call and the state.
use mathlib.Core.Bool.{Bool, true, false, cond}
use mathlib.Core.List.{List, [], ◌∷◌}
use mathlib.Core.Path.{◌≡◌, refl, ap}
use Prim.Native.Nat.{ℕ, zero, suc, ◌+◌, ◌-◌, ◌≤◌, ◌<◌}
use native.Mathlib.Omega.{arith}
use lib.Dec.{leb, ltb}
use borrow.Author.Tests.{leb-true, leb-false, ltb-true, ltb-false}
use Rattle.run_theory.specs.Generator.{Generator, Start, negative, from, NoisePair}
use Rattle.run_theory.specs.PlainRun.{Kind, ignored, ends, reply, kind_of, kind}
use Rattle.run_theory.specs.PlainBench.{Stop, done, Remaining, Step, halt, drain, due, taking, write, step5, step4, due_by, step1}

module _ (G : Generator) where
  open G use {Draw, Time, after, limit, hold, total}

  abbrev pub used_slots : Kind → ℕ
  used_slots ignored = 0
  used_slots ends = 0
  used_slots (reply s) = 1

  -- a stop: Done stands only at the ends of all samples
  pub record Halts (e : Bool) (w : ℕ) (s : Stop) : Type 0 where
    pub at_done : s ≡ done → (e ≡ true) × (total ≤ w)

  pub record Drains (e : Bool) (w : ℕ) (l : Remaining G) (v : NoisePair G) (l' : Remaining G) : Type 0 where
    pub over : e ≡ true
    pub short : w < total
    pub draws : l'.draws ≡ l.draws
    pub noise : l.noise ≡ v ∷ l'.noise
    pub room : l.room ≡ suc l'.room
    pub slots : l'.slots ≡ l.slots

  pub record Dues (e : Bool) (w : ℕ) (t : Time) (l : Remaining G) (t' : Time) (v : NoisePair G) (l' : Remaining G) : Type 0 where
    pub going : e ≡ false
    pub next : Draw
    pub later : List Draw
    pub lent : l.draws ≡ next ∷ later
    pub draws : l'.draws ≡ l.draws
    pub noise : l.noise ≡ v ∷ l'.noise
    pub room : l.room ≡ suc l'.room
    pub slots : l'.slots ≡ l.slots
    pub time : t' ≡ after t next
    pub first : ℕ
    pub is : kind G t' next ≡ reply first
    pub far : w + hold < first

  pub record Takes (e : Bool) (w : ℕ) (t : Time) (l : Remaining G) (d : Draw) (k : Kind) (l' : Remaining G) : Type 0 where
    pub going : e ≡ false
    pub draws : l.draws ≡ d ∷ l'.draws
    pub noise : l'.noise ≡ l.noise
    pub room : l'.room ≡ l.room
    pub slots : l.slots ≡ used_slots k + l'.slots
    pub is : kind G (after t d) d ≡ k
    pub near : (s : ℕ) → k ≡ reply s → s ≤ w + hold

  abbrev pub Says : Bool → ℕ → Time → Remaining G → Step G → Type 0
  Says e w t l (halt s) = Halts e w s
  Says e w t l (drain v l') = Drains e w l v l'
  Says e w t l (due t' v l') = Dues e w t l t' v l'
  Says e w t l (taking d k l') = Takes e w t l d k l'

  -- a reply leaves room behind it: it does not ends the run
  pub reply_fits : (st : Start) (s : ℕ) → kind_of G st ≡ reply s → s + limit < total
  reply_fits negative s e = absurd (omega (arith, bad e))
    where
      bad : ignored ≡ reply s → ◌≡◌ {A = ℕ} 0 1
      bad p = cc
  reply_fits (from s') s e = go (leb total (s' + limit)) refl e
    where
      go : (b : Bool) → leb total (s' + limit) ≡ b → cond b ends (reply s') ≡ reply s → s + limit < total
      go true t p = let z : ◌≡◌ {A = ℕ} 0 1 = cc in omega arith
      go false t p = let q : s' ≡ s = cc in omega (arith, leb-false total (s' + limit) t)

  pub reply_start : (st : Start) (s : ℕ) → kind_of G st ≡ reply s → st ≡ from s
  reply_start negative s e = let z : ◌≡◌ {A = ℕ} 0 1 = cc in absurd (omega arith)
  reply_start (from s') s e = go (leb total (s' + limit)) e
    where
      go : (b : Bool) → cond b ends (reply s') ≡ reply s → from s' ≡ from s
      go true p = let z : ◌≡◌ {A = ℕ} 0 1 = cc in absurd (omega arith)
      go false p = let q : s' ≡ s = cc in ap from q

  not_done : {s : Stop} {X : Type 0} → s ≡ done → (s ≡ done → ◌≡◌ {A = ℕ} 0 1) → X
  not_done e f = let z : ◌≡◌ {A = ℕ} 0 1 = f e in absurd (omega arith)

  write_says : (e : Bool) (w : ℕ) (t : Time) (ds : List Draw) (vs : List (NoisePair G)) (room slots : ℕ) (f : NoisePair G → Remaining G → Step G)
      → ((v : NoisePair G) (vs' : List (NoisePair G)) (room' : ℕ) → vs ≡ v ∷ vs' → room ≡ suc room' → Says e w t (record { draws = ds; noise = vs; room = room; slots = slots }) (f v (record { draws = ds; noise = vs'; room = room'; slots = slots })))
      → Says e w t (record { draws = ds; noise = vs; room = room; slots = slots }) (write G f ds vs room slots)
  write_says e w t ds vs zero slots f h = record { at_done = λ p. not_done p (λ q. cc) }
  write_says e w t ds [] (suc room) slots f h = record { at_done = λ p. not_done p (λ q. cc) }
  write_says e w t ds (v ∷ vs) (suc room) slots f h = h v vs room refl refl

  pub step_says : (e : Bool) (w : ℕ) (t : Time) (ds : List Draw) (vs : List (NoisePair G)) (room slots : ℕ) → Says e w t (record { draws = ds; noise = vs; room = room; slots = slots }) (step1 G e w t ds vs room slots)
  step_says true w t ds vs room slots = go (leb total w) refl
    where
      go : (b : Bool) → leb total w ≡ b → Says true w t (record { draws = ds; noise = vs; room = room; slots = slots }) (cond b (halt done) (write G drain ds vs room slots))
      go true p = record { at_done = λ q. (refl, leb-true total w p) }
      go false p = write_says true w t ds vs room slots drain (λ v vs' room' ev er. record { over = refl; short = leb-false total w p; draws = refl; noise = ev; room = er; slots = refl })
  step_says false w t [] vs room slots = record { at_done = λ p. not_done p (λ q. cc) }
  step_says false w t (d ∷ ds) vs room slots = go (kind G (after t d) d) refl
    where
      go : (k : Kind) → kind G (after t d) d ≡ k
          → Says false w t (record { draws = d ∷ ds; noise = vs; room = room; slots = slots }) (cond (due_by G w k) (write G (due (after t d)) (d ∷ ds) vs room slots) (step4 G d k ds vs room slots))
      go ignored p = record { going = refl; draws = refl; noise = refl; room = refl; slots = omega arith; is = p; near = λ s q. let z : ◌≡◌ {A = ℕ} 0 1 = cc in omega arith }
      go ends p = record { going = refl; draws = refl; noise = refl; room = refl; slots = omega arith; is = p; near = λ s q. let z : ◌≡◌ {A = ℕ} 0 1 = cc in omega arith }
      go (reply s) p = on (ltb w (s - hold)) refl
        where
          added : (n : ℕ) → s ≤ w + hold → Says false w t (record { draws = d ∷ ds; noise = vs; room = room; slots = n }) (step5 G d s ds vs room n)
          added zero h = record { at_done = λ q. not_done q (λ u. cc) }
          added (suc n) h = record { going = refl; draws = refl; noise = refl; room = refl; slots = omega arith; is = p; near = λ s' q. let z : s ≡ s' = cc in omega arith }

          on : (b : Bool) → ltb w (s - hold) ≡ b → Says false w t (record { draws = d ∷ ds; noise = vs; room = room; slots = slots }) (cond b (write G (due (after t d)) (d ∷ ds) vs room slots) (step5 G d s ds vs room slots))
          on true q = write_says false w t (d ∷ ds) vs room slots (due (after t d)) (λ v vs' room' ev er. record { going = refl; next = d; later = ds; lent = refl; draws = refl; noise = ev; room = er; slots = refl; time = refl; first = s; is = p; far = omega (arith, ltb-true w (s - hold) q) })
          on false q = added slots (omega (arith, ltb-false w (s - hold) q))
