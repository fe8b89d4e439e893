-- The causes of a run call's refusals, in the order in which they are looked for: each number belongs to one cause, and to the first one at fault.
use Rattle.std.specs.Prelude.{Option, Some, true, false, List, [], ◌∷◌, ◌⊎◌, ◌≡◌, ℕ, zero, suc}
use Rattle.run_theory.specs.Generator.{Generator}
use Rattle.run_theory.specs.PlainBench.{Refusal, wrong_length, wrong_draw, wrong_noise, Call, draws_of, wrong_lengths, jumps_back}
use Rattle.run_theory.specs.Laws.{InRange, NoJump, Accepted}

module _ (G : Generator) where
  open G use {Value, Draw, Time, after, fault, out_of_range}

  -- f is the first field at fault of draw k, and the draws before it are in range
  abbrev pub FaultAt : ℕ → ℕ → List Draw → Type 0
  FaultAt k f [] = ⊥
  FaultAt zero f (d ∷ ds) = fault d ≡ Some f
  FaultAt (suc k) f (d ∷ ds) = InRange G d × FaultAt k f ds

  -- the noise value at index p is the first that is not finite or too large
  abbrev pub OutOfRangeAt : ℕ → List Value → Type 0
  OutOfRangeAt p [] = ⊥
  OutOfRangeAt zero (v ∷ vs) = out_of_range v ≡ true
  OutOfRangeAt (suc p) (v ∷ vs) = (out_of_range v ≡ false) × OutOfRangeAt p vs

  -- the first draw jumps back: draw 0, field 0
  abbrev pub JumpAt : Time → Option Time → List Draw → ℕ → ℕ → Type 0
  JumpAt t m [] k f = ⊥
  JumpAt t m (d ∷ ds) k f = (jumps_back G m (after t d) ≡ true) × (k ≡ 0) × (f ≡ 0)

  -- the cause of a refusal, at the time t of the draws taken and the latest time m
  abbrev pub Cause : Time → Option Time → Call G → Refusal → Type 0
  Cause t m c wrong_length = wrong_lengths G c ≡ true
  Cause t m c (wrong_draw k f) =
      (wrong_lengths G c ≡ false)
      × (JumpAt t m (draws_of G c.draws) k f ⊎ (NoJump G t m (draws_of G c.draws) × FaultAt k f (draws_of G c.draws)))
  Cause t m c (wrong_noise p) = (wrong_lengths G c ≡ false) × Accepted G t m (draws_of G c.draws) × OutOfRangeAt p c.noise
