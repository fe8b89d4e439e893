-- What is asked of a generator for demand 3: order of times, hold-back, count bound, length of a record.
-- Each is to be proved of the generator at hand.
use Rattle.std.specs.Prelude.{Option, Some, None, false, List, [], ◌∷◌, ◌≢◌, ◌≡◌, ℕ, zero, ◌+◌, ◌≤◌, ◌<◌, length}
use Rattle.run_theory.specs.Each.{Each}
use Rattle.run_theory.specs.Generator.{Generator}
use Rattle.run_theory.specs.PlainRun.{reply, kind}
use Rattle.run_theory.specs.PlainBench.{jumps_back}

module _ (G : Generator) where
  open G use {Draw, Time, t0, after, before, adds, entry, fault, record_bytes, limit, hold}

  -- a is not after b
  abbrev pub NotAfter : Time → Time → Type 0
  NotAfter a b = before b a ≡ false

  -- every field of a draw is in range
  abbrev pub InRange : Draw → Type 0
  InRange d = fault d ≡ None

  -- the gap of a draw is in range
  abbrev pub GapInRange : Draw → Type 0
  GapInRange d = fault d ≢ Some 0

  pub record Laws : Type 1 where
    -- times that gaps in range lead to (for f64: no NaN, not negative)
    pub Good : Time → Type 0
    pub good_first : Good t0
    pub good_after : (t : Time) (d : Draw) → Good t → GapInRange d → Good (after t d)
    -- order of times; none is before the first, and no other as early
    pub first_time : (t : Time) → Good t → NotAfter t0 t
    pub first_alone : (t : Time) → Good t → NotAfter t t0 → t ≡ t0
    pub same_time : (t : Time) → Good t → NotAfter t t
    pub time_trans : (a b c : Time) → Good a → Good b → Good c → NotAfter a b → NotAfter b c → NotAfter a c
    pub time_on : (t : Time) (d : Draw) → Good t → GapInRange d → NotAfter t (after t d)
    -- Hold-back: of two replies, the one at a later or equal time starts at most `hold` samples earlier.
    pub held :
        (t t' : Time) (d d' : Draw) (s s' : ℕ) → Good t → Good t' → InRange d → InRange d' → NotAfter t t'
        → kind G t d ≡ reply s → kind G t' d' ≡ reply s' → s ≤ s' + hold
    -- Count bound: a reply adds to at most `limit` samples.
    pub short : (t : Time) (d : Draw) (s : ℕ) → Good t → InRange d → kind G t d ≡ reply s → length (adds t d s) ≤ limit
    pub some_limit : zero < limit
    pub entry_length : (t : Time) (d : Draw) (s n : ℕ) → length (entry t d s n) ≡ record_bytes

  abbrev pub AllInRange : List Draw → Type 0
  AllInRange ds = Each InRange ds

  abbrev pub NoJump : Time → Option Time → List Draw → Type 0
  NoJump t m [] = Unit {0}
  NoJump t m (d ∷ ds) = jumps_back G m (after t d) ≡ false

  -- draws in range that a state with this time and this latest time does not refuse
  pub record Accepted (t : Time) (m : Option Time) (ds : List Draw) : Type 0 where
    pub in_range : AllInRange ds
    pub no_jump : NoJump t m ds
