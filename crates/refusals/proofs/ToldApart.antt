-- Number and values (SPECIFICATION 3.1) distinguish the refusals (`told-apart`).
use Prim.Native.Nat.{ℕ}
use mathlib.Core.Path.{◌≡◌, refl, sym, ap, ◌∙◌}
use mathlib.Core.List.{List, [], ◌∷◌}
use lib.ListN.{get_or}
use Rattle.refusals.specs.declared.Refusal.{Refusal}
use Rattle.refusals.specs.declared.Refusal.TheVariants.{Duration, Rate, Total, Distribution, Taps, Prototype, Draw, Noise, Length, Reply, Tape, StretchLength, Level, TriggerLevel, SamplesPerPulse, Log, Feeds, Record}
use Rattle.refusals.specs.Number.{number_of, values_of}

-- the refusal with a number, from 1 on, and values
refusal_of : ℕ → List ℕ → Refusal
refusal_of n vs =
    get_or
    (Length
    ∷ Duration
    ∷ Rate (get_or vs 0 0)
    ∷ Total
    ∷ Distribution (get_or vs 0 0)
    ∷ Taps
    ∷ Prototype
    ∷ Draw (get_or vs 0 0) (get_or vs 1 0)
    ∷ Noise (get_or vs 0 0)
    ∷ Length
    ∷ Reply
    ∷ Tape
    ∷ StretchLength
    ∷ Level
    ∷ TriggerLevel
    ∷ SamplesPerPulse
    ∷ Log
    ∷ Feeds
    ∷ Record (get_or vs 0 0)
    ∷ [])
    n
    Length

back : (r : Refusal) → refusal_of (number_of r) (values_of r) ≡ r
unfolding number_of values_of refusal_of
back Duration = refl
back (Rate k) = refl
back Total = refl
back (Distribution k) = refl
back Taps = refl
back Prototype = refl
back (Draw d f) = refl
back (Noise p) = refl
back Length = refl
back Reply = refl
back Tape = refl
back StretchLength = refl
back Level = refl
back TriggerLevel = refl
back SamplesPerPulse = refl
back Log = refl
back Feeds = refl
back (Record k) = refl

pub told_apart : (r s : Refusal) → number_of r ≡ number_of s → values_of r ≡ values_of s → r ≡ s
told_apart r s n v = sym (back r) ∙ ap (λ (k : ℕ). refusal_of k (values_of r)) n ∙ ap (refusal_of (number_of s)) v ∙ back s
