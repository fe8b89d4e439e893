-- The table of refusals (SPECIFICATION 3.1): what is returned for each cause, a number and its values.
use Rattle.std.specs.Prelude.{ℕ, List, [], ◌∷◌}
use Rattle.refusals.specs.declared.Refusal.{Refusal}
use Rattle.refusals.specs.declared.Refusal.TheVariants.{Duration, Rate, Total, Distribution, Taps, Prototype, Draw, Noise, Length, Reply, Tape, StretchLength, Level, TriggerLevel, SamplesPerPulse, Log, Feeds, Record}

unfoldable pub number_of : Refusal → ℕ
number_of Duration = 1
number_of (Rate rate) = 2
number_of Total = 3
number_of (Distribution distribution) = 4
number_of Taps = 5
number_of Prototype = 6
number_of (Draw draw field) = 7
number_of (Noise index) = 8
number_of Length = 9
number_of Reply = 10
number_of Tape = 11
number_of StretchLength = 12
number_of Level = 13
number_of TriggerLevel = 14
number_of SamplesPerPulse = 15
number_of Log = 16
number_of Feeds = 17
number_of (Record index) = 18

-- what is returned beside the number: the rate, 0 to 6; the distribution, 0 to 2; the draw and the field; the index of a noise value or of a record
unfoldable pub values_of : Refusal → List ℕ
values_of Duration = []
values_of (Rate rate) = rate ∷ []
values_of Total = []
values_of (Distribution distribution) = distribution ∷ []
values_of Taps = []
values_of Prototype = []
values_of (Draw draw field) = draw ∷ field ∷ []
values_of (Noise index) = index ∷ []
values_of Length = []
values_of Reply = []
values_of Tape = []
values_of StretchLength = []
values_of Level = []
values_of TriggerLevel = []
values_of SamplesPerPulse = []
values_of Log = []
values_of Feeds = []
values_of (Record index) = index ∷ []
