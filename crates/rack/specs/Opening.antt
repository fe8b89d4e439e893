-- Opening a rack (SPECIFICATION 15.1): the refusals 9 and 17, the rack that is opened, and its memory.
use Rattle.std.specs.Prelude.{Result, Ok, Err, Bool, true, false, cond, not, ◌&&◌, ◌||◌, List, [], ◌∷◌, ◌++◌, ℕ, eqb, leb, pos, Float, length, drop, replicate}
use Rattle.std.specs.Float.{fin}
use Rattle.std.specs.Float.Ieee.{le}
use Rattle.refusals.specs.declared.Refusal.{Refusal}
use Rattle.refusals.specs.declared.Refusal.TheVariants.{Length, Feeds}
use Rattle.rack.specs.declared.Rack.{Rack}
use Rattle.rack.specs.Feeds.{most_feeds, longest_delay, memory_length, nought, silent}

abbrev pub one : Float
one = fin false 1 (pos 0)

-- A gain is from 0 to 1, both ends in range. -0.0 is not below 0; a NaN compares with nothing.
unfoldable pub gain_fits : Float → Bool
gain_fits gain = le nought gain && le gain one

-- every delay and gain, feed by feed
unfoldable pub each_fits : List ℕ → List Float → Bool
each_fits [] gains = true
each_fits (delay ∷ delays) [] = true
each_fits (delay ∷ delays) (gain ∷ gains) = leb delay longest_delay && gain_fits gain && each_fits delays gains

-- 9: a memory of another length, or lists of unlike lengths
unfoldable pub wrong_lengths : ℕ → List ℕ → List Float → Bool
wrong_lengths memory delays gains = not (eqb memory memory_length) || not (eqb (length delays) (length gains))

-- 17: no feed or more than sixteen, or a delay or gain out of range
unfoldable pub wrong_feeds : List ℕ → List Float → Bool
wrong_feeds delays gains = eqb (length delays) 0 || not (leb (length delays) most_feeds) || not (each_fits delays gains)

-- the refusal of an opening that is given a memory of this length, 9 before 17
unfoldable pub checked : ℕ → List ℕ → List Float → Result (Unit {0}) Refusal
checked memory delays gains = cond (wrong_lengths memory delays gains) (Err Length) (cond (wrong_feeds delays gains) (Err Feeds) (Ok tt))

-- sixteen entries, zeros behind those of the feeds
unfoldable pub delay_row : List ℕ → List ℕ
delay_row delays = delays ++ drop (length delays) (replicate most_feeds 0)

unfoldable pub gain_row : List Float → List Float
gain_row gains = gains ++ drop (length gains) (silent most_feeds)

-- the rack of these feeds, before its first sample
unfoldable pub rack_of : List ℕ → List Float → Rack
rack_of delays gains = record { feeds = length delays; seen = 0; delays = delay_row delays; gains = gain_row gains }

-- what an opening answers, and its memory afterwards
pub record OpenLeft : Type 0 where
  pub answer : Result Rack Refusal
  pub memory : List Float

-- A refusal leaves the memory as it is. Accepted, the memory is all 0.0.
unfoldable pub left_by : List Float → List ℕ → List Float → Result (Unit {0}) Refusal → OpenLeft
left_by memory delays gains (Ok u) = record { answer = Ok (rack_of delays gains); memory = silent memory_length }
left_by memory delays gains (Err q) = record { answer = Err q; memory = memory }

unfoldable pub open_left : List Float → List ℕ → List Float → OpenLeft
open_left memory delays gains = left_by memory delays gains (checked (length memory) delays gains)
