-- The memory of a rack (SPECIFICATION 15.2): a feed in a call, from the memory and the call's samples; and the memory after the call.
use Rattle.std.specs.Prelude.{List, ◌++◌, ℕ, ◌-◌, ◌*◌, Float, length, take, drop}
use Rattle.rack.specs.Feeds.{longest_delay, silent, scaled}

-- A feed in a call. The memory holds the last 4,095 samples, of which `seen` are samples of the run; the call's samples follow.
-- The feed is 0.0 for those never seen and the gain times the others, from `delay` samples before the call on, as long as the call's samples.
-- A delay or a count of samples seen above 4,095 is read as 4,095.
unfoldable pub feed_of : Float → ℕ → ℕ → List Float → List Float → List Float
feed_of gain delay seen memory samples =
    take (length samples)
    (drop (2 * (longest_delay - delay)) (silent (2 * (longest_delay - seen)) ++ scaled gain (drop (2 * (longest_delay - seen)) memory ++ samples)))

-- the memory after a call: as many numbers as before, the last ones of the memory and then the samples
unfoldable pub held_after : List Float → List Float → List Float
held_after memory samples = drop (length samples) (memory ++ samples)
