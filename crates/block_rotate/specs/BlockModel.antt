-- A model of code: what the loops over a block compute, each one's results as lists.
use Rattle.std.specs.Prelude.{ℕ, ◌+◌, ◌-◌, ◌%◌, Bool, cond, List, [], ◌∷◌, Float}
use Rattle.std.specs.Simd.Lanes.{zip2}
use Rattle.std.specs.Float.{binary32}
use Rattle.std.specs.Float.Ieee.{mul, neg, lt}
use Rattle.math.specs.Carrier.{inner_limit, outer_limit, quadrant}
use Rattle.reply_samples.specs.declared.Sample.{Sample}
use Rattle.reply_samples.specs.RingModel.{added_at}

unfoldable pub bit : Bool → ℕ
bit b = cond b 1 0

-- how many of the limits of the reduction lie above a phase
unfoldable pub limits_above : Float → ℕ
limits_above p = bit (lt p (neg outer_limit)) + bit (lt p (neg inner_limit)) + bit (lt p inner_limit) + bit (lt p outer_limit)

-- the quadrant of a phase with n limits above it
unfoldable pub quarter : ℕ → ℕ
quarter n = (6 - n) % 4

-- f of the elements of three lists, as many as each has
unfoldable pub zip3 : (ℕ → Float → Float → Float) → List ℕ → List Float → List Float → List Float
zip3 f [] xs ys = []
zip3 f (n ∷ ns) [] ys = []
zip3 f (n ∷ ns) (x ∷ xs) [] = []
zip3 f (n ∷ ns) (x ∷ xs) (y ∷ ys) = f n x y ∷ zip3 f ns xs ys

-- the sines and cosines of phases, from the limits above each and the sine and cosine of what is left of it
unfoldable pub turned_sine : List ℕ → List Float → List Float → List Float
turned_sine ns ss cs = zip3 (λ n c s. (quadrant (quarter n) s c).sin) ns cs ss

unfoldable pub turned_cosine : List ℕ → List Float → List Float → List Float
turned_cosine ns ss cs = zip3 (λ n s c. (quadrant (quarter n) s c).cos) ns ss cs

-- values times the amplitude and a factor each
unfoldable pub scaled_by : Float → List Float → List Float → List Float
scaled_by amplitude vs xs = zip2 (λ v x. mul binary32 (mul binary32 amplitude v) x) vs xs

-- samples from their real and imaginary parts
unfoldable pub zipped : List Float → List Float → List Sample
zipped [] ys = []
zipped (x ∷ xs) [] = []
zipped (x ∷ xs) (y ∷ ys) = record { re = x; im = y } ∷ zipped xs ys

-- samples added one after the other with no return to the first slot
unfoldable pub added_line : List Float → ℕ → List Sample → List Float
added_line memory slot [] = memory
added_line memory slot (z ∷ zs) = added_line (added_at memory slot z) (slot + 1) zs
