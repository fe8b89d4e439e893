-- The samples of one reply alone (SPECIFICATION 14.3), as numbers, two for each sample, real part before imaginary: the noise first, and the reply added to it, trimmed at both ends.
use Rattle.std.specs.Prelude.{ℕ, suc, ◌*◌, List, [], ◌∷◌, ◌++◌, ℤ, pos, negsuc, take, drop, Float}
use Rattle.std.specs.Float.{binary32}
use Rattle.std.specs.Float.Ieee.{add, mul}
use Rattle.run_theory.specs.FloatGenerator.{noise_scale}
use Rattle.reply_samples.specs.declared.Sample.{Sample}

-- noise as it is written: each value times 2^-10
unfoldable pub scaled_noise : List Float → List Float
scaled_noise [] = []
scaled_noise (v ∷ vs) = mul binary32 v noise_scale ∷ scaled_noise vs

-- a reply's samples as numbers
unfoldable pub numbers_of : List Sample → List Float
numbers_of [] = []
numbers_of (z ∷ zs) = z.re ∷ z.im ∷ numbers_of zs

-- numbers added to others one by one, as far as both go; the rest of the first list stays
unfoldable pub added_to : List Float → List Float → List Float
added_to [] ys = []
added_to (x ∷ xs) [] = x ∷ xs
added_to (x ∷ xs) (y ∷ ys) = add binary32 x y ∷ added_to xs ys

-- the first sample that a reply with this start reaches
unfoldable pub first_reached : ℤ → ℕ
first_reached (pos s) = s
first_reached (negsuc k) = 0

-- the samples of the reply that lie before sample 0
unfoldable pub passed_over : ℤ → ℕ
passed_over (pos s) = 0
passed_over (negsuc k) = suc k

-- the reply added from its start on: its samples before sample 0 are passed over, and those past the end are left out
unfoldable pub with_reply : ℤ → List Sample → List Float → List Float
with_reply start zs xs = take (2 * first_reached start) xs ++ added_to (drop (2 * first_reached start) xs) (drop (2 * passed_over start) (numbers_of zs))
