-- What holds of the table and of every level (SPECIFICATION 6.15), in whole numbers: the table's rule; the amplitude is the nearest f32, ties to even; it is within one part in 2 ^ 22 of the exact figure; and what is refused.
use Rattle.std.specs.Prelude.{Ok, Err, ◌≡◌, false, ℕ, ◌+◌, ◌*◌, ◌/◌, ◌%◌, ◌^◌, ◌≤◌, ◌<◌, Float, length}
use Rattle.std.specs.Float.{binary32}
use Rattle.std.specs.Float.Ieee.{of_bits}
use Rattle.std.specs.Float.Ieee.Exact.{HasValue}
use Rattle.refusals.specs.declared.Refusal.TheVariants.{Level}
use Rattle.draw_level.specs.Levels.{table, entry_of, Entry, amplitude_of, level_of}

-- x is the normal f32 nearest to a / b, ties to even. From one f32 to the next is a step of 2 ^ (exponent - 149) where a / b lies, since it is from 2 ^ 23 to below 2 ^ 24 of them. x is `significand` steps: at most half a step from a / b, and an even number of them if it is half a step.
pub record NearestEven (a b : ℕ) (x : Float) : Type 0 where
  pub significand : ℕ
  pub exponent : ℕ
  pub value : HasValue x false (significand * 2 ^ exponent) (2 ^ 149)
  pub from : 2 ^ 23 * (b * 2 ^ exponent) ≤ a * 2 ^ 149
  pub to : a * 2 ^ 149 < 2 ^ 24 * (b * 2 ^ exponent)
  pub above : significand * (b * 2 ^ exponent) * 2 ≤ a * 2 ^ 149 * 2 + b * 2 ^ exponent
  pub below : a * 2 ^ 149 * 2 ≤ significand * (b * 2 ^ exponent) * 2 + b * 2 ^ exponent
  pub tie_above : significand * (b * 2 ^ exponent) * 2 ≡ a * 2 ^ 149 * 2 + b * 2 ^ exponent → significand % 2 ≡ 0
  pub tie_below : a * 2 ^ 149 * 2 ≡ significand * (b * 2 ^ exponent) * 2 + b * 2 ^ exponent → significand % 2 ≡ 0

-- x is within one part in 2 ^ 22 of 10 ^ (n / 200) / 2,048,000, whose 200th power is 10 ^ n / 2,048,000 ^ 200:
-- the 200th power of 2 ^ 22 * 2,048,000 * x lies between those of 2 ^ 22 - 1 and 2 ^ 22 + 1, times 10 ^ n
pub record Within (n : ℕ) (x : Float) : Type 0 where
  pub over : ℕ
  pub under : ℕ
  pub positive : 0 < under
  pub value : HasValue x false over under
  pub least : (4194303 * under) ^ 200 * 10 ^ n ≤ (4194304 * 2048000 * over) ^ 200
  pub most : (4194304 * 2048000 * over) ^ 200 ≤ (4194305 * under) ^ 200 * 10 ^ n

pub record LevelLaws : Type 0 where
  pub entries : length table ≡ 200
  pub rule : (k : ℕ) → k < 200 → Entry k (entry_of k)
  -- no other number has the rule
  pub only : (k t : ℕ) → k < 200 → Entry k t → t ≡ entry_of k
  pub nearest : (n : ℕ) → n ≤ 2000 → NearestEven (entry_of (n % 200) * 10 ^ (n / 200)) (2048000 * 2 ^ 30) (amplitude_of n)
  pub within : (n : ℕ) → n ≤ 2000 → Within n (amplitude_of n)
  -- the specification's examples; three of them are ties
  pub bits_0 : amplitude_of 0 ≡ of_bits binary32 0x3503_126f
  pub bits_315 : amplitude_of 315 ≡ of_bits binary32 0x3799_f168
  pub bits_343 : amplitude_of 343 ≡ of_bits binary32 0x37d4_8020
  pub bits_601 : amplitude_of 601 ≡ of_bits binary32 0x3a01_7b70
  pub bits_2000 : amplitude_of 2000 ≡ of_bits binary32 0x4598_9680
  pub accepts : (n : ℕ) → n ≤ 2000 → level_of n ≡ Ok (amplitude_of n)
  pub refuses : (n : ℕ) → 2000 < n → level_of n ≡ Err Level
