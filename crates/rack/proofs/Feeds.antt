-- Feed by feed, the room is all feeds in order.
use mathlib.Core.List.{List, ◌++◌, append_assoc}
use mathlib.Core.Path.{◌≡◌, sym, ap, ◌∙◌}
use Prim.Native.Nat.{ℕ, suc, ◌+◌, ◌-◌, ◌*◌, ◌≤◌, ◌<◌}
use native.Mathlib.Nat.{mul-le-mul_right, suc-mul}
use native.Mathlib.Numerals.{add-one}
use native.Mathlib.Omega.{arith}
use borrow.Rule.Slice.PartMut.{put_mid}
use lib.Ieee.{Float}
use lib.ListN.{length, take, drop, length-append}
use lib.Seq.{length-take-le, take_at}
use Rattle.rack.specs.Calls.{feed_at, feeds_up_to}

-- the room of feed i is inside
pub feed_inside : (i count n room : ℕ) → room ≡ count * n → i < count → i * n + n ≤ room
feed_inside i count n room er h = omega (arith, er, suc-mul i n, mul-le-mul_right {m = suc i} {n = count} n (omega arith))

module _ (delays : List ℕ) (gains : List Float) (seen : ℕ) (memory samples : List Float) where
  -- one feed more, written in its own room
  pub next_feed : (room written : List Float) (i n : ℕ) → i * n + n ≤ length room → length written ≡ n → take (i * n) room ≡ feeds_up_to i delays gains seen memory samples
      → written ≡ feed_at i delays gains seen memory samples
      → take ((i + 1) * n) (put_mid (i * n) (i * n + n - i * n) room written) ≡ feeds_up_to (i + 1) delays gains seen memory samples
  unfolding feeds_up_to
  next_feed room written i n h l e w =
      ap (take ((i + 1) * n)) (sym (append_assoc (take (i * n) room) written rest))
      ∙ take_at (take (i * n) room ++ written) rest ((i + 1) * n) front
      ∙ (λ j. e j ++ w j)
      ∙ ap (λ (k : ℕ). feeds_up_to k delays gains seen memory samples) (sym (add-one i))
    where
      rest : List Float
      rest = drop (i * n + n - i * n) (drop (i * n) room)

      front : length (take (i * n) room ++ written) ≡ (i + 1) * n
      front = omega (arith, length-append (take (i * n) room) written, length-take-le (i * n) room (omega arith), suc-mul i n, ap (λ (k : ℕ). k * n) (add-one i))
