-- The positions of the twelve bits rise from bit to bit, and lie between those of the framing pulses, 0 and 42.
use mathlib.Core.Path.{◌≡◌, refl, sym, subst}
use mathlib.Core.Bool.{Bool}
use Prim.Native.Nat.{ℕ, zero, suc, ◌+◌, ◌-◌, ◌<◌}
use native.Mathlib.Omega.{arith}
use lib.Dec.{ltb, ltb→lt}
use Rattle.mode_ac.specs.Positions.{position_of}
use Rattle.mode_s.proofs.Below.{below}

above : ℕ → Bool
above n = ltb 0 (position_of n)

pub position_above : (n : ℕ) → n < 12 → 0 < position_of n
unfolding above position_of
position_above n h = ltb→lt 0 (position_of n) (below above 12 tt n h)

under : ℕ → Bool
under n = ltb (position_of n) 42

pub position_below : (n : ℕ) → n < 12 → position_of n < 42
unfolding under position_of
position_below n h = ltb→lt (position_of n) 42 (below under 12 tt n h)

next : ℕ → Bool
next n = ltb (position_of n) (position_of (suc n))

next_above : (n : ℕ) → n < 11 → position_of n < position_of (suc n)
unfolding next position_of
next_above n h = ltb→lt (position_of n) (position_of (suc n)) (below next 11 tt n h)

later : (n k m : ℕ) → m ≡ n + suc k → m < 12 → position_of n < position_of m
later n zero m e h =
    let q : m ≡ suc n = omega arith in subst (λ (x : ℕ). position_of n < position_of x) (sym q) (next_above n (omega arith))
later n (suc k) m e h =
    let p : position_of n < position_of (n + suc k) = later n k (n + suc k) refl (omega arith) in
    let q : position_of (n + suc k) < position_of (suc (n + suc k)) = next_above (n + suc k) (omega arith) in
    let r : m ≡ suc (n + suc k) = omega arith in
    let s : position_of n < position_of (suc (n + suc k)) = omega arith in
    subst (λ (x : ℕ). position_of n < position_of x) (sym r) s

pub rising : (n m : ℕ) → n < m → m < 12 → position_of n < position_of m
rising n m h l = later n (m - suc n) m (omega arith) l
