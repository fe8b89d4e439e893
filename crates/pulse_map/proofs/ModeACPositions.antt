-- A Mode A/C pulse stands at a position exactly where SPECIFICATION 7.7 says: at 0 and 42, at 51 for SPI, at the position of each bit that is set, and nowhere else.
-- Of `position_of` only this is used: it rises, and lies between 0 and 42.
use mathlib.Core.Path.{◌≡◌, refl, sym, ap, ◌∙◌}
use mathlib.Core.Bool.{Bool, true, false, ◌||◌, or-false, or_assoc}
use mathlib.Core.List.{List, [], ◌∷◌, ◌++◌}
use Prim.Native.Nat.{ℕ, zero, suc, ◌+◌, ◌≤◌, ◌<◌}
use native.Mathlib.Decide.{dec_lt}
use native.Mathlib.Omega.{arith}
use borrow.Author.Tests.{eq-eqb, ne_eqb}
use lib.Dec.{eqb}
use Rattle.mode_ac.specs.Data.{bit_of}
use Rattle.mode_ac.specs.Positions.{position_of}
use Rattle.mode_ac.proofs.RisingPositions.{position_above, position_below, rising}
use Rattle.pulse_map.specs.Map.{pulse_at}
use Rattle.pulse_map.specs.ModeAC.{mode_ac_length, only_if, data_positions, mode_ac_positions}

at_append : (ps qs : List ℕ) (k : ℕ) → pulse_at (ps ++ qs) k ≡ (pulse_at ps k || pulse_at qs k)
unfolding pulse_at
at_append [] qs k = refl
at_append (p ∷ ps) qs k = ap (λ (x : Bool). eqb p k || x) (at_append ps qs k) ∙ sym (or_assoc (eqb p k) (pulse_at ps k) (pulse_at qs k))

only_at : (b : Bool) (p k : ℕ) → eqb p k ≡ true → pulse_at (only_if b p) k ≡ b
unfolding pulse_at
only_at true p k e = rw e
only_at false p k e = refl

only_off : (b : Bool) (p k : ℕ) → eqb p k ≡ false → pulse_at (only_if b p) k ≡ false
unfolding pulse_at
only_off true p k e = rw e
only_off false p k e = refl

-- no pulse of a bit stands at a position that is not its own
off_data : (d left n k : ℕ) → ((j : ℕ) → n ≤ j → j < n + left → eqb (position_of j) k ≡ false)
    → pulse_at (data_positions d left n) k ≡ false
unfolding data_positions pulse_at
off_data d zero n k f = refl
off_data d (suc left) n k f =
    at_append (only_if (bit_of d n) (position_of n)) (data_positions d left (suc n)) k
    ∙ ap (λ (b : Bool). b || pulse_at (data_positions d left (suc n)) k)
    (only_off (bit_of d n) (position_of n) k (f n (omega arith) (omega arith)))
    ∙ off_data d left (suc n) k (λ j a b. f j (omega arith) (omega arith))

on_data : (d left n j : ℕ) → n ≤ j → j < n + left → n + left ≤ 12 → pulse_at (data_positions d left n) (position_of j) ≡ bit_of d j
unfolding data_positions
on_data d zero n j a b l = absurd (omega arith)
on_data d (suc left) n j a b l =
    at_append (only_if (bit_of d n) (position_of n)) (data_positions d left (suc n)) (position_of j)
    ∙ elim (dec_lt n j) [
      | yes p ↦
          ap (λ (x : Bool). x || pulse_at (data_positions d left (suc n)) (position_of j))
          (only_off (bit_of d n) (position_of n) (position_of j) (ne_eqb (position_of n) (position_of j) (λ q. omega (arith, rising n j p (omega arith)))))
          ∙ on_data d left (suc n) j p (omega arith) (omega arith)
      | no p ↦
          let q : n ≡ j = omega arith in
          ap (λ (x : Bool). pulse_at (only_if (bit_of d n) (position_of n)) (position_of j) || x)
          (off_data d left (suc n) (position_of j)
          (λ i s t. ne_eqb (position_of i) (position_of j) (λ e. omega (arith, rising j i (omega arith) (omega arith)))))
          ∙ or-false (pulse_at (only_if (bit_of d n) (position_of n)) (position_of j))
          ∙ only_at (bit_of d n) (position_of n) (position_of j) (eq-eqb (position_of n) (position_of j) (ap position_of q))
          ∙ ap (bit_of d) q
    ]

-- the framing pulses and SPI come before and after the bits
parts : (d : ℕ) (spi : Bool) (k : ℕ)
    → pulse_at (mode_ac_positions d spi) k
    ≡ (eqb 0 k || (pulse_at (data_positions d 12 0) k || (eqb 42 k || pulse_at (only_if spi 51) k)))
unfolding mode_ac_positions pulse_at
parts d spi k = ap (λ (x : Bool). eqb 0 k || x) (at_append (data_positions d 12 0) (42 ∷ only_if spi 51) k)

pub first_frame : (d : ℕ) (spi : Bool) → pulse_at (mode_ac_positions d spi) 0 ≡ true
unfolding mode_ac_positions pulse_at
first_frame d spi = refl

-- no bit stands at 42 or later
late : (d k : ℕ) → 42 ≤ k → pulse_at (data_positions d 12 0) k ≡ false
late d k h = off_data d 12 0 k (λ j a b. ne_eqb (position_of j) k (λ e. omega (arith, position_below j (omega arith))))

pub second_frame : (d : ℕ) (spi : Bool) → pulse_at (mode_ac_positions d spi) 42 ≡ true
second_frame d spi = parts d spi 42 ∙ ap (λ (b : Bool). b || true) (late d 42 (omega arith))

pub identification : (d : ℕ) (spi : Bool) → pulse_at (mode_ac_positions d spi) 51 ≡ spi
identification d spi =
    parts d spi 51 ∙ ap (λ (b : Bool). b || pulse_at (only_if spi 51) 51) (late d 51 (omega arith)) ∙ only_at spi 51 51 refl

-- the position of bit n, if it is set
pub data_position : (d : ℕ) (spi : Bool) (n : ℕ) → n < 12 → pulse_at (mode_ac_positions d spi) (position_of n) ≡ bit_of d n
data_position d spi n h =
    let a = position_above n h in
    let b = position_below n h in
    parts d spi (position_of n)
    ∙ rw (
      ne_eqb 0 (position_of n) (λ q. omega arith),
      on_data d 12 0 n (omega arith) (omega arith) (omega arith),
      ne_eqb 42 (position_of n) (λ q. omega arith),
      only_off spi 51 (position_of n) (ne_eqb 51 (position_of n) (λ q. omega arith)),
    ) (or-false (bit_of d n))

-- nowhere else
pub nowhere_else : (d : ℕ) (spi : Bool) (k : ℕ) → (k ≡ 0 → ⊥) → (k ≡ 42 → ⊥) → (k ≡ 51 → ⊥)
    → ((n : ℕ) → n < 12 → k ≡ position_of n → ⊥) → pulse_at (mode_ac_positions d spi) k ≡ false
nowhere_else d spi k a b c f =
    parts d spi k
    ∙ rw (
      ne_eqb 0 k (λ q. a (sym q)),
      off_data d 12 0 k (λ j s t. ne_eqb (position_of j) k (λ q. f j (omega arith) (sym q))),
      ne_eqb 42 k (λ q. b (sym q)),
      only_off spi 51 k (ne_eqb 51 k (λ q. c (sym q))),
    )

pub beyond : (d : ℕ) (spi : Bool) (k : ℕ) → mode_ac_length spi ≤ k → pulse_at (mode_ac_positions d spi) k ≡ false
unfolding mode_ac_length pulse_at
beyond d true k h = nowhere_else d true k (λ q. omega arith) (λ q. omega arith) (λ q. omega arith) (λ n l q. omega (arith, position_below n l))
beyond d false k h = parts d false k ∙ rw (ne_eqb 0 k (λ q. omega arith), late d k (omega arith), ne_eqb 42 k (λ q. omega arith))
