-- A Mode S pulse stands at a position exactly where SPECIFICATION 7.6 says: 0, 2, 7, 9; of the pair of each bit, at its first position for 1 and at its second for 0;
-- and nowhere beyond the message.
use mathlib.Core.Path.{◌≡◌, refl, ap, ◌∙◌}
use mathlib.Core.Bool.{Bool, false, ◌||◌, or-false}
use mathlib.Core.List.{List, [], ◌∷◌}
use Prim.Native.Nat.{ℕ, zero, suc, ◌+◌, ◌*◌, ◌≤◌, ◌<◌}
use native.Mathlib.Decide.{dec_lt}
use native.Mathlib.Omega.{arith}
use borrow.Author.Tests.{eq-eqb, ne_eqb}
use lib.Dec.{eqb}
use Rattle.pulse_map.specs.Map.{pulse_at}
use Rattle.pulse_map.specs.ModeS.{mode_s_bits, mode_s_length, byte_bit, bit_of, pair_position, bit_positions, mode_s_positions}
use Rattle.pulse_map.proofs.ModeSLoop.{pair_position_lem}

bit_below : (m : List ℕ) (n : ℕ) → bit_of m n < 2
unfolding bit_of byte_bit
bit_below m n = omega arith

-- no pulse of the bits from n on stands before the pair of bit n
before_pairs : (m : List ℕ) (left n k : ℕ) → k < 16 + 2 * n → pulse_at (bit_positions m left n) k ≡ false
unfolding bit_positions pulse_at
before_pairs m zero n k h = refl
before_pairs m (suc left) n k h =
    let e = pair_position_lem n (bit_of m n) (bit_below m n) in
    rw (ne_eqb (pair_position n (bit_of m n)) k (λ q. omega arith)) (before_pairs m left (suc n) k (omega arith))

-- nor after that of the last of them
after_pairs : (m : List ℕ) (left n k : ℕ) → 16 + 2 * (n + left) ≤ k → pulse_at (bit_positions m left n) k ≡ false
unfolding bit_positions pulse_at
after_pairs m zero n k h = refl
after_pairs m (suc left) n k h =
    let e = pair_position_lem n (bit_of m n) (bit_below m n) in
    rw (ne_eqb (pair_position n (bit_of m n)) k (λ q. omega arith)) (after_pairs m left (suc n) k (omega arith))

-- in the pair of bit j only its own pulse can stand
in_pair : (m : List ℕ) (left n j k : ℕ) → n ≤ j → j < n + left → 16 + 2 * j ≤ k → k < 18 + 2 * j
    → pulse_at (bit_positions m left n) k ≡ eqb (pair_position j (bit_of m j)) k
unfolding bit_positions pulse_at
in_pair m zero n j k a b l h = absurd (omega arith)
in_pair m (suc left) n j k a b l h =
    elim (dec_lt n j) [
      | yes p ↦
          let e = pair_position_lem n (bit_of m n) (bit_below m n) in
          rw (ne_eqb (pair_position n (bit_of m n)) k (λ q. omega arith)) (in_pair m left (suc n) j k p (omega arith) l h)
      | no p ↦
          let q : n ≡ j = omega arith in
          ap (λ (x : Bool). eqb (pair_position n (bit_of m n)) k || x) (before_pairs m left (suc n) k (omega arith))
          ∙ or-false (eqb (pair_position n (bit_of m n)) k)
          ∙ ap (λ (x : ℕ). eqb (pair_position x (bit_of m x)) k) q
    ]

first_of : (j b : ℕ) → b < 2 → eqb (pair_position j b) (16 + 2 * j) ≡ eqb b 1
first_of j zero h = ne_eqb (16 + 2 * j + 1) (16 + 2 * j) (λ q. omega arith)
first_of j (suc zero) h = eq-eqb (16 + 2 * j) (16 + 2 * j) refl
first_of j (suc (suc b)) h = absurd (omega arith)

second_of : (j b : ℕ) → b < 2 → eqb (pair_position j b) (16 + 2 * j + 1) ≡ eqb b 0
second_of j zero h = eq-eqb (16 + 2 * j + 1) (16 + 2 * j + 1) refl
second_of j (suc zero) h = ne_eqb (16 + 2 * j) (16 + 2 * j + 1) (λ q. omega arith)
second_of j (suc (suc b)) h = absurd (omega arith)

-- the four pulses of the preamble come first
past_preamble : (m : List ℕ) (long : Bool) (k : ℕ) → 16 ≤ k → pulse_at (mode_s_positions m long) k ≡ pulse_at (bit_positions m (mode_s_bits long) 0) k
unfolding mode_s_positions pulse_at
past_preamble m long k h =
    rw (ne_eqb 0 k (λ q. omega arith), ne_eqb 2 k (λ q. omega arith), ne_eqb 7 k (λ q. omega arith), ne_eqb 9 k (λ q. omega arith))

pub preamble : (m : List ℕ) (long : Bool) (k : ℕ) → k < 16 → pulse_at (mode_s_positions m long) k ≡ pulse_at (0 ∷ 2 ∷ 7 ∷ 9 ∷ []) k
unfolding mode_s_positions pulse_at
preamble m long k h = rw (before_pairs m (mode_s_bits long) 0 k (omega arith))

-- the first position of the pair of bit j for 1
pub first_position : (m : List ℕ) (long : Bool) (j : ℕ) → j < mode_s_bits long → pulse_at (mode_s_positions m long) (16 + 2 * j) ≡ eqb (bit_of m j) 1
first_position m long j h =
    past_preamble m long (16 + 2 * j) (omega arith)
    ∙ in_pair m (mode_s_bits long) 0 j (16 + 2 * j) (omega arith) (omega arith) (omega arith) (omega arith)
    ∙ first_of j (bit_of m j) (bit_below m j)

-- its second for 0
pub second_position : (m : List ℕ) (long : Bool) (j : ℕ) → j < mode_s_bits long
    → pulse_at (mode_s_positions m long) (16 + 2 * j + 1) ≡ eqb (bit_of m j) 0
second_position m long j h =
    past_preamble m long (16 + 2 * j + 1) (omega arith)
    ∙ in_pair m (mode_s_bits long) 0 j (16 + 2 * j + 1) (omega arith) (omega arith) (omega arith) (omega arith)
    ∙ second_of j (bit_of m j) (bit_below m j)

pub beyond : (m : List ℕ) (long : Bool) (k : ℕ) → mode_s_length long ≤ k → pulse_at (mode_s_positions m long) k ≡ false
unfolding mode_s_length
beyond m long k h = past_preamble m long k (omega arith) ∙ after_pairs m (mode_s_bits long) 0 k (omega arith)
