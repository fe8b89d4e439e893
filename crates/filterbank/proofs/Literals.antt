-- What the code computes with its literals is what the definitions say.
use Rattle.std.proofs.Common.{◌≡◌, ℕ, ◌+◌, ◌-◌, ◌*◌, ◌<◌, ◌≤◌, Bool, false, cond, List, [], ◌∷◌, length, get_or, drop, pos, sym, refl, add-zero, mul-zero, zero-add, mul-one, arith, le-ltb, lt-ltb}
use native.Mathlib.Nat.{sub-zero}
use lib.Ieee.{Float, nan, binary32, binary64, of_bits, of_int, add, sub, mul}
use Rattle.constants.specs.Rate.{branches}
use Rattle.filterbank.specs.Taps.{one, branch, between}
use Rattle.pulse_shape.specs.Values.{values_from}
use Rattle.filterbank.specs.PulseSum.{sum_where}
use Rattle.filterbank.specs.PaddedPulsesModel.{padded_sum}

-- 1.0
abbrev pub f1 : Float
f1 = of_bits binary64 4607182418800017408

-- its two forms, of the code and of the definitions
pub is1 : f1 ≡ of_int binary64 (pos 1)
unfolding of_bits of_int
is1 = refl

-- ---- the taps between two branches: n is the number of branches
abbrev interpolated_of : List Float → Float → ℕ → ℕ → Float
interpolated_of p tau i j = add binary32 (mul binary32 (sub binary32 one tau) (get_or p i nan)) (mul binary32 tau (get_or p j nan))

pub seven_taps : (sps n : ℕ) → n ≡ branches sps → (p : List Float) (tau : Float) (a : ℕ) (r0 r1 r2 r3 r4 r5 r6 : Float)
    → r0 ≡ interpolated_of p tau a (a + 1)
    → r1 ≡ interpolated_of p tau (a + n) (a + 1 + n)
    → r2 ≡ interpolated_of p tau (a + n * 2) (a + 1 + n * 2)
    → r3 ≡ interpolated_of p tau (a + n * 3) (a + 1 + n * 3)
    → r4 ≡ interpolated_of p tau (a + n * 4) (a + 1 + n * 4)
    → r5 ≡ interpolated_of p tau (a + n * 5) (a + 1 + n * 5)
    → r6 ≡ interpolated_of p tau (a + n * 6) (a + 1 + n * 6)
    → r0 ∷ r1 ∷ r2 ∷ r3 ∷ r4 ∷ r5 ∷ r6 ∷ [] ≡ between tau (branch sps p a) (branch sps p (a + 1))
unfolding between branch values_from
seven_taps sps n e p tau a r0 r1 r2 r3 r4 r5 r6 e0 e1 e2 e3 e4 e5 e6 =
    rw (e0, e1, e2, e3, e4, e5, e6) (rw (← e, mul-zero n, mul-one n, add-zero (a + 1), add-zero a))

-- and those of the last branch, the last of which gets no addition
pub rolled_taps : (sps n a : ℕ) → n ≡ branches sps → a ≡ branches sps - 1 → (p : List Float) (tau : Float) {r0 r1 r2 r3 r4 r5 : Float}
    → r0 ≡ interpolated_of p tau a n
    → r1 ≡ interpolated_of p tau (a + n) (n * 2)
    → r2 ≡ interpolated_of p tau (a + n * 2) (n * 3)
    → r3 ≡ interpolated_of p tau (a + n * 3) (n * 4)
    → r4 ≡ interpolated_of p tau (a + n * 4) (n * 5)
    → r5 ≡ interpolated_of p tau (a + n * 5) (n * 6)
    → r0 ∷ r1 ∷ r2 ∷ r3 ∷ r4 ∷ r5 ∷ mul binary32 (sub binary32 one tau) (get_or p (a + n * 6) nan) ∷ [] ≡ between tau (branch sps p (branches sps - 1)) (drop 1 (branch sps p 0))
unfolding between branch values_from
rolled_taps sps n a e f p tau e0 e1 e2 e3 e4 e5 =
    rw (e0, e1, e2, e3, e4, e5) (rw (← f, ← e, mul-zero n, mul-one n, add-zero a, zero-add n, zero-add (n * 2), zero-add (n * 3), zero-add (n * 4), zero-add (n * 5), zero-add (n * 6)))

-- ---- the pulse sum
abbrev added_of : Float → Float → Bool → Float
added_of sum tap on = cond on (add binary32 sum tap) sum

pub sum_past : (t : List Float) (padded_pulses : List Bool) (i : ℕ) → 246 ≤ i → of_bits binary32 0 ≡ padded_sum t padded_pulses i
unfolding padded_sum
sum_past t padded_pulses i h = sym (rw (le-ltb i 246 h))

place : (i a b : ℕ) → i + (a + b) - b ≡ i + a
place i a b = omega arith

place_0 : (i : ℕ) → i + 6 - 6 ≡ i
place_0 i = omega arith

pub sum_seven : (t : List Float) (padded_pulses : List Bool) (i : ℕ) (s0 s1 s2 s3 s4 s5 s6 : Float) → 7 ≡ length t → i < 246
    → s0 ≡ added_of (of_bits binary32 0) (get_or t 0 nan) (get_or padded_pulses (i + 6) false)
    → s1 ≡ added_of s0 (get_or t 1 nan) (get_or padded_pulses (i + 5) false)
    → s2 ≡ added_of s1 (get_or t 2 nan) (get_or padded_pulses (i + 4) false)
    → s3 ≡ added_of s2 (get_or t 3 nan) (get_or padded_pulses (i + 3) false)
    → s4 ≡ added_of s3 (get_or t 4 nan) (get_or padded_pulses (i + 2) false)
    → s5 ≡ added_of s4 (get_or t 5 nan) (get_or padded_pulses (i + 1) false)
    → s6 ≡ added_of s5 (get_or t 6 nan) (get_or padded_pulses i false)
    → s6 ≡ padded_sum t padded_pulses i
unfolding padded_sum sum_where
sum_seven [] padded_pulses i s0 s1 s2 s3 s4 s5 s6 l h e0 e1 e2 e3 e4 e5 e6 = absurd (omega arith)
sum_seven (a ∷ []) padded_pulses i s0 s1 s2 s3 s4 s5 s6 l h e0 e1 e2 e3 e4 e5 e6 = absurd (omega arith)
sum_seven (a ∷ b ∷ []) padded_pulses i s0 s1 s2 s3 s4 s5 s6 l h e0 e1 e2 e3 e4 e5 e6 = absurd (omega arith)
sum_seven (a ∷ b ∷ c ∷ []) padded_pulses i s0 s1 s2 s3 s4 s5 s6 l h e0 e1 e2 e3 e4 e5 e6 = absurd (omega arith)
sum_seven (a ∷ b ∷ c ∷ d ∷ []) padded_pulses i s0 s1 s2 s3 s4 s5 s6 l h e0 e1 e2 e3 e4 e5 e6 = absurd (omega arith)
sum_seven (a ∷ b ∷ c ∷ d ∷ e ∷ []) padded_pulses i s0 s1 s2 s3 s4 s5 s6 l h e0 e1 e2 e3 e4 e5 e6 = absurd (omega arith)
sum_seven (a ∷ b ∷ c ∷ d ∷ e ∷ f ∷ []) padded_pulses i s0 s1 s2 s3 s4 s5 s6 l h e0 e1 e2 e3 e4 e5 e6 = absurd (omega arith)
sum_seven (a ∷ b ∷ c ∷ d ∷ e ∷ f ∷ g ∷ x ∷ l) padded_pulses i s0 s1 s2 s3 s4 s5 s6 n h e0 e1 e2 e3 e4 e5 e6 = absurd (omega arith)
sum_seven (a ∷ b ∷ c ∷ d ∷ e ∷ f ∷ g ∷ []) padded_pulses i s0 s1 s2 s3 s4 s5 s6 l h e0 e1 e2 e3 e4 e5 e6 =
    rw (e6, e5, e4, e3, e2, e1, e0) (sym (rw (lt-ltb i 246 h) (rw (sub-zero (i + 6), place i 5 1, place i 4 2, place i 3 3, place i 2 4, place i 1 5, place_0 i))))
