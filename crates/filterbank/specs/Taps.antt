-- The taps at a clock phase: `filter_taps` of the Rust, on a prototype whose branch j of B holds entries j, j + B and so on (256 branches at 4 samples per pulse, 512 at 8).
use Rattle.std.specs.Prelude.{ℕ, ◌+◌, ◌-◌, ◌*◌, cond, List, [], ◌∷◌, length, drop, replicate, pos, ◌==◌, from_bits, nat_lt, slice_index_or, Float}
use Rattle.std.specs.Float.{nan, binary32, binary64}
use Rattle.std.specs.Float.Ieee.{of_int, to_unsigned, add, sub, mul}
use Rattle.floats.specs.Narrow.{narrow}
use Rattle.constants.specs.Rate.{branches, taps_per_branch, prototype_length}
use Rattle.pulse_shape.specs.Values.{values}

-- the phase times the number of branches
unfoldable pub scaled : ℕ → Float → Float
scaled sps phase = mul binary64 phase (of_int binary64 (pos (branches sps)))

-- a branch's number, and 0 for what is none: a phase from 0 to below 1 has its own, see proofs/BranchWithin.antt
abbrev pub numbered : ℕ → ℕ → ℕ
numbered sps n = cond (nat_lt n (branches sps)) n 0

-- the branch at a phase: the whole part of the scaled phase
unfoldable pub branch_of : ℕ → Float → ℕ
branch_of sps phase = numbered sps (to_unsigned 64 (scaled sps phase))

-- how far the phase lies past its branch
unfoldable pub tau_of : ℕ → Float → Float
tau_of sps phase = narrow (sub binary64 (scaled sps phase) (of_int binary64 (pos (branch_of sps phase))))

-- branch j of B: entries j, j + B and so on, seven taps
unfoldable pub branch : ℕ → List Float → ℕ → List Float
branch sps prototype j = values (λ k. slice_index_or prototype (j + branches sps * k) nan) taps_per_branch

-- what the taps of branch a go on to: branch a + 1, and branch 0 from its second tap for the last one
unfoldable pub next_branch : ℕ → List Float → ℕ → List Float
next_branch sps prototype a = cond (nat_lt a (branches sps - 1)) (branch sps prototype (a + 1)) (drop 1 (branch sps prototype 0))

abbrev pub one : Float
one = from_bits binary32 0x3f80_0000

-- (1 - tau) * x + tau * y at each index, with no addition where the second list has ended
unfoldable pub between : Float → List Float → List Float → List Float
between tau [] ys = []
between tau (x ∷ xs) [] = mul binary32 (sub binary32 one tau) x ∷ between tau xs []
between tau (x ∷ xs) (y ∷ ys) = add binary32 (mul binary32 (sub binary32 one tau) x) (mul binary32 tau y) ∷ between tau xs ys

-- the seven taps at a phase. A prototype of another length, which a run refuses before any sample, has taps of 0.0
unfoldable pub filter_taps : ℕ → List Float → Float → List Float
filter_taps sps prototype phase =
    let a = branch_of sps phase in
    cond (length prototype == prototype_length sps) (between (tau_of sps phase) (branch sps prototype a) (next_branch sps prototype a)) (replicate taps_per_branch (from_bits binary32 0))
