-- A model of code: what is tested of a phase and found of it, and the sum over padded pulses of taps that are worked out one by one.
use Rattle.std.specs.Prelude.{ℕ, ◌+◌, ◌*◌, ◌<◌, ◌≡◌, Bool, true, false, cond, ◌&&◌, List, pos, from_bits, nat_lt, length, slice_index_or, Float}
use Rattle.std.specs.Float.{nan, binary32, binary64}
use Rattle.std.specs.Float.Ieee.{of_int, add, sub, mul, lt, le}
use Rattle.std.specs.Simd.Lanes.{Each1}
use Rattle.filterbank.specs.Taps.{scaled, branch_of, tau_of, filter_taps}
use Rattle.filterbank.specs.PaddedPulsesModel.{padded_sum}

-- from 0.0 to below 1.0
abbrev pub in_unit : Float → Bool
in_unit x = le (from_bits binary64 0) x && lt x (from_bits binary64 0x3ff0_0000_0000_0000)

-- each of a row
abbrev pub EachInUnit : List Float → Type 0
EachInUnit row = Each1 (λ x. in_unit x ≡ true) row

abbrev pub InUnit : List Float → ℕ → Type 0
InUnit phases n = (k : ℕ) → k < n → in_unit (slice_index_or phases k nan) ≡ true

-- a branch and the rest beyond it are those of a phase
abbrev pub Placed : ℕ → Float → ℕ → Float → Type 0
Placed sps phase a d = (a ≡ branch_of sps phase) × (d ≡ sub binary64 (scaled sps phase) (of_int binary64 (pos (branch_of sps phase))))

abbrev pub EachPlaced : ℕ → List Float → List ℕ → List Float → ℕ → Type 0
EachPlaced sps phases at rest n = (k : ℕ) → k < n → Placed sps (slice_index_or phases k nan) (slice_index_or at k 0) (slice_index_or rest k nan)

-- the same with tau for the rest
abbrev pub Found : ℕ → List Float → List ℕ → List Float → Type 0
Found sps phases at tau = (k : ℕ) → k < 32 → (slice_index_or at k 0 ≡ branch_of sps (slice_index_or phases k nan)) × (slice_index_or tau k nan ≡ tau_of sps (slice_index_or phases k nan))

-- four places from i on have one index
abbrev pub OneIndex : List ℕ → ℕ → Type 0
OneIndex is i = (slice_index_or is (i + 1) 0 ≡ slice_index_or is i 0) × (slice_index_or is (i + 2) 0 ≡ slice_index_or is i 0) × (slice_index_or is (i + 3) 0 ≡ slice_index_or is i 0)

-- u * p[i] + tau * p[i + 1], and without the second where the prototype has ended
abbrev pub tap_at : List Float → Float → Float → ℕ → Float
tap_at p u tau i = add binary32 (mul binary32 u (slice_index_or p i nan)) (mul binary32 tau (slice_index_or p (i + 1) nan))

abbrev pub last_tap_at : List Float → Float → Float → ℕ → Float
last_tap_at p u tau i = cond (nat_lt (i + 1) (length p)) (tap_at p u tau i) (mul binary32 u (slice_index_or p i nan))

abbrev pub plus_where : Bool → Float → Float → Float
plus_where on s x = cond on (add binary32 s x) s

-- the sum at branch a of n, u being 1 - tau
unfoldable pub lane : List Float → ℕ → List Bool → ℕ → ℕ → Float → Float → Float
lane p n padded index a tau u =
    cond (nat_lt index 246)
    (plus_where (slice_index_or padded index false)
    (plus_where (slice_index_or padded (index + 1) false)
    (plus_where (slice_index_or padded (index + 2) false)
    (plus_where (slice_index_or padded (index + 3) false)
    (plus_where (slice_index_or padded (index + 4) false)
    (plus_where (slice_index_or padded (index + 5) false)
    (plus_where (slice_index_or padded (index + 6) false) (from_bits binary32 0) (tap_at p u tau a))
    (tap_at p u tau (a + n)))
    (tap_at p u tau (a + n * 2)))
    (tap_at p u tau (a + n * 3)))
    (tap_at p u tau (a + n * 4)))
    (tap_at p u tau (a + n * 5)))
    (last_tap_at p u tau (a + n * 6)))
    (from_bits binary32 0)

-- the value at place k of a block
abbrev pub value_in : ℕ → List Float → List Bool → List Float → List ℕ → ℕ → Float
value_in sps prototype padded phases is k = padded_sum (filter_taps sps prototype (slice_index_or phases k nan)) padded (slice_index_or is k 0)
