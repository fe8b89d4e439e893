-- What makes the definitions total is idle in use: an index below 2 ^ 64 - 1 does not wrap, and a prototype of 1,792 values has its own taps.
use Rattle.std.proofs.Common.{◌≡◌, ℕ, ◌+◌, ◌^◌, ◌<◌, ◌≤◌, Bool, true, false, cond, List, length, replicate, ap, le_refl, lt_of_le_of_lt, mod-eq_of_lt, arith, eq-eqb}
use lib.Ieee.{Float, binary32, binary64, of_bits, add, le}
use Rattle.constants.specs.Rate.{prototype_length}
use Rattle.filterbank.specs.declared.Clock.{Clock}
use Rattle.filterbank.specs.Taps.{branch_of, tau_of, branch, next_branch, between, filter_taps}
use Rattle.filterbank.specs.Clocked.{one, settle, advance, in64}

-- the index grows by at most one
settle_index : (b : Bool) (q : Float) (i : ℕ) → (settle b q i).index ≤ i + 1
unfolding settle
settle_index true q i = le_refl (i + 1)
settle_index false q i = omega arith

pub advance_index : (step : Float) (clock : Clock) → (advance step clock).index ≤ clock.index + 1
unfolding advance
advance_index step clock = settle_index (le one (add binary64 clock.phase step)) (add binary64 clock.phase step) clock.index

clock_of : Float → ℕ → Clock
clock_of p i = record { phase = p; index = i }

pub in64_idle : (clock : Clock) → clock.index < 2 ^ 64 → in64 clock ≡ clock
unfolding clock_of
in64_idle clock h = ap (clock_of clock.phase) (mod-eq_of_lt h)

pub advance_idle : (step : Float) (clock : Clock) → clock.index + 1 < 2 ^ 64 → in64 (advance step clock) ≡ advance step clock
advance_idle step clock h = in64_idle (advance step clock) (lt_of_le_of_lt (advance_index step clock) h)

pub taps_own : (sps : ℕ) (prototype : List Float) (phase : Float) → length prototype ≡ prototype_length sps
    → filter_taps sps prototype phase ≡ between (tau_of sps phase) (branch sps prototype (branch_of sps phase)) (next_branch sps prototype (branch_of sps phase))
unfolding filter_taps
taps_own sps prototype phase e =
    ap (λ (b : Bool). cond b (between (tau_of sps phase) (branch sps prototype (branch_of sps phase)) (next_branch sps prototype (branch_of sps phase))) (replicate 7 (of_bits binary32 0))) (eq-eqb (length prototype) (prototype_length sps) e)
