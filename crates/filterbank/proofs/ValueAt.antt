-- The code's value at a clock, over padded pulses, is that of `apply_filterbank`, for up to 240 pulses.
use Rattle.std.proofs.Common.{◌≡◌, ℕ, suc, ◌≤◌, Bool, true, false, cond, eqb, List, [], ◌∷◌, length, replicate, refl, ap, ◌∙◌, le_of_eq}
use lib.Ieee.{Float, binary32, of_bits}
use Rattle.constants.specs.Rate.{prototype_length}
use Rattle.pulse_shape.proofs.Whole.{length_values}
use Rattle.filterbank.specs.declared.Clock.{Clock}
use Rattle.filterbank.specs.Taps.{branch_of, tau_of, branch, next_branch, between, filter_taps}
use Rattle.filterbank.specs.PaddedPulsesModel.{pad_pulses, padded_sum}
use Rattle.filterbank.specs.Apply.{value_at}
use Rattle.filterbank.proofs.PaddedSum.{padded_sum_lem}

length_between : (tau : Float) (xs ys : List Float) → length (between tau xs ys) ≡ length xs
unfolding between
length_between tau [] ys = refl
length_between tau (x ∷ xs) [] = ap suc (length_between tau xs [])
length_between tau (x ∷ xs) (y ∷ ys) = ap suc (length_between tau xs ys)

length_branch : (sps : ℕ) (prototype : List Float) (j : ℕ) → length (branch sps prototype j) ≡ 7
unfolding branch
length_branch sps prototype j = length_values _ 7 0

-- there are always seven taps
pub length_taps : (sps : ℕ) (prototype : List Float) (phase : Float) → length (filter_taps sps prototype phase) ≡ 7
unfolding filter_taps
length_taps sps prototype phase = go (eqb (length prototype) (prototype_length sps))
  where
    go : (b : Bool) → length (cond b (between (tau_of sps phase) (branch sps prototype (branch_of sps phase)) (next_branch sps prototype (branch_of sps phase))) (replicate 7 (of_bits binary32 0))) ≡ 7
    go true = length_between (tau_of sps phase) (branch sps prototype (branch_of sps phase)) (next_branch sps prototype (branch_of sps phase)) ∙ length_branch sps prototype (branch_of sps phase)
    go false = refl

pub value_padded : (sps : ℕ) (prototype : List Float) (pulses : List Bool) (clock : Clock) → length pulses ≤ 240 → padded_sum (filter_taps sps prototype clock.phase) (pad_pulses pulses) clock.index ≡ value_at sps prototype pulses clock
unfolding value_at
value_padded sps prototype pulses clock h = padded_sum_lem (filter_taps sps prototype clock.phase) pulses clock.index (le_of_eq (length_taps sps prototype clock.phase)) h
