-- A reply's samples end by themselves, at both settings, for every clock error within 0.1 and first phase from 0 to 2 samples, a reply's being at most 1.1: within `required_samples` for 240, 128, 43 and 52 pulses (`ends-240` and so on), which is 1,094, 596, 218 and 258 samples at 4 samples per pulse.
-- So the fuel of `sample_count` and `apply_filterbank` is idle, for any number of pulses: more of it changes nothing (`count-fuel-idle`, `values-fuel-idle`).
use Rattle.std.proofs.Common.{◌≡◌, ℕ, zero, suc, ◌+◌, ◌*◌, ◌≤◌, Bool, false, T, List, length, pos, zero-le, le_trans, arith, lit≤}
use lib.Ieee.{Float, fin, binary64, le, fits}
use Rattle.constants.specs.declared.SamplesPerPulse.{SamplesPerPulse}
use Rattle.constants.specs.declared.SamplesPerPulse.TheVariants.{Four, Eight}
use Rattle.constants.specs.Setting.{per_pulse}
use Rattle.constants.specs.Rate.{required_samples, reply_limit}
use Rattle.filterbank.specs.Clocked.{step_of, start_clock}
use Rattle.filterbank.specs.Apply.{clock_count, clock_values, limit_of, fuel_of, sample_count, value_at, apply_filterbank}
use Rattle.filterbank.proofs.ClockSteps.{cells, least, grid, tenth, minus_tenth, step_in, starts}
use Rattle.filterbank.proofs.Ends.{count_values, count_most, count_idle, values_idle}

-- the first phase is from 0 to 2 samples, and the clock error within 0.1
pub record InRange (phase e : Float) : Type 0 where
  pub held : T (fits binary64 phase)
  pub low : T (le (fin false 0 (pos 0)) phase)
  pub high : T (le phase (fin false 1 (pos 1)))
  pub slowest : T (le minus_tenth e)
  pub fastest : T (le e tenth)

-- n pulses within `most` samples, where `most` steps are at least as many pulses as there are indices
pub ends_within : (s : SamplesPerPulse) (n most : ℕ) → cells * limit_of n ≤ least s * most → (phase e : Float) → InRange phase e → sample_count (per_pulse s) n phase e ≤ most
unfolding sample_count
ends_within s n most m p e r =
    let sps = per_pulse s in
    from_zero (clock_count (fuel_of sps (limit_of n)) (limit_of n) (step_of sps e) (start_clock sps p)) most
    (count_most (grid s) (step_of sps e) (step_in s e r.slowest r.fastest) (limit_of n) most m (fuel_of sps (limit_of n)) 0 (start_clock sps p) (starts s p r.held r.low r.high) zero-le)
  where
    from_zero : (c m : ℕ) → 0 + c ≤ m → c ≤ m
    from_zero c m h = omega arith

-- up to 240 pulses meet it
all_indices : (n : ℕ) → n ≤ 240 → cells * limit_of n ≤ cells * 246
all_indices zero h = lit≤ tt
all_indices (suc n) h = omega arith

longest : (s : SamplesPerPulse) → cells * 246 ≤ least s * reply_limit (per_pulse s)
longest Four = lit≤ tt
longest Eight = lit≤ tt

pub most_pulses : (s : SamplesPerPulse) (n : ℕ) → n ≤ 240 → cells * limit_of n ≤ least s * reply_limit (per_pulse s)
most_pulses s n h = le_trans (all_indices n h) (longest s)

-- and so do 128, 43 and 52
pub pulses_128 : (s : SamplesPerPulse) → cells * limit_of 128 ≤ least s * required_samples (per_pulse s) 128
pulses_128 Four = lit≤ tt
pulses_128 Eight = lit≤ tt

pub pulses_43 : (s : SamplesPerPulse) → cells * limit_of 43 ≤ least s * required_samples (per_pulse s) 43
pulses_43 Four = lit≤ tt
pulses_43 Eight = lit≤ tt

pub pulses_52 : (s : SamplesPerPulse) → cells * limit_of 52 ≤ least s * required_samples (per_pulse s) 52
pulses_52 Four = lit≤ tt
pulses_52 Eight = lit≤ tt

pub ends_240 : (s : SamplesPerPulse) (phase e : Float) → InRange phase e → sample_count (per_pulse s) 240 phase e ≤ reply_limit (per_pulse s)
ends_240 s = ends_within s 240 (reply_limit (per_pulse s)) (longest s)

pub ends_128 : (s : SamplesPerPulse) (phase e : Float) → InRange phase e → sample_count (per_pulse s) 128 phase e ≤ required_samples (per_pulse s) 128
ends_128 s = ends_within s 128 (required_samples (per_pulse s) 128) (pulses_128 s)

pub ends_43 : (s : SamplesPerPulse) (phase e : Float) → InRange phase e → sample_count (per_pulse s) 43 phase e ≤ required_samples (per_pulse s) 43
ends_43 s = ends_within s 43 (required_samples (per_pulse s) 43) (pulses_43 s)

pub ends_52 : (s : SamplesPerPulse) (phase e : Float) → InRange phase e → sample_count (per_pulse s) 52 phase e ≤ required_samples (per_pulse s) 52
ends_52 s = ends_within s 52 (required_samples (per_pulse s) 52) (pulses_52 s)

enough : (s : SamplesPerPulse) (k : ℕ) → cells * k ≤ least s * fuel_of (per_pulse s) k
enough Four k = omega arith
enough Eight k = omega arith

all : (n : ℕ) → n ≤ 0 + n
all n = omega arith

pub count_fuel_idle : (s : SamplesPerPulse) (n more : ℕ) (phase e : Float) → InRange phase e → clock_count (fuel_of (per_pulse s) (limit_of n) + more) (limit_of n) (step_of (per_pulse s) e) (start_clock (per_pulse s) phase) ≡ sample_count (per_pulse s) n phase e
unfolding sample_count
count_fuel_idle s n more p e r =
    let fuel = fuel_of (per_pulse s) (limit_of n) in
    count_idle (grid s) (step_of (per_pulse s) e) (step_in s e r.slowest r.fastest) (limit_of n) fuel (enough s (limit_of n)) fuel more 0 (start_clock (per_pulse s) p) (starts s p r.held r.low r.high) (all fuel)

pub values_fuel_idle : (s : SamplesPerPulse) (prototype : List Float) (pulses : List Bool) (more : ℕ) (phase e : Float) → InRange phase e
    → clock_values (fuel_of (per_pulse s) (limit_of (length pulses)) + more) (limit_of (length pulses)) (step_of (per_pulse s) e) (value_at (per_pulse s) prototype pulses) (start_clock (per_pulse s) phase) ≡ apply_filterbank (per_pulse s) prototype pulses phase e
unfolding apply_filterbank
values_fuel_idle s prototype pulses more p e r =
    let limit = limit_of (length pulses) in
    let fuel = fuel_of (per_pulse s) limit in
    values_idle (grid s) (step_of (per_pulse s) e) (step_in s e r.slowest r.fastest) limit fuel (enough s limit) (value_at (per_pulse s) prototype pulses) fuel more 0 (start_clock (per_pulse s) p) (starts s p r.held r.low r.high) (all fuel)

-- the values are as many as the count says, at any rate and on any input
pub values_counted : (sps : ℕ) (prototype : List Float) (pulses : List Bool) (phase e : Float) → length (apply_filterbank sps prototype pulses phase e) ≡ sample_count sps (length pulses) phase e
unfolding apply_filterbank sample_count
values_counted sps prototype pulses p e =
    count_values (fuel_of sps (limit_of (length pulses))) (limit_of (length pulses)) (step_of sps e) (value_at sps prototype pulses) (start_clock sps p)
