-- The clock's phase stays from 0 to below 1, at both settings and for every clock error within 0.1.
use Rattle.std.proofs.Common.{ℕ, zero, suc, ◌^◌, false, T, pos, refl}
use lib.Ieee.{Float, fin, lt, le}
use Rattle.float_rounding.proofs.More.{lt_from, nonneg}
use Rattle.constants.specs.declared.SamplesPerPulse.{SamplesPerPulse}
use Rattle.constants.specs.Setting.{per_pulse}
use Rattle.filterbank.specs.declared.Clock.{Clock}
use Rattle.filterbank.specs.Clocked.{step_of, start_clock, advance}
use Rattle.filterbank.proofs.Grid.{Grid, Stepping, Kept, kept_step}
use Rattle.filterbank.proofs.ClockSteps.{grid, step_in, starts}
use Rattle.filterbank.proofs.EndsByItself.{InRange}

-- the clock after n samples
unfoldable pub after : ℕ → Float → Clock → Clock
after zero step s = s
after (suc n) step s = advance step (after n step s)

pub kept_after : (g : Grid) (d : Float) → Stepping g d → (s : Clock) → Kept g 0 s → (n : ℕ) → Kept g n (after n d s)
unfolding after
kept_after g d S s v zero = v
kept_after g d S s v (suc n) = kept_step g n d (after n d s) S (kept_after g d S s v n)

pub kept_phase : (g : Grid) (n : ℕ) (s : Clock) → Kept g n s → T (le (fin false 0 (pos 0)) s.phase) × T (lt s.phase (fin false 1 (pos 0)))
kept_phase g n s v = (nonneg s.phase v.0 v.2, lt_from s.phase 1 (pos 0) v.0 (2 ^ 1074) v.2 refl v.3)

pub phase_within : (s : SamplesPerPulse) (n : ℕ) (phase e : Float) → InRange phase e → T (le (fin false 0 (pos 0)) (after n (step_of (per_pulse s) e) (start_clock (per_pulse s) phase)).phase) × T (lt (after n (step_of (per_pulse s) e) (start_clock (per_pulse s) phase)).phase (fin false 1 (pos 0)))
phase_within s n p e r =
    let step = step_of (per_pulse s) e in
    let first = start_clock (per_pulse s) p in
    kept_phase (grid s) n (after n step first) (kept_after (grid s) step (step_in s e r.slowest r.fastest) first (starts s p r.held r.low r.high) n)
