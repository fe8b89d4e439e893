-- The numbers of an opened run are values of their types (`opened_typed`).
use Rattle.std.specs.Prelude.{Option, Some, None, Result, Ok, Err}
use mathlib.Core.Path.{◌≡◌, sym, subst}
use mathlib.Core.Bool.{Bool, true, false, cond}
use mathlib.Core.List.{List, [], ◌∷◌}
use Prim.Native.Nat.{ℕ, zero, suc, ◌+◌, ◌^◌, ◌≤◌}
use native.Mathlib.Omega.{arith}
use lib.IntN.{pos}
use lib.Dec.{T, lit<}
use lib.ListN.{get_or}
use lib.Ieee.{Float, nan, fin, fits, binary32, binary64, div}
use lib.Ieee.Fits.{sub-fits, div-fits}
use lib.Ieee.Bits.{of_bits-fits}
use lib.Ieee.Scale.{finite}
use Rattle.constants.specs.Setting.{per_pulse}
use Rattle.distributions.specs.Accepted.{by_kind, carrier_phase}
use Rattle.distributions.specs.declared.RawDistribution.{RawDistribution}
use Rattle.distributions.specs.declared.CarrierOffset as Carrier
use Rattle.distributions.specs.declared.CarrierPhase as Phase
use Rattle.distributions.specs.declared.ClockError as Clock
use Rattle.math.specs.Phase.{phase_wrap}
use Rattle.pulse_shape.specs.GroupDelay.{crosses, delay_at, delay_from, choose, group_delay, mode_ac_ratio, over, mode_ac_group_delay}
use Rattle.pulse_shape.specs.Prototype.{prototype_of}
use Rattle.pulse_shape.proofs.Held.{prototype_held}
use Rattle.rack.specs.declared.Rack.{Rack}
use Rattle.refusals.specs.declared.Refusal.{Refusal}
use Rattle.refusals.specs.declared.Refusal.TheVariants.{Distribution}
use Rattle.settings.specs.declared.Settings.{Settings}
use Rattle.settings.specs.declared.Distributions.{Distributions}
use Rattle.settings.specs.Settings.{rates_at, settings_of}
use Rattle.settings.specs.Accepted.{accepted_of}
use Rattle.settings.specs.FirstCause as Cause
use Rattle.settings.proofs.FirstCause.{answered}
use Rattle.settings.proofs.InRange as Range
use Rattle.run_call.specs.declared.State.{State}
use Rattle.run_open.specs.Opening as Opening
use Rattle.run_open.specs.Opening.{first_state, left_by}
use Rattle.run_open.proofs.WhatIsOpened.{what_is_opened, opened_run_in_range}
use Rattle.run_theorem.specs.OpenedRuns as Runs
use Rattle.run_bytes_theorem.specs.Typed.{ValueOf, AllOf, carrier_floats, phase_floats, clock_floats, TypedState, TypedAny, Typed}
use Rattle.run_bytes_theorem.specs.StoredRuns.{held}
use Rattle.run_bytes_theorem.proofs.EachOf.{each_replicate}

-- ---- lists
each_of_entries : (xs : List Float) → ((k : ℕ) → T (fits binary32 (get_or xs k nan))) → AllOf binary32 xs
each_of_entries [] h = tt
each_of_entries (x ∷ xs) h = (h 0, each_of_entries xs (λ k. h (suc k)))

nought_fits : (f : _) → T (fits f (fin false 0 (pos 0)))
unfolding fits
nought_fits f = tt

-- ---- distributions
carrier_typed : (sps : ℕ) (d : Carrier.CarrierOffset) → Range.OffsetInRange sps d → AllOf binary64 (carrier_floats d)
carrier_typed sps (Carrier.TheVariants.Constant x) h = (h.0, tt)
carrier_typed sps (Carrier.TheVariants.ClampedNormal sigma max) h = (h.0, (h.1, tt))

clock_typed : (d : Clock.ClockError) → Range.ClockInRange d → AllOf binary64 (clock_floats d)
clock_typed (Clock.TheVariants.Constant x) h = (h.0, tt)
clock_typed (Clock.TheVariants.Uniform max) h = (h.0, tt)

PhaseTyped : Phase.CarrierPhase → Type 0
PhaseTyped p = AllOf binary64 (phase_floats p)

given : (d p : Phase.CarrierPhase) → PhaseTyped d → ◌≡◌ {A = Result Phase.CarrierPhase Refusal} (Ok d) (Ok p) → PhaseTyped p
given d p t e = let same : d ≡ p = cc in subst PhaseTyped same t

refused : (q : Refusal) (p : Phase.CarrierPhase) → ◌≡◌ {A = Result Phase.CarrierPhase Refusal} (Err q) (Ok p) → PhaseTyped p
refused q p e = let z : ◌≡◌ {A = ℕ} 0 1 = cc in absurd (omega arith)

wrap_fits : (x : Float) → T (fits binary64 (phase_wrap x))
unfolding phase_wrap
wrap_fits x = sub-fits binary64 _ _

phase_typed : (a : RawDistribution) (p : Phase.CarrierPhase) → carrier_phase a ≡ Ok p → PhaseTyped p
unfolding carrier_phase by_kind PhaseTyped
phase_typed a p = go a.kind
  where
    constant : (b : Bool) → ◌≡◌ {A = Result Phase.CarrierPhase Refusal} (cond b (Ok (Phase.TheVariants.Constant (phase_wrap a.first))) (Err (Distribution 1))) (Ok p) → PhaseTyped p
    constant true e = given (Phase.TheVariants.Constant (phase_wrap a.first)) p (wrap_fits a.first, tt) e
    constant false e = refused (Distribution 1) p e

    go : (k : ℕ) → by_kind k (cond (finite a.first) (Ok (Phase.TheVariants.Constant (phase_wrap a.first))) (Err (Distribution 1))) (Ok Phase.TheVariants.Uniform) (Err (Distribution 1)) ≡ Ok p → PhaseTyped p
    go zero e = constant (finite a.first) e
    go (suc zero) e = given Phase.TheVariants.Uniform p tt e
    go (suc (suc k)) e = refused (Distribution 1) p e

-- ---- delays
Delay : Option Float → Type 0
Delay o = (d : Float) → o ≡ Some d → T (fits binary64 d)

none_fits : Delay None
unfolding Delay
none_fits d e = let z : ◌≡◌ {A = ℕ} 0 1 = cc in absurd (omega arith)

some_fits : (x : Float) → T (fits binary64 x) → Delay (Some x)
unfolding Delay
some_fits x h d e = let same : x ≡ d = cc in subst (λ (y : Float). T (fits binary64 y)) same h

chosen_fits : (c : Bool) (a b : Option Float) → Delay a → Delay b → Delay (choose c a b)
chosen_fits true a b h g = h
chosen_fits false a b h g = g

at_fits : (level : Float) (j : ℕ) (a b : Float) → T (fits binary64 (delay_at level j a b))
unfolding delay_at
at_fits level j a b = div-fits binary64 _ _

delay_fits : (level : Float) (j : ℕ) (p : List Float) → Delay (delay_from level j p)
unfolding delay_from
delay_fits level j [] = none_fits
delay_fits level j (a ∷ []) = none_fits
delay_fits level j (a ∷ b ∷ rest) = chosen_fits (crosses level a b) (Some (delay_at level j a b)) (delay_from level (j + 1) (b ∷ rest)) (some_fits (delay_at level j a b) (at_fits level j a b)) (delay_fits level (j + 1) (b ∷ rest))

over_fits : (ratio : Float) (o : Option Float) → Delay (over ratio o)
over_fits ratio None = none_fits
over_fits ratio (Some d) = some_fits (div binary64 d ratio) (div-fits binary64 d ratio)

-- ---- an opened run
rates_typed : (bytes : List ℕ) (at : ℕ) → let r = rates_at bytes at in AllOf binary64 (r.extended_squitter ∷ r.acquisition_squitter ∷ r.short_ap ∷ r.all_call_reply ∷ r.long_ap ∷ r.military_extended_squitter ∷ r.mode_ac ∷ [])
unfolding rates_at
rates_typed bytes at = (of_bits-fits binary64 _, (of_bits-fits binary64 _, (of_bits-fits binary64 _, (of_bits-fits binary64 _, (of_bits-fits binary64 _, (of_bits-fits binary64 _, (of_bits-fits binary64 _, tt)))))))

phase_of : (sps : ℕ) (s : Settings) (n : ℕ) (d : Distributions) → accepted_of sps s ≡ Ok (n, d) → PhaseTyped d.phase
phase_of sps s n d e = go (subst (Cause.Answered sps s) e (answered sps s))
  where
    go : Cause.Answered sps s (Ok (n, d)) → PhaseTyped d.phase
    go (Cause.accepted P D t) = phase_typed s.phase d.phase D.phase_is

module _ (taps_s taps_ac : List Float) (bytes : List ℕ) (lent : Opening.OpenBuffers) (state : State) (opens : Opening.opened_of taps_s taps_ac bytes lent ≡ Ok state) where
  state_typed : TypedState state
  unfolding first_state settings_of PhaseTyped Delay group_delay mode_ac_group_delay
  state_typed =
      let w = what_is_opened taps_s taps_ac bytes lent state opens in
      let sps = per_pulse state.setting in
      let r = (opened_run_in_range taps_s taps_ac bytes lent state opens).1 in
      let d = (Range.accepted_in_range sps (settings_of bytes) (Range.read_held bytes) w.total w.all w.settings).1 in
      let few : w.total ≤ 2 ^ 52 = subst (λ (s : State). s.total ≤ 2 ^ 52) w.is r in
      subst TypedState (sym w.is)
      (record {
        written = lit< tt;
        total = omega (arith, few);
        times = (nought_fits binary64, (nought_fits binary64, tt));
        rates = rates_typed bytes 12;
        delays = (delay_fits _ 0 _ w.mode_s w.delay_s.1, (over_fits mode_ac_ratio _ w.mode_ac w.delay_ac.1, tt));
        carrier = carrier_typed sps w.all.carrier d.carrier;
        phase = phase_of sps (settings_of bytes) w.total w.all w.settings;
        clock = clock_typed w.all.clock d.clock;
      })

prototype_typed : (sps : ℕ) (pulse lowpass : List Float) → AllOf binary32 (prototype_of sps pulse lowpass)
prototype_typed sps pulse lowpass = each_of_entries (prototype_of sps pulse lowpass) (prototype_held sps pulse lowpass)

pub opened_typed : (taps_s taps_ac : List Float) (settings : List ℕ) (given : Opening.OpenBuffers) (r : Runs.Run) → Runs.Opens taps_s taps_ac settings given r
    → (rack : Option Rack) (memory : List Float) → TypedAny rack → AllOf binary32 memory → Typed (held r rack memory)
unfolding left_by
opened_typed taps_s taps_ac settings given r o rack memory t u =
    subst (λ (b : Opening.OpenBuffers). Typed (held (record { state = r.state; buffers = b }) rack memory)) (sym o.leaves)
    (record {
      state = state_typed taps_s taps_ac settings given r.state o.answers;
      mode_s = prototype_typed (per_pulse r.state.setting) _ taps_s;
      mode_ac = prototype_typed (per_pulse r.state.setting) _ taps_ac;
      memory = each_replicate (ValueOf binary32) (fin false 0 (pos 0)) (nought_fits binary32) _;
      rack = t;
      rack_memory = u;
    })
