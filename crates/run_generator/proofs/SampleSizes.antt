-- Every number of a sample that a list of run calls writes is finite and at most 2 ^ 53 in size, however many replies overlap and however long the run (`samples-sized`): from 2 ^ 53 on, what a reply or noise adds is less than half of a step of the format.
use Rattle.std.specs.Prelude.{None}
use mathlib.Core.Path.{◌≡◌, refl, subst}
use Prim.Native.Nat.{ℕ, ◌+◌, ◌*◌, ◌^◌, ◌≤◌}
use mathlib.Core.Bool.{Bool, true, false, not}
use mathlib.Core.List.{List, [], ◌∷◌, map}
use lib.Dec.{T, lit≤}
use native.Mathlib.Omega.{arith}
use lib.IntN.{pos}
use lib.Ieee.{Float, nan, inf, fin, binary32, binary64, up, down, of_bits, round, le}
use lib.Ieee.Fits.{sub-fits, div-fits}
use Rattle.float_rounding.proofs.AtMost.{AtMost, Rounds, rounds_whole, add_at_most, mul_at_most}
use Rattle.float_rounding.proofs.Size.{Within}
use Rattle.floats.specs.Range.{within}
use Rattle.floats.proofs.Ranges.{within_size}
use Rattle.math.specs.Phase.{pi, phase_wrap}
use Rattle.math.proofs.Constants.{pi_units, pi_val}
use Rattle.math.proofs.InRange.{Between, within_of_tests}
use Rattle.message_config.specs.Carrier.{carrier_rate, first_phase}
use Rattle.message_config.specs.Config.{config_rate, config_phase}
use Rattle.message_config.specs.declared.Delays.{Delays}
use Rattle.message_config.specs.declared.MessageConfig.{MessageConfig}
use Rattle.message_config.proofs.FirstClock.{first_clock_of}
use Rattle.run_theory.specs.Each.{Each}
use Rattle.run_theory.specs.PlainRun.{reply, kind}
use Rattle.run_theory.specs.PlainBench.{Call, Result}
use Rattle.run_theory.proofs.ListClaim.{all_samples, Demand3}
use Rattle.run_theory.proofs.EverySample.{Both, KeptBySums, every_sample}
use Rattle.run_theory.specs.FloatGenerator.{noise_scale}
use Rattle.run_call_model.proofs.FloatLaws.{laws}
use Rattle.run_theory.proofs.Times.{GoodTime}
use Rattle.draw.specs.Config.{config_of}
use Rattle.reply_samples.specs.declared.Sample.{Sample}
use Rattle.reply_samples.specs.Samples.{reply_samples}
use Rattle.run_generator.specs.Instance.{pair_of, out_of_range, Filters, pulse_samples, RepresentableDraw, draws, instance_of}
use Rattle.run_generator.proofs.FiltersInRange.{FiltersInRange}
use Rattle.run_generator.proofs.MessageInRange.{message_in_range, draw_finite, reply_finite}
use Rattle.run_generator.proofs.InstanceDrawLaws.{time_in_range, fields, reply_at, below_52}
use Rattle.run_generator.proofs.InstanceDemand3.{instance_laws}
use Rattle.run_generator.proofs.Values.{up_to_sized}
use Rattle.run_generator.proofs.ReplySizes.{most, Sized, SmallPrototype, reply_sized}

-- ---- sums stop growing at 2 ^ 53
stop : Rounds binary32 (2 ^ 53 + most) (2 ^ 53)
unfolding round
stop = (refl, refl)

stop_noise : Rounds binary32 (2 ^ 53 + 64) (2 ^ 53)
unfolding round
stop_noise = (refl, refl)

in_range_sized : (v : Float) → out_of_range v ≡ false → AtMost 64 v
unfolding out_of_range within of_bits
in_range_sized v e = go v (un (within v (of_bits binary32 0x4280_0000)) e)
  where
    un : (b : Bool) → not b ≡ false → T b
    un true e = tt
    un false e = absurd (subst (λ (x : Bool). T x) e tt)

    go : (v : Float) → T (within v (fin false 1 (pos 6))) → AtMost 64 v
    go nan t = absurd (unfold le in t)
    go (inf s) t = absurd (unfold le in t)
    go (fin s m e) t = size (m * up e) (down e) (within_size s m e 1 (pos 6) t)
      where
        size : (a d : ℕ) → a * 1 ≤ 64 * d → a ≤ 64 * d
        size a d h = omega arith

-- ---- the carrier's rate and first phase, in units
rate_within : (sps : ℕ) (c : MessageConfig) → Between pi (config_rate sps c) → Within (config_rate sps c) pi_units
unfolding config_rate carrier_rate
rate_within sps c h = within_of_tests (config_rate sps c) pi pi_units (div-fits binary64 _ _) pi_val h

phase_within : (sps : ℕ) (delays : Delays) (c : MessageConfig) → Between pi (config_phase sps delays c) → Within (config_phase sps delays c) pi_units
unfolding config_phase first_phase phase_wrap
phase_within sps delays c h = within_of_tests (config_phase sps delays c) pi pi_units (sub-fits binary64 _ _) pi_val h

-- ---- the filters' prototypes are good, and what the theorem about draws asks
module _ (f : Filters) (R : FiltersInRange f) (total : ℕ) (few : total ≤ 2 ^ 52) (p : SmallPrototype f.setting f.mode_s) (q : SmallPrototype f.setting f.mode_ac) where
  mapped : (zs : List Sample) → Each Sized zs → Each (Both (AtMost most)) (map pair_of zs)
  unfolding pair_of
  mapped [] h = tt
  mapped (z ∷ zs) h = (h.0, mapped zs h.1)

  adds_sized : (t : Float) (d : RepresentableDraw) (s : ℕ) → GoodTime t → (draws f).fault d ≡ None → kind (instance_of f total) t d ≡ reply s → Each (Both (AtMost most)) ((draws f).adds t d s)
  unfolding of_bits
  adds_sized t d s g e k =
      let c = config_of f.distributions t d.draw in
      let r = fields f R total few d e in
      let m = message_in_range f R t (time_in_range t g) d r in
      let start = reply_at f R total few t d s k in
      let low = below_52 f R total few t d s k in
      mapped (reply_samples (pulse_samples f) f.mode_s f.mode_ac f.delays d.draw.amplitude c)
      (reply_sized f.setting f.mode_s f.mode_ac p q f.delays d.draw.amplitude c
      (up_to_sized d.draw.amplitude 1 (pos 20) (2 ^ 20) (lit≤ tt) r.amplitude_from r.amplitude_to)
      (first_clock_of f.setting f.delays R.delays c s m.time m.error start low)
      (rate_within (pulse_samples f) c (draw_finite f R t (time_in_range t g) d r).rate)
      (phase_within (pulse_samples f) f.delays c (reply_finite f R t (time_in_range t g) d r s start low).first_phase_lem))

  pub kept : KeptBySums (instance_of f total) (instance_laws f R total few) (AtMost (2 ^ 53)) (AtMost most)
  unfolding instance_laws laws
  kept = record {
    first = lit≤ tt;
    added = λ a x p q. add_at_most binary32 a x (2 ^ 53) most (2 ^ 53) p q stop;
    noised = λ a v p e. add_at_most binary32 a _ (2 ^ 53) 64 (2 ^ 53) p (mul_at_most binary32 v noise_scale 64 1 64 (in_range_sized v e) (lit≤ tt) (rounds_whole binary32 64 (lit≤ tt))) stop_noise;
    adds_have = adds_sized;
  }

  pub samples_sized : (run : List (Call (instance_of f total)) → List (Result (instance_of f total))) → Demand3 (instance_of f total) run → (cs : List (Call (instance_of f total))) → Each (AtMost (2 ^ 53)) (all_samples (instance_of f total) (run cs))
  samples_sized = every_sample (instance_of f total) (instance_laws f R total few) (AtMost (2 ^ 53)) (AtMost most) kept
