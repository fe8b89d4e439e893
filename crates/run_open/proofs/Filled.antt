-- What opening fills: an opened run's prototypes and working memory.
use Rattle.std.specs.Prelude.{Ok, take}
use Prim.Native.Nat.{ℕ}
use mathlib.Core.Path.{◌≡◌, sym, ap, ◌∙◌}
use mathlib.Core.List.{List}
use lib.ListN.{length}
use lib.Ieee.{Float}
use Rattle.constants.specs.Rate.{prototype_length}
use Rattle.constants.specs.Setting.{per_pulse}
use Rattle.run_theory.specs.Zeros.{zeros}
use Rattle.pulse_shape.specs.Prototype.{mode_s_prototype, mode_ac_prototype}
use Rattle.pulse_shape.proofs.Whole.{length_prototype}
use Rattle.run_open.specs.FillModel.{over}
use Rattle.run_open.proofs.Filling.{over_whole}
use Rattle.run_open.specs.declared.Prepared.{Prepared}
use Rattle.run_open.specs.Opening.{OpenBuffers, opened_of, left_by}
use Rattle.run_open.proofs.OpenedAs.{OpenedAs}
use Rattle.run_open.proofs.OpenedSetting.{lengths_opened}

-- what `fill` writes into the buffers of an opened run is what opening leaves
pub filled : (taps_s taps_ac : List Float) (bytes : List ℕ) (l : OpenBuffers) (p : Prepared) {from_s from_ac mode_s mode_ac memory : List Float}
    → OpenedAs taps_s taps_ac (opened_of taps_s taps_ac bytes l) p
    → (from_s ≡ take (prototype_length (per_pulse p.state.setting)) p.mode_s) × (from_ac ≡ take (prototype_length (per_pulse p.state.setting)) p.mode_ac)
    → (mode_s ≡ over from_s l.mode_s) × (mode_ac ≡ over from_ac l.mode_ac) × (memory ≡ zeros (length l.memory))
    → record { mode_s = mode_s; mode_ac = mode_ac; memory = memory } ≡ left_by taps_s taps_ac (Ok p.state) l
unfolding left_by
filled taps_s taps_ac bytes l p {from_s} {from_ac} o f x =
    let sps = per_pulse p.state.setting in
    let fit = lengths_opened taps_s taps_ac bytes l p.state o.opens in
    let in_s : from_s ≡ mode_s_prototype sps taps_s = f.0 ∙ o.mode_s in
    let in_ac : from_ac ≡ mode_ac_prototype sps taps_ac = f.1 ∙ o.mode_ac in
    λ i. record {
      mode_s = (x.0 ∙ over_whole from_s l.mode_s (ap length in_s ∙ length_prototype sps _ taps_s ∙ sym fit.mode_s_is) ∙ in_s) i;
      mode_ac = (x.1 ∙ over_whole from_ac l.mode_ac (ap length in_ac ∙ length_prototype sps _ taps_ac ∙ sym fit.mode_ac_is) ∙ in_ac) i;
      memory = (x.2 ∙ ap zeros fit.memory_is) i;
    }
