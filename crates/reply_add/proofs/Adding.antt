-- What adding a reply leaves and answers, from what the functions within it give.
use Prim.Native.Nat.{ℕ, ◌≤◌}
use mathlib.Core.Path.{◌≡◌, sym, ap, ◌∙◌, subst}
use mathlib.Core.Bool.{Bool}
use mathlib.Core.List.{List}
use lib.ListN.{length, take}
use lib.Ieee.{Float}
use Rattle.message.specs.declared.Reply.{Reply}
use Rattle.constants.specs.Setting.{per_pulse}
use Rattle.pulse_map.specs.declared.Pulses.{Pulses}
use Rattle.filterbank.specs.PaddedPulsesModel.{pad_pulses}
use Rattle.filterbank.proofs.Padded.{most_taken}
use Rattle.reply_pulses.specs.ReplyPulses.{pulses_of, positions_of}
use Rattle.reply_pulses.proofs.Positions.{len_most}
use Rattle.reply_samples.specs.declared.Sample.{Sample}
use Rattle.reply_samples.specs.Samples.{prototype_of, reply_samples}
use Rattle.reply_samples.specs.RingModel.{added_reply, added_count}
use Rattle.reply_samples.proofs.Counts.{samples_counted}
use Rattle.reply_add.specs.declared.ReplySignal.{ReplySignal}
use Rattle.reply_add.specs.declared.Wave.{Wave}
use Rattle.reply_add.specs.Signal.{samples_of, count_of}
use Rattle.reply_add.specs.AddModel.{Adds, wave_of, wave_samples}
use Rattle.reply_add.proofs.PaddedWave.{wave_samples_lem}

pub pulses_most : (r : Reply) (p : Pulses) → p ≡ pulses_of r → p.len ≤ 240
pulses_most r p e = subst (λ (x : Pulses). x.len ≤ 240) (sym e) (len_most r)

samples_in : (r : ReplySignal) (p : Pulses) (w : Wave) (padded : List Bool) (prototype : List Float) → p ≡ pulses_of r.config.reply → padded ≡ pad_pulses (take 240 (take p.len p.on))
    → prototype ≡ prototype_of r.config.reply.kind r.prototypes.mode_s.now r.prototypes.mode_ac.now → w ≡ wave_of r p.len → wave_samples (per_pulse r.setting) prototype padded w ≡ samples_of r
unfolding positions_of samples_of reply_samples
samples_in r p w padded prototype ep el eq ew =
    (λ i. wave_samples (per_pulse r.setting) (eq i) ((el ∙ (ap pad_pulses (most_taken p.on p.len (pulses_most r.config.reply p ep)) ∙ ap (λ (x : Pulses). pad_pulses (take x.len x.on)) ep)) i) ((ew ∙ ap (λ (x : Pulses). wave_of r x.len) ep) i)) ∙ wave_samples_lem r (prototype_of r.config.reply.kind r.prototypes.mode_s.now r.prototypes.mode_ac.now)

pub by_reply : (r : ReplySignal) (p : Pulses) (w : Wave) (padded : List Bool) (prototype m m' : List Float) (slot n : ℕ) → p ≡ pulses_of r.config.reply → padded ≡ pad_pulses (take 240 (take p.len p.on))
    → prototype ≡ prototype_of r.config.reply.kind r.prototypes.mode_s.now r.prototypes.mode_ac.now → w ≡ wave_of r p.len → Adds (per_pulse r.setting) m slot (wave_samples (per_pulse r.setting) prototype padded w) m' n
    → (m' ≡ added_reply (per_pulse r.setting) m slot (samples_of r)) × (n ≡ added_count (per_pulse r.setting) m slot (count_of r))
unfolding samples_of count_of
by_reply r p w padded prototype m m' slot n ep el eq ew a =
    let e = samples_in r p w padded prototype ep el eq ew in (
      a.0 ∙ ap (added_reply (per_pulse r.setting) m slot) e,
      a.1
          ∙ ap (λ (zs : List Sample). added_count (per_pulse r.setting) m slot (length zs)) e
          ∙ ap (added_count (per_pulse r.setting) m slot) (samples_counted (per_pulse r.setting) r.prototypes.mode_s.now r.prototypes.mode_ac.now r.delays r.amplitude r.config),
    )
