-- A model of the code, and not the specification's words: the samples of one reply as the code makes them. No public contract cites this file.
use Rattle.std.specs.Prelude.{ℕ, List, Float}
use Rattle.constants.specs.Setting.{per_pulse}
use Rattle.draw.specs.Draw.{draw_at}
use Rattle.draw.specs.Config.{time_after, config_of}
use Rattle.message_config.specs.Config.{config_start}
use Rattle.reply_samples.specs.Samples.{reply_samples}
use Rattle.run_theory.specs.FloatGenerator.{nought}
use Rattle.run_call.specs.declared.State.{State}
use Rattle.single_add.specs.StretchModel.{stretch_of}

-- the reply of the draw at the start of the bytes, written and added by the prototypes of a run that is opened
abbrev pub made_by : State → List Float → List Float → List ℕ → List Float → List Float → List Float
made_by state mode_s mode_ac draw noise output =
    let d = draw_at draw in
    let c = config_of state.distributions (time_after nought d) d in
    stretch_of (per_pulse state.setting) (config_start state.delays c) (reply_samples (per_pulse state.setting) mode_s mode_ac state.delays d.amplitude c) noise output
