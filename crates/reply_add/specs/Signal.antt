-- The samples of a reply to add, and how many they are.
use Rattle.std.specs.Prelude.{ℕ, List}
use Rattle.constants.specs.Setting.{per_pulse}
use Rattle.reply_samples.specs.declared.Sample.{Sample}
use Rattle.reply_samples.specs.Samples.{reply_samples, reply_count}
use Rattle.reply_add.specs.declared.ReplySignal.{ReplySignal}

unfoldable pub samples_of : ReplySignal → List Sample
samples_of r = reply_samples (per_pulse r.setting) r.prototypes.mode_s.now r.prototypes.mode_ac.now r.delays r.amplitude r.config

unfoldable pub count_of : ReplySignal → ℕ
count_of r = reply_count (per_pulse r.setting) r.delays r.config
