-- Values of the filterbank rotated each by its own phase.
use Rattle.std.specs.Prelude.{List, [], ◌∷◌, Float}
use Rattle.reply_samples.specs.declared.Sample.{Sample}
use Rattle.reply_samples.specs.Samples.{sample_at}

-- as many samples as there are both values and phases
unfoldable pub samples_at : Float → List Float → List Float → List Sample
samples_at amplitude [] ps = []
samples_at amplitude (v ∷ vs) [] = []
samples_at amplitude (v ∷ vs) (p ∷ ps) = sample_at amplitude v p ∷ samples_at amplitude vs ps
