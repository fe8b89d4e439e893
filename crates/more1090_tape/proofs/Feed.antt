-- A chunk fed by the code, in parts: the run taken in, the call, the run taken out.
use Prim.Native.Nat.{ℕ}
use mathlib.Core.List.{List}
use mathlib.Core.Path.{◌≡◌, sym, ap, ◌∙◌}
use mathlib.Core.Bool.{cond}
use lib.Dec.{eqb}
use lib.Ieee.{Float}
use Rattle.tape_feed.specs.declared.Feed.{Feed}
use Rattle.tape_feed.specs.FeedModel.{Fed, fed_of, fed_then, called_of}
use Rattle.more1090_tape.specs.declared.FlatTape.{FlatTape}
use Rattle.more1090_tape.specs.Flat.{tape_flat, feed_from, fed_out, flat_fed}

module _ (mode_s mode_ac : List Float) (draws : List ℕ) (noise memory output : List Float) (records : List ℕ) (t : FlatTape) where
  fed_from : Feed → Fed
  fed_from f = fed_of mode_s mode_ac draws noise (record { feed = f; memory = memory; output = output; records = records })

  -- what flat_fed is of a run that is not refused
  called : t.refusal ≡ 0 → fed_out (fed_from (feed_from t)) ≡ flat_fed mode_s mode_ac draws noise (record { tape = t; memory = memory; output = output; records = records })
  unfolding flat_fed fed_of fed_then feed_from fed_from called_of
  called e = sym (ap (λ n. cond (eqb n 0) (fed_out (called_of mode_s mode_ac draws noise (record { feed = feed_from t; memory = memory; output = output; records = records }))) (record { tape = t; memory = memory; output = output; records = records })) e)

  pub in_parts : (before after : Feed) (a : FlatTape) (m o : List Float) (r : List ℕ) → t.refusal ≡ 0 → before ≡ feed_from t
      → record { feed = after; memory = m; output = o; records = r } ≡ fed_of mode_s mode_ac draws noise (record { feed = before; memory = memory; output = output; records = records })
      → a ≡ tape_flat after
      → record { tape = a; memory = m; output = o; records = r } ≡ flat_fed mode_s mode_ac draws noise (record { tape = t; memory = memory; output = output; records = records })
  unfolding fed_out fed_from
  in_parts before after a m o r none taken call out =
      ap (λ (x : FlatTape). record { tape = x; memory = m; output = o; records = r }) out
      ∙ ap fed_out call
      ∙ ap (λ (f : Feed). fed_out (fed_from f)) taken
      ∙ called none
