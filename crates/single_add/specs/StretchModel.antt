-- A model of code: the part of the samples that a reply reaches goes to working memory, the reply is added there from slot 0 on, and the part comes back. `with_reply` says the same without memory. `sps` is the samples per pulse.
use Rattle.std.specs.Prelude.{ℕ, ◌-◌, ◌*◌, ◌/◌, min, cond, ◌&&◌, List, eqb, leb, ltb, ℤ, length, take, drop, Float}
use Rattle.constants.specs.Rate.{working_memory, ring_slots}
use Rattle.run_theory.specs.Zeros.{zeros}
use Rattle.le_read.specs.LeBytes.{overwritten}
use Rattle.reply_samples.specs.declared.Sample.{Sample}
use Rattle.reply_samples.specs.RingModel.{added_reply}
use Rattle.single_add.specs.Stretch.{scaled_noise, first_reached, passed_over}

-- the numbers that both the output, from an offset on, and working memory, past others, hold
abbrev pub reached : ℕ → ℕ → ℕ → List Float → ℕ
reached sps at past xs = min (length xs - at) (working_memory sps - past)

-- working memory with that part of the output
unfoldable pub memory_with : ℕ → ℕ → ℕ → List Float → List Float
memory_with sps at past xs = overwritten (zeros (working_memory sps)) past (take (reached sps at past xs) (drop at xs))

-- the output with that part as memory has it, once the reply is added from slot 0 on
unfoldable pub windowed : ℕ → ℕ → ℕ → List Sample → List Float → List Float
windowed sps at past zs xs = overwritten xs at (take (reached sps at past xs) (drop past (added_reply sps (memory_with sps at past xs) 0 zs)))

-- a reply whose start is past the end, or that ends before sample 0 with all of working memory, adds nothing
unfoldable pub added_window : ℕ → ℤ → List Sample → List Float → List Float
added_window sps start zs xs =
    cond (ltb (first_reached start) (length xs / 2) && leb (passed_over start) (ring_slots sps)) (windowed sps (2 * first_reached start) (2 * passed_over start) zs xs) xs

-- noise and the reply added; noise of another length leaves the output
unfoldable pub stretch_of : ℕ → ℤ → List Sample → List Float → List Float → List Float
stretch_of sps start zs noise output = cond (eqb (length noise) (length output)) (added_window sps start zs (scaled_noise noise)) output
