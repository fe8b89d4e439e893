-- The progress that `after_samples` and `after_draw` make of their sums, and that `after_step` makes by its plan.
use Rattle.std.proofs.Common.{◌≡◌, ℕ, ◌+◌, ◌*◌, ◌/◌, ◌%◌, ◌^◌, ◌<◌, Bool, true, false, ap, ◌∙◌, arith}
use Rattle.std.specs.Bool.{FalseIff}
use Rattle.std.specs.Int.{from_bool}
use Rattle.run_theory.specs.Added.{high_half, low_half, whole_of}
use lib.Ieee.{Float}
use Rattle.run_steps.specs.declared.Progress.{Progress}
use Rattle.run_steps.specs.declared.LastStep as LastStep
use Rattle.run_steps.specs.ProgressModel.{progress_after_draw}

-- the two halves of a sum, and the carry between them
high_is : (h l n : ℕ) → (h + (l + n) / 2 ^ 64) % 2 ^ 64 ≡ high_half (whole_of h l + n) % 2 ^ 64
high_is h l n = omega arith

low_is : (h l n : ℕ) → (l + n) % 2 ^ 64 ≡ low_half (whole_of h l + n)
low_is h l n = omega arith

pub carried_is : (b : Bool) (x n : ℕ) → x < 2 * 2 ^ 64 → FalseIff b (x < 2 ^ 64) → n ≡ from_bool b → n ≡ x / 2 ^ 64
carried_is true x n h f e = omega (arith, e, f)
carried_is false x n h f e = omega (arith, e, f)

pub draw_taken_is : (t : Progress) (time : Float) (ended : Bool) (lines count a b c h l : ℕ) → a ≡ (t.taken + 1) % 2 ^ 64 → b ≡ (t.records + lines) % 2 ^ 64
    → c ≡ (t.added_low + count) / 2 ^ 64 → h ≡ (t.added_high + c) % 2 ^ 64 → l ≡ (t.added_low + count) % 2 ^ 64
    → record { written = t.written; time = time; latest = t.latest; ended = ended; taken = a; samples = t.samples; records = b; added_high = h; added_low = l; last = LastStep.TheVariants.DrawTaken } ≡ progress_after_draw t time ended lines count
unfolding progress_after_draw
draw_taken_is t time ended lines count a b c h l p q e x y = λ i. record {
  written = t.written;
  time = time;
  latest = t.latest;
  ended = ended;
  taken = p i;
  samples = t.samples;
  records = q i;
  added_high = (x ∙ ap (λ (k : ℕ). (t.added_high + k) % 2 ^ 64) e ∙ high_is t.added_high t.added_low count) i;
  added_low = (y ∙ low_is t.added_high t.added_low count) i;
  last = LastStep.TheVariants.DrawTaken;
}
