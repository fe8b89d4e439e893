-- The two halves of the count of reply samples added stand for it: no carry leaves the high half.
use Rattle.std.specs.Prelude.{Ok}
use mathlib.Core.Path.{◌≡◌, ap, ◌∙◌}
use Prim.Native.Nat.{ℕ, ◌*◌, ◌%◌, ◌≤◌, ◌<◌, ◌^◌}
use native.Mathlib.Omega.{arith}
use Rattle.run_theory.specs.Added.{high_half, low_half, whole_of}
use Rattle.run_steps.specs.declared.Progress.{Progress}
use Rattle.run_steps.specs.declared.Stop.{Stop}
use Rattle.run_call.specs.declared.State.{State}
use Rattle.run_call.specs.declared.Ran.{Ran}
use Rattle.run_call.specs.CallModel.{ran_by}

-- u16 counts of the draws that bytes can hold
below : (x k : ℕ) → x ≤ 65535 * k → 65 * k < 2 ^ 64 → x < 65536 * 2 ^ 64
below x k h b = omega arith

high_below : (x : ℕ) → x < 65536 * 2 ^ 64 → high_half x < 65536
high_below x h = omega arith

high_kept : (q : ℕ) → q < 65536 → q % 2 ^ 64 ≡ q
high_kept q h = omega arith

back : (x : ℕ) → whole_of (high_half x) (low_half x) ≡ x
back x = omega arith

pub whole_is : (x k : ℕ) → x ≤ 65535 * k → 65 * k < 2 ^ 64 → whole_of (high_half x % 2 ^ 64) (low_half x) ≡ x
whole_is x k h b = ap (λ (q : ℕ). whole_of q (low_half x)) (high_kept (high_half x) (high_below x (below x k h b))) ∙ back x

-- the halves of the number that two halves stand for
high_is : (h l : ℕ) → l < 2 ^ 64 → h ≡ high_half (whole_of h l)
high_is h l b = omega arith

low_is : (h l : ℕ) → l < 2 ^ 64 → l ≡ low_half (whole_of h l)
low_is h l b = omega arith

-- the answer at a stop
pub stopped_is : (s : State) (t : Progress) (w : Stop) → t.added_low < 2 ^ 64
    → ◌≡◌ {A = Ran}
    (record {
      state = record { written = t.written; total = s.total; time = t.time; latest = t.latest; ended = t.ended; rates = s.rates; delays = s.delays; distributions = s.distributions; setting = s.setting };
      counts = record { taken = t.taken; samples = t.samples; noise = 2 * t.samples; records = t.records; added_high = t.added_high; added_low = t.added_low };
      answer = Ok w;
    })
    (ran_by s t w)
unfolding ran_by
stopped_is s t w b = λ i. record {
  state = record { written = t.written; total = s.total; time = t.time; latest = t.latest; ended = t.ended; rates = s.rates; delays = s.delays; distributions = s.distributions; setting = s.setting };
  counts = record { taken = t.taken; samples = t.samples; noise = 2 * t.samples; records = t.records; added_high = high_is t.added_high t.added_low b i; added_low = low_is t.added_high t.added_low b i };
  answer = Ok w;
}
