-- The checks of a run call are the theory's, and each answer is what the definition gives.
use Rattle.std.specs.Prelude.{Option, Some, None}
use mathlib.Core.Path.{◌≡◌, refl, sym, ap, ◌∙◌}
use mathlib.Core.Bool.{Bool, true, false, cond, ◌||◌, false≢true}
use mathlib.Core.List.{List, [], ◌∷◌}
use Prim.Native.Nat.{ℕ, suc}
use lib.ListN.{length}
use lib.Ieee.{Float}
use Rattle.constants.specs.Setting.{per_pulse}
use Rattle.run_theory.specs.Generator.{Generator}
use Rattle.run_theory.specs.PlainBench as Bench
use Rattle.refusals.specs.declared.Refusal as Refusal
use Rattle.run_generator.specs.Instance.{out_of_range}
use Rattle.run_call.specs.declared.State.{State}
use Rattle.run_call.specs.NoiseModel.{out_of_range_from, noise_fault_read}
use Rattle.run_call.specs.declared.Ran.{Ran}
use Rattle.run_call.specs.StateGenerator.{gen_of}
use Rattle.run_call.specs.Buffers.{Left}
use Rattle.run_call.specs.CallModel.{call_left, refused_by, run_by, call_refusal, run_left}
use Rattle.run_call.specs.Checks.{wrong_memory}
use Rattle.run_call.specs.ChecksModel.{wrong_buffers, fault_read}
use Rattle.run_call.specs.Given.{refusal_given}

-- ---- refusal 9
module _ {X : Type 0} (q : X) (x : Option X) where
  pub first_of : (a b : Bool) → (a || b) ≡ true → cond a (Some q) (cond b (Some q) x) ≡ Some q
  first_of true b e = refl
  first_of false true e = refl
  first_of false false e = absurd (false≢true e)

  pub neither : (a b : Bool) → (a || b) ≡ false → cond a (Some q) (cond b (Some q) x) ≡ x
  neither false false e = refl
  neither true b e = absurd (false≢true (sym e))
  neither false true e = absurd (false≢true (sym e))

module _ (s : State) (mode_s mode_ac memory : List Float) (draws : List ℕ) (noise output : List Float) (records : List ℕ) where
  abbrev G : Generator
  G = gen_of s mode_s mode_ac

  -- ---- noise of the theory
  out_of_range_same : (vs : List Float) (k : ℕ) → out_of_range_from k vs ≡ Bench.first_out_of_range (gen_of s mode_s mode_ac) k vs
  unfolding out_of_range_from
  out_of_range_same [] k = refl
  out_of_range_same (x ∷ vs) k = ap (λ (o : Option Bench.Refusal). cond (out_of_range x) (Some (Bench.wrong_noise k)) o) (out_of_range_same vs (suc k))

  abbrev asks : Option Bench.Refusal
  asks = Bench.draw_refusal (gen_of s mode_s mode_ac) s.time (Some s.latest) (Bench.draws_of (gen_of s mode_s mode_ac) draws)

  -- ---- the call
  abbrev Same : Ran → Type 0
  Same x = ◌≡◌ {A = Left} (record { ran = x; memory = memory; output = output; records = records }) (run_left s mode_s mode_ac memory draws noise output records)

  abbrev after_lengths : Option Bench.Refusal
  after_lengths = Bench.or_else (gen_of s mode_s mode_ac) asks (Bench.first_out_of_range (gen_of s mode_s mode_ac) 0 noise)

  refused_with_lem : (q : Bench.Refusal) (x : Ran) → call_refusal s mode_s mode_ac memory draws noise output records ≡ Some q → x ≡ refused_by s (refusal_given q) → Same x
  unfolding run_left
  refused_with_lem q x e k =
      (λ i. record { ran = k i; memory = memory; output = output; records = records })
      ∙ sym (ap (λ (o : Option Bench.Refusal). run_by s memory output records (call_left s mode_s mode_ac memory draws noise output records) o) e)

  pub buffers_refused : (wrong_memory (per_pulse s.setting) (length memory) (length mode_s) (length mode_ac) || wrong_buffers (length output) (length draws)) ≡ true → (x : Ran) → x ≡ refused_by s Refusal.TheVariants.Length → Same x
  unfolding refusal_given
  buffers_refused e x k = refused_with_lem Bench.wrong_length x (first_of Bench.wrong_length after_lengths (wrong_memory (per_pulse s.setting) (length memory) (length mode_s) (length mode_ac)) (wrong_buffers (length output) (length draws)) e) k

  module _ (lengths : (wrong_memory (per_pulse s.setting) (length memory) (length mode_s) (length mode_ac) || wrong_buffers (length output) (length draws)) ≡ false) (f : Option (ℕ × ℕ)) (drawn : fault_read f ≡ asks) where
    is : call_refusal s mode_s mode_ac memory draws noise output records ≡ Bench.or_else G (fault_read f) (Bench.first_out_of_range G 0 noise)
    is =
        neither Bench.wrong_length after_lengths (wrong_memory (per_pulse s.setting) (length memory) (length mode_s) (length mode_ac)) (wrong_buffers (length output) (length draws)) lengths
        ∙ ap (λ (o : Option Bench.Refusal). Bench.or_else G o (Bench.first_out_of_range G 0 noise)) (sym drawn)

    pub draw_refused : (k n : ℕ) → f ≡ Some (k, n) → (x : Ran) → x ≡ refused_by s (Refusal.TheVariants.Draw k n) → Same x
    unfolding fault_read refusal_given
    draw_refused k n e x r = refused_with_lem (Bench.wrong_draw k n) x (is ∙ ap (λ (y : Option (ℕ × ℕ)). Bench.or_else G (fault_read y) (Bench.first_out_of_range G 0 noise)) e) r

    module _ (clean : f ≡ None) (l : Option ℕ) (heard : noise_fault_read l ≡ out_of_range_from 0 noise) where
      then_noise : call_refusal s mode_s mode_ac memory draws noise output records ≡ noise_fault_read l
      unfolding fault_read
      then_noise = is ∙ ap (λ (y : Option (ℕ × ℕ)). Bench.or_else G (fault_read y) (Bench.first_out_of_range G 0 noise)) clean ∙ sym (heard ∙ out_of_range_same noise 0)

      pub noise_refused : (p : ℕ) → l ≡ Some p → (x : Ran) → x ≡ refused_by s (Refusal.TheVariants.Noise p) → Same x
      unfolding noise_fault_read refusal_given
      noise_refused p e x r = refused_with_lem (Bench.wrong_noise p) x (then_noise ∙ ap noise_fault_read e) r

      pub not_refused : l ≡ None → (left : Left) → left ≡ call_left s mode_s mode_ac memory draws noise output records → left ≡ run_left s mode_s mode_ac memory draws noise output records
      unfolding noise_fault_read run_left
      not_refused e left k = k ∙ sym (ap (λ (o : Option Bench.Refusal). run_by s memory output records (call_left s mode_s mode_ac memory draws noise output records) o) (then_noise ∙ ap noise_fault_read e))
