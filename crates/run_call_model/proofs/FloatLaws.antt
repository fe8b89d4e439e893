-- Demand 3 for f64 times and f32 samples: what is left to show of draws is that a gap in range is finite and not negative, the hold-back, the count bound and the length of a record.
use Rattle.std.specs.Prelude.{Some, None}
use mathlib.Core.Bool.{false}
use mathlib.Core.Logic.{◌≢◌}
use mathlib.Core.Path.{◌≡◌, refl}
use Prim.Native.Nat.{ℕ, ◌+◌, ◌≤◌, ◌<◌}
use lib.Ieee.{Float, binary32, binary64, fits, lt, of_bits}
use lib.ListN.{length}
use Rattle.run_theory.specs.PlainRun.{reply, kind}
use Rattle.run_theory.specs.Laws.{Laws}
use Rattle.run_call_model.specs.Machine.{runs}
use Rattle.run_theory.proofs.ListClaim.{Demand3}
use Rattle.run_call_model.proofs.Demand3.{demand3}
use Rattle.constants.specs.Rate.{reply_limit, hold_back}
use Rattle.run_theory.specs.FloatGenerator.{Draws, nought, noise_scale, generator}
use Rattle.run_theory.proofs.Times.{GoodTime, Gap, not_before_itself, not_before_zero, zero_alone, not_after_trans, time_on, good_on}

-- what is asked of draws
pub record DrawLaws (S : Draws) (sps total : ℕ) : Type 0 where
  pub gap_in_range : (d : S.Draw) → S.fault d ≢ Some 0 → Gap (S.gap d)
  -- Hold-back: of two replies, the one at a later or equal time starts no more samples earlier than are held back
  pub held :
      (t t' : Float) (d d' : S.Draw) (s s' : ℕ) → GoodTime t → GoodTime t' → S.fault d ≡ None → S.fault d' ≡ None → lt t' t ≡ false
      → kind (generator S sps total) t d ≡ reply s → kind (generator S sps total) t' d' ≡ reply s' → s ≤ s' + hold_back sps
  -- Count bound: a reply adds to no more samples than the limit
  pub short : (t : Float) (d : S.Draw) (s : ℕ) → GoodTime t → S.fault d ≡ None → kind (generator S sps total) t d ≡ reply s → length (S.adds t d s) ≤ reply_limit sps
  pub some_limit : 0 < reply_limit sps
  pub entry_length : (t : Float) (d : S.Draw) (s n : ℕ) → length (S.entry t d s n) ≡ 66

pub good_zero : GoodTime nought
unfolding fits
good_zero = record { non_neg = refl; fit = tt }

module _ (S : Draws) (sps total : ℕ) (K : DrawLaws S sps total) where
  unfoldable pub laws : Laws (generator S sps total)
  laws = record {
    Good = GoodTime;
    good_first = good_zero;
    good_after = λ t d g e. good_on t (S.gap d) g (K.gap_in_range d e);
    first_time = λ t g. not_before_zero t g.non_neg;
    first_alone = zero_alone;
    same_time = λ t g. not_before_itself t g.non_neg;
    time_trans = λ a b c ga gb gc p q. not_after_trans a b c ga.non_neg gb.non_neg gc.non_neg p q;
    time_on = λ t d g e. time_on t (S.gap d) g (K.gap_in_range d e);
    held = K.held;
    short = K.short;
    some_limit = K.some_limit;
    entry_length = K.entry_length;
  }

  -- o is what a read out of range gives; it is never met
  pub float_demand3 : (o : Float) → Demand3 (generator S sps total) (runs (generator S sps total) o)
  float_demand3 o = demand3 (generator S sps total) laws o

-- the constants as they stand in code
pub nought_bits : (of_bits binary32 0 ≡ nought) × (of_bits binary64 0 ≡ nought)
unfolding of_bits
nought_bits = (refl, refl)

pub scale_bits : of_bits binary32 0x3a80_0000 ≡ noise_scale
unfolding of_bits
scale_bits = refl
