-- A small generator: a number of a sample is a list, and to add is to append, so that the order of additions shows. Draws and records have three bytes.
use Rattle.std.specs.Prelude.{Option, Some, None, cond, List, [], ◌∷◌, ◌++◌, ℕ, ◌+◌, ◌-◌, leb, ltb, length, get_or}
use Rattle.run_theory.specs.Generator.{Generator, Start, negative, from}

-- a time is a sum of gaps, and a start lies delay samples before it
pub record SmallDraw : Type 0 where
  pub gap : ℕ
  pub delay : ℕ
  pub tone : ℕ

-- a gap of at most 50, field 0, and a delay of at most 2, field 1, are in range
abbrev pub fault_of : SmallDraw → Option ℕ
fault_of d = cond (ltb 50 d.gap) (Some 0) (cond (ltb 2 d.delay) (Some 1) None)

abbrev pub start_of : ℕ → ℕ → Start
start_of t d = cond (leb d t) (from (t - d)) negative

-- with n samples in the run
abbrev pub small_of : ℕ → Generator
small_of total = record {
  Value = List ℕ;
  Byte = ℕ;
  Draw = SmallDraw;
  Time = ℕ;
  nought = [];
  plus = λ a b. a ++ b;
  scaled = λ v. v;
  t0 = 0;
  after = λ t d. t + d.gap;
  before = ltb;
  start = λ t d. start_of t d.delay;
  adds = λ t d s.
      record { re = d.tone ∷ []; im = [] }
      ∷ record { re = (d.tone + 1) ∷ []; im = [] }
      ∷ record { re = (d.tone + 2) ∷ []; im = d.tone ∷ [] }
      ∷ [];
  entry = λ t d s n. t ∷ s ∷ n ∷ [];
  fault = fault_of;
  out_of_range = λ v. ltb 1 (length v);
  draw_bytes = 3;
  record_bytes = 3;
  draw_at = λ bytes. record { gap = get_or bytes 0 0; delay = get_or bytes 1 0; tone = get_or bytes 2 0 };
  limit = 3;
  hold = 2;
  total = total;
}

abbrev pub small : Generator
small = small_of 12
