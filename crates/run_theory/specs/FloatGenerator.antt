-- A generator whose times are f64 and whose samples and noise are f32, with the numbers of the rate; what draws mean is left to whoever has their bytes.
use Rattle.std.specs.Prelude.{Option, None, Bool, false, List, [], ℕ, Float, pos, negsuc}
use Rattle.std.specs.Float.{binary32, binary64, fin}
use Rattle.std.specs.Float.Ieee.{add, mul, lt}
use Rattle.run_theory.specs.Generator.{Generator, Start, negative, Pair}
use Rattle.constants.specs.Rate.{reply_limit, hold_back}

-- 0.0, in both formats
abbrev pub nought : Float
nought = fin false 0 (pos 0)

-- 2^-10
abbrev pub noise_scale : Float
noise_scale = fin false 1 (negsuc 9)

-- what settings, filters and bytes say of draws
pub record Draws : Type 1 where
  pub Draw : Type 0
  pub gap : Draw → Float
  pub start : Float → Draw → Start
  pub adds : Float → Draw → ℕ → List (Pair Float)
  pub entry : Float → Draw → ℕ → ℕ → List ℕ
  pub fault : Draw → Option ℕ
  pub out_of_range : Float → Bool
  pub draw_at : List ℕ → Draw

-- no draws, for what does not depend on them
abbrev pub no_draws : Draws
no_draws = record { Draw = ℕ; gap = λ d. nought; start = λ t d. negative; adds = λ t d s. []; entry = λ t d s n. []; fault = λ d. None; out_of_range = λ v. false; draw_at = λ bytes. 0 }

-- sps samples per pulse, total samples of the run
abbrev pub generator : Draws → ℕ → ℕ → Generator
generator S sps total = record {
  Value = Float;
  Byte = ℕ;
  Draw = S.Draw;
  Time = Float;
  nought = nought;
  plus = λ a b. add binary32 a b;
  scaled = λ v. mul binary32 v noise_scale;
  t0 = nought;
  after = λ t d. add binary64 t (S.gap d);
  before = lt;
  start = S.start;
  adds = S.adds;
  entry = S.entry;
  fault = S.fault;
  out_of_range = S.out_of_range;
  draw_bytes = 65;
  record_bytes = 66;
  draw_at = S.draw_at;
  limit = reply_limit sps;
  hold = hold_back sps;
  total = total;
}
