-- What the settings and filters of a run fix: the numbers of samples and noise, draws, times, starts, what a reply adds, records, and what is out of range.
-- Everything above is said over one such record, so that it holds at each rate.
use Rattle.std.specs.Prelude.{Option, Bool, List, ℕ, ℤ, pos, negsuc}

-- Start of a draw, a whole number: negative, or a sample's number.
pub data Start : Type 0 where
  negative : Start
  from : ℕ → Start

-- of a whole number
unfoldable pub start_from : ℤ → Start
start_from (pos n) = from n
start_from (negsuc n) = negative

-- Two numbers: a sample, or the two noise values of one; the real part is the first.
pub record Pair (X : Type 0) : Type 0 where
  pub re : X
  pub im : X

pub record Generator : Type 1 where
  -- a number of a sample or of noise (f32), a byte, a draw, and a time (f64)
  pub Value : Type 0
  pub Byte : Type 0
  pub Draw : Type 0
  pub Time : Type 0
  -- 0.0, a sum rounded once, and a noise value times 2^-10
  pub nought : Value
  pub plus : Value → Value → Value
  pub scaled : Value → Value
  -- Time of a draw: `t0` at first (0.0); `after t d` is the previous time t plus the gap of d; `before` is the order of times
  pub t0 : Time
  pub after : Time → Draw → Time
  pub before : Time → Time → Bool
  -- of a draw and its time: its start; what the reply adds to the samples from its start on; and its record, of its first sample and its count of samples
  pub start : Time → Draw → Start
  pub adds : Time → Draw → ℕ → List (Pair Value)
  pub entry : Time → Draw → ℕ → ℕ → List Byte
  -- the first field of a draw that is out of range, the gap being field 0; and whether a noise value is not finite or too large
  pub fault : Draw → Option ℕ
  pub out_of_range : Value → Bool
  -- the bytes of a draw (65) and of a record (66), and the draw that stands at the start of bytes
  pub draw_bytes : ℕ
  pub record_bytes : ℕ
  pub draw_at : List Byte → Draw
  -- the most samples that a reply adds to (1,094 at 4 samples per pulse, 2,187 at 8), the samples held back (32, and 64), and the run's samples
  pub limit : ℕ
  pub hold : ℕ
  pub total : ℕ

module _ (G : Generator) where
  open G use {Value, nought, plus, scaled}

  abbrev pub Sample : Type 0
  Sample = Pair Value

  abbrev pub NoisePair : Type 0
  NoisePair = Pair Value

  -- a sample before anything is added
  abbrev pub silence : Sample
  silence = record { re = nought; im = nought }

  abbrev pub add : Sample → Sample → Sample
  add a x = record { re = plus a.re x.re; im = plus a.im x.im }

  -- a sum and then its noise, real part before imaginary
  abbrev pub noisy : Sample → NoisePair → Sample
  noisy a v = record { re = plus a.re (scaled v.re); im = plus a.im (scaled v.im) }
