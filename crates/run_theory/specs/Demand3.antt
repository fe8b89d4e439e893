-- What demand 3 of the specification speaks of: a first part of a list, the plain run as the flat lists that calls write, the plain bench after calls, and how far a reply reaches.
use Rattle.std.specs.Prelude.{List, ◌++◌, ◌≡◌, ℕ, ◌+◌, ◌≤◌, ◌<◌, length}
use Rattle.run_theory.specs.Generator.{Generator, Sample, NoisePair}
use Rattle.run_theory.specs.PlainRun.{Reply, hit, plain_samples, plain_records}
use Rattle.run_theory.specs.PlainBench.{flatten, join, Call, Bench, bench0, bench_after}

-- xs is a first part of ys
abbrev pub Prefix : {X : Type 0} → List X → List X → Type 0
Prefix {X} xs ys = (zs : List X) × (xs ++ zs ≡ ys)

module _ (G : Generator) where
  open G use {Value, Byte, Draw, limit}

  -- the plain run's samples as numbers, real part before imaginary, and its records as bytes
  abbrev pub plain_output : List Draw → List (NoisePair G) → List Value
  plain_output ds vs = flatten (plain_samples G ds vs)

  abbrev pub plain_lines : List Draw → List Byte
  plain_lines ds = join (plain_records G ds)

  -- the plain bench after calls
  abbrev pub bench : List (Call G) → Bench G
  bench cs = bench_after G (bench0 G) cs

  -- a reply adds to at most `limit` samples, from its first one on
  pub record Reach (r : Reply G) : Type 0 where
    pub few : length r.values ≤ limit
    pub none_before : (a : Sample G) (n : ℕ) → n < r.first → hit G a r n ≡ a
    pub none_behind : (a : Sample G) (n : ℕ) → r.first + limit ≤ n → hit G a r n ≡ a
