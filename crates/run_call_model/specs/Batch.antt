-- A model of the code, and not the specification's words: samples that are due, written at once, and working memory after them.
use Rattle.std.specs.Prelude.{List, [], ◌∷◌, ℕ, zero, suc, ◌%◌}
use Rattle.run_theory.specs.Generator.{Generator, Sample, NoisePair, silence, noisy}
use Rattle.run_call_model.specs.Machine.{window, rd, wr}

module _ (G : Generator) (o : G.Value) where
  open G use {Value, plus, scaled}

  -- the samples written from memory m on, the next being sample w; and the memory after n of them, with their slots cleared
  abbrev pub written : List Value → ℕ → List (NoisePair G) → List (Sample G)
  written m w [] = []
  written m w (v ∷ vs) = noisy G (rd G o m (w % window G o)) v ∷ written (wr G o m (w % window G o) (silence G)) (suc w) vs

  abbrev pub cleared : List Value → ℕ → ℕ → List Value
  cleared m w zero = m
  cleared m w (suc n) = cleared (wr G o m (w % window G o) (silence G)) (suc w) n

  -- numbers of memory with their noise
  abbrev pub mixed : List Value → List Value → List Value
  mixed [] vs = []
  mixed (x ∷ xs) [] = []
  mixed (x ∷ xs) (v ∷ vs) = plus x (scaled v) ∷ mixed xs vs
