-- Plain run (SPECIFICATION 10.1): the samples and records of draws and noise. It knows no calls and no memory.
use Rattle.std.specs.Prelude.{Bool, true, false, cond, List, [], ◌∷◌, map, ℕ, zero, suc, ◌+◌, ◌-◌, leb, length, take}
use Rattle.run_theory.specs.Added.{sum_of}
use Rattle.run_theory.specs.Generator.{Generator, Start, negative, from, Sample, NoisePair, silence, add, noisy}

-- what step 4 makes of a draw: it is taken and ignored, it ends the run, or it is a reply that starts at a sample
pub data Kind : Type 0 where
  ignored : Kind
  ends : Kind
  reply : ℕ → Kind

module _ (G : Generator) where
  open G use {Draw, Time, Byte, t0, after, start, adds, entry, limit, total}

  -- a reply: its first sample, what it adds to the samples from there on, and its record
  pub record Reply : Type 0 where
    pub first : ℕ
    pub values : List (Sample G)
    pub line : List Byte

  -- Step 4: start negative first, then start + limit >= the run's samples.
  abbrev pub kind_of : Start → Kind
  kind_of negative = ignored
  kind_of (from s) = cond (leb total (s + limit)) ends (reply s)

  -- of a draw and its time
  abbrev pub kind : Time → Draw → Kind
  kind t d = kind_of (start t d)

  -- the time after draws, an ignored draw's gap counted like any other
  abbrev pub time_of : Time → List Draw → Time
  time_of t [] = t
  time_of t (d ∷ ds) = time_of (after t d) ds

  abbrev pub ends_by : Kind → Bool → Bool
  ends_by ignored e = e
  ends_by ends e = true
  ends_by (reply s) e = e

  -- the end draw is among these draws
  abbrev pub ended : Time → List Draw → Bool
  ended t [] = false
  ended t (d ∷ ds) = ends_by (kind (after t d) d) (ended (after t d) ds)

  -- the count in the record is the number of samples that the reply adds to
  abbrev pub reply_of : Time → Draw → ℕ → Reply
  reply_of t d s = record { first = s; values = adds t d s; line = entry t d s (length (adds t d s)) }

  abbrev pub push : Kind → Time → Draw → List Reply → List Reply
  push ignored t d rs = rs
  push ends t d rs = []
  push (reply s) t d rs = reply_of t d s ∷ rs

  -- Replies: each draw that step 4 does not ignore, before the one that ends the run, in tape order.
  abbrev pub replies : Time → List Draw → List Reply
  replies t [] = []
  replies t (d ∷ ds) = push (kind (after t d) d) (after t d) d (replies (after t d) ds)

  -- a sum and what the k-th of these values adds to it, if there is one
  abbrev pub add_nth : Sample G → List (Sample G) → ℕ → Sample G
  add_nth a [] k = a
  add_nth a (x ∷ xs) zero = add G a x
  add_nth a (x ∷ xs) (suc k) = add_nth a xs k

  -- a sum after a reply, at sample n: a reply that does not reach n adds nothing
  abbrev pub hit : Sample G → Reply → ℕ → Sample G
  hit a r n = cond (leb r.first n) (add_nth a r.values (n - r.first)) a

  abbrev pub sum_from : Sample G → List Reply → ℕ → Sample G
  sum_from a [] n = a
  sum_from a (r ∷ rs) n = sum_from (hit a r n) rs n

  -- the sum from 0.0 of what each reply reaching sample n adds there, in tape order
  abbrev pub sum_at : List Reply → ℕ → Sample G
  sum_at rs n = sum_from (silence G) rs n

  -- the samples from n on, one for each noise pair, the noise last
  abbrev pub samples_from : List Reply → ℕ → List (NoisePair G) → List (Sample G)
  samples_from rs n [] = []
  samples_from rs n (v ∷ vs) = noisy G (sum_at rs n) v ∷ samples_from rs (suc n) vs

  -- Samples of the plain run: below the run's samples and the noise pairs.
  abbrev pub plain_samples : List Draw → List (NoisePair G) → List (Sample G)
  plain_samples ds vs = samples_from (replies t0 ds) 0 (take total vs)

  -- Records of the plain run, in tape order.
  abbrev pub plain_records : List Draw → List (List Byte)
  plain_records ds = map (λ r. r.line) (replies t0 ds)

  -- Counts of the plain run's replies, in tape order: the number of samples that each adds to, as its record says.
  abbrev pub plain_counts : List Draw → List ℕ
  plain_counts ds = map (λ r. length r.values) (replies t0 ds)

  -- Reply samples added, in all.
  abbrev pub plain_added : List Draw → ℕ
  plain_added ds = sum_of (plain_counts ds)
