-- What is shown of the pairing (SPECIFICATION 13.5), for any log and any records.
use Rattle.std.specs.Prelude.{Option, Some, None, ◌≡◌, Bool, List, ℕ, ◌+◌, ◌≤◌, ◌<◌, T, length, take, get_or}
use Rattle.log_theory.specs.Pairing.{Logs, Pair, Pairing, cand, every, shown, pairs_of}
use Rattle.log_theory.specs.Report.{nobody, indices, entry_of, entries_from, unnamed, In, left, tally, unsent}

-- the log is in rising order, and messages are compared by what they are
pub record Orderly (L : Logs) : Type 0 where
  pub rising : (i k : ℕ) → i ≤ k → k < L.heard → L.sample i ≤ L.sample k
  pub across : (i k g s : ℕ) → T (L.alike i g) → T (L.alike i s) → T (L.alike k g) → T (L.alike k s)

module _ (L : Logs) (F : ℕ → Bool) (i : ℕ) where
  -- g is earlier than k: by first sample, then in the records' order
  pub record Before (g k : ℕ) : Type 0 where
    pub no_later : L.first g ≤ L.first k
    pub in_order_lem : L.first g ≡ L.first k → g ≤ k

  -- b is the earliest of the first n records that is free and allowed for entry i, or none is
  abbrev pub Earliest : ℕ → Option ℕ → Type 0
  Earliest n None = (k : ℕ) → k < n → T (cand L F i k) → ⊥
  Earliest n (Some g) = (g < n) × T (cand L F i g) × ((k : ℕ) → k < n → T (cand L F i k) → Before g k)

abbrev pub pairs : Logs → List Pair
pairs L = pairs_of 0 (shown L)

pub record PairingLaws (L : Logs) : Type 0 where
  -- every pair is allowed, and each entry and each record is used once
  pub pairing : Pairing L (pairs L)
  -- no pairing allowed by the rule has more pairs
  pub largest : Orderly L → (ps : List Pair) → Pairing L ps → length ps ≤ length (pairs L)
  -- each entry, in log order, has the earliest record still free and allowed
  pub earliest_free : (i : ℕ) → i < L.heard → Earliest L (left every (take i (shown L))) i L.sent (get_or (shown L) i None)
  -- pairs and unheard records are all records; pairs and unsent entries are all entries
  pub records_counted : length (pairs L) + tally L.sent (left every (shown L)) ≡ L.sent
  pub entries_counted : length (pairs L) + unsent (shown L) ≡ L.heard
  -- what is left over are the numbers of the lists that name nobody, where every index is below 2^64 - 1
  pub records_unnamed : L.heard ≤ nobody → tally L.sent (left every (shown L)) ≡ unnamed (entries_from (pairs L) L.sent 0)
  pub entries_unnamed : L.sent ≤ nobody → unsent (shown L) ≡ unnamed (indices (shown L))
  -- a record's entry is the one that it is paired with
  pub entry_paired : (j i : ℕ) → entry_of (pairs L) j ≡ Some i → In (record { entry = i; reply = j }) (pairs L)
  pub pair_entered : (x : Pair) → In x (pairs L) → entry_of (pairs L) x.reply ≡ Some x.entry
