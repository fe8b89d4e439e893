-- Log entries and records, held against each other (SPECIFICATION 13.2): which may be paired, what a pairing is, and the pairing that is reported.
use Rattle.std.specs.Prelude.{Option, Some, None, ◌≡◌, Bool, true, false, cond, List, [], ◌∷◌, ℕ, zero, suc, ◌+◌, ◌<◌, T, leb, ltb, eqb, ◌&&◌}
use Rattle.std.specs.Option.{is_some}

-- a log of `heard` entries and `sent` records, by their indices from 0
pub record Logs : Type 0 where
  pub heard : ℕ
  pub sent : ℕ
  pub sample : ℕ → ℕ
  pub first : ℕ → ℕ
  pub alike : ℕ → ℕ → Bool
  pub within : ℕ

-- h and f differ by at most d
abbrev pub near : ℕ → ℕ → ℕ → Bool
near h f d = leb h (f + d) && leb f (h + d)

-- entry i may be paired with record j
abbrev pub allowed : Logs → ℕ → ℕ → Bool
allowed L i j = L.alike i j && near (L.sample i) (L.first j) L.within

-- ---- pairings, as lists of indices
pub record Pair : Type 0 where
  pub entry : ℕ
  pub reply : ℕ

-- `All` and `Contains` of std speak of each index; these, and `In`, go along the list as the proofs do
abbrev pub All : (Pair → Type 0) → List Pair → Type 0
All Q [] = Unit {0}
All Q (x ∷ xs) = Q x × All Q xs

abbrev pub Apart : Pair → Pair → Type 0
Apart x y = (y.entry ≡ x.entry → ⊥) × (y.reply ≡ x.reply → ⊥)

abbrev pub Distinct : List Pair → Type 0
Distinct [] = Unit {0}
Distinct (x ∷ xs) = All (Apart x) xs × Distinct xs

abbrev pub May : Logs → Pair → Type 0
May L x = (x.entry < L.heard) × (x.reply < L.sent) × T (allowed L x.entry x.reply)

-- every pair is allowed, and no entry and no record is in two
pub record Pairing (L : Logs) (ps : List Pair) : Type 0 where
  pub may : All (May L) ps
  pub once : Distinct ps

-- ---- the pairing that is reported
abbrev pub without : ℕ → (ℕ → Bool) → ℕ → Bool
without g F k = cond (eqb g k) false (F k)

-- record j is free and allowed for entry i
abbrev pub cand : Logs → (ℕ → Bool) → ℕ → ℕ → Bool
cand L F i j = F j && allowed L i j

-- the earlier one of what was found and record j
abbrev pub better : Logs → (ℕ → Bool) → ℕ → ℕ → Option ℕ → Option ℕ
better L F i j None = cond (cand L F i j) (Some j) None
better L F i j (Some g) = cond (cand L F i j && ltb (L.first j) (L.first g)) (Some j) (Some g)

-- r records are left, from j on
abbrev pub scan : Logs → (ℕ → Bool) → ℕ → ℕ → ℕ → Option ℕ → Option ℕ
scan L F i zero j b = b
scan L F i (suc r) j b = scan L F i r (suc j) (better L F i j b)

-- the earliest free and allowed record, of equal ones the first in the records' order
unfoldable pub earliest : Logs → (ℕ → Bool) → ℕ → Option ℕ
earliest L F i = scan L F i L.sent 0 None

abbrev pub taking : Option ℕ → (ℕ → Bool) → ℕ → Bool
taking None F = F
taking (Some g) F = without g F

-- l entries are left, from i on: the partner of each
abbrev pub greedy : Logs → (ℕ → Bool) → ℕ → ℕ → List (Option ℕ)
greedy L F zero i = []
greedy L F (suc l) i = earliest L F i ∷ greedy L (taking (earliest L F i) F) l (suc i)

abbrev pub every : ℕ → Bool
every j = true

abbrev pub shown : Logs → List (Option ℕ)
shown L = greedy L every L.heard 0

-- ---- counts
abbrev pub count : List (Option ℕ) → ℕ
count [] = 0
count (p ∷ ps) = cond (is_some p) 1 0 + count ps

abbrev pub push : ℕ → Option ℕ → List Pair → List Pair
push i None ps = ps
push i (Some j) ps = record { entry = i; reply = j } ∷ ps

-- the pairs of a list of partners, entries counted from i
abbrev pub pairs_of : ℕ → List (Option ℕ) → List Pair
pairs_of i [] = []
pairs_of i (p ∷ ps) = push i p (pairs_of (suc i) ps)
