-- What is reported of a pairing (SPECIFICATION 13.3): each entry's record and each record's entry, by their indices, and what is left over.
use Rattle.std.specs.Prelude.{Option, Some, None, ◌≡◌, Bool, cond, ◌⊎◌, List, [], ◌∷◌, ℕ, zero, suc, ◌+◌, eqb, length}
use Rattle.std.specs.Option.{is_some, unwrap_or}
use Rattle.log_theory.specs.Pairing.{Logs, Pair, taking, shown, pairs_of}

-- 2^64 - 1 for no partner
abbrev pub nobody : ℕ
nobody = 18446744073709551615

abbrev pub indices : List (Option ℕ) → List ℕ
indices [] = []
indices (p ∷ ps) = unwrap_or p nobody ∷ indices ps

-- the entry that a record is paired with
abbrev pub entry_of : List Pair → ℕ → Option ℕ
entry_of [] j = None
entry_of (x ∷ ps) j = cond (eqb x.reply j) (Some x.entry) (entry_of ps j)

-- those of n records, from j on
unfoldable pub entries_from : List Pair → ℕ → ℕ → List ℕ
entries_from ps zero j = []
entries_from ps (suc n) j = unwrap_or (entry_of ps j) nobody ∷ entries_from ps n (suc j)

-- the number of a list's elements that name nobody
abbrev pub unnamed : List ℕ → ℕ
unnamed [] = 0
unnamed (x ∷ l) = cond (eqb x nobody) 1 0 + unnamed l

-- each entry's record, each record's entry, and the number of pairs
pub record Lists : Type 0 where
  pub partners : List ℕ
  pub owners : List ℕ
  pub pairs : ℕ

unfoldable pub report_of : Logs → Lists
report_of L = record { partners = indices (shown L); owners = entries_from (pairs_of 0 (shown L)) L.sent 0; pairs = length (pairs_of 0 (shown L)) }

abbrev pub In : Pair → List Pair → Type 0
In x [] = ⊥
In x (y ∷ ps) = (y ≡ x) ⊎ In x ps

-- entries with no partner
abbrev pub unsent : List (Option ℕ) → ℕ
unsent [] = 0
unsent (p ∷ ps) = cond (is_some p) 0 1 + unsent ps

-- the records still free after these partners
abbrev pub left : (ℕ → Bool) → List (Option ℕ) → ℕ → Bool
left F [] = F
left F (p ∷ ps) = left (taking p F) ps

-- the number of records below n that are free
abbrev pub tally : ℕ → (ℕ → Bool) → ℕ
tally zero F = 0
tally (suc n) F = cond (F n) 1 0 + tally n F
