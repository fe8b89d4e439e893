-- Which records are accepted where they come from outside (SPECIFICATION 4.7). A record is at the start of its bytes; what follows its 66 bytes is not looked at.
use Rattle.std.specs.Prelude.{ℕ, ◌^◌, Bool, ◌&&◌, List, [], ◌∷◌, eqb, leb, ltb, length, get_or}
use Rattle.le_read.specs.LeBytes.{le_at}

-- the message length of a type's number: 14 for types 0, 4 and 5, 7 for 1, 2 and 3, 2 for 6
unfoldable pub type_length : ℕ → ℕ
type_length type = get_or (14 ∷ 7 ∷ 7 ∷ 7 ∷ 14 ∷ 14 ∷ 2 ∷ []) type 0

-- the fields of a record (SPECIFICATION 4.5)
abbrev pub first_sample : List ℕ → ℕ
first_sample r = le_at 8 r 40

abbrev pub type_of : List ℕ → ℕ
type_of r = get_or r 48 0

abbrev pub count_of : List ℕ → ℕ
count_of r = le_at 2 r 49

abbrev pub length_of : List ℕ → ℕ
length_of r = get_or r 51 0

-- whole, first sample at most 2^52, type at most 6, count at most 9,999, and the length its type's
unfoldable pub accepted : List ℕ → Bool
accepted r = leb 66 (length r) && (leb (first_sample r) (2 ^ 52) && (ltb (type_of r) 7 && (leb (count_of r) 9999 && eqb (length_of r) (type_length (type_of r)))))
