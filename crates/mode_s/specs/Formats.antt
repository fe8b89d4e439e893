-- The lists that downlink formats, CA and the control of DF 18 come from (SPECIFICATION 7.2).
use Rattle.std.specs.Prelude.{ℕ, List, [], ◌∷◌}

-- the downlink formats of each type
abbrev pub extended_formats : List ℕ
extended_formats = 17 ∷ 18 ∷ []

abbrev pub short_ap_formats : List ℕ
short_ap_formats = 0 ∷ 4 ∷ 5 ∷ []

abbrev pub long_ap_formats : List ℕ
long_ap_formats = 16 ∷ 20 ∷ 21 ∷ 24 ∷ 25 ∷ 26 ∷ 27 ∷ 28 ∷ 29 ∷ 30 ∷ 31 ∷ []

abbrev pub military_formats : List ℕ
military_formats = 19 ∷ []

-- of acquisition squitters and all-call replies
abbrev pub all_call_formats : List ℕ
all_call_formats = 11 ∷ []

-- the values of CA
abbrev pub capabilities : List ℕ
capabilities = 0 ∷ 4 ∷ 5 ∷ 6 ∷ 7 ∷ []

-- the values of the control of DF 18
abbrev pub controls : List ℕ
controls = 0 ∷ 2 ∷ 3 ∷ 4 ∷ 5 ∷ 6 ∷ []
