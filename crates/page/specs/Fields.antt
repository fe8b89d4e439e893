-- What a line of the record on paper shows (SPECIFICATION 11.6). A column is counted from 0.
use Rattle.std.specs.Prelude.{ℕ, zero, suc, ◌+◌, ◌-◌, ◌*◌, Bool, false, cond, Option, Some, None, List, [], ◌∷◌, ◌++◌, eqb, ltb, length, get_or, take, drop, replicate}
use Rattle.record_check.specs.Accepted.{type_length}
use Rattle.page.specs.declared.LineFields.{LineFields}

-- a decimal digit; any other byte, a blank too, is 0
unfoldable pub digit_value : ℕ → ℕ
digit_value c = cond (ltb c 48) 0 (cond (ltb c 58) (c - 48) 0)

-- a hexadecimal digit in lower case; any other byte is 0
unfoldable pub hex_value : ℕ → ℕ
hex_value c = cond (ltb c 97) (digit_value c) (cond (ltb c 103) (c - 87) (digit_value c))

-- the number of columns, behind the digits of v
unfoldable pub read_from : ℕ → List ℕ → ℕ
read_from v [] = v
read_from v (c ∷ columns) = read_from (v * 10 + digit_value c) columns

unfoldable pub read_number : List ℕ → ℕ
read_number columns = read_from 0 columns

-- the byte that stands k-th in the message's columns, which begin at 24
unfoldable pub shown_byte : List ℕ → ℕ → ℕ
shown_byte l k = 16 * hex_value (get_or l (24 + 2 * k) 0) + hex_value (get_or l (24 + 2 * k + 1) 0)

-- where a record's k-th byte stands: Mode A/C is shown high byte first
unfoldable pub place : ℕ → ℕ → ℕ
place type k = cond (eqb type 6) (1 - k) k

-- the first n bytes of a message of a type, as a record keeps them
unfoldable pub shown_bytes : ℕ → List ℕ → ℕ → List ℕ
shown_bytes type l zero = []
shown_bytes type l (suc n) = shown_bytes type l n ++ (shown_byte l (place type n) ∷ [])

-- with zeros behind them, 14 in all
unfoldable pub shown_message : ℕ → List ℕ → ℕ → List ℕ
shown_message type l n = shown_bytes type l n ++ replicate (14 - n) 0

-- whether a column shows a type: 0 to 6
unfoldable pub is_type : ℕ → Bool
is_type c = cond (ltb c 48) false (ltb c 55)

-- first sample from column 0, type in 17, count from 19, message from 24
unfoldable pub shown_fields : List ℕ → LineFields
shown_fields l =
    let type = digit_value (get_or l 17 0) in
    record {
      first = read_number (take 16 (drop 0 l));
      kind = type;
      count = read_number (take 4 (drop 19 l));
      size = type_length type;
      message = shown_message type l (type_length type);
    }

-- of 72 bytes with a type in its column; else none
unfoldable pub fields_of : List ℕ → Option LineFields
fields_of l = cond (eqb (length l) 72) (cond (is_type (get_or l 17 0)) (Some (shown_fields l)) None) None
