-- What the tape program prints (SPECIFICATION 11.1). Text is a list of ASCII codes.
use Rattle.std.specs.Prelude.{ℕ, zero, suc, ◌+◌, ◌/◌, ◌%◌, min, Bool, cond, ◌&&◌, ◌≡◌, List, [], ◌∷◌, ◌++◌, eqb, leb, ltb, length, get_or, take, drop}
use Rattle.le_read.specs.LeBytes.{le_at, inside, overwritten}

-- a number in decimal, with k digits at most
unfoldable pub digits_of : ℕ → ℕ → List ℕ
digits_of zero n = []
digits_of (suc k) n = cond (ltb n 10) ((48 + n) ∷ []) (digits_of k (n / 10) ++ ((48 + n % 10) ∷ []))

-- a number in decimal: one digit below 10, else the decimal of its tenth and then its last digit (`decimal-is` of proofs/Decimal: n + 1 digits are always enough)
unfoldable pub decimal : ℕ → List ℕ
decimal n = digits_of (suc n) n

-- a number in decimal, and a character after it
unfoldable pub number : ℕ → ℕ → List ℕ
number n after = decimal n ++ (after ∷ [])

-- a digit below 16: 0 to 9, then a to f
unfoldable pub hex_digit : ℕ → ℕ
hex_digit d = cond (ltb d 10) (48 + d) (87 + d)

-- bytes in hexadecimal
unfoldable pub hex : List ℕ → List ℕ
hex [] = []
hex (b ∷ bs) = hex_digit (b / 16) ∷ hex_digit (b % 16) ∷ hex bs

-- the bytes of a record's message in the order in which they are printed (SPECIFICATION 11.1): Mode A/C high byte first
unfoldable pub message_of : List ℕ → List ℕ
message_of r = cond (eqb (get_or r 48 0) 6) (get_or r 53 0 ∷ get_or r 52 0 ∷ []) (take (get_or r 51 0) (take 14 (drop 52 r)))

-- bytes in hexadecimal, and the line's end
unfoldable pub hex_line : List ℕ → List ℕ
hex_line bytes = hex bytes ++ (10 ∷ [])

-- first sample, type, count and message, with spaces between (SPECIFICATION 11.1)
unfoldable pub line_of : List ℕ → List ℕ
line_of r = number (le_at 8 r 40) 32 ++ number (get_or r 48 0) 32 ++ number (le_at 2 r 49) 32 ++ hex_line (message_of r)

-- the lines of n records
unfoldable pub lines_of : ℕ → List ℕ → List ℕ
lines_of zero records = []
lines_of (suc n) records = line_of records ++ lines_of n (drop 66 records)

-- `first type count message` and the line's end
abbrev pub header : List ℕ
header = 102 ∷ 105 ∷ 114 ∷ 115 ∷ 116 ∷ 32 ∷ 116 ∷ 121 ∷ 112 ∷ 101 ∷ 32 ∷ 99 ∷ 111 ∷ 117 ∷ 110 ∷ 116 ∷ 32 ∷ 109 ∷ 101 ∷ 115 ∷ 115 ∷ 97 ∷ 103 ∷ 101 ∷ 10 ∷ []

-- `samples ` and `refused `
abbrev pub samples_word : List ℕ
samples_word = 115 ∷ 97 ∷ 109 ∷ 112 ∷ 108 ∷ 101 ∷ 115 ∷ 32 ∷ []

abbrev pub refused_word : List ℕ
refused_word = 114 ∷ 101 ∷ 102 ∷ 117 ∷ 115 ∷ 101 ∷ 100 ∷ 32 ∷ []

-- of a run, with its records, n of 66 bytes (no more than there are, nor than 400), and the samples written
unfoldable pub run_text : List ℕ → ℕ → ℕ → List ℕ
run_text records count samples = header ++ lines_of (min count (min (length records / 66) 400)) records ++ samples_word ++ number samples 10

-- of a refusal, with its number
unfoldable pub refused_text : ℕ → List ℕ
refused_text n = refused_word ++ number n 10

-- text put at an offset of a buffer: what the buffer holds after it, and where the text ends
pub record Put (text before : List ℕ) (at : ℕ) (after : List ℕ) (end : ℕ) : Type 0 where
  pub held : after ≡ overwritten before at text
  pub ends : end ≡ at + length text

-- ---- the message of one record alone, put at an offset
-- whether the record at the start of the bytes is whole, and 29 bytes are left from the offset, as many as the longest message and its line's end take
unfoldable pub message_fits : List ℕ → List ℕ → ℕ → Bool
message_fits r out at = leb 66 (length r) && inside 29 out at

-- the buffer after it, and where the line's end ends; the buffer as it was, and the offset, where it does not fit
unfoldable pub message_at : List ℕ → List ℕ → ℕ → List ℕ
message_at r out at = cond (message_fits r out at) (overwritten out at (hex_line (message_of r))) out

unfoldable pub message_end : List ℕ → List ℕ → ℕ → ℕ
message_end r out at = cond (message_fits r out at) (at + length (hex_line (message_of r))) at
