-- A log of 23-byte entries and records of 66 bytes, by their indices (SPECIFICATION 13.1).
use Rattle.std.specs.Prelude.{Bool, true, List, ℕ, zero, suc, ◌+◌, ◌*◌, ◌/◌, eqb, ltb, length, get_or, ◌&&◌}
use Rattle.le_read.specs.LeBytes.{number_at}
use Rattle.log_theory.specs.Pairing.{Logs}

-- an entry's sample is at 0, its message's length at 8 and its bytes at 9
unfoldable pub sample_of : List ℕ → ℕ → ℕ
sample_of log i = number_at 8 log (23 * i)

abbrev pub heard_length : List ℕ → ℕ → ℕ
heard_length log i = get_or log (23 * i + 8) 0

-- a record's first sample is at 40, its message's length at 51 and its bytes at 52
unfoldable pub first_of : List ℕ → ℕ → ℕ
first_of records j = number_at 8 records (66 * j + 40)

abbrev pub sent_length : List ℕ → ℕ → ℕ
sent_length records j = get_or records (66 * j + 51) 0

-- n bytes of s from a are those of t from b
unfoldable pub same_from : ℕ → List ℕ → ℕ → List ℕ → ℕ → Bool
same_from zero s a t b = true
same_from (suc n) s a t b = eqb (get_or s a 0) (get_or t b 0) && same_from n s (a + 1) t (b + 1)

-- equal lengths, and equal bytes up to it
unfoldable pub message_alike : List ℕ → List ℕ → ℕ → ℕ → Bool
message_alike log records i j = eqb (heard_length log i) (sent_length records j) && same_from (heard_length log i) log (23 * i + 9) records (66 * j + 52)

-- entry i and record j are there and have one message
unfoldable pub alike_of : List ℕ → List ℕ → ℕ → ℕ → Bool
alike_of log records i j = ltb i (length log / 23) && (ltb j (length records / 66) && message_alike log records i j)

-- what is paired, with the tolerance d
abbrev pub logs : List ℕ → List ℕ → ℕ → Logs
logs log records d = record {
  heard = length log / 23;
  sent = length records / 66;
  sample = sample_of log;
  first = first_of records;
  alike = alike_of log records;
  within = d;
}
