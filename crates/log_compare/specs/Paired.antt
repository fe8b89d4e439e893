-- The two lists and the number of pairs (SPECIFICATION 13.3).
use Rattle.std.specs.Prelude.{cond, List, ℕ, ◌/◌, eqb, length}
use Rattle.log_theory.specs.Report.{Lists, report_of}
use Rattle.log_compare.specs.Entries.{logs}

-- lists of other lengths are left as they are, with no pairs
abbrev pub kept : List ℕ → List ℕ → Lists
kept partners owners = record { partners = partners; owners = owners; pairs = 0 }

unfoldable pub paired_of : List ℕ → List ℕ → ℕ → List ℕ → List ℕ → Lists
paired_of log records d partners owners =
    cond (eqb (length partners) (length log / 23)) (cond (eqb (length owners) (length records / 66)) (report_of (logs log records d)) (kept partners owners)) (kept partners owners)
