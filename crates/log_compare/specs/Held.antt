-- What is paired where a log is held against records.
use Rattle.log_theory.specs.Pairing.{Logs}
use Rattle.log_compare.specs.declared.Heard.{Heard}
use Rattle.log_compare.specs.Entries.{logs}

abbrev pub logs_of : Heard → Logs
logs_of h = logs h.log.now h.records.now h.tolerance
