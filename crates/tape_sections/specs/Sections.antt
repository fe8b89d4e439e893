-- The four sections of a tape (SPECIFICATION 4.6): where the counts stand, when a section is right, and what stands before the noise.
use Rattle.std.specs.Prelude.{Option, Some, None}
use Rattle.std.specs.Prelude.{ℕ, ◌+◌, ◌-◌, ◌*◌, cond, ◌&&◌, List, leb, length, get_or}
use Rattle.constants.specs.declared.SamplesPerPulse.{SamplesPerPulse}
use Rattle.constants.specs.Setting.{per_pulse, setting_from}
use Rattle.constants.specs.Rate.{mode_s_taps, mode_ac_taps}
use Rattle.le_read.specs.LeBytes.{read_at}
use Rattle.settings.specs.Settings.{settings_length}

-- the most draws of a tape (SPECIFICATION 4.6)
abbrev pub most_draws : ℕ
most_draws = 400

-- where the counts stand: that of the settings at 0, behind the settings' 124 bytes that of the taps, and so on
abbrev pub taps_offset : ℕ
taps_offset = 4 + settings_length

abbrev pub taps_count : ℕ → ℕ
taps_count sps = mode_s_taps sps + mode_ac_taps sps

abbrev pub draws_offset : ℕ → ℕ
draws_offset sps = taps_offset + 4 + 4 * taps_count sps

abbrev pub noise_offset : ℕ → ℕ → ℕ
noise_offset sps n = draws_offset sps + 4 + 65 * n

-- a count n at an offset, and n values of a size behind it
unfoldable pub count_then : List ℕ → ℕ → ℕ → ℕ → ℕ → ℕ → (Option ℕ)
count_then tape at least most size n = cond (leb least n && leb n most && leb (at + 4 + size * n) (length tape)) (Some n) None

-- the section whose count is at an offset: its count is from least to most, and its values lie on the tape
unfoldable pub section_at : List ℕ → ℕ → ℕ → ℕ → ℕ → (Option ℕ)
section_at tape at least most size = read_at 4 (count_then tape at least most size) None tape at

-- the samples per pulse by which a tape is read, as the last byte of its settings says; one whose byte is neither 4 nor 8 is read as at 4, and refused (15)
unfoldable pub tape_setting : List ℕ → SamplesPerPulse
tape_setting tape = setting_from (get_or tape (taps_offset - 1) 0)

-- as a number
abbrev pub tape_sps : List ℕ → ℕ
tape_sps tape = per_pulse (tape_setting tape)

-- how many bytes of a tape stand before its noise, as those up to its draws' count say
unfoldable pub length_then : ℕ → (Option ℕ) → ℕ
length_then sps (Some n) = draws_offset sps + 8 + 65 * n
length_then sps None = draws_offset sps + 4

unfoldable pub head_length_at : ℕ → List ℕ → ℕ
head_length_at sps tape = length_then sps (section_at tape (draws_offset sps) 0 most_draws 0)

unfoldable pub head_length : List ℕ → ℕ
head_length tape = head_length_at (tape_sps tape) tape
