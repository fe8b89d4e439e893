-- The numbers that follow from the samples per pulse, a pulse being 500 ns. SPECIFICATION 1.5 has them at 4 samples per pulse, and 1.6 at 8; each comment gives its number at 4.
use Rattle.std.specs.Prelude.{ℕ, zero, suc, ◌+◌, ◌-◌, ◌*◌, ◌/◌}

-- samples per pulse (SPECIFICATION 1.5)
abbrev pub four : ℕ
four = 4

-- samples a second: 8,000,000
abbrev pub sample_rate : ℕ → ℕ
sample_rate sps = 2000000 * sps

-- branches of a filterbank for each sample of a pulse, whatever the rate
abbrev pub branches_per_sample : ℕ
branches_per_sample = 64

-- branches of a filterbank: 256
abbrev pub branches : ℕ → ℕ
branches sps = branches_per_sample * sps

-- taps of a branch, whatever the rate
abbrev pub taps_per_branch : ℕ
taps_per_branch = 7

-- values of a prototype: 1,792
abbrev pub prototype_length : ℕ → ℕ
prototype_length sps = branches sps * taps_per_branch

-- the trapezoid of a Mode S pulse: rise 38, fall 64, and 256 between the middles of its edges
abbrev pub mode_s_rise : ℕ → ℕ
mode_s_rise sps = 19 * sps / 2

abbrev pub mode_s_fall : ℕ → ℕ
mode_s_fall sps = 16 * sps

abbrev pub mode_s_width : ℕ → ℕ
mode_s_width sps = 64 * sps

-- the trapezoid of a Mode A/C pulse: rise 40, fall 40, and 238 between the middles of its edges
abbrev pub mode_ac_rise : ℕ → ℕ
mode_ac_rise sps = 10 * sps

abbrev pub mode_ac_fall : ℕ → ℕ
mode_ac_fall sps = 10 * sps

abbrev pub mode_ac_width : ℕ → ℕ
mode_ac_width sps = 119 * sps / 2

-- the values of a trapezoid: 307 for Mode S, 278 for Mode A/C
abbrev pub trapezoid_length : ℕ → ℕ → ℕ → ℕ
trapezoid_length rise fall width = width + (rise + fall) / 2

abbrev pub mode_s_pulse : ℕ → ℕ
mode_s_pulse sps = trapezoid_length (mode_s_rise sps) (mode_s_fall sps) (mode_s_width sps)

abbrev pub mode_ac_pulse : ℕ → ℕ
mode_ac_pulse sps = trapezoid_length (mode_ac_rise sps) (mode_ac_fall sps) (mode_ac_width sps)

-- the taps of a lowpass: 1,486 for Mode S, 1,515 for Mode A/C
abbrev pub mode_s_taps : ℕ → ℕ
mode_s_taps sps = prototype_length sps - mode_s_pulse sps + 1

abbrev pub mode_ac_taps : ℕ → ℕ
mode_ac_taps sps = prototype_length sps - mode_ac_pulse sps + 1

-- the most samples that a number of pulses becomes at any clock rate, the Rust's `required_samples_for_apply`: none for none; else the pulses and the taps after the last one, 6 more,
-- each at sps / 0.9 samples, since the clock is at most 0.1 slow; rounded up
abbrev pub required_samples : ℕ → ℕ → ℕ
required_samples sps zero = 0
required_samples sps (suc n) = ((suc n + taps_per_branch - 1) * sps * 10 + 8) / 9

-- the pulses of the longest message, and the most samples that it becomes: 1,094
abbrev pub longest_pulses : ℕ
longest_pulses = 240

abbrev pub reply_limit : ℕ → ℕ
reply_limit sps = required_samples sps longest_pulses

-- samples held back: 32
abbrev pub hold_back : ℕ → ℕ
hold_back sps = 8 * sps

-- slots of the ring in working memory: 1,126
abbrev pub ring_slots : ℕ → ℕ
ring_slots sps = reply_limit sps + hold_back sps

-- working memory, in f32, two for each slot: 2,252
abbrev pub working_memory : ℕ → ℕ
working_memory sps = 2 * ring_slots sps

-- the largest size of a carrier offset, half the samples a second: 4,000,000
abbrev pub largest_offset : ℕ → ℕ
largest_offset sps = sample_rate sps / 2
