-- What the theorems over the rate ask of it holds at both settings: bounds, and branches that are a power of two.
use mathlib.Core.Path.{◌≡◌, refl}
use mathlib.Core.Logic.{◌⊎◌, inl, inr}
use Prim.Native.Nat.{ℕ, ◌^◌, ◌≤◌, ◌<◌}
use lib.Dec.{lit≤, lit<}
use Rattle.constants.specs.declared.SamplesPerPulse.{SamplesPerPulse}
use Rattle.constants.specs.declared.SamplesPerPulse.TheVariants.{Four, Eight}
use Rattle.constants.specs.Rate.{branches, ring_slots}
use Rattle.constants.specs.Setting.{per_pulse, setting_from, either}

pub rate_pos : (s : SamplesPerPulse) → 0 < per_pulse s
rate_pos Four = lit< tt
rate_pos Eight = lit< tt

pub rate_three : (s : SamplesPerPulse) → 3 ≤ per_pulse s
rate_three Four = lit≤ tt
rate_three Eight = lit≤ tt

pub rate_few : (s : SamplesPerPulse) → per_pulse s ≤ 2 ^ 30
rate_few Four = lit≤ tt
rate_few Eight = lit≤ tt

-- 2 to this are the branches
abbrev pub branch_bits : SamplesPerPulse → ℕ
branch_bits Four = 8
branch_bits Eight = 9

pub branches_are : (s : SamplesPerPulse) → branches (per_pulse s) ≡ 2 ^ branch_bits s
branches_are Four = refl
branches_are Eight = refl

pub few_branches : (s : SamplesPerPulse) → 2 ^ branch_bits s ≤ 2 ^ 20
few_branches Four = lit≤ tt
few_branches Eight = lit≤ tt

-- the ring in working memory has slots, and not many
pub ring_pos : (s : SamplesPerPulse) → 0 < ring_slots (per_pulse s)
ring_pos Four = lit< tt
ring_pos Eight = lit< tt

pub ring_few : (s : SamplesPerPulse) → ring_slots (per_pulse s) ≤ 2251
ring_few Four = lit≤ tt
ring_few Eight = lit≤ tt

-- which of the two it is, by the setting
pub either_cases : (s : SamplesPerPulse) (a b r : ℕ) → r ≡ either s a b → ((s ≡ Four) × (r ≡ a)) ⊎ ((s ≡ Eight) × (r ≡ b))
unfolding either
either_cases Four a b r e = inl (refl, e)
either_cases Eight a b r e = inr (refl, e)

-- a setting's number stands for it
pub setting_back : (s : SamplesPerPulse) → setting_from (per_pulse s) ≡ s
setting_back Four = refl
setting_back Eight = refl
