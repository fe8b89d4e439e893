-- Pulses copied behind six positions that are off are `pad_pulses` of the first pulses.
use Rattle.std.proofs.Common.{◌≡◌, ℕ, ◌-◌, ◌<◌, ◌≤◌, min, Bool, false, List, ◌++◌, length, take, drop, replicate, sym, ap, ◌∙◌, inl, inr, le_trans, le_of_eq, le_of_lt, arith, length-take, take_all}
use Rattle.std.proofs.lemmas.List.{drop-replicate}
pub use Rattle.float_rounding.proofs.Size.{le_or_lt}
use Rattle.filterbank.specs.PaddedPulsesModel.{pad_pulses}

-- the positions before the copy, all off
abbrev pub off : List Bool
off = replicate 252 false

-- the first len pulses are the first min len 240
first : (on : List Bool) (n len : ℕ) → n ≡ min len 240 → length on ≡ 240 → take n on ≡ take len on
first on n len e l = elim (le_or_lt len 240) [
  | inl h ↦ ap (λ (k : ℕ). take k on) (short n len e h)
  | inr h ↦ take_all n on (le_of_eq (l ∙ sym (long n len e h))) ∙ sym (take_all len on (le_trans (le_of_eq l) (le_of_lt h)))
]
  where
    short : (n len : ℕ) → n ≡ min len 240 → len ≤ 240 → n ≡ len
    short n len e h = omega arith

    long : (n len : ℕ) → n ≡ min len 240 → 240 < len → n ≡ 240
    long n len e h = omega arith

-- what a copy of the first n pulses leaves, j positions behind it being left as they were
pub padded : (on copied : List Bool) (n j : ℕ) → n ≡ min (length on) 240 → copied ≡ take n on → j ≡ n → take 6 off ++ (copied ++ drop j (drop 6 off)) ≡ pad_pulses (take 240 on)
unfolding pad_pulses
padded on copied n j e p q =
    ap (λ (t : List Bool). replicate 6 false ++ (t ++ drop j (replicate 246 false))) (p ∙ most)
    ∙ ap (λ (k : ℕ). replicate 6 false ++ (take 240 on ++ drop k (replicate 246 false))) q
    ∙ ap (λ (t : List Bool). replicate 6 false ++ (take 240 on ++ t)) (drop-replicate n 246 false ∙ ap (λ (m : ℕ). replicate (246 - m) false) many)
  where
    many : n ≡ length (take 240 on)
    many = omega (arith, length-take 240 on)

    most : take n on ≡ take 240 on
    most = elim (le_or_lt (length on) 240) [
      | inl h ↦ take_all n on (omega arith) ∙ sym (take_all 240 on h)
      | inr h ↦ ap (λ (k : ℕ). take k on) {x = n} {y = 240} (omega arith)
    ]

-- ---- for the callers: the first n positions, n being at most 240
pub most_taken : (on : List Bool) (n : ℕ) → n ≤ 240 → take 240 (take n on) ≡ take n on
most_taken on n h = take_all 240 (take n on) (omega (arith, length-take n on))

-- of an array of 240 positions
pub first_taken : (on : List Bool) (n len : ℕ) → n ≡ min len 240 → length on ≡ 240 → take 240 (take n on) ≡ take len on
first_taken on n len e l = most_taken on n (omega arith) ∙ first on n len e l
