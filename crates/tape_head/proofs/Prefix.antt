-- A tape's beginning depends on the bytes before its noise alone (`head_of_prefix`), and those up to the draws' count say how many those are (`length_of_prefix`), as the first 128 say how many the taps are (`setting_first`): reading a tape as it comes is the same as having it whole.
use Rattle.std.specs.Prelude.{Option, Some, None, Result, Ok, Err}
use Rattle.settings.specs.declared.Distributions.{Distributions}
use Rattle.refusals.specs.declared.Refusal.{Refusal}
use Rattle.refusals.specs.declared.Refusal.TheVariants.{Tape}
use Prim.Native.Nat.{ℕ, zero, suc, ◌+◌, ◌-◌, ◌*◌, ◌≤◌, ◌<◌, min}
use mathlib.Core.Path.{◌≡◌, refl, sym, ap, ◌∙◌, subst}
use mathlib.Core.Bool.{Bool, true, false, cond, ◌&&◌}
use mathlib.Core.List.{List, [], ◌∷◌}
use native.Mathlib.Omega.{arith}
use lib.Dec.{leb}
use lib.ListN.{length, take, drop, length-take}
use lib.Seq.{take-take, take_all, drop-drop}
use lib.Ieee.{Float, binary32, of_bits}
use borrow.Author.Tests.{le-leb, lt-leb, leb-true, leb-false}
use Rattle.constants.specs.declared.SamplesPerPulse.{SamplesPerPulse}
use Rattle.constants.specs.Setting.{per_pulse}
use Rattle.constants.specs.Rate.{mode_s_taps}
use Rattle.le_read.specs.LeBytes.{le_of, le_at, read_at, inside}
use Rattle.settings.proofs.Inside.{number_there}
use Rattle.settings.specs.Settings.{settings_length, settings_of}
use Rattle.settings.specs.Accepted.{setting_at, at_setting, accepted_of}
use Rattle.draw.specs.Fault.{first_fault}
use Rattle.run_call.specs.declared.State.{State}
use Rattle.run_open.specs.Opening.{OpenBuffers, opened_of, left_by}
use Rattle.tape_sections.specs.Floats.{floats_of}
use Rattle.tape_sections.specs.Sections.{taps_offset, taps_count, draws_offset, noise_offset, count_then, section_at, tape_setting, tape_sps, length_then, head_length_at, head_length}
use Rattle.tape_sections.proofs.Counts.{between, section_of, counted}
use Rattle.tape_sections.proofs.FirstBytes.{setting_first}
use Rattle.tape_head.specs.declared.Beginning.{Beginning}
use Rattle.tape_head.specs.Head.{run_of, noise_then, fault_then, draws_then, opened_then, taps, taps_s, taps_ac, settings_bytes, setting_then, opened_from, taps_then, checked_then, early_of, early_then, at_rate, left_then, beginning_of, head_of}
use Rattle.tape_head.proofs.Setting.{setting_read}
use Rattle.tape_head.proofs.Within.{setting_begun}

-- ---- a part of the first m is that part
part_take : {A : Type 0} (at k m : ℕ) (l : List A) → at + k ≤ m → take k (drop at (take m l)) ≡ take k (drop at l)
part_take zero k m l h = take-take k m l (omega arith)
part_take (suc a) k zero l h = absurd (omega arith)
part_take (suc a) k (suc m) [] h = refl
part_take (suc a) k (suc m) (x ∷ l) h = part_take a k m l (omega arith)

leb_min : (x m n : ℕ) → x ≤ m → leb x (min m n) ≡ leb x n
leb_min x m n h = go (leb x n) refl
  where
    go : (b : Bool) → leb x n ≡ b → leb x (min m n) ≡ leb x n
    go true e = le-leb x (min m n) (omega (arith, leb-true x n e)) ∙ sym e
    go false e = lt-leb x (min m n) (omega (arith, leb-false x n e)) ∙ sym e

module _ (s : List ℕ) (m : ℕ) where
  le_first : (n at : ℕ) → at + n ≤ m → le_at n (take m s) at ≡ le_at n s at
  unfolding le_at
  le_first n at h = ap le_of (part_take at n m s h)

  inside_first : (x : ℕ) → x ≤ m → leb x (length (take m s)) ≡ leb x (length s)
  inside_first x h = ap (leb x) (length-take m s) ∙ leb_min x m (length s) h

  read_first : {X : Type 0} (f : ℕ → X) (past : X) (at : ℕ) → at + 4 ≤ m → read_at 4 f past (take m s) at ≡ read_at 4 f past s at
  unfolding read_at
  read_first f past at h = λ i. cond (inside_first (at + 4) h i) (f (le_first 4 at h i)) past

  floats_first : (n at : ℕ) → at + 4 * n ≤ m → floats_of n (drop at (take m s)) ≡ floats_of n (drop at s)
  unfolding floats_of le_at
  floats_first zero at h = refl
  floats_first (suc n) at h =
      (λ i. of_bits binary32 (le_first 4 at (omega arith) i) ∷ floats_of n (drop-drop 4 at (take m s) i))
      ∙ ap (λ (l : List Float). of_bits binary32 (le_at 4 s at) ∷ l) (floats_first n (at + 4) (omega arith))
      ∙ sym (ap (λ (l : List ℕ). of_bits binary32 (le_at 4 s at) ∷ floats_of n l) (drop-drop 4 at s))

  -- a section whose values, where its count is allowed, lie in the first m
  module _ (at least most size : ℕ) (h : at + 4 ≤ m) (g : le_at 4 s at ≤ most → at + 4 + size * le_at 4 s at ≤ m) where
    shut : (a b x y : Bool) (n : ℕ) → b ≡ false → cond (a && b && x) (Some n) None ≡ cond (a && b && y) (Some n) None
    shut true b x y n q = simp q
    shut false b x y n q = refl

    counts : (b : Bool) → leb (le_at 4 s at) most ≡ b → count_then (take m s) at least most size (le_at 4 s at) ≡ count_then s at least most size (le_at 4 s at)
    unfolding count_then
    counts true e =
        ap (λ (x : Bool). cond (leb least (le_at 4 s at) && leb (le_at 4 s at) most && x) (Some (le_at 4 s at)) None)
        (inside_first (at + 4 + size * le_at 4 s at) (g (leb-true (le_at 4 s at) most e)))
    counts false e = shut (leb least (le_at 4 s at)) (leb (le_at 4 s at) most) (leb (at + 4 + size * le_at 4 s at) (length (take m s))) (leb (at + 4 + size * le_at 4 s at) (length s)) (le_at 4 s at) e

    section_first : section_at (take m s) at least most size ≡ section_at s at least most size
    unfolding section_at read_at
    section_first =
        read_first (count_then (take m s) at least most size) None at h
        ∙ ap (λ (x : (Option ℕ)). cond (inside 4 s at) x None) (counts (leb (le_at 4 s at) most) refl)

-- ---- a section's count is the number at its offset
module _ (tape : List ℕ) (at : ℕ) where
  IsCount : (Option ℕ) → Type 0
  IsCount (Some n) = n ≡ le_at 4 tape at
  IsCount None = Unit {0}

  either_count : (a b : Bool) → IsCount (cond a (cond b (Some (le_at 4 tape at)) None) None)
  unfolding IsCount
  either_count true true = refl
  either_count true false = tt
  either_count false b = tt

  count_is : (least most size n : ℕ) → section_at tape at least most size ≡ Some n → n ≡ le_at 4 tape at
  unfolding section_at read_at count_then IsCount
  count_is least most size n e =
      subst IsCount e (either_count (inside 4 tape at) (leb least (le_at 4 tape at) && leb (le_at 4 tape at) most && leb (at + 4 + size * le_at 4 tape at) (length tape)))

-- ---- bounds, over any count of taps
below : (a b c m : ℕ) → a + b + c ≤ m → a + b ≤ m
below a b c m h = omega arith

settings_below : (taps m : ℕ) → 132 + 4 * taps + 4 ≤ m → 128 ≤ m
settings_below taps m h = omega arith

taps_below : (taps m : ℕ) → 132 + 4 * taps + 4 ≤ m → 132 ≤ m
taps_below taps m h = omega arith

start_below : (taps m : ℕ) → 132 + 4 * taps + 4 ≤ m → 4 ≤ m
start_below taps m h = omega arith

values_below : (taps n m : ℕ) → n ≤ taps → 132 + 4 * taps + 4 ≤ m → 132 + 4 * n ≤ m
values_below taps n m g h = omega arith

one_below : (taps n m : ℕ) → n ≤ 1 → 132 + 4 * taps + 4 ≤ m → 4 + 124 * n ≤ m
one_below taps n m g h = omega arith

zero_below : (a n m : ℕ) → a ≤ m → a + 0 * n ≤ m
zero_below a n m h = omega arith

longer : (at n : ℕ) → at + 4 ≤ at + 8 + 65 * n
longer at n = omega arith

behind : (at n : ℕ) → at + 4 + 65 * n + 4 ≤ at + 8 + 65 * n
behind at n = omega arith

self : (a : ℕ) → a ≤ a
self a = omega arith

within : (a n m : ℕ) → n < a → a ≤ m → n ≤ m
within a n m h g = omega arith

-- ---- the first m bytes, with all that stands before the noise, at the samples per pulse of a setting
module _ (sps : ℕ) (tape : List ℕ) (m : ℕ) (low : draws_offset sps + 4 ≤ m) (high : le_at 4 tape (draws_offset sps) ≤ 400 → noise_offset sps (le_at 4 tape (draws_offset sps)) + 4 ≤ m) where
  module _ (s : State) (n : ℕ) (h : noise_offset sps n + 4 ≤ m) where
    noise_same : noise_then sps (take m tape) s n ≡ noise_then sps tape s n
    unfolding noise_then
    noise_same = read_first tape m (run_of s n) (Err Tape) (noise_offset sps n) h

    fault_same : (f : (Option (ℕ × ℕ))) → fault_then sps (take m tape) s n f ≡ fault_then sps tape s n f
    unfolding fault_then
    fault_same None = noise_same
    fault_same (Some (k, field)) = refl

  draws_same : (s : State) (q : (Option ℕ)) → q ≡ section_at tape (draws_offset sps) 0 400 65 → draws_then sps (take m tape) s q ≡ draws_then sps tape s q
  unfolding draws_then
  draws_same s (Some n) e =
      let c : n ≡ le_at 4 tape (draws_offset sps) = count_is tape (draws_offset sps) 0 400 65 n (sym e) in
      let few : n ≤ 400 = (counted tape (draws_offset sps) 0 400 65 n e refl).1 in
      let h : noise_offset sps n + 4 ≤ m = subst (λ (k : ℕ). k ≤ 400 → noise_offset sps k + 4 ≤ m) (sym c) high few in
      ap (λ (l : List ℕ). fault_then sps (take m tape) s n (first_fault s.rates s.distributions l)) (part_take (draws_offset sps + 4) (65 * n) m tape (below _ _ 4 m h))
      ∙ fault_same s n h (first_fault s.rates s.distributions (take (65 * n) (drop (draws_offset sps + 4) tape)))
  draws_same s None e = refl

  opened_same : (o : (Result State Refusal)) → opened_then sps (take m tape) o ≡ opened_then sps tape o
  unfolding opened_then
  opened_same (Ok s) =
      ap (draws_then sps (take m tape) s) (section_first tape m (draws_offset sps) 0 400 65 low (λ g. below _ _ 4 m (high g)))
      ∙ draws_same s (section_at tape (draws_offset sps) 0 400 65) refl
  opened_same (Err refusal) = refl

  settings_same : settings_bytes (take m tape) ≡ settings_bytes tape
  unfolding settings_bytes
  settings_same = part_take 4 settings_length m tape (settings_below (taps_count sps) m low)

  pub taps_same : taps sps (take m tape) ≡ taps sps tape
  unfolding taps
  taps_same = floats_first tape m (taps_count sps) (taps_offset + 4) (below _ _ 4 m low)

  checked_same : (x : (Result (ℕ × Distributions) Refusal)) → checked_then sps (take m tape) x ≡ checked_then sps tape x
  unfolding checked_then
  checked_same (Ok (samples, all)) =
      ap taps_then (section_first tape m taps_offset (taps_count sps) (taps_count sps) 4 (taps_below (taps_count sps) m low) (λ g. values_below (taps_count sps) (le_at 4 tape taps_offset) m g low))
  checked_same (Err refusal) = refl

  early_same : early_of sps (take m tape) ≡ early_of sps tape
  unfolding early_of
  early_same = ap (λ (l : List ℕ). checked_then sps (take m tape) (accepted_of sps (settings_of l))) settings_same ∙ checked_same (accepted_of sps (settings_of (settings_bytes tape)))

  said_same : (q : Option ℕ) → setting_then (take m tape) q ≡ setting_then tape q
  unfolding setting_then
  said_same (Some n) = ap setting_at settings_same
  said_same None = refl

  setting_same : setting_then (take m tape) (section_at (take m tape) 0 1 1 settings_length) ≡ setting_then tape (section_at tape 0 1 1 settings_length)
  setting_same =
      ap (setting_then (take m tape)) (section_first tape m 0 1 1 settings_length (start_below (taps_count sps) m low) (λ g. one_below (taps_count sps) (le_at 4 tape 0) m g low))
      ∙ said_same (section_at tape 0 1 1 settings_length)

  module _ (lent : OpenBuffers) where
    from_same : opened_from sps (take m tape) lent ≡ opened_from sps tape lent
    unfolding opened_from taps_s taps_ac
    from_same = λ i. opened_of (take (mode_s_taps sps) (taps_same i)) (drop (mode_s_taps sps) (taps_same i)) (settings_same i) lent

    then_same : (e : (Result (Unit {0}) Refusal)) → early_then (take m tape) lent sps e ≡ early_then tape lent sps e
    unfolding early_then
    then_same (Ok u) = ap (opened_then sps (take m tape)) from_same ∙ opened_same (opened_from sps tape lent)
    then_same (Err q) = refl

-- ---- so at the setting by which the tape is read
module _ (tape : List ℕ) (m : ℕ) (low : draws_offset (tape_sps tape) + 4 ≤ m)
    (high : le_at 4 tape (draws_offset (tape_sps tape)) ≤ 400 → noise_offset (tape_sps tape) (le_at 4 tape (draws_offset (tape_sps tape))) + 4 ≤ m) (lent : OpenBuffers) where
  rate_same : at_rate (take m tape) lent (tape_setting tape) ≡ at_rate tape lent (tape_setting tape)
  unfolding at_rate
  rate_same =
      let own = tape_sps tape in
      ap (early_then (take m tape) lent own) (early_same own tape m low high) ∙ then_same own tape m low high lent (early_of own tape)

  setting_same_at : (x : Result SamplesPerPulse Refusal) → x ≡ setting_then tape (section_at tape 0 1 1 settings_length) → at_setting (at_rate (take m tape) lent) x ≡ at_setting (at_rate tape lent) x
  unfolding at_setting
  setting_same_at (Ok z) e = subst (λ (y : SamplesPerPulse). at_rate (take m tape) lent y ≡ at_rate tape lent y) (sym (setting_read tape (section_at tape 0 1 1 settings_length) z (sym e))) rate_same
  setting_same_at (Err q) e = refl

  beginning_same : beginning_of (take m tape) lent ≡ beginning_of tape lent
  unfolding beginning_of
  beginning_same =
      ap (at_setting (at_rate (take m tape) lent)) (setting_same (tape_sps tape) tape m low high)
      ∙ setting_same_at (setting_then tape (section_at tape 0 1 1 settings_length)) refl

  left_same : (b : (Result Beginning Refusal)) → (head_of tape lent).head ≡ b → left_then (take m tape) lent b ≡ left_then tape lent b
  unfolding left_then taps_s taps_ac
  left_same (Ok b) e =
      let same : taps (per_pulse b.state.setting) (take m tape) ≡ taps (per_pulse b.state.setting) tape =
      subst (λ (y : SamplesPerPulse). taps (per_pulse y) (take m tape) ≡ taps (per_pulse y) tape) (sym (setting_begun tape lent b.state b.draws b.noise e)) (taps_same (tape_sps tape) tape m low high) in
      λ i. left_by (take (mode_s_taps (per_pulse b.state.setting)) (same i)) (drop (mode_s_taps (per_pulse b.state.setting)) (same i)) (Ok b.state) lent
  left_same (Err q) e = refl

  head_same : head_of (take m tape) lent ≡ head_of tape lent
  unfolding head_of
  head_same =
      (λ i. record { head = beginning_same i; left = left_then (take m tape) lent (beginning_same i) })
      ∙ (λ i. record { head = beginning_of tape lent; left = left_same (beginning_of tape lent) refl i })

-- ---- the length that the first bytes say
length_low : (sps : ℕ) (q : (Option ℕ)) → draws_offset sps + 4 ≤ length_then sps q
unfolding length_then
length_low sps (Some n) = longer (draws_offset sps) n
length_low sps None = self (draws_offset sps + 4)

length_of_lem : (sps : ℕ) (tape : List ℕ) → draws_offset sps + 4 ≤ length tape → le_at 4 tape (draws_offset sps) ≤ 400 → noise_offset sps (le_at 4 tape (draws_offset sps)) + 4 ≤ head_length_at sps tape
unfolding head_length_at length_then
length_of_lem sps tape h g =
    let n = le_at 4 tape (draws_offset sps) in
    let room = length tape - (draws_offset sps + 4) in
    let there : Some n ≡ section_at tape (draws_offset sps) 0 400 0 =
    section_of tape (draws_offset sps) 0 400 0 n {b = true} h (sym (number_there 4 tape (draws_offset sps) h)) (sym (between n 0 400 0 room (omega arith) g ∙ le-leb (0 * n) room (omega arith))) refl in
    subst (λ (q : Option ℕ). noise_offset sps n + 4 ≤ length_then sps q) there (behind (draws_offset sps) n)

-- what a tape begins with is what its bytes before the noise begin with
module _ (tape : List ℕ) (lent : OpenBuffers) where
  pub head_of_prefix : head_of (take (head_length tape) tape) lent ≡ head_of tape lent
  unfolding head_length head_length_at
  head_of_prefix = go (leb (draws_offset (tape_sps tape) + 4) (length tape)) refl
    where
      low : draws_offset (tape_sps tape) + 4 ≤ head_length tape
      low = length_low (tape_sps tape) (section_at tape (draws_offset (tape_sps tape)) 0 400 0)

      go : (b : Bool) → leb (draws_offset (tape_sps tape) + 4) (length tape) ≡ b → head_of (take (head_length tape) tape) lent ≡ head_of tape lent
      go true e = head_same tape (head_length tape) low (length_of_lem (tape_sps tape) tape (leb-true (draws_offset (tape_sps tape) + 4) (length tape) e)) lent
      go false e = ap (λ (l : List ℕ). head_of l lent) (take_all (head_length tape) tape (within _ _ _ (leb-false (draws_offset (tape_sps tape) + 4) (length tape) e) low))

-- and its bytes up to the draws' count say how many those are
pub length_of_prefix : (tape : List ℕ) (k : ℕ) → draws_offset (tape_sps tape) + 4 ≤ k → head_length (take k tape) ≡ head_length tape
unfolding head_length head_length_at
length_of_prefix tape k h =
    let own = tape_sps tape in
    ap (λ (z : SamplesPerPulse). head_length_at (per_pulse z) (take k tape)) (setting_first k tape (settings_below (taps_count own) k h))
    ∙ ap (length_then own) (section_first tape k (draws_offset own) 0 400 0 h (λ g. zero_below _ _ k h))
