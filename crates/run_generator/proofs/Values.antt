-- A value of the filterbank is at most 336 in size, where the prototype's values are at most 16: a tap is at most 48, and seven are summed (`values-sized`). The bounds are coarse; what counts is that they hold.
use mathlib.Core.Path.{◌≡◌, refl, sym, ap, subst}
use Prim.Native.Nat.{ℕ, zero, suc, ◌+◌, ◌-◌, ◌*◌, ◌^◌, ◌≤◌, ◌<◌, zero-le}
use native.Mathlib.Nat.{le_trans, le_of_eq, mul-le-mul_left}
use native.Mathlib.Omega.{arith}
use mathlib.Core.Bool.{Bool, true, false, not, ◌&&◌, cond}
use mathlib.Core.List.{List, [], ◌∷◌}
use lib.IntN.{ℤ, pos}
use lib.Dec.{T, ltb, eqb, ltb→lt, lit≤}
use lib.ListN.{length, get_or, drop, replicate}
use lib.Ieee.{Float, nan, inf, fin, up, down, binary32, binary64, of_bits, neg, add, sub, mul, le, lt, fits}
use lib.Ieee.Fits.{and_l, and_r, add-fits, sub-fits, div-fits}
use Rattle.constants.specs.declared.SamplesPerPulse.{SamplesPerPulse}
use Rattle.constants.specs.Setting.{per_pulse}
use Rattle.constants.specs.Rate.{branches, prototype_length}
use Rattle.float_rounding.proofs.Order.{le_fin, fin_le}
use Rattle.float_rounding.proofs.AtMost.{AtMost, rounds_whole, at_most_more, at_most_between, add_at_most, sub_at_most, mul_at_most}
use Rattle.run_theory.specs.Each.{Each}
use Rattle.pulse_shape.specs.Accepted.{sixteen, within16, all_within16}
use Rattle.pulse_shape.specs.Values.{values_from}
use Rattle.filterbank.specs.declared.Clock.{Clock}
use Rattle.filterbank.specs.Taps.{branch_of, tau_of, branch, next_branch, one, between, filter_taps}
use Rattle.filterbank.specs.PulseSum.{sum_where, pulse_back, pulse_sum}
use Rattle.filterbank.specs.Clocked.{one as clock_one, step_of, start_clock, advance, settle}
use Rattle.filterbank.specs.Apply.{clock_values, limit_of, fuel_of, value_at, apply_filterbank}
use Rattle.filterbank.proofs.Grid.{Grid, Stepping, Kept, kept_step}
use Rattle.filterbank.proofs.ClockSteps.{grid, step_in, starts}
use Rattle.filterbank.proofs.EndsByItself.{InRange}
use Rattle.filterbank.proofs.PhaseWithin.{kept_phase}
use Rattle.filterbank.proofs.BranchWithin.{branch_in_bank}
use Rattle.filterbank.proofs.ValueAt.{length_taps}

-- ---- the prototype
within_sixteen : (x : Float) → within16 x ≡ true → AtMost 16 x
unfolding within16 of_bits neg
within_sixteen x e =
    let t : T (le (neg sixteen) x && le x sixteen) = subst T (sym e) tt in
    at_most_between x 1 (pos 4) 16 (lit≤ tt) (and_l (le (neg sixteen) x) (le x sixteen) t) (and_r (le (neg sixteen) x) (le x sixteen) t)

both : (a b : Bool) → a && b ≡ true → (a ≡ true) × (b ≡ true)
both true b e = (refl, e)
both false b e = absurd (subst (λ (x : Bool). T (not x)) e tt)

entry_sized : (p : List Float) (i : ℕ) → all_within16 p ≡ true → i < length p → AtMost 16 (get_or p i nan)
unfolding all_within16
entry_sized [] i w h = absurd (omega arith)
entry_sized (x ∷ p) zero w h = within_sixteen x (both (within16 x) (all_within16 p) w).0
entry_sized (x ∷ p) (suc i) w h = entry_sized p i (both (within16 x) (all_within16 p) w).1 (omega arith)

-- ---- the two branches
from_sized : (f : ℕ → Float) (n k l : ℕ) → ((i : ℕ) → i < k + n → AtMost l (f i)) → Each (AtMost l) (values_from f n k)
unfolding values_from
from_sized f zero k l h = tt
from_sized f (suc n) k l h = (h k (omega arith), from_sized f n (k + 1) l (λ i m. h i (omega arith)))

drop_sized : (l n : ℕ) (xs : List Float) → Each (AtMost l) xs → Each (AtMost l) (drop n xs)
drop_sized l zero xs h = h
drop_sized l (suc n) [] h = tt
drop_sized l (suc n) (x ∷ xs) h = drop_sized l n xs h.1

module _ (sps : ℕ) (p : List Float) (whole : length p ≡ prototype_length sps) (w : all_within16 p ≡ true) where
  branch_sized : (j : ℕ) → j < branches sps → Each (AtMost 16) (branch sps p j)
  unfolding branch
  branch_sized j h = from_sized (λ k. get_or p (j + branches sps * k) nan) 7 0 16 (λ i m. entry_sized p (j + branches sps * i) w (inside (branches sps) j i (length p) whole h m))
    where
      inside : (b j i n : ℕ) → n ≡ b * 7 → j < b → i < 0 + 7 → j + b * i < n
      inside b j i n e h m = let k : b * i ≤ b * 6 = mul-le-mul_left b (omega arith) in omega (arith, k)

  next_sized : (a : ℕ) → a < branches sps → Each (AtMost 16) (next_branch sps p a)
  unfolding next_branch
  next_sized a h = go (ltb a (branches sps - 1)) (ltb→lt a (branches sps - 1))
    where
      go : (b : Bool) → (T b → a < branches sps - 1) → Each (AtMost 16) (cond b (branch sps p (a + 1)) (drop 1 (branch sps p 0)))
      go true l = branch_sized (a + 1) (omega (arith, l tt))
      go false l = drop_sized 16 1 (branch sps p 0) (branch_sized 0 (omega arith))

-- ---- the taps between them
one_sized : AtMost 1 one
unfolding of_bits
one_sized = lit≤ tt

-- what a tap of the first branch is scaled to
before_sized : (tau x : Float) → AtMost 1 tau → AtMost 16 x → AtMost 32 (mul binary32 (sub binary32 one tau) x)
before_sized tau x t h = mul_at_most binary32 (sub binary32 one tau) x 2 16 32 (sub_at_most binary32 one tau 1 1 2 one_sized t (rounds_whole binary32 2 (lit≤ tt))) h (rounds_whole binary32 32 (lit≤ tt))

after_sized : (tau y : Float) → AtMost 1 tau → AtMost 16 y → AtMost 16 (mul binary32 tau y)
after_sized tau y t h = mul_at_most binary32 tau y 1 16 16 t h (rounds_whole binary32 16 (lit≤ tt))

between_sized : (tau : Float) (xs ys : List Float) → AtMost 1 tau → Each (AtMost 16) xs → Each (AtMost 16) ys → Each (AtMost 48) (between tau xs ys)
unfolding between
between_sized tau [] ys t p q = tt
between_sized tau (x ∷ xs) [] t p q = (at_most_more (mul binary32 (sub binary32 one tau) x) 32 48 (lit≤ tt) (before_sized tau x t p.0), between_sized tau xs [] t p.1 tt)
between_sized tau (x ∷ xs) (y ∷ ys) t p q =
    (add_at_most binary32 (mul binary32 (sub binary32 one tau) x) (mul binary32 tau y) 32 16 48 (before_sized tau x t p.0) (after_sized tau y t q.0) (rounds_whole binary32 48 (lit≤ tt)), between_sized tau xs ys t p.1 q.1)

zeros_sized : (l n : ℕ) → Each (AtMost l) (replicate n (of_bits binary32 0))
unfolding of_bits
zeros_sized l zero = tt
zeros_sized l (suc n) = (zero-le, zeros_sized l n)

-- from 0 to a limit
pub up_to_sized : (x : Float) (n : ℕ) (d : ℤ) (l : ℕ) → n * up d ≤ l * down d → T (le (fin false 0 (pos 0)) x) → T (le x (fin false n d)) → AtMost l x
up_to_sized nan n d l h p q = absurd (unfold le in q)
up_to_sized (inf true) n d l h p q = absurd (unfold le in p)
up_to_sized (inf false) n d l h p q = absurd (unfold le in q)
up_to_sized (fin false m e) n d l h p q = at_most_between (fin false m e) n d l h (negative n d m e) q
  where
    negative : (n : ℕ) (d : ℤ) (m : ℕ) (e : ℤ) → T (le (fin true n d) (fin false m e))
    negative n d m e = fin_le true n d false m e tt
up_to_sized (fin true m e) n d l h p q = le_trans (le_of_eq (none (m * up e) (le_fin false 0 (pos 0) true m e p).1)) zero-le
  where
    none : (a : ℕ) → a * 1 ≡ 0 → a ≡ 0
    none a h = omega arith

-- at both settings
taps_sized : (s : SamplesPerPulse) (p : List Float) → length p ≡ prototype_length (per_pulse s) → all_within16 p ≡ true → (phase : Float) → T (fits binary64 phase) → T (le (fin false 0 (pos 0)) phase) → T (lt phase (fin false 1 (pos 0))) → Each (AtMost 48) (filter_taps (per_pulse s) p phase)
unfolding filter_taps
taps_sized s p whole w phase F low high = go (eqb (length p) (prototype_length sps))
  where
    sps : ℕ
    sps = per_pulse s

    go : (b : Bool) → Each (AtMost 48) (cond b (between (tau_of sps phase) (branch sps p (branch_of sps phase)) (next_branch sps p (branch_of sps phase))) (replicate 7 (of_bits binary32 0)))
    go true =
        let a = branch_in_bank s phase F low high in
        between_sized (tau_of sps phase) (branch sps p (branch_of sps phase)) (next_branch sps p (branch_of sps phase)) (up_to_sized (tau_of sps phase) 1 (pos 0) 1 (lit≤ tt) a.2 a.3) (branch_sized sps p whole w (branch_of sps phase) a.0) (next_sized sps p whole w (branch_of sps phase) a.0)
    go false = zeros_sized 48 7

-- ---- the sum of the taps whose pulses are on
sum_sized : (on : ℕ → Bool) (taps : List Float) (k : ℕ) (sum : Float) (b : ℕ) → b + 48 * length taps ≤ 2 ^ 24 → Each (AtMost 48) taps → AtMost b sum → AtMost (b + 48 * length taps) (sum_where on taps k sum)
unfolding sum_where
sum_sized on [] k sum b h t s = at_most_more sum b (b + 48 * 0) (omega arith) s
sum_sized on (tap ∷ taps) k sum b h t s =
    subst (λ (l : ℕ). AtMost l (sum_where on taps (k + 1) (cond (on k) (add binary32 sum tap) sum))) (shift b (length taps))
    (sum_sized on taps (k + 1) (cond (on k) (add binary32 sum tap) sum) (b + 48) (le_trans (le_of_eq (shift b (length taps))) h) t.1 (go (on k)))
  where
    shift : (b n : ℕ) → b + 48 + 48 * n ≡ b + 48 * suc n
    shift b n = omega arith

    room : (b n : ℕ) → b + 48 * suc n ≤ 2 ^ 24 → b + 48 ≤ 2 ^ 24
    room b n h = omega arith

    more : (b : ℕ) → b ≤ b + 48
    more b = omega arith

    go : (x : Bool) → AtMost (b + 48) (cond x (add binary32 sum tap) sum)
    go true = add_at_most binary32 sum tap b 48 (b + 48) s t.0 (rounds_whole binary32 (b + 48) (room b (length taps) h))
    go false = at_most_more sum b (b + 48) (more b) s

zero_sized : AtMost 0 (of_bits binary32 0)
unfolding of_bits
zero_sized = zero-le

pulses_sized : (taps : List Float) (pulses : List Bool) (index : ℕ) → length taps ≡ 7 → Each (AtMost 48) taps → AtMost 336 (pulse_sum taps pulses index)
unfolding pulse_sum
pulses_sized taps pulses index e t = subst (λ (n : ℕ). AtMost (0 + 48 * n) (sum_where (pulse_back pulses index) taps 0 (of_bits binary32 0))) e (sum_sized (pulse_back pulses index) taps 0 (of_bits binary32 0) 0 (le_trans (le_of_eq (ap (λ (n : ℕ). 0 + 48 * n) e)) (lit≤ tt)) t zero_sized)

-- ---- at each clock
advance_fits : (step : Float) (clock : Clock) → T (fits binary64 (advance step clock).phase)
unfolding advance settle
advance_fits step clock = go (le clock_one (add binary64 clock.phase step))
  where
    go : (b : Bool) → T (fits binary64 (settle b (add binary64 clock.phase step) clock.index).phase)
    go true = sub-fits binary64 (add binary64 clock.phase step) clock_one
    go false = add-fits binary64 clock.phase step

module _ (g : Grid) (l : ℕ) (step : Float) (S : Stepping g step) (limit : ℕ) (value : Clock → Float)
    (sized : (n : ℕ) (c : Clock) → Kept g n c → T (fits binary64 c.phase) → AtMost l (value c)) where
  clocks_sized : (fuel n : ℕ) (c : Clock) → Kept g n c → T (fits binary64 c.phase) → Each (AtMost l) (clock_values fuel limit step value c)
  unfolding clock_values
  clocks_sized zero n c k F = tt
  clocks_sized (suc fuel) n c k F = go (ltb c.index limit) (clocks_sized fuel (suc n) (advance step c) (kept_step g n step c S k) (advance_fits step c))
    where
      go : (b : Bool) → Each (AtMost l) (clock_values fuel limit step value (advance step c)) → Each (AtMost l) (cond b (value c ∷ clock_values fuel limit step value (advance step c)) [])
      go true ih = (sized n c k F, ih)
      go false ih = tt

start_fits : (sps : ℕ) (phase : Float) → T (fits binary64 (start_clock sps phase).phase)
unfolding start_clock
start_fits sps phase = div-fits binary64 phase _

-- at both settings
pub values_sized : (s : SamplesPerPulse) (p : List Float) → length p ≡ prototype_length (per_pulse s) → all_within16 p ≡ true → (pulses : List Bool) (phase e : Float) → InRange phase e → Each (AtMost 336) (apply_filterbank (per_pulse s) p pulses phase e)
unfolding apply_filterbank value_at
values_sized s p whole w pulses phase e r =
    let sps = per_pulse s in
    let limit = limit_of (length pulses) in
    clocks_sized (grid s) 336 (step_of sps e) (step_in s e r.slowest r.fastest) limit (value_at sps p pulses)
    (λ n c k F. let h = kept_phase (grid s) n c k in pulses_sized (filter_taps sps p c.phase) pulses c.index (length_taps sps p c.phase) (taps_sized s p whole w c.phase F h.0 h.1))
    (fuel_of sps limit) 0 (start_clock sps phase) (starts s phase r.held r.low r.high) (start_fits sps phase)
