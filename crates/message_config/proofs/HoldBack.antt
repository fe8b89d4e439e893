-- Hold-back: of two draws in range, the one at a later or equal time starts at most `hold_back` samples earlier, if it is a reply (`held_back`): 32 at 4 samples per pulse, 64 at 8. Mode S and Mode A/C in any combination.
-- The earlier one starts no later than its time rounded up. The later one's delay, divided by 1 + e, is at least half a sample below that (`clocked-delay`), and times less whole or half samples are values of the format, so rounding does not go below them.
use Rattle.std.proofs.Common.{◌≡◌, ℕ, suc, ◌+◌, ◌-◌, ◌*◌, ◌^◌, ◌<◌, ◌≤◌, min, Bool, true, false, not, T, pos, negsuc, sym, refl, ap, ◌∙◌, subst, inl, inr, true≢false, zero-le, le_trans, le_of_eq, lt_of_lt_of_le, le_of_suc-le-suc, lt_of_le_of_lt, le_of_lt, mul-le-mul_right, mul_assoc, suc-mul, add-mul, le_antisymm, mul-le-mul_left, one-mul, arith, pow_pos, pow_mono, pow-add}
use native.Mathlib.Nat.{add-le-add_iff_right}
use lib.Ieee.{Float, nan, inf, fin, binary64, add, sub, div, lt, le, fits}
use lib.Ieee.Digits.{back}
use lib.Ieee.Scale.{finite}
use Rattle.constants.specs.declared.SamplesPerPulse.{SamplesPerPulse}
use Rattle.constants.specs.declared.SamplesPerPulse.TheVariants.{Four, Eight}
use Rattle.constants.specs.Setting.{per_pulse}
use Rattle.constants.specs.Rate.{hold_back}
use Rattle.constants.proofs.Settings.{rate_three, rate_few}
use Rattle.float_rounding.proofs.Units.{G, G-ge, Units, lt_units}
use Rattle.float_rounding.proofs.More.{Rep}
use Rattle.float_rounding.proofs.Val.{Val}
use Rattle.floats.specs.Ceil.{ceil_signed, upward}
use Rattle.floats.specs.Range.{within}
use Rattle.float_rounding.proofs.Size.{units_within, le_or_lt}
use Rattle.math.proofs.InRange.{tests_of_within}
use Rattle.distributions.specs.Accepted.{tenth}
use Rattle.message.specs.declared.ReplyKind.{ReplyKind}
use Rattle.message_config.specs.declared.Delays.{Delays}
use Rattle.message_config.specs.declared.MessageConfig.{MessageConfig}
use Rattle.message_config.specs.Timing.{one, delay_of, unrounded_start, start_of}
use Rattle.message_config.specs.Config.{config_start}
use Rattle.message_config.proofs.InRange.{TimeInRange, DelayInRange, DelaysInRange, ErrorInRange, delay_of_lem, within_tenth}
use Rattle.message_config.proofs.Starts.{Counted, counted, finite_reply, clocked_delay, sub_mul, halves, upward_le, upward_mono, upward_ge, upward_gt, upward_lt, start_units, reply_start, start_negative, held_some, held_few, without_half, at_most_time, later, sooner}

-- the samples of a time of n units, rounded up
abbrev N-of : ℕ → ℕ
N-of n = upward n (2 ^ 1074)

-- ---- numbers: h is half a sample, and N samples are N * (2 * h)
whole_lo : (h H N n k : ℕ) → n ≡ N * (2 * h) → k + h ≤ H * (2 * h) → (N - H) * (2 * h) ≤ n - k
whole_lo h H N n k e K = le_trans (le_of_eq (sub_mul N H (2 * h))) (step h (N * (2 * h)) (H * (2 * h)) n k e K)
  where
    step : (h X Y n k : ℕ) → n ≡ X → k + h ≤ Y → X - Y ≤ n - k
    step h X Y n k e K = omega arith

odd_halves : (N H h : ℕ) → (2 * N - (2 * H + 1)) * h ≡ N * (2 * h) - (H * (2 * h) + h)
odd_halves N H h =
    sub_mul (2 * N) (2 * H + 1) h ∙ ap (λ (x : ℕ). x - (2 * H + 1) * h) (halves N h)
    ∙ ap (λ (x : ℕ). N * (2 * h) - x) (add-mul (2 * H) 1 h ∙ ap (λ (x : ℕ). x + 1 * h) (halves H h) ∙ ap (λ (x : ℕ). H * (2 * h) + x) (one-mul h))

part_lo : (h H N n k : ℕ) → N * (2 * h) < n + 2 * h → k + h ≤ H * (2 * h) → (2 * N - (2 * H + 1)) * h ≤ n - k
part_lo h H N n k l K = le_trans (le_of_eq (odd_halves N H h)) (step h (N * (2 * h)) (H * (2 * h)) n k l K)
  where
    step : (h X Y n k : ℕ) → X < n + 2 * h → k + h ≤ Y → X - (Y + h) ≤ n - k
    step h X Y n k l K = omega arith

one_less : (h H N : ℕ) → 0 < h → H + 1 ≤ N → (N - (H + 1)) * (2 * h) < (2 * N - (2 * H + 1)) * h
one_less h H N P M =
    lt_of_le_of_lt (le_of_eq (sub_mul N (H + 1) (2 * h) ∙ ap (λ (x : ℕ). N * (2 * h) - x) (next H h)))
    (lt_of_lt_of_le (step h (N * (2 * h)) (H * (2 * h)) P (le_trans (le_of_eq (sym (next H h))) (mul-le-mul_right (2 * h) M))) (le_of_eq (sym (odd_halves N H h))))
  where
    next : (H h : ℕ) → (H + 1) * (2 * h) ≡ H * (2 * h) + 2 * h
    next H h = add-mul H 1 (2 * h) ∙ ap (λ (x : ℕ). H * (2 * h) + x) (one-mul (2 * h))

    step : (h X Y : ℕ) → 0 < h → Y + 2 * h ≤ X → X - (Y + 2 * h) < X - (Y + h)
    step h X Y P M = omega arith

-- ---- H samples are held back, and a delay is at least half a sample below that
module _ (H : ℕ) (some : 1 ≤ H) (few : H ≤ 2 ^ 40) where
  -- the rounded difference is more than H + 1 samples below no time below 2 ^ 53
  reached : (n k : ℕ) → Rep n → N-of n ≤ 2 ^ 53 → k + 2 ^ 1073 ≤ H * 2 ^ 1074 → H + 1 ≤ N-of n → N-of n ≤ N-of (G (n - k) (2 ^ 1074)) + H
  reached n k r L K M = elim (le_or_lt 1074 r.1) [
    | inl j ↦
        let z = r.0 * 2 ^ (r.1 - 1074) in
        let e : n ≡ z * 2 ^ 1074 = r.3 ∙ ap (λ (x : ℕ). r.0 * 2 ^ x) (sym (back r.1 1074 j)) ∙ ap (λ (x : ℕ). r.0 * x) (pow-add 2 (r.1 - 1074) 1074) ∙ sym (mul_assoc r.0 (2 ^ (r.1 - 1074)) (2 ^ 1074)) in
        let N = N-of n in
        let same : N ≡ z = le_antisymm (upward_le n (2 ^ 1074) z (pow_pos 1074) (le_of_eq e)) (upward_ge n (2 ^ 1074) z (pow_pos 1074) (le_of_eq (sym e))) in
        let whole : n ≡ N * 2 ^ 1074 = e ∙ ap (λ (x : ℕ). x * 2 ^ 1074) (sym same) in
        at N (N-of (G (n - k) (2 ^ 1074))) H (upward_ge (G (n - k) (2 ^ 1074)) (2 ^ 1074) (N - H) (pow_pos 1074)
        (G-ge (n - k) (2 ^ 1074) (N - H) 1074 (pow_pos 1074) (less N H some L) (mul-le-mul_right (2 ^ 1074) (whole_lo (2 ^ 1073) H N n k whole K))))
    | inr j ↦
        let N = N-of n in
        let small : N ≤ 2 ^ 52 = upward_le n (2 ^ 1074) (2 ^ 52) (pow_pos 1074) (le_trans (le_of_eq r.3) (le_trans (mul-le-mul_right (2 ^ r.1) (le_of_lt r.2)) (mul-le-mul_left (2 ^ 53) (pow_mono (le_of_suc-le-suc j))))) in
        let lo : (2 * N - (2 * H + 1)) * 2 ^ 1073 ≤ G (n - k) (2 ^ 1074) = G-ge (n - k) (2 ^ 1074) (2 * N - (2 * H + 1)) 1073 (pow_pos 1074) (twice N H small) (mul-le-mul_right (2 ^ 1074) (part_lo (2 ^ 1073) H N n k (upward_lt n (2 ^ 1074) (pow_pos 1074)) K)) in
        beyond N (N-of (G (n - k) (2 ^ 1074))) H (upward_gt (G (n - k) (2 ^ 1074)) (2 ^ 1074) (N - (H + 1)) (pow_pos 1074) (lt_of_lt_of_le (one_less (2 ^ 1073) H N (pow_pos 1073) M) lo))
  ]
    where
      less : (N H : ℕ) → 1 ≤ H → N ≤ 2 ^ 53 → N - H < 2 ^ 53
      less N H p h = omega arith

      twice : (N H : ℕ) → N ≤ 2 ^ 52 → 2 * N - (2 * H + 1) < 2 ^ 53
      twice N H h = omega arith

      at : (N m H : ℕ) → N - H ≤ m → N ≤ m + H
      at N m H h = omega arith

      beyond : (N m H : ℕ) → N - (H + 1) < m → N ≤ m + H
      beyond N m H h = omega arith

  -- a start below 2 ^ 52 is that of a time below 2 ^ 53
  pub below_53 : (n k : ℕ) → k + 2 ^ 1073 ≤ H * 2 ^ 1074 → N-of (G (n - k) (2 ^ 1074)) < 2 ^ 52 → n < 2 ^ 53 * 2 ^ 1074
  below_53 n k K h = elim (le_or_lt (2 ^ 53 * 2 ^ 1074) n) [
    | inr l ↦ l
    | inl l ↦
        absurd (no (N-of (G (n - k) (2 ^ 1074))) H few h (upward_ge (G (n - k) (2 ^ 1074)) (2 ^ 1074) (2 ^ 53 - H) (pow_pos 1074)
        (G-ge (n - k) (2 ^ 1074) (2 ^ 53 - H) 1074 (pow_pos 1074) (less H some) (mul-le-mul_right (2 ^ 1074) (le_trans (le_of_eq (sub_mul (2 ^ 53) H (2 ^ 1074))) (far (2 ^ 53 * 2 ^ 1074) (H * 2 ^ 1074) n k (2 ^ 1073) l K))))))
  ]
    where
      less : (H : ℕ) → 1 ≤ H → 2 ^ 53 - H < 2 ^ 53
      less H h = omega arith

      far : (X Y n k h : ℕ) → X ≤ n → k + h ≤ Y → X - Y ≤ n - k
      far X Y n k h l K = omega arith

      no : (m H : ℕ) → H ≤ 2 ^ 40 → m < 2 ^ 52 → 2 ^ 53 - H ≤ m → ⊥
      no m H p h l = omega arith

  module _ (t d : Float) (C : Counted t) (k : ℕ) (D : Units d k) (K : k + 2 ^ 1073 ≤ H * 2 ^ 1074) where
    abbrev n : ℕ
    n = C.count

    -- a start is at most its time rounded up
    earlier_start : (s : ℕ) → ceil_signed 63 (sub binary64 t d) ≡ pos s → s ≤ N-of C.count
    earlier_start s e = elim (le_or_lt k n) [
      | inl h ↦
          cap s (N-of (G (n - k) (2 ^ 1074))) (N-of n) (start_units (sub binary64 t d) (G (n - k) (2 ^ 1074)) s (later t d C k D h) e) (upward_mono (G (n - k) (2 ^ 1074)) (2 ^ 1074) n (pow_pos 1074) (at_most_time t d C k D))
      | inr l ↦ le_trans (le_of_eq (start_negative (sub binary64 t d) (G (k - n) (2 ^ 1074)) s (sooner t d C k D H few (without_half k (2 ^ 1073) (H * 2 ^ 1074) K) l) e).0) zero-le
    ]
      where
        cap : (s a N : ℕ) → s ≡ min a (2 ^ 63 - 1) → a ≤ N → s ≤ N
        cap s a N e h = omega arith

    -- and, if it is a reply's, at least that less H
    later_start : (s : ℕ) → ceil_signed 63 (sub binary64 t d) ≡ pos s → s < 2 ^ 52 → N-of C.count ≤ s + H
    later_start s e S = elim (le_or_lt k n) [
      | inl h ↦
          let same : N-of (G (n - k) (2 ^ 1074)) ≡ s = reply_start (sub binary64 t d) (G (n - k) (2 ^ 1074)) s (later t d C k D h) e S in
          let L : N-of n ≤ 2 ^ 53 = upward_le n (2 ^ 1074) (2 ^ 53) (pow_pos 1074) (le_of_lt (below_53 n k K (lt_of_le_of_lt (le_of_eq same) S))) in
          elim (le_or_lt (H + 1) (N-of n)) [ inl M ↦ subst (λ (x : ℕ). N-of n ≤ x + H) same (reached n k C.exact L K M) | inr l ↦ near (N-of n) s H l ]
      | inr l ↦ le_trans (upward_le n (2 ^ 1074) H (pow_pos 1074) (less n k (2 ^ 1073) (H * 2 ^ 1074) K l)) (more H s)
    ]
      where
        near : (N s H : ℕ) → N < H + 1 → N ≤ s + H
        near N s H h = omega arith

        less : (n k h Y : ℕ) → k + h ≤ Y → n < k → n ≤ Y
        less n k h Y p l = omega arith

        more : (H s : ℕ) → H ≤ s + H
        more H s = omega arith

-- ---- times
-- a time that is not after a finite one is finite, and no more units
pub not_after_finite : (t t' : Float) → TimeInRange t → T (finite t') → lt t' t ≡ false → T (finite t)
unfolding le lt
not_after_finite nan t' r f h = absurd r.low
not_after_finite (inf true) t' r f h = absurd r.low
not_after_finite (inf false) nan r f h = absurd f
not_after_finite (inf false) (inf u) r f h = absurd f
not_after_finite (inf false) (fin u m e) r f h = absurd (true≢false h)
not_after_finite (fin u m e) t' r f h = tt

pub no_more_units : (t t' : Float) (n n' : ℕ) → Units t n → Units t' n' → lt t' t ≡ false → n ≤ n'
no_more_units nan t' n n' u w h = absurd u
no_more_units (inf s) t' n n' u w h = absurd u
no_more_units (fin true m e) t' n n' u w h = le_trans (le_of_eq u.1) zero-le
no_more_units (fin false m e) t' n n' u w h = (lt_units t' m e n' n w u).1 (subst (λ (b : Bool). T (not b)) (sym h) tt)

-- ---- the theorem
module _ (sps : ℕ) (S : 3 ≤ sps) (M : sps ≤ 2 ^ 30) (delays : Delays) (R : DelaysInRange sps delays) where
  pub held : (t t' e e' : Float) (kind kind' : ReplyKind) (s s' : ℕ) → TimeInRange t → TimeInRange t' → ErrorInRange kind e → ErrorInRange kind' e' → lt t' t ≡ false
      → start_of t (delay_of delays kind) e ≡ pos s → start_of t' (delay_of delays kind') e' ≡ pos s' → s' < 2 ^ 52 → s ≤ s' + hold_back sps
  unfolding start_of unrounded_start
  held t t' e e' kind kind' s s' A A' E E' o p p' small =
      let q = clocked_delay sps S M (delay_of delays kind) e (delay_of_lem sps delays R kind) (within_tenth e E.fit E.small) in
      let q' = clocked_delay sps S M (delay_of delays kind') e' (delay_of_lem sps delays R kind') (within_tenth e' E'.fit E'.small) in
      let d = div binary64 (delay_of delays kind) (add binary64 one e) in
      let d' = div binary64 (delay_of delays kind') (add binary64 one e') in
      let f' = finite_reply t' d' q'.0 s' A' q'.1 p' small in
      let C' = counted t' A' f' in
      let C = counted t A (not_after_finite t t' A f' o) in
      let n_le : C.count ≤ C'.count = no_more_units t t' C.count C'.count C.is C'.is o in
      le_trans (earlier_start (8 * sps) (held_some sps S) (held_few sps M) t d C q.0 q.1 q.2 s p)
      (le_trans (upward_mono C.count (2 ^ 1074) C'.count (pow_pos 1074) n_le)
      (later_start (8 * sps) (held_some sps S) (held_few sps M) t' d' C' q'.0 q'.1 q'.2 s' p' small))

-- ---- at both settings
-- a delay divided by 1 + e is at most 31.5 samples at 4 samples per pulse, and 63.5 at 8
abbrev pub longest_delay : SamplesPerPulse → Float
longest_delay Four = fin false 63 (negsuc 0)
longest_delay Eight = fin false 127 (negsuc 0)

pub delay_at_most : (rate : SamplesPerPulse) (d e : Float) → DelayInRange (per_pulse rate) d → T (fits binary64 e) → T (within e tenth) → T (le (div binary64 d (add binary64 one e)) (longest_delay rate))
delay_at_most rate d e r F t = let q = clocked_delay (per_pulse rate) (rate_three rate) (rate_few rate) d e r (within_tenth e F t) in go rate q.0 q.1 q.2
  where
    at : (h m k : ℕ) (l : Float) → Val l false (m * h) → Units (div binary64 d (add binary64 one e)) k → k ≤ m * h → T (le (div binary64 d (add binary64 one e)) l)
    at h m k l v u p = (tests_of_within (div binary64 d (add binary64 one e)) l (m * h) v (units_within (div binary64 d (add binary64 one e)) k (m * h) u p)).1

    less : (k h n : ℕ) → k + h ≤ suc n * h → k ≤ n * h
    less k h n p = (add-le-add_iff_right h).0 (le_trans p (le_of_eq (suc-mul n h)))

    go : (s : SamplesPerPulse) (k : ℕ) → Units (div binary64 d (add binary64 one e)) k → k + 2 ^ 1073 ≤ hold_back (per_pulse s) * 2 ^ 1074 → T (le (div binary64 d (add binary64 one e)) (longest_delay s))
    go Four k u p = at (2 ^ 1073) 63 k (longest_delay Four) (refl, refl) u (less k (2 ^ 1073) 63 p)
    go Eight k u p = at (2 ^ 1073) 127 k (longest_delay Eight) (refl, refl) u (less k (2 ^ 1073) 127 p)

-- of two messages with the filters' delays
pub held_back : (rate : SamplesPerPulse) (delays : Delays) → DelaysInRange (per_pulse rate) delays → (c c' : MessageConfig) (s s' : ℕ) → TimeInRange c.time → TimeInRange c'.time → ErrorInRange c.reply.kind c.error → ErrorInRange c'.reply.kind c'.error
    → lt c'.time c.time ≡ false → config_start delays c ≡ pos s → config_start delays c' ≡ pos s' → s' < 2 ^ 52 → s ≤ s' + hold_back (per_pulse rate)
unfolding config_start
held_back rate delays R c c' s s' A A' E E' o p p' small = held (per_pulse rate) (rate_three rate) (rate_few rate) delays R c.time c'.time c.error c'.error c.reply.kind c'.reply.kind s s' A A' E E' o p p' small
