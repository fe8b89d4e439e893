-- What a rack remembers: the last 4,095 of the samples taken, as far as there are any. So a call's feeds are the new parts of the delayed lists.
use mathlib.Core.List.{List, ◌++◌}
use mathlib.Core.Path.{◌≡◌, refl, sym, ap, ◌∙◌}
use Prim.Native.Nat.{ℕ, zero, suc, ◌+◌, ◌-◌, ◌*◌, ◌/◌, ◌%◌, ◌≤◌, ◌<◌, min}
use native.Mathlib.Omega.{arith}
use lib.Ieee.{Float, nan}
use lib.ListN.{length, get_or, take, drop, length-append, length-drop, get_or-append}
use lib.Seq.{drop-drop, drop-append-le}
use Rattle.rack.specs.Feeds.{silent, scaled, delayed}
use Rattle.rack.specs.Opening.{delay_row, gain_row}
use Rattle.rack.proofs.Lists.{drop_silent, drop_scaled}
use Rattle.rack.specs.Memory.{feed_of, held_after}
use Rattle.rack.specs.Calls.{feed_at, feeds_up_to}
use Rattle.rack_theory.specs.PlainRack.{in_order}
use Rattle.rack_theory.proofs.Delayed.{drop_take}

-- ---- numbers: x numbers of samples, s of them seen and counted up to 4,095, n numbers more, a delay d
twice_behind : (s : ℕ) → s ≤ 4095 → 2 * (4095 - s) ≡ 8190 - 2 * s
twice_behind s h = omega arith

still_silent : (x s d : ℕ) → s ≡ min (x / 2) 4095 → x % 2 ≡ 0 → d ≤ 4095 → 2 * (4095 - s) - 2 * (4095 - d) ≡ 2 * d - x
still_silent x s d e v h = omega arith

begins : (x s d : ℕ) → s ≡ min (x / 2) 4095 → x % 2 ≡ 0 → d ≤ 4095 → x - 2 * s + (2 * (4095 - d) - 2 * (4095 - s)) ≡ x - 2 * d
begins x s d e v h = omega arith

seen_more : (x n s : ℕ) → s ≡ min (x / 2) 4095 → x % 2 ≡ 0 → n % 2 ≡ 0 → min (s + n / 2) 4095 ≡ min ((x + n) / 2) 4095
seen_more x n s e v w = omega arith

moved : (n s s' : ℕ) → s ≤ 4095 → s' ≡ min (s + n / 2) 4095 → n + 2 * (4095 - s') ≡ 2 * (4095 - s) + (n + 2 * s - 2 * s')
moved n s s' h e = omega arith

left_out : (x n s s' : ℕ) → 2 * s ≤ x → s ≤ 4095 → s' ≡ min (s + n / 2) 4095 → x - 2 * s + (n + 2 * s - 2 * s') ≡ x + n - 2 * s'
left_out x n s s' g h e = omega arith

-- ---- what a rack remembers of the samples taken
pub record Remembers (taken : List Float) (seen : ℕ) (memory : List Float) : Type 0 where
  pub counted : seen ≡ min (length taken / 2) 4095
  pub even : length taken % 2 ≡ 0
  pub size : length memory ≡ 8190
  pub last : drop (2 * (4095 - seen)) memory ≡ drop (length taken - 2 * seen) taken

module _ (taken : List Float) (seen : ℕ) (memory : List Float) (r : Remembers taken seen memory) where
  -- no more than the memory holds, and no more than there are
  few : seen ≤ 4095
  few = omega (arith, r.counted)

  enough : 2 * seen ≤ length taken
  enough = omega (arith, r.counted)

  -- the memory's samples and then the call's, as a last part of all samples
  followed : (samples : List Float) → drop (2 * (4095 - seen)) memory ++ samples ≡ drop (length taken - 2 * seen) (taken ++ samples)
  followed samples = ap (λ (l : List Float). l ++ samples) r.last ∙ sym (drop-append-le (length taken - 2 * seen) taken samples (omega arith))

  -- the feed of a call is the new part of the delayed list
  pub new_part : (gain : Float) (delay : ℕ) (samples : List Float) → delay ≤ 4095 → feed_of gain delay seen memory samples ≡ drop (length taken) (delayed gain delay (taken ++ samples))
  unfolding feed_of delayed
  new_part gain delay samples h =
      ap (λ (l : List Float). take (length samples) (drop (2 * (4095 - delay)) (silent (2 * (4095 - seen)) ++ scaled gain l))) (followed samples)
      ∙ ap (take (length samples)) (
      drop_silent (2 * (4095 - delay)) (2 * (4095 - seen)) (scaled gain (drop (length taken - 2 * seen) (taken ++ samples)))
      ∙ ap (λ (l : List Float). silent (2 * (4095 - seen) - 2 * (4095 - delay)) ++ l)
      (drop_scaled gain (2 * (4095 - delay) - 2 * (4095 - seen)) (drop (length taken - 2 * seen) (taken ++ samples))
      ∙ ap (scaled gain) (drop-drop (2 * (4095 - delay) - 2 * (4095 - seen)) (length taken - 2 * seen) (taken ++ samples)))
      ∙ (λ i. silent (still_silent (length taken) seen delay r.counted r.even h i) ++ scaled gain (drop (begins (length taken) seen delay r.counted r.even h i) (taken ++ samples)))
      ∙ sym (drop_silent (length taken) (2 * delay) (scaled gain (taken ++ samples)) ∙ ap (λ (l : List Float). silent (2 * delay - length taken) ++ l) (drop_scaled gain (length taken - 2 * delay) (taken ++ samples))))
      ∙ sym (drop_take (length taken) (length samples) (silent (2 * delay) ++ scaled gain (taken ++ samples)))
      ∙ ap (λ (n : ℕ). drop (length taken) (take n (silent (2 * delay) ++ scaled gain (taken ++ samples)))) (sym (length-append taken samples))

  -- and after a call the rack remembers its samples too
  pub remembers_more : (samples : List Float) → length samples % 2 ≡ 0 → Remembers (taken ++ samples) (min (seen + length samples / 2) 4095) (held_after memory samples)
  unfolding held_after
  remembers_more samples e = record {
    counted = seen_more (length taken) (length samples) seen r.counted r.even e ∙ ap (λ (n : ℕ). min (n / 2) 4095) (sym (length-append taken samples));
    even = omega (arith, length-append taken samples, r.even);
    size = omega (arith, length-drop (length samples) (memory ++ samples), length-append memory samples, r.size);
    last = last';
  }
    where
      s' : ℕ
      s' = min (seen + length samples / 2) 4095

      last' : drop (2 * (4095 - s')) (drop (length samples) (memory ++ samples)) ≡ drop (length (taken ++ samples) - 2 * s') (taken ++ samples)
      last' =
          drop-drop (2 * (4095 - s')) (length samples) (memory ++ samples)
          ∙ ap (λ (n : ℕ). drop n (memory ++ samples)) (moved (length samples) seen s' few refl)
          ∙ sym (drop-drop (length samples + 2 * seen - 2 * s') (2 * (4095 - seen)) (memory ++ samples))
          ∙ ap (drop (length samples + 2 * seen - 2 * s')) (drop-append-le (2 * (4095 - seen)) memory samples (omega (arith, r.size)) ∙ followed samples)
          ∙ drop-drop (length samples + 2 * seen - 2 * s') (length taken - 2 * seen) (taken ++ samples)
          ∙ ap (λ (n : ℕ). drop n (taken ++ samples)) (left_out (length taken) (length samples) seen s' enough few refl ∙ ap (λ (n : ℕ). n - 2 * s') (sym (length-append taken samples)))

-- ---- the rows of a state
pub delay_of_lem : (delays : List ℕ) (i : ℕ) → i < length delays → get_or (delay_row delays) i 0 ≡ get_or delays i 0
unfolding delay_row
delay_of_lem delays i h = get_or-append delays _ 0 i h

pub gain_of : (gains : List Float) (i : ℕ) → i < length gains → get_or (gain_row gains) i nan ≡ get_or gains i nan
unfolding gain_row
gain_of gains i h = get_or-append gains _ nan i h

-- the feeds of a call, in order
pub all_new : (delays : List ℕ) (gains taken : List Float) (seen : ℕ) (memory samples : List Float) → length delays ≡ length gains → ((i : ℕ) → i < length delays → get_or delays i 0 ≤ 4095)
    → Remembers taken seen memory → (k : ℕ) → k ≤ length delays
    → feeds_up_to k (delay_row delays) (gain_row gains) seen memory samples ≡ in_order (λ i. drop (length taken) (delayed (get_or gains i nan) (get_or delays i 0) (taken ++ samples))) k
unfolding feeds_up_to feed_at
all_new delays gains taken seen memory samples l d r zero h = refl
all_new delays gains taken seen memory samples l d r (suc k) h =
    λ i. all_new delays gains taken seen memory samples l d r k (omega arith) i ++ ((λ j. feed_of (gain_of gains k (omega arith) j) (delay_of_lem delays k (omega arith) j) seen memory samples) ∙ new_part taken seen memory r (get_or gains k nan) (get_or delays k 0) samples (d k (omega arith))) i
