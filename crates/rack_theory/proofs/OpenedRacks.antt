-- `opened_racks`: the claim on every list of calls on an opened rack, by one induction over the calls (`over_calls`).
use Rattle.std.specs.Prelude.{Some, None, Result, Ok, Err, is_ok}
use Rattle.std.specs.Result.{result_unwrap_or}
use mathlib.Core.Bool.{Bool, true, false, cond, ◌&&◌, false≢true, and-eq-true_iff}
use mathlib.Core.List.{List, [], ◌∷◌, ◌++◌, map}
use mathlib.Core.Path.{◌≡◌, refl, sym, ap, subst, ◌∙◌}
use Prim.Native.Nat.{ℕ, zero, suc, ◌+◌, ◌-◌, ◌*◌, ◌/◌, ◌≤◌, ◌<◌, min}
use native.Mathlib.Omega.{arith}
use borrow.Author.Tests.{leb-true}
use lib.Dec.{leb}
use lib.Ieee.{Float, nan}
use lib.ListN.{length, get_or, take, drop, length-append, drop_of_length-le}
use Rattle.refusals.specs.declared.Refusal.{Refusal}
use Rattle.refusals.specs.declared.Refusal.TheVariants.{Length}
use Rattle.rack.specs.declared.Rack.{Rack}
use Rattle.rack.specs.Feeds.{silent, delayed}
use Rattle.rack.specs.Opening.{gain_fits, each_fits, checked, delay_row, gain_row, rack_of, OpenLeft, left_by, open_left}
use Rattle.rack.proofs.Lists.{length_silent}
use Rattle.rack.proofs.Checks.{Fits, fits}
use Rattle.rack.specs.Memory.{held_after}
use Rattle.rack.specs.Calls.{feed_count, lengths_fit, feeds_up_to, rack_after, Call, Left, run_left, runs_left}
use Rattle.rack.proofs.Lengths as Lengths
use Rattle.rack_theory.specs.PlainRack as Plain
use Rattle.rack_theory.specs.OpenedRacks.{Opened, Opens, calls, is_accepted, all_taken, part_of, all_of_feed, samples_taken, feed_written, seen_of, OpenedRacks}
use Rattle.rack_theory.proofs.Delayed.{length_delayed, length_new, joined, part}
use Rattle.rack_theory.proofs.Remembered.{Remembers, remembers_more, all_new}

-- ---- what opening says
-- every delay is in range
pub delay_fits : (delays : List ℕ) (gains : List Float) → length delays ≡ length gains → each_fits delays gains ≡ true → (i : ℕ) → i < length delays → get_or delays i 0 ≤ 4095
unfolding each_fits
delay_fits [] gains l e i h = absurd (omega arith)
delay_fits (d ∷ ds) [] l e i h = absurd (omega arith)
delay_fits (d ∷ ds) (g ∷ gs) l e zero h = leb-true d 4095 ((and-eq-true_iff (leb d 4095) (gain_fits g)).0 ((and-eq-true_iff (leb d 4095 && gain_fits g) (each_fits ds gs)).0 e).0).0
delay_fits (d ∷ ds) (g ∷ gs) l e (suc i) h = delay_fits ds gs (omega arith) ((and-eq-true_iff (leb d 4095 && gain_fits g) (each_fits ds gs)).0 e).1 i (omega arith)

pub record Says (delays : List ℕ) (gains given : List Float) (r : Opened) : Type 0 where
  pub right : Fits (length given) delays gains
  pub rack_is : rack_of delays gains ≡ r.state
  pub memory_is : silent 8190 ≡ r.memory

module _ (delays : List ℕ) (gains given : List Float) (r : Opened) where
  answer : OpenLeft
  answer = record { answer = Ok r.state; memory = r.memory }

  -- the rack that is answered, or another where there is none
  rack_in : OpenLeft → Rack
  rack_in l = result_unwrap_or l.answer r.state

  says_by : (t : Result (Unit {0}) Refusal) → checked (length given) delays gains ≡ t → left_by given delays gains t ≡ answer → Says delays gains given r
  unfolding left_by answer rack_in
  says_by (Ok u) e o = record {
    right = fits (length given) delays gains u e;
    rack_is = ap rack_in o;
    memory_is = ap (λ (l : OpenLeft). l.memory) o;
  }
  says_by (Err q) e o = absurd (false≢true (ap (λ (l : OpenLeft). is_ok l.answer) o))

  pub says : Opens delays gains given r → Says delays gains given r
  unfolding open_left answer
  says o = says_by (checked (length given) delays gains) refl o.leaves

-- nothing is remembered at first
pub none_taken : Remembers [] 0 (silent 8190)
none_taken = record {
  counted = omega arith;
  even = omega arith;
  size = length_silent 8190;
  last = drop_of_length-le (silent 8190) {i = 2 * (4095 - 0)} (omega (arith, length_silent 8190));
}

-- ---- a call
module _ (delays : List ℕ) (gains : List Float) (alike : length delays ≡ length gains) (most : length delays ≤ 16) (short : (i : ℕ) → i < length delays → get_or delays i 0 ≤ 4095) where
  -- the state after some samples
  abbrev state_of : ℕ → Rack
  state_of seen = record { feeds = length delays; seen = seen; delays = delay_row delays; gains = gain_row gains }

  abbrev accepted_left : List Float → ℕ → List Float → Call → Left
  accepted_left taken seen memory c = record {
    answer = Ok (state_of (min (seen + length c.samples / 2) 4095));
    memory = held_after memory c.samples;
    room = Plain.new_feeds delays gains taken c.samples;
  }

  abbrev refused_left : List Float → Call → Left
  refused_left memory c = record { answer = Err Length; memory = memory; room = c.room }

  module _ (taken : List Float) (seen : ℕ) (memory : List Float) (c : Call) (r : Remembers taken seen memory) where
    count_is : feed_count (length delays) ≡ length delays
    unfolding feed_count
    count_is = omega arith

    test_is : lengths_fit (feed_count (length delays)) (length memory) (length c.samples) (length c.room) ≡ Plain.accepts delays gains c
    test_is = λ i. lengths_fit (count_is i) (r.size i) (length c.samples) (length c.room)

    pub left_accepted : Plain.accepts delays gains c ≡ true → run_left (state_of seen) memory c ≡ accepted_left taken seen memory c
    unfolding run_left rack_after
    left_accepted e =
        ap (λ (t : Bool). cond t (accepted_with (feeds_up_to (feed_count (length delays)) (delay_row delays) (gain_row gains) seen memory c.samples)) (refused_left memory c)) (test_is ∙ e)
        ∙ ap (λ (l : List Float). accepted_with l)
        (ap (λ (k : ℕ). feeds_up_to k (delay_row delays) (gain_row gains) seen memory c.samples) count_is ∙ all_new delays gains taken seen memory c.samples alike short r (length delays) (omega arith))
      where
        accepted_with : List Float → Left
        accepted_with room = record { answer = Ok (state_of (min (seen + length c.samples / 2) 4095)); memory = held_after memory c.samples; room = room }

    pub left_refused : Plain.accepts delays gains c ≡ false → run_left (state_of seen) memory c ≡ refused_left memory c
    unfolding run_left rack_after
    left_refused e = ap (λ (t : Bool). cond t accepted (refused_left memory c)) (test_is ∙ e)
      where
        accepted : Left
        accepted = record {
          answer = Ok (state_of (min (seen + length c.samples / 2) 4095));
          memory = held_after memory c.samples;
          room = feeds_up_to (feed_count (length delays)) (delay_row delays) (gain_row gains) seen memory c.samples;
        }

    pub more : Plain.accepts delays gains c ≡ true → Remembers (taken ++ c.samples) (min (seen + length c.samples / 2) 4095) (held_after memory c.samples)
    more e = remembers_more taken seen memory r c.samples (Lengths.fits (length delays) 8190 (length c.samples) (length c.room) e).even

  -- ---- one induction over a list of calls
  module _ (P : List Float → ℕ → List Float → List Call → Type 0)
      (at_end : (taken : List Float) (seen : ℕ) (memory : List Float) → P taken seen memory [])
      (at_call : (taken : List Float) (seen : ℕ) (memory : List Float) (c : Call) (cs : List Call) → Remembers taken seen memory → Plain.accepts delays gains c ≡ true
      → P (taken ++ c.samples) (min (seen + length c.samples / 2) 4095) (held_after memory c.samples) cs → P taken seen memory (c ∷ cs))
      (at-refusal : (taken : List Float) (seen : ℕ) (memory : List Float) (c : Call) (cs : List Call) → Remembers taken seen memory → Plain.accepts delays gains c ≡ false
      → P taken seen memory cs → P taken seen memory (c ∷ cs)) where
    over_call : (taken : List Float) (seen : ℕ) (memory : List Float) (c : Call) (cs : List Call) → Remembers taken seen memory → (t : Bool) → Plain.accepts delays gains c ≡ t
        → (Plain.accepts delays gains c ≡ true → P (taken ++ c.samples) (min (seen + length c.samples / 2) 4095) (held_after memory c.samples) cs) → P taken seen memory cs → P taken seen memory (c ∷ cs)
    over_call taken seen memory c cs r true e p q = at_call taken seen memory c cs r e (p e)
    over_call taken seen memory c cs r false e p q = at-refusal taken seen memory c cs r e q

    pub over_calls : (cs : List Call) (taken : List Float) (seen : ℕ) (memory : List Float) → Remembers taken seen memory → P taken seen memory cs
    over_calls [] taken seen memory r = at_end taken seen memory
    over_calls (c ∷ cs) taken seen memory r =
        over_call taken seen memory c cs r (Plain.accepts delays gains c) refl
        (λ e. over_calls cs (taken ++ c.samples) (min (seen + length c.samples / 2) 4095) (held_after memory c.samples) (more taken seen memory c r e))
        (over_calls cs taken seen memory r)

  -- ---- the answers
  abbrev Answers : List Float → ℕ → List Float → List Call → Type 0
  Answers taken seen memory cs = map (seen_of delays gains) (runs_left (state_of seen) memory cs) ≡ Plain.plain_calls delays gains taken cs

  answers_call : (taken : List Float) (seen : ℕ) (memory : List Float) (c : Call) (cs : List Call) → Remembers taken seen memory → Plain.accepts delays gains c ≡ true
      → Answers (taken ++ c.samples) (min (seen + length c.samples / 2) 4095) (held_after memory c.samples) cs → Answers taken seen memory (c ∷ cs)
  unfolding runs_left
  answers_call taken seen memory c cs r e p =
      ap (λ (l : Left). map (seen_of delays gains) (l ∷ runs_left (result_unwrap_or l.answer (state_of seen)) l.memory cs)) (left_accepted taken seen memory c r e)
      ∙ ap (λ (l : List (Plain.Seen delays gains)). seen_of delays gains (accepted_left taken seen memory c) ∷ l) p
      ∙ sym (ap (λ (t : Bool). chosen t ∷ Plain.plain_calls delays gains (cond t (taken ++ c.samples) taken) cs) e)
    where
      chosen : Bool → Plain.Seen delays gains
      chosen t = cond t (record { refusal = None; room = Plain.new_feeds delays gains taken c.samples }) (record { refusal = Some Length; room = c.room })

  answers_refusal : (taken : List Float) (seen : ℕ) (memory : List Float) (c : Call) (cs : List Call) → Remembers taken seen memory → Plain.accepts delays gains c ≡ false
      → Answers taken seen memory cs → Answers taken seen memory (c ∷ cs)
  unfolding runs_left
  answers_refusal taken seen memory c cs r e p =
      ap (λ (l : Left). map (seen_of delays gains) (l ∷ runs_left (result_unwrap_or l.answer (state_of seen)) l.memory cs)) (left_refused taken seen memory c r e)
      ∙ ap (λ (l : List (Plain.Seen delays gains)). seen_of delays gains (refused_left memory c) ∷ l) p
      ∙ sym (ap (λ (t : Bool). chosen t ∷ Plain.plain_calls delays gains (cond t (taken ++ c.samples) taken) cs) e)
    where
      chosen : Bool → Plain.Seen delays gains
      chosen t = cond t (record { refusal = None; room = Plain.new_feeds delays gains taken c.samples }) (record { refusal = Some Length; room = c.room })

  pub all_answers : (cs : List Call) (taken : List Float) (seen : ℕ) (memory : List Float) → Remembers taken seen memory → Answers taken seen memory cs
  unfolding runs_left
  all_answers = over_calls Answers (λ taken seen memory. refl) answers_call answers_refusal

  -- ---- the feeds
  module _ (i : ℕ) (inside : i < length delays) where
    abbrev feed : List Float → List Float
    feed xs = delayed (get_or gains i nan) (get_or delays i 0) xs

    abbrev Feeds : List Float → ℕ → List Float → List Call → Type 0
    Feeds taken seen memory cs = all_of_feed i cs (runs_left (state_of seen) memory cs) ≡ drop (length taken) (feed (taken ++ all_taken cs (runs_left (state_of seen) memory cs)))

    -- of a call's answer and of the calls behind it
    abbrev Goes : List Float → ℕ → Call → List Call → Left → Type 0
    Goes taken seen c cs l =
        cond (is_accepted l) (part_of i c l) [] ++ all_of_feed i cs (runs_left (result_unwrap_or l.answer (state_of seen)) l.memory cs)
        ≡ drop (length taken) (feed (taken ++ (cond (is_accepted l) c.samples [] ++ all_taken cs (runs_left (result_unwrap_or l.answer (state_of seen)) l.memory cs))))

    feeds_end : (taken : List Float) (seen : ℕ) (memory : List Float) → Feeds taken seen memory []
    feeds_end taken seen memory = sym (drop_of_length-le (feed (taken ++ [])) {i = length taken} (omega (arith, length_delayed (get_or gains i nan) (get_or delays i 0) (taken ++ []), length-append taken [])))

    feeds_call : (taken : List Float) (seen : ℕ) (memory : List Float) (c : Call) (cs : List Call) → Remembers taken seen memory → Plain.accepts delays gains c ≡ true
        → Feeds (taken ++ c.samples) (min (seen + length c.samples / 2) 4095) (held_after memory c.samples) cs → Feeds taken seen memory (c ∷ cs)
    unfolding runs_left
    feeds_call taken seen memory c cs r e p =
        subst (λ (l : Left). Goes taken seen c cs l) (sym (left_accepted taken seen memory c r e))
        ((λ j. mine j ++ p j) ∙ joined (get_or gains i nan) (get_or delays i 0) taken c.samples (all_taken cs (runs_left (state_of (min (seen + length c.samples / 2) 4095)) (held_after memory c.samples) cs)))
      where
        mine : part_of i c (accepted_left taken seen memory c) ≡ drop (length taken) (feed (taken ++ c.samples))
        mine =
            part (λ k. drop (length taken) (delayed (get_or gains k nan) (get_or delays k 0) (taken ++ c.samples))) (length c.samples)
            (λ k. length_new (get_or gains k nan) (get_or delays k 0) taken c.samples) (length delays) i inside

    feeds_refusal : (taken : List Float) (seen : ℕ) (memory : List Float) (c : Call) (cs : List Call) → Remembers taken seen memory → Plain.accepts delays gains c ≡ false
        → Feeds taken seen memory cs → Feeds taken seen memory (c ∷ cs)
    unfolding runs_left
    feeds_refusal taken seen memory c cs r e p = subst (λ (l : Left). Goes taken seen c cs l) (sym (left_refused taken seen memory c r e)) p

    pub all_feeds : (cs : List Call) (taken : List Float) (seen : ℕ) (memory : List Float) → Remembers taken seen memory → Feeds taken seen memory cs
    all_feeds = over_calls Feeds feeds_end feeds_call feeds_refusal

-- ---- the claim
first_of : (cs : List Call) (n : ℕ) (rack : Rack) (memory : List Float) → take n (runs_left rack memory cs) ≡ runs_left rack memory (take n cs)
unfolding runs_left
first_of cs zero rack memory = refl
first_of [] (suc n) rack memory = refl
first_of (c ∷ cs) (suc n) rack memory =
    ap (λ (l : List Left). run_left rack memory c ∷ l) (first_of cs n (result_unwrap_or (run_left rack memory c).answer rack) (run_left rack memory c).memory)

module _ (delays : List ℕ) (gains given : List Float) (r : Opened) (o : Opens delays gains given r) where
  abbrev said : Says delays gains given r
  said = says delays gains given r o

  short : (i : ℕ) → i < length delays → get_or delays i 0 ≤ 4095
  short = delay_fits delays gains said.right.alike said.right.each

  -- a claim on the rack that the definitions open is one on this rack
  carried : (Q : Rack → List Float → Type 0) → Q (rack_of delays gains) (silent 8190) → Q r.state r.memory
  carried Q q = subst (λ (m : List Float). Q r.state m) said.memory_is (subst (λ (s : Rack). Q s (silent 8190)) said.rack_is q)

  pub feed_is : (cs : List Call) (i : ℕ) → i < length delays → feed_written r i cs ≡ delayed (get_or gains i nan) (get_or delays i 0) (samples_taken r cs)
  unfolding rack_of
  feed_is cs i h =
      carried (λ s m. all_of_feed i cs (runs_left s m cs) ≡ delayed (get_or gains i nan) (get_or delays i 0) (all_taken cs (runs_left s m cs)))
      (all_feeds delays gains said.right.alike said.right.most short i h cs [] 0 (silent 8190) none_taken)

  pub answers_are : (cs : List Call) → map (seen_of delays gains) (calls r cs) ≡ Plain.plain_calls delays gains [] cs
  unfolding rack_of
  answers_are cs =
      carried (λ s m. map (seen_of delays gains) (runs_left s m cs) ≡ Plain.plain_calls delays gains [] cs)
      (all_answers delays gains said.right.alike said.right.most short cs [] 0 (silent 8190) none_taken)

pub opened_racks : OpenedRacks
opened_racks delays gains given r o = record {
  first_calls = λ cs n. first_of cs n r.state r.memory;
  answers = answers_are delays gains given r o;
  feeds = feed_is delays gains given r o;
  as_long = λ cs i h. ap length (feed_is delays gains given r o cs i h) ∙ length_delayed (get_or gains i nan) (get_or delays i 0) (samples_taken r cs);
  same_rack = λ given' r' o'. let a = says delays gains given r o in let b = says delays gains given' r' o' in λ i. record { state = (sym a.rack_is ∙ b.rack_is) i; memory = (sym a.memory_is ∙ b.memory_is) i };
  alike = λ delays' gains' given' r' o' i i' h h' ed eg cs cs' same. feed_is delays gains given r o cs i h ∙ (λ j. delayed (eg j) (ed j) (same j)) ∙ sym (feed_is delays' gains' given' r' o' cs' i' h');
}
