-- `stored_runs` is a term of the claim `StoredRuns`: what is taken up is what was stored (`taken_same`), so a list's answers are those of its calls alone.
use Rattle.std.specs.Prelude.{Option, Some, None, is_some, Ok, Err}
use Rattle.std.specs.Result.{result_unwrap_or}
use Prim.Native.Nat.{ℕ}
use mathlib.Core.Path.{◌≡◌, refl, sym, ap, ◌∙◌, subst}
use mathlib.Core.Bool.{Bool, true, false, cond, ◌&&◌}
use mathlib.Core.List.{List, [], ◌∷◌, ◌++◌}
use lib.Dec.{eqb}
use lib.ListN.{length}
use Rattle.rack.specs.declared.Rack.{Rack}
use Rattle.rack.specs.Calls as Racks
use Rattle.refusals.specs.declared.Refusal.TheVariants.{Length}
use Rattle.run_call.specs.Buffers.{Left}
use Rattle.run_call.specs.Calls.{runs_left}
use Rattle.run_theorem.specs.OpenedRuns as Runs
use Rattle.run_theorem.proofs.Demand3.{opened_runs}
use Rattle.run_bytes.specs.declared.Unreadable.TheVariants.{Buffers}
use Rattle.run_bytes.specs.Layout.{Held, Saved, held_fits, stored_length, stored_bytes, save_left, head_words, lists_fit}
use Rattle.run_bytes.specs.Reading.{Lent, Taken, restored_of, filled_of, taken_by, restore_left}
use Rattle.run_bytes.proofs.Lengths.{both, lengths}
use Rattle.run_bytes_theorem.specs.Typed.{Typed}
use Rattle.run_bytes_theorem.specs.RoundTrip.{AsLong}
use Rattle.run_bytes_theorem.specs.StoredRuns.{Member, call, feed, stored, with_buffers, read_again, taken_up, called, fed, after, after_all, run_answers, feed_answer, feed_answers, calls_of, feeds_of, TypedFeeds, held, StoredRuns}
use Rattle.run_bytes_theorem.proofs.OpenedTyped.{opened_typed}
use Rattle.run_bytes_theorem.proofs.KeepsLengths.{call_fits, feed_fits}
use Rattle.run_bytes_theorem.proofs.KeepsTyped.{call_keeps, feed_keeps}
use Rattle.run_bytes_theorem.proofs.RoundTrip.{restored, head_accepted, setting_is, racked_is}

-- ---- what is taken up
-- the same lengths, where both lists fit the setting
as_long : (h : Held) (lent : Lent) → held_fits h ≡ true → lists_fit h.state.setting (is_some h.rack) (length lent.mode_s) (length lent.mode_ac) (length lent.memory) (length lent.rack_memory) ≡ true → AsLong h lent
unfolding held_fits
as_long h lent f g =
    let n = stored_length h.state.setting (is_some h.rack) in
    let a = lengths h.state.setting (is_some h.rack) (length h.mode_s) (length h.mode_ac) (length h.memory) (length h.rack_memory) n f refl in
    let b = lengths h.state.setting (is_some h.rack) (length lent.mode_s) (length lent.mode_ac) (length lent.memory) (length lent.rack_memory) n g refl in
    record { mode_s = b.0.0 ∙ sym a.0.0; mode_ac = b.0.1 ∙ sym a.0.1; memory = b.1.0 ∙ sym a.1.0; rack_memory = b.1.1 ∙ sym a.1.1 }

module _ (h : Held) (t : Typed h) (f : held_fits h ≡ true) (lent : Lent) where
  fit : Bool
  fit = lists_fit h.state.setting (is_some h.rack) (length lent.mode_s) (length lent.mode_ac) (length lent.memory) (length lent.rack_memory)

  -- other buffers are refused
  refused : lists_fit h.state.setting (is_some h.rack) (length lent.mode_s) (length lent.mode_ac) (length lent.memory) (length lent.rack_memory) ≡ false → restore_left (stored_bytes h) lent ≡ record { answer = Err Buffers; lent = lent }
  unfolding restore_left taken_by
  refused g =
      let ws = head_words h.state (is_some h.rack) in
      ap (taken_by (stored_bytes h) lent) (head_accepted h t f)
      ∙ ap (λ (b : Bool). cond b (record { answer = Ok (restored_of (stored_bytes h) ws); lent = filled_of (stored_bytes h) ws }) (record { answer = Err Buffers; lent = lent }))
      ((λ i. lists_fit (setting_is h t f i) (racked_is h t f i) (length lent.mode_s) (length lent.mode_ac) (length lent.memory) (length lent.rack_memory)) ∙ g)

  read_same : with_buffers h (restore_left (stored_bytes h) lent).lent (restore_left (stored_bytes h) lent).answer ≡ h
  unfolding fit
  read_same = go fit refl
    where
      go : (b : Bool) → fit ≡ b → with_buffers h (restore_left (stored_bytes h) lent).lent (restore_left (stored_bytes h) lent).answer ≡ h
      go true g = ap (λ (x : Taken). with_buffers h x.lent x.answer) (restored h t f lent (as_long h lent f g))
      go false g = ap (λ (x : Taken). with_buffers h x.lent x.answer) (refused g)

save_by : Held → List ℕ → Bool → Saved
save_by h bytes b = cond b (record { answer = Ok tt; bytes = stored_bytes h }) (record { answer = Err Length; bytes = bytes })

again : Held → Lent → Saved → Held
again h lent s = read_again h lent s.bytes s.answer

taken_same : (h : Held) → Typed h → (bytes : List ℕ) (lent : Lent) → taken_up h bytes lent ≡ h
unfolding save_left again save_by
taken_same h t bytes lent = go (held_fits h && eqb (length bytes) (stored_length h.state.setting (is_some h.rack))) refl
  where
    go : (b : Bool) → (held_fits h && eqb (length bytes) (stored_length h.state.setting (is_some h.rack))) ≡ b → taken_up h bytes lent ≡ h
    go true e = ap (λ (b : Bool). again h lent (save_by h bytes b)) e ∙ read_same h t (both (held_fits h) (eqb (length bytes) (stored_length h.state.setting (is_some h.rack))) e).0 lent
    go false e = ap (λ (b : Bool). again h lent (save_by h bytes b)) e

-- ---- a list
-- Each time it is stored, the run's numbers are values of their types: in a program the types of its parts see to it.
abbrev pub TypedWhenStored : Held → List Member → Type 0
TypedWhenStored h [] = Unit {0}
TypedWhenStored h (call c ∷ ms) = TypedWhenStored (after h (call c)) ms
TypedWhenStored h (feed c ∷ ms) = TypedWhenStored (after h (feed c)) ms
TypedWhenStored h (stored bytes lent ∷ ms) = Typed h × TypedWhenStored (after h (stored bytes lent)) ms

typed_when : (ms : List Member) (h : Held) → Typed h → TypedFeeds ms → TypedWhenStored h ms
typed_when [] h t u = tt
typed_when (call c ∷ ms) h t u = typed_when ms (after h (call c)) (call_keeps h t c) u
typed_when (feed c ∷ ms) h t u = typed_when ms (after h (feed c)) (feed_keeps h t c u.0) u.1
typed_when (stored bytes lent ∷ ms) h t u = (t, typed_when ms (after h (stored bytes lent)) (subst Typed (sym (taken_same h t bytes lent)) t) u)

run_same : (ms : List Member) (h : Held) → TypedWhenStored h ms → run_answers h ms ≡ runs_left h.state h.mode_s h.mode_ac h.memory (calls_of ms)
unfolding runs_left
run_same [] h t = refl
run_same (call c ∷ ms) h t = ap (λ (l : List Left). called h c ∷ l) (run_same ms (after h (call c)) t)
run_same (feed c ∷ ms) h t = run_same ms (after h (feed c)) t ∙ run_kept h.rack
  where
    run_kept : (o : Option Rack) → runs_left (fed h o c).state (fed h o c).mode_s (fed h o c).mode_ac (fed h o c).memory (calls_of ms) ≡ runs_left h.state h.mode_s h.mode_ac h.memory (calls_of ms)
    run_kept None = refl
    run_kept (Some rack) = refl
run_same (stored bytes lent ∷ ms) h t = run_same ms (after h (stored bytes lent)) t.1 ∙ ap (λ (x : Held). runs_left x.state x.mode_s x.mode_ac x.memory (calls_of ms)) (taken_same h t.0 bytes lent)

feed_same : (ms : List Member) (h : Held) (k : Rack) → h.rack ≡ Some k → TypedWhenStored h ms → feed_answers h ms ≡ Racks.runs_left k h.rack_memory (feeds_of ms)
unfolding Racks.runs_left
feed_same [] h k e t = refl
feed_same (call c ∷ ms) h k e t = feed_same ms (after h (call c)) k e t
feed_same (feed c ∷ ms) h k e t =
    let next = result_unwrap_or (Racks.run_left k h.rack_memory c).answer k in
    let a : after h (feed c) ≡ fed h (Some k) c = ap (λ (o : Option Rack). fed h o c) e in
    (λ i. feed_answer h (e i) c ++ feed_answers (a i) ms)
    ∙ ap (λ (l : List Racks.Left). Racks.run_left k h.rack_memory c ∷ l) (feed_same ms (fed h (Some k) c) next refl (subst (λ (x : Held). TypedWhenStored x ms) a t))
feed_same (stored bytes lent ∷ ms) h k e t =
    let s = taken_same h t.0 bytes lent in
    feed_same ms (after h (stored bytes lent)) k (ap (λ (x : Held). x.rack) s ∙ e) t.1 ∙ ap (λ (x : Held). Racks.runs_left k x.rack_memory (feeds_of ms)) s

all_fit : (ms : List Member) (h : Held) → TypedWhenStored h ms → held_fits h ≡ true → held_fits (after_all h ms) ≡ true
all_fit [] h t f = f
all_fit (call c ∷ ms) h t f = all_fit ms (after h (call c)) t (call_fits h f c)
all_fit (feed c ∷ ms) h t f = all_fit ms (after h (feed c)) t (feed_fits h c f)
all_fit (stored bytes lent ∷ ms) h t f = all_fit ms (after h (stored bytes lent)) t.1 (ap held_fits (taken_same h t.0 bytes lent) ∙ f)

pub stored_runs : StoredRuns
stored_runs taps_s taps_ac settings given r opens rack memory o v ms u =
    let t = typed_when ms (held r rack memory) (opened_typed taps_s taps_ac settings given r opens rack memory o v) u in
    let d = opened_runs taps_s taps_ac settings given r opens in
    let h = held r rack memory in
    let e : run_answers h ms ≡ Runs.calls r (calls_of ms) = run_same ms h t in
    record {
      answers = e;
      samples = ap Runs.all_samples e ∙ d.samples (calls_of ms);
      records = ap Runs.all_records e ∙ d.records (calls_of ms);
      storable = all_fit ms h t;
      feeds = λ k o. feed_same ms h k o t;
    }
