-- `racked_runs`: the claim on a rack behind a run, for any run of which `Demand3` holds and any rack of which `Fed` holds.
use Rattle.std.specs.Prelude.{Some, None, is_none, Result, Ok, Err, is_ok}
use Rattle.std.specs.Result.{result_err}
use mathlib.Core.Bool.{Bool, true, cond, ◌&&◌}
use mathlib.Core.List.{List, [], ◌∷◌, ◌++◌, map, append-nil}
use mathlib.Core.Path.{◌≡◌, refl, sym, ap, ◌∙◌}
use Prim.Native.Nat.{ℕ, suc, ◌*◌, ◌%◌, ◌<◌}
use native.Mathlib.Omega.{arith}
use borrow.Author.Tests.{eq-eqb}
use lib.Dec.{eqb}
use lib.Ieee.{Float, nan}
use lib.ListN.{length, get_or, take, drop, length-append}
use Rattle.refusals.specs.declared.Refusal.TheVariants.{Length}
use Rattle.run_theory.specs.Demand3.{Prefix}
use Rattle.run_call.specs.Buffers.{Left, CallBuffers}
use Rattle.run_theorem.specs.OpenedRuns as Runs
use Rattle.run_theorem.proofs.Demand3.{opened_runs}
use Rattle.rack.specs.Feeds.{delayed}
use Rattle.rack.specs.Calls as Rack
use Rattle.rack_theory.specs.PlainRack as Plain
use Rattle.rack_theory.specs.OpenedRacks as Racks
use Rattle.rack_theory.proofs.Delayed.{grows}
use Rattle.rack_theory.proofs.OpenedRacks.{opened_racks}
use Rattle.rack_theorem.specs.RackedRuns.{TookAll, written, call_each, RoomEach, Racked, RackedRuns}

-- ---- what run calls write is whole samples
-- the lengths of first parts are even, so each part is
Even : List Left → Type 0
Even ls = (n : ℕ) → length (Runs.all_samples (take n ls)) % 2 ≡ 0

module _ (l : Left) (ls : List Left) (e : Even (l ∷ ls)) where
  even_first : length (written l) % 2 ≡ 0
  unfolding Even
  even_first = ap (λ (xs : List Float). length xs % 2) (sym (append-nil (written l))) ∙ e 1

  even_rest : Even ls
  unfolding Even
  even_rest n = omega (arith, e (suc n), length-append (written l) (Runs.all_samples (take n ls)), even_first)

-- ---- the samples taken, from what is seen of the calls
module _ (delays : List ℕ) (gains : List Float) where
  taken_by : List Rack.Call → List (Plain.Seen delays gains) → List Float
  taken_by [] ss = []
  taken_by (c ∷ cs) [] = []
  taken_by (c ∷ cs) (s ∷ ss) = cond (is_none s.refusal) c.samples [] ++ taken_by cs ss

  same_test : {X E : Type 0} (a : Result X E) → is_ok a ≡ is_none (result_err a)
  same_test (Ok x) = refl
  same_test (Err q) = refl

  taken_seen : (cs : List Rack.Call) (ls : List Rack.Left) → Racks.all_taken cs ls ≡ taken_by cs (map (Racks.seen_of delays gains) ls)
  unfolding taken_by
  taken_seen [] ls = refl
  taken_seen (c ∷ cs) [] = refl
  taken_seen (c ∷ cs) (l ∷ ls) = λ i. cond (same_test l.answer i) c.samples [] ++ taken_seen cs ls i

  accepted : (samples room : List Float) → length samples % 2 ≡ 0 → length room ≡ length delays * length samples → Plain.accepts delays gains (record { samples = samples; room = room }) ≡ true
  unfolding Rack.lengths_fit
  accepted samples room e h = λ i. eqb 8190 8190 && eq-eqb (length samples % 2) 0 e i && eq-eqb (length room) (length delays * length samples) h i

  -- a call for each, all of them accepted
  all_accepted : (ls : List Left) (rooms : List (List Float)) (taken : List Float) → Even ls → RoomEach (length delays) ls rooms
      → taken_by (call_each ls rooms) (Plain.plain_calls delays gains taken (call_each ls rooms)) ≡ Runs.all_samples ls
  unfolding taken_by
  all_accepted [] rooms taken e h = refl
  all_accepted (l ∷ ls) [] taken e h = absurd h
  all_accepted (l ∷ ls) (room ∷ rooms) taken e h =
      ap (λ (t : Bool). cond (is_none (seen_by t).refusal) (written l) [] ++ taken_by (call_each ls rooms) (Plain.plain_calls delays gains (cond t (taken ++ written l) taken) (call_each ls rooms)))
      (accepted (written l) room (even_first l ls e) h.0)
      ∙ ap (λ (xs : List Float). written l ++ xs) (all_accepted ls rooms (taken ++ written l) (even_rest l ls e) h.1)
    where
      seen_by : Bool → Plain.Seen delays gains
      seen_by t = cond t (record { refusal = None; room = Plain.new_feeds delays gains taken (written l) }) (record { refusal = Some Length; room = room })

-- ---- the claim
module _ (taps_s taps_ac : List Float) (settings : List ℕ) (r : Runs.Run) (d : Runs.Demand3 taps_s taps_ac settings r) (delays : List ℕ) (gains : List Float) (k : Racks.Opened) (f : Racks.Fed delays gains k) where
  even_calls : (cs : List CallBuffers) → Even (Runs.calls r cs)
  unfolding Even
  even_calls cs n = ap (λ (ls : List Left). length (Runs.all_samples ls) % 2) (d.first_calls cs n) ∙ omega (arith, d.written (take n cs))

  took_each : (cs : List CallBuffers) (rooms : List (List Float)) → RoomEach (length delays) (Runs.calls r cs) rooms → TookAll r cs k (call_each (Runs.calls r cs) rooms)
  took_each cs rooms h =
      taken_seen delays gains (call_each (Runs.calls r cs) rooms) (Racks.calls k (call_each (Runs.calls r cs) rooms))
      ∙ ap (taken_by delays gains (call_each (Runs.calls r cs) rooms)) (f.answers (call_each (Runs.calls r cs) rooms))
      ∙ all_accepted delays gains (Runs.calls r cs) rooms [] (even_calls cs) h

  feed_of_lem : (cs : List CallBuffers) (ks : List Rack.Call) → TookAll r cs k ks → (i : ℕ) → i < length delays → Racks.feed_written k i ks ≡ delayed (get_or gains i nan) (get_or delays i 0) (Runs.samples_written r cs)
  feed_of_lem cs ks t i h = f.feeds ks i h ∙ ap (delayed (get_or gains i nan) (get_or delays i 0)) t

  longer : (gain : Float) (delay : ℕ) (xs ys : List Float) → Prefix xs ys → Prefix (delayed gain delay xs) (delayed gain delay ys)
  longer gain delay xs ys p = (drop (length xs) (delayed gain delay (xs ++ p.0)), sym (grows gain delay xs p.0) ∙ ap (delayed gain delay) p.1)

  pub racked : Racked taps_s taps_ac settings r delays gains k
  racked = record {
    took_each = took_each;
    plain = λ cs ks t i h. feed_of_lem cs ks t i h ∙ ap (delayed (get_or gains i nan) (get_or delays i 0)) (d.samples cs);
    stays = λ cs ks t i h ds vs q.
        let p = longer (get_or gains i nan) (get_or delays i 0) _ _ (d.samples_stay cs ds vs q) in
        (p.0, ap (λ (xs : List Float). xs ++ p.0) (feed_of_lem cs ks t i h) ∙ p.1);
    as_long = λ cs ks t done i h. f.as_long ks i h ∙ ap length t ∙ (d.whole cs done).1;
    alike = λ given' r' o' delays' gains' given'' k' q' i i' h h' ed eg cs cs' ks ks' t t' done done' same_draws same-noise.
        f.alike delays' gains' given'' k' q' i i' h h' ed eg ks ks' (t ∙ (d.alike given' r' o' cs cs' done done' same_draws same-noise).0 ∙ sym t');
  }

pub racked_runs : RackedRuns
racked_runs taps_s taps_ac settings given r o delays gains given' k q = racked taps_s taps_ac settings r (opened_runs taps_s taps_ac settings given r o) delays gains k (opened_racks delays gains given' k q)
