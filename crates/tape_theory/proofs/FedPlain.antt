-- A tape whose noise is fed in chunks, however it is cut, ends as the plain run on all its draws and noise does (`fed-ending`), and prints its text (`fed-text`).
use Rattle.std.specs.Prelude.{Option, Some, None, Ok, Err}
use Rattle.refusals.specs.declared.Refusal.TheVariants.{Tape as TapeRefusal}
use Prim.Native.Nat.{ℕ, zero, suc}
use mathlib.Core.Bool.{Bool, true, false, cond, ◌&&◌, ◌||◌}
use mathlib.Core.List.{List, [], ◌∷◌, ◌++◌, append-nil, append_assoc}
use mathlib.Core.Path.{◌≡◌, refl, sym, ap, ◌∙◌, subst}
use native.Mathlib.Omega.{arith}
use lib.Dec.{leb}
use lib.ListN.{length}
use lib.Ieee.{nan}
use Rattle.run_theory.specs.Generator.{NoisePair}
use Rattle.run_theory.specs.PlainRun.{ended, plain_records}
use Rattle.run_theory.specs.PlainBench as Bench
use Rattle.run_theory.specs.PlainBench.{pairs, join, over, first_out_of_range, Bench, bench0}
use Rattle.run_theory.specs.Demand3.{plain_lines}
use Rattle.run_theory.proofs.ListClaim.{is_done}
use Rattle.run_call_model.specs.Machine as Machine
use Rattle.run_call_model.proofs.FlatLists.{length_draws}
use Rattle.run_call_model.proofs.InStep.{Matches}
use Rattle.run_call.specs.Given.{stop_given, refusal_given}
use Rattle.refusals.specs.Number.{number_of}
use Rattle.tape_feed.specs.FeedModel.{Fed}
use Rattle.tape_feed.specs.Verdict.{stop_then, answer_then, verdict_of, verdict_number}
use Rattle.tape_theory.specs.Fed.{Held, Chunk, lend, keep, fed_all}
use Rattle.tape_theory.specs.PlainTape.{Ending, ending_by, ending_text, out_of_range_in, plain_done, plain_verdict, plain_ending, plain_text, fed_ending, fed_text, Roomy, Cut, noise_in}
use Rattle.tape_theory.proofs.FedIsRun.{refused_stays}
use Rattle.tape_theory.proofs.TextOfRecords.{run_text_over}
use Rattle.tape_theory.proofs.FedBench as Stream
use Rattle.tape_theory.proofs.FedCall.{Reads, out_of_range_read, out_of_range_append, few_records, all_lines, Tape, G, tape, from, standing, rb, rz, refused_at, out_of_range, quiet, all_fed}

-- the number of bytes left over behind a run that is done
number_over : (left : Bool) → verdict_number (cond left (Err TapeRefusal) (Ok tt)) ≡ cond left 11 0
unfolding verdict_number number_of
number_over true = refl
number_over false = refl

module _ (T : Tape) where
  open T use {state, mode_s, mode_ac, laws, draws, room, rooms}

  -- the verdict on a run that was fed vs and then this noise, with or without bytes left over; and its ending
  verdict : Bool → List (NoisePair (G T)) → Bool → ℕ
  verdict out_of_range us left = cond out_of_range 8 (cond (ended (G T) (G T).t0 (tape T) && leb state.total (length us)) (cond left 11 0) 11)

  ending : Bool → List (NoisePair (G T)) → Bool → Ending
  ending out_of_range us left = ending_by (verdict out_of_range us left) (over (plain_lines (G T) (tape T)) room) (length (plain_records (G T) (tape T))) state.total

  Ends : Machine.State (G T) nan → Bench (G T) → Bench.Stop → List (NoisePair (G T)) → List Chunk → Type 0
  Ends z b w vs cs = (left : Bool) → fed_ending left (fed_all mode_s mode_ac draws (standing T z b w) cs) ≡ ending (out_of_range_in (G T) (noise_in cs)) (vs ++ pairs (noise_in cs)) left

  at_end : (z : Machine.State (G T) nan) (b : Bench (G T)) (w : Bench.Stop) (vs : List (NoisePair (G T))) → Matches (G T) laws nan b z → Stream.Fed (G T) laws (tape T) w b (from T (length b.taken)) vs → Ends z b w vs []
  unfolding Ends ending verdict fed_all noise_in fed_ending verdict_of answer_then stop_then verdict_number number_of out_of_range_in ending_by stop_given
  at_end z b w vs h f left = by w f ∙ sym (ap (λ (e : Bool). ending_by (cond e (cond left 11 0) 11) (over (plain_lines (G T) (tape T)) room) (length (plain_records (G T) (tape T))) state.total) end)
    where
      end : (ended (G T) (G T).t0 (tape T) && leb state.total (length (vs ++ []))) ≡ is_done w
      end =
          ap (λ (us : List (NoisePair (G T))). ended (G T) (G T).t0 (tape T) && leb state.total (length us)) (append-nil vs)
          ∙ Stream.fed_end (G T) laws (tape T) w b (from T (length b.taken)) vs f

      by : (w : Bench.Stop) → Stream.Fed (G T) laws (tape T) w b (from T (length b.taken)) vs
          → ending_by (verdict_number (stop_then left (stop_given w))) (over (plain_lines (G T) b.taken) room) (length (plain_records (G T) b.taken)) z.written ≡ ending_by (cond (is_done w) (cond left 11 0) 11) (over (plain_lines (G T) (tape T)) room) (length (plain_records (G T) (tape T))) state.total
      by Bench.done f =
          let a = Stream.fed_done (G T) laws (tape T) b (from T (length b.taken)) vs f in
          λ i. ending_by (number_over left i) (over (join (a.records i)) room) (length (a.records i)) ((h.written ∙ a.written) i)
      by Bench.output_full f = absurd f.why
      by Bench.wants_noise f = refl
      by Bench.wants_draws f = refl
      by Bench.records_full f = absurd f.why

  module _ (z : Machine.State (G T) nan) (b : Bench (G T)) (w : Bench.Stop) (c : Chunk) (cs : List Chunk) (vs : List (NoisePair (G T))) (h : Matches (G T) laws nan b z) (roomy : Roomy c) (at : Stream.At (G T) laws (tape T) b (from T (length b.taken)) vs) where
    -- whether the chunks are loud, by the first of them
    out_of_range_is : {x : Bool} → out_of_range_in (G T) c.noise ≡ x → out_of_range_in (G T) (noise_in (c ∷ cs)) ≡ (x || out_of_range_in (G T) (noise_in cs))
    unfolding noise_in
    out_of_range_is q = out_of_range_append (G T) c.noise (noise_in cs) ∙ ap (λ (x : Bool). x || out_of_range_in (G T) (noise_in cs)) q

    on_in_range : pairs (noise_in (c ∷ cs)) ≡ pairs c.noise ++ pairs (noise_in cs) → first_out_of_range (G T) 0 c.noise ≡ None
        → Ends (rz T z b w c vs h roomy at).state (rb T z b w c vs h roomy at).bench (rb T z b w c vs h roomy at).stop (vs ++ pairs c.noise) cs → Ends z b w vs (c ∷ cs)
    unfolding Ends fed_all
    on_in_range split e later left =
        ap (λ (f : Held). fed_ending left (fed_all mode_s mode_ac draws f cs)) (quiet T z b w c vs h roomy at e)
        ∙ later left
        ∙ sym (λ i. ending (out_of_range_is (subst (λ (x : Option Bench.Refusal). Reads (G T) x (out_of_range_in (G T) c.noise)) e (out_of_range_read (G T) 0 c.noise)) i) (fed_is i) left)
      where
        fed_is : vs ++ pairs (noise_in (c ∷ cs)) ≡ (vs ++ pairs c.noise) ++ pairs (noise_in cs)
        fed_is = ap (λ (us : List (NoisePair (G T))). vs ++ us) split ∙ sym (append_assoc vs (pairs c.noise) (pairs (noise_in cs)))

    on_out_of_range : (p : ℕ) → first_out_of_range (G T) 0 c.noise ≡ Some (Bench.wrong_noise p) → Ends z b w vs (c ∷ cs)
    unfolding Ends ending verdict fed_all keep lend fed_ending verdict_of answer_then verdict_number refusal_given number_of ending_by
    on_out_of_range p e left =
        ap (λ (f : Fed). fed_ending left (fed_all mode_s mode_ac draws (keep f) cs)) (out_of_range T z b w c vs h roomy at p e)
        ∙ ap (fed_ending left) (refused_stays mode_s mode_ac draws cs (refusal_given (Bench.wrong_noise p)) (refused_at T z b w c vs h roomy at p) refl)
        ∙ sym (ap (λ (x : Bool). ending x (vs ++ pairs (noise_in (c ∷ cs))) left) (out_of_range_is (subst (λ (x : Option Bench.Refusal). Reads (G T) x (out_of_range_in (G T) c.noise)) e (out_of_range_read (G T) 0 c.noise))))

  -- the text by a verdict, of the plain run's records alone
  records_alone : (v : ℕ) → ending_text (ending_by v (over (plain_lines (G T) (tape T)) room) (length (plain_records (G T) (tape T))) state.total) ≡ ending_text (ending_by v (plain_lines (G T) (tape T)) (length (plain_records (G T) (tape T))) state.total)
  unfolding ending_by ending_text
  records_alone zero = run_text_over (plain_records (G T) (tape T)) room state.total (all_lines (G T) laws (G T).t0 (tape T)) (omega (arith, few_records (G T) (tape T), length_draws (G T) draws, rooms))
  records_alone (suc n) = refl

  pub fed_ending_lem : Bench.first_fault (G T) 0 (tape T) ≡ None → (c : Chunk) (cs : List Chunk) → Cut (c ∷ cs)
      → (left : Bool) → fed_ending left (fed_all mode_s mode_ac draws (standing T (Machine.opened (G T) nan) (bench0 (G T)) Bench.wants_noise) (c ∷ cs)) ≡ plain_ending state mode_s mode_ac left (tape T) (noise_in (c ∷ cs)) room
  unfolding Ends ending verdict plain_ending plain_verdict plain_done
  fed_ending_lem clean c cs cut left = all_fed T Ends at_end on_in_range on_out_of_range clean c cs cut left

  pub fed_text_lem : Bench.first_fault (G T) 0 (tape T) ≡ None → (c : Chunk) (cs : List Chunk) → Cut (c ∷ cs)
      → (left : Bool) → fed_text left (fed_all mode_s mode_ac draws (standing T (Machine.opened (G T) nan) (bench0 (G T)) Bench.wants_noise) (c ∷ cs)) ≡ plain_text state mode_s mode_ac left (tape T) (noise_in (c ∷ cs))
  unfolding fed_text plain_ending plain_text
  fed_text_lem clean c cs cut left = ap ending_text (fed_ending_lem clean c cs cut left) ∙ records_alone _
