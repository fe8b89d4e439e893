-- The samples of a tape whose noise is fed in chunks, however it is cut: they are a first part of the plain run on all its draws and noise, and all of it where the run is Done (`fed-samples`).
use Rattle.std.specs.Prelude.{Some, None}
use Rattle.std.specs.Prelude.{Result, Ok, Err}
use Prim.Native.Nat.{ℕ, ◌-◌, ◌*◌}
use mathlib.Core.List.{List, [], ◌∷◌, ◌++◌, append-nil, append_assoc}
use mathlib.Core.Path.{◌≡◌, refl, sym, ap, ◌∙◌, subst}
use native.Mathlib.Omega.{arith}
use lib.ListN.{length, take}
use lib.Seq.{take-nil}
use lib.Ieee.{Float, nan}
use Rattle.run_theory.specs.Generator.{NoisePair}
use Rattle.run_theory.specs.PlainRun.{samples_from}
use Rattle.run_theory.specs.PlainBench as Bench
use Rattle.run_theory.specs.PlainBench.{pairs, flatten, first_out_of_range, Bench, bench0}
use Rattle.run_theory.specs.Demand3.{Prefix, plain_output}
use Rattle.run_call_model.specs.Machine as Machine
use Rattle.run_call_model.proofs.InStep.{Matches}
use Rattle.run_call_model.proofs.Demand3.{samples_prefix}
use Rattle.refusals.specs.declared.Refusal as Refusal
use Rattle.run_steps.specs.declared.Stop as Stop
use Rattle.run_call.specs.Given.{stop_given, refusal_given}
use Rattle.tape_feed.specs.FeedModel.{Fed, fed_then, fed_of}
use Rattle.tape_theory.specs.Fed.{Held, Chunk, lend, keep, fed_all, samples_fed}
use Rattle.tape_theory.specs.PlainTape.{Roomy, Cut, noise_in}
use Rattle.tape_theory.proofs.FedIsRun.{refused_stays}
use Rattle.tape_theory.proofs.FedBench as Stream
use Rattle.tape_theory.proofs.FedCall.{Tape, G, tape, from, standing, rb, rz, refused_at, out_of_range, quiet, sampled, sampled_on, all_fed}

-- once refused, a run brings no samples
refused_silent : (mode_s mode_ac : List Float) (draws : List ℕ) (cs : List Chunk) (q : Refusal.Refusal) (d : Held) → d.feed.answer ≡ Err q → samples_fed mode_s mode_ac draws d cs ≡ []
unfolding samples_fed fed_of fed_then lend keep
refused_silent mode_s mode_ac draws [] q d e = refl
refused_silent mode_s mode_ac draws (c ∷ cs) q d e =
    ap (λ (f : Fed). take (2 * (f.feed.state.written - d.feed.state.written)) f.output ++ samples_fed mode_s mode_ac draws (keep f) cs) (ap (fed_then mode_s mode_ac draws c.noise (lend c d)) e)
    ∙ ap (λ (n : ℕ). take n c.output ++ samples_fed mode_s mode_ac draws d cs) {x = 2 * (d.feed.state.written - d.feed.state.written)} {y = 0} (omega arith)
    ∙ refused_silent mode_s mode_ac draws cs q d e

module _ (T : Tape) where
  open T use {mode_s, mode_ac, laws, draws}

  -- what was written, and what these chunks then give
  record Gives (z : Machine.State (G T) nan) (b : Bench (G T)) (w : Bench.Stop) (vs : List (NoisePair (G T))) (cs : List Chunk) : Type 0 where
    first : Prefix (plain_output (G T) b.taken b.used ++ samples_fed mode_s mode_ac draws (standing T z b w) cs) (plain_output (G T) (tape T) (vs ++ pairs (noise_in cs)))
    all : (fed_all mode_s mode_ac draws (standing T z b w) cs).feed.answer ≡ Ok Stop.TheVariants.Done
        → plain_output (G T) b.taken b.used ++ samples_fed mode_s mode_ac draws (standing T z b w) cs ≡ plain_output (G T) (tape T) (vs ++ pairs (noise_in cs))

  -- what is written is a first part, whatever noise is put after
  written_first : (b : Bench (G T)) (rest : List (G T).Draw) (vs us : List (NoisePair (G T))) → Stream.At (G T) laws (tape T) b rest vs → Prefix (plain_output (G T) b.taken b.used) (plain_output (G T) (tape T) (vs ++ us))
  written_first b rest vs us at =
      subst (Prefix (plain_output (G T) b.taken b.used)) (λ i. plain_output (G T) (at.draws i) (noise i))
      (samples_prefix (G T) laws nan b rest (at.unused ++ us) at.reached at.accepted)
    where
      noise : b.used ++ (at.unused ++ us) ≡ vs ++ us
      noise = sym (append_assoc b.used at.unused us) ∙ ap (λ (xs : List (NoisePair (G T))). xs ++ us) at.noise

  at_end : (z : Machine.State (G T) nan) (b : Bench (G T)) (w : Bench.Stop) (vs : List (NoisePair (G T))) → Matches (G T) laws nan b z → Stream.Fed (G T) laws (tape T) w b (from T (length b.taken)) vs → Gives z b w vs []
  unfolding samples_fed fed_all noise_in stop_given
  at_end z b w vs h f = record {
    first = subst (λ (xs : List Float). Prefix xs (plain_output (G T) (tape T) (vs ++ []))) (sym (append-nil (plain_output (G T) b.taken b.used))) (written_first b (from T (length b.taken)) vs [] f.at);
    all = λ e. append-nil (plain_output (G T) b.taken b.used) ∙ by w f e ∙ ap (plain_output (G T) (tape T)) (sym (append-nil vs));
  }
    where
      by : (w : Bench.Stop) → Stream.Fed (G T) laws (tape T) w b (from T (length b.taken)) vs → ◌≡◌ {A = (Result Stop.Stop Refusal.Refusal)} (Ok (stop_given w)) (Ok Stop.TheVariants.Done) → plain_output (G T) b.taken b.used ≡ plain_output (G T) (tape T) vs
      by Bench.done f e = ap flatten (Stream.fed_done (G T) laws (tape T) b (from T (length b.taken)) vs f).samples
      by Bench.output_full f e = absurd f.why
      by Bench.wants_noise f e = let q : ◌≡◌ {A = ℕ} 0 1 = cc in absurd (omega arith)
      by Bench.wants_draws f e = let q : ◌≡◌ {A = ℕ} 0 1 = cc in absurd (omega arith)
      by Bench.records_full f e = absurd f.why

  module _ (z : Machine.State (G T) nan) (b : Bench (G T)) (w : Bench.Stop) (c : Chunk) (cs : List Chunk) (vs : List (NoisePair (G T))) (h : Matches (G T) laws nan b z) (roomy : Roomy c) (at : Stream.At (G T) laws (tape T) b (from T (length b.taken)) vs) where
    on_in_range : pairs (noise_in (c ∷ cs)) ≡ pairs c.noise ++ pairs (noise_in cs) → first_out_of_range (G T) 0 c.noise ≡ None
        → Gives (rz T z b w c vs h roomy at).state (rb T z b w c vs h roomy at).bench (rb T z b w c vs h roomy at).stop (vs ++ pairs c.noise) cs → Gives z b w vs (c ∷ cs)
    unfolding samples_fed fed_all
    on_in_range split e later = record {
      first = subst (λ (xs : List Float). Prefix xs (plain_output (G T) (tape T) (vs ++ pairs (noise_in (c ∷ cs))))) (sym given) (subst (λ (us : List (NoisePair (G T))). Prefix next (plain_output (G T) (tape T) us)) (sym fed_is) later.first);
      all = λ q. given ∙ later.all (sym (ap (λ (f : Held). (fed_all mode_s mode_ac draws f cs).feed.answer) (quiet T z b w c vs h roomy at e)) ∙ q) ∙ ap (plain_output (G T) (tape T)) (sym fed_is);
    }
      where
        fed_is : vs ++ pairs (noise_in (c ∷ cs)) ≡ (vs ++ pairs c.noise) ++ pairs (noise_in cs)
        fed_is = ap (λ (us : List (NoisePair (G T))). vs ++ us) split ∙ sym (append_assoc vs (pairs c.noise) (pairs (noise_in cs)))

        after : Held
        after = standing T (rz T z b w c vs h roomy at).state (rb T z b w c vs h roomy at).bench (rb T z b w c vs h roomy at).stop

        next : List Float
        next = plain_output (G T) (rb T z b w c vs h roomy at).bench.taken (rb T z b w c vs h roomy at).bench.used ++ samples_fed mode_s mode_ac draws after cs

        given : plain_output (G T) b.taken b.used ++ samples_fed mode_s mode_ac draws (standing T z b w) (c ∷ cs) ≡ next
        given =
            (λ i. plain_output (G T) b.taken b.used ++ (sampled T z b w c vs h roomy at e i ++ samples_fed mode_s mode_ac draws (quiet T z b w c vs h roomy at e i) cs))
            ∙ sym (append_assoc (plain_output (G T) b.taken b.used) (flatten (rz T z b w c vs h roomy at).samples) (samples_fed mode_s mode_ac draws after cs))
            ∙ ap (λ (xs : List Float). xs ++ samples_fed mode_s mode_ac draws after cs) (sampled_on T z b w c vs h roomy at)

    on_out_of_range : (p : ℕ) → first_out_of_range (G T) 0 c.noise ≡ Some (Bench.wrong_noise p) → Gives z b w vs (c ∷ cs)
    unfolding samples_fed fed_all keep lend
    on_out_of_range p e = record {
      first = subst (λ (xs : List Float). Prefix xs (plain_output (G T) (tape T) (vs ++ pairs (noise_in (c ∷ cs))))) (sym silent) (written_first b (from T (length b.taken)) vs (pairs (noise_in (c ∷ cs))) at);
      all = λ q. let x : ◌≡◌ {A = (Result Stop.Stop Refusal.Refusal)} (Err (refusal_given (Bench.wrong_noise p))) (Ok Stop.TheVariants.Done) = sym answer ∙ q in let y : ◌≡◌ {A = ℕ} 0 1 = cc in absurd (omega arith);
    }
      where
        answer : (fed_all mode_s mode_ac draws (standing T z b w) (c ∷ cs)).feed.answer ≡ Err (refusal_given (Bench.wrong_noise p))
        answer =
            ap (λ (f : Fed). (fed_all mode_s mode_ac draws (keep f) cs).feed.answer) (out_of_range T z b w c vs h roomy at p e)
            ∙ ap (λ (f : Held). f.feed.answer) (refused_stays mode_s mode_ac draws cs (refusal_given (Bench.wrong_noise p)) (refused_at T z b w c vs h roomy at p) refl)

        silent : plain_output (G T) b.taken b.used ++ samples_fed mode_s mode_ac draws (standing T z b w) (c ∷ cs) ≡ plain_output (G T) b.taken b.used
        silent =
            ap (λ (f : Fed). plain_output (G T) b.taken b.used ++ (take (2 * (f.feed.state.written - z.written)) f.output ++ samples_fed mode_s mode_ac draws (keep f) cs)) (out_of_range T z b w c vs h roomy at p e)
            ∙ (λ i. plain_output (G T) b.taken b.used ++ (take (none_new i) c.output ++ refused_silent mode_s mode_ac draws cs (refusal_given (Bench.wrong_noise p)) (refused_at T z b w c vs h roomy at p) refl i))
            ∙ append-nil (plain_output (G T) b.taken b.used)
          where
            none_new : 2 * (z.written - z.written) ≡ 0
            none_new = omega arith

  -- from what opening leaves
  pub fed_samples : Bench.first_fault (G T) 0 (tape T) ≡ None → (c : Chunk) (cs : List Chunk) → Cut (c ∷ cs)
      → Prefix (samples_fed mode_s mode_ac draws (standing T (Machine.opened (G T) nan) (bench0 (G T)) Bench.wants_noise) (c ∷ cs)) (plain_output (G T) (tape T) (pairs (noise_in (c ∷ cs))))
      × ((fed_all mode_s mode_ac draws (standing T (Machine.opened (G T) nan) (bench0 (G T)) Bench.wants_noise) (c ∷ cs)).feed.answer ≡ Ok Stop.TheVariants.Done
      → samples_fed mode_s mode_ac draws (standing T (Machine.opened (G T) nan) (bench0 (G T)) Bench.wants_noise) (c ∷ cs) ≡ plain_output (G T) (tape T) (pairs (noise_in (c ∷ cs))))
  fed_samples clean c cs cut = (subst (λ (xs : List Float). Prefix xs (plain_output (G T) (tape T) (pairs (noise_in (c ∷ cs))))) front r.first, λ q. sym front ∙ r.all q)
    where
      r : Gives (Machine.opened (G T) nan) (bench0 (G T)) Bench.wants_noise [] (c ∷ cs)
      r = all_fed T Gives at_end on_in_range on_out_of_range clean c cs cut

      given : List Float
      given = samples_fed mode_s mode_ac draws (standing T (Machine.opened (G T) nan) (bench0 (G T)) Bench.wants_noise) (c ∷ cs)

      front : plain_output (G T) [] [] ++ given ≡ given
      front = ap (λ (us : List (NoisePair (G T))). flatten (samples_from (G T) [] 0 us) ++ given) (take-nil (G T).total)
