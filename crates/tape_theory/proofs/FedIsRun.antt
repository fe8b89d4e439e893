-- Feeding a run its noise in any chunks makes a list of run calls from where it stands, each given state, prototypes and memory as the last left them (`fed-runs`), and the run yields what those calls leave (`fed-all`).
-- So an opened run, fed in any chunks, is a list of calls of which `run_theorem/specs/OpenedRuns` speaks (`fed-opened`).
use Rattle.std.specs.Prelude.{Result, Ok, Err}
use Rattle.run_steps.specs.declared.Stop.{Stop}
use Prim.Native.Nat.{ℕ}
use mathlib.Core.Path.{◌≡◌, refl, sym, ap, ◌∙◌}
use mathlib.Core.List.{List, [], ◌∷◌, map}
use lib.Ieee.{Float}
use Rattle.refusals.specs.declared.Refusal as Refusal
use Rattle.run_call.specs.Buffers.{Left}
use Rattle.run_call.specs.Calls.{runs_left}
use Rattle.run_open.specs.Opening as Opening
use Rattle.run_theorem.specs.Seen.{seen_left, seen_result}
use Rattle.run_theorem.specs.OpenedRuns.{Run, Opens, results}
use Rattle.run_theorem.proofs.Demand3.{opened_runs}
use Rattle.tape_feed.specs.Verdict.{start_of}
use Rattle.tape_feed.specs.FeedModel.{Fed, feed_after, fed_after, called_of, fed_then, fed_of}
use Rattle.tape_theory.specs.Fed.{Held, begun, Chunk, lend, keep, fed_all, lent_for, left_for, held_after, lents, lefts, feed_lefts}

module _ (mode_s mode_ac : List Float) (draws : List ℕ) where
  -- the calls of a feed are run calls, call after call
  pub fed_runs : (cs : List Chunk) (a : (Result Stop Refusal.Refusal)) (d : Held) → runs_left d.feed.state mode_s mode_ac d.memory (lents mode_s mode_ac draws cs a d) ≡ lefts mode_s mode_ac draws cs a d
  unfolding runs_left lents lefts lent_for left_for held_after keep fed_after feed_after
  fed_runs [] a d = refl
  fed_runs (c ∷ cs) (Err q) d = refl
  fed_runs (c ∷ cs) (Ok w) d =
      ap (λ (ls : List Left). left_for mode_s mode_ac draws d c ∷ ls) (fed_runs cs (left_for mode_s mode_ac draws d c).ran.answer (held_after mode_s mode_ac draws d (left_for mode_s mode_ac draws d c)))

  -- once refused, nothing changes
  pub refused_stays : (cs : List Chunk) (q : Refusal.Refusal) (d : Held) → d.feed.answer ≡ Err q → fed_all mode_s mode_ac draws d cs ≡ d
  unfolding fed_all fed_of fed_then lend keep
  refused_stays [] q d e = refl
  refused_stays (c ∷ cs) q d e = ap (λ (x : Fed). fed_all mode_s mode_ac draws (keep x) cs) (ap (fed_then mode_s mode_ac draws c.noise (lend c d)) e) ∙ refused_stays cs q d e

  -- the run yields what the calls leave
  pub fed_all_lem : (cs : List Chunk) (a : (Result Stop Refusal.Refusal)) (d : Held) → d.feed.answer ≡ a → fed_all mode_s mode_ac draws d cs ≡ feed_lefts mode_s mode_ac draws d (lefts mode_s mode_ac draws cs a d)
  unfolding fed_all lefts feed_lefts left_for held_after keep lend fed_of fed_then called_of fed_after feed_after
  fed_all_lem [] a d e = refl
  fed_all_lem (c ∷ cs) (Err q) d e = refused_stays (c ∷ cs) q d e
  fed_all_lem (c ∷ cs) (Ok w) d e =
      ap (λ (x : Fed). fed_all mode_s mode_ac draws (keep x) cs) (ap (fed_then mode_s mode_ac draws c.noise (lend c d)) e)
      ∙ fed_all_lem cs (left_for mode_s mode_ac draws d c).ran.answer (held_after mode_s mode_ac draws d (left_for mode_s mode_ac draws d c)) refl

-- an opened run, fed in any chunks: what is seen of its calls is the plain bench's
module _ (taps_s taps_ac : List Float) (settings : List ℕ) (given : Opening.OpenBuffers) (r : Run) (o : Opens taps_s taps_ac settings given r) (draws records : List ℕ) where
  -- the run that nothing has been fed
  abbrev pub started : Held
  started = begun r.state r.buffers.memory records

  pub fed_opened : (chunks : List Chunk)
      → map seen_left (lefts r.buffers.mode_s r.buffers.mode_ac draws chunks (start_of r.state).answer started)
      ≡ map (seen_result r.state r.buffers.mode_s r.buffers.mode_ac) (results r (lents r.buffers.mode_s r.buffers.mode_ac draws chunks (start_of r.state).answer started))
  unfolding start_of begun
  fed_opened chunks =
      sym (ap (map seen_left) (fed_runs r.buffers.mode_s r.buffers.mode_ac draws chunks (start_of r.state).answer started))
      ∙ (opened_runs taps_s taps_ac settings given r o).answers (lents r.buffers.mode_s r.buffers.mode_ac draws chunks (start_of r.state).answer started)
