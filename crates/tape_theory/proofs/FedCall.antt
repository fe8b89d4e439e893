-- One chunk of a tape's noise, fed to a run that stands where the machine and the plain bench do: it is refused for its noise alone (`out_of_range`), and else the run stands where they do after the call (`quiet`).
-- So what holds at the end, over a chunk and at a refusal holds of any chunks from what opening leaves (`all-fed`).
use Rattle.std.specs.Prelude.{Option, Some, None}
use Rattle.std.specs.Prelude.{Ok, Err}
use Prim.Native.Nat.{ℕ, zero, suc, ◌+◌, ◌-◌, ◌*◌, ◌/◌, ◌%◌, ◌^◌, ◌≤◌, ◌<◌}
use mathlib.Core.Bool.{Bool, true, false, cond, ◌||◌}
use mathlib.Core.List.{List, [], ◌∷◌, ◌++◌, map, append-nil, append_assoc}
use mathlib.Core.Path.{◌≡◌, refl, sym, ap, ◌∙◌, subst}
use native.Mathlib.Omega.{arith}
use native.Mathlib.Nat.{mod-eq_of_lt}
use borrow.Author.Tests.{eq-eqb, ne_eqb}
use lib.Dec.{eqb, lit<}
use lib.ListN.{length, take, drop, length-append, length-drop, take-append-drop}
use lib.Seq.{drop_at, drop-drop}
use lib.Ieee.{Float, nan}
use Rattle.constants.specs.Setting.{per_pulse}
use Rattle.constants.specs.Rate.{prototype_length}
use Rattle.run_theory.specs.Generator.{Generator, NoisePair}
use Rattle.run_theory.specs.PlainRun.{Kind, ignored, ends, reply, Reply, kind, time_of, push, replies, plain_samples, plain_records}
use Rattle.run_theory.specs.PlainBench as Bench
use Rattle.run_theory.specs.PlainBench.{pairs, flatten, join, over, draws_of, first_out_of_range, Remaining, remaining_of, Bench, bench0, Benched, bench_steps, fuel}
use Rattle.run_theory.specs.Laws.{Laws}
use Rattle.run_theory.specs.Demand3.{plain_lines, plain_output}
use Rattle.run_call_model.specs.Machine as Machine
use Rattle.run_call_model.proofs.FlatLists.{AllOf, length_pairs, flatten_pairs, pairs_after, length_flatten, flatten_append, join_append, length_join, take_over, drop_over, length_over, length_draws, draws_cons}
use Rattle.run_call_model.proofs.InStep.{Matches, matches_first, Kept, loop_kept}
use Rattle.run_call_model.proofs.LatestTime.{refusal_alike}
use Rattle.run_theory.proofs.Reached.{reached_first}
use Rattle.run_theory.proofs.Refusals.{accepted_draws, accepted_if}
use Rattle.run_call_model.proofs.Counted.{Moved, moved, Counted, counted}
use Rattle.run_call.specs.declared.State.{State}
use Rattle.run_call.specs.StateGenerator.{gen_of}
use Rattle.run_call.specs.Given.{stop_given, refusal_given}
use Rattle.run_call.specs.MachineModel.{state_of, ran_given, left_given}
use Rattle.run_call.proofs.RunIsTheModels.{run_is}
use Rattle.tape_feed.specs.FeedModel.{Fed, feed_after, fed_after, called_of, fed_then, fed_of}
use Rattle.tape_theory.specs.Fed.{Held, Chunk, lend, keep}
use Rattle.tape_theory.specs.PlainTape.{out_of_range_in, Roomy, Cut, noise_in}
use Rattle.tape_theory.proofs.FedBench as Stream

-- ---- lists
module _ {X : Type 0} where
  -- one part written behind another
  over_over : (n : ℕ) (xs ys buffer : List X) → length xs ≡ n → take n (over xs buffer) ++ over ys (drop n (over xs buffer)) ≡ over (xs ++ ys) buffer
  over_over n xs ys buffer e =
      (λ i. take_over n xs buffer e i ++ over ys (drop_over n xs buffer e i))
      ∙ ap (λ (zs : List X). xs ++ (ys ++ zs)) (drop-drop (length ys) n buffer ∙ ap (λ (k : ℕ). drop k buffer) {x = n + length ys} {y = length (xs ++ ys)} (omega (arith, length-append xs ys)))
      ∙ sym (append_assoc xs ys (drop (length (xs ++ ys)) buffer))

  pairs_append : (n : ℕ) (xs ys : List X) → length xs ≡ 2 * n → pairs (xs ++ ys) ≡ pairs xs ++ pairs ys
  pairs_append n xs ys e = ap (λ (zs : List X). pairs (zs ++ ys)) (sym (flatten_pairs n xs e)) ∙ pairs_after (pairs xs) ys

-- ---- noise
-- what a chunk's refusal says of its noise
module _ (G : Generator) where
  open G use {Value, out_of_range}

  abbrev pub Reads : Option Bench.Refusal → Bool → Type 0
  Reads None b = b ≡ false
  Reads (Some Bench.wrong_length) b = ⊥
  Reads (Some (Bench.wrong_draw d f)) b = ⊥
  Reads (Some (Bench.wrong_noise p)) b = b ≡ true

  pub out_of_range_read : (j : ℕ) (vs : List Value) → Reads (first_out_of_range G j vs) (out_of_range_in G vs)
  unfolding out_of_range_in
  out_of_range_read j [] = refl
  out_of_range_read j (v ∷ vs) = go (out_of_range v) (out_of_range_read (suc j) vs)
    where
      go : (b : Bool) → Reads (first_out_of_range G (suc j) vs) (out_of_range_in G vs) → Reads (cond b (Some (Bench.wrong_noise j)) (first_out_of_range G (suc j) vs)) (b || out_of_range_in G vs)
      go true h = refl
      go false h = h

  pub out_of_range_append : (xs ys : List Value) → out_of_range_in G (xs ++ ys) ≡ (out_of_range_in G xs || out_of_range_in G ys)
  unfolding out_of_range_in
  out_of_range_append [] ys = refl
  out_of_range_append (x ∷ xs) ys = ap (λ (b : Bool). out_of_range x || b) (out_of_range_append xs ys) ∙ or_assoc (out_of_range x) (out_of_range_in G xs) (out_of_range_in G ys)
    where
      or_assoc : (a b c : Bool) → (a || (b || c)) ≡ ((a || b) || c)
      or_assoc true b c = refl
      or_assoc false b c = refl

-- ---- records of the plain run: one for each of some of the draws, of 66 bytes
module _ (G : Generator) where
  open G use {Draw, Time, t0, after, record_bytes}

  few_replies : (t : Time) (ds : List Draw) → length (replies G t ds) ≤ length ds
  few_replies t [] = omega arith
  few_replies t (d ∷ ds) = go (kind G (after t d) d) (few_replies (after t d) ds)
    where
      go : (k : Kind) → length (replies G (after t d) ds) ≤ length ds → length (push G k (after t d) d (replies G (after t d) ds)) ≤ suc (length ds)
      go ignored h = omega arith
      go ends h = omega arith
      go (reply s) h = omega arith

  length_map : {X Y : Type 0} (f : X → Y) (xs : List X) → length (map f xs) ≡ length xs
  length_map f [] = refl
  length_map f (x ∷ xs) = ap suc (length_map f xs)

  pub few_records : (ds : List Draw) → length (plain_records G ds) ≤ length ds
  few_records ds = omega (arith, length_map (λ (r : Reply G). r.line) (replies G t0 ds), few_replies t0 ds)

  module _ (L : Laws G) where
    pub all_lines : (t : Time) (ds : List Draw) → AllOf record_bytes (map (λ (r : Reply G). r.line) (replies G t ds))
    all_lines t [] = tt
    all_lines t (d ∷ ds) = go (kind G (after t d) d) (all_lines (after t d) ds)
      where
        go : (k : Kind) → AllOf record_bytes (map (λ (r : Reply G). r.line) (replies G (after t d) ds)) → AllOf record_bytes (map (λ (r : Reply G). r.line) (push G k (after t d) d (replies G (after t d) ds)))
        go ignored h = h
        go ends h = tt
        go (reply s) h = (L.entry_length (after t d) d s _, h)

    length_lines : (ds : List Draw) → length (plain_lines G ds) ≡ record_bytes * length (plain_records G ds)
    length_lines ds = length_join record_bytes (plain_records G ds) (all_lines t0 ds)

-- ---- a tape: what its run was opened with, its draws' bytes, and the record bytes that are given, with room for a record of each draw
pub record Tape : Type 1 where
  pub state : State
  pub mode_s : List Float
  pub mode_ac : List Float
  pub length_s : length mode_s ≡ prototype_length (per_pulse state.setting)
  pub length_ac : length mode_ac ≡ prototype_length (per_pulse state.setting)
  pub laws : Laws (gen_of state mode_s mode_ac)
  pub draws : List ℕ
  pub whole : length draws % 65 ≡ 0
  pub few : length draws < 2 ^ 64
  pub room : List ℕ
  pub rooms : 66 * (length draws / 65) ≤ length room

module _ (T : Tape) where
  open T use {state, mode_s, mode_ac, length_s, length_ac, laws, draws, whole, few, room, rooms}

  abbrev pub G : Generator
  G = gen_of state mode_s mode_ac

  abbrev pub tape : List G.Draw
  tape = draws_of G draws

  -- the draws from draw k on
  abbrev pub from : ℕ → List G.Draw
  from k = draws_of G (drop (65 * k) draws)

  from_drop : (k : ℕ) (bytes : List ℕ) → 65 * k ≤ length bytes → draws_of G (drop (65 * k) bytes) ≡ drop k (draws_of G bytes)
  from_drop zero bytes h = refl
  from_drop (suc k) bytes h =
      ap (draws_of G) (ap (λ (n : ℕ). drop n bytes) {x = 65 * suc k} {y = 65 + 65 * k} (omega arith) ∙ sym (drop-drop (65 * k) 65 bytes))
      ∙ from_drop k (drop 65 bytes) (omega (arith, length-drop 65 bytes))
      ∙ ap (drop (suc k)) (sym (draws_cons G bytes (lit< tt) (omega arith)))

  -- a run that was fed, where the machine and the bench stand at z and b and the last call stopped with w
  abbrev pub standing : Machine.State G nan → Bench G → Bench.Stop → Held
  standing z b w = record {
    feed = record { state = state_of state mode_s mode_ac z; taken = length b.taken; records = length (plain_records G b.taken); answer = Ok (stop_given w) };
    memory = z.memory;
    records = over (plain_lines G b.taken) room;
  }

  module _ (z : Machine.State G nan) (b : Bench G) (w : Bench.Stop) (c : Chunk) (vs : List (NoisePair G)) (h : Matches G laws nan b z) (roomy : Roomy c)
      (at : Stream.At G laws tape b (from (length b.taken)) vs) where
    abbrev k : ℕ
    k = length b.taken

    abbrev r : ℕ
    r = length (plain_records G b.taken)

    abbrev call : Bench.Call G
    call = record { draws = drop (65 * k) draws; noise = c.noise; output = c.output; records = drop (66 * r) (over (plain_lines G b.taken) room) }

    abbrev lent : Remaining G
    lent = remaining_of G call

    in_tape : k + length (from k) ≡ length draws / 65
    in_tape = sym (length-append b.taken (from k)) ∙ ap length at.draws ∙ length_draws G draws

    lines_in : length (plain_lines G b.taken) ≤ length room
    lines_in = omega (arith, length_lines G laws b.taken, few_records G b.taken, in_tape, rooms)

    more : length lent.noise < lent.room
    more = omega (arith, length_pairs c.noise, roomy.0, roomy.1)

    rows : length lent.draws ≤ lent.slots
    rows = omega (arith, length-drop (66 * r) (over (plain_lines G b.taken) room), length_over (plain_lines G b.taken) room lines_in, few_records G b.taken, in_tape, rooms)

    -- the call is refused for its noise alone
    lengths_right : Bench.wrong_lengths G call ≡ false
    lengths_right = rw (some_output, even_output, whole_draws)
      where
        some_output : eqb (length c.output) 0 ≡ false
        some_output = ne_eqb (length c.output) 0 (λ e. omega (arith, e, roomy.1))

        even_output : eqb (length c.output % 2) 0 ≡ true
        even_output = eq-eqb (length c.output % 2) 0 roomy.0

        whole_draws : eqb (length (drop (65 * k) draws) % 65) 0 ≡ true
        whole_draws = eq-eqb (length (drop (65 * k) draws) % 65) 0 (omega (arith, length-drop (65 * k) draws, whole))

    refused_for : Bench.refusal_of G z.time (Some z.mark) call ≡ first_out_of_range G 0 c.noise
    refused_for =
        ap (λ (t : G.Time). Bench.refusal_of G t (Some z.mark) call) h.time
        ∙ refusal_alike G laws (time_of G G.t0 b.taken) b.mark z.mark call at.reached.good h.mark
        ∙ (λ i. cond (lengths_right i) (Some Bench.wrong_length) (Bench.or_else G (accepted_if G (time_of G G.t0 b.taken) b.mark (from k) at.accepted i) (first_out_of_range G 0 c.noise)))

    -- a chunk is a call of the machine
    fed_once : (x : Option Bench.Refusal) → first_out_of_range G 0 c.noise ≡ x
        → fed_of mode_s mode_ac draws c.noise (lend c (standing z b w))
        ≡ fed_after (standing z b w).feed (standing z b w).records (left_given state mode_s mode_ac (Bench.result_of G call (Machine.machine_call G nan z call x).0) (Machine.machine_call G nan z call x).1)
    unfolding fed_of fed_then called_of lend left_given ran_given
    fed_once x e =
        ap (fed_after (standing z b w).feed (standing z b w).records)
        (run_is (state_of state mode_s mode_ac z) mode_s mode_ac z.memory call h.fit length_s length_ac
        ∙ ap (λ (q : Option Bench.Refusal). left_given state mode_s mode_ac (Bench.result_of G call (Machine.machine_call G nan z call q).0) (Machine.machine_call G nan z call q).1) (refused_for ∙ e))

    -- a refused one leaves the run as it is, but for its answer
    abbrev pub refused_at : ℕ → Held
    refused_at p = record {
      feed = record { state = state_of state mode_s mode_ac z; taken = k; records = r; answer = Err (refusal_given (Bench.wrong_noise p)) };
      memory = z.memory;
      records = over (plain_lines G b.taken) room;
    }

    pub out_of_range : (p : ℕ) → first_out_of_range G 0 c.noise ≡ Some (Bench.wrong_noise p)
        → fed_of mode_s mode_ac draws c.noise (lend c (standing z b w))
        ≡ lend c (refused_at p)
    unfolding lend fed_after feed_after left_given ran_given
    out_of_range p e =
        fed_once (Some (Bench.wrong_noise p)) e
        ∙ (λ i. record {
          feed = record { state = state_of state mode_s mode_ac z; taken = same k (omega (arith, in_tape, few)) i; records = same r (omega (arith, in_tape, few, few_records G b.taken)) i; answer = Err (refusal_given (Bench.wrong_noise p)) };
          memory = z.memory;
          output = c.output;
          records = take-append-drop (66 * r) (over (plain_lines G b.taken) room) i;
        })
      where
        same : (n : ℕ) → n < 2 ^ 64 → (n + 0) % 2 ^ 64 ≡ n
        same n lt = ap (λ (m : ℕ). m % 2 ^ 64) {x = n + 0} {y = n} (omega arith) ∙ mod-eq_of_lt lt

    abbrev pub rb : Benched G
    rb = bench_steps G (fuel G lent) b lent

    abbrev pub rz : Machine.Ran G nan
    rz = Machine.machine_steps G nan (fuel G lent) z lent

    pub kept : Kept G laws nan b rb rz
    kept = loop_kept G laws nan (fuel G lent) b z lent at.reached h at.accepted

    m : Moved G b lent rb
    m = moved G (fuel G lent) b lent

    n : Counted G nan lent rz
    n = counted G nan (fuel G lent) z lent

    length_taken : length rb.bench.taken + length rb.rest.draws ≡ length draws / 65
    length_taken = omega (arith, in_tape, ap length m.taken, length-append b.taken m.tk, ap length m.draws, length-append m.tk rb.rest.draws)

    taken_is : (k + (length lent.draws - length rz.rest.draws)) % 2 ^ 64 ≡ length rb.bench.taken
    taken_is =
        mod-eq_of_lt (omega (arith, in_tape, few))
        ∙ omega (arith, ap (λ (x : Remaining G). length x.draws) kept.rest, length_taken, in_tape, n.draws)

    records_is : (r + (lent.slots - rz.rest.slots)) % 2 ^ 64 ≡ length (plain_records G rb.bench.taken)
    records_is = mod-eq_of_lt (omega (arith, sum, few_records G rb.bench.taken, length_taken, few)) ∙ sum
      where
        sum : r + (lent.slots - rz.rest.slots) ≡ length (plain_records G rb.bench.taken)
        sum = omega (arith, n.slots, ap length kept.records, length-append (plain_records G b.taken) rz.records)

    buffer_is : take (66 * r) (over (plain_lines G b.taken) room) ++ over (join rz.records) (drop (66 * r) (over (plain_lines G b.taken) room)) ≡ over (plain_lines G rb.bench.taken) room
    buffer_is =
        over_over (66 * r) (plain_lines G b.taken) (join rz.records) room (length_lines G laws b.taken)
        ∙ ap (λ (ls : List ℕ). over ls room) (sym (join_append (plain_records G b.taken) rz.records) ∙ ap join kept.records)

    -- a chunk that is not refused
    pub quiet : first_out_of_range G 0 c.noise ≡ None → keep (fed_of mode_s mode_ac draws c.noise (lend c (standing z b w))) ≡ standing rz.state rb.bench rb.stop
    unfolding keep fed_after feed_after left_given ran_given
    quiet e =
        ap keep (fed_once None e)
        ∙ (λ i. record {
          feed = record { state = state_of state mode_s mode_ac rz.state; taken = taken_is i; records = records_is i; answer = Ok (stop_given (kept.stop i)) };
          memory = rz.state.memory;
          records = buffer_is i;
        })

    -- the samples that it brings
    pub sampled : first_out_of_range G 0 c.noise ≡ None → (let f = fed_of mode_s mode_ac draws c.noise (lend c (standing z b w)) in take (2 * (f.feed.state.written - z.written)) f.output) ≡ flatten rz.samples
    unfolding fed_after feed_after left_given ran_given
    sampled e =
        ap (λ (f : Fed). take (2 * (f.feed.state.written - z.written)) f.output) (fed_once None e)
        ∙ take_over (2 * (rz.state.written - z.written)) (flatten rz.samples) c.output
        (length_flatten rz.samples
        ∙ omega (arith, kept.matches.written, h.written, ap length m.used, length-append b.used m.us, ap length m.noise, length-append m.us rb.rest.noise, n.noise, ap (λ (x : Remaining G). length x.noise) kept.rest))

    pub sampled_on : plain_output G b.taken b.used ++ flatten rz.samples ≡ plain_output G rb.bench.taken rb.bench.used
    sampled_on = sym (flatten_append (plain_samples G b.taken b.used) rz.samples) ∙ ap flatten kept.samples

    -- the draws that are left are those of the tape
    left_from : rb.bench.taken ++ rb.rest.draws ≡ tape → rb.rest.draws ≡ from (length rb.bench.taken)
    left_from e =
        sym (drop_at rb.bench.taken rb.rest.draws (length rb.bench.taken) refl)
        ∙ ap (drop (length rb.bench.taken)) e
        ∙ sym (from_drop (length rb.bench.taken) draws (omega (arith, length_taken)))

    -- the bench after the call
    abbrev After : Type 0
    After = Stream.Fed G laws tape rb.stop rb.bench rb.rest.draws (vs ++ pairs c.noise)

    after_first : at.unused ≡ [] → After
    after_first e = Stream.fed_first G laws tape b (from k) vs lent at e refl more rows

    after_on : Stream.Fed G laws tape w b (from k) vs → After
    after_on f = Stream.fed_on G laws tape w b (from k) vs lent f refl more rows

    after_from : After → Stream.Fed G laws tape rb.stop rb.bench (from (length rb.bench.taken)) (vs ++ pairs c.noise)
    after_from f = subst (λ (ds : List G.Draw). Stream.Fed G laws tape rb.stop rb.bench ds (vs ++ pairs c.noise)) (left_from f.at.draws) f

  -- ---- all chunks
  cut_on : (c : Chunk) (cs : List Chunk) → Cut (c ∷ cs) → Roomy c × Cut cs × (pairs (noise_in (c ∷ cs)) ≡ pairs c.noise ++ pairs (noise_in cs))
  unfolding Cut noise_in
  cut_on c [] h = (h, tt, ap pairs (append-nil c.noise) ∙ sym (append-nil (pairs c.noise)))
  cut_on c (d ∷ cs) h = (h.1, h.2, pairs_append (length c.noise / 2) c.noise (noise_in (d ∷ cs)) (omega (arith, h.0)))

  -- P holds of a run that stands so, was fed vs, and is then fed these chunks: it does where it holds with none left, over a chunk that is not refused if of the rest, and before a refused one
  module _ (P : Machine.State G nan → Bench G → Bench.Stop → List (NoisePair G) → List Chunk → Type 0)
      (at_end : (z : Machine.State G nan) (b : Bench G) (w : Bench.Stop) (vs : List (NoisePair G)) → Matches G laws nan b z → Stream.Fed G laws tape w b (from (length b.taken)) vs → P z b w vs [])
      (on_in_range : (z : Machine.State G nan) (b : Bench G) (w : Bench.Stop) (c : Chunk) (cs : List Chunk) (vs : List (NoisePair G)) (h : Matches G laws nan b z) (roomy : Roomy c) (at : Stream.At G laws tape b (from (length b.taken)) vs)
      → pairs (noise_in (c ∷ cs)) ≡ pairs c.noise ++ pairs (noise_in cs) → first_out_of_range G 0 c.noise ≡ None
      → P (rz z b w c vs h roomy at).state (rb z b w c vs h roomy at).bench (rb z b w c vs h roomy at).stop (vs ++ pairs c.noise) cs → P z b w vs (c ∷ cs))
      (on_out_of_range : (z : Machine.State G nan) (b : Bench G) (w : Bench.Stop) (c : Chunk) (cs : List Chunk) (vs : List (NoisePair G)) (h : Matches G laws nan b z) (roomy : Roomy c) (at : Stream.At G laws tape b (from (length b.taken)) vs)
      → (p : ℕ) → first_out_of_range G 0 c.noise ≡ Some (Bench.wrong_noise p) → P z b w vs (c ∷ cs)) where
    abbrev Goes : List Chunk → Type 0
    Goes cs = (z : Machine.State G nan) (b : Bench G) (w : Bench.Stop) (vs : List (NoisePair G)) → Matches G laws nan b z → Stream.Fed G laws tape w b (from (length b.taken)) vs → P z b w vs cs

    one_chunk : (c : Chunk) (cs : List Chunk) → Goes cs → Cut (c ∷ cs) → (z : Machine.State G nan) (b : Bench G) (w : Bench.Stop) (vs : List (NoisePair G)) (h : Matches G laws nan b z) (roomy : Roomy c) (at : Stream.At G laws tape b (from (length b.taken)) vs)
        → After z b w c vs h roomy at → P z b w vs (c ∷ cs)
    one_chunk c cs later cut z b w vs h roomy at after = go (first_out_of_range G 0 c.noise) refl (out_of_range_read G 0 c.noise)
      where
        go : (x : Option Bench.Refusal) → first_out_of_range G 0 c.noise ≡ x → Reads G x (out_of_range_in G c.noise) → P z b w vs (c ∷ cs)
        go None e q =
            on_in_range z b w c cs vs h roomy at (cut_on c cs cut).2 e
            (later (rz z b w c vs h roomy at).state (rb z b w c vs h roomy at).bench (rb z b w c vs h roomy at).stop (vs ++ pairs c.noise) (kept z b w c vs h roomy at).matches (after_from z b w c vs h roomy at after))
        go (Some Bench.wrong_length) e q = absurd q
        go (Some (Bench.wrong_draw d f)) e q = absurd q
        go (Some (Bench.wrong_noise p)) e q = on_out_of_range z b w c cs vs h roomy at p e

    rest_fed : (cs : List Chunk) → Cut cs → Goes cs
    rest_fed [] cut z b w vs h f = at_end z b w vs h f
    rest_fed (c ∷ cs) cut z b w vs h f =
        let roomy = (cut_on c cs cut).0 in
        one_chunk c cs (rest_fed cs (cut_on c cs cut).1) cut z b w vs h roomy f.at (after_on z b w c vs h roomy f.at f)

    -- from what opening leaves, over one chunk and any others
    pub all_fed : Bench.first_fault G 0 tape ≡ None → (c : Chunk) (cs : List Chunk) → Cut (c ∷ cs) → P (Machine.opened G nan) (bench0 G) Bench.wants_noise [] (c ∷ cs)
    all_fed clean c cs cut =
        let roomy = (cut_on c cs cut).0 in
        one_chunk c cs (rest_fed cs (cut_on c cs cut).1) cut (Machine.opened G nan) (bench0 G) Bench.wants_noise [] (matches_first G laws nan) roomy at
        (after_first (Machine.opened G nan) (bench0 G) Bench.wants_noise c [] (matches_first G laws nan) roomy at refl)
      where
        not_refused : (ds : List G.Draw) → Bench.first_fault G 0 ds ≡ None → Bench.draw_refusal G G.t0 None ds ≡ None
        not_refused [] e = refl
        not_refused (d ∷ ds) e = e

        at : Stream.At G laws tape (bench0 G) (from 0) []
        at = record { reached = reached_first G laws; accepted = accepted_draws G G.t0 None tape (not_refused tape clean); draws = refl; unused = []; noise = refl }
