-- `tape_in_c` is a term of the claim `TapeInC`: what a tape's calls in C print is the text of the tape, and what they give are its samples.
use Rattle.std.specs.Prelude.{Result, Ok, Err}
use Prim.Native.Nat.{ℕ, zero, suc, ◌+◌, ◌-◌, ◌*◌, ◌/◌, ◌≤◌, ◌<◌}
use mathlib.Core.Bool.{Bool, true, false, cond, not, ◌&&◌}
use mathlib.Core.List.{List, [], ◌∷◌, ◌++◌}
use mathlib.Core.Path.{◌≡◌, refl, sym, ap, ◌∙◌, subst}
use native.Mathlib.Omega.{arith}
use lib.Dec.{T, eqb, ltb, eqb→eq}
use lib.ListN.{length, take, drop, length-take}
use lib.Seq.{take-take, take_all}
use lib.Ieee.{Float}
use borrow.Author.Tests.{ltb-true, ltb-false}
use Rattle.constants.specs.declared.SamplesPerPulse.{SamplesPerPulse}
use Rattle.constants.specs.Setting.{per_pulse}
use Rattle.pulse_shape.specs.Prototype.{mode_s_prototype, mode_ac_prototype}
use Rattle.run_theory.specs.Generator.{Generator}
use Rattle.run_theory.specs.PlainBench.{join, pairs, draws_of}
use Rattle.run_theory.specs.Demand3.{Prefix, plain_output}
use Rattle.run_call.specs.StateGenerator.{gen_of}
use Rattle.refusals.specs.Number.{number_of}
use Rattle.refusals.specs.declared.Refusal.{Refusal}
use Rattle.refusals.specs.declared.Refusal.TheVariants.{Tape}
use Rattle.refusals.specs.Flat.{values_flat}
use Rattle.run_steps.specs.declared.Stop as Stop
use Rattle.run_steps.specs.PlanModel.{stop_read}
use Rattle.run_call.specs.Given.{stop_number}
use Rattle.run_call.specs.declared.State.{State}
use Rattle.run_open.specs.Opening.{OpenBuffers, left_by}
use Rattle.more1090_generator.specs.States.{flat_of}
use Rattle.more1090_generator.proofs.StateBack.{state_back}
use Rattle.more1090_generator.proofs.Demand3.{refusal_above}
use Rattle.tape_sections.specs.Sections.{draws_offset, tape_setting, tape_sps, head_length}
use Rattle.tape_sections.proofs.FirstBytes.{setting_first}
use Rattle.tape_text.specs.Text.{run_text, refused_text}
use Rattle.tape_head.specs.declared.Beginning.{Beginning}
use Rattle.tape_head.specs.Head.{Begun, taps_s, taps_ac, left_then, head_of}
use Rattle.tape_head.proofs.Prefix.{head_of_prefix, length_of_prefix}
use Rattle.tape_head.proofs.Within.{setting_begun}
use Rattle.tape_feed.specs.declared.Feed.{Feed}
use Rattle.tape_feed.specs.Verdict.{start_of, verdict_of, answer_then, stop_then, verdict_number}
use Rattle.tape_feed.specs.FeedModel.{feed_after, fed_after, called_of, fed_then, fed_of}
use Rattle.tape_theory.specs.Fed.{Held, begun, Chunk, lend, keep, fed_all, samples_fed}
use Rattle.tape_theory.specs.PlainTape.{ending_by, ending_text, fed_ending, fed_text, Cut, noise_in, PlainTape}
use Rattle.tape_theory.specs.Reported.{mode_s_of, mode_ac_of}
use Rattle.tape_theory.proofs.PlainTape.{plain_tape}
use Rattle.tape_theory.specs.TapeText.{lent_by_program, Parts, draws_section, behind_count, tape_text}
use Rattle.tape_theory.proofs.TapeText.{refused_text_lem, short_text, tape_text_lem}
use Rattle.more1090_tape.specs.declared.FlatTape.{FlatTape}
use Rattle.more1090_tape.specs.declared.FlatEnding.{FlatEnding}
use Rattle.more1090_tape.specs.Flat.{head_wanted, tape_of, tape_then, tape_flat, feed_from, refused_tape, begun_flat, open_left, FlatFed, fed_out, flat_fed, refused_ending, done_ending, answered_ending, flat_ending, flat_text}
use Rattle.more1090_tape.specs.TapeInC.{FlatHeld, flat_lend, flat_keep, flat_fed_all, flat_samples, printed, Prints, Gives, TapeInC}
use Rattle.more1090_tape.proofs.TakenText.{text_taken}

-- ---- a refusal's number is not 0
not_none : (q : Refusal) → eqb (number_of q) 0 ≡ false
not_none q = go (eqb (number_of q) 0) refl
  where
    go : (b : Bool) → eqb (number_of q) 0 ≡ b → eqb (number_of q) 0 ≡ false
    go true e = absurd (refusal_above q (eqb→eq (number_of q) 0 (subst T (sym e) tt)))
    go false e = e

ending_above : (k : ℕ) → (k ≡ 0 → ⊥) → (bytes : List ℕ) (n samples : ℕ) → ending_text (ending_by k bytes n samples) ≡ refused_text k
unfolding ending_by ending_text
ending_above zero h bytes n samples = absurd (h refl)
ending_above (suc k) h bytes n samples = refl

-- ---- chunks in C's numbers
held_flat : Held → FlatHeld
held_flat d = record { tape = tape_flat d.feed; memory = d.memory; records = d.records }

module _ (mode_s mode_ac : List Float) (draws : List ℕ) where
  fed_step : (c : Chunk) (s : State) (taken n : ℕ) (memory : List Float) (records : List ℕ) (a : Result Stop.Stop Refusal)
      → let d : Held = record { feed = record { state = s; taken = taken; records = n; answer = a }; memory = memory; records = records } in
      flat_fed mode_s mode_ac draws c.noise (flat_lend c (held_flat d)) ≡ fed_out (fed_of mode_s mode_ac draws c.noise (lend c d))
  unfolding flat_fed flat_lend held_flat tape_flat tape_then tape_of feed_from fed_out fed_of fed_then called_of fed_after feed_after lend
  fed_step c s taken n memory records (Ok w) =
      ap (λ (x : State). fed_out (called_of mode_s mode_ac draws c.noise (record { feed = record { state = x; taken = taken; records = n; answer = Ok w }; memory = memory; output = c.output; records = records }))) (state_back s)
  fed_step c s taken n memory records (Err q) =
      let d : Held = record { feed = record { state = s; taken = taken; records = n; answer = Err q }; memory = memory; records = records } in
      ap (λ (b : Bool). cond b (fed_out (called_of mode_s mode_ac draws c.noise (record { feed = feed_from (tape_flat d.feed); memory = memory; output = c.output; records = records }))) (flat_lend c (held_flat d))) (not_none q)

  fed_flat : (cs : List Chunk) (d : Held) → flat_fed_all mode_s mode_ac draws (held_flat d) cs ≡ held_flat (fed_all mode_s mode_ac draws d cs)
  unfolding flat_fed_all fed_all flat_keep keep held_flat fed_out
  fed_flat [] d = refl
  fed_flat (c ∷ cs) d =
      ap (λ (x : FlatFed). flat_fed_all mode_s mode_ac draws (flat_keep x) cs) (fed_step c d.feed.state d.feed.taken d.feed.records d.memory d.records d.feed.answer)
      ∙ fed_flat cs (keep (fed_of mode_s mode_ac draws c.noise (lend c d)))

  -- and the samples that they give are the same
  written_of : (s : State) (taken n : ℕ) (a : Result Stop.Stop Refusal) → (tape_flat (record { state = s; taken = taken; records = n; answer = a })).state.written ≡ s.written
  unfolding tape_flat tape_then tape_of flat_of
  written_of s taken n (Ok w) = refl
  written_of s taken n (Err q) = refl

  written_flat : (f : Feed) → (tape_flat f).state.written ≡ f.state.written
  written_flat f = written_of f.state f.taken f.records f.answer

  samples_flat : (cs : List Chunk) (d : Held) → flat_samples mode_s mode_ac draws (held_flat d) cs ≡ samples_fed mode_s mode_ac draws d cs
  unfolding flat_samples samples_fed flat_keep keep held_flat fed_out
  samples_flat [] d = refl
  samples_flat (c ∷ cs) d =
      let f = fed_of mode_s mode_ac draws c.noise (lend c d) in
      ap (λ (x : FlatFed). take (2 * (x.tape.state.written - (tape_flat d.feed).state.written)) x.output ++ flat_samples mode_s mode_ac draws (flat_keep x) cs) (fed_step c d.feed.state d.feed.taken d.feed.records d.memory d.records d.feed.answer)
      ∙ (λ i. take (2 * (written_flat f.feed i - written_flat d.feed i)) f.output ++ samples_flat cs (keep f) i)

-- a run that stops for 0 is done
stop_done : (w : Stop.Stop) → stop_number w ≡ 0 → w ≡ Stop.TheVariants.Done
unfolding stop_number stop_read
stop_done Stop.TheVariants.Done h = refl
stop_done Stop.TheVariants.OutputFull h = absurd (omega arith)
stop_done Stop.TheVariants.WantsNoise h = absurd (omega arith)
stop_done Stop.TheVariants.WantsDraws h = absurd (omega arith)
stop_done Stop.TheVariants.RecordsFull h = absurd (omega arith)

done_of : (s : State) (taken n : ℕ) (a : Result Stop.Stop Refusal) → (tape_flat (record { state = s; taken = taken; records = n; answer = a })).stop ≡ 0 → a ≡ Ok Stop.TheVariants.Done
unfolding tape_flat tape_then tape_of
done_of s taken n (Ok w) h = ap (λ (x : Stop.Stop). Ok x) (stop_done w h)
done_of s taken n (Err q) h = absurd (omega arith)

-- ---- what is printed of a run that was fed all its noise
printed_by : (t : FlatTape) (end : ℕ) (memory : List Float) (records : List ℕ) (e : FlatEnding) → flat_ending t end ≡ e → printed (record { tape = t; memory = memory; records = records }) end ≡ flat_text e (take (66 * e.records) records)
unfolding printed
printed_by t end memory records e same = ap (λ (x : FlatEnding). flat_text x (take (66 * x.records) records)) same

refused_flat : (t : FlatTape) (k value field : ℕ) (records : List ℕ) → eqb k 0 ≡ false → flat_text (refused_ending t k value field) records ≡ refused_text k
unfolding flat_text refused_ending
refused_flat t k value field records e = ap (λ (b : Bool). cond b (run_text records (length records / 66) t.state.written) (refused_text k)) e

answered_by : (t : FlatTape) (left : Bool) → flat_ending t (cond left 1 0) ≡ answered_ending t left
unfolding flat_ending
answered_by t true = refl
answered_by t false = refl

refused_by : (t : FlatTape) (left : Bool) → eqb t.refusal 0 ≡ false → answered_ending t left ≡ refused_ending t t.refusal t.value t.field
unfolding answered_ending
refused_by t left e = ap (λ (b : Bool). cond b (cond (eqb t.stop 0 && not left) (done_ending t) (refused_ending t (number_of Tape) 0 0)) (refused_ending t t.refusal t.value t.field)) e

refused_printed : (t : FlatTape) (left : Bool) (memory : List Float) (records : List ℕ) → eqb t.refusal 0 ≡ false → printed (record { tape = t; memory = memory; records = records }) (cond left 1 0) ≡ refused_text t.refusal
refused_printed t left memory records e =
    printed_by t (cond left 1 0) memory records (refused_ending t t.refusal t.value t.field) (answered_by t left ∙ refused_by t left e)
    ∙ refused_flat t t.refusal t.value t.field _ e

-- of a run with this answer
stop_printed : (s : State) (taken n : ℕ) (memory : List Float) (records : List ℕ) (w : Stop.Stop) (left : Bool)
    → let d : Held = record { feed = record { state = s; taken = taken; records = n; answer = Ok w }; memory = memory; records = records } in
    printed (held_flat d) (cond left 1 0) ≡ fed_text left d
unfolding printed held_flat tape_flat tape_then tape_of flat_ending answered_ending refused_ending done_ending flat_text flat_of stop_number stop_read fed_text fed_ending verdict_of answer_then stop_then verdict_number number_of ending_by ending_text
stop_printed s taken n memory records Stop.TheVariants.Done true = refl
stop_printed s taken n memory records Stop.TheVariants.Done false = text_taken n s.written records
stop_printed s taken n memory records Stop.TheVariants.OutputFull true = refl
stop_printed s taken n memory records Stop.TheVariants.OutputFull false = refl
stop_printed s taken n memory records Stop.TheVariants.WantsNoise true = refl
stop_printed s taken n memory records Stop.TheVariants.WantsNoise false = refl
stop_printed s taken n memory records Stop.TheVariants.WantsDraws true = refl
stop_printed s taken n memory records Stop.TheVariants.WantsDraws false = refl
stop_printed s taken n memory records Stop.TheVariants.RecordsFull true = refl
stop_printed s taken n memory records Stop.TheVariants.RecordsFull false = refl

answer_printed : (s : State) (taken n : ℕ) (memory : List Float) (records : List ℕ) (a : Result Stop.Stop Refusal) (left : Bool)
    → let d : Held = record { feed = record { state = s; taken = taken; records = n; answer = a }; memory = memory; records = records } in
    printed (held_flat d) (cond left 1 0) ≡ fed_text left d
unfolding held_flat tape_flat tape_then tape_of fed_text fed_ending verdict_of answer_then verdict_number
answer_printed s taken n memory records (Ok w) left = stop_printed s taken n memory records w left
answer_printed s taken n memory records (Err q) left =
    refused_printed (tape_of (record { state = s; taken = taken; records = n; answer = Err q }) 5 (number_of q) (values_flat q).value (values_flat q).field) left memory records (not_none q)
    ∙ sym (ending_above (number_of q) (refusal_above q) records n s.written)

fed_printed : (d : Held) (left : Bool) → printed (held_flat d) (cond left 1 0) ≡ fed_text left d
fed_printed d left = answer_printed d.feed.state d.feed.taken d.feed.records d.memory d.records d.feed.answer left

-- ---- the head
module _ (tape : List ℕ) (lent : OpenBuffers) (k : ℕ) where
  -- a first part that is shorter than asked for is the whole tape
  whole_if : (n : ℕ) → length (take k tape) < n → n ≤ k → head_of (take k tape) lent ≡ head_of tape lent
  whole_if n h g = ap (λ (l : List ℕ). head_of l lent) (take_all k tape (omega (arith, length-take k tape)))

  -- and one that has the head begins with it
  within : 128 ≤ k → draws_offset (tape_sps (take k tape)) + 4 ≤ k → head_length (take k tape) ≤ k → head_of (take k tape) lent ≡ head_of tape lent
  within wide counted long =
      let same : head_length (take k tape) ≡ head_length tape = length_of_prefix tape k (subst (λ (z : SamplesPerPulse). draws_offset (per_pulse z) + 4 ≤ k) (setting_first k tape wide) counted) in
      sym (head_of_prefix (take k tape) lent)
      ∙ ap (λ (n : ℕ). head_of (take n (take k tape)) lent) same
      ∙ ap (λ (l : List ℕ). head_of l lent) (take-take (head_length tape) k tape (subst (λ (n : ℕ). n ≤ k) same long))
      ∙ head_of_prefix tape lent

  head_read : head_wanted (take k tape) ≤ k → head_of (take k tape) lent ≡ head_of tape lent
  unfolding head_wanted
  head_read h = settings (ltb (length (take k tape)) 128) refl
    where
      counted : ℕ
      counted = draws_offset (tape_sps (take k tape)) + 4

      taps : 128 ≤ length (take k tape) → cond (ltb (length (take k tape)) counted) counted (head_length (take k tape)) ≤ k → (b : Bool) → ltb (length (take k tape)) counted ≡ b → head_of (take k tape) lent ≡ head_of tape lent
      taps wide g true e = whole_if counted (ltb-true (length (take k tape)) counted e) (subst (λ (b : Bool). cond b counted (head_length (take k tape)) ≤ k) e g)
      taps wide g false e =
          let long : counted ≤ length (take k tape) = ltb-false (length (take k tape)) counted e in
          within (omega (arith, length-take k tape)) (omega (arith, length-take k tape)) (subst (λ (b : Bool). cond b counted (head_length (take k tape)) ≤ k) e g)

      settings : (b : Bool) → ltb (length (take k tape)) 128 ≡ b → head_of (take k tape) lent ≡ head_of tape lent
      settings true e = whole_if 128 (ltb-true (length (take k tape)) 128 e) (subst (λ (b : Bool). cond b 128 (cond (ltb (length (take k tape)) counted) counted (head_length (take k tape))) ≤ k) e h)
      settings false e = taps (ltb-false (length (take k tape)) 128 e) (subst (λ (b : Bool). cond b 128 (cond (ltb (length (take k tape)) counted) counted (head_length (take k tape))) ≤ k) e h) (ltb (length (take k tape)) counted) refl

-- ---- a tape that is opened with what its program lends
module _ (tape : List ℕ) where
  lent : OpenBuffers
  lent = lent_by_program (tape_setting tape)

  -- a head that is refused
  prints_refused : (q : Refusal) → (head_of tape lent).head ≡ Err q → (left : OpenBuffers) → Prints tape (record { beginning = begun_flat (Err q); left = left })
  unfolding begun_flat refused_tape lent
  prints_refused q e left = record {
    refused = λ h memory records. refused_printed (refused_tape q) false memory records (not_none q) ∙ refused_text_lem tape q e;
    short = λ h l d. absurd (refusal_above q h);
    whole = λ h. absurd (refusal_above q h);
  }

  -- one that begins a run
  module _ (s : State) (n count : ℕ) (e : (head_of tape lent).head ≡ Ok (record { state = s; draws = n; noise = count })) where
    at : draws_offset (per_pulse s.setting) + 4 ≡ draws_offset (tape_sps tape) + 4
    unfolding lent
    at = ap (λ (z : SamplesPerPulse). draws_offset (per_pulse z) + 4) (setting_begun tape lent s n count e)

    draws_same : take (65 * n) (drop (draws_offset (per_pulse s.setting) + 4) tape) ≡ draws_section tape n
    unfolding draws_section
    draws_same = ap (λ (x : ℕ). take (65 * n) (drop x tape)) at

    noise_same : drop (draws_offset (per_pulse s.setting) + 4 + 65 * n + 4) tape ≡ behind_count tape n
    unfolding behind_count
    noise_same = ap (λ (x : ℕ). drop (x + 65 * n + 4) tape) at

    left_same : (head_of tape lent).left ≡ left_by (taps_s (per_pulse s.setting) tape) (taps_ac (per_pulse s.setting) tape) (Ok s) lent
    unfolding head_of left_then
    left_same = ap (left_then tape lent) e

    mode_s_same : (head_of tape lent).left.mode_s ≡ mode_s_prototype (tape_sps tape) (taps_s (tape_sps tape) tape)
    unfolding left_by lent
    mode_s_same = ap (λ (b : OpenBuffers). b.mode_s) left_same ∙ ap (λ (z : SamplesPerPulse). mode_s_prototype (per_pulse z) (taps_s (per_pulse z) tape)) (setting_begun tape lent s n count e)

    mode_ac_same : (head_of tape lent).left.mode_ac ≡ mode_ac_prototype (tape_sps tape) (taps_ac (tape_sps tape) tape)
    unfolding left_by lent
    mode_ac_same = ap (λ (b : OpenBuffers). b.mode_ac) left_same ∙ ap (λ (z : SamplesPerPulse). mode_ac_prototype (per_pulse z) (taps_ac (per_pulse z) tape)) (setting_begun tape lent s n count e)

    begun_held : List ℕ → FlatHeld
    begun_held records = held_flat (begun s (head_of tape lent).left.memory records)

    -- its run, fed in C's numbers, is the run that the tape program feeds
    fed_same : (records : List ℕ) (cs : List Chunk) → flat_fed_all (head_of tape lent).left.mode_s (head_of tape lent).left.mode_ac (take (65 * n) (drop (draws_offset (per_pulse s.setting) + 4) tape)) (begun_held records) cs
        ≡ held_flat (fed_all (mode_s_prototype (tape_sps tape) (taps_s (tape_sps tape) tape)) (mode_ac_prototype (tape_sps tape) (taps_ac (tape_sps tape) tape)) (draws_section tape n) (begun s (head_of tape lent).left.memory records) cs)
    unfolding begun_held
    fed_same records cs =
        (λ i. flat_fed_all (mode_s_same i) (mode_ac_same i) (draws_same i) (begun_held records) cs)
        ∙ fed_flat (mode_s_prototype (tape_sps tape) (taps_s (tape_sps tape) tape)) (mode_ac_prototype (tape_sps tape) (taps_ac (tape_sps tape) tape)) (draws_section tape n) cs (begun s (head_of tape lent).left.memory records)

    -- so it prints the text: behind the draws there may stand less than the noise, as much, or more
    whole_printed : (behind : List ℕ) → behind ≡ behind_count tape n → 4 * count ≤ length behind → (records : List ℕ) → 26400 ≤ length records → (c : Chunk) (cs : List Chunk) → Cut (c ∷ cs)
        → (bs : List (List ℕ)) → Parts bs (c ∷ cs) → join bs ≡ take (4 * count) behind
        → printed (flat_fed_all (head_of tape lent).left.mode_s (head_of tape lent).left.mode_ac (take (65 * n) (drop (draws_offset (per_pulse s.setting) + 4) tape)) (begun_held records) (c ∷ cs)) (cond (ltb (4 * count) (length behind)) 1 0) ≡ tape_text tape
    unfolding lent
    whole_printed behind there room records rooms c cs cut bs parts read =
        (λ i. printed (fed_same records (c ∷ cs) i) (cond (ltb (4 * count) (length (there i))) 1 0))
        ∙ fed_printed _ (ltb (4 * count) (length (behind_count tape n)))
        ∙ tape_text_lem tape s n count e (subst (λ (l : List ℕ). 4 * count ≤ length l) there room) records rooms c cs cut bs parts (read ∙ ap (take (4 * count)) there)

    prints_run : Prints tape (record { beginning = begun_flat (Ok (record { state = s; draws = n; noise = count })); left = (head_of tape lent).left })
    unfolding begun_flat begun_held held_flat begun start_of tape_flat tape_then tape_of printed flat_ending refused_ending flat_text number_of lent
    prints_run = record {
      refused = λ h memory records. absurd (h refl);
      short = λ h l d. short_text tape s n count e (subst (λ (x : List ℕ). length x < 4 * count) noise_same l);
      whole = λ h room records rooms c cs cut bs parts read. whole_printed _ noise_same room records rooms c cs cut bs parts read;
    }

    draws_room : (records : List ℕ) → 66 * (length (take (65 * n) (drop (draws_offset (per_pulse s.setting) + 4) tape)) / 65) ≤ length records → 66 * (length (draws_section tape n) / 65) ≤ length records
    draws_room records room = subst (λ (l : List ℕ). 66 * (length l / 65) ≤ length records) draws_same room

    given_same : (records : List ℕ) (cs : List Chunk) → flat_samples (head_of tape lent).left.mode_s (head_of tape lent).left.mode_ac (take (65 * n) (drop (draws_offset (per_pulse s.setting) + 4) tape)) (begun_held records) cs
        ≡ samples_fed (mode_s_of tape) (mode_ac_of tape) (draws_section tape n) (begun s (head_of tape lent).left.memory records) cs
    unfolding begun_held
    given_same records cs =
        (λ i. flat_samples (mode_s_same i) (mode_ac_same i) (draws_same i) (begun_held records) cs)
        ∙ samples_flat (mode_s_of tape) (mode_ac_of tape) (draws_section tape n) cs (begun s (head_of tape lent).left.memory records)

    abbrev G : Generator
    G = gen_of s (mode_s_of tape) (mode_ac_of tape)

    plain_same : (noise : List Float) → plain_output G (draws_of G (take (65 * n) (drop (draws_offset (per_pulse s.setting) + 4) tape))) (pairs noise) ≡ plain_output G (draws_of G (draws_section tape n)) (pairs noise)
    plain_same noise = ap (λ (l : List ℕ). plain_output G (draws_of G l) (pairs noise)) draws_same

    plainly : PlainTape s (mode_s_of tape) (mode_ac_of tape) (head_of tape lent).left.memory (draws_section tape n)
    unfolding draws_section lent
    plainly = plain_tape tape lent s n count e

    gives_run : Gives tape (record { beginning = begun_flat (Ok (record { state = s; draws = n; noise = count })); left = (head_of tape lent).left }) s
    unfolding begun_flat begun_held held_flat begun start_of tape_flat tape_then tape_of
    gives_run = record {
      first = λ records room c cs cut.
          subst (λ (l : List Float). Prefix (flat_samples (head_of tape lent).left.mode_s (head_of tape lent).left.mode_ac (take (65 * n) (drop (draws_offset (per_pulse s.setting) + 4) tape)) (begun_held records) (c ∷ cs)) l) (sym (plain_same (noise_in (c ∷ cs))))
          (subst (λ (l : List Float). Prefix l (plain_output G (draws_of G (draws_section tape n)) (pairs (noise_in (c ∷ cs))))) (sym (given_same records (c ∷ cs))) (plainly.samples records (draws_room records room) c cs cut));
      all_given = λ records room c cs cut stop.
          let f = (fed_all (mode_s_of tape) (mode_ac_of tape) (draws_section tape n) (begun s (head_of tape lent).left.memory records) (c ∷ cs)).feed in
          given_same records (c ∷ cs)
          ∙ plainly.all_samples_lem records (draws_room records room) c cs cut (done_of f.state f.taken f.records f.answer (subst (λ (h : FlatHeld). h.tape.stop ≡ 0) (fed_same records (c ∷ cs)) stop))
          ∙ sym (plain_same (noise_in (c ∷ cs)));
    }

    opened_gives : Gives tape (open_left tape lent) s
    unfolding open_left
    opened_gives = subst (λ (r : Result Beginning Refusal). Gives tape (record { beginning = begun_flat r; left = (head_of tape lent).left }) s) (sym e) gives_run

  prints_of : (r : Result Beginning Refusal) → (head_of tape lent).head ≡ r → Prints tape (record { beginning = begun_flat r; left = (head_of tape lent).left })
  prints_of (Ok b) e = prints_run b.state b.draws b.noise e
  prints_of (Err q) e = prints_refused q e (head_of tape lent).left

  opened_prints : Prints tape (open_left tape lent)
  unfolding open_left
  opened_prints = prints_of (head_of tape lent).head refl

pub tape_in_c : (tape : List ℕ) → TapeInC tape
unfolding open_left lent
tape_in_c tape = record {
  read = λ given k h. ap (λ (b : Begun). record { beginning = begun_flat b.head; left = b.left }) (head_read tape given k h);
  prints = opened_prints tape;
  gives = opened_gives tape;
}
