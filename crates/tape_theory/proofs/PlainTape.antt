-- `plain-tape`: what is claimed of a tape holds of each tape whose head begins a run: fed its noise in any cut, it ends, prints and gives what the plain run on all its draws and noise does (`PlainTape` of specs/).
-- `text-alike`, `samples-alike`: so two ways of cutting print and give the same. `section-ends`: so what `tape_run::feed_section` leaves ends as the plain run does.
use Rattle.std.specs.Prelude.{None, Result, Ok}
use Rattle.refusals.specs.declared.Refusal.{Refusal}
use Prim.Native.Nat.{ℕ, ◌+◌, ◌-◌, ◌*◌, ◌/◌, ◌≤◌}
use mathlib.Core.Bool.{Bool, false}
use mathlib.Core.List.{List, ◌∷◌}
use mathlib.Core.Path.{◌≡◌, refl, sym, ap, ◌∙◌, subst}
use native.Mathlib.Omega.{arith}
use lib.ListN.{length, drop, length-drop}
use lib.Seq.{length-take-le}
use lib.Ieee.{Float, nan}
use Rattle.constants.specs.declared.SamplesPerPulse.{SamplesPerPulse}
use Rattle.constants.specs.Setting.{per_pulse}
use Rattle.pulse_shape.specs.Prototype.{mode_s_prototype, mode_ac_prototype}
use Rattle.pulse_shape.proofs.Whole.{length_prototype}
use Rattle.draw.specs.Fault.{first_fault}
use Rattle.run_theory.specs.Generator.{Generator}
use Rattle.run_theory.specs.PlainBench as Bench
use Rattle.run_theory.specs.Laws.{Laws}
use Rattle.run_theory.specs.Demand3.{Prefix, plain_output}
use Rattle.run_call_model.specs.Machine as Machine
use Rattle.run_generator.proofs.InstanceDemand3.{instance_laws}
use Rattle.run_call.specs.ChecksModel.{fault_read}
use Rattle.run_call.proofs.Draws.{fault_same}
use Rattle.run_steps.specs.declared.Stop as Stop
use Rattle.run_call.specs.declared.State.{State}
use Rattle.run_call.specs.StateGenerator.{filters_of, gen_of}
use Rattle.run_call.specs.Given.{stop_given}
use Rattle.run_open.specs.Opening as Opening
use Rattle.run_open.proofs.WhatIsOpened.{opened_run_in_range, opened_first}
use Rattle.tape_sections.specs.Sections.{draws_offset, tape_sps}
use Rattle.tape_head.specs.declared.Beginning.{Beginning}
use Rattle.tape_head.specs.Head.{run_of, taps_s, taps_ac, settings_bytes, opened_from, left_then, head_of}
use Rattle.tape_head.proofs.Within.{draw_bytes, Shown, head_shown, setting_begun}
use Rattle.tape_feed.specs.Verdict.{start_of}
use Rattle.tape_theory.specs.Fed.{Held, Chunk, begun, fed_all, samples_fed}
use Rattle.tape_theory.specs.PlainTape.{plain_ending, plain_text, fed_ending, fed_text, Cut, noise_in, FedCut, PlainTape}
use Rattle.tape_theory.proofs.FedCall.{Tape, standing}
use Rattle.tape_theory.proofs.FedPlain.{fed_ending_lem, fed_text_lem}
use Rattle.tape_theory.proofs.FedSamples.{fed_samples}

-- n draws that lie on a tape from a on
ahead : (a n l : ℕ) → a + 65 * n + 4 ≤ l → 65 * n ≤ l - a
ahead a n l h = omega arith

module _ (tape : List ℕ) (lent : Opening.OpenBuffers) (s : State) (n count : ℕ) (run : (head_of tape lent).head ≡ run_of s n count) where
  -- the samples per pulse of the run, which are those by which the tape is read
  abbrev sps : ℕ
  sps = per_pulse s.setting

  abbrev mode_s : List Float
  mode_s = mode_s_prototype sps (taps_s sps tape)

  abbrev mode_ac : List Float
  mode_ac = mode_ac_prototype sps (taps_ac sps tape)

  abbrev drawn : List ℕ
  drawn = draw_bytes sps tape n

  abbrev G : Generator
  G = gen_of s mode_s mode_ac

  -- what a head that begins a run has shown
  shown : Shown sps tape (opened_from sps tape lent) (record { state = s; draws = n; noise = count })
  shown =
      subst (λ (z : SamplesPerPulse). Shown (per_pulse z) tape (opened_from (per_pulse z) tape lent) (record { state = s; draws = n; noise = count }))
      (sym (setting_begun tape lent s n count run)) (head_shown tape lent s n count run)

  opens : Opening.opened_of (taps_s sps tape) (taps_ac sps tape) (settings_bytes tape) lent ≡ Ok s
  unfolding opened_from
  opens = shown.opens

  clean : Bench.first_fault G 0 (Bench.draws_of G drawn) ≡ None
  unfolding first_fault fault_read
  clean = sym (fault_same s.rates s.distributions (length drawn / 65) 0 drawn) ∙ ap fault_read shown.clean

  draws_length : length drawn ≡ 65 * n
  draws_length =
      length-take-le (65 * n) (drop (draws_offset sps + 4) tape)
      (subst (λ (k : ℕ). 65 * n ≤ k) (sym (length-drop (draws_offset sps + 4) tape)) (ahead (draws_offset sps + 4) n (length tape) shown.within))

  laws : Laws G
  laws =
      let r = opened_run_in_range (taps_s sps tape) (taps_ac sps tape) (settings_bytes tape) lent s opens in
      instance_laws (filters_of s mode_s mode_ac) r.0 s.total r.1

  memory_is : (head_of tape lent).left.memory ≡ (Opening.left_by (taps_s sps tape) (taps_ac sps tape) (Ok s) lent).memory
  unfolding head_of left_then
  memory_is = ap (λ (b : (Result Beginning Refusal)). (left_then tape lent b).memory) run

  -- with these record bytes given for it
  abbrev lent_tape : (records : List ℕ) → 66 * (length drawn / 65) ≤ length records → Tape
  lent_tape records room =
      record {
        state = s;
        mode_s = mode_s;
        mode_ac = mode_ac;
        length_s = length_prototype sps _ (taps_s sps tape);
        length_ac = length_prototype sps _ (taps_ac sps tape);
        laws = laws;
        draws = drawn;
        whole = omega (arith, draws_length);
        few = omega (arith, draws_length, shown.few);
        room = records;
        rooms = room;
      }

  start : (records : List ℕ) (room : 66 * (length drawn / 65) ≤ length records) → begun s (head_of tape lent).left.memory records ≡ standing (lent_tape records room) (Machine.opened G nan) (Bench.bench0 G) Bench.wants_noise
  unfolding begun start_of stop_given
  start records room =
      ap (λ (m : List Float). record { feed = start_of s; memory = m; records = records }) memory_is
      ∙ ap (λ (z : Machine.State G nan). standing (lent_tape records room) z (Bench.bench0 G) Bench.wants_noise)
      (opened_first (taps_s sps tape) (taps_ac sps tape) (settings_bytes tape) lent s opens)

  plain_own : PlainTape s mode_s mode_ac (head_of tape lent).left.memory drawn
  plain_own = record {
    ending = λ records room c cs cut left.
        ap (λ (f : Held). fed_ending left (fed_all mode_s mode_ac drawn f (c ∷ cs))) (start records room) ∙ fed_ending_lem (lent_tape records room) clean c cs cut left;
    text = λ records room c cs cut left.
        ap (λ (f : Held). fed_text left (fed_all mode_s mode_ac drawn f (c ∷ cs))) (start records room) ∙ fed_text_lem (lent_tape records room) clean c cs cut left;
    samples = λ records room c cs cut.
        subst (λ (f : Held). Prefix (samples_fed mode_s mode_ac drawn f (c ∷ cs)) (plain_output G (Bench.draws_of G drawn) (Bench.pairs (noise_in (c ∷ cs))))) (sym (start records room)) (fed_samples (lent_tape records room) clean c cs cut).0;
    all_samples_lem = λ records room c cs cut done.
        ap (λ (f : Held). samples_fed mode_s mode_ac drawn f (c ∷ cs)) (start records room)
        ∙ (fed_samples (lent_tape records room) clean c cs cut).1 (sym (ap (λ (f : Held). (fed_all mode_s mode_ac drawn f (c ∷ cs)).feed.answer) (start records room)) ∙ done);
  }

  pub plain_tape : PlainTape s (mode_s_prototype (tape_sps tape) (taps_s (tape_sps tape) tape)) (mode_ac_prototype (tape_sps tape) (taps_ac (tape_sps tape) tape)) (head_of tape lent).left.memory (draw_bytes (tape_sps tape) tape n)
  plain_tape =
      subst (λ (z : SamplesPerPulse). PlainTape s (mode_s_prototype (per_pulse z) (taps_s (per_pulse z) tape)) (mode_ac_prototype (per_pulse z) (taps_ac (per_pulse z) tape)) (head_of tape lent).left.memory (draw_bytes (per_pulse z) tape n))
      (setting_begun tape lent s n count run) plain_own

-- ---- so two ways of cutting the same noise print the same text, and give the same samples where the run is Done both ways
module _ (s : State) (mode_s mode_ac memory : List Float) (draws : List ℕ) (plain : PlainTape s mode_s mode_ac memory draws)
    (records records' : List ℕ) (room : 66 * (length draws / 65) ≤ length records) (room' : 66 * (length draws / 65) ≤ length records')
    (c c' : Chunk) (cs cs' : List Chunk) (cut : Cut (c ∷ cs)) (cut' : Cut (c' ∷ cs')) (same : noise_in (c ∷ cs) ≡ noise_in (c' ∷ cs')) where
  abbrev after : Held
  after = fed_all mode_s mode_ac draws (begun s memory records) (c ∷ cs)

  abbrev after' : Held
  after' = fed_all mode_s mode_ac draws (begun s memory records') (c' ∷ cs')

  pub text_alike : (left : Bool) → fed_text left after ≡ fed_text left after'
  text_alike left =
      plain.text records room c cs cut left
      ∙ ap (plain_text s mode_s mode_ac left (Bench.draws_of (gen_of s mode_s mode_ac) draws)) same
      ∙ sym (plain.text records' room' c' cs' cut' left)

  pub samples_alike : after.feed.answer ≡ Ok Stop.TheVariants.Done → after'.feed.answer ≡ Ok Stop.TheVariants.Done
      → samples_fed mode_s mode_ac draws (begun s memory records) (c ∷ cs) ≡ samples_fed mode_s mode_ac draws (begun s memory records') (c' ∷ cs')
  samples_alike done done' =
      plain.all_samples_lem records room c cs cut done
      ∙ ap (λ (noise : List Float). plain_output (gen_of s mode_s mode_ac) (Bench.draws_of (gen_of s mode_s mode_ac) draws) (Bench.pairs noise)) same
      ∙ sym (plain.all_samples_lem records' room' c' cs' cut' done')

-- ---- and a run that was fed a whole section, as the contract of `tape_run::feed_section` has it, ends as the plain run on that many noise values does, and prints its text
module _ (s : State) (mode_s mode_ac memory : List Float) (draws : List ℕ) (plain : PlainTape s mode_s mode_ac memory draws) (records : List ℕ) (room : 66 * (length draws / 65) ≤ length records) (count : ℕ) (f : Held) where
  abbrev G' : Generator
  G' = gen_of s mode_s mode_ac

  pub section_ends : FedCut mode_s mode_ac draws count (begun s memory records) false f
      → (noise : List Float) × (length noise ≡ count)
      × ((left : Bool) → (fed_ending left f ≡ plain_ending s mode_s mode_ac left (Bench.draws_of G' draws) noise records) × (fed_text left f ≡ plain_text s mode_s mode_ac left (Bench.draws_of G' draws) noise))
  unfolding FedCut
  section_ends h = (
    noise_in (h.0 ∷ h.1),
    h.4 refl,
    λ left. (ap (fed_ending left) h.3 ∙ plain.ending records room h.0 h.1 h.2 left, ap (fed_text left) h.3 ∙ plain.text records room h.0 h.1 h.2 left),
  )
