-- What a head and the section that is fed behind it give is right to report (`reported-refused`, `reported-run`); what a report says in the plain run's terms (`reported-plainly`); that only a run that is done writes records (`others-leave`), 400 at most (`few-reported`);
-- and that what the program passes to opening has the lengths that opening asks for at the samples per pulse of the settings (`lent_fits`).
use Rattle.std.specs.Prelude.{Result, Ok, Err}
use Rattle.refusals.specs.Number.{number_of}
use Rattle.refusals.specs.declared.Refusal.{Refusal}
use Rattle.refusals.specs.declared.Refusal.TheVariants.{Duration, Rate, Total, Distribution, Taps, Prototype, Draw, Noise, Length, Reply, Tape, StretchLength, Level, TriggerLevel, SamplesPerPulse as OtherSetting, Log, Feeds, Record}
use Prim.Native.Nat.{ℕ, zero, suc, ◌+◌, ◌-◌, ◌*◌, ◌/◌, ◌≤◌}
use mathlib.Core.Bool.{Bool, true, false, cond}
use mathlib.Core.List.{List}
use mathlib.Core.Path.{◌≡◌, refl, sym, ap, ◌∙◌, subst}
use native.Mathlib.Omega.{arith}
use lib.Dec.{lit≤}
use lib.ListN.{length, take, drop, length-take, replicate, length-replicate}
use lib.Ieee.{Float, binary32, of_bits}
use Rattle.std.proofs.lemmas.List.{take-replicate}
use Rattle.constants.specs.declared.SamplesPerPulse.{SamplesPerPulse}
use Rattle.constants.specs.declared.SamplesPerPulse.TheVariants.{Four, Eight}
use Rattle.constants.specs.Setting.{per_pulse}
use Rattle.constants.specs.Rate.{prototype_length, working_memory}
use Rattle.pulse_shape.specs.Prototype.{mode_s_prototype, mode_ac_prototype}
use Rattle.run_theory.specs.Zeros.{zeros}
use Rattle.run_theory.specs.PlainRun.{plain_records}
use Rattle.run_theory.specs.PlainBench.{draws_of}
use Rattle.run_call_model.proofs.FlatLists.{length_draws}
use Rattle.run_call.specs.declared.State.{State}
use Rattle.run_call.specs.StateGenerator.{gen_of}
use Rattle.run_open.specs.Opening.{OpenBuffers, left_by}
use Rattle.run_open.specs.FirstCause.{BuffersFit}
use Rattle.settings.specs.Accepted.{setting_at}
use Rattle.tape_head.specs.declared.Beginning.{Beginning}
use Rattle.tape_sections.specs.Sections.{draws_offset, tape_setting, tape_sps}
use Rattle.tape_head.specs.Head.{run_of, taps_s, taps_ac, settings_bytes, Begun, left_then, head_of}
use Rattle.tape_head.proofs.Setting.{setting_is}
use Rattle.tape_head.proofs.Within.{head_within, setting_begun}
use Rattle.tape_feed.specs.declared.Feed.{Feed}
use Rattle.tape_feed.specs.declared.SectionEnd as SectionEnd
use Rattle.tape_feed.specs.declared.Outcome as Outcome
use Rattle.tape_feed.specs.Verdict.{is_cut_short, start_of, verdict_of, verdict_number, judged_of, outcome_of, outcome_done}
use Rattle.tape_theory.specs.Fed.{Held, begun}
use Rattle.tape_theory.specs.PlainTape.{Ending, refused, ending_by, ending_text, plain_ending, fed_ending, fed_text, FedCut}
use Rattle.tape_theory.specs.TapeText.{lent_by_program, draws_section}
use Rattle.tape_theory.specs.Reported.{mode_s_of, mode_ac_of, head_read, memory_left, records_lent, records_left, records_in, Reported, head_refused, run, Says, outcome_text, PlainlyReported, number_refused, not_taken, cut_short, plain}
use Rattle.tape_theory.proofs.FedCall.{few_records}
use Rattle.tape_theory.proofs.PlainTape.{plain_tape, section_ends}

-- ---- what the program lends fits, so that refusal 9 cannot come from a tape
length_zeros : (n : ℕ) → length (zeros n) ≡ n
length_zeros n = length-replicate n _

pub lent_fits : (tape : List ℕ) (z : SamplesPerPulse) → setting_at (settings_bytes tape) ≡ Ok z → BuffersFit z (lent_by_program (tape_setting tape))
unfolding lent_by_program
lent_fits tape z e =
    subst (λ (y : SamplesPerPulse). BuffersFit y (lent_by_program (tape_setting tape))) (sym (setting_is tape z e))
    (record { mode_s_is = length_zeros _; mode_ac_is = length_zeros _; memory_is = length_zeros _ })

-- the first n of a row of 0.0, as code writes them
abbrev row_of : ℕ → ℕ → List Float
row_of n most = take n (replicate most (of_bits binary32 0))

row_is : (n most : ℕ) → n ≤ most → row_of n most ≡ zeros n
unfolding of_bits
row_is n most h = take-replicate n most _ h

-- what is lent is at most what is lent at 8 samples per pulse
few_values : (z : SamplesPerPulse) → prototype_length (per_pulse z) ≤ 3584
few_values Four = lit≤ tt
few_values Eight = lit≤ tt

few_slots : (z : SamplesPerPulse) → working_memory (per_pulse z) ≤ 4502
few_slots Four = lit≤ tt
few_slots Eight = lit≤ tt

-- a head that is given such rows is opened with what the program lends
pub opened_with : (b : Begun) (tape : List ℕ) (mode_s mode_ac memory : List Float) {setting : SamplesPerPulse} {n k m : ℕ} → b ≡ head_of tape (record { mode_s = mode_s; mode_ac = mode_ac; memory = memory }) → setting ≡ tape_setting tape
    → n ≡ prototype_length (per_pulse setting) → k ≡ prototype_length (per_pulse setting) → m ≡ working_memory (per_pulse setting) → mode_s ≡ row_of n 3584 → mode_ac ≡ row_of k 3584 → memory ≡ row_of m 4502
    → b ≡ head_of tape (lent_by_program (tape_setting tape))
unfolding lent_by_program
opened_with b tape mode_s mode_ac memory {setting} {n} {k} {m} e same f g h p q r =
    let of_s : mode_s ≡ zeros (prototype_length (per_pulse setting)) = p ∙ ap (λ (x : ℕ). row_of x 3584) f ∙ row_is _ 3584 (few_values setting) in
    let of_ac : mode_ac ≡ zeros (prototype_length (per_pulse setting)) = q ∙ ap (λ (x : ℕ). row_of x 3584) g ∙ row_is _ 3584 (few_values setting) in
    let slots : memory ≡ zeros (working_memory (per_pulse setting)) = r ∙ ap (λ (x : ℕ). row_of x 4502) h ∙ row_is _ 4502 (few_slots setting) in
    e ∙ (λ i. head_of tape (record { mode_s = of_s i; mode_ac = of_ac i; memory = slots i })) ∙ ap (λ (z : SamplesPerPulse). head_of tape (lent_by_program z)) same

-- ---- what is right to report
pub reported_refused : (tape : List ℕ) (b : Begun) → b ≡ head_of tape (lent_by_program (tape_setting tape)) → (q : Refusal) → b.head ≡ Err q → (before : List ℕ) → Reported (Outcome.TheVariants.Refused q 0) before before
reported_refused tape b e q h before = head_refused tape q (sym (ap (λ (x : Begun). x.head) e) ∙ h) refl refl

module _ (tape : List ℕ) (s : State) (n count : ℕ) (mode_s mode_ac memory : List Float) (head : (Result Beginning Refusal))
    (e : record { head = head; left = record { mode_s = mode_s; mode_ac = mode_ac; memory = memory } } ≡ head_of tape (lent_by_program (tape_setting tape))) (h : head ≡ run_of s n count) where
  head_begins : head_read tape ≡ run_of s n count
  head_begins = sym (ap (λ (x : Begun). x.head) e) ∙ h

  -- the prototypes that are left are those of the tape
  left_is : ◌≡◌ {A = OpenBuffers} (record { mode_s = mode_s; mode_ac = mode_ac; memory = memory }) (record { mode_s = mode_s_of tape; mode_ac = mode_ac_of tape; memory = zeros (working_memory (per_pulse s.setting)) })
  unfolding head_of left_then left_by
  left_is =
      let same = setting_begun tape (lent_by_program (tape_setting tape)) s n count head_begins in
      ap (λ (x : Begun). x.left) e
      ∙ ap (left_then tape (lent_by_program (tape_setting tape))) head_begins
      ∙ λ i. record { mode_s = mode_s_prototype (per_pulse (same i)) (taps_s (per_pulse (same i)) tape); mode_ac = mode_ac_prototype (per_pulse (same i)) (taps_ac (per_pulse (same i)) tape); memory = zeros (working_memory (per_pulse s.setting)) }

  module _ (at : ℕ) (offset : at ≡ draws_offset (tape_sps tape)) (first f : Feed) (starts : first ≡ start_of s) (before written records' : List ℕ) (memory' : List Float) (end : SectionEnd.SectionEnd) (r : Outcome.Outcome)
      (own : written ≡ before) (room : records_lent ≡ length written)
      (fed : FedCut mode_s mode_ac (take (at + 4 + 65 * n - (at + 4)) (drop (at + 4) tape)) count (record { feed = first; memory = memory; records = written }) (is_cut_short end) (record { feed = f; memory = memory'; records = records' })) where
    pub reported_run : (after : List ℕ) → r ≡ outcome_of end f → after ≡ records_left r records' before → Reported r before after
    unfolding begun draws_section
    reported_run after er ea =
        run tape s n count head_begins (sym (room ∙ ap length own)) (record { feed = f; memory = memory'; records = records' }) end
        (subst (λ (X : Type 0). X)
        (λ i. FedCut (left_is i).mode_s (left_is i).mode_ac (draws i) count (record { feed = starts i; memory = (e i).left.memory; records = own i }) (is_cut_short end) (record { feed = f; memory = memory'; records = records' }))
        fed)
        er ea
      where
        draws : take (at + 4 + 65 * n - (at + 4)) (drop (at + 4) tape) ≡ take (65 * n) (drop (draws_offset (tape_sps tape) + 4) tape)
        draws = ap (λ (k : ℕ). take k (drop (at + 4) tape)) {x = at + 4 + 65 * n - (at + 4)} {y = 65 * n} (omega arith) ∙ ap (λ (k : ℕ). take (65 * n) (drop (k + 4) tape)) offset

-- ---- only a run that is done writes records
pub others_leave : (r : Outcome.Outcome) (before after : List ℕ) → outcome_done r ≡ false → Reported r before after → after ≡ before
unfolding records_left
others_leave r before after not_done (head_refused tape q h er ea) = ea
others_leave r before after not_done (run tape s n count h room f end fed er ea) = ea ∙ ap (λ (b : Bool). cond b f.records before) not_done

-- ---- in the plain run's terms: an outcome by a verdict says the ending by it
-- a refusal's number is not 0
refused_by_lem : (q : Refusal) (bytes : List ℕ) (records samples : ℕ) → ending_by (number_of q) bytes records samples ≡ refused (number_of q)
unfolding ending_by number_of
refused_by_lem Duration bytes records samples = refl
refused_by_lem (Rate k) bytes records samples = refl
refused_by_lem Total bytes records samples = refl
refused_by_lem (Distribution k) bytes records samples = refl
refused_by_lem Taps bytes records samples = refl
refused_by_lem Prototype bytes records samples = refl
refused_by_lem (Draw k field) bytes records samples = refl
refused_by_lem (Noise k) bytes records samples = refl
refused_by_lem Length bytes records samples = refl
refused_by_lem Reply bytes records samples = refl
refused_by_lem Tape bytes records samples = refl
refused_by_lem StretchLength bytes records samples = refl
refused_by_lem Level bytes records samples = refl
refused_by_lem TriggerLevel bytes records samples = refl
refused_by_lem OtherSetting bytes records samples = refl
refused_by_lem Log bytes records samples = refl
refused_by_lem Feeds bytes records samples = refl
refused_by_lem (Record k) bytes records samples = refl

module _ (r : Outcome.Outcome) (f : Held) (before after : List ℕ) (ea : after ≡ records_left r f.records before) where
  says_by : (v : (Result (Unit {0}) Refusal)) → r ≡ judged_of v f.feed
      → Says (ending_by (verdict_number v) f.records f.feed.records f.feed.state.written) r before after × (outcome_text r after ≡ ending_text (ending_by (verdict_number v) f.records f.feed.records f.feed.state.written))
  unfolding judged_of verdict_number ending_by ending_text outcome_text outcome_done records_left
  says_by (Ok u) e =
      let kept : after ≡ f.records = ea ∙ ap (λ (o : Outcome.Outcome). records_left o f.records before) e in
      ((e, kept), (λ i. outcome_text (e i) (kept i)))
  says_by (Err q) e =
      let by = sym (refused_by_lem q f.records f.feed.records f.feed.state.written) in (
        subst (λ (x : Ending). Says x r before after) by (q, f.feed.state.written, e, refl, ea ∙ ap (λ (o : Outcome.Outcome). records_left o f.records before) e),
        ap (λ (o : Outcome.Outcome). outcome_text o after) e ∙ ap ending_text by,
      )

-- room for a record of each draw
rooms : (tape : List ℕ) (s : State) (n count : ℕ) → head_read tape ≡ run_of s n count → (before : List ℕ) → length before ≡ records_lent → 66 * (length (draws_section tape n) / 65) ≤ length before
unfolding draws_section
rooms tape s n count begins before room = omega (arith, room, length-take (65 * n) (drop (draws_offset (tape_sps tape) + 4) tape), (head_within tape (lent_by_program (tape_setting tape)) s n count begins).0)

pub reported_plainly : (r : Outcome.Outcome) (before after : List ℕ) → Reported r before after → PlainlyReported r before after
unfolding outcome_of is_cut_short verdict_of verdict_number fed_ending fed_text outcome_done records_left ending_by number_of draws_section
reported_plainly r before after (head_refused tape q h er ea) = number_refused tape q h (q, 0, er, refl, ea)
reported_plainly r before after (run tape s n count begins room f end fed er ea) = go end fed er
  where
    read : (left : Bool) → FedCut (mode_s_of tape) (mode_ac_of tape) (draws_section tape n) count (begun s (memory_left tape) before) false f → r ≡ judged_of (verdict_of false f.feed.answer left) f.feed → PlainlyReported r before after
    read left whole e =
        let t = section_ends s (mode_s_of tape) (mode_ac_of tape) (memory_left tape) (draws_section tape n) (plain_tape tape (lent_by_program (tape_setting tape)) s n count begins) before (rooms tape s n count begins before room) count f whole in
        let q = says_by r f before after ea (verdict_of false f.feed.answer left) e in
        plain tape s n count begins t.0 t.1 left (subst (λ (x : Ending). Says x r before after) (t.2 left).0 q.0) (q.1 ∙ (t.2 left).1)

    go : (x : SectionEnd.SectionEnd) → FedCut (mode_s_of tape) (mode_ac_of tape) (draws_section tape n) count (begun s (memory_left tape) before) (is_cut_short x) f → r ≡ outcome_of x f.feed → PlainlyReported r before after
    go SectionEnd.TheVariants.Whole cut e = read false cut e
    go SectionEnd.TheVariants.LeftOver cut e = read true cut e
    go SectionEnd.TheVariants.Short cut e = cut_short tape s n count begins (says_by r f before after ea (Err Tape) e).0
    go (SectionEnd.TheVariants.Untaken why) cut e = not_taken why e (ea ∙ ap (λ (o : Outcome.Outcome). records_left o f.records before) e)

-- ---- a tape has 400 draws at most, so that 26,400 bytes hold the records reported
few_said : (v : ℕ) (bytes : List ℕ) (records samples : ℕ) (r : Outcome.Outcome) (before after : List ℕ) → records ≤ 400 → Says (ending_by v bytes records samples) r before after → records_in r ≤ 400
unfolding ending_by
few_said zero bytes records samples r before after few q = omega (arith, ap records_in q.0)
few_said (suc v) bytes records samples r before after few q = omega (arith, ap records_in q.2)

pub few_reported : (r : Outcome.Outcome) (before after : List ℕ) → Reported r before after → records_in r ≤ 400
unfolding plain_ending draws_section
few_reported r before after h = go (reported_plainly r before after h)
  where
    go : PlainlyReported r before after → records_in r ≤ 400
    go (number_refused tape w e q) = omega (arith, ap records_in q.2)
    go (not_taken why e q) = omega (arith, ap records_in e)
    go (cut_short tape s n count e q) = omega (arith, ap records_in q.2)
    go (plain tape s n count e noise all left q text) =
        let G = gen_of s (mode_s_of tape) (mode_ac_of tape) in
        few_said _ _ (length (plain_records G (draws_of G (draws_section tape n)))) s.total r before after
        (omega (arith, few_records G (draws_of G (draws_section tape n)), length_draws G (draws_section tape n), length-take (65 * n) (drop (draws_offset (tape_sps tape) + 4) tape), (head_within tape (lent_by_program (tape_setting tape)) s n count e).0)) q
