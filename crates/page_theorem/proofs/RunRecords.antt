-- `RunRecordsAccepted` holds: each record is of a reply of a draw in range, which starts below 2^52 and adds to at most 1,094 samples at 4 samples per pulse, and 2,187 at 8.
use Rattle.std.specs.Prelude.{Some, None}
use Prim.Native.Nat.{ℕ, suc, ◌+◌, ◌*◌, ◌/◌, ◌%◌, ◌^◌, ◌≤◌}
use mathlib.Core.Path.{◌≡◌, refl, sym, ap, ◌∙◌, subst}
use mathlib.Core.Bool.{Bool, true, cond}
use mathlib.Core.List.{List, [], ◌∷◌, ◌++◌, map}
use native.Mathlib.Omega.{arith}
use lib.Ieee.{Float, nan}
use lib.ListN.{length, drop, length-append}
use lib.Seq.{drop_at}
use native.Mathlib.Nat.{le_trans}
use lib.Dec.{lit≤}
use Rattle.constants.specs.Rate.{reply_limit}
use Rattle.constants.specs.Setting.{per_pulse}
use Rattle.constants.specs.declared.SamplesPerPulse.{SamplesPerPulse}
use Rattle.constants.specs.declared.SamplesPerPulse.TheVariants.{Four, Eight}
use Rattle.run_theory.specs.Generator.{Generator}
use Rattle.run_theory.specs.PlainRun.{reply, Reply, kind, reply_of, replies}
use Rattle.run_theory.specs.PlainBench as Bench
use Rattle.run_theory.specs.Laws.{Laws, AllInRange}
use Rattle.run_theory.specs.Demand3.{plain_lines}
use Rattle.run_theory.proofs.Reach.{all_replies}
use Rattle.run_call_model.proofs.Demand3 as Model
use Rattle.run_generator.specs.Instance.{Filters, RepresentableDraw, draws, instance_of}
use Rattle.run_generator.proofs.FiltersInRange.{FiltersInRange}
use Rattle.run_generator.proofs.InstanceDrawLaws.{fields, below_52}
use Rattle.run_generator.proofs.InstanceDemand3.{instance_laws}
use Rattle.run_generator.proofs.ReplyBytes.{made_bytes}
use Rattle.draw.specs.Config.{type_drawn, kind_drawn, bytes_drawn, config_with, config_of}
use Rattle.message.specs.Types.{type_numbered}
use Rattle.message.specs.Making.{kind_of}
use Rattle.reply_record.specs.Record.{message_length, record_bytes}
use Rattle.reply_record.proofs.RecordLength.{record_length_lem}
use Rattle.run_call.specs.StateGenerator.{filters_of}
use Rattle.run_call.specs.Buffers.{CallBuffers}
use Rattle.run_open.specs.Opening as Opening
use Rattle.run_open.proofs.WhatIsOpened.{opened_run_in_range}
use Rattle.run_theorem.specs.OpenedRuns.{Run, Opens, gen, bench, bench_calls, records_written}
use Rattle.run_theorem.proofs.Demand3.{opened_runs}
use Rattle.record_check.specs.Accepted.{accepted}
use Rattle.record_check.specs.FirstFault.{fault_from, first_fault}
use Rattle.record_check.proofs.Accepting.{accepts_in_range}
use Rattle.page_theorem.specs.RunRecords.{RunRecordsAccepted}
use Rattle.page_theorem.proofs.RecordFields.{type_sized, record_in_range}

config_bytes : (f : Filters) (t : Float) (d : RepresentableDraw) → length (config_of f.distributions t d.draw).reply.bytes ≡ 14
unfolding config_of config_with bytes_drawn
config_bytes f t d = made_bytes (type_drawn (type_numbered d.draw.kind)) d.draw.picks

sized : (f : Filters) (t : Float) (d : RepresentableDraw) {n : ℕ} → message_length (kind_of (type_drawn (type_numbered d.draw.kind))) ≡ n → message_length (config_of f.distributions t d.draw).reply.kind ≡ n
unfolding config_of config_with kind_drawn
sized f t d e = e

-- one accepted record in front of others
in_front : (r rest : List ℕ) (n k : ℕ) → length r ≡ 66 → accepted (r ++ rest) ≡ true → fault_from n rest (k + 1) ≡ None → fault_from (suc n) (r ++ rest) k ≡ None
unfolding fault_from
in_front r rest n k h e more =
    ap (λ (b : Bool). cond b (fault_from n (drop 66 (r ++ rest)) (k + 1)) (Some k)) e
    ∙ ap (λ (l : List ℕ). fault_from n l (k + 1)) (drop_at r rest 66 h)
    ∙ more

-- a count has four digits at both settings
limit_few : (s : SamplesPerPulse) → reply_limit (per_pulse s) ≤ 9999
limit_few Four = lit≤ tt
limit_few Eight = lit≤ tt

module _ (f : Filters) (R : FiltersInRange f) (total : ℕ) (few : total ≤ 2 ^ 52) where
  abbrev G : Generator
  G = instance_of f total

  abbrev L : Laws G
  L = instance_laws f R total few

  abbrev lines : List (Reply G) → List ℕ
  lines rs = Bench.join (map (λ r. r.line) rs)

  record Right (rs : List (Reply G)) : Type 0 where
    size : length (lines rs) ≡ 66 * length rs
    none_at_fault : (k : ℕ) → fault_from (length rs) (lines rs) k ≡ None

  no_reply : Right []
  unfolding fault_from
  no_reply = record { size = refl; none_at_fault = λ k. refl }

  one_more : (t : Float) (d : RepresentableDraw) (s : ℕ) → L.Good t → (draws f).fault d ≡ None → kind G t d ≡ reply s → (rs : List (Reply G)) → Right rs → Right (reply_of G t d s ∷ rs)
  one_more t d s g h e rs q =
      let c = config_of f.distributions t d.draw in
      let n = length ((draws f).adds t d s) in
      let line = record_bytes c s d.draw.kind n in
      let size : length line ≡ 66 = record_length_lem c s d.draw.kind n (config_bytes f t d) in
      let i = fields f R total few d h in
      let typed = type_sized d.draw.kind i.message_type i.known in
      let short : n ≤ 9999 = le_trans (L.short t d s g h e) (limit_few f.setting) in
      record {
        size = length-append line (lines rs) ∙ omega (arith, size, q.size);
        none_at_fault = λ k.
            in_front line (lines rs) (length rs) k size
            (accepts_in_range (line ++ lines rs) (record_in_range c s d.draw.kind n (lines rs) (config_bytes f t d) (omega (arith, below_52 f R total few t d s e)) typed.0 (omega arith) (sized f t d typed.1)))
            (q.none_at_fault (k + 1));
      }

  all_right : (ds : List RepresentableDraw) → AllInRange G ds → Right (replies G G.t0 ds)
  all_right ds h = all_replies G L Right no_reply one_more G.t0 ds L.good_first h

  pub accepted_lines : (ds : List RepresentableDraw) → AllInRange G ds → (length (plain_lines G ds) % 66 ≡ 0) × (first_fault (plain_lines G ds) ≡ None)
  unfolding first_fault
  accepted_lines ds h =
      let q = all_right ds h in
      let m = length (replies G G.t0 ds) in
      let e : length (plain_lines G ds) / 66 ≡ m = omega (arith, q.size) in
      (omega (arith, q.size), ap (λ (n : ℕ). fault_from n (plain_lines G ds) 0) e ∙ q.none_at_fault 0)

-- ---- an opened run
module _ (taps_s taps_ac : List Float) (settings : List ℕ) (given : Opening.OpenBuffers) (r : Run) (o : Opens taps_s taps_ac settings given r) where
  filters_in_range : FiltersInRange (filters_of r.state r.buffers.mode_s r.buffers.mode_ac)
  unfolding Opening.left_by
  filters_in_range =
      subst (λ (b : Opening.OpenBuffers). FiltersInRange (filters_of r.state b.mode_s b.mode_ac)) (sym o.leaves) (opened_run_in_range taps_s taps_ac settings given r.state o.answers).0

  few : r.state.total ≤ 2 ^ 52
  few = (opened_run_in_range taps_s taps_ac settings given r.state o.answers).1

  records_accepted : (cs : List CallBuffers) → (length (records_written r cs) % 66 ≡ 0) × (first_fault (records_written r cs) ≡ None)
  records_accepted cs =
      let D = opened_runs taps_s taps_ac settings given r o in
      let f = filters_of r.state r.buffers.mode_s r.buffers.mode_ac in
      let taken = (Model.reached (gen r) (instance_laws f filters_in_range r.state.total few) nan (bench_calls r cs)).in_range in
      subst (λ (l : List ℕ). (length l % 66 ≡ 0) × (first_fault l ≡ None)) (sym (D.records cs ∙ ap (plain_lines (gen r)) (D.taken cs)))
      (accepted_lines f filters_in_range r.state.total few (bench r cs).taken taken)

pub run_records_accepted : RunRecordsAccepted
run_records_accepted = records_accepted
