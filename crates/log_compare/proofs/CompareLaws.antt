-- What is shown of a log held against records holds.
use Rattle.std.specs.Prelude.{Option, Some, None}
use Rattle.std.specs.Option.{option_or}
use mathlib.Core.Path.{◌≡◌, refl, sym, ap, subst}
use mathlib.Core.Bool.{Bool, true, false, cond}
use mathlib.Core.List.{List}
use Prim.Native.Nat.{ℕ}
use native.Mathlib.Omega.{arith}
use lib.ListN.{length}
use Rattle.refusals.specs.declared.Refusal.{Refusal}
use Rattle.refusals.specs.declared.Refusal.TheVariants.{Length, Log}
use Rattle.record_check.specs.FirstFault.{first_fault, record_refusal}
use Rattle.log_theory.specs.Report.{report_of}
use Rattle.log_theory.proofs.PairingLaws.{pairing_laws}
use Rattle.log_compare.specs.Entries.{logs}
use Rattle.log_compare.proofs.Bytes.{logs_orderly}
use Rattle.log_compare.specs.LogChecks.{log_accepted, lengths_fit, contents_refusal, compare_refusal}
use Rattle.log_compare.proofs.Rising.{rises}
use Rattle.log_compare.specs.Comparison.{counts_of, reported, decided, compared_of}
use Rattle.log_compare.specs.CompareLaws.{Reported, CompareLaws}

clash : (q : Refusal) → Some q ≡ None → ⊥
clash q e = let z : ◌≡◌ {A = ℕ} 0 1 = cc in omega arith

module _ (log records : List ℕ) (d : ℕ) (p o : List ℕ) where
  log_accepted_lem : compare_refusal log records (length p) (length o) ≡ None → log_accepted log ≡ true
  unfolding compare_refusal contents_refusal
  log_accepted_lem e = lengths (lengths_fit (length log) (length records) (length p) (length o)) e
    where
      last : (t : Bool) → cond t None (Some Log) ≡ None → t ≡ true
      last true e = refl
      last false e = absurd (clash Log e)

      first : (q : Option Refusal) → option_or q (cond (log_accepted log) None (Some Log)) ≡ None → log_accepted log ≡ true
      first None e = last (log_accepted log) e
      first (Some q) e = absurd (clash q e)

      lengths : (t : Bool) → cond t (contents_refusal log records) (Some Length) ≡ None → log_accepted log ≡ true
      lengths true e = first (record_refusal (first_fault records)) e
      lengths false e = absurd (clash Length e)

  report : compare_refusal log records (length p) (length o) ≡ None → Reported (logs log records d) (reported (logs log records d) (report_of (logs log records d)))
  unfolding reported counts_of report_of
  report e =
      let L = logs log records d in
      let laws = pairing_laws L in
      record {
        counts = counts_of L (report_of L).pairs;
        answer = refl;
        partners = refl;
        owners = refl;
        pairing = laws.pairing;
        entry_paired = laws.entry_paired;
        pair_entered = laws.pair_entered;
        largest = laws.largest (logs_orderly log records d (rises log (log_accepted_lem e)));
        earliest_free = laws.earliest_free;
        pairs_counted = refl;
        unheard_counted = λ few. omega (arith, laws.records_counted, laws.records_unnamed few);
        unsent_counted = λ few. omega (arith, laws.entries_counted, laws.entries_unnamed few);
      }

  pub compare_laws : CompareLaws log records d p o
  unfolding compared_of decided
  compare_laws = record {
    reports = λ e. subst (λ (q : Option Refusal). Reported (logs log records d) (decided (logs log records d) p o q)) (sym e) (report e);
    refuses = λ q e. ap (decided (logs log records d) p o) e;
  }
