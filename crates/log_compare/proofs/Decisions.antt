-- The answer, case by case.
use Rattle.std.specs.Prelude.{Some, None, Result, Ok, Err}
use mathlib.Core.Path.{◌≡◌, refl, sym, ap, ◌∙◌, subst}
use mathlib.Core.Bool.{Bool, true, false, cond, ◌&&◌}
use mathlib.Core.List.{List}
use Prim.Native.Nat.{ℕ, ◌/◌, ◌%◌, ◌≤◌}
use native.Mathlib.Omega.{arith}
use lib.Dec.{eqb}
use borrow.Author.Tests.{eqb-true}
use lib.ListN.{length}
use Rattle.refusals.specs.declared.Refusal.{Refusal}
use Rattle.log_theory.specs.Pairing.{Logs}
use Rattle.log_theory.specs.Report.{Lists, report_of}
use Rattle.log_theory.proofs.PairingLaws.{pairing_laws}
use Rattle.log_compare.specs.Entries.{logs}
use Rattle.log_compare.proofs.Rising.{both_true}
use Rattle.log_compare.specs.LogChecks.{lengths_fit, contents_refusal, compare_refusal}
use Rattle.std.specs.Result.{result_err}
use Rattle.log_compare.specs.Paired.{paired_of}
use Rattle.log_compare.proofs.Marks.{both_fits}
use Rattle.log_compare.specs.Comparison.{reported, decided, compared_of}

module _ (log records : List ℕ) (p o : ℕ) where
  fit_true : compare_refusal log records p o ≡ None → lengths_fit (length log) (length records) p o ≡ true
  unfolding compare_refusal
  fit_true e = go (lengths_fit (length log) (length records) p o) e
    where
      go : (t : Bool) → cond t (contents_refusal log records) (Some Rattle.refusals.specs.declared.Refusal.TheVariants.Length) ≡ None → t ≡ true
      go true q = refl
      go false q = absurd (let z : ◌≡◌ {A = ℕ} 0 1 = cc in omega arith)

  -- lists that are accepted have one number for each entry and each record
  pub lists_fit : compare_refusal log records p o ≡ None → (p ≡ length log / 23) × (o ≡ length records / 66)
  unfolding lengths_fit
  lists_fit e =
      let a = (both_true (eqb (length log % 23) 0) (eqb (length records % 66) 0 && (eqb p (length log / 23) && eqb o (length records / 66))) (fit_true e)).1 in
      let b = (both_true (eqb (length records % 66) 0) (eqb p (length log / 23) && eqb o (length records / 66)) a).1 in
      let c = both_true (eqb p (length log / 23)) (eqb o (length records / 66)) b in
      (eqb-true p (length log / 23) c.0, eqb-true o (length records / 66) c.1)

pub few_pairs : (L : Logs) → ((report_of L).pairs ≤ L.sent) × ((report_of L).pairs ≤ L.heard)
unfolding report_of
few_pairs L = (omega (arith, (pairing_laws L).records_counted), omega (arith, (pairing_laws L).entries_counted))

module _ (log records : List ℕ) (d : ℕ) (p o : List ℕ) (k : Result (Unit {0}) Refusal) (e : result_err k ≡ compare_refusal log records (length p) (length o)) where
  pub refusal_is : {q : Refusal} → k ≡ Err q → record { answer = Err q; partners = p; owners = o } ≡ compared_of log records d p o
  unfolding compared_of decided
  refusal_is h = sym (ap (decided (logs log records d) p o) (sym e ∙ ap result_err h))

  module _ (h : k ≡ (Ok tt)) where
    none_refused : compare_refusal log records (length p) (length o) ≡ None
    none_refused = sym e ∙ ap result_err h

    pub is_report : (s : Lists) → s ≡ paired_of log records d p o → s ≡ report_of (logs log records d)
    is_report s q = let f = lists_fit log records (length p) (length o) none_refused in q ∙ both_fits log records d p o f.0 f.1

    pub report_is : (s : Lists) → s ≡ paired_of log records d p o → reported (logs log records d) s ≡ compared_of log records d p o
    unfolding compared_of decided
    report_is s q = ap (reported (logs log records d)) (is_report s q) ∙ sym (ap (decided (logs log records d) p o) none_refused)

    pub pairs_few : (s : Lists) → s ≡ paired_of log records d p o → (s.pairs ≤ length records / 66) × (s.pairs ≤ length log / 23)
    pairs_few s q = subst (λ (x : Lists). (x.pairs ≤ length records / 66) × (x.pairs ≤ length log / 23)) (sym (is_report s q)) (few_pairs (logs log records d))
