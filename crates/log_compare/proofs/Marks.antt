-- Where the search for an entry's record begins and ends, and lists of other lengths.
use Rattle.std.specs.Prelude.{Option, Some, None}
use mathlib.Core.Path.{◌≡◌, sym, ap, ◌∙◌}
use mathlib.Core.Bool.{Bool, true, cond}
use mathlib.Core.List.{List}
use Prim.Native.Nat.{ℕ, ◌+◌, ◌-◌, ◌/◌, ◌≤◌, ◌<◌}
use native.Mathlib.Omega.{arith}
use lib.Dec.{eqb, ltb}
use lib.ListN.{length, get_or}
use borrow.Author.Tests.{eq-eqb}
use Rattle.std.proofs.lemmas.Grind.{get_or_default_zero}
use Rattle.log_theory.specs.Pairing.{Logs}
use Rattle.log_theory.specs.Report.{nobody, report_of}
use Rattle.log_theory.specs.PairsModel.{free_in, Back}
use Rattle.log_theory.proofs.Window.{Late}
use Rattle.log_compare.specs.Capped.{capped}
use Rattle.log_compare.proofs.Tests.{capped_below, capped_ltb}
use Rattle.log_compare.specs.Entries.{logs}
use Rattle.log_compare.specs.Paired.{kept, paired_of}
use Rattle.log_compare.specs.WindowModel.{limit_of}

-- ---- the end
module _ (L : Logs) (F : ℕ → Bool) (i : ℕ) where
  pub stops : (b : Option ℕ) (j f h s latest last back n : ℕ) → h ≡ L.sample i → s ≡ capped (h + L.within) → latest ≡ capped (s + back) → last ≡ limit_of L.first back latest b
      → f ≡ L.first j → f ≤ 18446744073709551615 → last < f → Back L.first n back → (k : ℕ) → j ≤ k → k < n → Late L F i b k
  unfolding limit_of
  stops None j f h s latest last back n a p q r e le lt w k jk kn =
      let x : s + back < f = capped_below (s + back) f le (omega (arith, q, r)) in
      let y : h + L.within < f - back = capped_below (h + L.within) (f - back) (omega arith) (omega (arith, p)) in
      omega (arith, w.steps j k jk kn)
  stops (Some g) j f h s latest last back n a p q r e le lt w k jk kn =
      let x : L.first g + back < f = capped_below (L.first g + back) f le (omega (arith, r)) in
      omega (arith, w.steps j k jk kn)

-- ---- the start
module _ (owners : List ℕ) (k : ℕ) (lt : k < length owners) where
  pub gone_early : (f d h r n : ℕ) → get_or owners k 0 ≡ nobody → h ≤ 18446744073709551615 → r ≡ f → n ≡ capped (r + d) → ltb n h ≡ cond (free_in owners k) (ltb (f + d) h) true
  gone_early f d h r n e le p q =
      ap (λ (x : ℕ). ltb x h) (q ∙ ap (λ (x : ℕ). capped (x + d)) p) ∙ capped_ltb (f + d) h le
      ∙ sym (ap (λ (t : Bool). cond t (ltb (f + d) h) true) (eq-eqb (get_or owners k nobody) nobody (get_or_default_zero owners k nobody lt ∙ e)))

-- ---- the lengths of the lists
module _ (log records : List ℕ) (d : ℕ) (p o : List ℕ) where
  module _ (e : length p ≡ length log / 23) where
    partners_fit : paired_of log records d p o ≡ cond (eqb (length o) (length records / 66)) (report_of (logs log records d)) (kept p o)
    unfolding paired_of
    partners_fit = ap (λ (t : Bool). cond t (cond (eqb (length o) (length records / 66)) (report_of (logs log records d)) (kept p o)) (kept p o)) (eq-eqb (length p) (length log / 23) e)

    pub both_fits : length o ≡ length records / 66 → paired_of log records d p o ≡ report_of (logs log records d)
    both_fits h = partners_fit ∙ ap (λ (t : Bool). cond t (report_of (logs log records d)) (kept p o)) (eq-eqb (length o) (length records / 66) h)
