-- The three counts, and each record's entry.
use Rattle.std.specs.Prelude.{Option, Some, None}
use mathlib.Core.Path.{◌≡◌, refl, sym, ap, ◌∙◌, subst}
use mathlib.Core.Bool.{Bool, true, false, cond}
use mathlib.Core.Logic.{inl, inr}
use mathlib.Core.List.{List, [], ◌∷◌}
use Prim.Native.Nat.{ℕ, zero, suc, ◌+◌, ◌≤◌, ◌<◌}
use native.Mathlib.Omega.{arith}
use lib.Dec.{T}
use lib.ListN.{length}
use borrow.Author.Tests.{ne_eqb, eq-eqb}
use Rattle.log_theory.specs.Pairing.{Logs, Pair, All, Apart, Distinct, without, every, shown, count, pairs_of}
use Rattle.log_theory.specs.Report.{entry_of, In, unsent, left, tally}
use Rattle.log_theory.proofs.Basics.{without_other, cand_free}
use Rattle.log_theory.proofs.Best.{Fits, equal_or_not, greedy_fits}
use Rattle.log_theory.proofs.Lists.{greedy_long, pairs_many}

pub pairs_unsent : (ps : List (Option ℕ)) → count ps + unsent ps ≡ length ps
pairs_unsent [] = refl
pairs_unsent (None ∷ ps) = omega (arith, pairs_unsent ps)
pairs_unsent (Some g ∷ ps) = omega (arith, pairs_unsent ps)

tally_past : (n g : ℕ) (F : ℕ → Bool) → n ≤ g → tally n (without g F) ≡ tally n F
tally_past zero g F h = refl
tally_past (suc n) g F h =
    ap (λ (b : Bool). cond b 1 0 + tally n (without g F)) (without_other g n F (λ e. omega arith))
    ∙ ap (λ (k : ℕ). cond (F n) 1 0 + k) (tally_past n g F (omega arith))

pub tally_without : (n g : ℕ) (F : ℕ → Bool) → g < n → T (F g) → tally n F ≡ suc (tally n (without g F))
tally_without zero g F h f = absurd (omega arith)
tally_without (suc n) g F h f =
    equal_or_not g n (tally (suc n) F ≡ suc (tally (suc n) (without g F)))
    (λ e.
    let a : ◌≡◌ {A = ℕ} (cond (F n) 1 0) 1 = one_of (F n) (subst (λ (x : ℕ). T (F x)) e f) in
    let b : ◌≡◌ {A = ℕ} (cond (without g F n) 1 0) 0 = ap (λ (t : Bool). cond (cond t false (F n)) 1 0) (eq-eqb g n e) in
    omega (arith, tally_past n g F (omega arith)))
    (λ m.
    let a : ◌≡◌ {A = ℕ} (cond (without g F n) 1 0) (cond (F n) 1 0) = ap (λ (t : Bool). cond t 1 0) (without_other g n F m) in
    omega (arith, tally_without n g F (lib.Arith.lt_of_le-ne (omega arith) m) f))
  where
    one_of : (b : Bool) → T b → ◌≡◌ {A = ℕ} (cond b 1 0) 1
    one_of true t = refl
    one_of false t = absurd t

tally_every : (n : ℕ) → tally n every ≡ n
tally_every zero = refl
tally_every (suc n) = omega (arith, tally_every n)

module _ (L : Logs) where
  left_over : (F : ℕ → Bool) (i : ℕ) (ps : List (Option ℕ)) → Fits L F i ps → count ps + tally L.sent (left F ps) ≡ tally L.sent F
  left_over F i [] h = omega arith
  left_over F i (None ∷ ps) h = omega (arith, left_over F (suc i) ps h)
  left_over F i (Some j ∷ ps) h = omega (arith, left_over (without j F) (suc i) ps h.2, tally_without L.sent j F h.0 (cand_free L F i j h.1))

  -- pairs and unheard records are all records; pairs and unsent entries all entries
  pub sent_counted : length (pairs_of 0 (shown L)) + tally L.sent (left every (shown L)) ≡ L.sent
  sent_counted = omega (arith, pairs_many L 0 (shown L), left_over every 0 (shown L) (greedy_fits L every L.heard 0), tally_every L.sent)

  pub heard_counted : length (pairs_of 0 (shown L)) + unsent (shown L) ≡ L.heard
  heard_counted = omega (arith, pairs_many L 0 (shown L), pairs_unsent (shown L), greedy_long L every L.heard 0)

-- ---- each record's partner
pub entry_in : (ps : List Pair) (j k : ℕ) → entry_of ps j ≡ Some k → In (record { entry = k; reply = j }) ps
entry_in [] j k e = absurd (let z : ◌≡◌ {A = ℕ} 0 1 = cc in omega arith)
entry_in (x ∷ ps) j k e =
    equal_or_not x.reply j (In (record { entry = k; reply = j }) (x ∷ ps))
    (λ q.
    let f : Some x.entry ≡ Some k = sym (ap (λ (t : Bool). cond t (Some x.entry) (entry_of ps j)) (eq-eqb x.reply j q)) ∙ e in
    let g : x.entry ≡ k = cc in
    inl (same g q))
    (λ n. inr (entry_in ps j k (sym (ap (λ (t : Bool). cond t (Some x.entry) (entry_of ps j)) (ne_eqb x.reply j n)) ∙ e)))
  where
    make : ℕ → ℕ → Pair
    make a b = record { entry = a; reply = b }

    same : x.entry ≡ k → x.reply ≡ j → x ≡ record { entry = k; reply = j }
    same p q = ap (λ (a : ℕ). make a x.reply) p ∙ ap (λ (b : ℕ). make k b) q

pub in_entry : (ps : List Pair) (x : Pair) → Distinct ps → In x ps → entry_of ps x.reply ≡ Some x.entry
in_entry [] x d i = absurd i
in_entry (y ∷ ps) x d (inl e) =
    ap (λ (t : Bool). cond t (Some y.entry) (entry_of ps x.reply)) (eq-eqb y.reply x.reply (ap (λ (z : Pair). z.reply) e)) ∙ ap (λ (z : Pair). Some z.entry) e
in_entry (y ∷ ps) x d (inr i) =
    ap (λ (t : Bool). cond t (Some y.entry) (entry_of ps x.reply)) (ne_eqb y.reply x.reply (λ q. (apart ps d.0 i).1 (sym q))) ∙ in_entry ps x d.1 i
  where
    apart : (qs : List Pair) → All (Apart y) qs → In x qs → Apart y x
    apart [] a i = absurd i
    apart (z ∷ qs) a (inl e) = subst (λ (w : Pair). Apart y w) e a.0
    apart (z ∷ qs) a (inr i) = apart qs a.1 i
