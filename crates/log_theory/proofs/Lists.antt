-- Pairings as lists of indices, and partners entry by entry.
use Rattle.std.specs.Prelude.{Option, Some, None}
use mathlib.Core.Path.{◌≡◌, refl, sym, ap, ◌∙◌, subst}
use mathlib.Core.Bool.{Bool, true, false}
use mathlib.Core.Logic.{◌⊎◌, inl, inr}
use mathlib.Core.List.{List, [], ◌∷◌}
use Prim.Native.Nat.{ℕ, zero, suc, ◌+◌, ◌≤◌, ◌<◌}
use native.Mathlib.Omega.{arith}
use lib.Dec.{T, eqb, eqb→eq}
use lib.ListN.{length}
use Rattle.log_theory.specs.Pairing.{Logs, Pair, All, Apart, Distinct, May, Pairing, without, cand, earliest, taking, greedy, every, shown, count, pairs_of}
use Rattle.log_theory.specs.PairingLaws.{Orderly}
use Rattle.log_theory.proofs.Basics.{cand_allowed, cand_without, cand_other}
use Rattle.log_theory.proofs.Best.{Fits, greedy_fits, most}

pub all_map : (Q R : Pair → Type 0) → ((x : Pair) → Q x → R x) → (ps : List Pair) → All Q ps → All R ps
all_map Q R f [] a = tt
all_map Q R f (x ∷ ps) a = (f x a.0, all_map Q R f ps a.1)

all_both : (Q R : Pair → Type 0) (ps : List Pair) → All Q ps → All R ps → All (λ (x : Pair). Q x × R x) ps
all_both Q R [] a b = tt
all_both Q R (x ∷ ps) a b = ((a.0, b.0), all_both Q R ps a.1 b.1)

-- ---- the pair of entry i, taken out of a list
pub record Out (i : ℕ) (ps : List Pair) : Type 1 where
  pub pair : Pair
  pub is : pair.entry ≡ i
  pub rest : List Pair
  pub long : length ps ≡ suc (length rest)
  pub holds : (Q : Pair → Type 0) → All Q ps → Q pair × All Q rest
  pub once : Distinct ps → All (Apart pair) rest × Distinct rest

apart_sym : (x y : Pair) → Apart x y → Apart y x
apart_sym x y a = (λ e. a.0 (sym e), λ e. a.1 (sym e))

pub find : (i : ℕ) (ps : List Pair) → Out i ps ⊎ All (λ (x : Pair). x.entry ≡ i → ⊥) ps
find i [] = inr tt
find i (x ∷ ps) = go (find i ps) (eqb x.entry i) (eqb→eq x.entry i) (λ (q : x.entry ≡ i). subst (λ (k : ℕ). T (eqb x.entry k)) q (lib.Dec.eqb_refl x.entry))
  where
    go : Out i ps ⊎ All (λ (y : Pair). y.entry ≡ i → ⊥) ps → (t : Bool) → (T t → x.entry ≡ i) → (x.entry ≡ i → T t) → Out i (x ∷ ps) ⊎ All (λ (y : Pair). y.entry ≡ i → ⊥) (x ∷ ps)
    go r true h k = inl (record { pair = x; is = h tt; rest = ps; long = refl; holds = λ Q a. a; once = λ d. d })
    go (inr a) false h k = inr (k, a)
    go (inl o) false h k =
        inl (record {
          pair = o.pair;
          is = o.is;
          rest = x ∷ o.rest;
          long = omega (arith, o.long);
          holds = λ Q a. ((o.holds Q a.1).0, (a.0, (o.holds Q a.1).1));
          once = λ d. ((apart_sym x o.pair (o.holds (Apart x) d.0).0, (o.once d.1).0), ((o.holds (Apart x) d.0).1, (o.once d.1).1));
        })

module _ (L : Logs) where
  -- of the l entries from i on, free in F
  abbrev pub From : (ℕ → Bool) → ℕ → ℕ → Pair → Type 0
  From F l i x = (i ≤ x.entry) × (x.entry < i + l) × (x.reply < L.sent) × T (cand L F x.entry x.reply)

  pub record Listed (F : ℕ → Bool) (l i : ℕ) (ps : List Pair) : Type 0 where
    pub list : List (Option ℕ)
    pub fits : Fits L F i list
    pub long : length list ≡ l
    pub many : count list ≡ length ps

  pub listed : (F : ℕ → Bool) (l i : ℕ) (ps : List Pair) → All (From F l i) ps → Distinct ps → Listed F l i ps
  listed F zero i [] a d = record { list = []; fits = tt; long = refl; many = refl }
  listed F zero i (x ∷ ps) a d = absurd (omega (arith, a.0.0, a.0.1))
  listed F (suc l) i ps a d = go (find i ps) (λ G qs. listed G l (suc i) qs)
    where
      go : Out i ps ⊎ All (λ (y : Pair). y.entry ≡ i → ⊥) ps → ((G : ℕ → Bool) (qs : List Pair) → All (From G l (suc i)) qs → Distinct qs → Listed G l (suc i) qs) → Listed F (suc l) i ps
      go (inr n) ih =
          let r = ih F ps (all_map (λ (x : Pair). From F (suc l) i x × (x.entry ≡ i → ⊥)) (From F l (suc i)) (λ x q. later x q.0 q.1) ps (all_both (From F (suc l) i) (λ (y : Pair). y.entry ≡ i → ⊥) ps a n)) d in
          record { list = None ∷ r.list; fits = r.fits; long = omega (arith, r.long); many = omega (arith, r.many) }
        where
          later : (x : Pair) → From F (suc l) i x → (x.entry ≡ i → ⊥) → From F l (suc i) x
          later x q n = (lib.Arith.lt_of_le-ne q.0 (λ e. n (sym e)), omega (arith, q.1), q.2, q.3)
      go (inl o) ih =
          let q = o.holds (From F (suc l) i) a in
          let j = o.pair.reply in
          let p = o.once d in
          let r = ih (without j F) o.rest (all_map (λ (x : Pair). From F (suc l) i x × Apart o.pair x) (From (without j F) l (suc i)) (λ x z. later x z.0 z.1) o.rest (all_both (From F (suc l) i) (Apart o.pair) o.rest q.1 p.0)) p.1 in
          record {
            list = Some j ∷ r.list;
            fits = (q.0.2, subst (λ (k : ℕ). T (cand L F k j)) o.is q.0.3, r.fits);
            long = omega (arith, r.long);
            many = omega (arith, r.many, o.long);
          }
        where
          later : (x : Pair) → From F (suc l) i x → Apart o.pair x → From (without o.pair.reply F) l (suc i) x
          later x q n = (lib.Arith.lt_of_le-ne q.0 (λ e. n.0 (sym e ∙ sym o.is)), omega (arith, q.1), q.2, cand_other L o.pair.reply F x.entry x.reply q.3 (λ e. n.1 (sym e)))

  -- the pairs of partners that fit
  pub pairs_from : (F : ℕ → Bool) (i : ℕ) (ps : List (Option ℕ)) → Fits L F i ps → All (From F (length ps) i) (pairs_of i ps)
  pairs_from F i [] h = tt
  pairs_from F i (None ∷ ps) h = all_map (From F (length ps) (suc i)) (From F (suc (length ps)) i) (λ x q. (omega (arith, q.0), omega (arith, q.1), q.2, q.3)) (pairs_of (suc i) ps) (pairs_from F (suc i) ps h)
  pairs_from F i (Some j ∷ ps) h = (
    (omega arith, omega arith, h.0, h.1),
    all_map (From (without j F) (length ps) (suc i)) (From F (suc (length ps)) i) (λ x q. (omega (arith, q.0), omega (arith, q.1), q.2, (cand_without L j F x.entry x.reply q.3).0)) (pairs_of (suc i) ps) (pairs_from (without j F) (suc i) ps h.2),
  )

  pub pairs_once : (F : ℕ → Bool) (i : ℕ) (ps : List (Option ℕ)) → Fits L F i ps → Distinct (pairs_of i ps)
  pairs_once F i [] h = tt
  pairs_once F i (None ∷ ps) h = pairs_once F (suc i) ps h
  pairs_once F i (Some j ∷ ps) h = (
    all_map (From (without j F) (length ps) (suc i)) (Apart (record { entry = i; reply = j })) (λ x q. (λ e. omega (arith, q.0), λ e. (cand_without L j F x.entry x.reply q.3).1 (sym e))) (pairs_of (suc i) ps) (pairs_from (without j F) (suc i) ps h.2),
    pairs_once (without j F) (suc i) ps h.2,
  )

  pub pairs_many : (i : ℕ) (ps : List (Option ℕ)) → length (pairs_of i ps) ≡ count ps
  pairs_many i [] = refl
  pairs_many i (None ∷ ps) = omega (arith, pairs_many (suc i) ps)
  pairs_many i (Some j ∷ ps) = omega (arith, pairs_many (suc i) ps)

  pub greedy_long : (F : ℕ → Bool) (l i : ℕ) → length (greedy L F l i) ≡ l
  greedy_long F zero i = refl
  greedy_long F (suc l) i = ap suc (greedy_long (taking (earliest L F i) F) l (suc i))

  -- what is shown is a pairing
  pub shown_pairs : Pairing L (pairs_of 0 (shown L))
  shown_pairs = record {
    may = all_map (From every (length (shown L)) 0) (May L) (λ x q. (omega (arith, q.1, greedy_long every L.heard 0), q.2, cand_allowed L every x.entry x.reply q.3)) (pairs_of 0 (shown L)) (pairs_from every 0 (shown L) (greedy_fits L every L.heard 0));
    once = pairs_once every 0 (shown L) (greedy_fits L every L.heard 0);
  }

  -- no pairing has more pairs
  pub no_more : Orderly L → (ps : List Pair) → Pairing L ps → length ps ≤ length (pairs_of 0 (shown L))
  no_more O ps p =
      let l = listed every L.heard 0 ps (all_map (May L) (From every L.heard 0) (λ x q. (omega arith, omega (arith, q.0), q.1, q.2)) ps p.may) p.once in
      omega (arith, l.many, pairs_many 0 (shown L), most L O every L.heard 0 l.list (omega arith) l.long l.fits)
