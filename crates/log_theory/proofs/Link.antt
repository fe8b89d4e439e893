-- The two lists that the code fills are the partners of the pairing shown.
use Rattle.std.specs.Prelude.{Option, Some, None}
use mathlib.Core.Path.{◌≡◌, refl, sym, ap, ◌∙◌, subst, fun_ext}
use mathlib.Core.Bool.{Bool, false, cond}
use mathlib.Core.List.{List, [], ◌∷◌, ◌++◌, append_assoc}
use Prim.Native.Nat.{ℕ, zero, suc, ◌+◌, ◌≤◌, ◌<◌}
use native.Mathlib.Omega.{arith}
use native.Mathlib.Numerals.{add-one}
use lib.Dec.{eqb}
use lib.ListN.{length, set, get_or, replicate, length-set, length-append, length-replicate}
use lib.Seq.{get_or-set_same, get_or-set_other}
use borrow.Author.Tests.{ne_eqb, eq-eqb}
use Rattle.std.specs.Option.{unwrap_or}
use Rattle.log_theory.specs.Pairing.{Logs, Pair, All, without, earliest, taking, greedy, every, shown, count, pairs_of}
use Rattle.log_theory.specs.Report.{nobody, indices, entry_of, entries_from, Lists, report_of}
use Rattle.log_theory.specs.PairingLaws.{Earliest}
use Rattle.log_theory.specs.PairsModel.{free_in, paired, pair_up, blank}
use Rattle.log_theory.proofs.Basics.{without_other, cand_without}
use Rattle.log_theory.proofs.Picks.{found}
use Rattle.log_theory.proofs.Best.{Fits, equal_or_not, greedy_fits}
use Rattle.log_theory.proofs.Lists.{From, all_map, pairs_from, pairs_many}

-- ---- records taken
pub free_set : (o : List ℕ) (g i : ℕ) → g < length o → i < nobody → free_in (set o g i) ≡ without g (free_in o)
free_set o g i h lt = fun_ext (λ k. at k)
  where
    at : (k : ℕ) → free_in (set o g i) k ≡ without g (free_in o) k
    at k =
        equal_or_not g k (free_in (set o g i) k ≡ without g (free_in o) k)
        (λ e.
        let v : get_or (set o g i) k nobody ≡ i = ap (λ (x : ℕ). get_or (set o g i) x nobody) (sym e) ∙ get_or-set_same o g i nobody h in
        ap (λ (x : ℕ). eqb x nobody) v ∙ ne_eqb i nobody (λ q. omega arith) ∙ sym (ap (λ (t : Bool). cond t false (free_in o k)) (eq-eqb g k e)))
        (λ n. ap (λ (x : ℕ). eqb x nobody) (get_or-set_other o g k i nobody (λ q. n (sym q))) ∙ sym (without_other g k (free_in o) n))

pub free_all : (n : ℕ) → free_in (replicate n nobody) ≡ every
free_all n = fun_ext (λ k. ap (λ (x : ℕ). eqb x nobody) (all n k))
  where
    all : (n k : ℕ) → get_or (replicate n nobody) k nobody ≡ nobody
    all zero k = refl
    all (suc n) zero = refl
    all (suc n) (suc k) = all n k

by_index : (o : List ℕ) (ps : List Pair) (n j : ℕ) → length o ≡ n → ((k : ℕ) → get_or o k nobody ≡ unwrap_or (entry_of ps (j + k)) nobody) → o ≡ entries_from ps n j
unfolding entries_from
by_index [] ps zero j e h = refl
by_index [] ps (suc n) j e h = absurd (omega arith)
by_index (x ∷ o) ps zero j e h = absurd (omega arith)
by_index (x ∷ o) ps (suc n) j e h =
    let p : j + 0 ≡ j = omega arith in
    ap (λ (y : ℕ). y ∷ o) (h 0 ∙ ap (λ (m : ℕ). unwrap_or (entry_of ps m) nobody) p)
    ∙ ap (λ (l : List ℕ). unwrap_or (entry_of ps j) nobody ∷ l) (by_index o ps n (suc j) (omega arith) (λ k. h (suc k) ∙ ap (λ (m : ℕ). unwrap_or (entry_of ps m) nobody) (moved k)))
  where
    moved : (k : ℕ) → j + suc k ≡ suc j + k
    moved k = omega arith

module _ (L : Logs) where
  taken : (s : Lists) (i : ℕ) (b : Option ℕ) → Earliest L (free_in s.owners) i L.sent b → L.sent ≡ length s.owners → i < nobody → free_in (paired s i b).owners ≡ taking b (free_in s.owners)
  taken s i None h e lt = refl
  taken s i (Some g) h e lt = free_set s.owners g i (omega (arith, h.0)) lt

  as_long : (s : Lists) (i : ℕ) (b : Option ℕ) → L.sent ≡ length s.owners → L.sent ≡ length (paired s i b).owners
  as_long s i None e = e
  as_long s i (Some g) e = e ∙ sym (length-set s.owners g i)

  module _ (P : (l i : ℕ) → Lists → List (Option ℕ) → Lists → Type 0)
      (none : (i : ℕ) (s : Lists) → P 0 i s [] s)
      (more : (l i : ℕ) (s r : Lists) (ps : List (Option ℕ)) (b : Option ℕ) → Fits L (free_in s.owners) i (b ∷ ps) → L.sent ≡ length s.owners → P l (suc i) (paired s i b) ps r → P (suc l) i s (b ∷ ps) r) where
    -- what holds turn by turn holds of the partners that `greedy` gives
    along : (l i : ℕ) (s : Lists) → L.sent ≡ length s.owners → i + l ≤ nobody → P l i s (greedy L (free_in s.owners) l i) (pair_up L l i s)
    unfolding pair_up
    along zero i s e h = none i s
    along (suc l) i s e h =
        let b = earliest L (free_in s.owners) i in
        let q = taken s i b (found L (free_in s.owners) i) e (omega arith) in
        more l i s (pair_up L l (i + 1) (paired s i b)) (greedy L (taking b (free_in s.owners)) l (suc i)) b (greedy_fits L (free_in s.owners) (suc l) i) e
        (subst (λ (x : ℕ). P l (suc i) (paired s i b) (greedy L (taking b (free_in s.owners)) l (suc i)) (pair_up L l x (paired s i b))) (sym (add-one i))
        (subst (λ (F : ℕ → Bool). P l (suc i) (paired s i b) (greedy L F l (suc i)) (pair_up L l (suc i) (paired s i b))) q (along l (suc i) (paired s i b) (as_long s i b e) (omega arith))))

  -- ---- the count
  abbrev Counted : (l i : ℕ) → Lists → List (Option ℕ) → Lists → Type 0
  Counted l i s ps r = r.pairs ≡ s.pairs + count ps

  counted_more : (l i : ℕ) (s r : Lists) (ps : List (Option ℕ)) (b : Option ℕ) → Fits L (free_in s.owners) i (b ∷ ps) → L.sent ≡ length s.owners → Counted l (suc i) (paired s i b) ps r → Counted (suc l) i s (b ∷ ps) r
  counted_more l i s r ps None f e h = omega arith
  counted_more l i s r ps (Some g) f e h = omega arith

  -- ---- the entries' partners
  abbrev Laid : (l i : ℕ) → Lists → List (Option ℕ) → Lists → Type 0
  Laid l i s ps r = (p : List ℕ) → length p ≡ i → s.partners ≡ p ++ replicate l nobody → r.partners ≡ p ++ indices ps

  set_at : (p q : List ℕ) (i x y : ℕ) → length p ≡ i → set (p ++ (x ∷ q)) i y ≡ p ++ (y ∷ q)
  set_at [] q zero x y e = refl
  set_at [] q (suc i) x y e = absurd (omega arith)
  set_at (z ∷ p) q zero x y e = absurd (omega arith)
  set_at (z ∷ p) q (suc i) x y e = ap (λ (l : List ℕ). z ∷ l) (set_at p q i x y (omega arith))

  length_snoc : (p : List ℕ) (x i : ℕ) → length p ≡ i → length (p ++ (x ∷ [])) ≡ suc i
  length_snoc p x i e = rw (length-append p (x ∷ [])) (omega arith)

  laid_more : (l i : ℕ) (s r : Lists) (ps : List (Option ℕ)) (b : Option ℕ) → Fits L (free_in s.owners) i (b ∷ ps) → L.sent ≡ length s.owners → Laid l (suc i) (paired s i b) ps r → Laid (suc l) i s (b ∷ ps) r
  laid_more l i s r ps None f e h p n q = h (p ++ (nobody ∷ [])) (length_snoc p nobody i n) (q ∙ sym (append_assoc p (nobody ∷ []) (replicate l nobody))) ∙ append_assoc p (nobody ∷ []) (indices ps)
  laid_more l i s r ps (Some g) f e h p n q =
      h (p ++ (g ∷ [])) (length_snoc p g i n) (ap (λ (x : List ℕ). set x i g) q ∙ set_at p (replicate l nobody) i nobody g n ∙ sym (append_assoc p (g ∷ []) (replicate l nobody)))
      ∙ append_assoc p (g ∷ []) (indices ps)

  -- ---- the records' partners
  abbrev pub over : Option ℕ → ℕ → ℕ
  over None x = x
  over (Some k) x = k

  abbrev Owned : (l i : ℕ) → Lists → List (Option ℕ) → Lists → Type 0
  Owned l i s ps r = (j : ℕ) → get_or r.owners j nobody ≡ over (entry_of (pairs_of i ps) j) (get_or s.owners j nobody)

  no_entry : (g : ℕ) (qs : List Pair) → All (λ (x : Pair). g ≡ x.reply → ⊥) qs → entry_of qs g ≡ None
  no_entry g [] a = refl
  no_entry g (x ∷ qs) a = ap (λ (t : Bool). cond t (Some x.entry) (entry_of qs g)) (ne_eqb x.reply g (λ e. a.0 (sym e))) ∙ no_entry g qs a.1

  owned_more : (l i : ℕ) (s r : Lists) (ps : List (Option ℕ)) (b : Option ℕ) → Fits L (free_in s.owners) i (b ∷ ps) → L.sent ≡ length s.owners → Owned l (suc i) (paired s i b) ps r → Owned (suc l) i s (b ∷ ps) r
  owned_more l i s r ps None f e h j = h j
  owned_more l i s r ps (Some g) f e h j =
      h j
      ∙ equal_or_not g j (over (entry_of (pairs_of (suc i) ps) j) (get_or (set s.owners g i) j nobody) ≡ over (cond (eqb g j) (Some i) (entry_of (pairs_of (suc i) ps) j)) (get_or s.owners j nobody))
      (λ q.
      ap (λ (x : Option ℕ). over x (get_or (set s.owners g i) j nobody)) (ap (entry_of (pairs_of (suc i) ps)) (sym q) ∙ others)
      ∙ ap (λ (x : ℕ). get_or (set s.owners g i) x nobody) (sym q) ∙ get_or-set_same s.owners g i nobody (omega (arith, f.0))
      ∙ sym (ap (λ (t : Bool). over (cond t (Some i) (entry_of (pairs_of (suc i) ps) j)) (get_or s.owners j nobody)) (eq-eqb g j q)))
      (λ n.
      ap (over (entry_of (pairs_of (suc i) ps) j)) (get_or-set_other s.owners g j i nobody (λ q. n (sym q)))
      ∙ sym (ap (λ (t : Bool). over (cond t (Some i) (entry_of (pairs_of (suc i) ps) j)) (get_or s.owners j nobody)) (ne_eqb g j n)))
    where
      others : entry_of (pairs_of (suc i) ps) g ≡ None
      others =
          no_entry g (pairs_of (suc i) ps)
          (all_map (From L (without g (free_in s.owners)) (length ps) (suc i)) (λ (x : Pair). g ≡ x.reply → ⊥) (λ x q. (cand_without L g (free_in s.owners) x.entry x.reply q.3).1) (pairs_of (suc i) ps) (pairs_from L (without g (free_in s.owners)) (suc i) ps f.2))

  -- ---- the length of the records' list
  abbrev Long : (l i : ℕ) → Lists → List (Option ℕ) → Lists → Type 0
  Long l i s ps r = length r.owners ≡ length s.owners

  long_more : (l i : ℕ) (s r : Lists) (ps : List (Option ℕ)) (b : Option ℕ) → Fits L (free_in s.owners) i (b ∷ ps) → L.sent ≡ length s.owners → Long l (suc i) (paired s i b) ps r → Long (suc l) i s (b ∷ ps) r
  long_more l i s r ps b f e h = h ∙ sym (as_long s i b e) ∙ e

  -- ---- from lists that name nobody
  abbrev start : Lists
  start = blank L.heard L.sent

  module _ (few : L.heard ≤ nobody) where
    with_every : (P : List (Option ℕ) → Lists → Type 0) → P (greedy L (free_in start.owners) L.heard 0) (pair_up L L.heard 0 start) → P (shown L) (pair_up L L.heard 0 start)
    with_every P h = subst (λ (F : ℕ → Bool). P (greedy L F L.heard 0) (pair_up L L.heard 0 start)) (free_all L.sent) h

    same : L.sent ≡ length start.owners
    same = sym (length-replicate L.sent nobody)

    pub pairs_are : (pair_up L L.heard 0 start).pairs ≡ length (pairs_of 0 (shown L))
    pairs_are =
        let h = with_every (λ (ps : List (Option ℕ)) (r : Lists). r.pairs ≡ 0 + count ps) (along Counted (λ i s. omega arith) counted_more L.heard 0 start same (omega arith)) in
        omega (arith, pairs_many L 0 (shown L))

    partners_are : (pair_up L L.heard 0 start).partners ≡ indices (shown L)
    partners_are = with_every (λ (ps : List (Option ℕ)) (r : Lists). r.partners ≡ indices ps) (along Laid (λ i s p n q. q) laid_more L.heard 0 start same (omega arith) [] refl refl)

    owner_is : (j : ℕ) → get_or (pair_up L L.heard 0 start).owners j nobody ≡ unwrap_or (entry_of (pairs_of 0 (shown L)) j) nobody
    owner_is j =
        with_every (λ (ps : List (Option ℕ)) (r : Lists). get_or r.owners j nobody ≡ over (entry_of (pairs_of 0 ps) j) (get_or start.owners j nobody)) (along Owned (λ i s j. refl) owned_more L.heard 0 start same (omega arith) j)
        ∙ go (entry_of (pairs_of 0 (shown L)) j)
      where
        all : (n k : ℕ) → get_or (replicate n nobody) k nobody ≡ nobody
        all zero k = refl
        all (suc n) zero = refl
        all (suc n) (suc k) = all n k

        go : (b : Option ℕ) → over b (get_or start.owners j nobody) ≡ unwrap_or b nobody
        go None = all L.sent j
        go (Some k) = refl

    owners_are : (pair_up L L.heard 0 start).owners ≡ entries_from (pairs_of 0 (shown L)) L.sent 0
    owners_are =
        by_index (pair_up L L.heard 0 start).owners (pairs_of 0 (shown L)) L.sent 0
        (with_every (λ (ps : List (Option ℕ)) (r : Lists). length r.owners ≡ length start.owners) (along Long (λ i s. refl) long_more L.heard 0 start same (omega arith)) ∙ sym same)
        (λ k. owner_is k ∙ ap (λ (m : ℕ). unwrap_or (entry_of (pairs_of 0 (shown L)) m) nobody) (from_zero k))
      where
        from_zero : (k : ℕ) → k ≡ 0 + k
        from_zero k = omega arith

    -- the two lists and the count are those of the pairing that is reported
    pub reported : pair_up L L.heard 0 start ≡ report_of L
    unfolding report_of
    reported = λ t. record { partners = partners_are t; owners = owners_are t; pairs = pairs_are t }
