-- No choice of partners has more of them than the pairing that is reported.
use Rattle.std.specs.Prelude.{Option, Some, None}
use mathlib.Core.Path.{◌≡◌, refl, sym, subst}
use mathlib.Core.Bool.{Bool, true, false, cond}
use mathlib.Core.List.{List, [], ◌∷◌}
use Prim.Native.Nat.{ℕ, zero, suc, ◌+◌, ◌≤◌, ◌<◌}
use native.Mathlib.Omega.{arith}
use lib.Dec.{T, eqb, eqb→eq}
use lib.ListN.{length}
use Rattle.std.specs.Option.{is_some}
use Rattle.log_theory.specs.Pairing.{Logs, allowed, without, cand, earliest, taking, greedy, count}
use Rattle.log_theory.proofs.Basics.{without_other, without_swap, near, allow, cand_free, cand_allowed, cand_in, cand_without, cand_other}
use Rattle.log_theory.specs.PairingLaws.{Orderly, Before, Earliest}
use Rattle.log_theory.proofs.Picks.{found}

-- the partners ps of the entries from i on are free in F, allowed, and different
abbrev pub Fits : Logs → (ℕ → Bool) → ℕ → List (Option ℕ) → Type 0
Fits L F i [] = Unit {0}
Fits L F i (None ∷ ps) = Fits L F (suc i) ps
Fits L F i (Some j ∷ ps) = (j < L.sent) × T (cand L F i j) × Fits L (without j F) (suc i) ps

pub equal_or_not : (a b : ℕ) (P : Type 0) → (a ≡ b → P) → ((a ≡ b → ⊥) → P) → P
equal_or_not a b P y n = go (eqb a b) (eqb→eq a b) (λ (e : eqb a b ≡ false) (q : a ≡ b). clash e q)
  where
    clash : eqb a b ≡ false → a ≡ b → ⊥
    clash e q = subst (λ (t : Bool). T t) e (subst (λ (x : ℕ). T (eqb a x)) q (lib.Dec.eqb_refl a))

    go : (t : Bool) → (T t → a ≡ b) → (t ≡ false → a ≡ b → ⊥) → P
    go true h k = y (h tt)
    go false h k = n (k refl)

module _ (L : Logs) where
  pub greedy_fits : (F : ℕ → Bool) (l i : ℕ) → Fits L F i (greedy L F l i)
  greedy_fits F zero i = tt
  greedy_fits F (suc l) i = go (earliest L F i) (found L F i) (greedy_fits (taking (earliest L F i) F) l (suc i))
    where
      go : (b : Option ℕ) → Earliest L F i L.sent b → Fits L (taking b F) (suc i) (greedy L (taking b F) l (suc i)) → Fits L F i (b ∷ greedy L (taking b F) l (suc i))
      go None h r = r
      go (Some g) h r = (h.0, h.1, r)

  -- what is changed in a list of partners: as long, and n fewer partners at most
  pub record Changed (F : ℕ → Bool) (i n : ℕ) (ps : List (Option ℕ)) : Type 0 where
    pub list : List (Option ℕ)
    pub fits : Fits L F i list
    pub long : length list ≡ length ps
    pub many : count ps ≤ n + count list

  more : (F : ℕ → Bool) (i n : ℕ) (p : Option ℕ) (ps : List (Option ℕ)) → Changed F (suc i) n ps → ((q : List (Option ℕ)) → Fits L F (suc i) q → Fits L F i (p ∷ q)) → Changed F i n (p ∷ ps)
  more F i n p ps c f = record { list = p ∷ c.list; fits = f c.list c.fits; long = omega (arith, c.long); many = omega (arith, c.many) }

  -- g is given up
  pub give_up : (g : ℕ) (F : ℕ → Bool) (i : ℕ) (ps : List (Option ℕ)) → Fits L F i ps → Changed (without g F) i 1 ps
  give_up g F i [] h = record { list = []; fits = tt; long = refl; many = omega arith }
  give_up g F i (None ∷ ps) h =
      let c = give_up g F (suc i) ps h in
      record { list = None ∷ c.list; fits = c.fits; long = omega (arith, c.long); many = omega (arith, c.many) }
  give_up g F i (Some j ∷ ps) h =
      equal_or_not g j (Changed (without g F) i 1 (Some j ∷ ps))
      (λ e. record { list = None ∷ ps; fits = subst (λ (x : ℕ). Fits L (without x F) (suc i) ps) (sym e) h.2; long = refl; many = omega arith })
      (λ n. other n (give_up g (without j F) (suc i) ps h.2))
    where
      other : (g ≡ j → ⊥) → Changed (without g (without j F)) (suc i) 1 ps → Changed (without g F) i 1 (Some j ∷ ps)
      other n c = record {
        list = Some j ∷ c.list;
        fits = (h.0, cand_other L g F i j h.1 n, subst (λ (G : ℕ → Bool). Fits L G (suc i) c.list) (without_swap g j F) c.fits);
        long = omega (arith, c.long);
        many = omega (arith, c.many);
      }

  -- whoever has g may have s instead
  pub exchange : (g s : ℕ) → s < L.sent → (F : ℕ → Bool) (i : ℕ) (ps : List (Option ℕ)) → T (F s) → (g ≡ s → ⊥)
      → ((k : ℕ) → i ≤ k → k < i + length ps → T (allowed L k g) → T (allowed L k s)) → Fits L (without s F) i ps → Changed (without g F) i 0 ps
  exchange g s S F i [] f n may h = record { list = []; fits = tt; long = refl; many = omega arith }
  exchange g s S F i (None ∷ ps) f n may h =
      let c = exchange g s S F (suc i) ps f n (λ k a b. may k (omega arith) (omega arith)) h in
      record { list = None ∷ c.list; fits = c.fits; long = omega (arith, c.long); many = omega (arith, c.many) }
  exchange g s S F i (Some j ∷ ps) f n may h =
      let t = cand_without L s F i j h.1 in
      equal_or_not g j (Changed (without g F) i 0 (Some j ∷ ps))
      (λ e. record {
        list = Some s ∷ ps;
        fits = (
          S,
          cand_other L g F i s (cand_in L F i s f (may i (omega arith) (omega arith) (subst (λ (x : ℕ). T (allowed L i x)) (sym e) (cand_allowed L F i j t.0)))) n,
          subst (λ (G : ℕ → Bool). Fits L G (suc i) ps) (without_swap g s F) (subst (λ (x : ℕ). Fits L (without x (without s F)) (suc i) ps) (sym e) h.2),
        );
        long = refl;
        many = omega arith;
      })
      (λ m. other m t.0
      (exchange g s S (without j F) (suc i) ps (subst (λ (b : Bool). T b) (sym (without_other j s F (λ e. t.1 (sym e)))) f) n (λ k a b. may k (omega arith) (omega arith))
      (subst (λ (G : ℕ → Bool). Fits L G (suc i) ps) (without_swap j s F) h.2)))
    where
      other : (g ≡ j → ⊥) → T (cand L F i j) → Changed (without g (without j F)) (suc i) 0 ps → Changed (without g F) i 0 (Some j ∷ ps)
      other m t c = record {
        list = Some j ∷ c.list;
        fits = (h.0, cand_other L g F i j t m, subst (λ (G : ℕ → Bool). Fits L G (suc i) c.list) (without_swap g j F) c.fits);
        long = omega (arith, c.long);
        many = omega (arith, c.many);
      }

  module _ (O : Orderly L) where
    -- the earliest one of entry i, g, and another, s: a later entry that may have g may have s
    safe : (F : ℕ → Bool) (i k g s : ℕ) → i ≤ k → k < L.heard → T (cand L F i g) → T (cand L F i s) → Before L F i g s → T (allowed L k g) → T (allowed L k s)
    safe F i k g s le lt cg cs b t =
        let ng = near L i g (cand_allowed L F i g cg) in
        let ns = near L i s (cand_allowed L F i s cs) in
        let nk = near L k g t in
        allow L k s (record {
          same = O.across i k g s ng.same ns.same nk.same;
          late = omega (arith, nk.late, b.no_later);
          early = omega (arith, ns.early, O.rising i k le lt);
        })

    pub most : (F : ℕ → Bool) (l i : ℕ) (ps : List (Option ℕ)) → i + l ≤ L.heard → length ps ≡ l → Fits L F i ps → count ps ≤ count (greedy L F l i)
    most F zero i [] within e h = omega arith
    most F zero i (p ∷ ps) within e h = absurd (omega arith)
    most F (suc l) i [] within e h = absurd (omega arith)
    most F (suc l) i (p ∷ ps) within e h = go p (earliest L F i) h (found L F i) (λ qs. most (taking (earliest L F i) F) l (suc i) qs (omega arith))
      where
        go : (p b : Option ℕ) → Fits L F i (p ∷ ps) → Earliest L F i L.sent b
            → ((qs : List (Option ℕ)) → length qs ≡ l → Fits L (taking b F) (suc i) qs → count qs ≤ count (greedy L (taking b F) l (suc i)))
            → cond (is_some p) 1 0 + count ps ≤ cond (is_some b) 1 0 + count (greedy L (taking b F) l (suc i))
        go None None h f ih = omega (arith, ih ps (omega arith) h)
        go (Some j) None h f ih = absurd (f j h.0 h.1)
        go None (Some g) h f ih =
            let c = give_up g F (suc i) ps h in
            omega (arith, c.many, ih c.list (omega (arith, c.long)) c.fits)
        go (Some j) (Some g) h f ih =
            equal_or_not g j (1 + count ps ≤ 1 + count (greedy L (without g F) l (suc i)))
            (λ q. omega (arith, ih ps (omega arith) (subst (λ (x : ℕ). Fits L (without x F) (suc i) ps) (sym q) h.2)))
            (λ n. swapped n (exchange g j h.0 F (suc i) ps (cand_free L F i j h.1) n (λ k a b. safe F i k g j (omega arith) (omega arith) f.1 h.1 (f.2 j h.0 h.1)) h.2))
          where
            swapped : (g ≡ j → ⊥) → Changed (without g F) (suc i) 0 ps → 1 + count ps ≤ 1 + count (greedy L (without g F) l (suc i))
            swapped n c = omega (arith, c.many, ih c.list (omega (arith, c.long)) c.fits)
