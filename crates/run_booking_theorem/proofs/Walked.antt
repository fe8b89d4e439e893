-- Laws of the walk over draws: of draws one after the other, with an end draw among the first of them or not.
use Prim.Native.Nat.{ℕ, suc, ◌+◌}
use mathlib.Core.Bool.{true, false, true≢false, false≢true}
use mathlib.Core.List.{List, [], ◌∷◌, ◌++◌, append-nil}
use mathlib.Core.Path.{◌≡◌, sym, ap, ◌∙◌}
use native.Mathlib.Omega.{arith}
use lib.ListN.{length}
use Rattle.run_theory.specs.Generator.{Generator}
use Rattle.run_theory.specs.PlainRun.{Kind, ignored, ends, reply, kind, time_of, ends_by, ended, push, replies}
use Rattle.run_booking.specs.Walk.{at_draw, ran_out, by_kind, walk_from}

module _ (G : Generator) where
  open G use {Draw, Time, after}

  -- draws without an end draw are passed over
  pub walk_on : (k n : ℕ) (t : Time) (ds es : List Draw) → ended G t ds ≡ false → walk_from G k n t (ds ++ es) ≡ walk_from G (k + length ds) (n + length (replies G t ds)) (time_of G t ds) es
  walk_on k n t [] es h = λ i. walk_from G (same k i) (same n i) t es
    where
      same : (m : ℕ) → m ≡ m + 0
      same m = omega arith
  walk_on k n t (d ∷ ds) es h = go (kind G (after t d) d) h (λ m h'. walk_on (suc k) m (after t d) ds es h')
    where
      up : (a b : ℕ) → suc a + b ≡ a + suc b
      up a b = omega arith

      go : (x : Kind) → ends_by G x (ended G (after t d) ds) ≡ false
          → ((m : ℕ) → ended G (after t d) ds ≡ false → walk_from G (suc k) m (after t d) (ds ++ es) ≡ walk_from G (suc k + length ds) (m + length (replies G (after t d) ds)) (time_of G (after t d) ds) es)
          → by_kind x (walk_from G (suc k) n (after t d) (ds ++ es)) (record { records = n; taken = suc k; end = at_draw k }) (walk_from G (suc k) (suc n) (after t d) (ds ++ es))
          ≡ walk_from G (k + suc (length ds)) (n + length (push G x (after t d) d (replies G (after t d) ds))) (time_of G (after t d) ds) es
      go ignored e ih = ih n e ∙ ap (λ (m : ℕ). walk_from G m (n + length (replies G (after t d) ds)) (time_of G (after t d) ds) es) (up k (length ds))
      go ends e ih = absurd (true≢false e)
      go (reply s) e ih = ih (suc n) e ∙ (λ i. walk_from G (up k (length ds) i) (up n (length (replies G (after t d) ds)) i) (time_of G (after t d) ds) es)

  -- without an end draw, draws run out
  pub walk_out : (k n : ℕ) (t : Time) (ds : List Draw) → ended G t ds ≡ false → walk_from G k n t ds ≡ record { records = n + length (replies G t ds); taken = k + length ds; end = ran_out (time_of G t ds) }
  walk_out k n t ds h = ap (walk_from G k n t) (sym (append-nil ds)) ∙ walk_on k n t ds [] h

  -- an end draw is found, whatever is put after
  pub walk_ends : (k n : ℕ) (t : Time) (ds : List Draw) → ended G t ds ≡ true → (last : ℕ) × ((es : List Draw) → walk_from G k n t (ds ++ es) ≡ record { records = n + length (replies G t ds); taken = suc last; end = at_draw last })
  walk_ends k n t [] h = absurd (false≢true h)
  walk_ends k n t (d ∷ ds) h = go (kind G (after t d) d) h (λ m h'. walk_ends (suc k) m (after t d) ds h')
    where
      up : (a b : ℕ) → suc a + b ≡ a + suc b
      up a b = omega arith

      go : (x : Kind) → ends_by G x (ended G (after t d) ds) ≡ true
          → ((m : ℕ) → ended G (after t d) ds ≡ true → (last : ℕ) × ((es : List Draw) → walk_from G (suc k) m (after t d) (ds ++ es) ≡ record { records = m + length (replies G (after t d) ds); taken = suc last; end = at_draw last }))
          → (last : ℕ) × ((es : List Draw) → by_kind x (walk_from G (suc k) n (after t d) (ds ++ es)) (record { records = n; taken = suc k; end = at_draw k }) (walk_from G (suc k) (suc n) (after t d) (ds ++ es))
          ≡ record { records = n + length (push G x (after t d) d (replies G (after t d) ds)); taken = suc last; end = at_draw last })
      go ignored e ih = ih n e
      go ends e ih = (k, λ es. λ i. record { records = none_more n i; taken = suc k; end = at_draw k })
        where
          none_more : (m : ℕ) → m ≡ m + 0
          none_more m = omega arith
      go (reply s) e ih =
          let f = ih (suc n) e in
          (f.0, λ es. f.1 es ∙ (λ i. record { records = up n (length (replies G (after t d) ds)) i; taken = suc f.0; end = at_draw f.0 }))
