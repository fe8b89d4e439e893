-- Working memory as a ring: reads after writes, slots of samples less than a window apart differ, and what adding a reply does to each.
use mathlib.Core.List.{List, [], ◌∷◌}
use mathlib.Core.Logic.{◌≢◌}
use mathlib.Core.Path.{◌≡◌, refl, sym, ap, ◌∙◌, subst}
use Prim.Native.Nat.{ℕ, zero, suc, ◌+◌, ◌*◌, ◌/◌, ◌%◌, ◌≤◌, ◌<◌}
use native.Mathlib.Decide.{dec_le}
use native.Mathlib.Nat.{mod-lt, div-add-mod', mul-le-mul_right, add-zero}
use native.Mathlib.Omega.{arith}
use lib.ListN.{length, set, length-replicate, length-set, get_or-replicate}
use lib.Seq.{get_or-set_same, get_or-set_other}
use Rattle.run_theory.specs.Generator.{Generator, Sample, silence, add}
use Rattle.run_theory.specs.PlainRun.{add_nth}
use Rattle.run_call_model.specs.Machine.{window, blank, rd, wr, put}

pub mod_apart : (w n m : ℕ) → n < m → m < n + w → n % w ≢ m % w
mod_apart w n m lt near e = go (dec_le (m / w) (n / w))
  where
    go : Dec (m / w ≤ n / w) → ⊥
    go (yes h) = omega (arith, div-add-mod' n w, div-add-mod' m w, mul-le-mul_right w h)
    go (no h) = omega (arith, div-add-mod' n w, div-add-mod' m w, mul-le-mul_right {m = suc (n / w)} {n = m / w} w (omega arith))

module _ (G : Generator) (o : G.Value) where
  open G use {Value}

  abbrev w : ℕ
  w = window G o

  -- memory of the right length
  abbrev pub Fit : List Value → Type 0
  Fit m = length m ≡ 2 * window G o

  pub fit_blank : Fit (blank G o)
  fit_blank = length-replicate (2 * w) G.nought

  pub rd_blank : (i : ℕ) → i < w → rd G o (blank G o) i ≡ silence G
  rd_blank i h = λ k. record {
    re = get_or-replicate (2 * w) (2 * i) G.nought o (omega arith) k;
    im = get_or-replicate (2 * w) (2 * i + 1) G.nought o (omega arith) k;
  }

  pub length_wr : (m : List Value) (i : ℕ) (a : Sample G) → length (wr G o m i a) ≡ length m
  length_wr m i a = length-set (set m (2 * i) a.re) (2 * i + 1) a.im ∙ length-set m (2 * i) a.re

  pub fit_wr : (m : List Value) (i : ℕ) (a : Sample G) → Fit m → Fit (wr G o m i a)
  fit_wr m i a h = length_wr m i a ∙ h

  pub rd_same : (m : List Value) (i : ℕ) (a : Sample G) → Fit m → i < w → rd G o (wr G o m i a) i ≡ a
  rd_same m i a h lt = λ k. record {
    re = (get_or-set_other (set m (2 * i) a.re) (2 * i + 1) (2 * i) a.im o (omega arith) ∙ get_or-set_same m (2 * i) a.re o (omega arith)) k;
    im = get_or-set_same (set m (2 * i) a.re) (2 * i + 1) a.im o (omega (arith, length-set m (2 * i) a.re)) k;
  }

  pub rd_other : (m : List Value) (i j : ℕ) (a : Sample G) → j ≢ i → rd G o (wr G o m i a) j ≡ rd G o m j
  rd_other m i j a ne = λ k. record {
    re = (get_or-set_other (set m (2 * i) a.re) (2 * i + 1) (2 * j) a.im o (omega arith) ∙ get_or-set_other m (2 * i) (2 * j) a.re o (λ e. ne (omega arith))) k;
    im = (get_or-set_other (set m (2 * i) a.re) (2 * i + 1) (2 * j + 1) a.im o (λ e. ne (omega arith)) ∙ get_or-set_other m (2 * i) (2 * j + 1) a.re o (omega arith)) k;
  }

  module _ (pos : zero < window G o) where
    slot_lt : (n : ℕ) → n % w < w
    slot_lt n = mod-lt n pos

    pub fit_put : (m : List Value) (s : ℕ) (xs : List (Sample G)) → Fit m → Fit (put G o m s xs)
    fit_put m s [] h = h
    fit_put m s (x ∷ xs) h = fit_put (wr G o m (s % w) (add G (rd G o m (s % w)) x)) (suc s) xs (fit_wr m (s % w) (add G (rd G o m (s % w)) x) h)

    -- a write elsewhere in the window leaves a sample
    pub rd_ahead : (m : List Value) (s n : ℕ) (a : Sample G) → n < s → s < n + w → rd G o (wr G o m (s % w) a) (n % w) ≡ rd G o m (n % w)
    rd_ahead m s n a lt near = rd_other m (s % w) (n % w) a (mod_apart w n s lt near)

    pub rd_back : (m : List Value) (s n : ℕ) (a : Sample G) → s < n → n < s + w → rd G o (wr G o m (s % w) a) (n % w) ≡ rd G o m (n % w)
    rd_back m s n a lt near = rd_other m (s % w) (n % w) a (λ e. mod_apart w s n lt near (sym e))

    pub rd_here : (m : List Value) (s : ℕ) (a : Sample G) → Fit m → rd G o (wr G o m (s % w) a) (s % w) ≡ a
    rd_here m s a f = rd_same m (s % w) a f (slot_lt s)

    pub put_ahead : (m : List Value) (s n : ℕ) (xs : List (Sample G)) → n < s → s + length xs ≤ n + w → rd G o (put G o m s xs) (n % w) ≡ rd G o m (n % w)
    put_ahead m s n [] lt near = refl
    put_ahead m s n (x ∷ xs) lt near =
        put_ahead (wr G o m (s % w) (add G (rd G o m (s % w)) x)) (suc s) n xs (omega arith) (omega arith)
        ∙ rd_ahead m s n (add G (rd G o m (s % w)) x) lt (omega arith)

    pub put_at : (m : List Value) (s k : ℕ) (xs : List (Sample G)) → Fit m → k < w → length xs ≤ w → rd G o (put G o m s xs) ((s + k) % w) ≡ add_nth G (rd G o m ((s + k) % w)) xs k
    put_at m s k [] f lt fits = refl
    put_at m s zero (x ∷ xs) f lt fits =
        rw (add-zero s)
        (put_ahead (wr G o m (s % w) (add G (rd G o m (s % w)) x)) (suc s) s xs (omega arith) (omega arith)
        ∙ rd_here m s (add G (rd G o m (s % w)) x) f)
    put_at m s (suc k) (x ∷ xs) f lt fits =
        subst (λ (n : ℕ). rd G o (put G o (wr G o m (s % w) (add G (rd G o m (s % w)) x)) (suc s) xs) (n % w) ≡ add_nth G (rd G o m (n % w)) xs k) (omega arith)
        (put_at (wr G o m (s % w) (add G (rd G o m (s % w)) x)) (suc s) k xs (fit_wr m (s % w) (add G (rd G o m (s % w)) x) f) (omega arith) (omega arith)
        ∙ ap (λ (a : Sample G). add_nth G a xs k) (rd_back m s (suc s + k) (add G (rd G o m (s % w)) x) (omega arith) (omega arith)))
