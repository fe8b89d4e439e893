-- The tests of an opening, one feed more in each iteration, and what holds where nothing is refused.
use Rattle.std.specs.Prelude.{Result, Ok, Err, is_ok}
use mathlib.Core.Bool.{Bool, true, false, cond, not, ◌&&◌, ◌||◌, false≢true}
use mathlib.Core.List.{List, [], ◌∷◌}
use mathlib.Core.Path.{◌≡◌, refl, sym, ap, ◌∙◌}
use Prim.Native.Nat.{ℕ, suc, ◌+◌, ◌≤◌, ◌<◌, min}
use borrow.Author.Tests.{le-leb, lt-leb, eqb-true, eqb-false, leb-true, leb-false, not-false}
use native.Mathlib.Numerals.{add-one}
use native.Mathlib.Omega.{arith}
use lib.Dec.{eqb, leb}
use lib.Ieee.{Float, nan}
use lib.ListN.{length, get_or, drop, length-drop}
use lib.Seq.{drop-cons}
use Rattle.refusals.specs.declared.Refusal.{Refusal}
use Rattle.refusals.specs.declared.Refusal.TheVariants.{Length, Feeds}
use Rattle.rack.specs.Feeds.{silent}
use Rattle.rack.specs.Opening.{gain_fits, each_fits, wrong_lengths, wrong_feeds, checked, delay_row, gain_row, rack_of, left_by, open_left}

-- what `zip_turn` of std says of a turn: the pair stands at n in both lists
abbrev pub Turn : List ℕ → List Float → ℕ → ℕ → Float → Type 0
Turn delays gains n x y = (n < length delays) × (n < length gains) × ((d : ℕ) → x ≡ get_or delays n d) × ((d : Float) → y ≡ get_or gains n d)

module _ (delays : List ℕ) (gains : List Float) (n : ℕ) (x : ℕ) (y : Float) (t : Turn delays gains n x y) where
  fits_step : each_fits (drop n delays) (drop n gains) ≡ leb x 4095 && gain_fits y && each_fits (drop (suc n) delays) (drop (suc n) gains)
  unfolding each_fits
  fits_step =
      (λ j. each_fits (drop-cons delays n 0 t.0 j) (drop-cons gains n nan t.1 j))
      ∙ (λ j. leb (sym (t.2 0) j) 4095 && gain_fits (sym (t.3 nan) j) && each_fits (drop (suc n) delays) (drop (suc n) gains))

  pub delay_out : 4095 < x → each_fits (drop n delays) (drop n gains) ≡ each_fits delays gains → false ≡ each_fits delays gains
  delay_out o e = sym (fits_step ∙ ap (λ (b : Bool). b && gain_fits y && each_fits (drop (suc n) delays) (drop (suc n) gains)) (lt-leb _ _ o)) ∙ e

  pub gain_out : x ≤ 4095 → (b : Bool) → b ≡ gain_fits y → b ≡ false → each_fits (drop n delays) (drop n gains) ≡ each_fits delays gains → false ≡ each_fits delays gains
  gain_out l b r o e = sym (fits_step ∙ (λ j. le-leb _ _ l j && (sym r ∙ o) j && each_fits (drop (suc n) delays) (drop (suc n) gains))) ∙ e

  pub feed_in : x ≤ 4095 → (b : Bool) → b ≡ gain_fits y → b ≡ true → (m : ℕ) → m ≡ n + 1 → each_fits (drop n delays) (drop n gains) ≡ each_fits delays gains
      → each_fits (drop m delays) (drop m gains) ≡ each_fits delays gains
  feed_in l b r o m s e =
      ap (λ (k : ℕ). each_fits (drop k delays) (drop k gains)) (s ∙ add-one n)
      ∙ sym (fits_step ∙ (λ j. le-leb _ _ l j && (sym r ∙ o) j && each_fits (drop (suc n) delays) (drop (suc n) gains)))
      ∙ e

-- one of the lists ends
ended : (ds : List ℕ) (gs : List Float) → length ds ≡ 0 → each_fits ds gs ≡ true
unfolding each_fits
ended [] gs h = refl
ended (d ∷ ds) gs h = absurd (omega arith)

ended_too : (ds : List ℕ) (gs : List Float) → length gs ≡ 0 → each_fits ds gs ≡ true
unfolding each_fits
ended_too [] gs h = refl
ended_too (d ∷ ds) [] h = refl
ended_too (d ∷ ds) (g ∷ gs) h = absurd (omega arith)

pub all_in : (delays : List ℕ) (gains : List Float) (n : ℕ) → n ≡ min (length delays) (length gains) → each_fits (drop n delays) (drop n gains) ≡ each_fits delays gains → true ≡ each_fits delays gains
all_in delays gains n h e = sym (by (leb (length delays) (length gains)) refl) ∙ e
  where
    by : (b : Bool) → leb (length delays) (length gains) ≡ b → each_fits (drop n delays) (drop n gains) ≡ true
    by true l = let f = leb-true _ _ l in ended (drop n delays) (drop n gains) (omega (arith, length-drop n delays))
    by false l = let f = leb-false _ _ l in ended_too (drop n delays) (drop n gains) (omega (arith, length-drop n gains))

-- ---- the order of the refusals
-- both sides of a false `or`
or_false : (a b : Bool) → (a || b) ≡ false → (a ≡ false) × (b ≡ false)
or_false true b e = absurd (false≢true (sym e))
or_false false b e = (refl, e)

module _ (memory : ℕ) (delays : List ℕ) (gains : List Float) where
  -- what holds of an opening that is not refused
  pub record Fits : Type 0 where
    pub memory_is : memory ≡ 8190
    pub alike : length delays ≡ length gains
    pub some_feeds : 1 ≤ length delays
    pub most : length delays ≤ 16
    pub each : each_fits delays gains ≡ true

  neither : (a b : Bool) (u : Unit {0}) → ◌≡◌ {A = Result (Unit {0}) Refusal} (cond a (Err Length) (cond b (Err Feeds) (Ok tt))) (Ok u) → (a ≡ false) × (b ≡ false)
  neither true b u e = absurd (false≢true (ap is_ok e))
  neither false true u e = absurd (false≢true (ap is_ok e))
  neither false false u e = (refl, refl)

  pub fits : (u : Unit {0}) → checked memory delays gains ≡ Ok u → Fits
  unfolding checked wrong_lengths wrong_feeds
  fits u e =
      let n = neither (wrong_lengths memory delays gains) (wrong_feeds delays gains) u e in
      let l = or_false (not (eqb memory 8190)) (not (eqb (length delays) (length gains))) n.0 in
      let f = or_false (eqb (length delays) 0 || not (leb (length delays) 16)) (not (each_fits delays gains)) n.1 in
      let g = or_false (eqb (length delays) 0) (not (leb (length delays) 16)) f.0 in
      record {
        memory_is = eqb-true _ _ (not-false _ l.0);
        alike = eqb-true _ _ (not-false _ l.1);
        some_feeds = let z = eqb-false (length delays) 0 g.0 in omega arith;
        most = leb-true _ _ (not-false _ g.1);
        each = not-false _ f.1;
      }

-- ---- what an opening leaves
module _ (memory : List Float) (delays : List ℕ) (gains : List Float) (r : Result (Unit {0}) Refusal) (e : r ≡ checked (length memory) delays gains) where
  pub left_opened : (u : Unit {0}) → r ≡ Ok u → (after : List Float) (delays_row : List ℕ) (gains_row : List Float) → after ≡ silent (length memory) → delays_row ≡ delay_row delays → gains_row ≡ gain_row gains
      → record { answer = Ok (record { feeds = length delays; seen = 0; delays = delays_row; gains = gains_row }); memory = after } ≡ open_left memory delays gains
  unfolding open_left left_by rack_of
  left_opened u h after delays_row gains_row m d g =
      (λ j. record { answer = Ok (record { feeds = length delays; seen = 0; delays = d j; gains = g j }); memory = (m ∙ ap silent (fits (length memory) delays gains u (sym e ∙ h)).memory_is) j })
      ∙ ap (left_by memory delays gains) (sym h ∙ e)
