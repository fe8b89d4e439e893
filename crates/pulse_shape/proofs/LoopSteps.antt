-- One step of each loop that reads, and its end: what is left of the computation is the same.
use Rattle.std.specs.Prelude.{Some, None}
use Rattle.std.proofs.Common.{◌≡◌, ℕ, zero, suc, ◌+◌, ◌-◌, ◌<◌, ◌≤◌, Bool, true, false, List, [], ◌∷◌, length, get_or, drop, sym, refl, ap, ◌∙◌, add-one, arith, length-drop, drop-cons}
use lib.Ieee.{Float, binary32, nan, add, mul}
use Rattle.std.proofs.lemmas.Bool.Decides.{nat_tests}
use Rattle.pulse_shape.specs.Convolve.{products_from, first_term}
use Rattle.pulse_shape.specs.GroupDelay.{crosses, delay_at, choose, delay_from}

-- the first index, as a difference that stops at 0
pub first_index : (l j : ℕ) → j + 1 - l ≡ first_term l j
first_index l j = grind (arith, nat_tests)

pub products_step : (a b : List Float) (j e k : ℕ) (sum : Float) → k < e
    → products_from a b j (e - k) k sum ≡ products_from a b j (e - (k + 1)) (k + 1) (add binary32 sum (mul binary32 (get_or a k nan) (get_or b (j - k) nan)))
unfolding products_from
products_step a b j e k sum h =
    let n : e - k ≡ suc (e - (k + 1)) = omega arith in
    rw n

pub products_end : (a b : List Float) (j e k : ℕ) (sum : Float) → e ≤ k → products_from a b j (e - k) k sum ≡ sum
unfolding products_from
products_end a b j e k sum h =
    let n : e - k ≡ 0 = omega arith in
    rw n

drop_next : (l : List Float) (j : ℕ) → j < length l → drop j l ≡ get_or l j nan ∷ drop (j + 1) l
drop_next l j h = drop-cons l j nan h ∙ ap (λ (i : ℕ). get_or l j nan ∷ drop i l) (sym (add-one j))

pub delay_step : (level : Float) (l : List Float) (j : ℕ) → j + 1 < length l
    → delay_from level j (drop j l)
    ≡ choose (crosses level (get_or l j nan) (get_or l (j + 1) nan)) (Some (delay_at level j (get_or l j nan) (get_or l (j + 1) nan))) (delay_from level (j + 1) (drop (j + 1) l))
unfolding delay_from
delay_step level l j h =
    let a = get_or l j nan in
    let b = get_or l (j + 1) nan in
    let next : drop (j + 1) l ≡ b ∷ drop (j + 1 + 1) l = drop_next l (j + 1) h in
    ap (delay_from level j) (drop_next l j (omega arith) ∙ ap (λ (t : List Float). a ∷ t) next)
    ∙ ap (λ (t : List Float). choose (crosses level a b) (Some (delay_at level j a b)) (delay_from level (j + 1) t)) (sym next)

pub delay_end : (level : Float) (l : List Float) (j : ℕ) → length l ≤ j + 1 → delay_from level j (drop j l) ≡ None
unfolding delay_from
delay_end level [] zero h = refl
delay_end level [] (suc j) h = refl
delay_end level (a ∷ []) zero h = refl
delay_end level (a ∷ b ∷ l) zero h = absurd (omega arith)
delay_end level (a ∷ l) (suc j) h = last (drop j l) j (omega (arith, short l j (omega arith)))
  where
    last : (t : List Float) (j : ℕ) → length t ≤ 1 → delay_from level (suc j) t ≡ None
    last [] j h = refl
    last (a ∷ []) j h = refl
    last (a ∷ b ∷ t) j h = absurd (omega arith)

    short : (l : List Float) (j : ℕ) → length l ≤ j + 1 → length (drop j l) ≤ 1
    short l j h = simp length-drop (omega arith)

pub delay_stop : (level : Float) (l : List Float) (j : ℕ) → j + 1 < length l → crosses level (get_or l j nan) (get_or l (j + 1) nan) ≡ true
    → delay_from level j (drop j l) ≡ Some (delay_at level j (get_or l j nan) (get_or l (j + 1) nan))
delay_stop level l j h e =
    delay_step level l j h ∙ ap (λ (t : Bool). choose t (Some (delay_at level j (get_or l j nan) (get_or l (j + 1) nan))) (delay_from level (j + 1) (drop (j + 1) l))) e

pub delay_on : (level : Float) (l : List Float) (j : ℕ) → j + 1 < length l → crosses level (get_or l j nan) (get_or l (j + 1) nan) ≡ false
    → delay_from level j (drop j l) ≡ delay_from level (j + 1) (drop (j + 1) l)
delay_on level l j h e =
    delay_step level l j h ∙ ap (λ (t : Bool). choose t (Some (delay_at level j (get_or l j nan) (get_or l (j + 1) nan))) (delay_from level (j + 1) (drop (j + 1) l))) e
