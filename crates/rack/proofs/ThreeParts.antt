-- A feed written in three stretches is the feed of the definition.
use mathlib.Core.Bool.{Bool, true, false}
use mathlib.Core.List.{List, [], ◌++◌, append_assoc, append-nil}
use mathlib.Core.Path.{◌≡◌, refl, sym, ap, subst, ◌∙◌}
use Prim.Native.Nat.{ℕ, ◌+◌, ◌-◌, ◌*◌, ◌≤◌, ◌<◌, min}
use native.Mathlib.Omega.{arith}
use borrow.Author.Tests.{leb-true, leb-false}
use lib.Dec.{leb}
use lib.Ieee.{Float}
use borrow.Rule.Slice.PartMut.{put_mid, post_of}
use lib.ListN.{length, take, drop, length-append, length-drop, drop_of_length-le}
use lib.Seq.{length-take-le, take_all, take_at, drop-drop, drop-append-le}
use Rattle.rack.specs.Feeds.{silent, scaled}
use Rattle.rack.proofs.Lists.{take_append, length_silent, take_silent, drop_silent, length_scaled, scaled_append, take_scaled, drop_scaled}
use Rattle.rack.specs.Memory.{feed_of}

either : (a b : ℕ) {P : Type 0} → (a ≤ b → P) → (b < a → P) → P
either a b {P} f g = go (leb a b) refl
  where
    go : (t : Bool) → leb a b ≡ t → P
    go true e = f (leb-true a b e)
    go false e = g (leb-false a b e)

-- ---- numbers
seen_part : (w back known : ℕ) → back ≤ w → known ≤ w → w - (w - known + (known - back)) ≡ back - (back - known)
seen_part w back known hb hk = omega arith

rest_part : (n back u : ℕ) → u ≤ back → n - u - (back - u) ≡ n - min n back
rest_part n back u h = omega arith

in_order_lem : (n back known : ℕ) → min n (back - known) ≤ min n back
in_order_lem n back known = omega arith

behind : (b d : ℕ) → b ≡ 2 * min d 4095 → 8190 - b ≡ 2 * (4095 - d)
behind b d e = omega arith

fits_memory : (w back h u : ℕ) → h ≤ back → back ≤ w → h - u ≤ w - (w - back + u)
fits_memory w back h u g hb = omega arith

-- ---- a feed
-- w numbers of memory, of which `known` were seen, and n numbers of samples; a feed that looks back over `back` numbers
module _ (gain : Float) (memory samples : List Float) (w back known n : ℕ) (hn : length samples ≡ n) (hm : length memory ≡ w) (hb : back ≤ w) (hk : known ≤ w) where
  -- the part from the memory, whether or not the samples reach past it
  in_memory : take (n - (back - known)) (drop (w - known + (known - back)) memory) ≡ take (min n back - min n (back - known)) (drop (w - back + min n (back - known)) memory)
  in_memory = either n (back - known) short (λ h. same_start h ∙ either n back (same_count h) (whole h))
    where
      short : n ≤ back - known → take (n - (back - known)) (drop (w - known + (known - back)) memory) ≡ take (min n back - min n (back - known)) (drop (w - back + min n (back - known)) memory)
      short h =
          ap (λ (k : ℕ). take k (drop (w - known + (known - back)) memory)) {x = n - (back - known)} {y = 0} (omega arith)
          ∙ sym (ap (λ (k : ℕ). take k (drop (w - back + min n (back - known)) memory)) {x = min n back - min n (back - known)} {y = 0} (omega arith))

      same_start : back - known < n → take (n - (back - known)) (drop (w - known + (known - back)) memory) ≡ take (n - (back - known)) (drop (w - back + min n (back - known)) memory)
      same_start h = ap (λ (k : ℕ). take (n - (back - known)) (drop k memory)) {x = w - known + (known - back)} {y = w - back + min n (back - known)} (omega arith)

      same_count : back - known < n → n ≤ back → take (n - (back - known)) (drop (w - back + min n (back - known)) memory) ≡ take (min n back - min n (back - known)) (drop (w - back + min n (back - known)) memory)
      same_count h g = ap (λ (k : ℕ). take k (drop (w - back + min n (back - known)) memory)) {x = n - (back - known)} {y = min n back - min n (back - known)} (omega arith)

      whole : back - known < n → back < n → take (n - (back - known)) (drop (w - back + min n (back - known)) memory) ≡ take (min n back - min n (back - known)) (drop (w - back + min n (back - known)) memory)
      whole h g =
          take_all (n - (back - known)) (drop (w - back + min n (back - known)) memory) (omega (arith, length-drop (w - back + min n (back - known)) memory))
          ∙ sym (take_all (min n back - min n (back - known)) (drop (w - back + min n (back - known)) memory) (omega (arith, length-drop (w - back + min n (back - known)) memory)))

  -- what the feed is cut from, from `back` numbers before the call on
  source : drop (w - back) (silent (w - known) ++ scaled gain (drop (w - known) memory ++ samples)) ≡ silent (back - known) ++ scaled gain (drop (w - known + (known - back)) memory ++ samples)
  source =
      drop_silent (w - back) (w - known) (scaled gain (drop (w - known) memory ++ samples))
      ∙ (λ i. silent (a i) ++ drop (b i) (scaled gain (drop (w - known) memory ++ samples)))
      ∙ ap (λ (l : List Float). silent (back - known) ++ l)
      (drop_scaled gain (known - back) (drop (w - known) memory ++ samples)
      ∙ ap (scaled gain) (drop-append-le (known - back) (drop (w - known) memory) samples (omega (arith, length-drop (w - known) memory)) ∙ ap (λ (l : List Float). l ++ samples) (drop-drop (known - back) (w - known) memory)))
    where
      a : w - known - (w - back) ≡ back - known
      a = omega arith

      b : w - back - (w - known) ≡ known - back
      b = omega arith

  pub three_parts :
      silent (min n (back - known)) ++ scaled gain (take (min n back - min n (back - known)) (drop (w - back + min n (back - known)) memory)) ++ scaled gain (take (n - min n back) samples)
      ≡ take n (drop (w - back) (silent (w - known) ++ scaled gain (drop (w - known) memory ++ samples)))
  three_parts = sym (
      ap (take n) source
      ∙ take_append n (silent (back - known)) (scaled gain (drop (w - known + (known - back)) memory ++ samples))
      ∙ (λ i. take_silent n (back - known) i ++ take (n - length_silent (back - known) i) (scaled gain (drop (w - known + (known - back)) memory ++ samples)))
      ∙ ap (λ (l : List Float). silent (min n (back - known)) ++ l)
      (take_scaled gain (n - (back - known)) (drop (w - known + (known - back)) memory ++ samples)
      ∙ ap (scaled gain) (take_append (n - (back - known)) (drop (w - known + (known - back)) memory) samples)
      ∙ scaled_append gain (take (n - (back - known)) (drop (w - known + (known - back)) memory)) (take (n - (back - known) - length (drop (w - known + (known - back)) memory)) samples)
      ∙ (λ i. scaled gain (in_memory i) ++ scaled gain (take (rest i) samples)))
      ∙ sym (append_assoc (silent (min n (back - known))) (scaled gain (take (min n back - min n (back - known)) (drop (w - back + min n (back - known)) memory))) (scaled gain (take (n - min n back) samples))))
    where
      rest : n - (back - known) - length (drop (w - known + (known - back)) memory) ≡ n - min n back
      rest =
          ap (λ (k : ℕ). n - (back - known) - k) (length-drop (w - known + (known - back)) memory ∙ ap (λ (k : ℕ). k - (w - known + (known - back))) hm ∙ seen_part w back known hb hk)
          ∙ rest_part n back (back - known) (omega arith)

-- ---- three stretches, one behind the other
three_written : (xs ys zs to written : List Float) (u h : ℕ) → length xs ≡ u → u ≤ h → length ys ≡ h - u → written ≡ put_mid u (h - u) (xs ++ drop u to) ys
    → take h written ++ (zs ++ post_of h (length written - h) written) ≡ xs ++ ys ++ zs
three_written xs ys zs to written u h lx hu ly e =
    (λ i. front i ++ (zs ++ behind_all i))
    ∙ ap (λ (l : List Float). xs ++ ys ++ l) (append-nil zs)
  where
    rest : List Float
    rest = post_of u (h - u) (xs ++ drop u to)

    parts : written ≡ xs ++ ys ++ rest
    parts = e ∙ ap (λ (l : List Float). l ++ (ys ++ rest)) (take_at xs (drop u to) u lx) ∙ sym (append_assoc xs ys rest)

    front : take h written ≡ xs ++ ys
    front = ap (take h) parts ∙ take_at (xs ++ ys) rest h (omega (arith, length-append xs ys))

    behind_all : post_of h (length written - h) written ≡ []
    behind_all = drop_of_length-le (drop h written) {i = length written - h} (omega (arith, length-drop h written))

-- the three stretches that `write_feed` writes
pub feed_written : (gain : Float) (delay seen : ℕ) (memory samples to xs ys zs : List Float) (back known unseen held : ℕ)
    → length memory ≡ 8190 → length to ≡ length samples → back ≡ 2 * min delay 4095 → known ≡ 2 * min seen 4095
    → unseen ≡ min (length samples) (back - known) → held ≡ min (length samples) back
    → xs ≡ silent (length (take unseen to))
    → ys ≡ scaled gain (take (8190 - back + unseen + (held - unseen) - (8190 - back + unseen)) (drop (8190 - back + unseen) memory))
    → zs ≡ scaled gain (take (length samples - held) samples)
    → (written : List Float) → written ≡ put_mid unseen (held - unseen) (xs ++ drop unseen to) ys
    → take held written ++ (zs ++ post_of held (length written - held) written) ≡ feed_of gain delay seen memory samples
unfolding feed_of
feed_written gain delay seen memory samples to xs ys zs back known unseen held hm ht eb ek eu eh ex ey ez written e =
    three_written xs ys zs to written unseen held length_first order length_second e
    ∙ (λ i. first i ++ second i ++ ez i)
    ∙ (λ i. silent (eu i) ++ scaled gain (take (eh i - eu i) (drop (8190 - back + eu i) memory)) ++ scaled gain (take (length samples - eh i) samples))
    ∙ three_parts gain memory samples 8190 back known (length samples) refl hm below (omega (arith, ek))
    ∙ (λ i. take (length samples) (drop (first_cut i) (silent (second_cut i) ++ scaled gain (drop (second_cut i) memory ++ samples))))
  where
    order : unseen ≤ held
    order = subst (λ (k : ℕ). k ≤ held) (sym eu) (subst (λ (k : ℕ). min (length samples) (back - known) ≤ k) (sym eh) (in_order_lem (length samples) back known))

    below : back ≤ 8190
    below = omega (arith, eb)

    first : xs ≡ silent unseen
    first = ex ∙ ap silent (length-take-le unseen to (omega (arith, eu)))

    second : ys ≡ scaled gain (take (held - unseen) (drop (8190 - back + unseen) memory))
    second = ey ∙ ap (λ (k : ℕ). scaled gain (take k (drop (8190 - back + unseen) memory))) {x = 8190 - back + unseen + (held - unseen) - (8190 - back + unseen)} {y = held - unseen} (omega arith)

    length_first : length xs ≡ unseen
    length_first = ap length first ∙ length_silent unseen

    length_second : length ys ≡ held - unseen
    length_second =
        ap length second
        ∙ length_scaled gain (take (held - unseen) (drop (8190 - back + unseen) memory))
        ∙ length-take-le (held - unseen) (drop (8190 - back + unseen) memory)
        (subst (λ (k : ℕ). held - unseen ≤ k) (sym (length-drop (8190 - back + unseen) memory ∙ ap (λ (k : ℕ). k - (8190 - back + unseen)) hm)) (fits_memory 8190 back held unseen (omega (arith, eh)) below))

    first_cut : 8190 - back ≡ 2 * (4095 - delay)
    first_cut = behind back delay eb

    second_cut : 8190 - known ≡ 2 * (4095 - seen)
    second_cut = behind known seen ek
