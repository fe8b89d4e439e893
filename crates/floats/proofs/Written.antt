-- A loop that writes f of each element of one list over another: a turn more, the end, and what is not yet written.
use Rattle.std.proofs.Common.{◌≡◌, ℕ, ◌+◌, ◌<◌, ◌≤◌, List, ◌++◌, length, get_or, set, drop, map, sym, ap, ◌∙◌, zero-add, zero-le, drop_of_length-le, arith}
use Rattle.std.proofs.lemmas.List.{get_or-map, get_or-drop, length-map, append-nil}
use Rattle.std.proofs.lemmas.List.Edits.{paste_more, paste_all, drop-paste}
use lib.Seq.{paste}

module _ {A B : Type 0} (f : A → B) (xs : List A) (old now : List B) where
  -- the first i are written
  abbrev pub Written : ℕ → Type 0
  Written i = now ≡ paste old 0 (map f xs) i

  pub not_yet : (i : ℕ) (b : B) → Written i → i < length xs → get_or now i b ≡ get_or old i b
  not_yet i b e h =
      at now
      ∙ ap (λ (l : List B). get_or (drop (0 + i) l) 0 b) e
      ∙ ap (λ (l : List B). get_or l 0 b) (drop-paste old 0 (map f xs) i zero-le (omega (arith, length-map xs f)))
      ∙ sym (at old)
    where
      at : (l : List B) → get_or l i b ≡ get_or (drop (0 + i) l) 0 b
      at l = ap (λ (k : ℕ). get_or l k b) (omega arith) ∙ sym (get_or-drop (0 + i) l 0 b)

  pub written_next : (i : ℕ) (a : A) (b v : B) → Written i → v ≡ f (get_or xs i a) → i < length xs → i < length old → set now i v ≡ paste old 0 (map f xs) (i + 1)
  written_next i a b v e w h k =
      (λ t. set (e t) i ((w ∙ sym (get_or-map f xs i a b h)) t))
      ∙ ap (λ (j : ℕ). set (paste old 0 (map f xs) i) j (get_or (map f xs) i b)) (sym (zero-add i))
      ∙ paste_more old 0 (map f xs) i b (omega arith) (omega (arith, length-map xs f))

  pub written_all : (n : ℕ) → Written n → n ≡ length xs → length old ≤ n → now ≡ map f xs
  written_all n e l k =
      e
      ∙ paste_all old 0 (map f xs) n (omega (arith, length-map xs f))
      ∙ ap (λ (l : List B). map f xs ++ l) (drop_of_length-le old {i = 0 + n} (omega arith))
      ∙ append-nil (map f xs)
