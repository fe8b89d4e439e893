-- A draw of fourteen bytes, byte by byte, and what stores in it make.
use mathlib.Core.Path.{◌≡◌, refl, sym, ap, ◌∙◌}
use mathlib.Core.List.{List, [], ◌∷◌, ◌++◌}
use Prim.Native.Nat.{ℕ, zero, suc, ◌+◌, ◌/◌, ◌%◌, ◌<◌, ◌≤◌}
use native.Mathlib.Omega.{arith}
use lib.ListN.{length, get_or, set, take, drop}
use lib.Seq.{drop-cons, take_all}
use Rattle.mode_s.specs.Parity.{parity_of, parity_bytes, with_parity}

-- n bytes from index k on, each by itself
unfoldable pub each : List ℕ → ℕ → ℕ → List ℕ
each l k zero = []
each l k (suc n) = get_or l k 0 ∷ each l (suc k) n

pub taken : (l : List ℕ) (k n : ℕ) → k + n ≤ length l → take n (drop k l) ≡ each l k n
unfolding each
taken l k zero h = refl
taken l k (suc n) h =
    let lt : k < length l = omega arith in
    ap (take (suc n)) (drop-cons l k 0 lt) ∙ ap (λ (m : List ℕ). get_or l k 0 ∷ m) (taken l (suc k) n (omega arith))

pub four : (l : List ℕ) → length l ≡ 4 → each l 0 4 ≡ l
four l h = sym (taken l 0 4 (omega arith)) ∙ take_all 4 l (omega arith)

module _ (l : List ℕ) (fourteen : length l ≡ 14) where
  whole : l ≡ each l 0 14
  whole = sym (take_all 14 l (omega arith)) ∙ taken l 0 14 (omega arith)

  pub bytes_1_to_3 : take 3 (drop 1 l) ≡ get_or l 1 0 ∷ get_or l 2 0 ∷ get_or l 3 0 ∷ []
  unfolding each
  bytes_1_to_3 = taken l 1 3 (omega arith)

  pub bytes_1_to_6 : take 6 (drop 1 l) ≡ get_or l 1 0 ∷ get_or l 2 0 ∷ get_or l 3 0 ∷ get_or l 4 0 ∷ get_or l 5 0 ∷ get_or l 6 0 ∷ []
  unfolding each
  bytes_1_to_6 = taken l 1 6 (omega arith)

  module _ (v : ℕ) where
    head_set : take 11 (set l 0 v) ≡ v ∷ take 10 (drop 1 l)
    unfolding each
    head_set = ap (λ (d : List ℕ). take 11 (set d 0 v)) whole ∙ ap (λ (d : List ℕ). v ∷ d) (sym (taken l 1 10 (omega arith)))

    end_set : (x y z : ℕ) → set (set (set (set l 0 v) 11 x) 12 y) 13 z ≡ (v ∷ take 10 (drop 1 l)) ++ (x ∷ y ∷ z ∷ [])
    unfolding each
    end_set x y z =
        ap (λ (d : List ℕ). set (set (set (set d 0 v) 11 x) 12 y) 13 z) whole
        ∙ ap (λ (d : List ℕ). (v ∷ d) ++ (x ∷ y ∷ z ∷ [])) (sym (taken l 1 10 (omega arith)))

    -- the parity of the first eleven bytes stored behind them, as the list of its three bytes
    pub parity_set : (p : ℕ) (three : List ℕ) → p ≡ parity_of (take 11 (set l 0 v)) → three ≡ p / 65536 % 256 ∷ p / 256 % 256 ∷ p % 256 ∷ []
        → set (set (set (set l 0 v) 11 (get_or three 0 0)) 12 (get_or three 1 0)) 13 (get_or three 2 0) ≡ with_parity (v ∷ take 10 (drop 1 l)) 0
    unfolding with_parity parity_bytes
    parity_set p three e f =
        end_set (get_or three 0 0) (get_or three 1 0) (get_or three 2 0)
        ∙ ap (λ (t : List ℕ). (v ∷ take 10 (drop 1 l)) ++ (get_or t 0 0 ∷ get_or t 1 0 ∷ get_or t 2 0 ∷ [])) f
        ∙ ap (λ (n : ℕ). (v ∷ take 10 (drop 1 l)) ++ parity_bytes n 0) (e ∙ ap parity_of head_set)
