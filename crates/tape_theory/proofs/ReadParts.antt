-- The values of a noise section, read in parts: parts of a whole number of values that joined are the section's bytes, give its values (`parts-values`).
use Prim.Native.Nat.{ℕ, zero, suc, ◌+◌, ◌*◌, ◌/◌, ◌%◌, ◌≤◌}
use mathlib.Core.List.{List, [], ◌∷◌, ◌++◌}
use mathlib.Core.Path.{◌≡◌, refl, sym, ap, ◌∙◌}
use native.Mathlib.Omega.{arith}
use lib.ListN.{length, take, drop, length-append, length-drop, take-append-drop}
use lib.Seq.{drop_at, take-append-le, drop-append-le, length-take-le}
use lib.Ieee.{Float, binary32, of_bits}
use Rattle.le_read.specs.LeBytes.{le_of, le_at}
use Rattle.run_theory.specs.PlainBench.{join}
use Rattle.tape_sections.specs.Floats.{floats_of}
use Rattle.tape_sections.proofs.Rows.{floats_add}
use Rattle.tape_theory.specs.Fed.{Chunk}
use Rattle.tape_theory.specs.PlainTape.{noise_in}
use Rattle.tape_theory.specs.TapeText.{Parts}

-- the first values do not depend on what stands behind them
floats_front : (m : ℕ) (a b : List ℕ) → 4 * m ≤ length a → floats_of m (a ++ b) ≡ floats_of m a
unfolding floats_of le_at
floats_front zero a b h = refl
floats_front (suc m) a b h =
    (λ i. of_bits binary32 (le_of (take-append-le 4 a b (omega arith) i)) ∷ floats_of m (drop-append-le 4 a b (omega arith) i))
    ∙ ap (λ (xs : List Float). of_bits binary32 (le_of (take 4 a)) ∷ xs) (floats_front m (drop 4 a) b (omega (arith, length-drop 4 a)))

-- of one part and what follows it
floats_join : (k n : ℕ) (b rest : List ℕ) → length b ≡ 4 * k → floats_of (k + n) (b ++ rest) ≡ floats_of k b ++ floats_of n rest
floats_join k n b rest h = floats_add k n (b ++ rest) ∙ (λ i. floats_front k b rest (omega (arith, h)) i ++ floats_of n (drop_at b rest (4 * k) h i))

all_values : (bs : List (List ℕ)) (cs : List Chunk) → Parts bs cs → (length (join bs) % 4 ≡ 0) × (noise_in cs ≡ floats_of (length (join bs) / 4) (join bs))
unfolding Parts noise_in floats_of
all_values [] [] p = (omega arith, ap (λ (n : ℕ). floats_of n []) {x = 0} {y = 0 / 4} (omega arith))
all_values [] (c ∷ cs) p = absurd p
all_values (b ∷ bs) [] p = absurd p
all_values (b ∷ bs) (c ∷ cs) p =
    let later = all_values bs cs p.2 in
    let whole = length-append b (join bs) in (
      omega (arith, p.1, later.0, whole),
      (λ i. p.0 i ++ later.1 i)
          ∙ sym (floats_join (length b / 4) (length (join bs) / 4) b (join bs) (omega (arith, p.1)))
          ∙ ap (λ (n : ℕ). floats_of n (b ++ join bs)) {x = length b / 4 + length (join bs) / 4} {y = length (b ++ join bs) / 4} (omega (arith, p.1, later.0, whole)),
    )

pub parts_values : (bs : List (List ℕ)) (cs : List Chunk) (count : ℕ) (section : List ℕ) → Parts bs cs → 4 * count ≤ length section → join bs ≡ take (4 * count) section → noise_in cs ≡ floats_of count section
parts_values bs cs count section p whole e =
    (all_values bs cs p).1
    ∙ (λ i. floats_of (length (e i) / 4) (e i))
    ∙ ap (λ (n : ℕ). floats_of n (take (4 * count) section)) {x = length (take (4 * count) section) / 4} {y = count} (omega (arith, length-take-le (4 * count) section whole))
    ∙ sym (floats_front count (take (4 * count) section) (drop (4 * count) section) (omega (arith, length-take-le (4 * count) section whole)))
    ∙ ap (floats_of count) (take-append-drop (4 * count) section)
