-- The draws of bytes one after the other, the first of them whole draws.
use Prim.Native.Nat.{ℕ, zero, suc, ◌+◌, ◌-◌, ◌*◌, ◌≤◌, ◌<◌}
use mathlib.Core.List.{List, [], ◌∷◌, ◌++◌}
use mathlib.Core.Path.{◌≡◌, refl, sym, ap, ◌∙◌}
use native.Mathlib.Omega.{arith}
use lib.Dec.{lit<}
use lib.ListN.{length, get_or, take, drop, length-append, length-drop, get_or-append}
use lib.Seq.{take-append-le, drop-append-le}
use lib.Ieee.{binary32, binary64, of_bits}
use Rattle.le_read.specs.LeBytes.{le_of, le_at}
use Rattle.draw.specs.Draw.{draw_at}
use Rattle.draw.proofs.Bytes.{whole_draw, whole}
use Rattle.run_theory.specs.PlainBench.{draws_of}
use Rattle.run_call_model.proofs.FlatLists.{draws_cons}
use Rattle.run_generator.specs.Instance.{Filters, RepresentableDraw, instance_of}
use Rattle.run_generator.proofs.SameDraw.{same_draw}

module _ (p q : List ℕ) (h : 65 ≤ length p) where
  part : (n at : ℕ) → at + n ≤ 65 → take n (drop at (p ++ q)) ≡ take n (drop at p)
  part n at k = ap (take n) (drop-append-le at p q (omega arith)) ∙ take-append-le n (drop at p) q (omega (arith, length-drop at p))

  number : (n at : ℕ) → at + n ≤ 65 → le_at n (p ++ q) at ≡ le_at n p at
  unfolding le_at
  number n at k = ap le_of (part n at k)

  byte : (at : ℕ) → at < 65 → get_or (p ++ q) at 0 ≡ get_or p at 0
  byte at k = get_or-append p q 0 at (omega arith)

  -- the first draw is the first part's
  first_draw : draw_at (p ++ q) ≡ draw_at p
  unfolding whole_draw
  first_draw =
      whole (p ++ q) (omega (arith, length-append p q))
      ∙ (λ i. record {
        gap = of_bits binary64 (number 8 0 (omega arith) i);
        kind = byte 8 (omega arith) i;
        cn0 = of_bits binary64 (number 8 9 (omega arith) i);
        amplitude = of_bits binary32 (number 4 17 (omega arith) i);
        carrier = of_bits binary64 (number 8 21 (omega arith) i);
        phase = of_bits binary64 (number 8 29 (omega arith) i);
        clock = of_bits binary64 (number 8 37 (omega arith) i);
        picks = record { format = byte 45 (omega arith) i; capability = byte 46 (omega arith) i; overlay = byte 47 (omega arith) i; bytes = part 14 48 (omega arith) i; «data» = number 2 62 (omega arith) i; spi = byte 64 (omega arith) i };
      })
      ∙ sym (whole p h)

module _ (f : Filters) (total : ℕ) where
  pub draws_joined : (n : ℕ) (p q : List ℕ) → length p ≡ n * 65 → draws_of (instance_of f total) (p ++ q) ≡ draws_of (instance_of f total) p ++ draws_of (instance_of f total) q
  draws_joined zero [] q e = refl
  draws_joined zero (b ∷ p) q e = absurd (omega arith)
  draws_joined (suc n) p q e =
      let rest : draws_of (instance_of f total) (drop 65 (p ++ q)) ≡ draws_of (instance_of f total) (drop 65 p) ++ draws_of (instance_of f total) q =
      ap (draws_of (instance_of f total)) (drop-append-le 65 p q (omega arith)) ∙ draws_joined n (drop 65 p) q (omega (arith, length-drop 65 p)) in
      draws_cons (instance_of f total) (p ++ q) (lit< tt) (omega (arith, length-append p q))
      ∙ (λ i. same_draw ((instance_of f total).draw_at (p ++ q)) ((instance_of f total).draw_at p) (first_draw p q (omega arith)) i ∷ rest i)
      ∙ sym (ap (λ (l : List RepresentableDraw). l ++ draws_of (instance_of f total) q) (draws_cons (instance_of f total) p (lit< tt) (omega arith)))
