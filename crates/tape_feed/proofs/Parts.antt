-- The parts that a call is given are the rest of the draws and of the room, and what it leaves joins the records (`called`).
use Rattle.std.proofs.Common.{◌≡◌, ℕ, ◌+◌, ◌-◌, ◌*◌, ◌≤◌, min, Bool, true, false, leb, List, [], ◌++◌, length, take, drop, sym, refl, ap, ◌∙◌, append-nil, arith, length-append, length-drop, length-take, take_all, drop-drop, leb-false, leb-true}
use lib.Seq.{drop-nil, drop-length}
use lib.Ieee.{Float}
use Rattle.run_call.specs.declared.Ran.{Ran}
use Rattle.run_call.specs.CallModel.{run_left}
use Rattle.tape_feed.specs.declared.Feed.{Feed}
use Rattle.tape_feed.specs.FeedModel.{feed_after, fed_after, called_of}

-- ---- offsets
module _ {A : Type 0} where
  drop_past : (n : ℕ) (l : List A) → length l ≤ n → drop n l ≡ []
  drop_past n l h =
      ap (λ (k : ℕ). drop k l) {x = n} {y = length l + (n - length l)} (omega arith) ∙ sym (drop-drop (n - length l) (length l) l) ∙ ap (drop (n - length l)) (drop-length l) ∙ drop-nil (n - length l)

  -- dropping no more than there is drops the same
  drop_within : (n a : ℕ) (l : List A) → a ≡ min n (length l) → drop a l ≡ drop n l
  drop_within n a l e = go (leb n (length l)) refl
    where
      go : (b : Bool) → leb n (length l) ≡ b → drop a l ≡ drop n l
      go true t = ap (λ (k : ℕ). drop k l) {x = a} {y = n} (omega (arith, leb-true n (length l) t))
      go false t = drop_past a l (omega (arith, leb-false n (length l) t)) ∙ sym (drop_past n l (omega (arith, leb-false n (length l) t)))

  take_within : (n a : ℕ) (l : List A) → a ≡ min n (length l) → take a l ≡ take n l
  take_within n a l e = go (leb n (length l)) refl
    where
      go : (b : Bool) → leb n (length l) ≡ b → take a l ≡ take n l
      go true t = ap (λ (k : ℕ). take k l) {x = a} {y = n} (omega (arith, leb-true n (length l) t))
      go false t = take_all a l (omega (arith, leb-false n (length l) t)) ∙ sym (take_all n l (omega (arith, leb-false n (length l) t)))

  -- a part from an offset on, as the code passes it
  part_from : (n a : ℕ) (l : List A) → a ≡ min n (length l) → take (length l - a) (drop a l) ≡ drop n l
  part_from n a l e = take_all (length l - a) (drop a l) (simp length-drop (omega arith)) ∙ drop_within n a l e

  -- and as it comes back
  part_back : (n a : ℕ) (l ys : List A) → a ≡ min n (length l) → take a l ++ (ys ++ drop (length l - a) (drop a l)) ≡ take n l ++ ys
  part_back n a l ys e =
      ap (λ (z : List A). take a l ++ (ys ++ z)) (drop_past (length l - a) (drop a l) (simp length-drop (omega arith)))
      ∙ ap (λ (z : List A). take a l ++ z) (append-nil ys)
      ∙ ap (λ (z : List A). z ++ ys) (take_within n a l e)

  pub part_kept : (a : ℕ) (l ys : List A) → a ≤ length l → length ys ≡ length (take (length l - a) (drop a l)) → length (take a l ++ (ys ++ drop (length l - a) (drop a l))) ≡ length l
  part_kept a l ys h e =
      simp (length-append, length-take, length-drop, e) (omega arith)

-- ---- a call
pub called : (f : Feed) (mode_s mode_ac memory : List Float) (draws : List ℕ) (noise output : List Float) (records : List ℕ) {a b : ℕ} {r : Ran} {m o : List Float} {ys : List ℕ} {q : Feed}
    → a ≡ min (65 * f.taken) (length draws) → b ≡ min (66 * f.records) (length records)
    → record { ran = r; memory = m; output = o; records = ys } ≡ run_left f.state mode_s mode_ac memory (take (length draws - a) (drop a draws)) noise output (take (length records - b) (drop b records)) → q ≡ feed_after f r
    → record { feed = q; memory = m; output = o; records = take b records ++ (ys ++ drop (length records - b) (drop b records)) }
    ≡ called_of mode_s mode_ac draws noise (record { feed = f; memory = memory; output = output; records = records })
unfolding called_of fed_after
called f mode_s mode_ac memory draws noise output records {a} {b} {r} {m} {o} {ys} {q} ha hb e z =
    (λ i. record { feed = z i; memory = m; output = o; records = part_back (66 * f.records) b records ys hb i })
    ∙ ap (fed_after f records)
    (e ∙ (λ i. run_left f.state mode_s mode_ac memory (part_from (65 * f.taken) a draws ha i) noise output (part_from (66 * f.records) b records hb i)))
