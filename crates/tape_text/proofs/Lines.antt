-- The parts of a line, each put behind the last, make the line; and lines make the text.
use Prim.Native.Nat.{ℕ, zero, suc, ◌+◌, ◌-◌, ◌*◌, ◌/◌, ◌≤◌, ◌<◌, ◌^◌, min}
use mathlib.Core.Path.{◌≡◌, refl, sym, ap, ◌∙◌, subst}
use mathlib.Core.Bool.{Bool, true, false, cond}
use mathlib.Core.List.{List, [], ◌∷◌, ◌++◌, append_assoc, append-nil}
use native.Mathlib.Omega.{arith}
use native.Mathlib.Numerals.{add-one}
use lib.Dec.{eqb, leb}
use lib.ListN.{length, get_or, take, drop, length-append, length-take, length-drop}
use lib.Seq.{take_all, take-take, drop-drop, length-take-le, get_or-take}
use Rattle.std.proofs.lemmas.List.{drop-take}
use borrow.Author.Tests.{eq-eqb, ne_eqb, leb-true, leb-false}
use Rattle.io.specs.Digits.{last_digits, IsDigitCount}
use Rattle.le_read.specs.LeBytes.{le_of, le_at, number_at, overwritten}
use Rattle.settings.proofs.Inside.{number_there}
use Rattle.reply_record.proofs.Overwritten.{none_overwritten}
use Rattle.tape_text.specs.Text.{decimal, number, hex, hex_line, message_of, line_of, lines_of, header, samples_word, refused_word, run_text, refused_text, Put}
use Rattle.tape_text.proofs.Puts.{then_put, put_length, length_hex}
use Rattle.tape_text.proofs.Decimal.{length_digits, decimal_fewest, few_digits}

-- one byte behind
byte_put : {xs s d e : List ℕ} {at a b : ℕ} (x : ℕ) → at + length xs ≤ length s → Put xs s at d a → e ≡ overwritten d a (x ∷ []) → b ≡ a + 1 → Put (xs ++ (x ∷ [])) s at e b
byte_put x h p q r = then_put h p (record { held = q; ends = r })

-- the digits that `io::decimal` found, and a byte behind them
pub number_put : (n after k : ℕ) (ds : List ℕ) {s d e : List ℕ} {at a b : ℕ} → n < 2 ^ 64 → IsDigitCount 10 1 n k → ds ≡ last_digits 10 k n → at + 21 ≤ length s → Put ds s at d a → e ≡ overwritten d a (after ∷ []) → b ≡ a + 1
    → Put (number n after) s at e b × (b ≤ at + 21)
unfolding number
number_put n after k ds {s} {d} {e} {at} {a} {b} h f q r p t z =
    let g = q ∙ decimal_fewest k n f in
    let p' : Put (decimal n) s at d a = subst (λ (l : List ℕ). Put l s at d a) g p in
    let l : length (decimal n) ≤ 20 = omega (arith, ap length (decimal_fewest k n f), length_digits k n, few_digits n k h f) in
    (byte_put after (omega arith) p' t z, omega (arith, p'.ends))

pub hex_line_put : (b : List ℕ) {s d e : List ℕ} {at r : ℕ} → at + 2 * length b < length s → d ≡ overwritten s at (hex b) → e ≡ overwritten d (at + 2 * length b) (10 ∷ []) → r ≡ at + 2 * length b + 1 → Put (hex_line b) s at e r
unfolding hex_line
hex_line_put b {s} {d} {e} {at} {r} g p q z =
    let l : length (hex b) ≡ 2 * length b = length_hex b in
    byte_put 10 (omega arith) (record { held = p; ends = omega arith }) q z

length_hex_line : (b : List ℕ) → length (hex_line b) ≡ 2 * length b + 1
unfolding hex_line
length_hex_line b = length-append (hex b) (10 ∷ []) ∙ omega (arith, length_hex b)

message_put : {m b s d : List ℕ} {at r : ℕ} → b ≡ m → length b ≤ 14 → Put (hex_line b) s at d r → Put (hex_line m) s at d r × (r ≤ at + 29)
message_put {m} {b} {s} {d} {at} {r} e h p = (subst (λ (l : List ℕ). Put (hex_line l) s at d r) e p, omega (arith, p.ends, length_hex_line b))

pub mode_ac_put : (r : List ℕ) {s d : List ℕ} {at e high low : ℕ} → get_or r 48 0 ≡ 6 → high ≡ get_or r 53 0 → low ≡ get_or r 52 0 → Put (hex_line (high ∷ low ∷ [])) s at d e → Put (hex_line (message_of r)) s at d e × (e ≤ at + 29)
unfolding message_of
mode_ac_put r h x y p =
    message_put ((λ i. x i ∷ y i ∷ []) ∙ sym (ap (λ (b : Bool). cond b (get_or r 53 0 ∷ get_or r 52 0 ∷ []) (take (get_or r 51 0) (take 14 (drop 52 r)))) (eq-eqb (get_or r 48 0) 6 h))) (omega arith) p

take_min : (w k : ℕ) (l : List ℕ) → take (min w k) l ≡ take w (take k l)
take_min w k l = go (leb w k) refl
  where
    go : (b : Bool) → leb w k ≡ b → take (min w k) l ≡ take w (take k l)
    go true t = ap (λ (n : ℕ). take n l) {x = min w k} {y = w} (omega (arith, leb-true w k t)) ∙ sym (take-take w k l (leb-true w k t))
    go false t =
        ap (λ (n : ℕ). take n l) {x = min w k} {y = k} (omega (arith, leb-false w k t))
        ∙ sym (take_all w (take k l) (omega (arith, leb-false w k t, length-take k l)))

pub mode_s_put : (r : List ℕ) {s d : List ℕ} {at e n w : ℕ} → 66 ≤ length r → (get_or r 48 0 ≡ 6 → ⊥) → w ≡ get_or r 51 0 → n ≡ min w 14 → Put (hex_line (take (52 + n - 52) (drop 52 r))) s at d e
    → Put (hex_line (message_of r)) s at d e × (e ≤ at + 29)
unfolding message_of
mode_s_put r {n = n} {w = w} l h v m p =
    let q : 52 + n - 52 ≡ n = omega arith in
    let z : n ≤ 14 = omega arith in
    message_put
    (ap (λ (k : ℕ). take k (drop 52 r)) (q ∙ m ∙ ap (λ (x : ℕ). min x 14) v)
    ∙ take_min (get_or r 51 0) 14 (drop 52 r)
    ∙ sym (ap (λ (b : Bool). cond b (get_or r 53 0 ∷ get_or r 52 0 ∷ []) (take (get_or r 51 0) (take 14 (drop 52 r)))) (ne_eqb (get_or r 48 0) 6 h)))
    (omega (arith, length-take (52 + n - 52) (drop 52 r)))
    p

pub line_put : (r : List ℕ) {s d₁ d₂ d₃ d₄ : List ℕ} {at a b c e x y z : ℕ} → 66 ≤ length r → at + 92 ≤ length s → x ≡ number_at 8 r 40 → y ≡ get_or r 48 0 → z ≡ number_at 2 r 49
    → Put (number x 32) s at d₁ a × (a ≤ at + 21) → Put (number y 32) d₁ a d₂ b × (b ≤ a + 21) → Put (number z 32) d₂ b d₃ c × (c ≤ b + 21) → Put (hex_line (message_of r)) d₃ c d₄ e × (e ≤ c + 29)
    → Put (line_of r) s at d₄ e × (e ≤ at + 92)
unfolding line_of
line_put r {s} {d₁} {d₂} {d₃} {d₄} {at} {a} {b} {c} {e} {x} {y} {z} l h u v w p q t m =
    let p' : Put (number (le_at 8 r 40) 32) s at d₁ a = subst (λ (k : ℕ). Put (number k 32) s at d₁ a) (u ∙ number_there 8 r 40 (omega arith)) p.0 in
    let q' : Put (number (get_or r 48 0) 32) d₁ a d₂ b = subst (λ (k : ℕ). Put (number k 32) d₁ a d₂ b) v q.0 in
    let t' : Put (number (le_at 2 r 49) 32) d₂ b d₃ c = subst (λ (k : ℕ). Put (number k 32) d₂ b d₃ c) (w ∙ number_there 2 r 49 (omega arith)) t.0 in
    let one = then_put (omega (arith, p.1, p'.ends)) p' q' in
    let two = then_put (omega (arith, p.1, q.1, one.ends)) one t' in
    (then_put (omega (arith, p.1, q.1, t.1, two.ends)) two m.0, omega (arith, p.1, q.1, t.1, m.1))

-- the lines of one record more
pub lines_more : (k : ℕ) (r : List ℕ) → lines_of (suc k) r ≡ lines_of k r ++ line_of (drop (66 * k) r)
unfolding lines_of
lines_more zero r = append-nil (line_of r)
lines_more (suc k) r =
    ap (λ (l : List ℕ). line_of r ++ l) (lines_more k (drop 66 r))
    ∙ sym (append_assoc (line_of r) (lines_of k (drop 66 r)) (line_of (drop (66 * k) (drop 66 r))))
    ∙ ap (λ (l : List ℕ). line_of r ++ lines_of k (drop 66 r) ++ line_of l) (drop-drop (66 * k) 66 r ∙ ap (λ (n : ℕ). drop n r) {x = 66 + 66 * k} {y = 66 * suc k} (omega arith))

-- a record's line is of its 66 bytes, and so the lines of n records are of as many
line_cut : (m : ℕ) (r : List ℕ) → 66 ≤ m → line_of (take m r) ≡ line_of r
unfolding line_of message_of le_at
line_cut m r h = λ i. number (le_of (part 8 40 (omega arith) i)) 32 ++ number (at 48 (omega arith) i) 32 ++ number (le_of (part 2 49 (omega arith) i)) 32 ++ hex_line (cond (eqb (at 48 (omega arith) i) 6) (at 53 (omega arith) i ∷ at 52 (omega arith) i ∷ []) (take (at 51 (omega arith) i) (part 14 52 (omega arith) i)))
  where
    at : (k : ℕ) → k < m → get_or (take m r) k 0 ≡ get_or r k 0
    at k g = get_or-take m r k 0 g

    part : (n k : ℕ) → k + n ≤ m → take n (drop k (take m r)) ≡ take n (drop k r)
    part n k g =
        let e : m ≡ k + (m - k) = omega arith in
        ap (λ (x : ℕ). take n (drop k (take x r))) e ∙ ap (take n) (drop-take k (m - k) r) ∙ take-take n (m - k) (drop k r) (omega arith)

pub lines_cut : (n m : ℕ) (r : List ℕ) → 66 * n ≤ m → lines_of n (take m r) ≡ lines_of n r
unfolding lines_of
lines_cut zero m r h = refl
lines_cut (suc n) m r h =
    let e : m ≡ 66 + (m - 66) = omega arith in
    (λ i. line_cut m r (omega arith) i ++ lines_of n (drop 66 (take (e i) r)))
    ∙ ap (λ (l : List ℕ). line_of r ++ lines_of n l) (drop-take 66 (m - 66) r)
    ∙ ap (λ (l : List ℕ). line_of r ++ l) (lines_cut n (m - 66) (drop 66 r) (omega arith))

-- the text of the first n records alone is that of any count that shows as many
pub run_cut : (r : List ℕ) (n count samples : ℕ) → 66 * n ≤ length r → min n 400 ≡ min count (min (length r / 66) 400) → run_text (take (66 * n) r) (length (take (66 * n) r) / 66) samples ≡ run_text r count samples
unfolding run_text
run_cut r n count samples h e =
    let l : length (take (66 * n) r) ≡ 66 * n = length-take-le (66 * n) r h in
    let q : min (length (take (66 * n) r) / 66) (min (length (take (66 * n) r) / 66) 400) ≡ min n 400 = omega arith in
    ap (λ (k : ℕ). header ++ lines_of k (take (66 * n) r) ++ samples_word ++ number samples 10) q
    ∙ ap (λ (x : List ℕ). header ++ x ++ samples_word ++ number samples 10) (lines_cut (min n 400) (66 * n) r (omega arith) ∙ ap (λ (k : ℕ). lines_of k r) e)

-- after k steps: the lines of k records are put
pub record Going (records s : List ℕ) (at : ℕ) (out : List ℕ) (end k : ℕ) : Type 0 where
  pub same : length out ≡ length s
  pub text : Put (lines_of k records) s at out end
  pub bound : end ≤ at + 92 * k

module _ (records s : List ℕ) (at : ℕ) where
  pub first : Going records s at s at 0
  unfolding lines_of
  first = record { same = refl; text = record { held = none_overwritten s at; ends = omega arith }; bound = omega arith }

  pub next_line : (out : List ℕ) (end k : ℕ) {out' : List ℕ} {end' : ℕ} → k < length records / 66 → at + 92 * (length records / 66) ≤ length s → Going records s at out end k
      → Put (line_of (take (length records - 66 * k) (drop (66 * k) records))) out end out' end' × (end' ≤ end + 92) → Going records s at out' end' (k + 1)
  next_line out end k {out'} {end'} h r g p =
      let g1 = g.same in
      let g3 = g.bound in
      let p0 = p.0.ends in
      let p1 = p.1 in
      let q : take (length records - 66 * k) (drop (66 * k) records) ≡ drop (66 * k) records = take_all (length records - 66 * k) (drop (66 * k) records) (simp length-drop (omega arith)) in
      record {
        same = put_length (omega arith) p.0 ∙ g1;
        text =
            subst (λ (l : List ℕ). Put l s at out' end')
            (ap (λ (l : List ℕ). lines_of k records ++ line_of l) q ∙ sym (lines_more k records) ∙ ap (λ (m : ℕ). lines_of m records) (sym (add-one k)))
            (then_put (omega (arith, g.text.ends)) g.text p.0);
        bound = omega arith;
      }

-- text put at the start of a buffer
abbrev pub Whole : List ℕ → List ℕ → List ℕ → ℕ → Type 0
Whole text s d r = (r ≡ length text) × (d ≡ overwritten s 0 text)

whole : {text s d : List ℕ} {r : ℕ} → Put text s 0 d r → Whole text s d r
whole p = (omega (arith, p.ends), p.held)

pub refused_put : (n : ℕ) {word s d e : List ℕ} {a b x : ℕ} → 40960 ≤ length s → word ≡ refused_word → x ≡ 10 → Put word s 0 d a → Put (number n x) d a e b × (b ≤ a + 21) → Whole (refused_text n) s e b
unfolding refused_text
refused_put n {s = s} {d} {e} {a} {b} h w z p q =
    let p' : Put refused_word s 0 d a = subst (λ (l : List ℕ). Put l s 0 d a) w p in
    let both = then_put (omega arith) p' (subst (λ (y : ℕ). Put (number n y) d a e b) z q.0) in
    whole both

pub run_put : (records : List ℕ) (samples : ℕ) {s d₁ d₂ d₃ d₄ : List ℕ} {a b c e n x : ℕ} → 40960 ≤ length s → n ≡ min (length records / 66) 400 → x ≡ 10 → Put header s 0 d₁ a
    → Put (lines_of (length (take (66 * n) records) / 66) (take (66 * n) records)) d₁ a d₂ b × (b ≤ a + 92 * (length (take (66 * n) records) / 66)) → Put samples_word d₂ b d₃ c → Put (number samples x) d₃ c d₄ e × (e ≤ c + 21)
    → Whole (run_text records (length records / 66) samples) s d₄ e
unfolding run_text
run_put records samples {s} {d₁} {d₂} {d₃} {d₄} {a} {b} {c} {e} {n} h l z p q t u =
    let w : length (take (66 * n) records) ≡ 66 * n = length-take-le (66 * n) records (omega arith) in
    let k : length (take (66 * n) records) / 66 ≡ n = omega arith in
    let m : n ≡ min (length records / 66) (min (length records / 66) 400) = omega arith in
    let same : lines_of (length (take (66 * n) records) / 66) (take (66 * n) records) ≡ lines_of (min (length records / 66) (min (length records / 66) 400)) records =
    ap (λ (i : ℕ). lines_of i (take (66 * n) records)) k ∙ lines_cut n (66 * n) records (omega arith) ∙ ap (λ (i : ℕ). lines_of i records) m in
    let q' : Put (lines_of (min (length records / 66) (min (length records / 66) 400)) records) d₁ a d₂ b = subst (λ (y : List ℕ). Put y d₁ a d₂ b) same q.0 in
    let low : n ≤ 400 = omega arith in
    let p0 = p.ends in
    let t0 = t.ends in
    let one = then_put (omega arith) p q' in
    let two = then_put (omega (arith, one.ends, q.1)) one t in
    let all = then_put (omega (arith, two.ends, q.1)) two (subst (λ (y : ℕ). Put (number samples y) d₃ c d₄ e) z u.0) in
    whole all
