-- `read_back` is a term of the claim `ReadBack`: a run that is stored and read back is the run.
use Rattle.std.specs.Prelude.{Option, Some, None, is_some, Result, Ok, Err}
use Rattle.std.specs.Bool.{nat_eq}
use Rattle.std.specs.Cmp.Lexicographic.{pointwise}
use Rattle.std.proofs.lemmas.Cmp.{nat_list_eq_equiv}
use Prim.Native.Nat.{ℕ, ◌+◌, ◌-◌, ◌*◌, ◌≤◌}
use mathlib.Core.Path.{◌≡◌, refl, sym, ap, ◌∙◌}
use mathlib.Core.Bool.{Bool, true, cond, not, ◌&&◌}
use mathlib.Core.List.{List, [], ◌∷◌, ◌++◌, append_assoc, append-nil}
use native.Mathlib.Omega.{arith}
use lib.Dec.{eqb, ltb}
use lib.ListN.{length, get_or, take, drop, length-append}
use lib.Seq.{drop_at, take_at}
use lib.Ieee.{Float}
use borrow.Author.Tests.{eq-eqb, le-ltb}
use Rattle.constants.specs.Setting.{setting_from}
use Rattle.le_read.specs.LeBytes.{number_at}
use Rattle.rack.specs.declared.Rack.{Rack}
use Rattle.tape_sections.specs.Floats.{floats_of, float_bytes}
use Rattle.tape_sections.proofs.Rows.{length_float_bytes}
use Rattle.run_bytes.specs.declared.Unreadable.{Unreadable}
use Rattle.run_bytes.specs.declared.Unreadable.TheVariants.{Short, Foreign, Version, Damaged}
use Rattle.run_bytes.specs.Sums.{sums_of}
use Rattle.run_bytes.specs.Layout.{magic, version, stored_length, head_words, word_bytes, rack_bytes, Held, body_of, checked, stored_bytes, lists_fit, held_fits}
use Rattle.run_bytes.specs.Reading.{words_at, word, is_racked, head_at, sums_match, is_head, sound, head_of, Lent, rack_at, rack_place, restored_of, filled_of, restore_left}
use Rattle.run_bytes.proofs.Lengths.{total, lengths, place_is, few}
use Rattle.run_bytes.proofs.Written.{length_words}
use Rattle.run_bytes.proofs.Parts.{length_rack, body_length, saved}
use Rattle.run_bytes.proofs.Taken.{filled, taken}
use Rattle.run_bytes_theorem.specs.Typed.{TypedAny, Typed}
use Rattle.run_bytes_theorem.specs.RoundTrip.{AsLong, lists_of, ReadBack}
use Rattle.run_bytes_theorem.proofs.Back.{words_back, floats_back}
use Rattle.run_bytes_theorem.proofs.Heads.{state_back, racked_back, setting_again, words_fit}
use Rattle.run_bytes_theorem.proofs.SmallSums.{sums_words, body_bytes}
use Rattle.run_bytes_theorem.proofs.RackBack.{rack_back, memory_back}

-- the bytes of a rack, if any
rack_long : (o : Option Rack) (memory : List Float) → TypedAny o → length (rack_bytes o memory) ≡ cond (is_some o) (208 + 4 * length memory) 0
unfolding rack_bytes
rack_long None memory t = refl
rack_long (Some r) memory t = length_rack r memory t.delays.0 t.gains.0

-- the check fits, if the two words behind the body are its sums
matches : (bytes body : List ℕ) (n : ℕ) → length bytes ≡ n + 16 → take n bytes ≡ body → number_at 8 bytes n ≡ (sums_of body).sum → number_at 8 bytes (n + 8) ≡ (sums_of body).sum_of_sums → sums_match bytes ≡ true
unfolding sums_match
matches bytes body n l f p q =
    let e : length bytes - 16 ≡ n = omega (arith, l) in
    ap (λ (k : ℕ). eqb (number_at 8 bytes k) (sums_of (take k bytes)).sum && eqb (number_at 8 bytes (k + 8)) (sums_of (take k bytes)).sum_of_sums) e
    ∙ ap (λ (b : List ℕ). eqb (number_at 8 bytes n) (sums_of b).sum && eqb (number_at 8 bytes (n + 8)) (sums_of b).sum_of_sums) f
    ∙ (λ i. eq-eqb (number_at 8 bytes n) (sums_of body).sum p i && eq-eqb (number_at 8 bytes (n + 8)) (sums_of body).sum_of_sums q i)

unfoldable pub chain : (a b c d e : Bool) → List ℕ → Result (List ℕ) Unreadable
chain a b c d e x = cond a (Err Short) (cond (not b) (Err Foreign) (cond (not c) (Err Version) (cond (not d) (Err Short) (cond e (Ok x) (Err Damaged)))))

-- a sound head is accepted
accepted : (bytes ws : List ℕ) → head_at bytes ≡ ws → 256 ≤ length bytes → word ws 0 ≡ magic → word ws 1 ≡ version → word ws 2 ≡ length bytes → sound ws bytes ≡ true → head_of bytes ≡ Ok ws
unfolding head_of chain
accepted bytes ws h l p q r s =
    ap (λ (x : List ℕ). chain (ltb (length bytes) 256) (eqb (word x 0) magic) (eqb (word x 1) version) (eqb (word x 2) (length bytes)) (sound x bytes) x) h
    ∙ (λ i. chain (le-ltb (length bytes) 256 l i) (eq-eqb (word ws 0) magic p i) (eq-eqb (word ws 1) version q i) (eq-eqb (word ws 2) (length bytes) r i) (s i) ws)

module _ (h : Held) (t : Typed h) (f : held_fits h ≡ true) where
  racked : Bool
  racked = is_some h.rack

  ws : List ℕ
  ws = head_words h.state (is_some h.rack)

  a : ℕ
  a = length h.mode_s

  b : ℕ
  b = length h.mode_ac

  m : ℕ
  m = length h.memory

  H : List ℕ
  H = word_bytes (head_words h.state (is_some h.rack))

  C : List ℕ
  C = word_bytes ((sums_of (body_of h)).sum ∷ (sums_of (body_of h)).sum_of_sums ∷ [])

  whole : stored_length h.state.setting (is_some h.rack) ≡ 256 + 4 * length h.mode_s + 4 * length h.mode_ac + 4 * length h.memory + cond (is_some h.rack) (208 + 4 * length h.rack_memory) 0
  unfolding held_fits
  whole = total h.state.setting (is_some h.rack) (length h.mode_s) (length h.mode_ac) (length h.memory) (length h.rack_memory) (stored_length h.state.setting (is_some h.rack)) f refl

  body_long : length (body_of h) + 16 ≡ stored_length h.state.setting (is_some h.rack)
  body_long = omega (arith, body_length h (cond (is_some h.rack) (208 + 4 * length h.rack_memory) 0) (rack_long h.rack h.rack_memory t.rack), whole)

  pub bytes_long : length (stored_bytes h) ≡ stored_length h.state.setting (is_some h.rack)
  unfolding stored_bytes checked
  bytes_long = length-append (body_of h) (word_bytes ((sums_of (body_of h)).sum ∷ (sums_of (body_of h)).sum_of_sums ∷ [])) ∙ omega (arith, length_words ((sums_of (body_of h)).sum ∷ (sums_of (body_of h)).sum_of_sums ∷ []), body_long)

  head_is : head_at (stored_bytes h) ≡ head_words h.state (is_some h.rack)
  unfolding head_at stored_bytes checked body_of head_words H C
  head_is =
      let rest = float_bytes h.mode_s ++ float_bytes h.mode_ac ++ float_bytes h.memory ++ rack_bytes h.rack h.rack_memory ++ C in
      let e : stored_bytes h ≡ [] ++ (H ++ rest) = simp append_assoc refl in
      ap (λ (x : List ℕ). words_at 30 x 0) e ∙ words_back (head_words h.state (is_some h.rack)) [] rest 0 refl (words_fit h.state t.state (is_some h.rack))

  sums_are : words_at 2 (stored_bytes h) (length (body_of h)) ≡ (sums_of (body_of h)).sum ∷ (sums_of (body_of h)).sum_of_sums ∷ []
  unfolding stored_bytes checked
  sums_are =
      let body = body_of h in
      let cs = (sums_of body).sum ∷ (sums_of body).sum_of_sums ∷ [] in
      let s = sums_words body (body_bytes h) (omega (arith, body_long, (few h.state.setting (is_some h.rack)).1)) in
      ap (λ (x : List ℕ). words_at 2 (body ++ x) (length body)) (sym (append-nil (word_bytes cs))) ∙ words_back cs body [] (length body) refl (s.0, (s.1, tt))

  body_first : take (length (body_of h)) (stored_bytes h) ≡ body_of h
  unfolding stored_bytes checked
  body_first = take_at (body_of h) (word_bytes ((sums_of (body_of h)).sum ∷ (sums_of (body_of h)).sum_of_sums ∷ [])) (length (body_of h)) refl

  pub check_fits : sums_match (stored_bytes h) ≡ true
  unfolding words_at
  check_fits =
      let e = sums_are in
      matches (stored_bytes h) (body_of h) (length (body_of h)) (bytes_long ∙ sym body_long) body_first (ap (λ (l : List ℕ). get_or l 0 0) e) (ap (λ (l : List ℕ). get_or l 1 0) e)

  pub setting_is : setting_from (get_or (head_words h.state (is_some h.rack)) 29 0) ≡ h.state.setting
  setting_is = setting_again h.state t.state (is_some h.rack)

  pub racked_is : is_racked (head_words h.state (is_some h.rack)) ≡ is_some h.rack
  racked_is = racked_back h.state t.state (is_some h.rack)

  head_sound : is_head (head_words h.state (is_some h.rack)) ≡ true
  unfolding is_head
  head_sound = (λ i. pointwise nat_eq (head_words h.state (is_some h.rack)) (head_words (state_back h.state t.state (is_some h.rack) i) (racked_is i))) ∙ nat_list_eq_equiv.refl (head_words h.state (is_some h.rack))

  length_sound : length (stored_bytes h) ≡ stored_length (setting_from (get_or (head_words h.state (is_some h.rack)) 29 0)) (is_racked (head_words h.state (is_some h.rack)))
  length_sound = bytes_long ∙ sym (λ i. stored_length (setting_is i) (racked_is i))

  all_sound : sound (head_words h.state (is_some h.rack)) (stored_bytes h) ≡ true
  unfolding sound
  all_sound = λ i. head_sound i && (eq-eqb (length (stored_bytes h)) (stored_length (setting_from (get_or (head_words h.state (is_some h.rack)) 29 0)) (is_racked (head_words h.state (is_some h.rack)))) length_sound i && check_fits i)

  head_words_are : (word (head_words h.state (is_some h.rack)) 0 ≡ magic) × ((word (head_words h.state (is_some h.rack)) 1 ≡ version) × (word (head_words h.state (is_some h.rack)) 2 ≡ stored_length h.state.setting (is_some h.rack)))
  unfolding head_words
  head_words_are = (refl, (refl, refl))

  pub head_accepted : head_of (stored_bytes h) ≡ Ok (head_words h.state (is_some h.rack))
  head_accepted =
      let w = head_words_are in
      accepted (stored_bytes h) (head_words h.state (is_some h.rack)) head_is (omega (arith, bytes_long, (few h.state.setting (is_some h.rack)).0)) w.0 w.1.0 (w.1.1 ∙ sym bytes_long) all_sound

  -- the parts at their places
  head_long : length H ≡ 240
  unfolding H head_words
  head_long = length_words (head_words h.state (is_some h.rack))

  mode_s_there : floats_of (length h.mode_s) (drop 240 (stored_bytes h)) ≡ h.mode_s
  unfolding stored_bytes checked body_of H C
  mode_s_there =
      let rest = float_bytes h.mode_ac ++ float_bytes h.memory ++ rack_bytes h.rack h.rack_memory ++ C in
      let e : stored_bytes h ≡ H ++ (float_bytes h.mode_s ++ rest) = simp append_assoc refl in
      ap (λ (x : List ℕ). floats_of (length h.mode_s) (drop 240 x)) e ∙ ap (floats_of (length h.mode_s)) (drop_at H (float_bytes h.mode_s ++ rest) 240 head_long) ∙ floats_back h.mode_s rest t.mode_s

  mode_ac_there : floats_of (length h.mode_ac) (drop (240 + 4 * length h.mode_s) (stored_bytes h)) ≡ h.mode_ac
  unfolding stored_bytes checked body_of H C
  mode_ac_there =
      let front = H ++ float_bytes h.mode_s in
      let rest = float_bytes h.memory ++ rack_bytes h.rack h.rack_memory ++ C in
      let at = 240 + 4 * length h.mode_s in
      let e : stored_bytes h ≡ front ++ (float_bytes h.mode_ac ++ rest) = simp append_assoc refl in
      let l : length front ≡ at = length-append H (float_bytes h.mode_s) ∙ omega (arith, head_long, length_float_bytes h.mode_s) in
      ap (λ (x : List ℕ). floats_of (length h.mode_ac) (drop at x)) e ∙ ap (floats_of (length h.mode_ac)) (drop_at front (float_bytes h.mode_ac ++ rest) at l) ∙ floats_back h.mode_ac rest t.mode_ac

  memory_there : floats_of (length h.memory) (drop (240 + 4 * length h.mode_s + 4 * length h.mode_ac) (stored_bytes h)) ≡ h.memory
  unfolding stored_bytes checked body_of H C
  memory_there =
      let first = H ++ float_bytes h.mode_s in
      let front = first ++ float_bytes h.mode_ac in
      let rest = rack_bytes h.rack h.rack_memory ++ C in
      let at = 240 + 4 * length h.mode_s + 4 * length h.mode_ac in
      let e : stored_bytes h ≡ front ++ (float_bytes h.memory ++ rest) = simp append_assoc refl in
      let l : length front ≡ at =
      length-append first (float_bytes h.mode_ac) ∙ omega (arith, length-append H (float_bytes h.mode_s), head_long, length_float_bytes h.mode_s, length_float_bytes h.mode_ac) in
      ap (λ (x : List ℕ). floats_of (length h.memory) (drop at x)) e ∙ ap (floats_of (length h.memory)) (drop_at front (float_bytes h.memory ++ rest) at l) ∙ floats_back h.memory rest t.memory

  -- what stands before a rack
  before : List ℕ
  before = H ++ float_bytes h.mode_s ++ float_bytes h.mode_ac ++ float_bytes h.memory

  before_long : length before ≡ 240 + 4 * length h.mode_s + 4 * length h.mode_ac + 4 * length h.memory
  unfolding before
  before_long =
      length-append (H ++ float_bytes h.mode_s ++ float_bytes h.mode_ac) (float_bytes h.memory)
      ∙ omega (arith, length-append (H ++ float_bytes h.mode_s) (float_bytes h.mode_ac), length-append H (float_bytes h.mode_s), head_long, length_float_bytes h.mode_s, length_float_bytes h.mode_ac, length_float_bytes h.memory)

  rack_there : cond (is_some h.rack) (Some (rack_at (stored_bytes h) (rack_place h.state.setting))) None ≡ h.rack
  unfolding stored_bytes checked body_of H C before held_fits
  rack_there =
      let e : stored_bytes h ≡ before ++ (rack_bytes h.rack h.rack_memory ++ C) = simp append_assoc refl in
      let p = place_is h.state.setting (is_some h.rack) (length h.mode_s) (length h.mode_ac) (length h.memory) (length h.rack_memory) (stored_length h.state.setting (is_some h.rack)) f refl in
      ap (λ (x : List ℕ). cond (is_some h.rack) (Some (rack_at x (rack_place h.state.setting))) None) e ∙ rack_back h.rack t.rack h.rack_memory before C (rack_place h.state.setting) (before_long ∙ p)

  rack_memory_there : floats_of (length h.rack_memory) (drop (240 + 4 * length h.mode_s + 4 * length h.mode_ac + 4 * length h.memory + 208) (stored_bytes h)) ≡ h.rack_memory
  unfolding stored_bytes checked body_of H C before held_fits
  rack_memory_there =
      let e : stored_bytes h ≡ before ++ (rack_bytes h.rack h.rack_memory ++ C) = simp append_assoc refl in
      let n = lengths h.state.setting (is_some h.rack) (length h.mode_s) (length h.mode_ac) (length h.memory) (length h.rack_memory) (stored_length h.state.setting (is_some h.rack)) f refl in
      let at = 240 + 4 * length h.mode_s + 4 * length h.mode_ac + 4 * length h.memory in
      ap (λ (x : List ℕ). floats_of (length h.rack_memory) (drop (at + 208) x)) e ∙ memory_back h.rack t.rack h.rack_memory t.rack_memory n.1.1 before C at before_long

  pub restored_is : restored_of (stored_bytes h) (head_words h.state (is_some h.rack)) ≡ record { state = h.state; rack = h.rack }
  unfolding restored_of
  restored_is =
      let r : cond (is_racked (head_words h.state (is_some h.rack))) (Some (rack_at (stored_bytes h) (rack_place (setting_from (get_or (head_words h.state (is_some h.rack)) 29 0))))) None ≡ h.rack =
      (λ i. cond (racked_is i) (Some (rack_at (stored_bytes h) (rack_place (setting_is i)))) None) ∙ rack_there in
      λ i. record { state = state_back h.state t.state (is_some h.rack) i; rack = r i }

  module _ (lent : Lent) (n : AsLong h lent) where
    lent_fits : lists_fit (setting_from (get_or (head_words h.state (is_some h.rack)) 29 0)) (is_racked (head_words h.state (is_some h.rack))) (length lent.mode_s) (length lent.mode_ac) (length lent.memory) (length lent.rack_memory) ≡ true
    unfolding held_fits
    lent_fits = (λ i. lists_fit (setting_is i) (racked_is i) (n.mode_s i) (n.mode_ac i) (n.memory i) (n.rack_memory i)) ∙ f

    filled_is : lists_of h ≡ filled_of (stored_bytes h) (head_words h.state (is_some h.rack))
    filled_is =
        filled (stored_bytes h) (head_words h.state (is_some h.rack)) lent lent_fits length_sound
        (sym (ap (λ (k : ℕ). floats_of k (drop 240 (stored_bytes h))) n.mode_s ∙ mode_s_there))
        (sym ((λ i. floats_of (n.mode_ac i) (drop (240 + 4 * n.mode_s i) (stored_bytes h))) ∙ mode_ac_there))
        (sym ((λ i. floats_of (n.memory i) (drop (240 + 4 * n.mode_s i + 4 * n.mode_ac i) (stored_bytes h))) ∙ memory_there))
        (sym ((λ i. floats_of (n.rack_memory i) (drop (240 + 4 * n.mode_s i + 4 * n.mode_ac i + 4 * n.memory i + 208) (stored_bytes h))) ∙ rack_memory_there))

    pub restored : restore_left (stored_bytes h) lent ≡ record { answer = Ok (record { state = h.state; rack = h.rack }); lent = lists_of h }
    restored = sym (taken (stored_bytes h) (head_words h.state (is_some h.rack)) lent lent_fits length_sound head_accepted (sym restored_is) filled_is)

pub read_back : ReadBack
read_back h t f bytes l lent n = (sym (saved h bytes (stored_bytes h) f l refl), restored h t f lent n)
