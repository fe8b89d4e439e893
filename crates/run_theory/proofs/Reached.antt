-- What holds of a bench that calls made: draws that it does not refuse start at or after the samples written, and every reply taken ends within the window.
use Rattle.std.specs.Prelude.{Option, Some, None}
use mathlib.Core.Bool.{Bool, true, false, cond, true≢false}
use mathlib.Core.List.{List, [], ◌∷◌, ◌++◌, map, map-append}
use mathlib.Core.Path.{◌≡◌, refl, sym, ap, ◌∙◌, subst}
use Prim.Native.Nat.{ℕ, ◌+◌, ◌≤◌, ◌<◌}
use native.Mathlib.Omega.{arith}
use lib.ListN.{length, length-append}
use lib.Seq.{take_all}
use Rattle.run_theory.specs.Generator.{Generator, Sample, NoisePair, silence, noisy}
use Rattle.run_theory.specs.PlainRun.{Kind, ignored, ends, reply, Reply, kind, time_of, ends_by, ended, reply_of, push, replies, hit, sum_from, sum_at, samples_from, plain_samples, plain_records, plain_counts}
use Rattle.run_theory.specs.PlainBench.{Remaining, jumps_back, latest, Bench, bench0}
use Rattle.run_theory.specs.Laws.{Laws, NotAfter, InRange, GapInRange, AllInRange, NoJump, Accepted}
use Rattle.run_theory.proofs.PlainFacts.{length_snoc, time_append, ended_append, replies_still, replies_append, sum_append, hit_before, hit_behind, samples_from_append, samples_from_same}
use Rattle.run_theory.proofs.StepFacts.{Drains, Dues, Takes, reply_fits}

module _ (G : Generator) (L : Laws G) where
  open G use {Draw, Time, t0, after, before, start, adds, limit, hold, total}

  pub in-range→gap : (d : Draw) → InRange G d → GapInRange G d
  in-range→gap d e f = let z : ◌≡◌ {A = ℕ} 0 1 = cc in omega arith

  pub good_on : (t : Time) (d : Draw) → L.Good t → InRange G d → L.Good (after t d)
  good_on t d g e = L.good_after t d g (in-range→gap d e)

  abbrev pub GoodMark : Option Time → Type 0
  GoodMark None = Unit {0}
  GoodMark (Some m) = L.Good m

  -- a draw that does not jump back starts at or after w, if it is a reply
  abbrev pub Ahead : Option Time → ℕ → Type 0
  Ahead m w = (t : Time) (d : Draw) (s : ℕ) → L.Good t → InRange G d → jumps_back G m t ≡ false → kind G t d ≡ reply s → w ≤ s

  pub record Reached (b : Bench G) : Type 0 where
    pub good : L.Good (time_of G t0 b.taken)
    pub good_mark : GoodMark b.mark
    pub in_range : AllInRange G b.taken
    pub ahead : ended G t0 b.taken ≡ false → Ahead b.mark (length b.used)
    pub within : length b.used ≤ total
    pub behind : (n : ℕ) → length b.used + (limit + hold) ≤ n → sum_at G (replies G t0 b.taken) n ≡ silence G

  pub reached_first : Reached (bench0 G)
  reached_first = record { good = L.good_first; good_mark = tt; in_range = tt; ahead = λ e t d s g o n k. omega arith; within = omega arith; behind = λ n h. refl }

  -- where the draws taken do not precede the latest time, no draw in range jumps back
  pub no_jump_on : (t : Time) (m : Option Time) (ds : List Draw) → L.Good t → GoodMark m → jumps_back G m t ≡ false → AllInRange G ds → NoJump G t m ds
  no_jump_on t m [] gt gm h o = tt
  no_jump_on t None (d ∷ ds) gt gm h o = refl
  no_jump_on t (Some m) (d ∷ ds) gt gm h o = L.time_trans m t (after t d) gm gt (good_on t d gt o.0) h (L.time_on t d gt (in-range→gap d o.0))

  -- the draws after the first
  pub accepted_on : (t : Time) (m : Option Time) (d : Draw) (ds : List Draw) → L.Good t → GoodMark m → Accepted G t m (d ∷ ds) → Accepted G (after t d) m ds
  accepted_on t m d ds gt gm a = record {
    in_range = a.in_range.1;
    no_jump = no_jump_on (after t d) m ds (good_on t d gt a.in_range.0) gm a.no_jump a.in_range.1;
  }

  -- accepted draws add nothing to the samples before w
  pub no_reach : (a : Sample G) (t : Time) (m : Option Time) (ds : List Draw) (w n : ℕ) → L.Good t → GoodMark m → Accepted G t m ds → Ahead m w → n < w → sum_from G a (replies G t ds) n ≡ a
  no_reach a t m [] w n gt gm acc ah lt = refl
  no_reach a t m (d ∷ ds) w n gt gm acc ah lt =
      go (kind G (after t d) d) refl (λ x. no_reach x (after t d) m ds w n (good_on t d gt acc.in_range.0) gm (accepted_on t m d ds gt gm acc) ah lt)
    where
      go : (k : Kind) → kind G (after t d) d ≡ k → ((x : Sample G) → sum_from G x (replies G (after t d) ds) n ≡ x) → sum_from G a (push G k (after t d) d (replies G (after t d) ds)) n ≡ a
      go ignored e ih = ih a
      go ends e ih = refl
      go (reply s) e ih =
          ih (hit G a (reply_of G (after t d) d s) n)
          ∙ hit_before G a (reply_of G (after t d) d s) n (omega (arith, ah (after t d) d s (good_on t d gt acc.in_range.0) acc.in_range.0 acc.no_jump e))

  -- draws that the bench does not refuse change no sample that is written
  pub sums_stay : (b : Bench G) (ds : List Draw) → Reached b → Accepted G (time_of G t0 b.taken) b.mark ds → (n : ℕ) → n < length b.used → sum_at G (replies G t0 (b.taken ++ ds)) n ≡ sum_at G (replies G t0 b.taken) n
  sums_stay b ds h acc n lt = go (ended G t0 b.taken) refl
    where
      go : (e : Bool) → ended G t0 b.taken ≡ e → sum_at G (replies G t0 (b.taken ++ ds)) n ≡ sum_at G (replies G t0 b.taken) n
      go true e = ap (λ (r : List (Reply G)). sum_at G r n) (replies_still G t0 b.taken ds e)
      go false e =
          ap (λ (r : List (Reply G)). sum_at G r n) (replies_append G t0 b.taken ds e)
          ∙ sum_append G (silence G) (replies G t0 b.taken) (replies G (time_of G t0 b.taken) ds) n
          ∙ no_reach (sum_at G (replies G t0 b.taken) n) (time_of G t0 b.taken) b.mark ds (length b.used) n h.good h.good_mark acc (h.ahead e) lt

  pub samples_stay : (b : Bench G) (ds : List Draw) → Reached b → Accepted G (time_of G t0 b.taken) b.mark ds → plain_samples G (b.taken ++ ds) b.used ≡ plain_samples G b.taken b.used
  samples_stay b ds h acc =
      rw (take_all total b.used h.within)
      (samples_from_same G (replies G t0 (b.taken ++ ds)) (replies G t0 b.taken) 0 b.used (λ k lt. sums_stay b ds h acc k (omega arith)))

  -- one more sample
  pub samples_more : (b : Bench G) (v : NoisePair G) → length b.used < total → plain_samples G b.taken (b.used ++ (v ∷ [])) ≡ plain_samples G b.taken b.used ++ (noisy G (sum_at G (replies G t0 b.taken) (length b.used)) v ∷ [])
  samples_more b v lt =
      rw (take_all total b.used (omega arith), take_all total (b.used ++ (v ∷ [])) (rw (length-append b.used (v ∷ [])) (omega arith)))
      (samples_from_append G (replies G t0 b.taken) 0 b.used (v ∷ [])
      ∙ ap (λ (n : ℕ). samples_from G (replies G t0 b.taken) 0 b.used ++ samples_from G (replies G t0 b.taken) n (v ∷ [])) (omega arith))

  pub reached_drain : (b : Bench G) (l l' : Remaining G) (v : NoisePair G) → Reached b → Drains G (ended G t0 b.taken) (length b.used) l v l' → Reached (record { taken = b.taken; used = b.used ++ (v ∷ []); mark = b.mark })
  reached_drain b l l' v h s = record {
    good = h.good;
    good_mark = h.good_mark;
    in_range = h.in_range;
    ahead = λ e. absurd (true≢false (sym s.over ∙ e));
    within = omega (arith, length_snoc b.used v, s.short);
    behind = λ n le. h.behind n (omega (arith, length_snoc b.used v));
  }

  latest_good : (m : Option Time) (t : Time) → GoodMark m → L.Good t → GoodMark (latest G m t)
  latest_good None t gm gt = gt
  latest_good (Some m) t gm gt = go (before m t)
    where
      go : (x : Bool) → L.Good (cond x t m)
      go true = gt
      go false = gm

  -- what does not precede the latest time does not precede the time that came last
  latest_right : (m : Option Time) (t t' : Time) → GoodMark m → L.Good t → L.Good t' → jumps_back G (latest G m t) t' ≡ false → NotAfter G t t'
  latest_right None t t' gm gt gt' h = h
  latest_right (Some m) t t' gm gt gt' h = go (before m t) refl h
    where
      go : (x : Bool) → before m t ≡ x → before t' (cond x t m) ≡ false → before t' t ≡ false
      go true e p = p
      go false e p = L.time_trans t m t' gt gm gt' e p

  latest_fits : (m : Option Time) (t : Time) → L.Good t → jumps_back G m t ≡ false → jumps_back G (latest G m t) t ≡ false
  latest_fits None t gt h = L.same_time t gt
  latest_fits (Some m) t gt h = go (before m t)
    where
      go : (x : Bool) → before t (cond x t m) ≡ false
      go true = L.same_time t gt
      go false = h

  -- what the loop knows of the draws that are left
  abbrev pub Left : Bench G → Remaining G → Type 0
  Left b l = Accepted G (time_of G t0 b.taken) b.mark l.draws

  -- the next draw of a due sample, of those that are left
  pub due_left : (b : Bench G) (l l' : Remaining G) (t : Time) (v : NoisePair G) → Left b l → (s : Dues G (ended G t0 b.taken) (length b.used) (time_of G t0 b.taken) l t v l') → Accepted G (time_of G t0 b.taken) b.mark (s.next ∷ s.later)
  due_left b l l' t v a s = subst (λ (ds : List Draw). Accepted G (time_of G t0 b.taken) b.mark ds) s.lent a

  pub reached_due : (b : Bench G) (l l' : Remaining G) (t : Time) (v : NoisePair G) → Reached b → Left b l → Dues G (ended G t0 b.taken) (length b.used) (time_of G t0 b.taken) l t v l' → Reached (record { taken = b.taken; used = b.used ++ (v ∷ []); mark = latest G b.mark t })
  reached_due b l l' t v h a s = record {
    good = h.good;
    good_mark = latest_good b.mark t h.good_mark good_t;
    in_range = h.in_range;
    ahead = λ e t' d' s' gt od na k.
        omega (
          arith,
          length_snoc b.used v,
          s.far,
          L.held t t' s.next d' s.first s' good_t gt left.in_range.0 od
              (latest_right b.mark t t' h.good_mark good_t gt na)
              s.is k,
        );
    within = omega (arith, length_snoc b.used v, s.far, reply_fits G (start t s.next) s.first s.is);
    behind = λ n le. h.behind n (omega (arith, length_snoc b.used v));
  }
    where
      left : Accepted G (time_of G t0 b.taken) b.mark (s.next ∷ s.later)
      left = due_left b l l' t v a s

      good_t : L.Good t
      good_t = subst (λ (x : Time). L.Good x) (sym s.time) (good_on (time_of G t0 b.taken) s.next h.good left.in_range.0)

  pub left_due : (b : Bench G) (l l' : Remaining G) (t : Time) (v : NoisePair G) → Reached b → Left b l → Dues G (ended G t0 b.taken) (length b.used) (time_of G t0 b.taken) l t v l' → Left (record { taken = b.taken; used = b.used ++ (v ∷ []); mark = latest G b.mark t }) l'
  left_due b l l' t v h a s = subst (λ (ds : List Draw). Accepted G (time_of G t0 b.taken) (latest G b.mark t) ds) (sym (s.draws ∙ s.lent)) (record { in_range = left.in_range; no_jump = fit })
    where
      left : Accepted G (time_of G t0 b.taken) b.mark (s.next ∷ s.later)
      left = due_left b l l' t v a s

      fit : jumps_back G (latest G b.mark t) (after (time_of G t0 b.taken) s.next) ≡ false
      fit = rw s.time (latest_fits b.mark (after (time_of G t0 b.taken) s.next) (good_on (time_of G t0 b.taken) s.next h.good left.in_range.0) left.no_jump)

  pub left_drain : (b : Bench G) (l l' : Remaining G) (v : NoisePair G) → Left b l → Drains G (ended G t0 b.taken) (length b.used) l v l' → Left (record { taken = b.taken; used = b.used ++ (v ∷ []); mark = b.mark }) l'
  left_drain b l l' v a s = subst (λ (ds : List Draw). Accepted G (time_of G t0 b.taken) b.mark ds) (sym s.draws) a

  all_append : (ds : List Draw) (d : Draw) → AllInRange G ds → InRange G d → AllInRange G (ds ++ (d ∷ []))
  all_append [] d a e = (e, tt)
  all_append (x ∷ ds) d a e = (a.0, all_append ds d a.1 e)

  module _ (b : Bench G) (l l' : Remaining G) (d : Draw) (k : Kind) (h : Reached b) (a : Left b l)
      (s : Takes G (ended G t0 b.taken) (length b.used) (time_of G t0 b.taken) l d k l') where
    take_left : Accepted G (time_of G t0 b.taken) b.mark (d ∷ l'.draws)
    take_left = subst (λ (ds : List Draw). Accepted G (time_of G t0 b.taken) b.mark ds) s.draws a

    pub take_time : time_of G t0 (b.taken ++ (d ∷ [])) ≡ after (time_of G t0 b.taken) d
    take_time = time_append G t0 b.taken (d ∷ [])

    pub take_one : Accepted G (time_of G t0 b.taken) b.mark (d ∷ [])
    take_one = record { in_range = (take_left.in_range.0, tt); no_jump = take_left.no_jump }

    pub take_replies : replies G t0 (b.taken ++ (d ∷ [])) ≡ replies G t0 b.taken ++ push G k (after (time_of G t0 b.taken) d) d []
    take_replies =
        replies_append G t0 b.taken (d ∷ []) s.going
        ∙ ap (λ (x : Kind). replies G t0 b.taken ++ push G x (after (time_of G t0 b.taken) d) d []) s.is

    pub take_ended : ended G t0 (b.taken ++ (d ∷ [])) ≡ ends_by G k false
    take_ended = ended_append G t0 b.taken (d ∷ []) s.going ∙ ap (λ (x : Kind). ends_by G x false) s.is

    -- the sums with the draw: a reply is added last
    pub take_sum : (n : ℕ) → sum_at G (replies G t0 (b.taken ++ (d ∷ []))) n ≡ sum_from G (sum_at G (replies G t0 b.taken) n) (push G k (after (time_of G t0 b.taken) d) d []) n
    take_sum n = ap (λ (r : List (Reply G)). sum_at G r n) take_replies ∙ sum_append G (silence G) (replies G t0 b.taken) (push G k (after (time_of G t0 b.taken) d) d []) n

    pub left_take : Left (record { taken = b.taken ++ (d ∷ []); used = b.used; mark = b.mark }) l'
    left_take = rw take_time (accepted_on (time_of G t0 b.taken) b.mark d l'.draws h.good h.good_mark take_left)

    good_next : L.Good (after (time_of G t0 b.taken) d)
    good_next = good_on (time_of G t0 b.taken) d h.good take_left.in_range.0

    pub take_short : (x : ℕ) → k ≡ reply x → length (adds (after (time_of G t0 b.taken) d) d x) ≤ limit
    take_short x e = L.short (after (time_of G t0 b.taken) d) d x good_next take_left.in_range.0 (s.is ∙ e)

    take_behind : (k' : Kind) → k ≡ k' → (n : ℕ) → length b.used + (limit + hold) ≤ n → sum_from G (sum_at G (replies G t0 b.taken) n) (push G k' (after (time_of G t0 b.taken) d) d []) n ≡ silence G
    take_behind ignored e n le = h.behind n le
    take_behind ends e n le = h.behind n le
    take_behind (reply x) e n le =
        hit_behind G (sum_at G (replies G t0 b.taken) n) (reply_of G (after (time_of G t0 b.taken) d) d x) n
        (omega (arith, s.near x e, take_short x e))
        ∙ h.behind n le

    pub reached_take : Reached (record { taken = b.taken ++ (d ∷ []); used = b.used; mark = b.mark })
    reached_take = record {
      good = rw take_time (good_on (time_of G t0 b.taken) d h.good take_left.in_range.0);
      good_mark = h.good_mark;
      in_range = all_append b.taken d h.in_range take_left.in_range.0;
      ahead = λ e. h.ahead s.going;
      within = h.within;
      behind = λ n le. take_sum n ∙ take_behind k refl n le;
    }

    pub take_samples : plain_samples G (b.taken ++ (d ∷ [])) b.used ≡ plain_samples G b.taken b.used
    take_samples = samples_stay b (d ∷ []) h take_one

    pub take_records : plain_records G (b.taken ++ (d ∷ [])) ≡ plain_records G b.taken ++ map (λ r. r.line) (push G k (after (time_of G t0 b.taken) d) d [])
    take_records =
        ap (λ (rs : List (Reply G)). map (λ r. r.line) rs) take_replies
        ∙ map-append (λ r. r.line) (replies G t0 b.taken) (push G k (after (time_of G t0 b.taken) d) d [])

    pub take_counts : plain_counts G (b.taken ++ (d ∷ [])) ≡ plain_counts G b.taken ++ map (λ r. length r.values) (push G k (after (time_of G t0 b.taken) d) d [])
    take_counts =
        ap (λ (rs : List (Reply G)). map (λ r. length r.values) rs) take_replies
        ∙ map-append (λ r. length r.values) (replies G t0 b.taken) (push G k (after (time_of G t0 b.taken) d) d [])

    -- a reply that is taken starts at or after the samples written
    pub take_ahead : (x : ℕ) → k ≡ reply x → length b.used ≤ x
    take_ahead x e =
        h.ahead s.going (after (time_of G t0 b.taken) d) d x (good_on (time_of G t0 b.taken) d h.good take_left.in_range.0) take_left.in_range.0 take_left.no_jump (s.is ∙ e)
