-- The loss of specs/Loss.antt and its conflict set are rule 1's, for words that hold a list and its reasons.
use mathlib.Core.Path.{◌≡◌, refl, sym, ap, ap₂, ◌∙◌}
use mathlib.Core.Bool.{Bool, true, false, cond, not, ◌&&◌, ◌||◌, not-not}
use mathlib.Core.List.{List}
use Prim.Native.Nat.{ℕ, ◌<◌}
use native.Mathlib.Omega.{arith}
use lib.Dec.{T, ltb}
use lib.Bits.{bit_and, bit_or}
use lib.ListN.{get_or}
use borrow.Author.Tests.{lt-ltb, le-ltb, ltb-true}
use Rattle.mask.specs.Range.{some, each, first}
use Rattle.mask.specs.Mask.{bit, mask_of}
use Rattle.mask.proofs.Logic.{same, holds, true_holds, fails, clash, by_lt, and_in, and_out, or_left, or_right, or_out}
use Rattle.mask.proofs.Range.{some_out, some_in, first_of, first_below, first_least, some_eq, each_none, some_front, first_is, first-agree}
use Rattle.mask.proofs.Bits.{bit-bit_and, bit_of_zero}
use Rattle.mask.proofs.Masks.{bit-mask_of, empty-some}
use Rattle.game.specs.Problem.{Problem}
use Rattle.game.specs.Game.{Domains}
use Rattle.game.specs.Support.{clashes, alone, empty}
use Rattle.game.specs.Lists.{domains}
use Rattle.game.specs.Arc.{barred, arc_loss}
use Rattle.game.specs.Reasons.{emptied, against, arc_conflict}
use Rattle.solver_arrays.specs.Arrays.{row_in, supported_in, common_in, States}
use Rattle.solver_arrays.specs.Words.{reason_in}
use Rattle.rule_arc_passes.proofs.Support.{some_back, each_back}
use Rattle.rule_arc.specs.Loss.{emptied_in, bars_in, barrier, stopped, loss, conflict}
use Rattle.solver_arrays.specs.declared.arrays.Arrays.{Arrays}

-- Whole masks say whether k bars a value of x.
module _ (P : Problem) (n : ℕ) (A : Arrays) (st : States P n A) (l : List ℕ) where
  pub bars_is : (x k : ℕ) → x < n → k < n → bars_in A x k (get_or l x 0) (get_or l k 0) ≡ some 16 (domains l x) (λ a. barred P (domains l) x a k)
  unfolding bars_in barred clashes alone domains common_in supported_in
  bars_is x k lx lk = rw (st.side k lk) (go (bit A.universal k))
    where
      u : ℕ
      u = get_or l x 0

      v : ℕ
      v = get_or l k 0

      c : ℕ → Bool
      c a = each 16 (bit v) (λ b. bit (row_in A k b x) a)

      s : ℕ → Bool
      s a = some 16 (bit v) (λ b. bit (row_in A k b x) a)

      out : (q : ℕ → Bool) → not (each 16 (bit u) (bit (mask_of 16 q))) ≡ some 16 (bit u) (λ a. not (q a))
      out q =
          ap not (each_none 16 (bit u) (bit (mask_of 16 q))) ∙ not-not (some 16 (bit u) (λ a. not (bit (mask_of 16 q) a)))
          ∙ some_eq 16 (bit u) (λ a. not (bit (mask_of 16 q) a)) (λ a. not (q a)) (λ a la. ap not (bit-mask_of 16 q a la))

      go : (b : Bool) → cond b (not (each 16 (bit u) (bit (mask_of 16 c)))) (ltb x k && not (each 16 (bit u) (bit (mask_of 16 s))))
          ≡ some 16 (bit u) (λ a. cond b (some 16 (bit v) (λ b. not (P.compatible x a k b))) (ltb x k && not (some 16 (bit v) (λ b. P.compatible x a k b))))
      go true = out c ∙ some_eq 16 (bit u) (λ a. not (c a)) (λ a. some 16 (bit v) (λ b. not (P.compatible x a k b)))
          (λ a la. sym (ap not (each_back P n A st x k lx lk v a la)) ∙ not-not (some 16 (bit v) (λ b. not (P.compatible x a k b))))
      go false =
          ap (λ (b : Bool). ltb x k && b) (out s ∙ some_eq 16 (bit u) (λ a. not (s a)) (λ a. not (some 16 (bit v) (λ b. P.compatible x a k b))) (λ a la. ap not (sym (some_back P n A st x k lx lk v a la))))
          ∙ some_front 16 (bit u) (λ a. not (some 16 (bit v) (λ b. P.compatible x a k b))) (ltb x k)

module _ (P : Problem) (touched : ℕ) (A : Arrays) (st : States P P.n A)
    (w l R : List ℕ) (dom : (x : ℕ) → x < P.n → get_or w x 0 ≡ get_or l x 0) (why : (x : ℕ) → x < P.n → reason_in w x ≡ get_or R x 0) (small : (x : ℕ) → get_or l x 0 < 65536)
    (clear : (x k : ℕ) → x < P.n → k < P.n → bit touched k ≡ false → T (bit (get_or A.near x 0) k) → bit A.universal x ≡ true → bars_in A x k (get_or w x 0) (get_or w k 0) ≡ false) where
  open P use {n, constrained}

  abbrev D : Domains
  D = domains l

  emptied_is : (x : ℕ) → x < n → emptied_in A.universal w x ≡ emptied P D x
  unfolding emptied_in emptied empty domains
  emptied_is x lx = rw (st.side x lx, dom x lx, empty-some 16 (get_or l x 0) (small x))

  -- The test of a neighbour of x.
  abbrev bar : ℕ → ℕ → Bool
  bar x k = bit (bit_and (get_or A.near x 0) touched) k && bars_in A x k (get_or w x 0) (get_or w k 0)

  against_all : (x k : ℕ) → x < n → k < n → against P D x k ≡ (bit A.universal x && (bit (get_or A.near x 0) k && bars_in A x k (get_or w x 0) (get_or w k 0)))
  unfolding against
  against_all x k lx lk = rw (st.side x lx, st.joined x k lx lk, dom x lx, dom k lk, bars_is P n A st l x k lx lk)

  -- A variable outside the mask bars nothing.
  against_is : (x k : ℕ) → x < n → k < n → against P D x k ≡ (bit A.universal x && bar x k)
  against_is x k lx lk = against_all x k lx lk ∙ rw (bit-bit_and (get_or A.near x 0) touched k)
      (go (bit A.universal x) (bit (get_or A.near x 0) k) (bit touched k) (bars_in A x k (get_or w x 0) (get_or w k 0)) (λ f t u. clear x k lx lk f t u))
    where
      go : (u a b s : Bool) → (b ≡ false → T a → u ≡ true → s ≡ false) → (u && (a && s)) ≡ (u && ((a && b) && s))
      go true true true s h = refl
      go true true false s h = h refl tt refl
      go true false b s h = refl
      go false a b s h = refl

  bar_inside : (x k : ℕ) → x < n → T (bar x k) → k < n
  bar_inside x k lx t = by_lt k n (λ h. h) (λ h. absurd (clash (st.inside x k lx h ∙ bit_of_zero k) (and_out (bit (get_or A.near x 0) k) (bit touched k) (rw (bit-bit_and (get_or A.near x 0) touched k) at (and_out (bit (bit_and (get_or A.near x 0) touched) k) _ t).0)).0))

  stopped_is : (x : ℕ) → x < n → stopped A touched w x ≡ some n (against P D x) (λ k. true)
  unfolding stopped barrier
  stopped_is x lx =
      same (bit A.universal x && ltb (first 32 (bar x)) 32) (some n (against P D x) (λ k. true))
      (λ t. let p = and_out (bit A.universal x) (ltb (first 32 (bar x)) 32) t in
      let b = first_of 32 (bar x) (ltb-true (first 32 (bar x)) 32 (holds {b = ltb (first 32 (bar x)) 32} p.1)) in
      let h = bar_inside x (first 32 (bar x)) lx b in
      some_in n (against P D x) (λ k. true) (first 32 (bar x)) h (rw (against_is x (first 32 (bar x)) lx h) (and_in (bit A.universal x) (bar x (first 32 (bar x))) p.0 b)) tt)
      (λ t. let r = some_out n (against P D x) (λ k. true) t in
      let p = and_out (bit A.universal x) (bar x r.0) (rw (against_is x r.0 lx r.1) at r.2) in
      let m = st.most in let h = r.1 in
      and_in (bit A.universal x) (ltb (first 32 (bar x)) 32) p.0 (true_holds (lt-ltb (first 32 (bar x)) 32 (first_below 32 (bar x) r.0 (omega arith) p.1))))

  -- The barrier of a stopped variable is the first that it is against.
  barrier_is : (x : ℕ) → x < n → T (some n (against P D x) (λ k. true)) → (first n (against P D x) < n) × (barrier A w x (bit_and (get_or A.near x 0) touched) ≡ first n (against P D x))
  unfolding barrier
  barrier_is x lx t =
      let r = some_out n (against P D x) (λ k. true) t in
      let h = first_below n (against P D x) r.0 r.1 r.2 in
      let k : ℕ = first n (against P D x) in
      let p = and_out (bit A.universal x) (bar x k) (rw (against_is x k lx h) at (first_of n (against P D x) h)) in
      let m = st.most in
      (h, first_is 32 (bar x) k (omega arith) p.1 (λ j g. fails {b = bar x j} λ b. clash (first_least n (against P D x) j g) (rw (against_is x j lx (omega arith)) (and_in (bit A.universal x) (bar x j) p.0 b))))

  -- The lowest emptied, and the lowest stopped variable.
  abbrev low : ℕ
  low = first n (emptied P D)

  abbrev stop : ℕ
  stop = first n (λ y. some n (against P D y) (λ k. true))

  low_is : first n (emptied_in A.universal w) ≡ low
  low_is = first-agree n (emptied_in A.universal w) (emptied P D) emptied_is

  stop_is : first n (stopped A touched w) ≡ stop
  stop_is = first-agree n (stopped A touched w) (λ y. some n (against P D y) (λ k. true)) stopped_is

  -- What loses at variable x.
  abbrev fault : ℕ → Bool
  fault x = cond (P.universal x) (some 16 (D x) (λ a. some n (constrained x) (barred P D x a))) (empty P D x)

  emptied-fault : (x : ℕ) → T (emptied P D x) → T (fault x)
  unfolding emptied
  emptied-fault x t = go (P.universal x) t
    where
      go : (u : Bool) → T (not u && empty P D x) → T (cond u (some 16 (D x) (λ a. some n (constrained x) (barred P D x a))) (empty P D x))
      go true t = absurd t
      go false t = t

  against-fault : (x k : ℕ) → k < n → T (against P D x k) → T (fault x)
  unfolding against
  against-fault x k lk t = go (P.universal x) t
    where
      go : (u : Bool) → T (u && (constrained x k && some 16 (D x) (λ a. barred P D x a k))) → T (cond u (some 16 (D x) (λ a. some n (constrained x) (barred P D x a))) (empty P D x))
      go true t =
          let p = and_out (constrained x k) (some 16 (D x) (λ a. barred P D x a k)) t in
          let r = some_out 16 (D x) (λ a. barred P D x a k) p.1 in
          some_in 16 (D x) (λ a. some n (constrained x) (barred P D x a)) r.0 r.1 r.2 (some_in n (constrained x) (barred P D x r.0) k lk p.0 r.3)
      go false t = absurd t

  fault_out : (x : ℕ) → x < n → T (fault x) → T (ltb low n || ltb stop n)
  unfolding emptied against
  fault_out x lx t = go (P.universal x) refl t
    where
      go : (u : Bool) → P.universal x ≡ u → T (cond u (some 16 (D x) (λ a. some n (constrained x) (barred P D x a))) (empty P D x)) → T (ltb low n || ltb stop n)
      go true u t =
          let r = some_out 16 (D x) (λ a. some n (constrained x) (barred P D x a)) t in
          let q = some_out n (constrained x) (barred P D x r.0) r.3 in
          let b = some_in 16 (D x) (λ a. barred P D x a q.0) r.0 r.1 r.2 q.3 in
          let g : T (against P D x q.0) = and_in (P.universal x) (constrained x q.0 && some 16 (D x) (λ a. barred P D x a q.0)) (rw u tt) (and_in (constrained x q.0) (some 16 (D x) (λ a. barred P D x a q.0)) q.2 b) in
          or_right (ltb low n) (ltb stop n) (true_holds (lt-ltb stop n (first_below n (λ y. some n (against P D y) (λ k. true)) x lx (some_in n (against P D x) (λ k. true) q.0 q.1 g tt))))
      go false u t = or_left (ltb low n) (ltb stop n) (true_holds (lt-ltb low n (first_below n (emptied P D) x lx (and_in (not (P.universal x)) (empty P D x) (rw u tt) t))))

  pub loss_is : loss A touched w n ≡ arc_loss P D
  unfolding loss arc_loss
  loss_is = rw (low_is, stop_is) (same (ltb low n || ltb stop n) (some n (λ x. true) fault) into (λ t. let r = some_out n (λ x. true) fault t in fault_out r.0 r.1 r.3))
    where
      into : T (ltb low n || ltb stop n) → T (some n (λ x. true) fault)
      into t = or_out (ltb low n) (ltb stop n) t
          (λ s. let h = ltb-true low n (holds {b = ltb low n} s) in some_in n (λ x. true) fault low h tt (emptied-fault low (first_of n (emptied P D) h)))
          (λ s. let h = ltb-true stop n (holds {b = ltb stop n} s) in
          let r = some_out n (against P D stop) (λ k. true) (first_of n (λ y. some n (against P D y) (λ k. true)) h) in
          some_in n (λ x. true) fault stop h tt (against-fault stop r.0 r.1 r.2))

  pub conflict_is : T (loss A touched w n) → conflict A touched w n ≡ arc_conflict P l R
  unfolding loss conflict arc_conflict
  conflict_is t = rw (low_is, stop_is) (by_lt low n
      (λ h. rw (lt-ltb low n h) (why low h))
      (λ h. or_out (ltb low n) (ltb stop n) (rw (low_is, stop_is) at t)
      (λ s. let g = ltb-true low n (holds {b = ltb low n} s) in absurd (omega arith))
      (λ s. let g = ltb-true stop n (holds {b = ltb stop n} s) in
      let b = barrier_is stop g (first_of n (λ y. some n (against P D y) (λ k. true)) g) in
      rw (le-ltb low n h, lt-ltb stop n g, b.1) (ap₂ bit_or (why stop g) (why (first n (against P D stop)) b.0)))))
