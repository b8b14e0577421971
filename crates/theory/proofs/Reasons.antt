-- The invariant of reasons, over domains: why the law of rule 6 holds. A line from depth t is a full play inside the file's domains all of whose
-- positions from t on are won. Now: every line from the turn's depth that agrees with the plays on the reason of x has its value in the domain of x.
-- Later: so does every line from a later depth t whose values at the reason's variables below t lie in the list. Removals of any kind keep both; a
-- loss is one use of `now`; the turn below has `now` from `later`. A closure of arcs would not do: a value that clashes with some value of a later
-- universal variable comes back to life once that variable is played, hence `cause` of crate game takes the variable itself in.
use mathlib.Core.Path.{◌≡◌, refl, sym, ◌∙◌}
use mathlib.Core.Bool.{Bool, true, false, cond, ◌&&◌}
use mathlib.Core.Logic.{◌⊎◌, inl, inr}
use Prim.Native.Nat.{ℕ, zero, suc, ◌+◌, ◌-◌, ◌≤◌, ◌<◌}
use native.Mathlib.Omega.{arith}
use borrow.Author.Tests.{eq-eqb, ne_eqb, lt-ltb}
use lib.Dec.{T, eqb, eqb→eq, eqb_refl, ltb}
use Rattle.mask.proofs.Logic.{clash, test, by_eq, by_lt}
use Rattle.game.specs.Game.{put, satisfied, narrow, Domains, Play}
use Rattle.game.specs.Problem.{Problem}
use Rattle.theory.proofs.Conflict.{Conflict, put_same}
use Rattle.theory.proofs.Laws.{at, Answers, answers_put, satisfied_local}
use Rattle.theory.proofs.Positions.{placed_below, placed-above}
use Rattle.game.specs.Position.{placed}
use Rattle.theory.proofs.Moves.{Turn, put_at, put_off, replace_at, replace_off}
use Rattle.theory.proofs.Swap
use Rattle.theory.proofs.Swap.{Meets}
use Rattle.theory.proofs.Transfer
use Rattle.theory.proofs.Transfer.{In, Inside}

-- R j k: variable k is in the reason of variable j.
abbrev pub Reasons : Type 0
Reasons = ℕ → ℕ → Bool

-- The reasons of a search's first turn; those of the turn below, where variable i is played.
unfoldable pub own : ℕ → Reasons
own i j k = ltb j i && eqb k j

unfoldable pub mine : Reasons → ℕ → Reasons
mine R i j k = cond (eqb j i) (eqb k i) (R j k)

-- q has p's values at the variables in S below i.
abbrev pub Agree : ℕ → Play → (ℕ → Bool) → Play → Type 0
Agree i p S q = (j : ℕ) → j < i → T (S j) → q j ≡ p j

module _ (P : Problem) (F : Domains) (foe : Play) (foe_in : Answers P F foe) where
  open P use {n, universal, compatible, symmetric}

  -- A line from depth t.
  pub record Line (t : ℕ) (q : Play) : Type 0 where
    pub ins : Inside F n q
    pub wins_on : (m : ℕ) → t ≤ m → m ≤ n → T (at P F m q)

  agree_at : (m : ℕ) (p q : Play) → m ≤ n → ((j : ℕ) → j < m → p j ≡ q j) → T (at P F m p) → T (at P F m q)
  agree_at m p q l e t = rw (Transfer.agree n universal (satisfied compatible n) (satisfied_local P) F m p q l e) at t

  -- A won position goes on to a line, against any values of the universal side.
  pub line_of : (v : Play) → Answers P F v → (k i : ℕ) (q : Play) → k + i ≡ n → Inside F i q → T (at P F i q)
      → (r : Play) × Line i r × ((j : ℕ) → j < i → r j ≡ q j) × ((j : ℕ) → i ≤ j → j < n → universal j ≡ true → r j ≡ v j)
  line_of v f zero i q e h t =
      let e' : i ≡ n = omega arith in
      (q, record { ins = rw e' at h; wins_on = λ m g l. let z : i ≡ m = omega arith in rw (← z) t }, λ j l. refl, λ j g l s. absurd (omega arith))
  line_of v f (suc k) i q e h t = go (universal i) refl (Transfer.next n universal (satisfied compatible n) F i q (omega arith) t) (line_of v f k (suc i))
    where
      Goal : ℕ → Play → Type 0
      Goal i q = (r : Play) × Line i r × ((j : ℕ) → j < i → r j ≡ q j) × ((j : ℕ) → i ≤ j → j < n → universal j ≡ true → r j ≡ v j)

      back : (a : ℕ) → (universal i ≡ true → a ≡ v i) → Goal (suc i) (put q i a) → Goal i q
      back a c g =
          let below : (j : ℕ) → j < i → g.0 j ≡ q j = λ j l. g.2 j (omega arith) ∙ put_off q i a j (omega arith) in (
            g.0,
            record { ins = g.1.ins; wins_on = λ m u l. by_eq m i (λ z. rw z (agree_at i q g.0 (omega arith) (λ j w. sym (below j w)) t)) (λ z. g.1.wins_on m (omega arith) l) },
            below,
            λ j u l s. by_eq i j (λ z. rw (← z) (g.2 i (omega arith) ∙ put_at q i a ∙ c (rw z s))) (λ z. g.3 j (omega arith) l s),
          )

      go : (s : Bool) → universal i ≡ s → Turn s (F i) (λ a. T (at P F (suc i) (put q i a)))
          → ((q : Play) → k + suc i ≡ n → Inside F (suc i) q → T (at P F (suc i) q) → Goal (suc i) q) → Goal i q
      go true s w ih =
          let m = f i (omega arith) s in
          back (v i) (λ _. refl) (ih (put q i (v i)) (omega arith) (Transfer.inside_put F i q (v i) h m) (w (v i) m.0 m.1))
      go false s w ih =
          back w.0 (λ z. absurd (clash s (rw z tt))) (ih (put q i w.0) (omega arith) (Transfer.inside_put F i q w.0 h (w.1, w.2)) w.3)

  line_meets : (t : ℕ) (q : Play) → t ≤ n → Line t q → Meets P q
  line_meets t q l w = Swap.meets_out P q (rw (Transfer.from_end n universal (satisfied compatible n) F q) at (w.wins_on n l (omega arith)))

  -- A line is compatible with every value of a universal variable to come.
  line_faces : (t : ℕ) (q : Play) → Line t q → (x y b : ℕ) → x < y → t ≤ y → y < n → universal y ≡ true → In (F y) b → T (compatible x (q x) y b)
  line_faces t q w x y b l g ly s m =
      let u : Turn true (F y) (λ a. T (at P F (suc y) (put q y a))) = rw s at (Transfer.next n universal (satisfied compatible n) F y q ly (w.wins_on y g (omega arith))) in
      let r = line_of foe foe_in (n - suc y) (suc y) (put q y b) (omega arith) (Transfer.inside_put F y q b (λ j h. w.ins j (omega arith)) m) (u b m.0 m.1) in
      let k = line_meets (suc y) r.0 ly r.1 x y (omega arith) ly (omega arith) in
      rw (r.2 x (omega arith), r.2 y (omega arith), put_at q y b, put_off q y b x (omega arith)) at k

  -- THE INVARIANT of the domains L and the reasons R of a turn at depth i after the values p.
  pub record Told (i : ℕ) (p : Play) (L : Domains) (R : Reasons) : Type 0 where
    pub sub : (j a : ℕ) → a < 16 → T (L j a) → T (F j a)
    pub one : (j : ℕ) → j < i → (a : ℕ) → In (L j) a → a ≡ p j
    pub now : (x : ℕ) → x < n → (q : Play) → Line i q → Agree i p (R x) q → T (L x (q x))
    pub later : (x : ℕ) → x < n → (t : ℕ) → i ≤ t → t ≤ n → (q : Play) → Line t q → ((j : ℕ) → j < t → T (R x j) → T (L j (q j))) → T (L x (q x))

  -- Why value a of x may be removed, with the reason S: because of k it goes with no value of k, or it clashes with one of k, universal and later,
  -- and then S holds x.
  abbrev pub Dies : Domains → Reasons → (ℕ → Bool) → ℕ → ℕ → ℕ → Type 0
  Dies L R S x a k =
      (k < n) × (¬ (x ≡ k)) × ((j : ℕ) → T (R k j) → T (S j))
      × (((b : ℕ) → In (L k) b → T (compatible x a k b) → ⊥) ⊎ ((x < k) × (universal k ≡ true) × T (S x) × ((b : ℕ) × In (L k) b × (T (compatible x a k b) → ⊥))))

  -- Any number of removals at once, each for a reason over the domains before them.
  pub record Cut (L : Domains) (R : Reasons) (L' : Domains) (R' : Reasons) : Type 0 where
    pub less : (j a : ℕ) → a < 16 → T (L' j a) → T (L j a)
    pub more : (j k : ℕ) → T (R j k) → T (R' j k)
    pub dies : (x : ℕ) → x < n → (a : ℕ) → In (L x) a → L' x a ≡ false → (k : ℕ) × Dies L R (R' x) x a k

  -- What a line's value at a played or universal variable must be, and with what it is compatible.
  lands : (i : ℕ) (p : Play) (L : Domains) (R : Reasons) → Told i p L R → (q : Play) → Line i q → (y b : ℕ) → y < n → In (L y) b → Agree i p (R y) q
      → (i ≤ y → q y ≡ b) → q y ≡ b
  lands i p L R w q l y b ly m e f =
      by_lt y i (λ h. w.one y h (q y) ((l.ins y ly).0, w.now y ly q l e) ∙ sym (w.one y h b m)) f

  faces : (i : ℕ) (p : Play) (L : Domains) (R : Reasons) → i ≤ n → Told i p L R → (q : Play) → Line i q → (x y b : ℕ) → x < y → y < n → universal y ≡ true → In (L y) b → Agree i p (R y) q
      → T (compatible x (q x) y b)
  faces i p L R li w q l x y b h ly s m e =
      by_lt y i (λ g. rw (← (lands i p L R w q l y b ly m e (λ z. absurd (omega arith)))) (line_meets i q li l x y (omega arith) ly (omega arith)))
      (λ g. line_faces i q l x y b h g ly s (m.0, w.sub y b m.0 m.1))

  -- Removals keep the invariant.
  pub told_cut : (i : ℕ) (p : Play) (L : Domains) (R : Reasons) (L' : Domains) (R' : Reasons) → i ≤ n → Told i p L R → Cut L R L' R' → Told i p L' R'
  told_cut i p L R L' R' li w c = record {
    sub = λ j a l t. w.sub j a l (c.less j a l t);
    one = λ j l a m. w.one j l a (m.0, c.less j a m.0 m.1);
    now = λ x lx q l e. let h = w.now x lx q l (λ j g u. e j g (c.more x j u)) in
        test (L' x (q x)) (λ t. t) (λ z. absurd (dead_now x lx q l e (c.dies x lx (q x) ((l.ins x lx).0, h) z)));
    later = λ x lx t g lt q l e. let h = w.later x lx t g lt q l (λ j v u. c.less j (q j) (l.ins j (omega arith)).0 (e j v (c.more x j u))) in
        test (L' x (q x)) (λ t. t) (λ z. absurd (dead_later x lx t g lt q l e z (c.dies x lx (q x) ((l.ins x lx).0, h) z)));
  }
    where
      dead_now : (x : ℕ) → x < n → (q : Play) → Line i q → Agree i p (R' x) q → (k : ℕ) × Dies L R (R' x) x (q x) k → ⊥
      dead_now x lx q l e (k, (lk, ne, up, inl f)) = f (q k) ((l.ins k lk).0, w.now k lk q l (λ j g u. e j g (up j u))) (line_meets i q li l x k lx lk ne)
      dead_now x lx q l e (k, (lk, ne, up, inr f)) =
          f.3.2 (faces i p L R li w q l x k f.3.0 f.0 lk f.1 f.3.1 (λ j g u. e j g (up j u)))

      dead_later : (x : ℕ) → x < n → (t : ℕ) → i ≤ t → t ≤ n → (q : Play) → Line t q → ((j : ℕ) → j < t → T (R' x j) → T (L' j (q j))) → L' x (q x) ≡ false
          → (k : ℕ) × Dies L R (R' x) x (q x) k → ⊥
      dead_later x lx t g lt q l e z (k, (lk, ne, up, inl f)) =
          f (q k) ((l.ins k lk).0, w.later k lk t g lt q l (λ j v u. c.less j (q j) (l.ins j (omega arith)).0 (e j v (up j u)))) (line_meets t q lt l x k lx lk ne)
      dead_later x lx t g lt q l e z (k, (lk, ne, up, inr f)) =
          by_lt x t (λ h. clash z (e x h f.2))
          (λ h. let xk = f.0 in f.3.2 (line_faces t q l x k f.3.0 xk (omega arith) lk f.1 (f.3.1.0, w.sub k f.3.0 f.3.1.0 f.3.1.1)))

  -- Losses ----------------------------------------------------------------------------------------------------------------
  module _ (i : ℕ) (p : Play) (L : Domains) (R : Reasons) (li : i ≤ n) (w : Told i p L R) where
    -- A won position that agrees on S goes on to a line that does.
    reach : (v : Play) → Answers P F v → (S : ℕ → Bool) (q : Play) → Inside F i q → Agree i p S q → T (at P F i q)
        → (r : Play) × Line i r × Agree i p S r × ((j : ℕ) → i ≤ j → j < n → universal j ≡ true → r j ≡ v j)
    reach v f S q z e t = let r = line_of v f (n - i) i q (omega arith) z t in (r.0, r.1, λ j l u. r.2 j l ∙ e j l u, r.3)

    -- An empty domain: its reason loses.
    pub conflict-empty : (x : ℕ) → x < n → ((b : ℕ) → In (L x) b → ⊥) → Conflict P F (R x) i p
    conflict-empty x lx h q z e t =
        let r = reach foe foe_in (R x) q z e t in h (r.0 x) ((r.1.ins x lx).0, w.now x lx r.0 r.1 r.2)

    -- A value of a universal variable x that goes with no value of k: the reasons of both lose.
    pub conflict-alone : (S : ℕ → Bool) (x a k : ℕ) → x < n → k < n → ¬ (x ≡ k) → universal x ≡ true → In (L x) a
        → ((b : ℕ) → In (L k) b → T (compatible x a k b) → ⊥) → ((j : ℕ) → T (R x j) → T (S j)) → ((j : ℕ) → T (R k j) → T (S j)) → Conflict P F S i p
    conflict-alone S x a k lx lk ne s m h ux uk q z e t =
        let r = reach (put foe x a) (answers_put P F foe x a foe_in (m.0, w.sub x a m.0 m.1)) S q z e t in
        let ex = lands i p L R w r.0 r.1 x a lx m (λ j l u. r.2 j l (ux j u)) (λ g. r.3 x g lx s ∙ put_at foe x a) in
        h (r.0 k) ((r.1.ins k lk).0, w.now k lk r.0 r.1 (λ j l u. r.2 j l (uk j u))) (rw ex at (line_meets i r.0 li r.1 x k lx lk ne))

    -- A value of x that clashes with a value of a universal y, where x is universal; or where y is later and x has no other value.
    pub conflict-both : (S : ℕ → Bool) (x a y b : ℕ) → x < n → y < n → ¬ (x ≡ y) → universal x ≡ true → universal y ≡ true → In (L x) a → In (L y) b
        → (T (compatible x a y b) → ⊥) → ((j : ℕ) → T (R x j) → T (S j)) → ((j : ℕ) → T (R y j) → T (S j)) → Conflict P F S i p
    conflict-both S x a y b lx ly ne sx sy m k h ux uy q z e t =
        let v = put (put foe x a) y b in
        let f = answers_put P F (put foe x a) y b (answers_put P F foe x a foe_in (m.0, w.sub x a m.0 m.1)) (k.0, w.sub y b k.0 k.1) in
        let r = reach v f S q z e t in
        let ex = lands i p L R w r.0 r.1 x a lx m (λ j l u. r.2 j l (ux j u)) (λ g. r.3 x g lx sx ∙ put_off (put foe x a) y b x ne ∙ put_at foe x a) in
        let ey = lands i p L R w r.0 r.1 y b ly k (λ j l u. r.2 j l (uy j u)) (λ g. r.3 y g ly sy ∙ put_at (put foe x a) y b) in
        h (rw (ex, ey) at (line_meets i r.0 li r.1 x y lx ly ne))

    pub conflict_faced : (S : ℕ → Bool) (x a y b : ℕ) → x < y → y < n → universal y ≡ true → ((c : ℕ) → In (L x) c → c ≡ a) → In (L y) b
        → (T (compatible x a y b) → ⊥) → ((j : ℕ) → T (R x j) → T (S j)) → ((j : ℕ) → T (R y j) → T (S j)) → Conflict P F S i p
    conflict_faced S x a y b l ly s o k h ux uy q z e t =
        let r = reach foe foe_in S q z e t in
        let lx : x < n = omega arith in
        let ex = o (r.0 x) ((r.1.ins x lx).0, w.now x lx r.0 r.1 (λ j l u. r.2 j l (ux j u))) in
        h (rw ex at (faces i p L R li w r.0 r.1 x y b l ly s k (λ j l u. r.2 j l (uy j u))))

  -- The existential turn -----------------------------------------------------------------------------------------------------
  -- Another value a of a line's variable i that breaks no constraint of any line through the same position wins too.
  swap_at : (i : ℕ) → i < n → (q : Play) → Line i q → (a : ℕ)
      → ((r : Play) → Line i r → ((j : ℕ) → j < suc i → r j ≡ q j) → (k : ℕ) → k < n → ¬ (k ≡ i) → T (compatible i a k (r k))) → T (at P F (suc i) (put q i a))
  swap_at i li q l a ok =
      Transfer.win n universal (satisfied compatible n) F Inv step leaf (n - suc i) (suc i) (put q i a) (omega arith)
      (q, (λ j ne. sym (put_off q i a j ne)), put_at q i a, (λ j g. l.ins j (omega arith)), (λ j g. refl), (λ m g h. l.wins_on m g (omega arith)), omega arith)
    where
      Inv : ℕ → Play → Type 0
      Inv m r = (s : Play) × ((j : ℕ) → ¬ (j ≡ i) → s j ≡ r j) × (r i ≡ a) × Inside F m s × ((j : ℕ) → j < suc i → s j ≡ q j)
          × ((k : ℕ) → i ≤ k → k ≤ m → T (at P F k s)) × (suc i ≤ m)

      more : (m : ℕ) (r : Play) → m < n → (h : Inv m r) → (b : ℕ) → In (F m) b → T (at P F (suc m) (put h.0 m b)) → Inv (suc m) (put r m b)
      more m r lm h b k t =
          let lo = h.6 in (
            put h.0 m b,
            (λ j ne. by_eq j m (λ z. rw (z, put_at h.0 m b, put_at r m b)) (λ z. put_off h.0 m b j z ∙ h.1 j ne ∙ sym (put_off r m b j z))),
            put_off r m b i (omega arith) ∙ h.2,
            Transfer.inside_put F m h.0 b h.3 k,
            (λ j g. put_off h.0 m b j (omega arith) ∙ h.4 j g),
            (λ d g u. by_eq d (suc m) (λ z. rw z t) (λ z. agree_at d h.0 (put h.0 m b) (omega arith) (λ j v. sym (put_off h.0 m b j (omega arith))) (h.5 d g (omega arith)))),
            omega arith,
          )

      step : (m : ℕ) (r : Play) → m < n → Inv m r → Turn (universal m) (F m) (λ b. Inv (suc m) (put r m b))
      step m r lm h = go (universal m) (Transfer.next n universal (satisfied compatible n) F m h.0 lm (let lo = h.6 in h.5 m (omega arith) (omega arith)))
        where
          go : (s : Bool) → Turn s (F m) (λ b. T (at P F (suc m) (put h.0 m b))) → Turn s (F m) (λ b. Inv (suc m) (put r m b))
          go true u = λ b g k. more m r lm h b (g, k) (u b g k)
          go false u = (u.0, u.1, u.2, more m r lm h u.0 (u.1, u.2) u.3)

      leaf : (r : Play) → Inv n r → T (satisfied compatible n r)
      leaf r h =
          let s : Line i h.0 = record { ins = h.3; wins_on = h.5 } in
          let me = line_meets i h.0 (omega arith) s in
          let k : (j : ℕ) → j < n → ¬ (j ≡ i) → T (compatible i (r i) j (r j)) = λ j lj ne. rw (h.2, ← (h.1 j ne)) (ok h.0 s h.4 j lj ne) in
          Swap.meets_in P r λ x y lx ly ne.
          by_eq x i (λ e. rw e (k y ly (λ z. ne (e ∙ sym z))))
          (λ nx. by_eq y i (λ e. rw (e, symmetric x (r x) i (r i)) (k x lx nx)) (λ ny. rw (← (h.1 x nx), ← (h.1 y ny)) (me x y lx ly ne)))

  -- b is at least as good as a at variable i: for each other variable k over its domain, whose reason is in S, or over all values.
  abbrev pub Serves : ℕ → Domains → Reasons → (ℕ → Bool) → ℕ → ℕ → Type 0
  Serves i L R S a b = (k : ℕ) → k < n → ¬ (k ≡ i)
      → (((j : ℕ) → j < i → T (R k j) → T (S j)) × ((c : ℕ) → In (L k) c → T (compatible i a k c) → T (compatible i b k c))) ⊎ ((c : ℕ) → T (compatible i a k c) → T (compatible i b k c))

  -- All values of m are lost with S, and each value of i has one as good in m: the turn is lost with S.
  pub conflict-turn : (i : ℕ) (p : Play) (L : Domains) (R : Reasons) → i < n → Told i p L R → universal i ≡ false → (m S : ℕ → Bool)
      → ((j : ℕ) → j < i → T (R i j) → T (S j)) → ((a : ℕ) → In m a → T (L i a)) → ((a : ℕ) → In (L i) a → (b : ℕ) × In m b × Serves i L R S a b)
      → ((b : ℕ) → In m b → Conflict P F S (suc i) (put p i b)) → Conflict P F S i p
  conflict-turn i p L R li w s m S own le c h q z e t =
      let r = reach i p L R (omega arith) w foe foe_in S q z e t in
      let o = w.now i li r.0 r.1 (λ j l u. r.2 j l (own j l u)) in
      let d = c (r.0 i) ((r.1.ins i li).0, o) in
      let b = d.0 in
      h b d.1 (put r.0 i b) (Transfer.inside_put F i r.0 b (λ j l. r.1.ins j (omega arith)) (d.1.0, w.sub i b d.1.0 (le b d.1)))
      (put_same P S i p r.0 b r.2)
      (swap_at i li r.0 r.1 b λ y l f k lk ne. ok y l (λ j g u. f j (omega arith) ∙ r.2 j g u) k lk ne (r.0 i) b
      (rw (f i (omega arith)) at (line_meets i y (omega arith) l i k li lk (λ x. ne (sym x)))) (d.2 k lk ne))
    where
      ok : (y : Play) → Line i y → Agree i p S y → (k : ℕ) → k < n → ¬ (k ≡ i) → (a b : ℕ) → T (compatible i a k (y k))
          → (((j : ℕ) → j < i → T (R k j) → T (S j)) × ((c : ℕ) → In (L k) c → T (compatible i a k c) → T (compatible i b k c))) ⊎ ((c : ℕ) → T (compatible i a k c) → T (compatible i b k c))
          → T (compatible i b k (y k))
      ok y l f k lk ne a b t (inl u) = u.1 (y k) ((l.ins k lk).0, w.now k lk y l (λ j g x. f j g (u.0 j g x))) t
      ok y l f k lk ne a b t (inr u) = u (y k) t

  -- The turn below --------------------------------------------------------------------------------------------------------
  narrow_child : (L E : Domains) (i a : ℕ) → ((j : ℕ) → ¬ (j ≡ i) → E j ≡ L j) → T (L i a) → (j b : ℕ) → T (narrow E i a j b) → T (L j b)
  narrow_child L E i a off m j b t =
      by_eq j i (λ e. let k : T (eqb b a) = rw (e, replace_at E i (λ b. eqb b a)) at t in rw (e, eqb→eq b a k) m)
      (λ e. rw (← (off j e)) (rw (replace_off E i (λ b. eqb b a) j e) at t))

  -- The invariant of the turn below, where value a of variable i is played; E is L with the domain of i narrowed.
  pub told_child : (i : ℕ) (p : Play) (L : Domains) (R : Reasons) → i < n → Told i p L R → ((j : ℕ) → j < i → T (L j (p j)))
      → (E : Domains) → ((j : ℕ) → ¬ (j ≡ i) → E j ≡ L j) → (a : ℕ) → In (L i) a → Told (suc i) (put p i a) (narrow E i a) (mine R i)
  unfolding mine
  told_child i p L R li w whole E off a m = record {
    sub = λ j b l t. w.sub j b l (narrow_child L E i a off m.1 j b t);
    one = λ j l b k. by_eq j i
        (λ e. let u : In (λ b. eqb b a) b = rw (e, replace_at E i (λ b. eqb b a)) at k in rw (e, put_at p i a) (eqb→eq b a u.1))
        (λ e. rw (put_off p i a j e) (w.one j (omega arith) b (k.0, narrow_child L E i a off m.1 j b k.1)));
    now = λ x lx q l e. by_eq x i
        (λ z. rw (z, replace_at E i (λ b. eqb b a), e i (omega arith) (rw (z, eq-eqb i i refl) tt), put_at p i a) (eqb_refl a))
        (λ z. rw (replace_off E i (λ b. eqb b a) x z, off x z) (w.later x lx (suc i) (omega arith) li q l λ j v u.
        let g = e j v (rw (ne_eqb x i z) u) in
        by_eq j i (λ y. rw (y, (rw y at g) ∙ put_at p i a) m.1) (λ y. rw (g ∙ put_off p i a j y) (whole j (omega arith)))));
    later = λ x lx t g lt q l e. by_eq x i
        (λ z. rw z (e i (omega arith) (rw (z, eq-eqb i i refl) tt)))
        (λ z. rw (replace_off E i (λ b. eqb b a) x z, off x z) (w.later x lx t (omega arith) lt q l λ j v u.
        narrow_child L E i a off m.1 j (q j) (e j v (rw (ne_eqb x i z) u))));
  }

  -- The first turn: each played variable is its own reason.
  pub told-first : (i : ℕ) (p : Play) → Inside F i p → Told i p (placed F i p) (own i)
  unfolding own
  told-first i p ins = record {
    sub = λ j a l t. by_lt j i (λ h. let e : T (eqb a (p j)) = rw (placed_below F i p j h) at t in rw (eqb→eq a (p j) e) (ins j h).1) (λ h. rw (placed-above F i p j h) at t);
    one = λ j l a m. let u : In (λ b. eqb b (p j)) a = rw (placed_below F i p j l) at m in eqb→eq a (p j) u.1;
    now = λ x lx q l e. by_lt x i (λ h. rw (placed_below F i p x h, e x h (rw (lt-ltb x i h) (eqb_refl x))) (eqb_refl (p x))) (λ h. rw (placed-above F i p x h) (l.ins x lx).1);
    later = λ x lx t g lt q l e. by_lt x i (λ h. e x (omega arith) (rw (lt-ltb x i h) (eqb_refl x))) (λ h. rw (placed-above F i p x h) (l.ins x lx).1);
  }
