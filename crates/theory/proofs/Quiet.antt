-- Variables without effect on others: after rule 1 all are, and in the turn below all but the new play.
use mathlib.Core.Path.{◌≡◌, refl, sym, ap, subst, ◌∙◌}
use mathlib.Core.Bool.{Bool, true, false, cond, not, ◌&&◌}
use mathlib.Core.List.{List, [], ◌∷◌, ◌++◌}
use Prim.Native.Nat.{ℕ, ◌-◌, ◌^◌, ◌≤◌, ◌<◌}
use native.Mathlib.Omega.{arith}
use lib.Dec.{T, eqb, ltb}
use lib.ListN.{get_or, length, set}
use lib.Seq.{get_or-set_same, get_or-set_other}
use borrow.Author.Tests.{eq-eqb, eqb-true, lt-ltb, le-ltb, not-false}
use Rattle.mask.specs.Range.{some}
use Rattle.mask.specs.Mask.{bit}
use Rattle.mask.proofs.Logic.{holds, true_holds, fails, clash, test, by_eq}
use Rattle.mask.proofs.Range.{some_out, some_in}
use Rattle.mask.proofs.Bits.{bit_single}
use Rattle.game.specs.Problem.{Problem}
use Rattle.game.specs.Game.{Domains, satisfied}
use Rattle.game.specs.Lists.{domains, narrow_to}
use Rattle.game.specs.Position.{play_of, legal}
use Rattle.game.specs.Rule.{uses}
use Rattle.game.specs.Support.{clashes, alone, empty}
use Rattle.game.specs.Arc.{dead, barred, arc_loss}
use Rattle.game.specs.Turn.{next_list, reached}
use Rattle.game.specs.Reasons.{Sheet, Step, Ruling, chain, choose, idle, kills, revisions, explain_checks, explain_arc, explain_ahead, explained}
use Rattle.game.specs.Search.{narrow_next}
use Rattle.game.specs.Turns.{TurnOf, first, below}
use Rattle.theory.specs.AnyOrder.{Formed}
use Rattle.theory.specs.TurnList.{AtTurn}
use Rattle.theory.proofs.Moves.{satisfied_in}
use Rattle.theory.proofs.Arc.{Closed}
use Rattle.theory.proofs.Revisions.{revisions-closed, kills_local}
use Rattle.theory.proofs.Explained as explaining
use Rattle.theory.proofs.Narrowed.{Trims}
use Rattle.theory.proofs.Search.{F, foe, foe_in, trims, after}
use Rattle.theory.proofs.Turn.{unclashed_goes}
use Rattle.theory.proofs.TurnLists.{snoc_length}
use Rattle.theory.proofs.Turns.{At, turn_at, turn-list, entry_loss, entry_list}
use Rattle.theory.proofs.Lists.{domains_boxed, lent_out}

-- A chain of rules without a loss ends with what its last rule leaves.
chain_through : (r s : Ruling) (l R : List ℕ) → (chain r s l R).loss ≡ false
    → ((r l R).loss ≡ false) × ((s (r l R).list (r l R).why).loss ≡ false) × ((chain r s l R).list ≡ (s (r l R).list (r l R).why).list)
unfolding chain
chain_through r s l R e = go (r l R).loss refl e
  where
    o : Step
    o = r l R

    q : Step
    q = s o.list o.why

    go : (b : Bool) → o.loss ≡ b → (cond b o q).loss ≡ false → (b ≡ false) × (q.loss ≡ false) × ((cond b o q).list ≡ q.list)
    go true f e = absurd (true_holds (sym e ∙ f))
    go false f e = (refl, e, refl)

-- A mask of one value.
single_only : (l : List ℕ) (x v b : ℕ) → get_or l x 0 ≡ 2 ^ v → T (domains l x b) → b ≡ v
unfolding domains
single_only l x v b e t = eqb-true b v (holds {b = eqb b v} (subst (λ (y : Bool). T y) (bit_single v b) (subst (λ (y : ℕ). T (bit y b)) e t)))

module _ (P : Problem) where
  open P use {n, universal, compatible, constrained, apart, symmetric, free}

  -- In the domains D variable k has no effect on x.
  pub record Quiet (D : Domains) (x k : ℕ) : Type 0 where
    pub lives : universal x ≡ false → T (constrained x k) → (a : ℕ) → a < 16 → T (D x a) → kills P D x a k ≡ false
    pub unbarred : universal x ≡ true → T (constrained x k) → (a : ℕ) → a < 16 → T (D x a) → barred P D x a k ≡ false

  -- None has any where rule 1 left nothing dead and found no loss.
  quiet_all : (D : Domains) → Closed P D → arc_loss P D ≡ false → (x k : ℕ) → x < n → k < n → Quiet D x k
  unfolding dead kills arc_loss
  quiet_all D closed e x k lx lk = record {
    lives = λ u c a l t. fails {b = cond (universal k && ltb x k) (clashes P D x a k) (alone P D x a k)} λ s.
        clash (closed x lx u a (l, t)) (some_in n (constrained x) (λ y. cond (universal y && ltb x y) (clashes P D x a y) (alone P D x a y)) k lk c s);
    unbarred = λ u c a l t. fails {b = barred P D x a k} λ s. clash e (some_in n (λ x. true) fault x lx tt
        (subst (λ (b : Bool). T (cond b (some 16 (D x) (λ a. some n (constrained x) (barred P D x a))) (empty P D x))) (sym u)
        (some_in 16 (D x) (λ a. some n (constrained x) (barred P D x a)) a l t (some_in n (constrained x) (barred P D x a) k lk c s))));
  }
    where
      fault : ℕ → Bool
      fault x = cond (universal x) (some 16 (D x) (λ a. some n (constrained x) (barred P D x a))) (empty P D x)

  -- What another domain of k would change, and what fewer values of x cannot.
  barred_local : (D E : Domains) (x a k : ℕ) → D k ≡ E k → barred P D x a k ≡ barred P E x a k
  unfolding barred clashes alone
  barred_local D E x a k e = rw e

  quiet_less : (D E : Domains) (x k : ℕ) → Quiet D x k → E k ≡ D k → ((a : ℕ) → a < 16 → T (E x a) → T (D x a)) → Quiet E x k
  quiet_less D E x k q e less = record {
    lives = λ u c a l t. kills_local P E D x a k e ∙ q.lives u c a l (less a l t);
    unbarred = λ u c a l t. barred_local E D x a k e ∙ q.unbarred u c a l (less a l t);
  }

  -- The list that the rules of a turn leave.
  module _ (S c : ℕ) (p l R : List ℕ) (w : At P c p l R) (one : uses S 1 ≡ true) (calm : (explained P S c p l R).loss ≡ false) where
    abbrev first_step : Step
    first_step = choose (uses S 2) (explain_checks P (length p - c) c p) l R

    abbrev sheet : Sheet
    sheet = record { list = first_step.list; why = first_step.why }

    formed : Formed P sheet
    formed =
        let ok = w.checked in
        (explaining.choose_holds P (F P) (foe P) (foe_in P) (uses S 2) (length p) (play_of p) (explain_checks P (length p - c) c p)
        (λ _. explaining.explain_checks_hold P (F P) (foe P) (foe_in P) (length p) p w.entry.depth (length p - c) c (omega arith)) l R w.entry.ready).formed

    abbrev last : Ruling
    last = choose (ltb (length p) n && uses S 3) (explain_ahead P (length p))

    last-list : (l R : List ℕ) → (last l R).list ≡ l
    unfolding choose idle explain_ahead
    last-list l R = go (ltb (length p) n && uses S 3)
      where
        go : (b : Bool) → (choose b (explain_ahead P (length p)) l R).list ≡ l
        go true = refl
        go false = refl

    -- From rule 1 on, where a test says that it is used.
    abbrev later_steps : Bool → Ruling
    later_steps b = chain (choose b (explain_arc P)) last

    after-arc : (b : Bool) → b ≡ true → (later_steps b first_step.list first_step.why).loss ≡ false
        → (arc_loss P (domains (revisions P sheet).list) ≡ false) × ((later_steps b first_step.list first_step.why).list ≡ (revisions P sheet).list)
    unfolding choose explain_arc
    after-arc true e h =
        let q = chain_through (explain_arc P) last first_step.list first_step.why h in
        (q.0, q.2 ∙ last-list (revisions P sheet).list (revisions P sheet).why)
    after-arc false e h = absurd (true_holds e)

    left_quiet : (x k : ℕ) → x < n → k < n → Quiet (domains (explained P S c p l R).list) x k
    unfolding explained
    left_quiet x k lx lk =
        let t = chain_through (choose (uses S 2) (explain_checks P (length p - c) c p)) (later_steps (uses S 1)) l R calm in
        let q = after-arc (uses S 1) one t.1 in
        subst (λ (m : List ℕ). Quiet (domains m) x k) (sym (t.2 ∙ q.1)) (quiet_all (domains (revisions P sheet).list) (revisions-closed P sheet formed) q.0 x k lx lk)

    -- The turn below, where value a of the next variable is played: only that variable may have an effect.
    module _ (h : length p < n) (a : ℕ) (m : T (domains (after P S c p l R) (length p) a)) where
      narrowing : Trims P (length p) (play_of p) (explained P S c p l R).list (narrow_next P S (length p) (explained P S c p l R).list)
      narrowing = trims P S c p l R w.checked w.entry h calm

      abbrev next : List ℕ
      next = next_list P (after P S c p l R) (length p) a

      next_off : (k : ℕ) → ¬ (k ≡ length p) → domains next k ≡ domains (explained P S c p l R).list k
      unfolding next_list narrow_to domains
      next_off k d = ap bit (get_or-set_other (after P S c p l R) (length p) k (2 ^ a) 0 d) ∙ narrowing.off k d

      next_less : (x b : ℕ) → b < 16 → T (domains next x b) → T (domains (explained P S c p l R).list x b)
      unfolding next_list narrow_to domains
      next_less x b lb t = by_eq x (length p)
          (λ e. let z = narrowing.masks.size in
          let g = get_or-set_same (after P S c p l R) (length p) (2 ^ a) 0 (omega arith) in
          let f = single_only (set (after P S c p l R) (length p) (2 ^ a)) (length p) a b g (subst (λ (y : ℕ). T (bit (get_or (set (after P S c p l R) (length p) (2 ^ a)) y 0) b)) e t) in
          narrowing.sound.sub x b lb (subst (λ (y : ℕ). T (domains (after P S c p l R) y b)) (sym e) (subst (λ (y : ℕ). T (domains (after P S c p l R) (length p) y)) (sym f) m)))
          (λ e. subst (λ (d : ℕ → Bool). T (d b)) (next_off x e) t)

      below_quiet : (x k : ℕ) → x < n → k < n → ¬ (k ≡ length p) → Quiet (domains next) x k
      below_quiet x k lx lk d = quiet_less (domains (explained P S c p l R).list) (domains next) x k (left_quiet x k lx lk) (next_off k d) (next_less x)

      -- It has no effect on those before it: each has one value, and that goes with a because a is not dead.
      module _ (x : ℕ) (lx : x < length p) (v : ℕ) (only : (b : ℕ) → T (domains next x b) → b ≡ v) where
        abbrev D : Domains
        D = domains (explained P S c p l R).list

        abbrev E : Domains
        E = domains next

        abbrev i : ℕ
        i = length p

        value_lt : a < 16
        value_lt = (domains_boxed n (after P S c p l R) narrowing.masks (length p) a m).1

        played : get_or next i 0 ≡ 2 ^ a
        unfolding next_list narrow_to
        played = let z = narrowing.masks.size in get_or-set_same (after P S c p l R) (length p) (2 ^ a) 0 (omega arith)

        has : T (E i a)
        unfolding domains
        has = subst (λ (y : ℕ). T (bit y a)) (sym played) (true_holds (bit_single a a ∙ eq-eqb a a refl))

        had : T (D i a)
        had = next_less i a value_lt has

        goes : universal i ≡ false → (b : ℕ) → T (E x b) → T (compatible x b i a)
        unfolding kills alone
        goes u b t = rw (symmetric x b i a) (test (constrained i x) near (λ f. free i x f a b))
          where
            off : (j q r : Bool) → cond (j && false) q (not r) ≡ false → T r
            off true q true e = tt
            off false q true e = tt
            off true q false e = true_holds (sym e)
            off false q false e = true_holds (sym e)

            near : T (constrained i x) → T (compatible i a x b)
            near k =
                let q : cond (universal x && ltb i x) (clashes P D i a x) (alone P D i a x) ≡ false = (left_quiet i x h (omega arith)).lives u k a value_lt had in
                let r = some_out 16 (D x) (λ y. compatible i a x y) (off (universal x) (clashes P D i a x) (some 16 (D x) (λ y. compatible i a x y)) (rw (le-ltb i x (omega arith)) at q)) in
                let same : r.0 ≡ b = only r.0 (subst (λ (d : ℕ → Bool). T (d r.0)) (sym (next_off x (omega arith))) r.2) ∙ sym (only b t) in
                subst (λ (y : ℕ). T (compatible i a x y)) same r.3

        clash_none : (b : ℕ) → clashes P D x b i ≡ false → clashes P E x b i ≡ false
        unfolding clashes
        clash_none b e = fails {b = some 16 (E i) (λ y. not (compatible x b i y))} λ t.
            let r = some_out 16 (E i) (λ y. not (compatible x b i y)) t in
            clash e (some_in 16 (D i) (λ y. not (compatible x b i y)) r.0 r.1 (next_less i r.0 r.1 r.2) r.3)

        alone_none : universal i ≡ false → (b : ℕ) → T (E x b) → alone P E x b i ≡ false
        unfolding alone
        alone_none u b t = ap not (holds {b = some 16 (E i) (λ y. compatible x b i y)} (some_in 16 (E i) (λ y. compatible x b i y) a value_lt has (goes u b t)))

        before_quiet : Quiet E x i
        unfolding kills barred
        before_quiet = record {
          lives = λ s k b lb t. lives (universal i) refl b t ((left_quiet x i (omega arith) h).lives s k b lb (next_less x b lb t));
          unbarred = λ s k b lb t. unbarred (universal i) refl b t ((left_quiet x i (omega arith) h).unbarred s k b lb (next_less x b lb t));
        }
          where
            lives : (j : Bool) → universal i ≡ j → (b : ℕ) → T (E x b) → cond (j && ltb x i) (clashes P D x b i) (alone P D x b i) ≡ false → cond (j && ltb x i) (clashes P E x b i) (alone P E x b i) ≡ false
            lives true u b t e = rw (lt-ltb x i lx) (clash_none b (rw (lt-ltb x i lx) at e))
            lives false u b t e = alone_none u b t

            unbarred : (j : Bool) → universal i ≡ j → (b : ℕ) → T (E x b) → cond j (clashes P D x b i) (ltb x i && alone P D x b i) ≡ false → cond j (clashes P E x b i) (ltb x i && alone P E x b i) ≡ false
            unbarred true u b t e = clash_none b e
            unbarred false u b t e = rw (lt-ltb x i lx) (alone_none u b t)

  -- A turn below another starts from a list in which only the new play may have an effect on others, where the rule set has rule 1.
  pub turn_quiet : (S : ℕ) (p₀ : List ℕ) → T (legal P p₀) → (c : ℕ) (p l R : List ℕ) → TurnOf P S p₀ c p l R → uses S 1 ≡ true → ¬ (c ≡ 0)
      → (x k : ℕ) → x < n → k < n → (c ≤ k → k < length p → x ≤ k) → Quiet (domains l) x k
  turn_quiet S p₀ t _ _ _ _ first one z x k lx lk o = absurd (z refl)
  turn_quiet S p₀ t _ _ _ _ (below {c = c} {p = p} {l = l} {R = R} a tu h e m) one z x k lx lk o =
      by_eq k (length p)
      (λ q. let s = snoc_length P p a in
      by_eq x k
      (λ g. record { lives = λ u y. absurd (apart x k y g); unbarred = λ u y. absurd (apart x k y g) })
      (λ g. let y = o (omega arith) (omega arith) in
      back (subst (λ (j : ℕ). Quiet (domains (next_list P (after P S c p l R) (length p) a)) x j) (sym q) (before_quiet S c p l R w one calm h a m' x (omega arith) (get_or (p ++ (a ∷ [])) x 0) (only (omega arith))))))
      (λ q. back (below_quiet S c p l R w one calm h a m' x k lx lk q))
    where
      w : At P c p l R
      w = turn_at P S p₀ t c p l R tu

      calm : (explained P S c p l R).loss ≡ false
      calm = sym (entry_loss P S c p l R w.checked w.entry) ∙ e

      r : (reached P S c p l).list ≡ after P S c p l R
      r = entry_list P S c p l R w.checked w.entry h e

      m' : T (domains (after P S c p l R) (length p) a)
      m' = subst (λ (y : List ℕ). T (domains y (length p) a)) r m

      back : Quiet (domains (next_list P (after P S c p l R) (length p) a)) x k → Quiet (domains (next_list P (reached P S c p l).list (length p) a)) x k
      back q = subst (λ (y : List ℕ). Quiet (domains (next_list P y (length p) a)) x k) (sym r) q

      only : x < length p → (b : ℕ) → T (domains (next_list P (after P S c p l R) (length p) a) x b) → b ≡ get_or (p ++ (a ∷ [])) x 0
      only g b y =
          let s = snoc_length P p a in
          let q = (turn-list P S p₀ t (length p) (p ++ (a ∷ [])) _ _ (below {c = c} {p = p} {l = l} {R = R} a tu h e m)).played x (omega arith) in
          let f : get_or (next_list P (after P S c p l R) (length p) a) x 0 ≡ 2 ^ get_or (p ++ (a ∷ [])) x 0 = ap (λ (z : List ℕ). get_or (next_list P z (length p) a) x 0) (sym r) ∙ q in
          single_only (next_list P (after P S c p l R) (length p) a) x (get_or (p ++ (a ∷ [])) x 0) b f y

  -- The values of two variables that have no others, where the later has no effect on the earlier.
  quiet_goes : (D : Domains) (x a y b : ℕ) → x < y → a < 16 → b < 16 → T (D x a) → T (D y b) → ((v : ℕ) → T (D y v) → v ≡ b) → Quiet D x y → T (compatible x a y b)
  unfolding kills barred alone
  quiet_goes D x a y b h la lb at_x at_y only q = test (constrained x y) near (λ f. free x y f a b)
    where
      joined : alone P D x a y ≡ false → T (compatible x a y b)
      joined e =
          let r = some_out 16 (D y) (λ v. compatible x a y v) (true_holds (not-false (some 16 (D y) (λ v. compatible x a y v)) e)) in
          subst (λ (v : ℕ). T (compatible x a y v)) (only r.0 r.2) r.3

      lived : (j : Bool) → cond (j && ltb x y) (clashes P D x a y) (alone P D x a y) ≡ false → T (compatible x a y b)
      lived true e = unclashed_goes P D x a y b lb at_y (rw (lt-ltb x y h) at e)
      lived false e = joined e

      unbarred : (j : Bool) → cond j (clashes P D x a y) (ltb x y && alone P D x a y) ≡ false → T (compatible x a y b)
      unbarred true e = unclashed_goes P D x a y b lb at_y e
      unbarred false e = joined (rw (lt-ltb x y h) at e)

      near : T (constrained x y) → T (compatible x a y b)
      near k = test (universal x) (λ u. unbarred (universal y) (q.unbarred (holds u) k a la at_x)) (λ u. lived (universal y) (q.lives u k a la at_x))

  -- So a play of all variables below another turn breaks no constraint, where the rule set has rule 1.
  pub turn_unbroken : (S : ℕ) (p₀ : List ℕ) → T (legal P p₀) → (c : ℕ) (p l R : List ℕ) → TurnOf P S p₀ c p l R → uses S 1 ≡ true → ¬ (c ≡ 0) → length p ≡ n
      → T (satisfied compatible n (play_of p))
  unfolding play_of domains
  turn_unbroken S p₀ t c p l R tu one z e =
      satisfied_in compatible n (play_of p) λ y x ly lx.
      quiet_goes (domains l) x (get_or p x 0) y (get_or p y 0) lx (small x (omega arith)) (small y ly) (own x (omega arith)) (own y ly)
      (λ v. single_only l y (get_or p y 0) v (at.played y (omega arith))) (turn_quiet S p₀ t c p l R tu one z x y (omega arith) ly (λ _ _. omega arith))
    where
      at : AtTurn P p l
      at = turn-list P S p₀ t c p l R tu

      own : (j : ℕ) → j < n → T (domains l j (get_or p j 0))
      own j h = subst (λ (m : ℕ). T (bit m (get_or p j 0))) (sym (at.played j (omega arith))) (true_holds (bit_single (get_or p j 0) (get_or p j 0) ∙ eq-eqb (get_or p j 0) (get_or p j 0) refl))

      small : (j : ℕ) → j < n → get_or p j 0 < 16
      small j h = (domains_boxed n l (lent_out P l at.may).masks j (get_or p j 0) (own j h)).1
