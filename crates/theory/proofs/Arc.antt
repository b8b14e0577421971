-- Rules 1 to 3 on domains (arc, forward check, look ahead): each loss is a loss, each removal keeps the verdict.
-- `Toward` holds what removals keep in any order; two ends of removals with no dead value are equal.
use mathlib.Core.Path.{◌≡◌, refl, ◌∙◌}
use mathlib.Core.Bool.{Bool, true, false, cond, not, ◌&&◌}
use Prim.Native.Nat.{ℕ, ◌≤◌, ◌<◌}
use native.Mathlib.Omega.{arith}
use lib.Dec.{T, T_not, not_T, eqb, eqb→eq, eqb_refl, ltb, ltb→lt}
use borrow.Author.Tests.{eq-eqb, ltb-true}
use Rattle.game.specs.Forward.{forward_domains, forward_loss}
use Rattle.game.specs.Arc.{dead, barred, arc_loss}
use Rattle.game.specs.Support.{clashes, alone, empty}
use Rattle.mask.proofs.Logic.{same, holds, fails, clash, test, by_eq, and_in, and_out}
use Rattle.mask.proofs.Range.{some_out, some_in}
use Rattle.mask.specs.Range.{some}
use Rattle.game.specs.Game.{put, satisfied, replace, narrow, Domains, Play}
use Rattle.game.specs.Problem.{Problem}
use Rattle.theory.proofs.Laws.{at, Answers, answers_put, outcome, dies_alone, dies_facing, pruning}
use Rattle.theory.proofs.Moves.{put_at, put_off, replace_at, replace_off}
use Rattle.theory.proofs.Swap.{start, Live}
use Rattle.theory.proofs.Transfer
use Rattle.theory.proofs.Transfer.{In, Inside, inside_none}

module _ (P : Problem) where
  open P use {n, universal, compatible, symmetric, constrained, apart}

  module _ (D : Domains) (v : Play) (f : Answers P D v) where
    -- What the tests say.
    pub clashes_out : (x a y : ℕ) → T (clashes P D x a y) → (b : ℕ) × In (D y) b × (T (compatible x a y b) → ⊥)
    unfolding clashes
    clashes_out x a y t = let r = some_out 16 (D y) (λ b. not (compatible x a y b)) t in (r.0, (r.1, r.2), T_not (compatible x a y r.0) r.3)

    pub alone_out : (x a y : ℕ) → T (alone P D x a y) → (b : ℕ) → In (D y) b → T (compatible x a y b) → ⊥
    unfolding alone
    alone_out x a y t b m g = T_not (some 16 (D y) (λ b. compatible x a y b)) t (some_in 16 (D y) (λ b. compatible x a y b) b m.0 m.1 g)

    -- A dead value is in no won position.
    pub dead_dies : (x a : ℕ) → x < n → T (dead P D x a) → Live P D x a → ⊥
    unfolding dead
    dead_dies x a lx t w =
        let r = some_out n (constrained x) (λ y. cond (universal y && ltb x y) (clashes P D x a y) (alone P D x a y)) t in
        go r.0 r.1 r.2 (universal r.0) refl (ltb x r.0) refl r.3
      where
        lone : (y : ℕ) → y < n → T (constrained x y) → T (alone P D x a y) → ⊥
        lone y ly e t = dies_alone P D v f x a y lx ly (apart x y e) (alone_out x a y t) w

        go : (y : ℕ) → y < n → T (constrained x y) → (s : Bool) → universal y ≡ s → (l : Bool) → ltb x y ≡ l → T (cond (s && l) (clashes P D x a y) (alone P D x a y)) → ⊥
        go y ly e true s true l t = let c = clashes_out x a y t in dies_facing P D v f x a y c.0 (ltb-true x y l) ly s c.1 c.2 w
        go y ly e true s false l t = lone y ly e t
        go y ly e false s l k t = lone y ly e t

    -- Rule 1: any dead values taken out.
    pub arc-step : (D' : Domains) → ((j a : ℕ) → T (D' j a) → T (D j a)) → ((j a : ℕ) → universal j ≡ true → T (D j a) → T (D' j a))
        → ((j : ℕ) → j < n → universal j ≡ false → (a : ℕ) → In (D j) a → D' j a ≡ false → T (dead P D j a))
        → (i : ℕ) (p : Play) → i ≤ n → Inside D i p → at P D i p ≡ at P D' i p
    arc-step D' sub keep cut = pruning P D D' sub keep (λ j l s a m e w. dead_dies j a l (cut j l s a m e) w)

    -- An empty domain, a barred value: no win.
    empty_loses : (x : ℕ) → x < n → T (empty P D x) → T (start P D) → ⊥
    unfolding empty
    empty_loses x l t w =
        let r = outcome P D v f w in
        T_not (some 16 (D x) (λ a. true)) t (some_in 16 (D x) (λ a. true) (r.0 x) (r.1 x l).0 (r.1 x l).1 tt)

    barred_loses : (x a y : ℕ) → x < n → y < n → ¬ (x ≡ y) → universal x ≡ true → In (D x) a → T (barred P D x a y) → T (start P D) → ⊥
    unfolding barred
    barred_loses x a y lx ly ne sx m t w = go (universal y) refl t
      where
        go : (s : Bool) → universal y ≡ s → T (cond s (clashes P D x a y) (ltb x y && alone P D x a y)) → ⊥
        go true s t =
            let c = clashes_out x a y t in
            let r = outcome P D (put (put v x a) y c.0) (answers_put P D (put v x a) y c.0 (answers_put P D v x a f m) c.1) w in
            c.2 (rw (r.2 x lx sx, r.2 y ly s, put_at (put v x a) y c.0, put_off (put v x a) y c.0 x ne, put_at v x a) at (r.3 x y lx ly ne))
        go false s t =
            let r = outcome P D (put v x a) (answers_put P D v x a f m) w in
            alone_out x a y (and_out (ltb x y) (alone P D x a y) t).1 (r.0 y) (r.1 y ly) (rw (r.2 x lx sx, put_at v x a) at (r.3 x y lx ly ne))

    -- Rule 1: a loss is a loss.
    arc_loses : T (arc_loss P D) → start P D ≡ false
    unfolding arc_loss
    arc_loses t = fails λ w.
        let r = some_out n (λ x. true) (λ x. cond (universal x) (some 16 (D x) (λ a. some n (constrained x) (barred P D x a))) (empty P D x)) t in
        go r.0 r.1 (universal r.0) refl r.3 w
      where
        go : (x : ℕ) → x < n → (s : Bool) → universal x ≡ s → T (cond s (some 16 (D x) (λ a. some n (constrained x) (barred P D x a))) (empty P D x)) → T (start P D) → ⊥
        go x l true s t w =
            let r = some_out 16 (D x) (λ a. some n (constrained x) (barred P D x a)) t in
            let q = some_out n (constrained x) (barred P D x r.0) r.3 in
            barred_loses x r.0 q.0 l q.1 (apart x q.0 q.2) s (r.1, r.2) q.3 w
        go x l false s t w = empty_loses x l t w

    -- Rule 2 ------------------------------------------------------------------------------------------------------------
    module _ (x a : ℕ) (lx : x < n) (la : a < 16) where
      -- The domains with variable x narrowed to a, which the check may prune.
      abbrev one : Domains
      one = narrow D x a

      one_answers : Answers P one (put v x a)
      one_answers j l s =
          by_eq j x (λ e. rw (e, replace_at D x (λ b. eqb b a), put_at v x a) (la, eqb_refl a))
          (λ e. rw (replace_off D x (λ b. eqb b a) j e, put_off v x a j e) (f j l s))

      one_in_lem : (b : ℕ) → In (one x) b → b ≡ a
      one_in_lem b m = let k : In (λ c. eqb c a) b = rw (replace_at D x (λ c. eqb c a)) at m in eqb→eq b a k.1

      -- The check takes values out, and keeps those that are compatible.
      pub forward_sub : (j b : ℕ) → T (forward_domains P D x a j b) → T (one j b)
      unfolding forward_domains replace
      forward_sub j b t = go (eqb j x) (eqb b a) (ltb x j && not (universal j)) (compatible x a j b) (D j b) t
        where
          go : (e p c g d : Bool) → T (cond e p (cond c (g && d) d)) → T (cond e p d)
          go true p c g d t = t
          go false p true g d t = (and_out g d t).1
          go false p false g d t = t

      pub forward-keep : (j b : ℕ) → (universal j ≡ false → ¬ (j ≡ x) → x < j → T (compatible x a j b)) → T (one j b) → T (forward_domains P D x a j b)
      unfolding forward_domains replace
      forward-keep j b h t = go (eqb j x) refl (eqb b a) (ltb x j) refl (universal j) refl (compatible x a j b) (D j b) h t
        where
          go : (e : Bool) → eqb j x ≡ e → (p l : Bool) → ltb x j ≡ l → (s : Bool) → universal j ≡ s → (g d : Bool)
              → (universal j ≡ false → ¬ (j ≡ x) → x < j → T g) → T (cond e p d) → T (cond e p (cond (l && not s) (g && d) d))
          go true e p l q s r g d h t = t
          go false e p true q true r g d h t = t
          go false e p true q false r g d h t = and_in g d (h r (λ z. clash e (rw (eq-eqb j x z) tt)) (ltb-true x j q)) t
          go false e p false q s r g d h t = t

      -- It keeps the verdict of every position.
      pub forward_same_at : (i : ℕ) (p : Play) → i ≤ n → Inside one i p → at P one i p ≡ at P (forward_domains P D x a) i p
      forward_same_at =
          pruning P one (forward_domains P D x a) forward_sub (λ j b s t. forward-keep j b (λ z. absurd (clash z (rw s tt))) t)
          λ j l s b m e w. by_eq j x (λ z. clash e (forward-keep j b (λ _ ne. absurd (ne z)) m.1)) λ ne.
          dies_alone P one (put v x a) one_answers j b x l lx ne
          (λ c k g. clash e (forward-keep j b (λ _ _ _. rw (symmetric x a j b, ← (one_in_lem c k)) g) m.1)) w

      pub forward_same : start P one ≡ start P (forward_domains P D x a)
      forward_same = forward_same_at 0 (λ j. 0) (omega arith) (inside_none one (λ j. 0))

      pub forward_answers : Answers P (forward_domains P D x a) (put v x a)
      forward_answers j l s =
          let m = one_answers j l s in (m.0, forward-keep j (put v x a j) (λ z. absurd (clash z (rw s tt))) m.1)

      -- A clash with a later universal value loses.
      facing_loses : (y : ℕ) → x < y → y < n → universal y ≡ true → T (clashes P D x a y) → T (start P one) → ⊥
      facing_loses y l ly s t w =
          let c = clashes_out x a y t in
          let k : In (one y) c.0 = rw (replace_off D x (λ b. eqb b a) y (omega arith)) c.1 in
          let r = outcome P one (put (put v x a) y c.0) (answers_put P one (put v x a) y c.0 one_answers k) w in
          c.2 (rw (one_in_lem (r.0 x) (r.1 x lx), r.2 y ly s, put_at (put v x a) y c.0) at (r.3 x y lx ly (omega arith)))

  -- Rule 2, whole: won before exactly if no loss and won after.
  module _ (D : Domains) (v : Play) (f : Answers P D v) (x a : ℕ) (lx : x < n) (la : a < 16) where
    -- A loss of the check is a loss.
    forward_loses : T (forward_loss P D x a) → T (start P (narrow D x a)) → ⊥
    unfolding forward_loss
    forward_loses t w =
        let r = some_out n (ltb x) (λ j. cond (universal j) (clashes P D x a j) (empty P (forward_domains P D x a) j)) t in
        go r.0 r.1 (ltb→lt x r.0 r.2) (universal r.0) refl r.3
      where
        go : (j : ℕ) → j < n → x < j → (s : Bool) → universal j ≡ s → T (cond s (clashes P D x a j) (empty P (forward_domains P D x a) j)) → ⊥
        go j l h true s t = facing_loses D v f x a lx la j h l s t w
        go j l h false s t =
            empty_loses (forward_domains P D x a) (put v x a) (forward_answers D v f x a lx la) j l t (rw (forward_same D v f x a lx la) at w)

    pub forward_law : start P (narrow D x a) ≡ (not (forward_loss P D x a) && start P (forward_domains P D x a))
    forward_law = test (forward_loss P D x a) (λ t. rw (holds {b = forward_loss P D x a} t) (fails (forward_loses t))) (λ e. rw e (forward_same D v f x a lx la))

    -- Rule 3: a value of a universal variable whose forward check fails.
    pub ahead_law : universal x ≡ true → T (D x a) → T (forward_loss P D x a) → start P D ≡ false
    ahead_law s m t = fails λ w. forward_loses t
        (Transfer.monotone n universal (satisfied compatible n) D (narrow D x a) 0
        (λ j g l q b k. by_eq j x (λ e. rw (e, one_in_lem D v f x a lx la b (rw e at k)) m) (λ e. rw (replace_off D x (λ b. eqb b a) j e) at k.1))
        (λ j g l q b k. by_eq j x (λ e. absurd (clash q (rw (e, s) tt))) (λ e. rw (replace_off D x (λ b. eqb b a) j e) k.1))
        (λ j. 0) (omega arith) w)

  -- Rule 1, whole -------------------------------------------------------------------------------------------------------
  -- A part of D, with the same universal domains.
  pub record Part (D E : Domains) : Type 0 where
    pub sub : (j a : ℕ) → T (E j a) → T (D j a)
    pub keep : (j a : ℕ) → universal j ≡ true → T (D j a) → T (E j a)

  -- No value of an existential variable is dead.
  abbrev pub Closed : Domains → Type 0
  Closed D = (j : ℕ) → j < n → universal j ≡ false → (a : ℕ) → In (D j) a → dead P D j a ≡ false

  -- What removals of dead values keep: the verdict, and every closed part.
  pub record Toward (D E : Domains) : Type 0 where
    pub part : Part D E
    pub verdict : (i : ℕ) (p : Play) → i ≤ n → Inside E i p → at P D i p ≡ at P E i p
    pub most : (C : Domains) → Part D C → Closed C → (j : ℕ) → j < n → (a : ℕ) → In (C j) a → T (E j a)

  -- A smaller part with the same universal domains has more dead values.
  pub dead_down : (E C : Domains) → ((j : ℕ) → j < n → (a : ℕ) → In (C j) a → T (E j a)) → ((j a : ℕ) → universal j ≡ true → T (E j a) → T (C j a))
      → (x a : ℕ) → T (dead P E x a) → T (dead P C x a)
  unfolding dead clashes alone
  dead_down E C le up x a t =
      let r = some_out n (constrained x) (λ y. cond (universal y && ltb x y) (clashes P E x a y) (alone P E x a y)) t in
      some_in n (constrained x) (λ y. cond (universal y && ltb x y) (clashes P C x a y) (alone P C x a y)) r.0 r.1 r.2 (go r.0 r.1 (universal r.0) refl (ltb x r.0) r.3)
    where
      lone : (y : ℕ) → y < n → T (alone P E x a y) → T (alone P C x a y)
      lone y l t = not_T (some 16 (C y) (λ b. compatible x a y b)) λ s.
          let r = some_out 16 (C y) (λ b. compatible x a y b) s in
          T_not (some 16 (E y) (λ b. compatible x a y b)) t (some_in 16 (E y) (λ b. compatible x a y b) r.0 r.1 (le y l r.0 (r.1, r.2)) r.3)

      go : (y : ℕ) → y < n → (s : Bool) → universal y ≡ s → (l : Bool) → T (cond (s && l) (clashes P E x a y) (alone P E x a y)) → T (cond (s && l) (clashes P C x a y) (alone P C x a y))
      go y ly true s true t =
          let r = some_out 16 (E y) (λ b. not (compatible x a y b)) t in some_in 16 (C y) (λ b. not (compatible x a y b)) r.0 r.1 (up y r.0 s r.2) r.3
      go y ly true s false t = lone y ly t
      go y ly false s l t = lone y ly t

  -- No removal at all.
  pub toward_refl : (D : Domains) → Toward D D
  toward_refl D = record { part = record { sub = λ j a t. t; keep = λ j a s t. t }; verdict = λ i p l h. refl; most = λ C p c j l a m. p.sub j a m.1 }

  -- One removal more, of any number of dead values.
  pub toward_step : (D E E' : Domains) (v : Play) → Answers P D v → Toward D E → Part E E'
      → ((j : ℕ) → j < n → universal j ≡ false → (a : ℕ) → In (E j) a → E' j a ≡ false → T (dead P E j a)) → Toward D E'
  toward_step D E E' v f w p cut = record {
    part = record { sub = λ j a t. w.part.sub j a (p.sub j a t); keep = λ j a s t. p.keep j a s (w.part.keep j a s t) };
    verdict = λ i q l h. let k : Inside E i q = λ j g. ((h j g).0, p.sub j (q j) (h j g).1) in
        w.verdict i q l k ∙ arc-step E v (λ j l s. ((f j l s).0, w.part.keep j (v j) s (f j l s).1)) E' p.sub p.keep cut i q l k;
    most = λ C q c j l a m. test (E' j a) (λ t. t) (λ e. absurd (gone C q c j l a m e (universal j) refl));
  }
    where
      gone : (C : Domains) → Part D C → Closed C → (j : ℕ) → j < n → (a : ℕ) → In (C j) a → E' j a ≡ false → (s : Bool) → universal j ≡ s → ⊥
      gone C q c j l a m e true s = clash e (p.keep j a s (w.part.keep j a s (q.sub j a m.1)))
      gone C q c j l a m e false s =
          clash (c j l s a m) (dead_down E C (w.most C q c) (λ y b r t. q.keep y b r (w.part.sub y b t)) j a
          (cut j l s a (m.0, w.most C q c j l a m) e))

  -- The result does not depend on the order: two closed ends of removals are the same.
  pub arc_unique : (D E E' : Domains) → Toward D E → Closed E → Toward D E' → Closed E' → (j : ℕ) → j < n → (a : ℕ) → a < 16 → E j a ≡ E' j a
  arc_unique D E E' w c w' c' j l a h =
      same (E j a) (E' j a) (λ t. w'.most E w.part c j l a (h, t)) (λ t. w.most E' w'.part c' j l a (h, t))

  -- Won before exactly if no loss and won after.
  pub arc_law : (D E : Domains) (v : Play) → Answers P D v → Toward D E → start P D ≡ (not (arc_loss P E) && start P E)
  arc_law D E v f w =
      w.verdict 0 (λ j. 0) (omega arith) (inside_none E (λ j. 0)) ∙ test (arc_loss P E)
      (λ t. rw (holds {b = arc_loss P E} t, arc_loses E v (λ j l s. ((f j l s).0, w.part.keep j (v j) s (f j l s).1)) t)) (λ e. rw e)
