-- The verdict of a problem's formula is that of the published game. Two directions, each by induction over the variables left: a winning play
-- is followed by an assignment that chooses just its values; a winning assignment, which may choose several values of an existential variable,
-- is followed by a play of values that it chooses.
use mathlib.Core.Path.{◌≡◌, refl, sym, ◌∙◌}
use mathlib.Core.Bool.{Bool, true, false, not, ◌&&◌}
use mathlib.Core.List.{List, [], ◌∷◌, ◌++◌}
use Prim.Native.Nat.{ℕ, zero, suc, ◌+◌, ◌-◌, ◌≤◌, ◌<◌}
use native.Mathlib.Omega.{arith}
use lib.Dec.{T, eqb, ltb, lt→ltb, not_T, T_not}
use Rattle.mask.specs.Mask.{bit, mask_of}
use Rattle.mask.proofs.Logic.{same, holds, test, by_eq, and_in, and_out, or_right}
use Rattle.mask.proofs.Logic.{clash as contradiction}
use Rattle.game.specs.Problem.{Problem}
use Rattle.game.specs.Game.{Play, put, turn, won, wins, satisfied}
use Rattle.game.specs.Lists.{domains, wins_over}
use Rattle.game.specs.Position.{position, narrowed}
use Rattle.game.specs.Winning.{verdict}
use Rattle.theory.proofs.Moves.{turn_out, turn_in, put_at, put_off, satisfied_out, satisfied_in}
use Rattle.buffer.specs.Stored.{joined}
use Rattle.formula.specs.Formula.{Literal, Assignment, assign, only_if, literal_holds, clause_holds, all_hold, judged, judge_formula}
use Rattle.formula.specs.Encoding.{run, size, place, width, base, boolean_of, ways, stands, denial, at_least_one, existential_clauses, clash, clash_clauses, constraint_clauses, pair_clauses, closes, fresh, closing_clauses, prefix_from, formula_of}
use Rattle.formula_theory.proofs.Forms.{all_forms}
use Rattle.formula_theory.proofs.Clauses
use Rattle.formula_theory.proofs.Blocks
use Rattle.formula_theory.proofs.Blocks.{spread}
use Rattle.formula_theory.proofs.Widths.{width_existential, base_up, base_suc}
use Rattle.formula_theory.proofs.Chosen.{place-size, Exact, Among, way_value, stands_value, stands_same, exact_same, among_same, exact_universal, exact_existential, among-universal, among_existential}

positive_holds : (s : Assignment) (v : ℕ) → s v ≡ true → T (literal_holds s (record { positive = true; boolean = v }))
unfolding literal_holds
positive_holds s v e = rw e tt

positive_value : (s : Assignment) (v : ℕ) → T (literal_holds s (record { positive = true; boolean = v })) → s v ≡ true
unfolding literal_holds
positive_value s v t = holds t

module _ (P : Problem) where
  open P use {n, domain, universal, compatible, constrained, free}

  clauses : List (List Literal)
  clauses = (formula_of P).clauses

  -- What all clauses say.
  pub record Say (s : Assignment) : Type 0 where
    pub some : (i : ℕ) → i < n → universal i ≡ false → T (clause_holds s (at_least_one P i))
    pub apart : (i j : ℕ) → i < j → j < n → T (constrained i j) → (a b : ℕ) → a < 16 → b < 16 → T (clash P i a j b)
        → (c e : ℕ) → c < ways P i → T (stands P i c a) → e < ways P j → T (stands P j e b) → T (clause_holds s (denial P i c ++ denial P j e))
    pub closed : T (closes P) → s (fresh P) ≡ true

  say_out : (s : Assignment) → T (all_hold s clauses) → Say s
  unfolding clauses formula_of existential_clauses pair_clauses constraint_clauses clash_clauses closing_clauses
  say_out s t =
      let r = Clauses.all_parts s (existential_clauses P ++ pair_clauses P) (closing_clauses P) t in
      let q = Clauses.all_parts s (existential_clauses P) (pair_clauses P) r.0 in
      record {
        some = λ i h e. Clauses.all_one s (at_least_one P i) (Clauses.all_if s (not (universal i)) (at_least_one P i ∷ [])
            (Clauses.all_joined s (λ i. only_if (not (universal i)) (at_least_one P i ∷ [])) n q.0 i h) (rw e tt));
        apart = λ i j l h k a b la lb x c e lc sc le se.
            let t1 = Clauses.all_joined s (λ i. joined (λ j. only_if (ltb i j && constrained i j) (constraint_clauses P i j)) n) n q.1 i (omega arith) in
            let t2 = Clauses.all_joined s (λ j. only_if (ltb i j && constrained i j) (constraint_clauses P i j)) n t1 j h in
            let t3 = Clauses.all_if s (ltb i j && constrained i j) (constraint_clauses P i j) t2 (and_in (ltb i j) (constrained i j) (lt→ltb i j l) k) in
            let t4 = Clauses.all_joined s (λ a. joined (λ b. only_if (clash P i a j b) (clash_clauses P i a j b)) 16) 16 t3 a la in
            let t5 = Clauses.all_joined s (λ b. only_if (clash P i a j b) (clash_clauses P i a j b)) 16 t4 b lb in
            let t6 = Clauses.all_if s (clash P i a j b) (clash_clauses P i a j b) t5 x in
            let t7 = Clauses.all_joined s (λ c. only_if (stands P i c a) (joined (λ e. only_if (stands P j e b) ((denial P i c ++ denial P j e) ∷ [])) (ways P j))) (ways P i) t6 c lc in
            let t8 = Clauses.all_if s (stands P i c a) (joined (λ e. only_if (stands P j e b) ((denial P i c ++ denial P j e) ∷ [])) (ways P j)) t7 sc in
            let t9 = Clauses.all_joined s (λ e. only_if (stands P j e b) ((denial P i c ++ denial P j e) ∷ [])) (ways P j) t8 e le in
            Clauses.all_one s (denial P i c ++ denial P j e) (Clauses.all_if s (stands P j e b) ((denial P i c ++ denial P j e) ∷ []) t9 se);
        closed = λ c. positive_value s (fresh P) (Clauses.one_literal s (record { positive = true; boolean = fresh P })
            (Clauses.all_one s (record { positive = true; boolean = fresh P } ∷ []) (Clauses.all_if s (closes P) ((record { positive = true; boolean = fresh P } ∷ []) ∷ []) r.1 c)));
      }

  say_in : (s : Assignment) → Say s → T (all_hold s clauses)
  unfolding clauses
  say_in s y =
      Clauses.have_all s (formula_of P).clauses (all_forms (λ c. T (clause_holds s c)) P record {
        some = y.some;
        apart = y.apart;
        closing = λ c. Clauses.literal_one s (record { positive = true; boolean = fresh P }) (positive_holds s (fresh P) (y.closed c));
      })

  -- A clash and its parts.
  clash-bad : (i a j b : ℕ) → T (clash P i a j b) → T (compatible i a j b) → ⊥
  unfolding clash
  clash-bad i a j b t = T_not (compatible i a j b) (and_out (domains domain i a && domains domain j b) (not (compatible i a j b)) t).1

  clash_in : (i a j b : ℕ) → T (domains domain i a) → T (domains domain j b) → (T (compatible i a j b) → ⊥) → T (clash P i a j b)
  unfolding clash
  clash_in i a j b t u f =
      and_in (domains domain i a && domains domain j b) (not (compatible i a j b)) (and_in (domains domain i a) (domains domain j b) t u) (not_T (compatible i a j b) f)

  -- At the end: a play that satisfies the constraints, and an assignment that chooses just its values.
  leaf_to : (p : Play) (s : Assignment) → ((i : ℕ) → i < n → Exact P i (p i) s) → (T (closes P) → s (fresh P) ≡ true) → T (satisfied compatible n p) → T (all_hold s clauses)
  unfolding at_least_one
  leaf_to p s x f t =
      say_in s record {
        some = λ i h e. Clauses.joined-clause s (λ t. record { positive = true; boolean = boolean_of P i t }) (size P i) (place P i (p i)) (placed i h)
            (positive_holds s (boolean_of P i (place P i (p i))) ((x i h).some e));
        apart = λ i j l h k a b la lb y c e lc sc le se. test (clause_holds s (denial P i c)) (λ u. Clauses.clause-left s (denial P i c) (denial P j e) u)
            λ u. test (clause_holds s (denial P j e)) (λ w. Clauses.clause_right s (denial P i c) (denial P j e) w)
            λ w. absurd (broken i j l h a b c e lc sc le se y u w);
        closed = f;
      }
    where
      placed : (i : ℕ) → i < n → place P i (p i) < size P i
      placed i h = place-size P i (p i) (x i h).value.0 (x i h).value.1

      broken : (i j : ℕ) → i < j → j < n → (a b c e : ℕ) → c < ways P i → T (stands P i c a) → e < ways P j → T (stands P j e b) → T (clash P i a j b)
          → clause_holds s (denial P i c) ≡ false → clause_holds s (denial P j e) ≡ false → ⊥
      broken i j l h a b c e lc sc le se y u w =
          let ea : a ≡ p i = stands_same P i c a (p i) sc ((x i (omega arith)).alone c lc (contradiction u)) in
          let eb : b ≡ p j = stands_same P j e b (p j) se ((x j h).alone e le (contradiction w)) in
          clash-bad i a j b y (rw (ea, eb) (satisfied_out compatible n p t j i h l))

  -- And back: an assignment under which all clauses hold, and a play of values that it chooses.
  leaf-from : (p : Play) (s : Assignment) → ((i : ℕ) → i < n → Among P i (p i) s) → ((i : ℕ) → i < n → p i < 16) → T (all_hold s clauses) → T (satisfied compatible n p)
  leaf-from p s x v t = satisfied_in compatible n p λ i j h l. go i j h l (say_out s t)
    where
      go : (i j : ℕ) → i < n → j < i → Say s → T (compatible j (p j) i (p i))
      go i j h l y = test (constrained j i) (λ k. test (compatible j (p j) i (p i)) (λ u. u) λ u.
          let xi = x i h in let xj = x j (omega arith) in
          absurd (Clauses.clause-parts s (denial P j xj.way) (denial P i xi.way)
          (y.apart j i l h k (p j) (p i) (v j (omega arith)) (v i h)
          (clash_in j (p j) i (p i) (stands_value P j xj.way (p j) xj.for) (stands_value P i xi.way (p i) xi.for) (contradiction u))
          xj.way xi.way xj.below xj.for xi.below xi.for) xj.chosen xi.chosen))
          (λ u. free j i u (p j) (p i))

  -- ---- from a play to an assignment

  Q : Play → Bool
  Q = satisfied compatible n

  -- The booleans of variable j lie before those of i, where j < i.
  before : (i j w : ℕ) → j < i → w < suc (base P (suc j)) → w < suc (base P i)
  before i j w l h = let e : (i - suc j) + suc j ≡ i = omega arith in let u : base P (suc j) ≤ base P i = rw e at (base_up P (i - suc j) (suc j)) in omega arith

  exact_next : (i : ℕ) (p : Play) (s : Assignment) (x : ℕ → Bool) (a : ℕ) → ((j : ℕ) → j < i → Exact P j (p j) s) → Exact P i a (spread s (suc (base P i)) (width P i) x)
      → (j : ℕ) → j < suc i → Exact P j (put p i a j) (spread s (suc (base P i)) (width P i) x)
  exact_next i p s x a f g j h =
      by_eq j i (λ e. rw (e, put_at p i a) g)
      λ e. rw (put_off p i a j e) (exact_same P s (spread s (suc (base P i)) (width P i) x) j (p j) (λ w l. sym (Blocks.spread-below s (suc (base P i)) (width P i) x w (before i j w (omega arith) l))) (f j (omega arith)))

  among_next : (i : ℕ) (p : Play) (s : Assignment) (x : ℕ → Bool) (a : ℕ) → ((j : ℕ) → j < i → Among P j (p j) s) → Among P i a (spread s (suc (base P i)) (width P i) x)
      → (j : ℕ) → j < suc i → Among P j (put p i a j) (spread s (suc (base P i)) (width P i) x)
  among_next i p s x a f g j h =
      by_eq j i (λ e. rw (e, put_at p i a) g)
      λ e. rw (put_off p i a j e) (among_same P s (spread s (suc (base P i)) (width P i) x) j (p j) (λ w l. sym (Blocks.spread-below s (suc (base P i)) (width P i) x w (before i j w (omega arith) l))) (f j (omega arith)))

  -- The booleans of the variables from i on, and the closing one, come behind those before i.
  prefix_from_lem : (k i v : ℕ) → k + i ≡ n → v ≤ suc (base P i) → T (Blocks.from v (prefix_from P k i))
  unfolding prefix_from base fresh
  prefix_from_lem zero i v e h = Blocks.from_closing (closes P) v (fresh P) (let e' : i ≡ n = omega arith in rw e' at h)
  prefix_from_lem (suc k) i v e h =
      Blocks.from-run (universal i) v (suc (base P i)) (width P i) (prefix_from P k (suc i)) h (prefix_from_lem k (suc i) v (omega arith) (omega arith))

  -- The closing boolean, where there is one, is given the value true.
  close_to : (p : Play) (s : Assignment) (b : Bool) → closes P ≡ b → ((i : ℕ) → i < n → Exact P i (p i) s) → T (Q p) → T (judged clauses (only_if b (record { universal = false; boolean = fresh P } ∷ [])) s)
  unfolding only_if judged Q fresh
  close_to p s true e x t =
      or_right (all_hold (assign s (suc (base P n)) false) clauses) (all_hold (assign s (suc (base P n)) true) clauses)
      (leaf_to p (assign s (suc (base P n)) true) (λ i h. exact_same P s (assign s (suc (base P n)) true) i (p i) (λ w l. sym (Blocks.assign_off s (suc (base P n)) true w (off i w h l))) (x i h))
      (λ _. Blocks.assign_at s (suc (base P n)) true) t)
    where
      off : (i w : ℕ) → i < n → w < suc (base P (suc i)) → ¬ (w ≡ suc (base P n))
      off i w h l g = let z = before n i w h l in omega arith
  close_to p s false e x t = leaf_to p s x (λ c. absurd (contradiction e c)) t

  to_formula : (k i : ℕ) (p : Play) (s : Assignment) → k + i ≡ n → ((j : ℕ) → j < i → Exact P j (p j) s)
      → T (won universal Q (domains domain) k i p) → T (judged clauses (prefix_from P k i) s)
  unfolding won prefix_from
  to_formula zero i p s e x t =
      let e' : i ≡ n = omega arith in
      close_to p s (closes P) refl (λ j h. x j (rw e' h)) t
  to_formula (suc k) i p s e x t = go (universal i) refl t (λ q s'. to_formula k (suc i) q s' (omega arith))
    where
      h : i < n
      h = omega arith

      go : (b : Bool) → universal i ≡ b → T (turn b (domains domain i) (λ a. won universal Q (domains domain) k (suc i) (put p i a)))
          → ((q : Play) (s' : Assignment) → ((j : ℕ) → j < suc i → Exact P j (q j) s') → T (won universal Q (domains domain) k (suc i) q) → T (judged clauses (prefix_from P k (suc i)) s'))
          → T (judged clauses (run b (suc (base P i)) (width P i) ++ prefix_from P k (suc i)) s)
      go true u t f =
          let w = turn_out true (domains domain i) (λ a. won universal Q (domains domain) k (suc i) (put p i a)) t in
          Blocks.every_in clauses (width P i) (prefix_from P k (suc i)) (suc (base P i)) s
          λ y. let r = way_value P i (mask_of (width P i) y) h in
          f (put p i r.0) (spread s (suc (base P i)) (width P i) y)
          (exact_next i p s y r.0 x (exact_universal P s i h y u r.0 r.1 r.2 r.3)) (w r.0 r.1 r.2)
      go false u t f =
          let w = turn_out false (domains domain i) (λ a. won universal Q (domains domain) k (suc i) (put p i a)) t in
          let y : ℕ → Bool = λ t. eqb t (place P i w.0) in
          Blocks.some_in clauses (width P i) (prefix_from P k (suc i)) (suc (base P i)) s y
          (f (put p i w.0) (spread s (suc (base P i)) (width P i) y)
          (exact_next i p s y w.0 x (exact_existential P s i h y u w.0 w.1 w.2 (λ t. refl))) w.3)

  -- ---- from an assignment to a play

  close_from : (p : Play) (s : Assignment) (b : Bool) → ((i : ℕ) → i < n → Among P i (p i) s) → ((i : ℕ) → i < n → p i < 16) → T (judged clauses (only_if b (record { universal = false; boolean = fresh P } ∷ [])) s) → T (Q p)
  unfolding Q fresh
  close_from p s b x v t =
      let r = Blocks.leaf clauses (only_if b (record { universal = false; boolean = fresh P } ∷ [])) (suc (base P n)) s (Blocks.from_closing b (suc (base P n)) (fresh P) (omega arith)) t in
      leaf-from p r.0 (λ i h. among_same P s r.0 i (p i) (λ w l. sym (r.1 w (before n i w h l))) (x i h)) v r.2

  -- Some value of an existential variable has its boolean true.
  one_true : (k i : ℕ) (s : Assignment) (y : ℕ → Bool) → k + suc i ≡ n → i < n → universal i ≡ false
      → T (judged clauses (prefix_from P k (suc i)) (spread s (suc (base P i)) (width P i) y)) → (t : ℕ) × (t < width P i) × (y t ≡ true)
  unfolding at_least_one boolean_of
  one_true k i s y m h u t =
      let r = Blocks.leaf clauses (prefix_from P k (suc i)) (suc (base P (suc i))) (spread s (suc (base P i)) (width P i) y) (prefix_from_lem k (suc i) (suc (base P (suc i))) m (omega arith)) t in
      let q = Clauses.clause-joined r.0 (λ t. record { positive = true; boolean = boolean_of P i t }) (size P i) ((say_out r.0 r.2).some i h u) in
      let w = width_existential P i u in
      let l : q.0 < width P i = omega (arith, q.1) in
      let e : suc (base P i + q.0) ≡ suc (base P i) + q.0 = omega arith in
      let z : r.0 (suc (base P i) + q.0) ≡ true = rw e at (positive_value r.0 (suc (base P i + q.0)) q.2) in
      (q.0, l, sym (Blocks.spread_at s (suc (base P i)) (width P i) y q.0 l) ∙ sym (r.1 (suc (base P i) + q.0) (omega (arith, base_suc P i))) ∙ z)

  from_formula : (k i : ℕ) (p : Play) (s : Assignment) → k + i ≡ n → ((j : ℕ) → j < i → Among P j (p j) s) → ((j : ℕ) → j < i → p j < 16)
      → T (judged clauses (prefix_from P k i) s) → T (won universal Q (domains domain) k i p)
  unfolding won prefix_from
  from_formula zero i p s e x v t =
      let e' : i ≡ n = omega arith in
      close_from p s (closes P) (λ j h. x j (rw e' h)) (λ j h. v j (rw e' h)) t
  from_formula (suc k) i p s e x v t = go (universal i) refl t (λ q s'. from_formula k (suc i) q s' (omega arith))
    where
      h : i < n
      h = omega arith

      below : (a : ℕ) → a < 16 → (j : ℕ) → j < suc i → put p i a j < 16
      below a l j g = by_eq j i (λ e. rw (e, put_at p i a) l) (λ e. rw (put_off p i a j e) (v j (omega arith)))

      go : (b : Bool) → universal i ≡ b → T (judged clauses (run b (suc (base P i)) (width P i) ++ prefix_from P k (suc i)) s)
          → ((q : Play) (s' : Assignment) → ((j : ℕ) → j < suc i → Among P j (q j) s') → ((j : ℕ) → j < suc i → q j < 16) → T (judged clauses (prefix_from P k (suc i)) s') → T (won universal Q (domains domain) k (suc i) q))
          → T (turn b (domains domain i) (λ a. won universal Q (domains domain) k (suc i) (put p i a)))
      go true u t f =
          turn_in true (domains domain i) (λ a. won universal Q (domains domain) k (suc i) (put p i a))
          λ a l d. let y : ℕ → Bool = bit (place P i a) in
          f (put p i a) (spread s (suc (base P i)) (width P i) y) (among_next i p s y a x (among-universal P s i h y u a l d (λ t. refl))) (below a l)
          (Blocks.every_out clauses (width P i) (prefix_from P k (suc i)) (suc (base P i)) s t y)
      go false u t f =
          let r = Blocks.some_out clauses (width P i) (prefix_from P k (suc i)) (suc (base P i)) s t in
          let z = one_true k i s r.0 (omega arith) h u r.1 in
          let d = way_value P i z.0 h in
          turn_in false (domains domain i) (λ a. won universal Q (domains domain) k (suc i) (put p i a)) (
            d.0,
            d.1,
            d.2,
            f (put p i d.0) (spread s (suc (base P i)) (width P i) r.0)
                (among_next i p s r.0 d.0 x (among_existential P s i h r.0 u z.0 z.1 z.2 d.0 d.3)) (below d.0 d.1)
                r.1,
          )

  -- "Its verdict equals that of the published game for every accepted job."
  pub formula_verdict : judge_formula (formula_of P) ≡ verdict P []
  unfolding judge_formula verdict wins_over wins position narrowed base clauses formula_of Q
  formula_verdict =
      same (judge_formula (formula_of P)) (verdict P [])
      (λ t. from_formula n 0 (λ j. 0) (λ v. false) (omega arith) (λ j l. absurd (omega arith)) (λ j l. absurd (omega arith)) t)
      (λ t. to_formula n 0 (λ j. 0) (λ v. false) (omega arith) (λ j l. absurd (omega arith)) t)
