-- "Verdict and marks of the original choices equal those of the game with three-way tables, defined directly": from a position of the problem's own
-- variables the expanded problem is won exactly if the game with three-way constraints is.
use mathlib.Core.Path.{◌≡◌, refl, sym, ap, ◌∙◌, fun_ext}
use mathlib.Core.Bool.{Bool, true, false, cond, not, ◌&&◌, ◌||◌}
use mathlib.Core.List.{List, [], ◌∷◌, ◌++◌}
use Prim.Native.Nat.{ℕ, suc, ◌+◌, ◌-◌, ◌≤◌, ◌<◌}
use native.Mathlib.Omega.{arith}
use native.Mathlib.Nat.{sub-zero}
use lib.Dec.{T, eqb, eqb→eq, eqb_refl, ltb, ltb→lt}
use lib.ListN.{get_or, length}
use borrow.Author.Tests.{lt-ltb, eq-eqb, ne_eqb}
use Rattle.mask.specs.Range.{each}
use Rattle.mask.specs.Mask.{bit}
use Rattle.mask.proofs.Logic.{same, holds, clash, test, by_eq, by_lt, and_in, and_out}
use Rattle.mask.proofs.Range.{each_out, each_in, some_out, some_in}
use Rattle.mask.proofs.Masks.{bit-mask_of, mask_of_same}
use Rattle.game.specs.Game.{Domains, Play, put, satisfied, won, wins}
use Rattle.game.specs.Lists.{domains}
use Rattle.game.specs.Position.{play_of, legal, placed}
use Rattle.game.specs.Winning.{verdict, winning_values}
use Rattle.game.specs.Ternary.{TernaryProblem, permits, meets_all, ternary_verdict, ternary_winning}
use Rattle.theory.proofs.Moves.{Turn, put_at, put_off, satisfied_out, satisfied_in}
use Rattle.theory.proofs.Transfer.{In, Inside, inside_put, from, from_end, next, win, outcome}
use Rattle.theory.proofs.Positions.{placed-above}
use Rattle.theory.proofs.TurnLists.{legal_out, legal_in}
use Rattle.theory.proofs.Standing.{legal_none, legal_snoc, position-placed, verdict-placed}
use Rattle.ternary_theory.specs.Expanded.{hidden, agrees, compatible_with, universal_with, domain_with, expanded, domain_own, domain_hidden}
use Rattle.ternary_theory.proofs.Parts.{own_pair, hidden_pair, both_hidden, own_side, hidden_side, agrees_one, agrees_two, agrees_three}

-- A game from its start is the game from variable 0 on.
from_start : (u : ℕ → Bool) (Q : Play → Bool) (D : Domains) (m : ℕ) → won u Q D m 0 (λ j. 0) ≡ from m u Q D 0 (λ j. 0)
unfolding from
from_start u Q D m = rw sub-zero

module _ (J : TernaryProblem) where
  open J use {binary, ternary, one, two, three, size, first, second, third}
  open binary use {n, domain, universal, compatible}

  -- ---- a constraint holds exactly if some value of its hidden variable goes with the play

  -- What shows that a value of a variable is that of triple q: it is where the variable is one of the three.
  agrees_in : (r x a q : ℕ) → (x ≡ one r → a ≡ first r q) → (x ≡ two r → a ≡ second r q) → (x ≡ three r → a ≡ third r q) → T (agrees J r x a q)
  unfolding agrees
  agrees_in r x a q f g h =
      and_in (not (eqb x (one r)) || eqb a (first r q)) ((not (eqb x (two r)) || eqb a (second r q)) && (not (eqb x (three r)) || eqb a (third r q)))
      (imp x (one r) a (first r q) f)
      (and_in (not (eqb x (two r)) || eqb a (second r q)) (not (eqb x (three r)) || eqb a (third r q))
      (imp x (two r) a (second r q) g) (imp x (three r) a (third r q) h))
    where
      imp : (x y a b : ℕ) → (x ≡ y → a ≡ b) → T (not (eqb x y) || eqb a b)
      imp x y a b f = by_eq x y (λ e. rw (eq-eqb x y e, f e) (eqb_refl b)) (λ d. rw (ne_eqb x y d) tt)

  -- Some triple of constraint r goes with the play p at every variable.
  Met : ℕ → Play → Type 0
  Met r p = (q : ℕ) × (q < size r) × ((x : ℕ) → x < n → T (agrees J r x (p x) q))

  -- Triple q is that of the play p at the three variables of constraint r.
  abbrev is_triple : ℕ → Play → ℕ → Bool
  is_triple r p q = eqb (p (one r)) (first r q) && (eqb (p (two r)) (second r q) && eqb (p (three r)) (third r q))

  abbrev holds_in : Play → ℕ → Bool
  holds_in p r = permits J r (p (one r)) (p (two r)) (p (three r))

  permits_met : (r : ℕ) (p : Play) → T (holds_in p r) → Met r p
  unfolding permits Met
  permits_met r p t =
      let w = some_out (size r) (λ q. true) (is_triple r p) t in
      let q = w.0 in
      let s = and_out (eqb (p (one r)) (first r q)) (eqb (p (two r)) (second r q) && eqb (p (three r)) (third r q)) w.3 in
      let u = and_out (eqb (p (two r)) (second r q)) (eqb (p (three r)) (third r q)) s.1 in
      (q, w.1, λ x k. agrees_in r x (p x) q (λ e. rw e (eqb→eq _ _ s.0)) (λ e. rw e (eqb→eq _ _ u.0)) (λ e. rw e (eqb→eq _ _ u.1)))

  met_permits : (r : ℕ) → r < ternary → (p : Play) → Met r p → T (holds_in p r)
  unfolding permits Met
  met_permits r h p m =
      let q = m.0 in
      let o = J.order r h in
      let a : T (eqb (p (one r)) (first r q)) = rw (agrees_one J r (p (one r)) q h) at (m.2 (one r) (omega (arith, o.0, o.1, o.2))) in
      let b : T (eqb (p (two r)) (second r q)) = rw (agrees_two J r (p (two r)) q h) at (m.2 (two r) (omega (arith, o.1, o.2))) in
      let c : T (eqb (p (three r)) (third r q)) = rw (agrees_three J r (p (three r)) q h) at (m.2 (three r) o.2) in
      some_in (size r) (λ q. true) (is_triple r p) q m.1 tt
      (and_in (eqb (p (one r)) (first r q)) (eqb (p (two r)) (second r q) && eqb (p (three r)) (third r q)) a
      (and_in (eqb (p (two r)) (second r q)) (eqb (p (three r)) (third r q)) b c))

  -- The direct test at the end, as a type: every pair is compatible, every three-way constraint met.
  record All (p : Play) : Type 0 where
    pairs : (i j : ℕ) → i < n → j < i → T (compatible j (p j) i (p i))
    threes : (r : ℕ) → r < ternary → Met r p

  all_out : (p : Play) → T (meets_all J p) → All p
  unfolding meets_all
  all_out p t =
      let s = and_out (satisfied compatible n p) (each ternary (λ r. true) (holds_in p)) t in
      record {
        pairs = satisfied_out compatible n p s.0;
        threes = λ r h. permits_met r p (each_out ternary (λ r. true) (holds_in p) s.1 r h tt);
      }

  all_in : (p : Play) → All p → T (meets_all J p)
  unfolding meets_all
  all_in p w =
      and_in (satisfied compatible n p) (each ternary (λ r. true) (holds_in p)) (satisfied_in compatible n p w.pairs)
      (each_in ternary (λ r. true) (holds_in p) (λ r h _. met_permits r h p (w.threes r h)))

  -- It asks for nothing but the values of the problem's own variables.
  all_same : (p q : Play) → ((j : ℕ) → j < n → p j ≡ q j) → All p → All q
  unfolding Met
  all_same p q e w = record {
    pairs = λ i j h k. rw (← (e i h), ← (e j (omega arith))) (w.pairs i j h k);
    threes = λ r h. let m = w.threes r h in (m.0, m.1, λ x l. rw (← (e x l)) (m.2 x l));
  }

  -- The direct game of no variable left is that test.
  all_end : (D : Domains) (i : ℕ) (p : Play) → i ≡ n → T (from n universal (meets_all J) D i p) → All p
  all_end D i p e t =
      let t' : T (from n universal (meets_all J) D n p) = rw e at t in
      all_out p (rw (from_end n universal (meets_all J) D p) at t')

  -- ---- the two games, over domains that agree on the problem's own variables

  module _ (D D' : Domains) (own : (i : ℕ) → i < n → D' i ≡ D i) (hid : (r : ℕ) → r < ternary → D' (n + r) ≡ bit (hidden J r)) where
    -- The direct game, and that of the expanded problem, from variable i on.
    abbrev Direct : ℕ → Play → Bool
    Direct i p = from n universal (meets_all J) D i p

    abbrev Wide : ℕ → Play → Bool
    Wide i p = from (n + ternary) (universal_with J) (satisfied (compatible_with J) (n + ternary)) D' i p

    -- A value of a hidden variable is the place of a triple.
    hidden_in : (r q : ℕ) → r < ternary → q < size r → In (D' (n + r)) q
    unfolding hidden
    hidden_in r q h k =
        let s = (J.filled r h).1 in
        let l : q < 16 = omega arith in
        (l, rw (hid r h, bit-mask_of 16 (λ q. ltb q (size r)) q l, lt-ltb q (size r) k) tt)

    hidden_out : (r q : ℕ) → r < ternary → In (D' (n + r)) q → q < size r
    unfolding hidden
    hidden_out r q h m = ltb→lt q (size r) (rw (hid r h, bit-mask_of 16 (λ q. ltb q (size r)) q m.0) at m.1)

    -- ---- from the direct game to that of the expanded problem

    -- What the existential side keeps up: while own variables are left, the direct game is won; behind them the play meets everything, and each
    -- hidden variable that is played has a triple that goes with the play.
    record Inv (i : ℕ) (p : Play) : Type 0 where
      early : i ≤ n → T (Direct i p)
      late : n ≤ i → All p
      chosen : (r : ℕ) → r < ternary → n + r < i → (x : ℕ) → x < n → T (agrees J r x (p x) (p (n + r)))

    -- It holds as long as no hidden variable is played.
    inv_early : (i : ℕ) (p : Play) → i ≤ n → T (Direct i p) → Inv i p
    inv_early i p h t = record {
      early = λ _. t;
      late = λ g. all_end D i p (omega arith) t;
      chosen = λ r k g. absurd (omega arith);
    }

    -- It stays when a hidden variable is given such a triple.
    inv_hidden : (r : ℕ) (p : Play) (q : ℕ) → r < ternary → ((x : ℕ) → x < n → T (agrees J r x (p x) q)) → Inv (n + r) p
        → Inv (suc (n + r)) (put p (n + r) q)
    inv_hidden r p q h f w =
        let kept : (j : ℕ) → ¬ (j ≡ n + r) → p j ≡ put p (n + r) q j = λ j d. sym (put_off p (n + r) q j d) in
        record {
          early = λ g. absurd (omega arith);
          late = λ g. all_same p (put p (n + r) q) (λ j l. kept j (λ e. omega arith)) (w.late (omega arith));
          chosen = λ s k g x l.
              let e : p x ≡ put p (n + r) q x = kept x (λ e. omega arith) in
              by_eq s r (λ z. rw (z, ← e, put_at p (n + r) q) (f x l))
              (λ z. rw (← e, ← (kept (n + s) (λ e. z (omega arith)))) (w.chosen s k (omega arith) x l));
        }

    -- The turns: at an own variable as in the direct game, at a hidden one by a triple that the play meets.
    step_own : (i : ℕ) (p : Play) → i < n → T (Direct i p) → Turn (universal_with J i) (D' i) (λ a. Inv (suc i) (put p i a))
    step_own i p h t = rw (own_side J i h, own i h) (go (universal i) (next n universal (meets_all J) D i p h t))
      where
        go : (s : Bool) → Turn s (D i) (λ a. T (Direct (suc i) (put p i a))) → Turn s (D i) (λ a. Inv (suc i) (put p i a))
        go true f = λ a l m. inv_early (suc i) (put p i a) (omega arith) (f a l m)
        go false f = (f.0, f.1, f.2, inv_early (suc i) (put p i f.0) (omega arith) f.3)

    step_hidden : (r : ℕ) (p : Play) → r < ternary → Inv (n + r) p
        → Turn (universal_with J (n + r)) (D' (n + r)) (λ a. Inv (suc (n + r)) (put p (n + r) a))
    unfolding Met
    step_hidden r p h w =
        let m = (w.late (omega arith)).threes r h in
        let i = hidden_in r m.0 h m.1 in
        rw (hidden_side J (n + r) (omega arith)) (m.0, i.0, i.1, inv_hidden r p m.0 h m.2 w)

    step : (i : ℕ) (p : Play) → i < n + ternary → Inv i p → Turn (universal_with J i) (D' i) (λ a. Inv (suc i) (put p i a))
    step i p h w =
        by_lt i n (λ l. step_own i p l (w.early (omega arith)))
        (λ l. let e : n + (i - n) ≡ i = omega arith in rw e at (step_hidden (i - n) p (omega arith) (rw (← e) at w)))

    -- When all is played, every pair of the expanded problem is compatible.
    leaf : (p : Play) → Inv (n + ternary) p → T (satisfied (compatible_with J) (n + ternary) p)
    leaf p w = satisfied_in (compatible_with J) (n + ternary) p λ i j h k.
        by_lt i n
        (λ l. rw (own_pair J j (p j) i (p i) (omega arith) l) ((w.late (omega arith)).pairs i j l k))
        (λ l. by_lt j n
        (λ m.
        let e : n + (i - n) ≡ i = omega arith in
        rw (← e) (rw (hidden_pair J j (p j) (i - n) (p (n + (i - n))) m (omega arith)) (w.chosen (i - n) (omega arith) (omega arith) j m)))
        (λ m. both_hidden J j (p j) i (p i) m l))

    to_wide : (p : Play) → T (Direct 0 p) → T (Wide 0 p)
    to_wide p t =
        win (n + ternary) (universal_with J) (satisfied (compatible_with J) (n + ternary)) D' Inv step leaf (n + ternary) 0 p (omega arith)
        (inv_early 0 p (omega arith) t)

    -- ---- and back

    -- The existential side of the direct game plays as in a won game of the expanded problem.
    Back : ℕ → Play → Type 0
    Back i p = Inside D' i p × T (Wide i p)

    back_step : (i : ℕ) (p : Play) → i < n → Back i p → Turn (universal i) (D i) (λ a. Back (suc i) (put p i a))
    unfolding Back
    back_step i p h w =
        rw (← (own_side J i h), ← (own i h))
        (go (universal_with J i) (next (n + ternary) (universal_with J) (satisfied (compatible_with J) (n + ternary)) D' i p (omega arith) w.1))
      where
        go : (s : Bool) → Turn s (D' i) (λ a. T (Wide (suc i) (put p i a))) → Turn s (D' i) (λ a. Back (suc i) (put p i a))
        go true f = λ a l m. (inside_put D' i p a w.0 (l, m), f a l m)
        go false f = (f.0, f.1, f.2, (inside_put D' i p f.0 w.0 (f.1, f.2), f.3))

    -- When the own variables are played, the won game comes to a play q that agrees with p on them, and whose hidden values are the triples met.
    back_leaf : (p : Play) → Back n p → T (meets_all J p)
    unfolding Back Met
    back_leaf p w =
        let foe : (j : ℕ) → j < n + ternary → universal_with J j ≡ true → In (D' j) (p j) =
        λ j h s. by_lt j n (λ l. w.0 j l) (λ l. absurd (clash (hidden_side J j l) (rw s tt))) in
        let o = outcome (n + ternary) (universal_with J) (satisfied (compatible_with J) (n + ternary)) D' p foe ternary n p (omega arith) w.0 w.1 in
        let q = o.0 in
        let s = satisfied_out (compatible_with J) (n + ternary) q o.4 in
        all_in p (all_same q p (λ j l. o.2 j l) (record {
          pairs = λ i j h k. rw (own_pair J j (q j) i (q i) (omega arith) h) at (s i j (omega arith) k);
          threes = λ r h. (
            q (n + r),
            hidden_out r (q (n + r)) h (o.1 (n + r) (omega arith)),
            λ x l. rw (hidden_pair J x (q x) r (q (n + r)) l h) at (s (n + r) x (omega arith) (omega arith)),
          );
        }))

    from_wide : (p : Play) → T (Wide 0 p) → T (Direct 0 p)
    unfolding Back
    from_wide p t = win n universal (meets_all J) D Back back_step back_leaf n 0 p (omega arith) (λ j l. absurd (omega arith), t)

    wide_direct : (p : Play) → Wide 0 p ≡ Direct 0 p
    wide_direct p = same (Wide 0 p) (Direct 0 p) (from_wide p) (to_wide p)

  -- ---- positions

  -- Plays that make a position of the problem make one of the expanded problem.
  pub legal_wide : (p : List ℕ) → T (legal binary p) → T (legal (expanded J) p)
  unfolding expanded domains
  legal_wide p t =
      let r = legal_out binary p t in
      let k = r.0 in
      legal_in (expanded J) p (omega arith) (λ j h. rw (domain_own J j (omega arith)) (r.1 j h))

  -- The domains of that position: the problem's own, and behind them the places of the triples.
  placed_own : (p : List ℕ) (i : ℕ) → i < n
      → placed (domains (domain_with J)) (length p) (play_of p) i ≡ placed (domains domain) (length p) (play_of p) i
  unfolding placed domains
  placed_own p i h = ap (λ (m : ℕ). cond (ltb i (length p)) (λ b. eqb b (play_of p i)) (bit m)) (domain_own J i h)

  placed_hidden : (p : List ℕ) → length p ≤ n → (r : ℕ) → r < ternary
      → placed (domains (domain_with J)) (length p) (play_of p) (n + r) ≡ bit (hidden J r)
  unfolding domains
  placed_hidden p k r h = placed-above (domains (domain_with J)) (length p) (play_of p) (n + r) (omega arith) ∙ fun_ext λ a. rw (domain_hidden J r h)

  -- THE THEOREM: after any plays of the problem's own variables the verdict of the expanded problem is that of the game with three-way constraints.
  pub expanded_verdict : (p : List ℕ) → T (legal binary p) → verdict (expanded J) p ≡ ternary_verdict J p
  unfolding ternary_verdict wins expanded
  expanded_verdict p t =
      let F = placed (domains (domain_with J)) (length p) (play_of p) in
      let G = placed (domains domain) (length p) (play_of p) in
      verdict-placed (expanded J) p (legal_wide p t)
      ∙ from_start (universal_with J) (satisfied (compatible_with J) (n + ternary)) F (n + ternary)
      ∙ wide_direct G F (placed_own p) (placed_hidden p (legal_out binary p t).0) (λ j. 0)
      ∙ sym (from_start universal (meets_all J) G n)
      ∙ rw (position-placed binary p t) refl

  pub expanded_won : verdict (expanded J) [] ≡ ternary_verdict J []
  expanded_won = expanded_verdict [] (legal_none binary)

  -- So are the marks of the next of them.
  pub expanded_winning : (p : List ℕ) → T (legal binary p) → length p < n → winning_values (expanded J) p ≡ ternary_winning J p
  unfolding winning_values ternary_winning expanded domains
  expanded_winning p t h = mask_of_same 16 _ _ λ a l.
      let e : bit (get_or (domain_with J) (length p) 0) a ≡ bit (get_or domain (length p) 0) a = rw (domain_own J (length p) h) in
      rw e (test (bit (get_or domain (length p) 0) a)
      (λ m. rw (holds {b = bit (get_or domain (length p) 0) a} m) (expanded_verdict (p ++ (a ∷ [])) (legal_snoc binary p a t h m)))
      (λ z. rw z))
