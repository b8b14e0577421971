-- The variable that a turn's loss names (card 2): its conflict set holds the played variables that share a constraint with it.
use mathlib.Core.Path.{◌≡◌, refl, sym, ap, ◌∙◌}
use mathlib.Core.Bool.{Bool, true, false, cond, not, ◌&&◌, ◌||◌}
use mathlib.Core.List.{List}
use Prim.Native.Nat.{ℕ, zero, suc, ◌+◌, ◌-◌, ◌≤◌, ◌<◌}
use native.Mathlib.Omega.{arith}
use lib.Dec.{T, ltb}
use lib.Bits.{bit_or}
use lib.ListN.{get_or, length}
use borrow.Author.Tests.{ltb-true}
use Rattle.mask.specs.Mask.{bit}
use Rattle.mask.proofs.Logic.{clash, holds, true_holds, test, and_out, or_right}
use Rattle.mask.proofs.Masks.{bit-mask_of}
use Rattle.game.specs.Problem.{Problem}
use Rattle.game.specs.Position.{play_of}
use Rattle.game.specs.Rule.{uses, Ruled, ListRule, unruled, if_so, and_next}
use Rattle.game.specs.Arc.{arc}
use Rattle.game.specs.Forward.{forward, forward_named}
use Rattle.game.specs.LookAhead.{look_ahead, ahead_named}
use Rattle.game.specs.Turn.{checks, ahead, narrow_pure, narrow_interchangeable, next_rules, reached, checks_named, turn_named}
use Rattle.game.specs.Reasons.{Step, idle, chain, choose, neighbours, forward_conflict, forward_reasons, explain_forward, explain_checks, explain_arc, explain_ahead, explained}
use Rattle.game.specs.Game.{satisfied}
use Rattle.game.specs.Search.{solved, failed, is_solved, handed, hand_up, first_broken, check_set, search}
use Rattle.theory.proofs.OnLists
use Rattle.theory.proofs.ReasonLists.{in_right}
use Rattle.theory.proofs.Search.{F, foe, foe_in}
use Rattle.theory.proofs.Explained
use Rattle.theory.proofs.Explained.{Ready, just_ready}
use Rattle.theory.proofs.Plain
use Rattle.theory.proofs.Plain.{ruled}
use Rattle.theory.proofs.Turns.{At, answer_end}

same_set : (a b : ℕ) → failed a ≡ failed b → b ≡ a
same_set a b e = cc

not_failed : (q : List ℕ) (b : ℕ) → solved q ≡ failed b → ⊥
not_failed q b e = clash (ap is_solved e) tt

-- A rule that finds a loss is used; a loss of two rules, the second of which finds none, is the first's.
used : (b : Bool) (r : ListRule) (l : List ℕ) → (if_so b r l).loss ≡ true → (r l).loss ≡ true
unfolding if_so unruled
used true r l e = e
used false r l e = absurd (clash (sym e) tt)

given : (b : Bool) (r : ListRule) (l : List ℕ) → (if_so b r l).loss ≡ true → b ≡ true
unfolding if_so unruled
given true r l e = refl
given false r l e = e

loss_of_first : (r s : ListRule) (l : List ℕ) → ((m : List ℕ) → (s m).loss ≡ false) → (and_next r s l).loss ≡ true → (r l).loss ≡ true
unfolding and_next
loss_of_first r s l h e = go (r l).loss e
  where
    go : (b : Bool) → (cond b (r l) (s (r l).list)).loss ≡ true → (r l).loss ≡ true
    go true e = e
    go false e = absurd (clash (sym (sym (h (r l).list) ∙ e)) tt)

module _ (P : Problem) where
  open P use {n, compatible, constrained}

  -- A lost run of checks holds the neighbours of the variable that it names.
  checks_hold : (k x : ℕ) (p l R : List ℕ) → (explain_checks P k x p l R).loss ≡ true → (j : ℕ)
      → T (bit (neighbours P (checks_named P k x p l)) j) → T (bit (explain_checks P k x p l R).set j)
  unfolding explain_checks explain_forward forward_conflict chain idle checks_named
  checks_hold zero x p l R e j t = absurd (clash (sym e) tt)
  checks_hold (suc k) x p l R e j t = go (forward P x (get_or p x 0) l).loss refl (λ f g. checks_hold k (suc x) p _ _ f j g) e t
    where
      go : (b : Bool) → (forward P x (get_or p x 0) l).loss ≡ b
          → ((explain_checks P k (suc x) p (forward P x (get_or p x 0) l).list (forward_reasons P l R x (get_or p x 0))).loss ≡ true
          → T (bit (neighbours P (checks_named P k (suc x) p (forward P x (get_or p x 0) l).list)) j)
          → T (bit (explain_checks P k (suc x) p (forward P x (get_or p x 0) l).list (forward_reasons P l R x (get_or p x 0))).set j))
          → (explain_checks P (suc k) x p l R).loss ≡ true → T (bit (neighbours P (checks_named P (suc k) x p l)) j) → T (bit (explain_checks P (suc k) x p l R).set j)
      go true f rec e t =
          rw f (in_right (get_or R x 0) (bit_or (get_or R (forward_named P x (get_or p x 0) l) 0) (neighbours P (forward_named P x (get_or p x 0) l))) j
          (in_right (get_or R (forward_named P x (get_or p x 0) l) 0) (neighbours P (forward_named P x (get_or p x 0) l)) j (rw f at t)))
      go false f rec e t = rw f (rec (rw f at e) (rw f at t))

  chosen_hold : (b : Bool) (k x : ℕ) (p l R : List ℕ) → (choose b (explain_checks P k x p) l R).loss ≡ true → (j : ℕ)
      → T (bit (neighbours P (checks_named P k x p l)) j) → T (bit (choose b (explain_checks P k x p) l R).set j)
  unfolding choose idle
  chosen_hold true k x p l R e j t = checks_hold k x p l R e j t
  chosen_hold false k x p l R e j t = absurd (clash (sym e) tt)

  -- A lost run of checks names a variable; so does a loss of rule 3.
  checks_named_lem : (k x : ℕ) (p l : List ℕ) → (checks P k x p l).loss ≡ true → checks_named P k x p l < n
  unfolding checks checks_named and_next unruled
  checks_named_lem zero x p l e = absurd (clash (sym e) tt)
  checks_named_lem (suc k) x p l e = go (forward P x (get_or p x 0) l).loss refl (checks_named_lem k (suc x) p (forward P x (get_or p x 0) l).list) e
    where
      go : (b : Bool) → (forward P x (get_or p x 0) l).loss ≡ b
          → ((checks P k (suc x) p (forward P x (get_or p x 0) l).list).loss ≡ true → checks_named P k (suc x) p (forward P x (get_or p x 0) l).list < n)
          → (cond b (forward P x (get_or p x 0) l) (checks P k (suc x) p (forward P x (get_or p x 0) l).list)).loss ≡ true
          → cond b (forward_named P x (get_or p x 0) l) (checks_named P k (suc x) p (forward P x (get_or p x 0) l).list) < n
      go true f rec e = (OnLists.forward_named_lem P x (get_or p x 0) l (true_holds f)).1
      go false f rec e = rec e

  ahead_names_one : (i : ℕ) (l : List ℕ) → look_ahead P i l ≡ true → forward_named P i (ahead_named P i l) l < n
  ahead_names_one i l e = (OnLists.forward_named_lem P i (ahead_named P i l) l (OnLists.ahead_named_lem P i l (true_holds e)).2).1

  -- Of the rules of the next variable only rule 3 finds a loss.
  next-ahead : (S i : ℕ) (l : List ℕ) → (next_rules P S i l).loss ≡ true → (uses S 3 && look_ahead P i l) ≡ true
  unfolding next_rules if_so unruled ahead narrow_pure narrow_interchangeable and_next
  next-ahead S i l e = go (uses S 3) (loss_of_first (if_so (uses S 3) (ahead P i)) (and_next (if_so (uses S 4) (narrow_pure P i)) (if_so (uses S 5) (narrow_interchangeable P i))) l (λ m. calm (uses S 4) (uses S 5) m) e)
    where
      go : (b : Bool) → (if_so b (ahead P i) l).loss ≡ true → (b && look_ahead P i l) ≡ true
      go true e = e
      go false e = e

      calm : (b d : Bool) (m : List ℕ) → (and_next (if_so b (narrow_pure P i)) (if_so d (narrow_interchangeable P i)) m).loss ≡ false
      calm true true m = refl
      calm true false m = refl
      calm false true m = refl
      calm false false m = refl

  next_lost : (S i : ℕ) (l : List ℕ) → T (uses S 3) → T (look_ahead P i l) → (next_rules P S i l).loss ≡ true
  unfolding next_rules if_so ahead and_next
  next_lost S i l u t = rw (holds {b = uses S 3} u, holds {b = look_ahead P i l} t) refl

  -- Rule 2 of a turn, and rule 1 after it.
  module _ (S c : ℕ) (p l : List ℕ) where
    abbrev two : Ruled
    two = if_so (uses S 2) (checks P (length p - c) c p) l

    abbrev one : Ruled
    one = if_so (uses S 1) (arc P) two.list

    -- A loss of the turn that is not rule 1's has a name.
    pub turn_named_lem : (reached P S c p l).loss ≡ true
        → (two.loss ≡ false → one.loss ≡ false) → turn_named P S c p l < n
    unfolding turn_named reached and_next
    turn_named_lem e calm =
        test two.loss
        (λ u. let t = holds {b = two.loss} u in rw t (checks_named_lem (length p - c) c p l (used (uses S 2) (checks P (length p - c) c p) l t)))
        (λ f. let g = calm f in
        let h : (if_so (ltb (length p) n) (next_rules P S (length p)) one.list).loss ≡ true = rw (f, g) at e in
        let a = next-ahead S (length p) one.list (used (ltb (length p) n) (next_rules P S (length p)) one.list h) in
        let b = and_out (uses S 3) (look_ahead P (length p) one.list) (true_holds a) in
        rw (f, g, given (ltb (length p) n) (next_rules P S (length p)) one.list h, a) (ahead_names_one (length p) one.list (holds b.1)))

    -- Nothing else has.
    pub named_lost : turn_named P S c p l < n → (reached P S c p l).loss ≡ true
    unfolding turn_named reached and_next if_so
    named_lost h =
        test two.loss
        (λ u. let t = holds {b = two.loss} u in rw t t)
        (λ f. test one.loss
        (λ u. let t = holds {b = one.loss} u in rw (f, t) t)
        (λ g. test (ltb (length p) n && (uses S 3 && look_ahead P (length p) one.list))
        (λ u.
        let a = and_out (ltb (length p) n) (uses S 3 && look_ahead P (length p) one.list) u in
        let b = and_out (uses S 3) (look_ahead P (length p) one.list) a.1 in
        rw (f, g, holds {b = ltb (length p) n} a.0) (next_lost S (length p) one.list b.0 b.1))
        (λ k. let z : turn_named P S c p l ≡ n = rw (f, g, k) refl in absurd (omega arith))))

  module _ (S c : ℕ) (p l R : List ℕ) (w : At P c p l R) where
    -- Rule 2 of the turn, and rule 1 after it.
    by_two : Step
    by_two = choose (uses S 2) (explain_checks P (length p - c) c p) l R

    by_one : Step
    by_one = choose (uses S 1) (explain_arc P) by_two.list by_two.why

    deep : length p ≤ n
    deep = w.entry.depth

    ready : Ready P (F P) (foe P) (foe_in P) (length p) (play_of p) l R
    ready = w.entry.ready

    two_is : ruled (choose (uses S 2) (explain_checks P (length p - c) c p) l R) ≡ if_so (uses S 2) (checks P (length p - c) c p) l
    two_is =
        Plain.choose_plain P (F P) (foe P) (foe_in P) (uses S 2) (length p) (play_of p) (explain_checks P (length p - c) c p) (checks P (length p - c) c p)
        (λ _. Plain.checks_plain P (F P) (foe P) (foe_in P) (length p) p deep (length p - c) c (let h = w.checked in omega arith)) l R ready

    next_ready : (choose (uses S 2) (explain_checks P (length p - c) c p) l R).loss ≡ false → Ready P (F P) (foe P) (foe_in P) (length p) (play_of p) by_two.list by_two.why
    unfolding by_two
    next_ready e =
        just_ready P (F P) (foe P) (foe_in P) (length p) (play_of p) l (choose (uses S 2) (explain_checks P (length p - c) c p) l R)
        (Explained.choose_holds P (F P) (foe P) (foe_in P) (uses S 2) (length p) (play_of p) (explain_checks P (length p - c) c p)
        (λ _. Explained.explain_checks_hold P (F P) (foe P) (foe_in P) (length p) p deep (length p - c) c (let h = w.checked in omega arith)) l R ready) e

    one_is : (choose (uses S 2) (explain_checks P (length p - c) c p) l R).loss ≡ false → ruled by_one ≡ if_so (uses S 1) (arc P) by_two.list
    unfolding by_one
    one_is e =
        Plain.choose_plain P (F P) (foe P) (foe_in P) (uses S 1) (length p) (play_of p) (explain_arc P) (arc P)
        (λ _. Plain.arc_plain P (F P) (foe P) (foe_in P) (length p) (play_of p)) by_two.list by_two.why (next_ready e)

    -- Rule 3 after both.
    by_three : Step
    by_three = choose (ltb (length p) n && uses S 3) (explain_ahead P (length p)) by_one.list by_one.why

    -- The rules of the turn, by where its loss is found.
    explained-two : by_two.loss ≡ true → explained P S c p l R ≡ by_two
    unfolding by_two explained chain
    explained-two e = rw e

    explained_three : by_two.loss ≡ false → by_one.loss ≡ false → explained P S c p l R ≡ by_three
    unfolding by_two by_one by_three explained chain
    explained_three e f = rw (e, f)

    two-loss : (b : Bool) → by_two.loss ≡ b → (if_so (uses S 2) (checks P (length p - c) c p) l).loss ≡ b
    unfolding by_two
    two-loss b e = ap (λ (o : Ruled). o.loss) (sym two_is) ∙ e

    two-list : (if_so (uses S 2) (checks P (length p - c) c p) l).list ≡ by_two.list
    unfolding by_two
    two-list = ap (λ (o : Ruled). o.list) (sym two_is)

    one-ruled : by_two.loss ≡ false → if_so (uses S 1) (arc P) (if_so (uses S 2) (checks P (length p - c) c p) l).list ≡ ruled by_one
    unfolding by_two
    one-ruled e = ap (if_so (uses S 1) (arc P)) two-list ∙ sym (one_is e)

    -- What the turn's loss names, in the same cases.
    named_two : by_two.loss ≡ true → turn_named P S c p l ≡ checks_named P (length p - c) c p l
    unfolding turn_named
    named_two e = rw (two-loss true e)

    named_none : by_two.loss ≡ false → by_one.loss ≡ true → turn_named P S c p l ≡ n
    unfolding turn_named
    named_none e f = let q = ap (λ (o : Ruled). o.loss) (one-ruled e) ∙ f in rw (two-loss false e, q)

    abbrev ahead-here : Bool
    ahead-here = ltb (length p) n && (uses S 3 && look_ahead P (length p) by_one.list)

    named_three : by_two.loss ≡ false → by_one.loss ≡ false → turn_named P S c p l ≡ cond ahead-here (forward_named P (length p) (ahead_named P (length p) by_one.list) by_one.list) n
    unfolding turn_named
    named_three e f =
        let q = ap (λ (o : Ruled). o.loss) (one-ruled e) ∙ f in
        let m = ap (λ (o : Ruled). o.list) (one-ruled e) in rw (two-loss false e, q, m)

    three_holds : (b : Bool) → (ltb (length p) n && uses S 3) ≡ b → look_ahead P (length p) by_one.list ≡ true → b ≡ true → (j : ℕ)
        → T (bit (neighbours P (forward_named P (length p) (ahead_named P (length p) by_one.list) by_one.list)) j) → (by_three.loss ≡ true) × T (bit by_three.set j)
    unfolding by_three choose explain_ahead forward_conflict
    three_holds true e h g j t =
        rw e (
          h,
          in_right (get_or by_one.why (length p) 0) (bit_or (get_or by_one.why (forward_named P (length p) (ahead_named P (length p) by_one.list) by_one.list) 0) (neighbours P (forward_named P (length p) (ahead_named P (length p) by_one.list) by_one.list))) j
              (in_right (get_or by_one.why (forward_named P (length p) (ahead_named P (length p) by_one.list) by_one.list) 0) (neighbours P (forward_named P (length p) (ahead_named P (length p) by_one.list) by_one.list)) j t),
        )
    three_holds false e h g j t = absurd (clash (sym g) tt)

    -- The conflict set of the turn's rules holds the neighbours of the variable named.
    pub named_holds : turn_named P S c p l < n → (j : ℕ) → T (bit (neighbours P (turn_named P S c p l)) j)
        → ((explained P S c p l R).loss ≡ true) × T (bit (explained P S c p l R).set j)
    unfolding by_two
    named_holds h j t =
        test by_two.loss
        (λ u. let e = holds {b = by_two.loss} u in rw (explained-two e) (e, chosen_hold (uses S 2) (length p - c) c p l R e j (rw (named_two e) at t)))
        (λ e. test by_one.loss
        (λ u. let z = named_none e (holds u) in absurd (omega arith))
        (λ f. test ahead-here
        (λ u.
        let a = and_out (ltb (length p) n) (uses S 3 && look_ahead P (length p) by_one.list) u in
        let b = and_out (uses S 3) (look_ahead P (length p) by_one.list) a.1 in
        let s : (ltb (length p) n && uses S 3) ≡ true = rw (holds {b = ltb (length p) n} a.0, holds {b = uses S 3} b.0) refl in
        rw (explained_three e f) (three_holds true s (holds b.1) refl j (rw (named_three e f, holds {b = ahead-here} u) at t)))
        (λ g. let z : turn_named P S c p l ≡ n = named_three e f ∙ rw g in absurd (omega arith))))

    -- Where all are played it is rule 2 that names.
    pub named_played : length p ≡ n → turn_named P S c p l < n → (j : ℕ) → T (bit (neighbours P (turn_named P S c p l)) j) → T (bit (check_set P S c p l R) j)
    unfolding by_two check_set
    named_played z h j t =
        test by_two.loss
        (λ u. let e = holds {b = by_two.loss} u in rw e (chosen_hold (uses S 2) (length p - c) c p l R e j (rw (named_two e) at t)))
        (λ e. test by_one.loss
        (λ u. let y = named_none e (holds u) in absurd (omega arith))
        (λ f. test ahead-here
        (λ u. let a = and_out (ltb (length p) n) (uses S 3 && look_ahead P (length p) by_one.list) u in let y = ltb-true (length p) n (holds a.0) in absurd (omega arith))
        (λ g. let y : turn_named P S c p l ≡ n = named_three e f ∙ rw g in absurd (omega arith))))

    tied : (j : ℕ) → j < length p → T (constrained (turn_named P S c p l) j) → T (bit (neighbours P (turn_named P S c p l)) j)
    unfolding neighbours
    tied j h t = let d = deep in rw (bit-mask_of n (constrained (turn_named P S c p l)) j (omega arith)) t

    in_handed : (jump : Bool) (m U j : ℕ) → j < m → T (bit U j) → T (bit (handed jump m U) j)
    unfolding handed
    in_handed jump m U j h t = rw (bit-mask_of m (λ j. not jump || bit U j) j h) (or_right (not jump) (bit U j) t)

    next_failed : (k U : ℕ) → (explained P S c p l R).loss ≡ true → search P S c (suc k) p l R ≡ failed U → U ≡ handed (uses S 6) (length p) (explained P S c p l R).set
    unfolding search hand_up
    next_failed k U e q = same_set (handed (uses S 6) (length p) (explained P S c p l R).set) U (rw e at q)

    end_failed : (U : ℕ) → length p ≡ n → search P S c 0 p l R ≡ failed U → U ≡ handed (uses S 6) n (bit_or (first_broken P p) (check_set P S c p l R))
    end_failed U z q = go (satisfied compatible n (play_of p)) (sym (answer_end P S c p l R z w) ∙ q)
      where
        go : (b : Bool) → cond b (solved p) (failed (handed (uses S 6) n (bit_or (first_broken P p) (check_set P S c p l R)))) ≡ failed U → U ≡ handed (uses S 6) n (bit_or (first_broken P p) (check_set P S c p l R))
        go true r = absurd (not_failed p U r)
        go false r = same_set (handed (uses S 6) n (bit_or (first_broken P p) (check_set P S c p l R))) U r

    -- THE LAW of the variable named: the set that the turn hands up holds the played variables that share a constraint with it.
    pub turn_names : (k U j : ℕ) → k + length p ≡ n → search P S c k p l R ≡ failed U → turn_named P S c p l < n → j < length p
        → T (constrained (turn_named P S c p l) j) → T (bit U j)
    turn_names zero U j z q h g t =
        let y : length p ≡ n = omega arith in
        rw (end_failed U y q) (in_handed (uses S 6) n (bit_or (first_broken P p) (check_set P S c p l R)) j (omega arith) (in_right (first_broken P p) (check_set P S c p l R) j (named_played y h j (tied j g t))))
    turn_names (suc k) U j z q h g t =
        let m = named_holds h j (tied j g t) in
        rw (next_failed k U m.0 q) (in_handed (uses S 6) (length p) (explained P S c p l R).set j g m.1)
