-- The list that a turn of the search reaches is the plain turn's: reasons change no list and no loss.
use mathlib.Core.Path.{◌≡◌, refl, ap, ◌∙◌, fun_ext}
use mathlib.Core.Bool.{Bool, true, false, cond, ◌&&◌}
use mathlib.Core.List.{List}
use Prim.Native.Nat.{ℕ, zero, suc, ◌+◌, ◌-◌, ◌≤◌, ◌<◌}
use native.Mathlib.Omega.{arith}
use lib.Dec.{T, ltb}
use lib.ListN.{get_or, length}
use borrow.Author.Tests.{lt-ltb, le-ltb}
use Rattle.game.specs.Problem.{Problem}
use Rattle.game.specs.Game.{Domains, Play}
use Rattle.game.specs.Lists.{domains}
use Rattle.game.specs.Position.{play_of}
use Rattle.game.specs.Rule.{uses, Ruled, ListRule, unruled, if_so, and_next}
use Rattle.game.specs.Arc.{arc_loss, arc}
use Rattle.game.specs.Forward.{forward}
use Rattle.game.specs.Turn.{checks, ahead, next_rules, reached}
use Rattle.game.specs.Reasons.{Step, Ruling, idle, chain, choose, Sheet, explain_forward, explain_checks, revisions, explain_arc, explain_ahead, explained}
use Rattle.game.specs.Search.{narrow_next}
use Rattle.theory.proofs.Laws.{Answers}
use Rattle.theory.proofs.Revisions
use Rattle.theory.proofs.Explained
use Rattle.theory.proofs.Explained.{Ready, Holds, just_ready}

-- A reply without its reasons.
abbrev pub ruled : Step → Ruled
ruled o = record { loss = o.loss; list = o.list }

-- A rule after two rules.
next_assoc : (r s t : ListRule) (l : List ℕ) → and_next r (and_next s t) l ≡ and_next (and_next r s) t l
unfolding and_next
next_assoc r s t l = go (r l).loss refl
  where
    go : (b : Bool) → (r l).loss ≡ b → cond b (r l) (cond (s (r l).list).loss (s (r l).list) (t (s (r l).list).list))
        ≡ cond (cond b (r l) (s (r l).list)).loss (cond b (r l) (s (r l).list)) (t (cond b (r l) (s (r l).list)).list)
    go true e = rw e
    go false e = refl

-- A rule after one whose reply is known.
then_last : (r s : ListRule) (l : List ℕ) (o : Step) → ruled o ≡ r l → and_next r s l ≡ cond o.loss (ruled o) (s o.list)
unfolding and_next
then_last r s l o e = rw (← e)

module _ (P : Problem) (F : Domains) (foe : Play) (foe_in : Answers P F foe) where
  open P use {n, universal}

  -- A rule with reasons does what a plain rule does.
  abbrev Plain : ℕ → Play → Ruling → ListRule → Type 0
  Plain i p r s = (l R : List ℕ) → Ready P F foe foe_in i p l R → ruled (r l R) ≡ s l

  chain_plain : (i : ℕ) (p : Play) (r s : Ruling) (r' s' : ListRule) → Holds P F foe foe_in i p r → Plain i p r r' → Plain i p s s' → Plain i p (chain r s) (and_next r' s')
  unfolding chain and_next
  chain_plain i p r s r' s' h f g l R w = rw (← (f l R w)) (go (r l R).loss refl)
    where
      go : (b : Bool) → (r l R).loss ≡ b → ruled (cond b (r l R) (s (r l R).list (r l R).why)) ≡ cond b (ruled (r l R)) (s' (r l R).list)
      go true e = refl
      go false e = g (r l R).list (r l R).why (just_ready P F foe foe_in i p l (r l R) (h l R w) e)

  pub choose_plain : (b : Bool) (i : ℕ) (p : Play) (r : Ruling) (s : ListRule) → (T b → Plain i p r s) → Plain i p (choose b r) (if_so b s)
  unfolding choose if_so idle unruled
  choose_plain true i p r s f = f tt
  choose_plain false i p r s f = λ l R w. refl

  idle_plain : (i : ℕ) (p : Play) → Plain i p idle unruled
  unfolding idle unruled
  idle_plain i p l R w = refl

  forward_plain : (i : ℕ) (p : Play) (x a : ℕ) → Plain i p (explain_forward P x a) (forward P x a)
  unfolding explain_forward forward
  forward_plain i p x a l R w = refl

  ahead_plain : (i : ℕ) (p : Play) (x : ℕ) → Plain i p (explain_ahead P x) (ahead P x)
  unfolding explain_ahead ahead
  ahead_plain i p x l R w = refl

  pub checks_plain : (i : ℕ) (p : List ℕ) → i ≤ n → (k x : ℕ) → k + x ≤ i → Plain i (play_of p) (explain_checks P k x p) (checks P k x p)
  unfolding explain_checks checks play_of
  checks_plain i p h zero x z = idle_plain i (play_of p)
  checks_plain i p h (suc k) x z =
      chain_plain i (play_of p) (explain_forward P x (get_or p x 0)) (explain_checks P k (suc x) p) (forward P x (get_or p x 0)) (checks P k (suc x) p)
      (Explained.explain_forward_holds P F foe foe_in i (play_of p) h x (omega arith)) (forward_plain i (play_of p) x (get_or p x 0)) (checks_plain i p h k (suc x) (omega arith))

  pub arc_plain : (i : ℕ) (p : Play) → Plain i p (explain_arc P) (arc P)
  unfolding explain_arc arc
  arc_plain i p l R w =
      let s : Sheet = record { list = l; why = R } in
      ap {B = Ruled} (λ m. record { loss = arc_loss P (domains m); list = m })
      (Revisions.revisions-list P s (revisions P s) w.state.foe w.state.foe_in w.formed (Revisions.revisions_are P s w.formed) (Revisions.revisions-closed P s w.formed))

  -- Rules 2, 1 and 3 of a turn.
  explained_plain : (S c : ℕ) (p : List ℕ) → c ≤ length p → length p ≤ n → Plain (length p) (play_of p) (explained P S c p)
      (and_next (if_so (uses S 2) (checks P (length p - c) c p)) (and_next (if_so (uses S 1) (arc P)) (if_so (ltb (length p) n && uses S 3) (ahead P (length p)))))
  unfolding explained
  explained_plain S c p h l =
      chain_plain i q (choose (uses S 2) (explain_checks P (i - c) c p)) late (if_so (uses S 2) (checks P (i - c) c p)) late'
      (Explained.choose_holds P F foe foe_in (uses S 2) i q (explain_checks P (i - c) c p) (λ _. Explained.explain_checks_hold P F foe foe_in i p l (i - c) c (omega arith)))
      (choose_plain (uses S 2) i q (explain_checks P (i - c) c p) (checks P (i - c) c p) (λ _. checks_plain i p l (i - c) c (omega arith)))
      (chain_plain i q (choose (uses S 1) (explain_arc P)) (choose (ltb i n && uses S 3) (explain_ahead P i)) (if_so (uses S 1) (arc P)) (if_so (ltb i n && uses S 3) (ahead P i))
      (Explained.choose_holds P F foe foe_in (uses S 1) i q (explain_arc P) (λ _. Explained.explain_arc_holds P F foe foe_in i q l))
      (choose_plain (uses S 1) i q (explain_arc P) (arc P) (λ _. arc_plain i q))
      (choose_plain (ltb i n && uses S 3) i q (explain_ahead P i) (ahead P i) (λ _. ahead_plain i q i)))
    where
      i : ℕ
      i = length p

      q : Play
      q = play_of p

      late : Ruling
      late = chain (choose (uses S 1) (explain_arc P)) (choose (ltb i n && uses S 3) (explain_ahead P i))

      late' : ListRule
      late' = and_next (if_so (uses S 1) (arc P)) (if_so (ltb i n && uses S 3) (ahead P i))

  -- All rules of a turn that has a variable left.
  turn-rules : ℕ → ℕ → List ℕ → ListRule
  turn-rules S c p = and_next (if_so (uses S 2) (checks P (length p - c) c p)) (and_next (if_so (uses S 1) (arc P)) (and_next (if_so (uses S 3) (ahead P (length p))) (narrow_next P S (length p))))

  reached-rules : (S c : ℕ) (p l : List ℕ) → length p < n → reached P S c p l ≡ turn-rules S c p l
  unfolding reached next_rules narrow_next turn-rules if_so
  reached-rules S c p l h = rw (lt-ltb (length p) n h)

  pub reached_plain : (S c : ℕ) (p l R : List ℕ) → c ≤ length p → length p < n → Ready P F foe foe_in (length p) (play_of p) l R
      → reached P S c p l ≡ cond (explained P S c p l R).loss (ruled (explained P S c p l R)) (narrow_next P S (length p) (explained P S c p l R).list)
  unfolding turn-rules
  reached_plain S c p l R h k w =
      reached-rules S c p l k ∙ ap (λ (r : ListRule). and_next A r l) (fun_ext (next_assoc B C W)) ∙ next_assoc A (and_next B C) W l ∙ last
    where
      i : ℕ
      i = length p

      A : ListRule
      A = if_so (uses S 2) (checks P (length p - c) c p)

      B : ListRule
      B = if_so (uses S 1) (arc P)

      C : ListRule
      C = if_so (uses S 3) (ahead P (length p))

      W : ListRule
      W = narrow_next P S (length p)

      plain : ruled (explained P S c p l R) ≡ and_next A (and_next B C) l
      plain = let e : (ltb (length p) n && uses S 3) ≡ uses S 3 = rw (lt-ltb (length p) n k) in rw e at (explained_plain S c p h (omega arith) l R w)

      last : and_next (and_next A (and_next B C)) W l ≡ cond (explained P S c p l R).loss (ruled (explained P S c p l R)) (narrow_next P S (length p) (explained P S c p l R).list)
      last = then_last (and_next A (and_next B C)) W l (explained P S c p l R) plain

  -- And of one where all are played.
  pub reached_end : (S c : ℕ) (p l R : List ℕ) → c ≤ length p → length p ≡ n → Ready P F foe foe_in (length p) (play_of p) l R → reached P S c p l ≡ ruled (explained P S c p l R)
  unfolding reached if_so
  reached_end S c p l R h k w =
      let e : ltb (length p) n ≡ false = le-ltb (length p) n (omega arith) in
      let z : ruled (explained P S c p l R) ≡ and_next (if_so (uses S 2) (checks P (length p - c) c p)) (and_next (if_so (uses S 1) (arc P)) unruled) l = rw e at (explained_plain S c p h (omega arith) l R w) in
      rw (e, z)
