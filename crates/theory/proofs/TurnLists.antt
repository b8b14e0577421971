-- The turn on lists: it reaches what the turn on domains reaches, so its list keeps the verdict; and its list can be lent again.
use mathlib.Core.Path.{◌≡◌, refl, sym, ap, subst, ◌∙◌, fun_ext}
use mathlib.Core.Bool.{Bool, true, false, cond, not, ◌&&◌}
use mathlib.Core.List.{List, [], ◌∷◌, ◌++◌}
use Prim.Native.Nat.{ℕ, zero, suc, ◌+◌, ◌-◌, ◌*◌, ◌^◌, ◌≤◌, ◌<◌}
use native.Mathlib.Omega.{arith}
use lib.Dec.{T, eqb, eqb→eq, eqb_refl, ltb, leb, leb→le, le→leb, ltb→lt}
use lib.ListN.{get_or, length, set, length-append, get_or-append}
use lib.Seq.{get_or-append_seam, get_or-set_same, get_or-set_other}
use lib.Pow.{pow-lt}
use borrow.Author.Tests.{ltb-true}
use Rattle.mask.specs.Range.{each}
use Rattle.mask.specs.Mask.{bit}
use Rattle.mask.proofs.Logic.{same, holds, clash, test, by_eq, by_lt, and_in, and_out}
use Rattle.mask.proofs.Range.{each_out, each_in}
use Rattle.mask.proofs.Bits.{bit_single, bit_ext}
use Rattle.game.specs.Problem.{Problem}
use Rattle.game.specs.Game.{Domains, Play, replace, narrow}
use Rattle.game.specs.Lists.{domains, narrow_to, wins_over, Masks}
use Rattle.game.specs.Position.{play_of, legal, narrowed, position}
use Rattle.game.specs.Rule.{uses, Ruled, ListRule, unruled, if_so, and_next}
use Rattle.game.specs.Arc.{arc_loss, sweep, sweeps, arc}
use Rattle.game.specs.Forward.{forward_domains, forward}
use Rattle.game.specs.LookAhead.{ahead_loss, look_ahead}
use Rattle.game.specs.Pure.{purged}
use Rattle.game.specs.Interchangeable.{representatives}
use Rattle.game.specs.Turn.{first_list, next_list, checks, ahead, narrow_pure, narrow_interchangeable, next_rules, reached}
use Rattle.theory.specs.TurnList.{AtTurn}
use Rattle.theory.proofs.Moves.{replace_at, replace_off}
use Rattle.theory.proofs.Transfer.{In}
use Rattle.theory.proofs.Pure
use Rattle.theory.proofs.Interchangeable
use Rattle.theory.proofs.Sound.{Outcome, Rule, skip, after, and_then, State, Sound}
use Rattle.theory.proofs.Turn
use Rattle.theory.proofs.Lists
use Rattle.theory.proofs.Lists.{Lent, lent_out, lent_in, domains_boxed, over-start, file_lent, file_masks, length-narrowed, narrowed-played, narrowed_unplayed}
use Rattle.theory.proofs.OnLists
use Rattle.theory.proofs.OnLists.{lowest_of, answers}

module _ (P : Problem) where
  open P use {n, domain, universal, compatible, constrained}

  -- No domain is empty; a rule that finds no loss leaves none empty.
  abbrev pub Full : Domains → Type 0
  Full D = (j : ℕ) → j < n → (b : ℕ) × In (D j) b

  abbrev pub Fills : Rule → Type 0
  Fills r = (D : Domains) → Full D → (r D).loss ≡ false → Full (r D).dom

  -- Rules one after another; each rule of a turn; the whole turn.
  then_fills : (r s : Rule) → Fills r → Fills s → Fills (and_then r s)
  unfolding and_then after
  then_fills r s f g D h = go (r D).loss refl
    where
      go : (b : Bool) → (r D).loss ≡ b → (after b (r D) s).loss ≡ false → Full (after b (r D) s).dom
      go true e z = f D h z
      go false e z = g (r D).dom (f D h e) z

  choose_fills : (b : Bool) (r : Rule) → Fills r → Fills (cond b r skip)
  choose_fills true r f = f
  choose_fills false r f = λ D h z. h

  sweeps-keep : (k : ℕ) (D : Domains) (j a : ℕ) → universal j ≡ true → T (D j a) → T (sweeps P k D j a)
  unfolding sweeps
  sweeps-keep zero D j a s t = t
  sweeps-keep (suc k) D j a s t = sweeps-keep k (sweep P D) j a s ((Turn.sweep-part P D).keep j a s t)

  pub arc_fills : Fills (Turn.arc P)
  unfolding Turn.arc
  arc_fills D h z j l = go (universal j) refl
    where
      go : (s : Bool) → universal j ≡ s → (b : ℕ) × In (sweeps P (16 * n) D j) b
      go true s = let v = h j l in (v.0, (v.1.0, sweeps-keep (16 * n) D j v.0 s v.1.1))
      go false s = Turn.not_lost P (sweeps P (16 * n) D) z j l s

  pub check_fills : (x : ℕ) (p : Play) → p x < 16 → Fills (Turn.check P x p)
  unfolding Turn.check forward_domains
  check_fills x p k D h z j l = go (eqb j x) refl (ltb x j) refl (universal j) refl
    where
      F : Domains
      F = forward_domains P D x (p x)

      Left : Type 0
      Left = (b : ℕ) × In (F j) b

      same_as : (m : ℕ → Bool) → F j ≡ m → (b : ℕ) × In m b → Left
      same_as m e v = subst (λ (d : ℕ → Bool). (b : ℕ) × In d b) (sym e) v

      go : (e : Bool) → eqb j x ≡ e → (f : Bool) → ltb x j ≡ f → (s : Bool) → universal j ≡ s → Left
      go true e f q s r = same_as (λ b. eqb b (p x)) (fun_ext λ b. rw e) (p x, (k, eqb_refl (p x)))
      go false e true q false r = Turn.value_left P F j λ t. clash z (Turn.forward_loses_at P D x (p x) j l r (ltb-true x j q) t)
      go false e true q true r = same_as (D j) (fun_ext λ b. rw (e, q, r)) (h j l)
      go false e false q s r = same_as (D j) (fun_ext λ b. rw (e, q)) (h j l)

  checks_fills : (k x : ℕ) (p : Play) → ((j : ℕ) → x ≤ j → j < k + x → p j < 16) → Fills (Turn.checks P k x p)
  unfolding Turn.checks
  checks_fills zero x p h = λ D f z. f
  checks_fills (suc k) x p h = then_fills (Turn.check P x p) (Turn.checks P k (suc x) p) (check_fills x p (h x (omega arith) (omega arith))) (checks_fills k (suc x) p (λ j g l. h j (omega arith) (omega arith)))

  ahead_fills : (i : ℕ) → Fills (Turn.ahead P i)
  unfolding Turn.ahead
  ahead_fills i D h z = h

  pub replace_fills : (D : Domains) (i : ℕ) (m : ℕ → Bool) → Full D → (b : ℕ) × In m b → Full (replace D i m)
  replace_fills D i m h v j l = by_eq j i (λ e. rw (e, replace_at D i m) v) (λ e. rw (replace_off D i m j e) (h j l))

  purge_fills : (i : ℕ) → i < n → Fills (Turn.purge P i)
  unfolding Turn.purge
  purge_fills i l D h z = let v = h i l in replace_fills D i (purged P D i) h (Pure.purged-full P D i v.0 v.1)

  represent_fills : (i : ℕ) → i < n → Fills (Turn.represent P i)
  unfolding Turn.represent
  represent_fills i l D h z =
      let v = h i l in
      let r = Interchangeable.represented P D i 16 v.0 v.1.0 (omega arith) v.1.1 in
      replace_fills D i (representatives P D i) h (r.0, r.1)

  turn_fills : (set c i : ℕ) (p : Play) → ((j : ℕ) → j < i → p j < 16) → Fills (Turn.turn-rules P set c i p)
  unfolding Turn.turn-rules
  turn_fills set c i p h =
      then_fills (cond (uses set 2) (Turn.checks P (i - c) c p) skip) rest
      (choose_fills (uses set 2) (Turn.checks P (i - c) c p) (checks_fills (i - c) c p (λ j g l. h j (omega arith))))
      (then_fills (cond (uses set 1) (Turn.arc P) skip) late (choose_fills (uses set 1) (Turn.arc P) arc_fills)
      (test (ltb i n) (λ t. rw (holds {b = ltb i n} t) (own_fills (ltb→lt i n t))) (λ e. rw e λ D f z. f)))
    where
      own : Rule
      own = and_then (cond (uses set 3) (Turn.ahead P i) skip) (and_then (cond (uses set 4) (Turn.purge P i) skip) (cond (uses set 5) (Turn.represent P i) skip))

      late : Rule
      late = cond (ltb i n) own skip

      rest : Rule
      rest = and_then (cond (uses set 1) (Turn.arc P) skip) late

      own_fills : i < n → Fills own
      own_fills l =
          then_fills (cond (uses set 3) (Turn.ahead P i) skip) (and_then (cond (uses set 4) (Turn.purge P i) skip) (cond (uses set 5) (Turn.represent P i) skip))
          (choose_fills (uses set 3) (Turn.ahead P i) (ahead_fills i))
          (then_fills (cond (uses set 4) (Turn.purge P i) skip) (cond (uses set 5) (Turn.represent P i) skip)
          (choose_fills (uses set 4) (Turn.purge P i) (purge_fills i l)) (choose_fills (uses set 5) (Turn.represent P i) (represent_fills i l)))

  -- The rules on lists against the rules on domains -------------------------------------------------------------------------
  abbrev pub Same : Ruled → Outcome → Type 0
  Same o q = (o.loss ≡ q.loss) × Masks n o.list × (domains o.list ≡ q.dom)

  -- A rule on lists does what a rule on domains does.
  abbrev pub Agrees : ListRule → Rule → Type 0
  Agrees r s = (l : List ℕ) → Masks n l → Same (r l) (s (domains l))

  -- No rule, a rule where a set says so, one rule after another; each rule of a turn; the whole turn.
  unruled_agrees : Agrees unruled skip
  unfolding unruled
  unruled_agrees l w = (refl, w, refl)

  if_so_agrees : (b : Bool) (r : ListRule) (s : Rule) → (T b → Agrees r s) → Agrees (if_so b r) (cond b s skip)
  unfolding if_so
  if_so_agrees true r s f l w = f tt l w
  if_so_agrees false r s f l w = unruled_agrees l w

  next_agrees : (r s : ListRule) (r' s' : Rule) → Agrees r r' → Agrees s s' → Agrees (and_next r s) (and_then r' s')
  unfolding and_next and_then after
  next_agrees r s r' s' f g l w = go (r l).loss (r' (domains l)).loss (f l w).0 (f l w)
    where
      go : (b c : Bool) → b ≡ c → Same (r l) (r' (domains l)) → Same (cond b (r l) (s (r l).list)) (after c (r' (domains l)) s')
      go true true e k = k
      go true false e k = absurd (clash e tt)
      go false true e k = absurd (clash (sym e) tt)
      go false false e k = subst (λ (E : Domains). Same (s (r l).list) (s' E)) k.2 (g (r l).list k.1)

  forward_agrees : (x : ℕ) (p : List ℕ) → x < n → get_or p x 0 < 16 → Agrees (forward P x (get_or p x 0)) (Turn.check P x (play_of p))
  unfolding forward Turn.check play_of
  forward_agrees x p h k l w = (refl, OnLists.forward_masks P x (get_or p x 0) l, OnLists.domains-forward P x (get_or p x 0) l h k w)

  no_checks_agree : (x : ℕ) (p : List ℕ) → Agrees (checks P 0 x p) (Turn.checks P 0 x (play_of p))
  unfolding checks Turn.checks
  no_checks_agree x p = unruled_agrees

  checks_agrees : (k x : ℕ) (p : List ℕ) → k + x ≤ n → ((j : ℕ) → x ≤ j → j < k + x → get_or p j 0 < 16) → Agrees (checks P k x p) (Turn.checks P k x (play_of p))
  unfolding checks Turn.checks
  checks_agrees zero x p h f = unruled_agrees
  checks_agrees (suc k) x p h f =
      next_agrees (forward P x (get_or p x 0)) (checks P k (suc x) p) (Turn.check P x (play_of p)) (Turn.checks P k (suc x) (play_of p))
      (forward_agrees x p (omega arith) (f x (omega arith) (omega arith))) (checks_agrees k (suc x) p (omega arith) (λ j g l. f j (omega arith) (omega arith)))

  arc_agrees : Agrees (arc P) (Turn.arc P)
  unfolding arc Turn.arc
  arc_agrees l w = let e = OnLists.domains-swept P (16 * n) l w in (ap (arc_loss P) e, OnLists.swept_masks P (16 * n) l w, e)

  ahead_agrees : (i : ℕ) → Agrees (ahead P i) (Turn.ahead P i)
  unfolding ahead Turn.ahead look_ahead ahead_loss
  ahead_agrees i l w = (refl, w, refl)

  purge_agrees : (i : ℕ) → i < n → Agrees (narrow_pure P i) (Turn.purge P i)
  unfolding narrow_pure Turn.purge
  purge_agrees i h l w = (refl, OnLists.purge_masks P i l h w, OnLists.domains-purge P i l h w)

  represent_agrees : (i : ℕ) → i < n → Agrees (narrow_interchangeable P i) (Turn.represent P i)
  unfolding narrow_interchangeable Turn.represent
  represent_agrees i h l w = (refl, OnLists.represent_masks P i l h w, OnLists.domains-represent P i l h w)

  reached_agrees : (set c : ℕ) (p : List ℕ) → length p ≤ n → ((j : ℕ) → j < length p → get_or p j 0 < 16) → Agrees (reached P set c p) (Turn.turn-rules P set c (length p) (play_of p))
  unfolding reached Turn.turn-rules next_rules
  reached_agrees set c p h f =
      next_agrees (if_so (uses set 2) (checks P (length p - c) c p)) (and_next (if_so (uses set 1) (arc P)) (if_so (ltb (length p) n) (next_rules P set (length p))))
      (cond (uses set 2) (Turn.checks P (length p - c) c (play_of p)) skip) (and_then (cond (uses set 1) (Turn.arc P) skip) (cond (ltb (length p) n) own skip))
      (if_so_agrees (uses set 2) (checks P (length p - c) c p) (Turn.checks P (length p - c) c (play_of p)) λ _. some-checks)
      (next_agrees (if_so (uses set 1) (arc P)) (if_so (ltb (length p) n) (next_rules P set (length p))) (cond (uses set 1) (Turn.arc P) skip) (cond (ltb (length p) n) own skip)
      (if_so_agrees (uses set 1) (arc P) (Turn.arc P) (λ _. arc_agrees))
      (if_so_agrees (ltb (length p) n) (next_rules P set (length p)) own λ t. own_agrees (ltb→lt (length p) n t)))
    where
      i : ℕ
      i = length p

      own : Rule
      own = and_then (cond (uses set 3) (Turn.ahead P i) skip) (and_then (cond (uses set 4) (Turn.purge P i) skip) (cond (uses set 5) (Turn.represent P i) skip))

      some-checks : Agrees (checks P (length p - c) c p) (Turn.checks P (length p - c) c (play_of p))
      some-checks = by_lt (length p) c (λ l. let e : length p - c ≡ 0 = omega arith in rw e (no_checks_agree c p)) (λ l. checks_agrees (length p - c) c p (omega arith) (λ j g k. f j (omega arith)))

      own_agrees : i < n → Agrees (next_rules P set i) own
      own_agrees l =
          next_agrees (if_so (uses set 3) (ahead P i)) (and_next (if_so (uses set 4) (narrow_pure P i)) (if_so (uses set 5) (narrow_interchangeable P i)))
          (cond (uses set 3) (Turn.ahead P i) skip) (and_then (cond (uses set 4) (Turn.purge P i) skip) (cond (uses set 5) (Turn.represent P i) skip))
          (if_so_agrees (uses set 3) (ahead P i) (Turn.ahead P i) (λ _. ahead_agrees i))
          (next_agrees (if_so (uses set 4) (narrow_pure P i)) (if_so (uses set 5) (narrow_interchangeable P i)) (cond (uses set 4) (Turn.purge P i) skip) (cond (uses set 5) (Turn.represent P i) skip)
          (if_so_agrees (uses set 4) (narrow_pure P i) (Turn.purge P i) (λ _. purge_agrees i l)) (if_so_agrees (uses set 5) (narrow_interchangeable P i) (Turn.represent P i) (λ _. represent_agrees i l)))

  -- A turn --------------------------------------------------------------------------------------------------------------------
  pub at_lent : (p l : List ℕ) → AtTurn P p l → Lent P l
  at_lent p l w = lent_out P l w.may

  played_in : (p l : List ℕ) → AtTurn P p l → (j : ℕ) → j < length p → In (domains l j) (play_of p j)
  unfolding domains play_of
  played_in p l w j h =
      let t : T (bit (get_or l j 0) (get_or p j 0)) = rw (w.played j h, bit_single (get_or p j 0) (get_or p j 0)) (eqb_refl (get_or p j 0)) in
      ((domains_boxed n l (at_lent p l w).masks j (get_or p j 0) t).1, t)

  played-only : (p l : List ℕ) → AtTurn P p l → (j : ℕ) → j < length p → (a : ℕ) → In (domains l j) a → a ≡ play_of p j
  unfolding domains play_of
  played-only p l w j h a m = eqb→eq a (get_or p j 0) (rw (w.played j h, bit_single (get_or p j 0) a) at m.1)

  pub at_state : (p l : List ℕ) → AtTurn P p l → State P (length p) (play_of p) (domains l)
  at_state p l w = record {
    played = λ j h. (played_in p l w j h, played-only p l w j h);
    foe = lowest_of P l;
    foe_in = answers P l (at_lent p l w);
  }

  module _ (set c : ℕ) (p l : List ℕ) (w : AtTurn P p l) (cp : c ≤ length p) where
    small : (j : ℕ) → j < length p → get_or p j 0 < 16
    unfolding play_of
    small j h = (played_in p l w j h).0

    on_domains : Outcome
    on_domains = Turn.turn-rules P set c (length p) (play_of p) (domains l)

    agree : Same (reached P set c p l) on_domains
    unfolding on_domains
    agree = reached_agrees set c p w.depth small l (at_lent p l w).masks

    sound : Sound P (length p) (play_of p) (domains l) on_domains
    unfolding on_domains
    sound = Turn.turn_keeps P set c (length p) (play_of p) cp w.depth (domains l) (at_state p l w)

    -- The list that a turn reaches has the verdict of the list it started from; a loss means lost.
    pub turn_law : wins_over P l ≡ (not (reached P set c p l).loss && wins_over P (reached P set c p l).list)
    turn_law =
        over-start P l ∙ sound.law
        ∙ sym (rw (agree.0, over-start P (reached P set c p l).list, agree.2))

    module _ (e : (reached P set c p l).loss ≡ false) where
      on_list : (j a : ℕ) → domains (reached P set c p l).list j a ≡ on_domains.dom j a
      on_list j a = ap (λ (D : Domains). D j a) agree.2

      filled : (j : ℕ) → j < n → (b : ℕ) × In (domains (reached P set c p l).list j) b
      unfolding on_domains play_of
      filled j h =
          let r = turn_fills set c (length p) (play_of p) small (domains l) (at_lent p l w).full (sym agree.0 ∙ e) j h in
          (r.0, (r.1.0, rw (on_list j r.0) r.1.1))

      mask : (j : ℕ) → j < length p → get_or (reached P set c p l).list j 0 ≡ 2 ^ get_or p j 0
      unfolding domains play_of
      mask j h =
          let s = (sound.state (sym agree.0 ∙ e)).played j h in
          bit_ext 16 (get_or (reached P set c p l).list j 0) (2 ^ get_or p j 0) (agree.1.small j) (pow-lt (small j h)) λ k b.
          on_list j k ∙ same (on_domains.dom j k) (eqb k (get_or p j 0)) (λ t. rw (s.1 k (b, t)) (eqb_refl (get_or p j 0))) (λ t. rw (eqb→eq k (get_or p j 0) t) s.0.1)
          ∙ sym (bit_single (get_or p j 0) k)

      -- Without a loss it is a list of the turn again.
      pub turn-list : AtTurn P p (reached P set c p l).list
      turn-list = record {
        may = lent_in P (reached P set c p l).list (record {
          masks = agree.1;
          full = filled;
          within = λ i a t. let b = domains_boxed n (reached P set c p l).list agree.1 i a t in (at_lent p l w).within i a (sound.sub i a b.1 (rw (on_list i a) at t));
        });
        depth = w.depth;
        played = mask;
      }

  -- The first turn's list -----------------------------------------------------------------------------------------------------
  -- What the test says of a position, and what shows it.
  pub legal_out : (p : List ℕ) → T (legal P p) → (length p ≤ n) × ((j : ℕ) → j < length p → T (domains domain j (get_or p j 0)))
  unfolding legal
  legal_out p t =
      let r = and_out (leb (length p) n) (each (length p) (λ j. true) (λ j. domains domain j (get_or p j 0))) t in
      (leb→le (length p) n r.0, λ j h. each_out (length p) (λ j. true) (λ j. domains domain j (get_or p j 0)) r.1 j h tt)

  pub legal_in : (p : List ℕ) → length p ≤ n → ((j : ℕ) → j < length p → T (domains domain j (get_or p j 0))) → T (legal P p)
  unfolding legal
  legal_in p h f =
      and_in (leb (length p) n) (each (length p) (λ j. true) (λ j. domains domain j (get_or p j 0))) (le→leb (length p) n h)
      (each_in (length p) (λ j. true) (λ j. domains domain j (get_or p j 0)) (λ j k _. f j k))

  -- The first turn's list is one of the turn.
  pub first-list : (p : List ℕ) → T (legal P p) → AtTurn P p (first_list P p)
  unfolding first_list position domains
  first-list p t = record {
    may = lent_in P (narrowed domain p) (record {
      masks = record {
        size = length-narrowed domain p ∙ P.sized;
        small = λ i. by_lt i (length p) (λ h. rw (below i h) (pow-lt (value i h).1)) (λ h. rw (narrowed_unplayed domain p i h) (P.bounded i));
      };
      full = λ i h. by_lt i (length p)
          (λ k. (get_or p i 0, ((value i k).1, rw (below i k, bit_single (get_or p i 0) (get_or p i 0)) (eqb_refl (get_or p i 0)))))
          (λ k. let v = (file_lent P).full i h in (v.0, (v.1.0, rw (narrowed_unplayed domain p i k) v.1.1)));
      within = λ i a s. by_lt i (length p)
          (λ k. rw (eqb→eq a (get_or p i 0) (rw (below i k, bit_single (get_or p i 0) a) at s)) (r.1 i k))
          (λ k. rw (narrowed_unplayed domain p i k) at s);
    });
    depth = r.0;
    played = below;
  }
    where
      r : (length p ≤ n) × ((j : ℕ) → j < length p → T (domains domain j (get_or p j 0)))
      r = legal_out p t

      below : (j : ℕ) → j < length p → get_or (narrowed domain p) j 0 ≡ 2 ^ get_or p j 0
      below j h = let d = r.0 in let e = P.sized in narrowed-played domain p j (omega arith) h

      value : (j : ℕ) → j < length p → (j < n) × (get_or p j 0 < 16)
      value j h = domains_boxed n domain (file_masks P) j (get_or p j 0) (r.1 j h)

  -- The next turn's list ------------------------------------------------------------------------------------------------------
  pub snoc_length : (p : List ℕ) (a : ℕ) → length (p ++ (a ∷ [])) ≡ suc (length p)
  snoc_length p a = let e = length-append p (a ∷ []) in omega arith

  -- The next turn's list is one of the next turn.
  pub next-list : (p l : List ℕ) (a : ℕ) → AtTurn P p l → length p < n → T (domains l (length p) a) → AtTurn P (p ++ (a ∷ [])) (next_list P l (length p) a)
  unfolding next_list narrow_to
  next-list p l a w h t = record {
    may = lent_in P (set l i (2 ^ a)) (record {
      masks = Lists.masks_narrow_to n l i a h v m;
      full = λ j k. by_eq j i
          (λ e. (a, (v, rw (e, on i a, replace_at (domains l) i (λ b. eqb b a)) (eqb_refl a))))
          (λ e. let u = (at_lent p l w).full j k in (u.0, (u.1.0, rw (on j u.0, replace_off (domains l) i (λ b. eqb b a) j e) u.1.1)));
      within = λ j b s. (at_lent p l w).within j b (by_eq j i
          (λ e. let u : T (narrow (domains l) i a j b) = rw (on j b) at s in
          let z : T (eqb b a) = rw (e, replace_at (domains l) i (λ b. eqb b a)) at u in rw (e, eqb→eq b a z) t)
          (λ e. rw (on j b, replace_off (domains l) i (λ b. eqb b a) j e) at s));
    });
    depth = rw (snoc_length p a) h;
    played = λ j k. by_eq j i (λ e. rw (e, get_or-set_same l i (2 ^ a) 0 long, get_or-append_seam p a [] 0)) (λ e. before j e k);
  }
    where
      i : ℕ
      i = length p

      m : Masks n l
      m = (at_lent p l w).masks

      v : a < 16
      v = (domains_boxed n l m (length p) a t).1

      long : length p < length l
      long = let e = m.size in omega arith

      before : (j : ℕ) → ¬ (j ≡ length p) → j < length (p ++ (a ∷ [])) → get_or (set l (length p) (2 ^ a)) j 0 ≡ 2 ^ get_or (p ++ (a ∷ [])) j 0
      before j e k =
          let q = snoc_length p a in
          let b : j < length p = omega arith in
          rw (get_or-set_other l (length p) j (2 ^ a) 0 e, get_or-append p (a ∷ []) 0 j b) (w.played j b)

      on : (j b : ℕ) → domains (set l i (2 ^ a)) j b ≡ narrow (domains l) i a j b
      on j b = ap (λ (D : Domains). D j b) (Lists.domains-narrow_to n l i a h m)
