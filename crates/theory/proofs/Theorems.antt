-- What is proved of the game, of rules 1 to 5, of the turn and of the search. Each statement stands beside the sentence of document 01 that
-- it answers; the proofs are in the other files. P is any problem, l any list that may be lent ("n masks, none zero, each within the file's
-- mask"), p any plays, S any rule set. The laws that all of them rest on are transfer, monotone, prune and outcome in Transfer, narrowing and
-- pruning in Laws. What the statements speak of stands in game/specs and theory/specs.
use mathlib.Core.Path.{◌≡◌, ap, ◌∙◌, refl, sym, fun_ext}
use mathlib.Core.Bool.{true, false, not, ◌&&◌, cond, and-false}
use mathlib.Core.List.{List, [], ◌∷◌, ◌++◌}
use Prim.Native.Nat.{ℕ, ◌≤◌, ◌<◌, suc, ◌+◌, ◌-◌, ◌^◌}
use native.Mathlib.Omega.{arith}
use lib.Dec.{T, eqb, ltb}
use lib.Count.{ones}
use lib.ListN.{get_or, length, set}
use mathlib.Core.Logic.{◌⊎◌}
use lib.Bits.{bit_or, or_zero_r}
use Rattle.mask.specs.Range.{first}
use Rattle.mask.specs.Mask.{bit, diff, mask_of}
use Rattle.mask.proofs.Logic.{holds, test}
use Rattle.game.specs.Problem.{Problem}
use Rattle.game.specs.Game.{turn, satisfied}
use Rattle.game.specs.Lists.{domains, narrow_to, may_lend, wins_over}
use Rattle.game.specs.Position.{play_of, legal}
use Rattle.game.specs.Calls.{Call, standing}
use Rattle.game.specs.Open.{stuck, open_values, open_counts}
use Rattle.game.specs.Winning.{verdict, winning_values}
use Rattle.game.specs.Rule.{uses, ListRule, unruled, if_so, and_next}
use Rattle.game.specs.Arc.{arc, arc_loss}
use Rattle.game.specs.Removals.{Removals, NoneDead}
use Rattle.game.specs.Forward.{forward_fails, forward, forward_named}
use Rattle.game.specs.LookAhead.{look_ahead, ahead_named}
use Rattle.game.specs.Pure.{is_pure, pure, purge, is_impure, clash_variable, clash_value}
use Rattle.game.specs.Interchangeable.{interchangeable, represent}
use Rattle.game.specs.Turn.{first_list, next_list, checks, reached, turn_named}
use Rattle.game.specs.Reasons.{Sheet, idle, chain, choose, explain_checks, arc_conflict, explained}
use Rattle.game.specs.Search.{Ending, solved, failed, is_solved, handed, hand_up, first_broken, check_set, skippable, narrow_next, search, search_from, marked_values}
use Rattle.game.specs.Turns.{TurnOf, first as from-position, turn_below}
use Rattle.game.specs.Skipping.{skipping_turn}
use Rattle.theory.specs.SameGame.{SameGame}
use Rattle.theory.specs.TurnList.{AtTurn}
use Rattle.theory.specs.OtherSets.{Others}
use Rattle.theory.specs.AnyOrder.{Revisions}
use Rattle.theory.proofs.Transfer
use Rattle.theory.proofs.Lists
use Rattle.theory.proofs.Lists.{Lent, lent_out, lent_in}
use Rattle.theory.proofs.OnLists
use Rattle.theory.proofs.Narrowings
use Rattle.theory.proofs.TurnLists
use Rattle.theory.proofs.Standing
use Rattle.theory.proofs.Sets
use Rattle.theory.proofs.Values
use Rattle.theory.proofs.Standing.{legal_snoc}
use Rattle.theory.proofs.Turns
use Rattle.theory.proofs.Turns.{At, turn_at}
use Rattle.theory.proofs.Named
use Rattle.theory.proofs.OpenChecks
use Rattle.theory.proofs.LastChecks
use Rattle.theory.proofs.SameLeaf
use Rattle.theory.proofs.SameGame

module _ (P : Problem) where
  open P use {n, domain, universal, compatible}

  -- THE GAME ------------------------------------------------------------------------------------------------------------------
  -- The calls' plain list is always a position: no more than n plays, each in its variable's domain.
  pub standing_is_position : (calls : List Call) → T (legal P (standing P calls).plays)
  standing_is_position calls = Standing.standing-legal P calls

  -- No more plays are held than stand.
  pub standing_depth : (calls : List Call) → (standing P calls).depth ≤ length (standing P calls).plays
  standing_depth calls = Standing.standing_depth_lem P calls

  -- "At a shift's choice, some option in its mask must lead to a win; at a day's choice, every option must."
  pub verdict_unfolds : (p : List ℕ) → T (legal P p) → length p < n
      → verdict P p ≡ turn (universal (length p)) (domains domain (length p)) (λ a. verdict P (p ++ (a ∷ [])))
  verdict_unfolds p t h = Standing.verdict-next P p t h

  -- "When all choices have an option, the game is won if every table holds." Plays that clash lose.
  pub verdict_played_out : (p : List ℕ) → T (legal P p) → length p ≡ n → verdict P p ≡ satisfied compatible n (play_of p)
  verdict_played_out p t e = Standing.verdict_end P p t e

  -- A value of the next variable is marked as winning exactly if it is in the file's mask and its play wins.
  pub winning_values_lem : (p : List ℕ) (a : ℕ) → a < 16 → bit (winning_values P p) a ≡ (domains domain (length p) a && verdict P (p ++ (a ∷ [])))
  winning_values_lem p a h = Standing.winning_is P p a h

  -- So a position whose next variable is existential is won exactly if some value wins, one whose next is universal if all of its mask do.
  pub won_by_some : (p : List ℕ) → T (legal P p) → length p < n → universal (length p) ≡ false → verdict P p ≡ not (eqb (winning_values P p) 0)
  won_by_some p t h s = Standing.winning_existential P p t h s

  pub won_by_all : (p : List ℕ) → T (legal P p) → length p < n → universal (length p) ≡ true → verdict P p ≡ eqb (winning_values P p) (get_or domain (length p) 0)
  won_by_all p t h s = Standing.winning_universal P p t h s

  -- "The reply also counts the options open at each choice": ones of each mask.
  pub open_counts_lem : (p : List ℕ) (j : ℕ) → j < n → get_or (open_counts P p) j 0 ≡ ones (get_or (open_values P p) j 0)
  open_counts_lem p j h = Standing.open_count P p j h

  -- Fewer values at universal variables and more at existential ones keep a win.
  pub wins_monotone : (l m : List ℕ)
      → ((j a : ℕ) → universal j ≡ true → T (domains m j a) → T (domains l j a))
      → ((j a : ℕ) → universal j ≡ false → T (domains l j a) → T (domains m j a)) → T (wins_over P l) → T (wins_over P m)
  wins_monotone l m u e t =
      rw (Lists.over-start P m) (Transfer.monotone n universal (satisfied compatible n) (domains l) (domains m) 0 (λ j _ _ s a k. u j a s k.1) (λ j _ _ s a k. e j a s k.1) (λ j. 0) (omega arith)
      (rw (Lists.over-start P l) at t))

  -- Only what lies inside the domains counts: a problem with the same variables, sides and domains, and the same values that go together
  -- within these, has the same verdict.
  pub verdict_same : (Q : Problem) → SameGame P Q → (p : List ℕ) → T (legal P p) → verdict P p ≡ verdict Q p
  verdict_same Q g p t = SameGame.same_verdict P Q g p t

  -- THE RULES ALONE, on a list that may be lent -------------------------------------------------------------------------------
  module _ (l : List ℕ) (may : T (may_lend P l)) where
    lent : Lent P l
    lent = lent_out P l may

    -- Rule 1. "Won before exactly if no loss and won after."
    pub arc-verdict : wins_over P l ≡ (not (arc P l).loss && wins_over P (arc P l).list)
    arc-verdict = OnLists.arc_law P l lent

    -- "Dead options are removed until none is left; the list then holds that result, also in a loss."
    pub arc_removes : Removals P l (arc P l).list × NoneDead P (arc P l).list
    arc_removes = (OnLists.arc_removals P l lent.masks, OnLists.arc_none_dead P l lent.masks)

    -- The order does not matter: any removals of dead values, one or many at a time, that leave none dead end in this list.
    pub arc_any_order : (m : List ℕ) → Removals P l m → NoneDead P m → m ≡ (arc P l).list
    arc_any_order m r c = OnLists.arc_order P l m lent r c

    pub arc_may_lend : (arc P l).loss ≡ false → T (may_lend P (arc P l).list)
    arc_may_lend e = lent_in P (arc P l).list (Narrowings.arc_lent P l lent e)

    module _ (x : ℕ) (lx : x < n) where
      -- Rule 2. "Same law, for the list with that choice narrowed."
      pub forward-verdict : (a : ℕ) → T (domains l x a) → wins_over P (narrow_to l x a) ≡ (not (forward P x a l).loss && wins_over P (forward P x a l).list)
      forward-verdict a t = OnLists.forward_law P l lent x a lx t

      pub forward_may_lend : (a : ℕ) → T (domains l x a) → (forward P x a l).loss ≡ false → T (may_lend P (forward P x a l).list)
      forward_may_lend a t e = lent_in P (forward P x a l).list (Narrowings.forward_lent P l lent x a lx t e)

      -- A loss names the lowest later variable whose mask is emptied (existential) or holds a clash (universal).
      pub forward_names : (a : ℕ) → T (forward P x a l).loss
          → let j = forward_named P x a l in (x < j) × (j < n) × T (forward_fails P (domains l) x a j) × ((i : ℕ) → x < i → i < j → forward_fails P (domains l) x a i ≡ false)
      forward_names a t = OnLists.forward_named_lem P x a l t

      -- Rule 3. "The game over the list is then lost. Called on a shift's choice it says no loss."
      pub ahead_lost : T (look_ahead P x l) → wins_over P l ≡ false
      ahead_lost t = OnLists.ahead_law P l lent x lx t

      -- A loss names the lowest value whose forward check is a loss.
      pub ahead_names : T (look_ahead P x l)
          → let a = ahead_named P x l in (a < 16) × T (domains l x a) × T (forward P x a l).loss × ((b : ℕ) → b < a → T (domains l x b) → (forward P x b l).loss ≡ false)
      ahead_names t = OnLists.ahead_named_lem P x l t

      pub ahead_existential : universal x ≡ false → look_ahead P x l ≡ false
      ahead_existential s = OnLists.ahead_existential P l x s

      -- Rule 4, at every variable: the narrowing keeps the verdict, and the list may be lent again.
      pub pure-verdict : wins_over P l ≡ wins_over P (purge P x l)
      pure-verdict = OnLists.purge_law P l lent x lx

      pub pure_may_lend : T (may_lend P (purge P x l))
      pure_may_lend = lent_in P (purge P x l) (Narrowings.purge_lent P l lent x lx)

      -- "Shift: if any is pure, narrowing to the smallest keeps the verdict."
      pub pure_smallest : universal x ≡ false → ¬ (pure P x l ≡ 0) → wins_over P l ≡ wins_over P (narrow_to l x (first 16 (bit (pure P x l))))
      pure_smallest s ne = pure-verdict ∙ ap (wins_over P) (Narrowings.purge_existential P l lent.masks x lx s ne)

      -- "Day: narrowing to the options that are not pure keeps it; where all are pure, the smallest stays."
      pub pure-rest : universal x ≡ true → ¬ (diff (get_or l x 0) (pure P x l) ≡ 0) → wins_over P l ≡ wins_over P (set l x (diff (get_or l x 0) (pure P x l)))
      pure-rest s ne = pure-verdict ∙ ap (wins_over P) (Narrowings.purge-universal P l lent.masks x lx s ne)

      pub pure_all : universal x ≡ true → diff (get_or l x 0) (pure P x l) ≡ 0 → wins_over P l ≡ wins_over P (narrow_to l x (first 16 (domains l x)))
      pure_all s e = let v = lent.full x lx in pure-verdict ∙ ap (wins_over P) (Narrowings.purge_all P l lent.masks x lx s v.0 v.1 e)

      -- Card 5. "The first choice and option in that order which it does not go with": for a value that is not pure a value of another variable is
      -- named that it does not go with; it goes with every value of an earlier variable, and with every earlier value of this one.
      pub pure-names : (a : ℕ) → T (is_impure P (domains l) x a)
          → let j = clash_variable P (domains l) x a in
          let b = clash_value P (domains l) x a in
          (j < n) × ¬ (j ≡ x) × (b < 16) × T (domains l j b) × (compatible x a j b ≡ false)
          × ((i c : ℕ) → i < j → ¬ (i ≡ x) → c < 16 → T (domains l i c) → T (compatible x a i c))
          × ((c : ℕ) → c < b → T (domains l j c) → T (compatible x a j c))
      pure-names a t = OnLists.clash_named_lem P x a l t

      -- "And nothing for the others": for a pure value there is no name.
      pub pure_unnamed : (a : ℕ) → T (is_pure P (domains l) x a) → (clash_variable P (domains l) x a ≡ n) × (clash_value P (domains l) x a ≡ 16)
      pure_unnamed a t = OnLists.clash_none_lem P x a l lent.masks t

      -- Rule 5, at every variable. "The reply is the mask of the smallest of each group. Narrowing keeps the verdict."
      pub interchangeable-verdict : wins_over P l ≡ wins_over P (set l x (interchangeable P x l))
      unfolding represent
      interchangeable-verdict = OnLists.represent_law P l lent x lx

      pub interchangeable_may_lend : T (may_lend P (set l x (interchangeable P x l)))
      unfolding represent
      interchangeable_may_lend = lent_in P (represent P x l) (Narrowings.represent_lent P l lent x lx)

  -- THE TURN, under every set -------------------------------------------------------------------------------------------------
  -- The lists of turns: the first from a position, a turn's own list where its rules found no loss, and the next turn's.
  pub first-turn : (p : List ℕ) → T (legal P p) → AtTurn P p (first_list P p)
  first-turn p t = TurnLists.first-list P p t

  pub turn_continues : (set c : ℕ) (p l : List ℕ) → AtTurn P p l → c ≤ length p → (reached P set c p l).loss ≡ false → AtTurn P p (reached P set c p l).list
  turn_continues set c p l w h e = TurnLists.turn-list P set c p l w h e

  pub next-turn : (p l : List ℕ) (a : ℕ) → AtTurn P p l → length p < n → T (domains l (length p) a) → AtTurn P (p ++ (a ∷ [])) (next_list P l (length p) a)
  next-turn p l a w h t = TurnLists.next-list P p l a w h t

  -- The list that a turn reaches has the verdict of the list it started from; a loss means lost.
  pub turn-verdict : (set c : ℕ) (p l : List ℕ) → AtTurn P p l → c ≤ length p
      → wins_over P l ≡ (not (reached P set c p l).loss && wins_over P (reached P set c p l).list)
  turn-verdict set c p l w h = TurnLists.turn_law P set c p l w h

  pub turn_lost : (set c : ℕ) (p l : List ℕ) → AtTurn P p l → c ≤ length p → (reached P set c p l).loss ≡ true → wins_over P l ≡ false
  turn_lost set c p l w h e = turn-verdict set c p l w h ∙ rw e

  -- So the first turn of a position, where no play is checked yet.
  pub position-verdict : (set : ℕ) (p : List ℕ) → T (legal P p)
      → verdict P p ≡ (not (reached P set 0 p (first_list P p)).loss && wins_over P (reached P set 0 p (first_list P p)).list)
  unfolding verdict first_list
  position-verdict set p t = turn-verdict set 0 p (first_list P p) (first-turn p t) (omega arith)

  -- "Rule set 0 is the plain game": its turns leave every list as it is. Rules 6 and 7 change no list.
  pub set_0_is_plain : (c : ℕ) (p : List ℕ) → reached P 0 c p ≡ unruled
  set_0_is_plain c p = Sets.plain_turn P c p

  pub first_five_decide : (s t c : ℕ) (p : List ℕ) → ((k : ℕ) → k < 6 → uses s k ≡ uses t k) → reached P s c p ≡ reached P t c p
  first_five_decide s t c p e = Sets.same_turn P s t c p e

  -- OPEN VALUES (document 02, card 3) -----------------------------------------------------------------------------------------
  -- They are rule 2's: nothing is usable exactly where rule 2 over all plays, from the list of the position, finds a loss; otherwise the open
  -- values are the list that it leaves.
  pub open_by_rule_2 : (p : List ℕ) → T (legal P p)
      → (stuck P p ≡ (reached P 2 0 p (first_list P p)).loss) × (stuck P p ≡ false → open_values P p ≡ (reached P 2 0 p (first_list P p)).list)
  open_by_rule_2 p t =
      let e : reached P 2 0 p ≡ checks P (length p) 0 p = Sets.checks-turn P 0 p ∙ ap (λ (k : ℕ). checks P k 0 p) (omega arith) in
      rw e (OpenChecks.stuck-checks P p t, OpenChecks.open_checks P p t)

  -- "Positions that were lost already."
  pub stuck_lost : (p : List ℕ) → T (legal P p) → stuck P p ≡ true → verdict P p ≡ false
  stuck_lost p t e = position-verdict 2 p t ∙ rw (sym (open_by_rule_2 p t).0 ∙ e)

  -- In a fresh position everything is usable.
  pub fresh-not-stuck : stuck P [] ≡ false
  unfolding checks unruled
  fresh-not-stuck = OpenChecks.stuck-checks P [] (Standing.legal_none P)

-- Rules that are switched off change nothing: a rule that is off is no rule, and no rule before or after another leaves that one.
pub off_changes_nothing : (r : ListRule) → (if_so false r ≡ unruled) × (and_next unruled r ≡ r) × (and_next r unruled ≡ r)
off_changes_nothing r = (Sets.off_is_none r, Sets.none_first r, Sets.none_last r)

-- THE SEARCH ----------------------------------------------------------------------------------------------------------------------
module _ (P : Problem) where
  open P use {n, universal, compatible, constrained}

  -- EVERY TURN that a search under S from the plays p₀ may come to -------------------------------------------------------------
  module _ (S : ℕ) (p₀ : List ℕ) (start : T (legal P p₀)) (c : ℕ) (p l R : List ℕ) (turn : TurnOf P S p₀ c p l R) where
    on : At P c p l R
    on = turn_at P S p₀ start c p l R turn

    left : (n - length p) + length p ≡ n
    left = let d = on.entry.depth in omega arith

    -- Its depth; its answer; the list that its rules reach; the answer of the turn below where value a is played, k variables being left then.
    abbrev pub i : ℕ
    i = length p

    abbrev pub answer : Ending
    answer = search P S c (n - length p) p l R

    abbrev pub list : List ℕ
    list = (reached P S c p l).list

    abbrev pub below : ℕ → ℕ → Ending
    below k a = turn_below P S k p (reached P S c p l).list (explained P S c p l R).why a

    -- Its plays are a position; its list may be lent and has each played variable narrowed.
    pub turn-position : T (legal P p) × AtTurn P p l
    turn-position = (on.legal_plays, Turns.turn-list P S p₀ start c p l R turn)

    -- The verdict is the game's, under every set.
    pub turn_answers : is_solved answer ≡ verdict P p
    turn_answers = Turns.answer P S c (n - length p) p l R left on

    -- "The turn's statement names the list so reached": the rules with reasons reach it, and find a loss exactly where the plain rules do.
    pub turn-loss : (explained P S c p l R).loss ≡ (reached P S c p l).loss
    turn-loss = sym (Turns.entry_loss P S c p l R on.checked on.entry)

    pub turn_reaches : i < n → (reached P S c p l).loss ≡ false → (narrow_next P S i (explained P S c p l R).list).list ≡ list
    turn_reaches h e = sym (Turns.entry_list P S c p l R on.checked on.entry h e)

    -- At a loss the list is as the rule that found it left it; where all are played no rule narrows.
    pub turn_lost_list : (reached P S c p l).loss ≡ true → (explained P S c p l R).list ≡ list
    turn_lost_list e = sym (Turns.lost_list P S c p l R on.checked on.entry (turn-loss ∙ e))

    pub turn_end_list : i ≡ n → (explained P S c p l R).list ≡ list
    turn_end_list e = sym (Turns.end_list P S c p l R on.checked on.entry e)

    -- Rule 6. "Every position of the same depth that has the same options at these choices is lost too."
    pub turn-conflict : (U : ℕ) → answer ≡ failed U
        → (q : List ℕ) → T (legal P q) → length q ≡ i → ((j : ℕ) → j < i → T (bit U j) → get_or q j 0 ≡ get_or p j 0) → verdict P q ≡ false
    turn-conflict U e = Turns.answer-set P S c (n - length p) p l R left on U e

    -- "A loss found in search carries a set of played choices"; without rule 6 all of them.
    pub turn-conflict-played : (U : ℕ) → answer ≡ failed U → (j : ℕ) → T (bit U j) → j < i
    turn-conflict-played U e = Turns.set-played P S c (n - length p) p l R U e

    pub turn_conflict_whole : (U : ℕ) → answer ≡ failed U → uses S 6 ≡ false → (j : ℕ) → j < i → T (bit U j)
    turn_conflict_whole U e = Turns.set_whole P S c (n - length p) p l R U e

    -- Card 2: "On either loss in a turn, the jump set holds at least the played choices that share a table with the choice named": `turn_named` is the
    -- variable that the loss of rule 2 or of rule 3 names, n where neither finds it.
    pub turn_names : (U : ℕ) → answer ≡ failed U → turn_named P S c p l < n → (j : ℕ) → j < i → T (constrained (turn_named P S c p l) j) → T (bit U j)
    turn_names U e h j k t = Named.turn_names P S c p l R on (n - length p) U j left e h k t

    -- A loss of the turn has a name unless rule 1 finds it; without a loss nothing is named.
    pub turn_named_lem : (reached P S c p l).loss ≡ true
        → (let two = if_so (uses S 2) (checks P (i - c) c p) l in two.loss ≡ false → (if_so (uses S 1) (arc P) two.list).loss ≡ false) → turn_named P S c p l < n
    turn_named_lem = Named.turn_named_lem P S c p l

    pub turn_named_lost : turn_named P S c p l < n → (reached P S c p l).loss ≡ true
    turn_named_lost = Named.named_lost P S c p l

    -- "A lost leaf carries the two choices of its first broken table", whatever rule found the loss; where rule 2 did, its conflict set too. Where
    -- none is broken the leaf is won.
    pub turn-leaf : i ≡ n → search P S c 0 p l R ≡ cond (satisfied compatible n (play_of p)) (solved p) (failed (handed (uses S 6) n (bit_or (first_broken P p) (check_set P S c p l R))))
    turn-leaf e = Turns.answer_end P S c p l R e on

    -- Below another turn the leaf carries these two alone: the last play has no later variable that rule 2 could lose at.
    pub turn-leaf-below : i ≡ n → n ≤ suc c → search P S c 0 p l R ≡ cond (satisfied compatible n (play_of p)) (solved p) (failed (handed (uses S 6) n (first_broken P p)))
    turn-leaf-below e h =
        turn-leaf e ∙ ap (λ U. cond (satisfied compatible n (play_of p)) (solved p) (failed (handed (uses S 6) n U)))
        (ap (bit_or (first_broken P p)) (LastChecks.late_none P S c p l R h) ∙ or_zero_r (first_broken P p))

    -- Where none is broken the rules find no loss and change nothing.
    pub turn-leaf-list : i ≡ n → T (satisfied compatible n (play_of p)) → ((reached P S c p l).loss ≡ false) × (list ≡ l)
    turn-leaf-list e t =
        let calm = sym turn-loss ∙ Turns.leaf_calm P S c p l R e on t in
        let a = turn-position.1 in
        (calm, Turns.played_same P p list l e (TurnLists.turn-list P S c p l a on.checked calm) a)

    -- "A shift's choice outside the set of an option's loss tries no further option and is lost with that set": value a is the first of the
    -- list whose loss does not name the turn's variable.
    pub turn_jumps : (k : ℕ) → suc k + i ≡ n → (reached P S c p l).loss ≡ false → universal i ≡ false → uses S 6 ≡ true
        → (a U : ℕ) → T (domains list i a) → below k a ≡ failed U → bit U i ≡ false
        → ((x : ℕ) → x < a → T (domains list i x) → (W : ℕ) × (below k x ≡ failed W) × T (bit W i))
        → search P S c (suc k) p l R ≡ failed U
    turn_jumps k lk = Turns.jumps P S c k p l R (omega arith) on

    -- Rule 7. The leaf handed up is a play of all variables that extends the turn's, inside the turn's list, and breaks no table.
    pub turn_hands_leaf : (q : List ℕ) → answer ≡ solved q
        → (length q ≡ n) × T (legal P q) × ((j : ℕ) → j < i → get_or q j 0 ≡ get_or p j 0) × T (satisfied compatible n (play_of q)) × ((j : ℕ) → j < n → T (domains l j (get_or q j 0)))
    turn_hands_leaf q e = Turns.answer-leaf P S c (n - length p) p l R left on q e

    module _ (k : ℕ) (lk : suc k + i ≡ n) (calm : (reached P S c p l).loss ≡ false) (side : universal i ≡ true) where
      -- "After the winning leaf that the turn below hands up, an untried option of a day's choice is skipped if, and only if," the test holds of
      -- one of the leaves handed up before it is reached (`skipping` of game).
      pub turn_skips : search P S c (suc k) p l R ≡ hand_up (uses S 6) i (skipping_turn P S k p list (explained P S c p l R).why)
      turn_skips = Turns.skips_exactly P S c k p l R lk on calm side

      -- A value that passes the test with a leaf r that some turn below hands up leads to a win.
      pub turn_skips_wins : (b : ℕ) (r : List ℕ) → T (domains list i b) → below k b ≡ solved r
          → (a : ℕ) → T (domains list i a) → T (skippable P list i r a) → verdict P (p ++ (a ∷ [])) ≡ true
      turn_skips_wins = Turns.skips_wins P S c k p l R lk on calm side

    -- Conflict sets never change verdict or leaf: with or without rule 6 the same leaf is handed up.
    pub turn_same_leaf : (U : ℕ) → Others S U → (q : List ℕ) → answer ≡ solved q → search P U c (n - length p) p l R ≡ solved q
    turn_same_leaf U h q e = SameLeaf.same_leaf P (n - length p) S U h c p l R left on q e

    -- Rule 1 with reasons, in any order: from what rule 2 left, revisions that leave no dead value end in rule 1's list, and the conflict set of a loss
    -- keeps rule 6's law.
    pub turn-revisions : let o = choose (uses S 2) (explain_checks P (i - c) c p) l R in o.loss ≡ false → (t : Sheet) → Revisions P (record { list = o.list; why = o.why }) t
        → (NoneDead P t.list → t.list ≡ (arc P o.list).list)
        × (T (arc_loss P (domains t.list)) → (q : List ℕ) → T (legal P q) → length q ≡ i
        → ((j : ℕ) → j < i → T (bit (arc_conflict P t.list t.why) j) → get_or q j 0 ≡ get_or p j 0) → verdict P q ≡ false)
    turn-revisions = Turns.revisions-answer P S c p l R on

  -- THE SEARCH FROM A POSITION --------------------------------------------------------------------------------------------------
  -- The verdict is the game's, from every position under every set.
  pub search_answers : (S : ℕ) (p : List ℕ) → T (legal P p) → is_solved (search_from P S p) ≡ verdict P p
  unfolding search_from
  search_answers S p t = turn_answers S p t 0 p _ _ from-position

  -- With or without rule 6 it hands up the same leaf.
  pub search_same_leaf : (S U : ℕ) (p : List ℕ) → T (legal P p) → Others S U → (q : List ℕ) → search_from P S p ≡ solved q → search_from P U p ≡ solved q
  unfolding search_from
  search_same_leaf S U p t h q e = turn_same_leaf S p t 0 p _ _ from-position U h q e

  -- The first broken table of a play: no earlier pair, ascending by (i, j), is broken.
  pub first-broken : (p : List ℕ) → satisfied compatible n (play_of p) ≡ false
      → (x y : ℕ) × (x < y) × (y < n) × (compatible x (get_or p x 0) y (get_or p y 0) ≡ false) × (first_broken P p ≡ bit_or (2 ^ x) (2 ^ y))
      × ((i j : ℕ) → i < j → j < n → (i < x) ⊎ ((i ≡ x) × (j < y)) → T (compatible i (get_or p i 0) j (get_or p j 0)))
  first-broken p e = Values.first_broken_is P p e

  -- "Rule set 0 is the plain game": no rule runs, no value is left out.
  pub search_0 : (c i : ℕ) (p l R : List ℕ) → (explained P 0 c p l R ≡ idle l R) × (narrow_next P 0 i l ≡ unruled l)
  unfolding uses bit explained narrow_next chain choose idle unruled if_so and_next
  search_0 c i p l R = (let e : (ltb (length p) n && false) ≡ false = and-false (ltb (length p) n) in rw e, refl)

  -- "A marking searches for each option by itself": the marks are the winning values.
  pub marks_are : (S : ℕ) (p : List ℕ) → T (legal P p) → length p < n → marked_values P S p ≡ winning_values P p
  unfolding marked_values winning_values
  marks_are S p t h = ap (mask_of 16) (fun_ext λ a. test (domains P.domain (length p) a)
      (λ m. rw (holds {b = domains P.domain (length p) a} m) (search_answers S (p ++ (a ∷ [])) (legal_snoc P p a t h m))) (λ e. rw e))
