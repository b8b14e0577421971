-- One turn over its words: what its rules' reply makes of the game's search, and the turn below it.
use mathlib.Core.Path.{◌≡◌, refl, sym, ap, ap₂, subst, ◌∙◌}
use mathlib.Core.Bool.{Bool, true, false, not, ◌&&◌}
use mathlib.Core.List.{List, [], ◌∷◌, ◌++◌}
use Prim.Native.Nat.{ℕ, suc, ◌-◌, ◌<◌}
use native.Mathlib.Omega.{arith}
use lib.Dec.{T, eqb}
use lib.ListN.{get_or, length}
use Rattle.mask.specs.Mask.{bit}
use Rattle.mask.proofs.Logic.{clash}
use Rattle.mask.proofs.Bits.{bit_of_zero}
use Rattle.game.specs.Problem.{Problem}
use Rattle.game.specs.Lists.{domains}
use Rattle.game.specs.Rule.{uses}
use Rattle.game.specs.Turn.{next_list, reached}
use Rattle.game.specs.Reasons.{Step, explained, next_reasons}
use Rattle.game.specs.Search.{Ending, failed, handed, hand_up, some_value, each_value, skippable, start_set, narrow_next, search}
use Rattle.game.specs.Turns.{TurnOf, below, turn_below}
use Rattle.theory.proofs.Theorems as theorems
use Rattle.theory.proofs.Lists.{lent_out}
use Rattle.theory.proofs.Turns.{inner, search-next, turn_at}
use Rattle.theory.proofs.TurnLists.{snoc_length}
use Rattle.solver_arrays.specs.Arrays.{States}
use Rattle.solver_arrays.specs.Words.{list_in, why_in}
use Rattle.solver_arrays.proofs.WordLaws.{get_d_list_in}
use Rattle.search_words.specs.TurnSets.{ReasonsBelow, Starts}
use Rattle.search_steps.specs.TurnReply.{TurnIn}
use Rattle.search_steps.specs.TurnSteps.{Enters}
use Rattle.solver_arrays.specs.declared.arrays.Arrays.{Arrays}

module _ (P : Problem) (S : ℕ) (p : List ℕ) (o : Step) (e : List ℕ) (f : ℕ → Ending) where
  inner_lost : o.loss ≡ true → inner P S p o e f ≡ failed o.set
  unfolding inner
  inner_lost a = rw a

  inner-some : o.loss ≡ false → P.universal (length p) ≡ false
      → inner P S p o e f ≡ some_value (uses S 6) (length p) (get_or e (length p) 0) f 16 0 (start_set P o.why o.list e (length p))
  unfolding inner
  inner-some a b = rw (a, b)

  inner-each : o.loss ≡ false → P.universal (length p) ≡ true
      → inner P S p o e f ≡ each_value (λ q a. uses S 7 && skippable P e (length p) q a) f 16 0 (get_or e (length p) 0) p
  unfolding inner
  inner-each a b = rw (a, b)

module _ (P : Problem) (n : ℕ) (A : Arrays) (st : States P n A) (S c d : ℕ) (p w : List ℕ) (turn : TurnIn P n S c d p w) (h : d < n) where
  open turn use {plays, legal-start, count}

  abbrev o : Step
  o = explained P S c p (list_in n w) (why_in n w)

  -- What the turn below replies where value a is played over the words x.
  abbrev pub child_reply : List ℕ → ℕ → Ending
  child_reply x a = search P S d (n - suc d) (p ++ (a ∷ [])) (next_list P (list_in n x) d a) (next_reasons (why_in n x) d)

  module _ (x : List ℕ) (lost : Bool) (conflict left : ℕ) (narrowed : Bool) (E : Enters P n S c d p w x lost conflict left narrowed) where
    opened : search P S c (n - d) p (list_in n w) (why_in n w)
        ≡ hand_up (uses S 6) (length p) (inner P S p o (narrow_next P S d o.list).list (turn_below P S (n - suc d) p (narrow_next P S d o.list).list o.why))
    opened =
        let z : n - d ≡ suc (n - suc d) = omega arith in
        ap (λ k. search P S c k p (list_in n w) (why_in n w)) z
        ∙ search-next P S c (n - suc d) p (list_in n w) (why_in n w) o (narrow_next P S d o.list).list refl (ap (λ i. (narrow_next P S i o.list).list) count)

    -- A loss that the rules found.
    pub entered_lost : lost ≡ true → search P S c (n - d) p (list_in n w) (why_in n w) ≡ failed (handed (uses S 6) d conflict)
    unfolding hand_up
    entered_lost e =
        opened
        ∙ ap (λ (v : Ending). hand_up (uses S 6) (length p) v) (inner_lost P S p o (narrow_next P S d o.list).list (turn_below P S (n - suc d) p (narrow_next P S d o.list).list o.why) (sym E.loss ∙ e))
        ∙ ap₂ (λ i s. failed (handed (uses S 6) i s)) count (sym (E.set e))

    module _ (e : lost ≡ false) where
      calm : o.loss ≡ false
      calm = sym E.loss ∙ e

      side : (b : Bool) → bit A.universal d ≡ b → P.universal (length p) ≡ b
      side b q = ap P.universal count ∙ st.side d h ∙ q

      tried : get_or (list_in n x) d 0 ≡ left
      tried = get_d_list_in n x d h ∙ sym (E.tried e)

      -- The values of an existential turn, from the set J that it starts with.
      pub entered_some : bit A.universal d ≡ false → (J : ℕ) → Starts n A d narrowed x J → ReasonsBelow n x
          → search P S c (n - d) p (list_in n w) (why_in n w) ≡ hand_up (uses S 6) d (some_value (uses S 6) d left (child_reply x) 16 0 J)
      entered_some u J s r =
          opened
          ∙ ap (λ (v : Ending). hand_up (uses S 6) (length p) v) (inner-some P S p o (narrow_next P S d o.list).list (turn_below P S (n - suc d) p (narrow_next P S d o.list).list o.why) calm (side false u))
          ∙ ap (λ i. hand_up (uses S 6) i (some_value (uses S 6) i (get_or (narrow_next P S d o.list).list i 0)
          (λ a. search P S i (n - suc d) (p ++ (a ∷ [])) (next_list P (narrow_next P S d o.list).list i a) (next_reasons o.why i)) 16 0 (start_set P o.why o.list (narrow_next P S d o.list).list i))) count
          ∙ ap₂ (λ (m R : List ℕ). hand_up (uses S 6) d (some_value (uses S 6) d (get_or m d 0)
          (λ a. search P S d (n - suc d) (p ++ (a ∷ [])) (next_list P m d a) (next_reasons R d)) 16 0 (start_set P R o.list m d))) (sym (E.list e)) (sym (E.why e))
          ∙ ap₂ (λ m j. hand_up (uses S 6) d (some_value (uses S 6) d m (child_reply x) 16 0 j)) tried
          (sym (s P o.list (list_in n x) st h r (E.change e ∙ ap (λ (m : List ℕ). not (eqb (get_or m d 0) (get_or o.list d 0))) (sym (E.list e)))))

      -- The values of a universal turn.
      pub entered_each : bit A.universal d ≡ true
          → search P S c (n - d) p (list_in n w) (why_in n w)
          ≡ hand_up (uses S 6) d (each_value (λ q a. uses S 7 && skippable P (list_in n x) d q a) (child_reply x) 16 0 left p)
      entered_each u =
          opened
          ∙ ap (λ (v : Ending). hand_up (uses S 6) (length p) v) (inner-each P S p o (narrow_next P S d o.list).list (turn_below P S (n - suc d) p (narrow_next P S d o.list).list o.why) calm (side true u))
          ∙ ap (λ i. hand_up (uses S 6) i (each_value (λ q a. uses S 7 && skippable P (narrow_next P S d o.list).list i q a)
          (λ a. search P S i (n - suc d) (p ++ (a ∷ [])) (next_list P (narrow_next P S d o.list).list i a) (next_reasons o.why i)) 16 0 (get_or (narrow_next P S d o.list).list i 0) p)) count
          ∙ ap₂ (λ (m R : List ℕ). hand_up (uses S 6) d (each_value (λ q a. uses S 7 && skippable P m d q a)
          (λ a. search P S d (n - suc d) (p ++ (a ∷ [])) (next_list P m d a) (next_reasons R d)) 16 0 (get_or m d 0) p)) (sym (E.list e)) (sym (E.why e))
          ∙ ap (λ m. hand_up (uses S 6) d (each_value (λ q a. uses S 7 && skippable P (list_in n x) d q a) (child_reply x) 16 0 m p)) tried

      calm' : (reached P S c p (list_in n w)).loss ≡ false
      calm' = sym (theorems.turn-loss P S plays legal-start c p (list_in n w) (why_in n w) turn.turn) ∙ calm

      unplayed : length p < P.n
      unplayed = let z = st.size in let k = count in omega arith

      -- The list of the game's turn.
      pub reaches : list_in n x ≡ (reached P S c p (list_in n w)).list
      reaches = E.list e ∙ ap (λ i. (narrow_next P S i o.list).list) (sym count) ∙ theorems.turn_reaches P S plays legal-start c p (list_in n w) (why_in n w) turn.turn unplayed calm'

      -- There is a value to try.
      pub some_left : ¬ (left ≡ 0)
      unfolding domains
      some_left z =
          let on = (theorems.turn-position P S plays legal-start c p (list_in n w) (why_in n w) turn.turn).1 in
          let k = count in
          let at = theorems.turn_continues P S c p (list_in n w) on (turn_at P S plays legal-start c p (list_in n w) (why_in n w) turn.turn).checked calm' in
          let f = (lent_out P (reached P S c p (list_in n w)).list at.may).full (length p) unplayed in
          clash (bit_of_zero f.0)
          (subst (λ m. T (bit m f.0)) (ap (λ (v : List ℕ). get_or v (length p) 0) (sym reaches) ∙ ap (λ i. get_or (list_in n x) i 0) count ∙ tried ∙ z) f.1.1)

      -- The turn below, where a value a that the turn tries is played, in words y that hold its list and reasons.
      pub child_turn : (a : ℕ) → T (bit left a) → (y : List ℕ) → list_in n y ≡ next_list P (list_in n x) d a → why_in n y ≡ next_reasons (why_in n x) d → ReasonsBelow n y
          → TurnIn P n S d (suc d) (p ++ (a ∷ [])) y
      unfolding domains
      child_turn a m y l r b =
          let in' : T (domains (reached P S c p (list_in n w)).list (length p) a) =
          subst (λ (v : List ℕ). T (bit (get_or v (length p) 0) a)) reaches (subst (λ i. T (bit (get_or (list_in n x) i 0) a)) (sym count) (subst (λ v. T (bit v a)) (sym tried) m)) in
          let t = below a turn.turn unplayed calm' in' in
          let lists : next_list P (reached P S c p (list_in n w)).list (length p) a ≡ list_in n y =
          ap₂ (λ (v : List ℕ) i. next_list P v i a) (sym reaches) count ∙ sym l in
          let whys : next_reasons o.why (length p) ≡ why_in n y = ap₂ (λ (v : List ℕ) i. next_reasons v i) (sym (E.why e)) count ∙ sym r in
          record {
            plays = plays;
            legal-start = legal-start;
            turn = subst (λ i. TurnOf P S plays i (p ++ (a ∷ [])) (list_in n y) (why_in n y)) count
                (subst (λ (v : List ℕ). TurnOf P S plays (length p) (p ++ (a ∷ [])) v (why_in n y)) lists
                (subst (λ (v : List ℕ). TurnOf P S plays (length p) (p ++ (a ∷ [])) (next_list P (reached P S c p (list_in n w)).list (length p) a) v) whys t));
            count = snoc_length P p a ∙ ap suc count;
            reasons = b;
          }
