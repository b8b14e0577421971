-- A whole turn, step by step: what its callees ask of it, and what their replies make of its contract. w are its words at entry, x those after its rules.
use mathlib.Core.Path.{◌≡◌, refl, sym, ap, ap₂, subst, ◌∙◌}
use mathlib.Core.Bool.{Bool, true, false, not, ◌&&◌}
use mathlib.Core.List.{List, [], ◌∷◌, ◌++◌, append-nil}
use mathlib.Core.Logic.{inr}
use Prim.Native.Nat.{ℕ, suc, ◌+◌, ◌-◌, ◌^◌, ◌≤◌, ◌<◌}
use native.Mathlib.Omega.{arith}
use lib.Dec.{T}
use lib.Bits.{bit_or}
use lib.ListN.{get_or, length, take, drop, length-drop, drop_of_length-le}
use lib.Seq.{get_or-drop}
use borrow.Author.Rules.{part_to_end}
use Rattle.mask.specs.Range.{first}
use Rattle.mask.specs.Mask.{bit, rest}
use Rattle.mask.proofs.Members.{low_lt, low_in}
use Rattle.game.specs.Problem.{Problem}
use Rattle.game.specs.Lists.{narrow_to}
use Rattle.game.specs.Rule.{uses}
use Rattle.game.specs.Turn.{next_list}
use Rattle.game.specs.Reasons.{explained, next_reasons}
use Rattle.game.specs.Search.{Ending, solved, failed, handed, hand_up, some_value, each_value, skippable, untried, search}
use Rattle.theory.proofs.ValueLaws.{some_end, some-won, some_jumps, each_end}
use Rattle.solver_arrays.specs.Arrays.{States}
use Rattle.solver_arrays.specs.Words.{list_in, why_in, leaf_in}
use Rattle.rule_skip.specs.Skip.{LeafHolds}
use Rattle.search_words.specs.TurnRoom.{zeroed, handed_down, leaf_taken}
use Rattle.search_words.specs.TurnSets.{ReasonsBelow, Starts}
use Rattle.search_words.proofs.ChildLaws.{length-handed_down, handed_down_other, list-below, why-below, sets_below}
use Rattle.search_words.proofs.ReasonBounds.{Below, below_in, below_out, explained-below}
use Rattle.search_steps.specs.declared.Outcome.{Outcome}
use Rattle.search_steps.specs.declared.Outcome.TheVariants.{Won, Lost}
use Rattle.search_steps.specs.TurnReply.{won_of, set_of, reply_in, room_of, Blank, TurnIn, Stands, Leaves, Reaches, TurnReplies}
use Rattle.search_steps.specs.TurnSteps.{Enters, EntersTurn, LeavesUntried}
use Rattle.search_steps.proofs.StandLaws.{plays_in, leaf_holds}
use Rattle.search_steps.proofs.ReachLaws.{enters_reach}
use Rattle.search_turns.proofs.RoomTurns.{Mid, Leafless, mid_list, mid_why, mid_wiped, wiped_leafless, left-list, leaves-leaf, leaf-handed, leaves_none, mid_lost, leafless_lost, mid_won, leaf_up, size_back}
use Rattle.search_turns.proofs.TurnLaws.{entered_lost, entered_some, entered_each, some_left, child_turn}
use Rattle.search_turns.proofs.LoopLaws.{reply_below, Tries, SomeLoop, EachLoop, some-start, some_next, each_start, each_next, each_fail, each_less}
use Rattle.solver_arrays.specs.declared.arrays.Arrays.{Arrays}

-- What the turn is entered with, and what its rules reply.
pub record AfterRules (n : ℕ) (A : Arrays) (S c d : ℕ) (w x : List ℕ) (lost : Bool) (conflict left : ℕ) (narrowed : Bool) : Type 0 where
  pub most : n ≤ 32
  pub unplayed : d < n
  pub fits : room_of n d ≤ length w
  pub blank : Blank (room_of n d) w
  pub stands : Stands n A S c d w
  pub small : (k : ℕ) → get_or w k 0 < 65536
  pub rules : EntersTurn n A S c d w x lost conflict left narrowed

-- Of the words h those behind the turn's own, lent to the turn below; and the whole with e in their place.
abbrev pub lent_of : List ℕ → List ℕ
lent_of h = take (length h - 128) (drop 128 h)

abbrev pub put_back : List ℕ → List ℕ → List ℕ
put_back h e = take 128 h ++ (e ++ drop (length h - 128) (drop 128 h))

nothing_behind : (h e : List ℕ) → put_back h e ≡ take 128 h ++ e
nothing_behind h e = ap (λ (l : List ℕ). take 128 h ++ (e ++ l)) (drop_of_length-le (drop 128 h) {i = length h - 128} (omega (arith, length-drop 128 h))) ∙ ap (λ (l : List ℕ). take 128 h ++ l) (append-nil e)

-- One value: y are the words before it, `some` what is left to try, a the lowest of it, h the words with a handed down.
pub record Trying (n d : ℕ) (x : List ℕ) (left : ℕ) (y : List ℕ) (some a : ℕ) (h : List ℕ) : Type 0 where
  pub mid : Mid n (room_of n d) x y
  pub less : some < 2 ^ 16
  pub part : (b : ℕ) → T (bit some b) → T (bit left b)
  pub more : ¬ (some ≡ 0)
  pub lowest : a ≡ first 16 (bit some)
  pub down : h ≡ handed_down d a y

-- The turn below has replied o; it left e, and r are all words with e in place.
pub record Answered (n : ℕ) (A : Arrays) (S d : ℕ) (h r : List ℕ) (o : Outcome) : Type 0 where
  pub left : List ℕ
  pub reply : TurnReplies n A S d (d + 1) (lent_of h) left o
  pub back : r ≡ put_back h left

pub answered : {n : ℕ} {A : Arrays} {S d : ℕ} {h e : List ℕ} {o : Outcome}
    → TurnReplies n A S d (d + 1) (lent_of h) e o → Answered n A S d h (put_back h e) o
answered {e = e} t = record { left = e; reply = t; back = refl }

-- A reply in numbers.
says_lost : (n q : ℕ) (w' : List ℕ) → failed q ≡ reply_in n false q w'
unfolding reply_in
says_lost n q w' = refl

says_won : (n q : ℕ) (l w' : List ℕ) → leaf_in n w' ≡ l → solved l ≡ reply_in n true q w'
unfolding reply_in
says_won n q l w' e = sym (ap solved e)

said_lost : (n : ℕ) (v : Ending) (q : ℕ) (e : List ℕ) → v ≡ reply_in n false q e → v ≡ failed q
unfolding reply_in
said_lost n v q e r = r

said_won : (n : ℕ) (v : Ending) (q : ℕ) (e : List ℕ) → v ≡ reply_in n true q e → v ≡ solved (leaf_in n e)
unfolding reply_in
said_won n v q e r = r

up_lost : (jump : Bool) (d : ℕ) (v : Ending) (q : ℕ) → v ≡ failed q → hand_up jump d v ≡ failed (handed jump d q)
unfolding hand_up
up_lost jump d v q e = ap (hand_up jump d) e

up_won : (jump : Bool) (d : ℕ) (v : Ending) (l : List ℕ) → v ≡ solved l → hand_up jump d v ≡ solved l
unfolding hand_up
up_won jump d v l e = ap (hand_up jump d) e

module _ {n : ℕ} {A : Arrays} {S c d : ℕ} {w x : List ℕ} {lost : Bool} {conflict left : ℕ} {narrowed : Bool}
    (F : AfterRules n A S c d w x lost conflict left narrowed) where
  abbrev t : ℕ
  t = room_of n d

  enters : (P : Problem) → States P n A → (p : List ℕ) → TurnIn P n S c d p w → Enters P n S c d p w x lost conflict left narrowed
  enters P st p u = F.rules P st p (plays_in P n A st S c d p w F.small u)

  own : Enters F.stands.problem n S c d F.stands.plays w x lost conflict left narrowed
  own = let s = F.stands in enters s.problem s.states s.plays s.turn

  far : (k : ℕ) → t ≤ k → get_or x k 0 ≡ get_or w k 0
  far k h = own.kept k (let l = F.unplayed in omega arith)

  rules-blank : Blank t x
  rules-blank k h l = own.kept k h ∙ F.blank k h l

  rules-size : length x ≡ length w
  rules-size = own.size

  leaf-fits : 96 + n ≤ t
  leaf-fits = let l = F.unplayed in let b = F.most in omega arith

  own-fits : 256 ≤ t
  own-fits = let l = F.unplayed in omega arith

  pub mid_fits : {y : List ℕ} → Mid n t x y → 256 ≤ length y
  mid_fits m = let s = m.size in let z = rules-size in let f = F.fits in let l = own-fits in omega arith

  -- The list that the rules reached stands in the words w' that the turn leaves.
  reach_at : (loss : Bool) (w' : List ℕ) → loss ≡ lost → list_in n w' ≡ list_in n x → (P : Problem) → States P n A → (p : List ℕ) → TurnIn P n S c d p w
      → Reaches P n S c p w w' loss
  reach_at loss w' e f P st p u =
      let q = enters_reach P n A st S c d p w x u lost conflict left narrowed F.unplayed (enters P st p u) in
      record { loss = e ∙ q.loss; list = f ∙ q.list }

  -- A loss that the rules found.
  pub rules_lost : lost ≡ true → TurnReplies n A S c d w x (Lost true (handed (uses S 6) d conflict))
  rules_lost e = record {
    reach = reach_at true x (sym e) refl;
    reply = λ P st p u. entered_lost P n A st S c d p w u F.unplayed x lost conflict left narrowed (enters P st p u) e ∙ says_lost n (handed (uses S 6) d conflict) x;
    room = record {
      size = rules-size;
      behind = λ k h l. rules-blank k (omega arith) l;
      small = λ j h. let l = leaf-fits in let z = rules-blank (96 + j) (omega arith) (omega arith) in omega arith;
      lost = λ _. rules-blank;
      beyond = far;
    };
  }

  module _ (calm : lost ≡ false) where
    left-some : ¬ (left ≡ 0)
    left-some = let s = F.stands in some_left s.problem n A s.states S c d s.plays w s.turn F.unplayed x lost conflict left narrowed own calm

    rules_reasons : ReasonsBelow n x
    rules_reasons =
        let s = F.stands in
        let o = explained s.problem S c s.plays (list_in n w) (why_in n w) in
        below_out n x (subst (λ (R : List ℕ). Below n R) (sym (own.why calm))
        (subst (λ k. Below k o.why) s.states.size
        (explained-below s.problem S c s.plays (list_in n w) (why_in n w) (subst (λ k. Below k (why_in n w)) (sym s.states.size) (below_in n w s.turn.reasons)))))

    tries : (P : Problem) → States P n A → (p : List ℕ) → TurnIn P n S c d p w → Tries P n S d p left x
    tries P st p u = child_turn P n A st S c d p w u F.unplayed x lost conflict left narrowed (enters P st p u) calm

    module _ {y : List ℕ} {some a : ℕ} {h : List ℕ} (B : Trying n d x left y some a h) where
      open B use {mid, less, part, more, lowest, down}

      abbrev v : List ℕ
      v = lent_of h

      lent : v ≡ drop 128 h
      lent = part_to_end h 128

      here : T (bit left a)
      here = part a (subst (λ k. T (bit some k)) (sym lowest) (low_in 16 some less more))

      deep : 256 ≤ length y
      deep = mid_fits mid

      lists : (P : Problem) → list_in n v ≡ next_list P (list_in n x) d a
      unfolding next_list
      lists P = ap (list_in n) (lent ∙ ap (drop 128) down) ∙ list-below n d a F.most F.unplayed y deep ∙ ap (λ (l : List ℕ). narrow_to l d a) (mid_list n t x y mid F.most)

      whys : why_in n v ≡ next_reasons (why_in n x) d
      whys = ap (why_in n) (lent ∙ ap (drop 128) down) ∙ why-below n d a F.most F.unplayed y deep ∙ ap (λ (l : List ℕ). next_reasons l d) (mid_why n t x y mid F.most)

      reasons : ReasonsBelow n v
      reasons = below_out n v (subst (λ (R : List ℕ). Below n R) (sym (ap (why_in n) (lent ∙ ap (drop 128) down)))
          (below_in n (drop 128 (handed_down d a y)) (sets_below n d a F.most F.unplayed y deep
          (below_out n y (subst (λ (R : List ℕ). Below n R) (sym (mid_why n t x y mid F.most)) (below_in n x rules_reasons))))))

      child : (P : Problem) (p : List ℕ) → Tries P n S d p left x → TurnIn P n S d (d + 1) (p ++ (a ∷ [])) v
      child P p u =
          let e : suc d ≡ d + 1 = omega arith in
          subst (λ k. TurnIn P n S d k (p ++ (a ∷ [])) v) e (u a here v (lists P) whys reasons)

      pub child_stands : Stands n A S d (d + 1) v
      child_stands = let s = F.stands in record { problem = s.problem; states = s.states; plays = s.plays ++ (a ∷ []); turn = child s.problem s.plays (tries s.problem s.states s.plays s.turn) }

      pub child_blank : Blank (room_of n (d + 1)) v
      child_blank k l u =
          let b = F.most in
          ap (λ (z : List ℕ). get_or z k 0) lent ∙ get_or-drop 128 h k 0 ∙ ap (λ (z : List ℕ). get_or z (128 + k) 0) down
          ∙ handed_down_other d a y (128 + k) (inr (omega arith)) ∙ mid.behind (128 + k) (omega arith) (omega arith) (inr (omega arith))

      pub child_fits : room_of n (d + 1) ≤ length v
      child_fits =
          let f = F.fits in let s = mid.size in let z = rules-size in let q = length-handed_down d a y in
          let i : length v ≡ length h - 128 = ap length lent ∙ length-drop 128 h in
          let j : length h ≡ length y = ap length down ∙ q in omega arith

      module _ {r : List ℕ} {o : Outcome} (R : Answered n A S d h r o) where
        abbrev e : List ℕ
        e = R.left

        back : r ≡ take 128 h ++ e
        back = R.back ∙ nothing_behind h e

        fits_x : t ≤ length x
        fits_x = let f = F.fits in let z = rules-size in omega arith

        leaves : Leaves n (room_of n (d + 1)) (won_of o) (drop 128 h) e
        leaves = subst (λ (z : List ℕ). Leaves n (room_of n (d + 1)) (won_of o) z e) lent R.reply.room

        reply_at : (P : Problem) → States P n A → (p : List ℕ) → Tries P n S d p left x → reply_below P n S d p x a ≡ reply_in n (won_of o) (set_of o) e
        reply_at P st p u =
            let k : n - suc d ≡ n - (d + 1) = omega arith in
            ap (λ i. search P S d i (p ++ (a ∷ [])) (next_list P (list_in n x) d a) (next_reasons (why_in n x) d)) k
            ∙ ap₂ (λ (l W : List ℕ). search P S d (n - (d + 1)) (p ++ (a ∷ [])) l W) (sym (lists P)) (sym whys)
            ∙ R.reply.reply P st (p ++ (a ∷ [])) (child P p u)

        reply : (P : Problem) → States P n A → (p : List ℕ) → TurnIn P n S c d p w → reply_below P n S d p x a ≡ reply_in n (won_of o) (set_of o) e
        reply P st p u = reply_at P st p (tries P st p u)

        back_size : length r ≡ length x
        back_size = size_back n d a t x y h e r mid (won_of o) F.most F.unplayed refl fits_x down leaves back

        pub back_deep : 256 ≤ length r
        back_deep = let l = F.unplayed in let f = fits_x in let z = back_size in omega arith

        lost_mid : won_of o ≡ false → Mid n t x r
        lost_mid = mid_lost n d a t x y h e r mid (won_of o) F.most F.unplayed refl fits_x down leaves back

        lost_bare : Leafless y → Leafless r
        lost_bare = leafless_lost n d a t x y h e r mid (won_of o) F.most F.unplayed refl fits_x down leaves back

        pub won_mid : (r' : List ℕ) → r' ≡ leaf_taken r → Mid n t x r'
        won_mid = mid_won n d a t x y h e r mid (won_of o) F.most F.unplayed refl fits_x down leaves back

        won-leaf : (r' : List ℕ) → r' ≡ leaf_taken r → leaf_in n r' ≡ leaf_in n e
        won-leaf = leaf_up n d a t x y h e r mid (won_of o) F.most F.unplayed refl fits_x down leaves back

        -- It breaks no constraint.
        pub won_holds : won_of o ≡ true → (r' : List ℕ) → r' ≡ leaf_taken r → LeafHolds n A r'
        won_holds z r' g =
            let s = F.stands in
            let i = child s.problem s.plays (tries s.problem s.states s.plays s.turn) in
            leaf_holds s.problem n A s.states S d (d + 1) (s.plays ++ (a ∷ [])) v i (leaf_in n e)
            (said_won n _ (set_of o) e (R.reply.reply s.problem s.states (s.plays ++ (a ∷ [])) i ∙ ap (λ b. reply_in n b (set_of o) e) z)) r' (won-leaf r' g) (won_mid r' g).small

    -- What the turn leaves from the words y between two values, where the words of the turn below are cleared.
    module _ {y : List ℕ} (m : Mid n t x y) (w' : List ℕ) (e : w' ≡ zeroed 128 224 y) where
      ends_lost : (q : ℕ) → Leafless y
          → ((P : Problem) → States P n A → (p : List ℕ) → TurnIn P n S c d p w → search P S c (n - d) p (list_in n w) (why_in n w) ≡ failed q)
          → TurnReplies n A S c d w w' (Lost false q)
      ends_lost q z r = record {
        reach = reach_at false w' (sym calm) (left-list n t x y m F.most w w' rules-size far F.fits own-fits e);
        reply = λ P st p i. r P st p i ∙ says_lost n q w';
        room = leaves_none n t x y m F.most w w' rules-size far F.fits own-fits e z;
      }

      ends_won : (l : List ℕ) → leaf_in n y ≡ l
          → ((P : Problem) → States P n A → (p : List ℕ) → TurnIn P n S c d p w → search P S c (n - d) p (list_in n w) (why_in n w) ≡ solved l)
          → TurnReplies n A S c d w w' Won
      ends_won l z r = record {
        reach = reach_at false w' (sym calm) (left-list n t x y m F.most w w' rules-size far F.fits own-fits e);
        reply = λ P st p i. r P st p i ∙ says_won n 0 l w' (leaf-handed n t x y m F.most w w' rules-size far F.fits own-fits e ∙ z);
        room = leaves-leaf n t x y m F.most w w' rules-size far F.fits own-fits e;
      }

    -- THE EXISTENTIAL TURN -------------------------------------------------------------------------------------------------------
    module _ (u : bit A.universal d ≡ false) {J₀ : ℕ} (starts : Starts n A d narrowed x J₀) where
      whole : (P : Problem) → States P n A → (p : List ℕ) → TurnIn P n S c d p w
          → search P S c (n - d) p (list_in n w) (why_in n w) ≡ hand_up (uses S 6) d (some_value (uses S 6) d left (reply_below P n S d p x) 16 0 J₀)
      whole P st p i = entered_some P n A st S c d p w i F.unplayed x lost conflict left narrowed (enters P st p i) calm u J₀ starts rules_reasons

      pub some_begins : ((k : ℕ) → get_or x k 0 < 65536) → SomeLoop n A S d t x J₀ left x J₀ left
      some_begins l = some-start n A S d t x J₀ left (omega (arith, own-fits)) leaf-fits rules-blank (subst (λ k. k < 2 ^ 16) (sym (own.tried calm)) (l d))

      module _ {y : List ℕ} {J some : ℕ} (L : SomeLoop n A S d t x J₀ left y J some) where
        -- All values are lost.
        pub some_ends : some ≡ 0 → (w' : List ℕ) → w' ≡ zeroed 128 224 y → TurnReplies n A S c d w w' (Lost false (handed (uses S 6) d J))
        some_ends z w' e = ends_lost L.mid w' e (handed (uses S 6) d J) L.bare λ P st p i.
            whole P st p i ∙ up_lost (uses S 6) d _ J (some_end (uses S 6) d (reply_below P n S d p x) some J _ (L.same P st p (tries P st p i)) z)

        module _ {a : ℕ} {h : List ℕ} (B : Trying n d x left y some a h) {r : List ℕ} where
          -- A value that wins.
          pub some-wins : Answered n A S d h r Won → (w' : List ℕ) → w' ≡ zeroed 128 224 (leaf_taken r) → TurnReplies n A S c d w w' Won
          some-wins R w' g = ends_won (won_mid B R (leaf_taken r) refl) w' g (leaf_in n R.left) (won-leaf B R (leaf_taken r) refl) λ P st p i.
              whole P st p i
              ∙ up_won (uses S 6) d _ (leaf_in n R.left)
              (some-won (uses S 6) d (reply_below P n S d p x) some J _ (L.same P st p (tries P st p i)) L.small B.more a B.lowest (leaf_in n R.left) (said_won n _ 0 R.left (reply B R P st p i)))

          module _ {by : Bool} {q : ℕ} (R : Answered n A S d h r (Lost by q)) where
            -- A value whose loss ends the turn.
            pub some-leaves : (uses S 6 && not (bit q d)) ≡ true → (w' : List ℕ) → w' ≡ zeroed 128 224 r → TurnReplies n A S c d w w' (Lost false (handed (uses S 6) d q))
            some-leaves jump w' e = ends_lost (lost_mid B R refl) w' e (handed (uses S 6) d q) (lost_bare B R L.bare) λ P st p i.
                whole P st p i
                ∙ up_lost (uses S 6) d _ q
                (some_jumps (uses S 6) d (reply_below P n S d p x) some J _ (L.same P st p (tries P st p i)) L.small B.more a B.lowest q (said_lost n _ q R.left (reply B R P st p i)) jump)

            -- Any other loss.
            pub some_goes_on : (uses S 6 && not (bit q d)) ≡ false → (J' some' : ℕ) → some' ≡ rest some → J' ≡ bit_or J q
                → SomeLoop n A S d t x J₀ left r J' some'
            some_goes_on jump J' some' f g =
                some_next n A S d t x J₀ left y J some L B.more a B.lowest r (lost_mid B R refl) (lost_bare B R L.bare) q J' some' jump
                (λ P st p u. said_lost n _ q R.left (reply_at B R P st p u)) f g

    -- THE UNIVERSAL TURN ---------------------------------------------------------------------------------------------------------
    module _ (u : bit A.universal d ≡ true) where
      all : (P : Problem) → States P n A → (p : List ℕ) → TurnIn P n S c d p w
          → search P S c (n - d) p (list_in n w) (why_in n w) ≡ hand_up (uses S 6) d (each_value (λ q a. uses S 7 && skippable P (list_in n x) d q a) (reply_below P n S d p x) 16 0 left p)
      all P st p i = entered_each P n A st S c d p w i F.unplayed x lost conflict left narrowed (enters P st p i) calm u

      pub each_begins : ((k : ℕ) → get_or x k 0 < 65536) → EachLoop n A S d t x left x left
      each_begins l = each_start n A S d t x left leaf-fits rules-blank (subst (λ k. k < 2 ^ 16) (sym (own.tried calm)) (l d))

      module _ {y : List ℕ} {some : ℕ} (L : EachLoop n A S d t x left y some) where
        -- All values win.
        pub each_ends : some ≡ 0 → (w' : List ℕ) → w' ≡ zeroed 128 224 y → TurnReplies n A S c d w w' Won
        each_ends z w' e = ends_won L.mid w' e (leaf_in n y) refl λ P st p i.
            all P st p i
            ∙ up_won (uses S 6) d _ (leaf_in n y)
            (each_end (λ q a. uses S 7 && skippable P (list_in n x) d q a) (reply_below P n S d p x) some (leaf_in n y) _
            (L.same P st p (tries P st p i) (leaf_in n y) (λ o. absurd (left-some (sym o ∙ z))) (λ _. refl)) z)

        module _ {a : ℕ} {h : List ℕ} (B : Trying n d x left y some a h) {r : List ℕ} where
          -- A value that is lost.
          pub each_fails : {by : Bool} {q : ℕ} → Answered n A S d h r (Lost by q) → (w' : List ℕ) → w' ≡ zeroed 128 224 (zeroed 96 128 r)
              → TurnReplies n A S c d w w' (Lost false (handed (uses S 6) d q))
          each_fails {q = q} R w' e =
              let m = lost_mid B R refl in
              let l : 128 ≤ length x = let s = rules-size in let b = F.fits in let v = own-fits in omega arith in
              let v : 128 ≤ t = let v = own-fits in omega arith in
              ends_lost (mid_wiped n t x r m F.most (zeroed 96 128 r) l v refl) w' e (handed (uses S 6) d q) (wiped_leafless n t x r m F.most (zeroed 96 128 r) l v refl) λ P st p i.
              all P st p i
              ∙ up_lost (uses S 6) d _ q
              (each_fail n A S d t x left y some L B.more a B.lowest P st p (tries P st p i) q (said_lost n _ q R.left (reply B R P st p i)))

          module _ (R : Answered n A S d h r Won) where
            -- A value that wins: its leaf is taken up, and the values are left that rule 7 does not skip.
            pub each_goes_on : (r' : List ℕ) → r' ≡ leaf_taken r → (some' : ℕ) → LeavesUntried n A S d some a r' some'
                → EachLoop n A S d t x left r' some'
            each_goes_on r' g some' f =
                let m = won_mid B R r' g in
                each_next n A S d t x left y some L B.more a B.lowest r' m some'
                (λ P st. f P st m.small ∙ ap (λ (l : List ℕ). untried (λ b. uses S 7 && skippable P l d (leaf_in n r') b) a some) (mid_list n t x r' m F.most))
                (λ P st p u. said_won n _ 0 R.left (reply_at B R P st p u) ∙ ap solved (sym (won-leaf B R r' g)))
                (record { problem = F.stands.problem; states = F.stands.states })

            pub each_shrinks : (r' : List ℕ) → r' ≡ leaf_taken r → (some' : ℕ) → LeavesUntried n A S d some a r' some'
                → (first 16 (bit some) < 16) × (first 16 (bit some) < first 16 (bit some'))
            each_shrinks r' g some' f =
                let s = F.stands in
                let k = low_lt 16 some L.small B.more in
                let l = each_less n A S d t x left y some L B.more a B.lowest _ some' (f s.problem s.states (won_mid B R r' g).small) in
                (k, subst (λ i. i < first 16 (bit some')) B.lowest l)
