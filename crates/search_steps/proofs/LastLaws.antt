-- The last turn: the words hold a play of all variables.
use mathlib.Core.Path.{◌≡◌, refl, sym, ap, ap₂, subst, ◌∙◌}
use mathlib.Core.Bool.{Bool, true, false, cond, ◌&&◌}
use mathlib.Core.List.{List}
use mathlib.Core.Logic.{inl, inr}
use Prim.Native.Nat.{ℕ, ◌+◌, ◌-◌, ◌^◌, ◌≤◌, ◌<◌}
use native.Mathlib.Omega.{arith}
use lib.Dec.{T, eqb}
use lib.Bits.{bit_or}
use lib.Pow.{pow_mono}
use lib.ListN.{get_or, length}
use lib.Seq.{ext_get_or}
use borrow.Author.Tests.{eq-eqb, ne_eqb}
use Rattle.std.specs.Prelude.{Option, None, Some}
use Rattle.mask.proofs.Logic.{holds, test, by_eq, by_lt}
use Rattle.game.specs.Problem.{Problem}
use Rattle.game.specs.Game.{satisfied}
use Rattle.game.specs.Position.{play_of}
use Rattle.game.specs.Rule.{uses}
use Rattle.game.specs.Reasons.{explained}
use Rattle.game.specs.Search.{solved, failed, handed, first_broken, check_set, search}
use Rattle.theory.proofs.Theorems as theorems
use Rattle.theory.proofs.Quiet.{turn_unbroken}
use Rattle.theory.proofs.LastChecks.{unused_none, first_finds, below_finds_none}
use Rattle.solver_arrays.specs.Arrays.{States}
use Rattle.solver_arrays.specs.Words.{list_in, why_in, leaf_in}
use Rattle.solver_arrays.proofs.WordLaws.{length-list_in, get_d_list_in}
use Rattle.search_leaf.specs.Leaf.{Plays, broken_mask, with_leaf}
use Rattle.search_leaf.proofs.LeafWords.{length-with_leaf, with_leaf_other, leaf_small, leaf_of_play}
use Rattle.search_steps.specs.TurnReply.{reply_in, room_of, TurnIn, TellsBroken, Blank, Leaves}
use Rattle.solver_arrays.specs.declared.arrays.Arrays.{Arrays}

-- Every played variable has the mask of its value.
pub played : (P : Problem) (n S c d : ℕ) (p w : List ℕ) → ((k : ℕ) → get_or w k 0 < 65536) → P.n ≡ n → TurnIn P n S c d p w
    → (j : ℕ) → j < d → (get_or p j 0 < 16) × (get_or w j 0 ≡ 2 ^ get_or p j 0)
played P n S c d p w small size turn j h =
    let a = (theorems.turn-position P S turn.plays turn.legal-start c p (list_in n w) (why_in n w) turn.turn).1 in
    let k = turn.count in
    let l = a.depth in
    let e : get_or w j 0 ≡ 2 ^ get_or p j 0 = sym (get_d_list_in n w j (omega arith)) ∙ a.played j (omega arith) in
    let s = small j in
    (by_lt (get_or p j 0) 16 (λ l. l) (λ u. absurd (let q : 2 ^ 16 ≤ 2 ^ get_or p j 0 = pow_mono u in omega arith)), e)

module _ (P : Problem) (n : ℕ) (A : Arrays) (st : States P n A) (S c : ℕ) (p w : List ℕ)
    (small : (k : ℕ) → get_or w k 0 < 65536) (turn : TurnIn P n S c n p w) where
  pub all_played : Plays n w p
  all_played = record {
    all = turn.count;
    small = λ j h. (played P n S c n p w small st.size turn j h).0;
    word = λ j h. (played P n S c n p w small st.size turn j h).1;
  }

  -- None is broken below a turn with rule 1.
  pub skipped_told : uses S 1 ≡ true → ¬ (c ≡ 0) → None ≡ broken_mask P n p
  skipped_told one z =
      let all = turn_unbroken P S turn.plays turn.legal-start c p (list_in n w) (why_in n w) turn.turn one z (turn.count ∙ sym st.size) in
      ap (λ (b : Bool). cond b None (Some (first_broken P p))) (sym (holds {b = satisfied P.compatible n (play_of p)} (subst (λ k. T (satisfied P.compatible k (play_of p))) st.size all)))

  -- The conflict set of rule 2.
  abbrev own : ℕ
  own = check_set P S c p (list_in n w) (why_in n w)

  -- The game's reply, by the constraints and that set.
  reply : search P S c (n - n) p (list_in n w) (why_in n w) ≡ cond (satisfied P.compatible n (play_of p)) (solved p) (failed (handed (uses S 6) n (bit_or (first_broken P p) own)))
  reply =
      let z : n - n ≡ 0 = omega arith in
      ap (λ k. search P S c k p (list_in n w) (why_in n w)) z
      ∙ theorems.turn-leaf P S turn.plays turn.legal-start c p (list_in n w) (why_in n w) turn.turn (turn.count ∙ sym st.size)
      ∙ ap (λ k. cond (satisfied P.compatible k (play_of p)) (solved p) (failed (handed (uses S 6) k (bit_or (first_broken P p) own)))) st.size

  -- The set of rule 2 by that of all rules, where a constraint is broken.
  own-set : satisfied P.compatible n (play_of p) ≡ false → (lost : Bool) (conflict : ℕ) → lost ≡ (explained P S c p (list_in n w) (why_in n w)).loss
      → (lost ≡ true → conflict ≡ (explained P S c p (list_in n w) (why_in n w)).set) → cond (eqb c 0 && uses S 2) conflict 0 ≡ own
  own-set sat lost conflict loss set =
      let size = st.size in
      by_eq c 0
      (λ h. test (uses S 2)
      (λ u.
      let two = holds {b = uses S 2} u in
      let f = first_finds P S turn.plays turn.legal-start c p (list_in n w) (why_in n w) turn.turn (turn.count ∙ sym size) h (ap (λ k. satisfied P.compatible k (play_of p)) size ∙ sat) two in
      ap (λ b. cond (b && uses S 2) conflict 0) (eq-eqb c 0 h) ∙ ap (λ b. cond b conflict 0) two ∙ set (loss ∙ f.0) ∙ sym f.1)
      (λ e. ap (λ b. cond (b && uses S 2) conflict 0) (eq-eqb c 0 h) ∙ ap (λ b. cond b conflict 0) e ∙ sym (unused_none P S c p (list_in n w) (why_in n w) e)))
      (λ h. ap (λ b. cond (b && uses S 2) conflict 0) (ne_eqb c 0 h)
      ∙ sym (below_finds_none P S turn.plays turn.legal-start c p (list_in n w) (why_in n w) turn.turn (turn.count ∙ sym size) h))

  module _ (broken : Option ℕ) (tells : TellsBroken n A S c w broken) where
    told : broken ≡ broken_mask P n p
    told = tells P st p turn

    -- No constraint is broken.
    unbroken : broken ≡ None → satisfied P.compatible n (play_of p) ≡ true
    unbroken z = go (satisfied P.compatible n (play_of p)) (sym told ∙ z)
      where
        go : (s : Bool) → cond s None (Some (first_broken P p)) ≡ None → s ≡ true
        go true r = refl
        go false r = absurd (cc)

    pub holds_all : broken ≡ None → T (satisfied P.compatible P.n (play_of p))
    holds_all z = subst (λ k. T (satisfied P.compatible k (play_of p))) (sym st.size) (subst (λ b. T b) (sym (unbroken z)) tt)

    pub last-won : broken ≡ None → 128 ≤ length w → n ≤ 32 → (w' : List ℕ) → w' ≡ with_leaf n w → (q : ℕ)
        → search P S c (n - n) p (list_in n w) (why_in n w) ≡ reply_in n true q w'
    unfolding reply_in
    last-won z b m w' e q =
        reply ∙ ap (λ s. cond s (solved p) (failed (handed (uses S 6) n (bit_or (first_broken P p) own)))) (unbroken z)
        ∙ ap solved (sym (ap (leaf_in n) e ∙ leaf_of_play n w p (omega arith) all_played))

    -- Some constraint is broken, and m is its mask.
    lost_by : (m : ℕ) → broken ≡ Some m → (satisfied P.compatible n (play_of p) ≡ false) × (m ≡ first_broken P p)
    lost_by m z = go (satisfied P.compatible n (play_of p)) (sym z ∙ told)
      where
        go : (s : Bool) → Some m ≡ cond s None (Some (first_broken P p)) → (s ≡ false) × (m ≡ first_broken P p)
        go true r = absurd (cc)
        go false r = (refl, cc)

    -- The reply of the code: `lost` and `conflict` are those of its rules.
    pub last_lost : (m : ℕ) → broken ≡ Some m → (lost : Bool) (conflict : ℕ) → lost ≡ (explained P S c p (list_in n w) (why_in n w)).loss
        → (lost ≡ true → conflict ≡ (explained P S c p (list_in n w) (why_in n w)).set)
        → (checked : ℕ) → checked ≡ cond (eqb c 0 && uses S 2) conflict 0
        → (six : Bool) → six ≡ uses S 6 → (set : ℕ) → set ≡ handed six n (bit_or m checked) → (w' : List ℕ)
        → search P S c (n - n) p (list_in n w) (why_in n w) ≡ reply_in n false set w'
    unfolding reply_in
    last_lost m z lost conflict loss found checked k six s set e w' =
        let b = lost_by m z in
        reply ∙ ap (λ s. cond s (solved p) (failed (handed (uses S 6) n (bit_or (first_broken P p) own)))) b.0
        ∙ ap (λ U. failed (handed (uses S 6) n U)) (ap₂ bit_or (sym b.1) (sym (k ∙ own-set b.0 lost conflict loss found)))
        ∙ ap failed (sym (e ∙ ap (λ b. handed b n (bit_or m checked)) s))

-- The room, with a leaf and without.
module _ (n : ℕ) (w w' : List ℕ) (m : n ≤ 32) (b : 128 ≤ length w) (blank : Blank 128 w) where
  pub leaves-won : w' ≡ with_leaf n w → Leaves n (room_of n n) true w w'
  leaves-won e = record {
    size = ap length e ∙ length-with_leaf n w;
    behind = λ k h u. ap (λ x. get_or x k 0) e ∙ with_leaf_other n w k (inr h) ∙ blank k (omega arith) (omega arith);
    small = λ j h. subst (λ (x : List ℕ). get_or x (96 + j) 0 < 16) (sym e) (leaf_small n w (omega arith) j h);
    lost = λ f. absurd (subst (λ b. T b) f tt);
    beyond = λ k h. ap (λ x. get_or x k 0) e ∙ with_leaf_other n w k (inr (omega arith));
  }

  pub leaf-list : w' ≡ with_leaf n w → list_in n w' ≡ list_in n w
  leaf-list e =
      let l = length-list_in n w' in
      ext_get_or 0 (list_in n w') (list_in n w) (l ∙ sym (length-list_in n w)) λ j h.
      get_d_list_in n w' j (omega arith) ∙ ap (λ x. get_or x j 0) e ∙ with_leaf_other n w j (inl (omega arith)) ∙ sym (get_d_list_in n w j (omega arith))

  pub leaves_lost : length w' ≡ length w → ((k : ℕ) → 96 ≤ k → get_or w' k 0 ≡ get_or w k 0) → Leaves n (room_of n n) false w w'
  leaves_lost s e = record {
    size = s;
    behind = λ k h u. e k (omega arith) ∙ blank k (omega arith) (omega arith);
    small = λ j h. let z = e (96 + j) (omega arith) ∙ blank (96 + j) (omega arith) (omega arith) in omega arith;
    lost = λ _ k h u. e k h ∙ blank k h (omega arith);
    beyond = λ k h. e k (omega arith);
  }
