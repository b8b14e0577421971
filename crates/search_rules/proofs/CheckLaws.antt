-- Rule 2 for one play, and for the plays from one on.
use mathlib.Core.Path.{◌≡◌, refl, sym, ap, ap₂, subst, ◌∙◌}
use mathlib.Core.Bool.{Bool, true, false, cond, not, ◌&&◌, ◌||◌}
use mathlib.Core.List.{List}
use Prim.Native.Nat.{ℕ, suc, ◌+◌, ◌-◌, ◌^◌, ◌≤◌, ◌<◌}
use native.Mathlib.Omega.{arith}
use lib.Dec.{eqb, ltb}
use lib.ListN.{get_or, length}
use borrow.Author.Tests.{eq-eqb, ne_eqb, lt-ltb, le-ltb, eqb-true}
use Rattle.mask.specs.Range.{first}
use Rattle.mask.specs.Mask.{bit, mask_of}
use Rattle.mask.proofs.Logic.{holds, true_holds, clash, test, by_eq, by_lt, and_in}
use Rattle.mask.proofs.Range.{first_has, first_below}
use Rattle.mask.proofs.Bits.{bit_single, bit_of_zero, bit_none}
use Rattle.mask.proofs.Masks.{mask_of_lt, bit-mask_of, mask_of_same}
use Rattle.mask.proofs.Members.{low_lt}
use Rattle.game.specs.Problem.{Problem}
use Rattle.game.specs.Game.{Domains}
use Rattle.game.specs.Lists.{domains, masks_of}
use Rattle.game.specs.Support.{clashes, empty}
use Rattle.game.specs.Forward.{forward, forward_domains, forward_fails, forward_named}
use Rattle.game.specs.Reasons.{chain, explain_forward, explain_checks, forward_reasons}
use Rattle.theory.proofs.Lists.{length-list_of, get_d_list_of}
use Rattle.solver_arrays.specs.Arrays.{States}
use Rattle.solver_arrays.specs.Words.{list_in, why_in, Nonzero}
use Rattle.solver_arrays.proofs.WordLaws.{get_d_list_in, holding-domain}
use Rattle.rule_forward.specs.Replies.{after_forward, conflict_in}
use Rattle.rule_forward.proofs.RuleLaws.{empty_mask, one_value, mask_own, mask_stays, loss_named_lem, conflict-after}
use Rattle.search_rules.specs.RuledTurn.{Replied, Plays, lowest_of}
use Rattle.search_rules.proofs.ChainLaws.{chain_lost, chain_on, idle_replies}
use Rattle.solver_arrays.specs.declared.arrays.Arrays.{Arrays}

single_full : (a : ℕ) → ¬ (2 ^ a ≡ 0)
single_full a e = clash (ap (λ (m : ℕ). bit m a) e ∙ bit_of_zero a) (true_holds (bit_single a a ∙ eq-eqb a a refl))

-- The lowest value of a single one.
pub lowest_single : (a : ℕ) → a < 16 → first 16 (bit (2 ^ a)) ≡ a
lowest_single a h = eqb-true _ _ (sym (bit_single a (first 16 (bit (2 ^ a)))) ∙ first_has 16 (bit (2 ^ a)) a h (bit_single a a ∙ eq-eqb a a refl))

-- A mask of at most the value k, and not empty.
only_value : (e : Bool) (k m : ℕ) → k < 16 → m ≡ mask_of 16 (λ b. e && eqb b k) → ¬ (m ≡ 0) → m ≡ 2 ^ k
only_value true k m h q z = q ∙ one_value k h
only_value false k m h q z = absurd (z (q ∙ bit_none 16 (mask_of 16 (λ b. false)) (mask_of_lt 16 (λ b. false)) (λ j l. bit-mask_of 16 (λ b. false) j l)))

kept_test : (u c c' t : Bool) → (t ≡ true → c ≡ c') → cond (true && not u) (c && t) t ≡ ((u || c') && t)
kept_test true c c' t f = refl
kept_test false c c' true f = ap (λ (z : Bool). z && true) (f refl)
kept_test false true true false f = refl
kept_test false true false false f = refl
kept_test false false true false f = refl
kept_test false false false false f = refl

module _ (P : Problem) (n : ℕ) (A : Arrays) (st : States P n A)
    (x a : ℕ) (hx : x < n) (w : List ℕ) (long : 96 ≤ length w) where
  abbrev F : Domains
  F = forward_domains P (domains (list_in n w)) x a

  forward_masks : length (explain_forward P x a (list_in n w) (why_in n w)).list ≡ n
  unfolding explain_forward forward masks_of
  forward_masks = length-list_of P.n (λ j. mask_of 16 (F j)) ∙ st.size

  forward_whys : length (explain_forward P x a (list_in n w) (why_in n w)).why ≡ n
  unfolding explain_forward forward_reasons
  forward_whys = length-list_of P.n _ ∙ st.size

  -- The mask of j after the check.
  mask_listed : (j : ℕ) → j < n → get_or (explain_forward P x a (list_in n w) (why_in n w)).list j 0 ≡ mask_of 16 (F j)
  unfolding explain_forward forward masks_of
  mask_listed j h = get_d_list_of P.n (λ j. mask_of 16 (F j)) j (rw st.size h)

  pub mask_after : (u : List ℕ) (lost : Bool) (q : ℕ) → Replied n w u lost q (explain_forward P x a (list_in n w) (why_in n w)) → (j : ℕ) → j < n → get_or u j 0 ≡ mask_of 16 (F j)
  mask_after u lost q t j h = ap (λ (u : List ℕ). get_or u j 0) t.words ∙ holding-domain n st.most w long _ _ j h ∙ mask_listed j h

  loss_is : (v : ℕ) → v ≡ forward_named P x a (list_in n w) → (explain_forward P x a (list_in n w) (why_in n w)).loss ≡ ltb v n
  unfolding explain_forward forward
  loss_is v e = loss_named_lem P x a (list_in n w) ∙ ap₂ ltb (sym e) st.size

  -- A variable that is played later keeps its value, where it keeps any.
  played-after : (j k : ℕ) → j < n → x < j → k < 16 → get_or w j 0 ≡ 2 ^ k → ¬ (mask_of 16 (F j) ≡ 0) → mask_of 16 (F j) ≡ 2 ^ k
  unfolding forward_domains domains
  played-after j k h l hk e z = only_value (P.universal j || P.compatible x a j k) k (mask_of 16 (F j)) hk
      (mask_of_same 16 (F j) (λ b. (P.universal j || P.compatible x a j k) && eqb b k) λ b _.
      rw (ne_eqb j x (omega arith), lt-ltb x j l, get_d_list_in n w j h, e, bit_single k b)
      (kept_test (P.universal j) (P.compatible x a j b) (P.compatible x a j k) (eqb b k) (λ f. ap (P.compatible x a j) (eqb-true b k f)))) z

  module _ (ha : a < 16) (small : (k : ℕ) → get_or w k 0 < 65536) where
    -- What the code of one check ends with: v is the variable that the check names.
    check_lost : (v : ℕ) (u : List ℕ) (q : ℕ) → v ≡ forward_named P x a (list_in n w) → u ≡ after_forward P n x a w → v < n → q ≡ conflict_in P x v u
        → Replied n w u true q (explain_forward P x a (list_in n w) (why_in n w))
    unfolding after_forward explain_forward
    check_lost v u q e f h g = record {
      masks = forward_masks;
      reasons = forward_whys;
      words = f;
      loss = sym (loss_is v e ∙ lt-ltb v n h);
      set = λ _. g ∙ ap (conflict_in P x v) f ∙ conflict-after P n st.size st.most x a hx w v e h small long;
    }

    pub check_kept : (v : ℕ) (u : List ℕ) (q : ℕ) → v ≡ forward_named P x a (list_in n w) → u ≡ after_forward P n x a w → n ≤ v
        → Replied n w u false q (explain_forward P x a (list_in n w) (why_in n w))
    unfolding after_forward explain_forward
    check_kept v u q e f h = record {
      masks = forward_masks;
      reasons = forward_whys;
      words = f;
      loss = sym (loss_is v e ∙ le-ltb v n h);
      set = λ t. absurd (true_holds t);
    }

    -- A check that names no variable leaves none empty.
    emptied_named : (j : ℕ) → j < n → x < j → bit A.universal j ≡ false → mask_of 16 (F j) ≡ 0 → forward_named P x a (list_in n w) < n
    unfolding forward_named
    emptied_named j h l u m =
        let s = first_below P.n (λ j. ltb x j && forward_fails P (domains (list_in n w)) x a j) j (rw st.size h)
        (and_in (ltb x j) (forward_fails P (domains (list_in n w)) x a j) (true_holds (lt-ltb x j l)) (true_holds
        (ap (λ (b : Bool). cond b (clashes P (domains (list_in n w)) x a j) (empty P F j)) (st.side j h ∙ u) ∙ empty_mask P F j ∙ eq-eqb (mask_of 16 (F j)) 0 m))) in
        let e = st.size in omega arith

    full-after : (j : ℕ) → j < n → ¬ (get_or w j 0 ≡ 0) → n ≤ forward_named P x a (list_in n w) → ¬ (mask_of 16 (F j) ≡ 0)
    full-after j h z k m = by_eq j x
        (λ e. single_full a (sym (mask_own P n A st x a hx ha w small j h e) ∙ m))
        (λ e. by_lt x j
        (λ l. test (bit A.universal j)
        (λ u. z (sym (mask_stays P n A st x a hx ha w small j h e (rw (lt-ltb x j l, holds {b = bit A.universal j} u))) ∙ m))
        (λ u. let f = emptied_named j h l u m in omega arith))
        (λ l. z (sym (mask_stays P n A st x a hx ha w small j h e (rw (le-ltb x j l))) ∙ m)))

    check_lasts : (v : ℕ) (u : List ℕ) → v ≡ forward_named P x a (list_in n w) → u ≡ after_forward P n x a w → n ≤ v → Nonzero n w → Nonzero n u
    check_lasts v u e f h z j k m =
        full-after j k (z j k) (rw (sym e) h) (sym (mask_after u false 0 (check_kept v u 0 e f h) j k) ∙ m)

-- On the way through the plays from c on, at x: what is left to check says what all checks say.
pub record Along (P : Problem) (n c d x : ℕ) (p first now : List ℕ) : Type 0 where
  pub plays : Plays x d p now
  pub on : (v : List ℕ) (lost : Bool) (q : ℕ) → Replied n now v lost q (explain_checks P (d - x) x p (list_in n now) (why_in n now))
      → Replied n first v lost q (explain_checks P (d - c) c p (list_in n first) (why_in n first))

abbrev pub Checking : (n : ℕ) (A : Arrays) (c d x : ℕ) (first now : List ℕ) → Type 0
Checking n A c d x first now = (P : Problem) → States P n A → (p : List ℕ) → Plays c d p first → Along P n c d x p first now

pub along_start : (P : Problem) (n c d : ℕ) (p w : List ℕ) → Plays c d p w → Along P n c d c p w w
along_start P n c d p w s = record { plays = s; on = λ v lost q t. t }

checks-next : (P : Problem) (d x : ℕ) (p l R : List ℕ) → x < d → explain_checks P (d - x) x p l R ≡ chain (explain_forward P x (get_or p x 0)) (explain_checks P (d - suc x) (suc x) p) l R
unfolding explain_checks
checks-next P d x p l R h = let e : d - x ≡ suc (d - suc x) = omega arith in ap (λ (k : ℕ). explain_checks P k x p l R) e

module _ (P : Problem) (n : ℕ) (A : Arrays) (st : States P n A)
    (c d x : ℕ) (hd : d ≤ n) (p f w : List ℕ) (long : 96 ≤ length w) (along : Along P n c d x p f w) where
  pub along_end : d ≤ x → ((k : ℕ) → get_or w k 0 < 65536) → (q : ℕ) → Replied n f w false q (explain_checks P (d - c) c p (list_in n f) (why_in n f))
  unfolding explain_checks
  along_end h small q =
      let e : 0 ≡ d - x = omega arith in
      along.on w false q (subst (λ (k : ℕ). Replied n w w false q (explain_checks P k x p (list_in n w) (why_in n w))) e (idle_replies n st.most w long small q))

  module _ (h : x < d) (u : List ℕ) (lost : Bool) (q : ℕ) (t : Replied n w u lost q (explain_forward P x (lowest_of w x) (list_in n w) (why_in n w))) where
    value_is : lowest_of w x ≡ get_or p x 0
    unfolding lowest_of
    value_is = ap (λ (m : ℕ). first 16 (bit m)) (along.plays.word x (omega arith) h) ∙ lowest_single (get_or p x 0) (along.plays.value x (omega arith) h)

    told : Replied n w u lost q (explain_forward P x (get_or p x 0) (list_in n w) (why_in n w))
    told = subst (λ (a : ℕ). Replied n w u lost q (explain_forward P x a (list_in n w) (why_in n w))) value_is t

    pub along_lost : lost ≡ true → Replied n f u lost q (explain_checks P (d - c) c p (list_in n f) (why_in n f))
    along_lost e = along.on u lost q (subst (Replied n w u lost q) (sym (checks-next P d x p (list_in n w) (why_in n w) h))
        (chain_lost (explain_forward P x (get_or p x 0)) (explain_checks P (d - suc x) (suc x) p) n w u (list_in n w) (why_in n w) lost q e told))

    pub along_turn : lost ≡ false → Nonzero n u → Along P n c d (x + 1) p f u
    along_turn e z = let one : suc x ≡ x + 1 = omega arith in subst (λ (k : ℕ). Along P n c d k p f u) one (record {
      plays = record {
        count = along.plays.count;
        value = λ j l k. along.plays.value j (omega arith) k;
        word = λ j l k.
            let m = mask_after P n A st x (get_or p x 0) (omega arith) w long u lost q told j (omega arith) in
            m ∙ played-after P n A st x (get_or p x 0) (omega arith) w long j (get_or p j 0) (omega arith) (omega arith)
            (along.plays.value j (omega arith) k) (along.plays.word j (omega arith) k) (λ s. z j (omega arith) (m ∙ s));
      };
      on = λ v lost' q' r. along.on v lost' q' (subst (Replied n w v lost' q') (sym (checks-next P d x p (list_in n w) (why_in n w) h))
          (chain_on n st.most w long (explain_forward P x (get_or p x 0)) (explain_checks P (d - suc x) (suc x) p) u v lost lost' q q' e told r));
    })

-- The code of one check, with the lowest value a of x.
module _ (P : Problem) (n : ℕ) (A : Arrays) (st : States P n A) (x : ℕ) (hx : x < n) (w : List ℕ) (long : 96 ≤ length w)
    (small : (k : ℕ) → get_or w k 0 < 65536) (z : Nonzero n w) (a : ℕ) (low : a ≡ first 16 (bit (get_or w x 0))) (v : ℕ) (u : List ℕ) (e : v ≡ forward_named P x a (list_in n w)) (f : u ≡ after_forward P n x a w) where
  pub value_lt : a < 16
  value_lt = rw low (low_lt 16 (get_or w x 0) (small x) (z x hx))

  pub play_lost : v < n → (q : ℕ) → q ≡ conflict_in P x v u → Replied n w u true q (explain_forward P x (lowest_of w x) (list_in n w) (why_in n w))
  unfolding lowest_of
  play_lost h q g = subst (λ (a : ℕ). Replied n w u true q (explain_forward P x a (list_in n w) (why_in n w))) low
      (check_lost P n A st x a hx w long value_lt small v u q e f h g)

  pub play_kept : n ≤ v → (q : ℕ) → Replied n w u false q (explain_forward P x (lowest_of w x) (list_in n w) (why_in n w))
  unfolding lowest_of
  play_kept h q = subst (λ (a : ℕ). Replied n w u false q (explain_forward P x a (list_in n w) (why_in n w))) low
      (check_kept P n A st x a hx w long value_lt small v u q e f h)

  pub play_lasts : n ≤ v → Nonzero n u
  play_lasts h = check_lasts P n A st x a hx w long value_lt small v u e f h z
