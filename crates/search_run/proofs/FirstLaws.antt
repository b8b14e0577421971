-- The words of a run's first turn, and runs of words in 32 places.
use mathlib.Core.Path.{◌≡◌, refl, sym, ap, ap₂, subst, ◌∙◌}
use mathlib.Core.Bool.{cond}
use mathlib.Core.List.{List, ◌++◌}
use mathlib.Core.Logic.{◌⊎◌, inl, inr, ⊎_elim}
use Prim.Native.Nat.{ℕ, zero, suc, ◌+◌, ◌-◌, ◌*◌, ◌^◌, ◌≤◌, ◌<◌}
use native.Mathlib.Omega.{arith}
use lib.Dec.{T, ltb}
use lib.ListN.{get_or, length, take, drop, replicate, length-drop}
use lib.Seq.{get_or-drop}
use borrow.Author.Tests.{lt-ltb, le-ltb}
use native.Mathlib.Numerals.{add-one}
use Rattle.std.proofs.lemmas.List.{drop-replicate}
use Rattle.mask.proofs.Logic.{by_eq, by_lt}
use Rattle.game.specs.Problem.{Problem}
use Rattle.game.specs.Lists.{list_of, spread}
use Rattle.game.specs.Position.{legal}
use Rattle.game.specs.Turn.{first_list}
use Rattle.game.specs.Reasons.{first_reasons}
use Rattle.game.specs.Turns.{TurnOf, first}
use Rattle.theory.proofs.Lists.{list_of_same, length-list_of}
use Rattle.solver_arrays.specs.declared.arrays.Arrays.{Arrays}
use Rattle.solver_arrays.specs.Arrays.{Poses}
use Rattle.solver_arrays.specs.Words.{list_in, why_in, leaf_in, reason_in, put_reason}
use Rattle.solver_arrays.proofs.WordLaws.{length-put_reason, put_other, put_same, put_apart}
use Rattle.position.specs.declared.Position.{Position}
use Rattle.position.specs.Position.{plays_of, fits_in, Written}
use Rattle.position.proofs.Fitting.{length_plays, fits-legal}
use Rattle.position.proofs.Narrowing.{list_of-take, written_list, written_other}
use Rattle.search_words.proofs.ReasonBounds.{Below, below_out, first_below}
use Rattle.search_steps.specs.TurnReply.{TurnIn}
use Rattle.search_run.specs.FirstTurn.{ZeroBelow, words_from, own_reasons, FirstWords}

pub length-own : (d : ℕ) (w : List ℕ) → length (own_reasons d w) ≡ length w
unfolding own_reasons
length-own zero w = refl
length-own (suc k) w = length-put_reason (own_reasons k w) k (2 ^ k) ∙ length-own k w

pub own_none : (w : List ℕ) → w ≡ own_reasons 0 w
unfolding own_reasons
own_none w = refl

pub own_more : (k : ℕ) (w v x : List ℕ) (r : ℕ) → v ≡ own_reasons k w → r ≡ 2 ^ k → x ≡ put_reason v k r → x ≡ own_reasons (k + 1) w
unfolding own_reasons
own_more k w v x r e q f = rw add-one (f ∙ ap₂ (λ (y : List ℕ) (r : ℕ). put_reason y k r) e q)

own_other : (d : ℕ) (w : List ℕ) (k : ℕ) → (k < 32) ⊎ (32 + 2 * d ≤ k) → get_or (own_reasons d w) k 0 ≡ get_or w k 0
unfolding own_reasons
own_other zero w k o = refl
own_other (suc d) w k o =
    put_other (own_reasons d w) d (2 ^ d) k (⊎_elim (λ u. inl (omega arith)) (λ u. inr (omega arith)) o)
    ∙ own_other d w k (⊎_elim (λ u. inl u) (λ u. inr (omega arith)) o)

own_reason : (d : ℕ) (w : List ℕ) → 96 ≤ length w → d ≤ 32 → (j : ℕ) → reason_in (own_reasons d w) j ≡ cond (ltb j d) (2 ^ j) (reason_in w j)
unfolding own_reasons
own_reason zero w b h j = rw (le-ltb j 0 (omega arith))
own_reason (suc d) w b h j =
    let e = length-own d w in
    by_eq j d
    (λ z. rw (z, lt-ltb d (suc d) (omega arith)) (put_same (own_reasons d w) d (2 ^ d) (omega arith) (omega arith)))
    (λ z. put_apart (own_reasons d w) d (2 ^ d) j z ∙ own_reason d w b (omega arith) j ∙ ap (λ t. cond t (2 ^ j) (reason_in w j)) (by_lt j d
    (λ u. lt-ltb j d u ∙ sym (lt-ltb j (suc d) (omega arith)))
    (λ u. le-ltb j d u ∙ sym (le-ltb j (suc d) (omega arith)))))

-- Over zero words they are the reasons of a first turn.
no_reason : (w : List ℕ) → ((k : ℕ) → 32 ≤ k → k < 96 → get_or w k 0 ≡ 0) → (j : ℕ) → j < 32 → reason_in w j ≡ 0
unfolding reason_in
no_reason w z j h = rw (z (32 + 2 * j) (omega arith) (omega arith), z (33 + 2 * j) (omega arith) (omega arith))

own_first : (n d : ℕ) (w : List ℕ) → n ≤ 32 → d ≤ n → 96 ≤ length w → ((k : ℕ) → 32 ≤ k → k < 96 → get_or w k 0 ≡ 0) → why_in n (own_reasons d w) ≡ first_reasons n d
unfolding why_in first_reasons
own_first n d w m h b z = list_of_same n _ _ λ j l. own_reason d w b (omega arith) j ∙ ap (cond (ltb j d) (2 ^ j)) (no_reason w z j (omega arith))

-- The first turn's words -----------------------------------------------------------------------------------------------------------
-- The list that words hold, by its words.
list_same : (n : ℕ) (v w : List ℕ) → ((k : ℕ) → k < n → get_or v k 0 ≡ get_or w k 0) → list_in n v ≡ list_in n w
unfolding list_in
list_same n v w e = list_of_same n _ _ e

why_same : (n : ℕ) (v w : List ℕ) → n ≤ 32 → ((k : ℕ) → k < 96 → get_or v k 0 ≡ get_or w k 0) → why_in n v ≡ why_in n w
unfolding why_in reason_in
why_same n v w m e = list_of_same n _ _ λ j h. rw (e (32 + 2 * j) (omega arith), e (33 + 2 * j) (omega arith))

module _ (p : Position) (n : ℕ) (masks w v x : List ℕ) (m : n ≤ 32) (b : 96 ≤ length w) (h : p.plays ≤ n) (z : ZeroBelow 96 w)
    (r : Written p n masks w v) (s : length v ≡ length w) (e : x ≡ own_reasons p.plays v) where
  whole : (P : Problem) → P.n ≡ n → P.domain ≡ take n masks → list_in n v ≡ first_list P (plays_of p)
  unfolding list_in first_list
  whole P f g = written_list p n masks w v r P f g (omega arith)

  pub first_are : FirstWords p n masks w x
  first_are = record {
    size = ap length e ∙ length-own p.plays v ∙ s;
    list = λ P f g. ap (list_in n) e ∙ list_same n (own_reasons p.plays v) v (λ k u. own_other p.plays v k (inl (omega arith))) ∙ whole P f g;
    why = ap (why_in n) e ∙ own_first n p.plays v m h (omega arith) (λ k u t. written_other p n masks w v r k (omega arith) ∙ z k t);
    behind = λ k u. ap (λ y. get_or y k 0) e ∙ own_other p.plays v k (inr (omega arith)) ∙ written_other p n masks w v r k (omega arith);
  }

-- They hold the first turn of a search from the position.
module _ (P : Problem) (A : Arrays) (o : Poses P A) (S : ℕ) (p : Position)
    (long : length p.values ≡ 32) (fits : T (fits_in p A.n A.domains)) (w x : List ℕ) (f : FirstWords p A.n A.domains w x) where
  pub plays_count : length (plays_of p) ≡ p.plays
  plays_count = length_plays p A.n A.domains fits A.most long

  pub first-legal : T (legal P (plays_of p))
  first-legal = fits-legal p A.n A.domains fits A.most long P o.states.size o.domain

  pub first-list : list_in A.n x ≡ first_list P (plays_of p)
  first-list = f.list P o.states.size o.domain

  pub first-why : why_in A.n x ≡ first_reasons P.n (length (plays_of p))
  first-why = f.why ∙ ap₂ first_reasons (sym o.states.size) (sym plays_count)

  pub first_in : TurnIn P A.n S 0 p.plays (plays_of p) x
  first_in = record {
    plays = plays_of p;
    legal-start = first-legal;
    turn = subst (λ (l : List ℕ). TurnOf P S (plays_of p) 0 (plays_of p) l (why_in A.n x)) (sym first-list)
        (subst (λ (R : List ℕ). TurnOf P S (plays_of p) 0 (plays_of p) (first_list P (plays_of p)) R) (sym first-why) first);
    count = plays_count;
    reasons = below_out A.n x (subst (Below A.n) (sym f.why) (first_below A.n p.plays));
  }

-- Words copied to the front of 32 zeros.
pub places_are : (s t : ℕ) (w x : List ℕ) → s + t ≤ length w → x ≡ take (s + t - s) (drop s w) → x ++ drop t (replicate 32 0) ≡ spread (words_from s t w)
unfolding spread words_from
places_are s t w x b e =
    let l : x ≡ list_of t (λ j. get_or w (s + j) 0) =
    e ∙ ap (λ k. take k (drop s w)) (let z : s + t - s ≡ t = omega arith in z) ∙ sym (list_of_same t _ _ (λ j h. sym (get_or-drop s w j 0)) ∙ list_of-take t (drop s w) (omega (arith, length-drop s w))) in
    ap₂ (λ (u v : List ℕ). u ++ v) l (drop-replicate t 32 0 ∙ ap (λ k. replicate (32 - k) 0) (sym (length-list_of t (λ j. get_or w (s + j) 0))))

pub words-list : (n : ℕ) (w : List ℕ) → words_from 0 n w ≡ list_in n w
unfolding words_from list_in
words-list n w = list_of_same n _ _ λ j h. let e : 0 + j ≡ j = omega arith in ap (λ i. get_or w i 0) e

pub words-leaf : (n : ℕ) (w : List ℕ) → words_from 96 n w ≡ leaf_in n w
unfolding words_from leaf_in
words-leaf n w = refl
