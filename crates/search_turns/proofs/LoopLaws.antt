-- What the loop of a turn keeps: x are the words when it starts.
use mathlib.Core.Path.{◌≡◌, refl, sym, ap, subst, ◌∙◌}
use mathlib.Core.Bool.{Bool, false, not, ◌&&◌}
use mathlib.Core.List.{List, [], ◌∷◌, ◌++◌}
use Prim.Native.Nat.{ℕ, suc, ◌+◌, ◌-◌, ◌^◌, ◌≤◌, ◌<◌}
use native.Mathlib.Omega.{arith}
use lib.Dec.{T, eqb}
use lib.Bits.{bit_or}
use Rattle.mask.specs.Range.{first}
use Rattle.mask.specs.Mask.{bit, rest}
use Rattle.mask.proofs.Logic.{and_out, clash, by_eq, by_lt}
use Rattle.mask.proofs.Range.{first_of}
use Rattle.mask.proofs.Members.{bit-rest, rest_lt, low_lt, low_in}
use Rattle.game.specs.Problem.{Problem}
use Rattle.game.specs.Turn.{next_list}
use Rattle.game.specs.Reasons.{next_reasons}
use Rattle.game.specs.Rule.{uses}
use Rattle.game.specs.Search.{Ending, solved, failed, some_value, each_value, untried, skippable, search}
use Rattle.theory.proofs.ValueLaws.{some_on, untried_past, untried_small, untried-part, each_lost, each_on}
use Rattle.solver_arrays.specs.Arrays.{States}
use Rattle.solver_arrays.specs.Words.{list_in, why_in, leaf_in}
use Rattle.search_words.specs.TurnSets.{ReasonsBelow}
use Rattle.search_rules.specs.RuledTurn.{Stated}
use Rattle.search_steps.specs.TurnReply.{TurnIn, Blank}
use Rattle.search_turns.proofs.RoomTurns.{Mid, Leafless, mid_start}
use Rattle.solver_arrays.specs.declared.arrays.Arrays.{Arrays}

-- What the turn below replies where value a of d is played over the words x.
abbrev pub reply_below : Problem → ℕ → ℕ → ℕ → List ℕ → List ℕ → ℕ → Ending
reply_below P n S d p x a = search P S d (n - suc d) (p ++ (a ∷ [])) (next_list P (list_in n x) d a) (next_reasons (why_in n x) d)

-- Each value of the mask leads to a turn below, in any words that hold its list and reasons.
abbrev pub Tries : Problem → ℕ → ℕ → ℕ → List ℕ → ℕ → List ℕ → Type 0
Tries P n S d p left x =
    (a : ℕ) → T (bit left a) → (y : List ℕ) → list_in n y ≡ next_list P (list_in n x) d a → why_in n y ≡ next_reasons (why_in n x) d → ReasonsBelow n y
    → TurnIn P n S d (suc d) (p ++ (a ∷ [])) y

-- The existential turn: what is left of the mask, from the set so far, replies what all does from the first set.
pub record SomeLoop (n : ℕ) (A : Arrays) (S d t : ℕ) (x : List ℕ) (J₀ left₀ : ℕ) (y : List ℕ) (J left : ℕ) : Type 0 where
  pub mid : Mid n t x y
  pub bare : Leafless y
  pub small : left < 2 ^ 16
  pub part : (a : ℕ) → T (bit left a) → T (bit left₀ a)
  pub same : (P : Problem) → States P n A → (p : List ℕ) → Tries P n S d p left₀ x
      → some_value (uses S 6) d left (reply_below P n S d p x) 16 0 J ≡ some_value (uses S 6) d left₀ (reply_below P n S d p x) 16 0 J₀

-- The universal turn: what is untried, from the leaf in the words, replies what all does from the plays; before the first value no leaf stands.
pub record EachLoop (n : ℕ) (A : Arrays) (S d t : ℕ) (x : List ℕ) (left₀ : ℕ) (y : List ℕ) (left : ℕ) : Type 0 where
  pub mid : Mid n t x y
  pub small : left < 2 ^ 16
  pub part : (a : ℕ) → T (bit left a) → T (bit left₀ a)
  pub same : (P : Problem) → States P n A → (p : List ℕ) → Tries P n S d p left₀ x → (q : List ℕ) → (left ≡ left₀ → q ≡ p) → (¬ (left ≡ left₀) → q ≡ leaf_in n y)
      → each_value (λ q a. uses S 7 && skippable P (list_in n x) d q a) (reply_below P n S d p x) 16 0 left q
      ≡ each_value (λ q a. uses S 7 && skippable P (list_in n x) d q a) (reply_below P n S d p x) 16 0 left₀ p

module _ (n : ℕ) (A : Arrays) (S d t : ℕ) (x : List ℕ) where
  pub some-start : (J left : ℕ) → 128 ≤ t → 96 + n ≤ t → Blank t x → left < 2 ^ 16 → SomeLoop n A S d t x J left x J left
  some-start J left r b z l = record { mid = mid_start n t x b z; bare = λ k h u. z k h (omega arith); small = l; part = λ a m. m; same = λ P st p tries. refl }

  -- One value more, lost with a set that leads on.
  pub some_next : (J₀ left₀ : ℕ) (y : List ℕ) (J left : ℕ) → SomeLoop n A S d t x J₀ left₀ y J left
      → ¬ (left ≡ 0) → (a : ℕ) → a ≡ first 16 (bit left) → (y' : List ℕ) → Mid n t x y' → Leafless y' → (q J' left' : ℕ) → (uses S 6 && not (bit q d)) ≡ false
      → ((P : Problem) → States P n A → (p : List ℕ) → Tries P n S d p left₀ x → reply_below P n S d p x a ≡ failed q)
      → left' ≡ rest left → J' ≡ bit_or J q → SomeLoop n A S d t x J₀ left₀ y' J' left'
  some_next J₀ left₀ y J left l z a e y' m b q J' left' j f g k = record {
    mid = m;
    bare = b;
    small = let r = rest_lt left z in let s = l.small in omega (arith, g);
    part = λ v h. l.part v (and_out (bit left v) (not (eqb v (first 16 (bit left)))) (subst (λ b. T b) (bit-rest 16 left l.small z v) (subst (λ m. T (bit m v)) g h))).0;
    same = λ P st p tries. some_on (uses S 6) d (reply_below P n S d p x) left J _ (l.same P st p tries) l.small z a e q left' J' (f P st p tries) j g k;
  }

  pub each_start : (left : ℕ) → 96 + n ≤ t → Blank t x → left < 2 ^ 16 → EachLoop n A S d t x left x left
  each_start left b z l = record {
    mid = mid_start n t x b z;
    small = l;
    part = λ a m. m;
    same = λ P st p tries q h g. ap (each_value (λ q a. uses S 7 && skippable P (list_in n x) d q a) (reply_below P n S d p x) 16 0 left) (h refl);
  }

  -- The leaf that the next value starts from: whatever it is, its reply is the same.
  last_leaf : (left₀ : ℕ) (y : List ℕ) (left : ℕ) (p : List ℕ) → (q : List ℕ) × (left ≡ left₀ → q ≡ p) × (¬ (left ≡ left₀) → q ≡ leaf_in n y)
  last_leaf left₀ y left p = by_eq left left₀ (λ e. (p, λ _. refl, λ o. absurd (o e))) (λ o. (leaf_in n y, λ e. absurd (o e), λ _. refl))

  module _ (left₀ : ℕ) (y : List ℕ) (left : ℕ) (l : EachLoop n A S d t x left₀ y left) (z : ¬ (left ≡ 0)) (a : ℕ) (e : a ≡ first 16 (bit left)) where
    -- A value that is lost.
    pub each_fail : (P : Problem) → States P n A → (p : List ℕ) → Tries P n S d p left₀ x → (q : ℕ) → reply_below P n S d p x a ≡ failed q
        → each_value (λ q a. uses S 7 && skippable P (list_in n x) d q a) (reply_below P n S d p x) 16 0 left₀ p ≡ failed q
    each_fail P st p tries q f =
        let b = last_leaf left₀ y left p in
        each_lost (λ q a. uses S 7 && skippable P (list_in n x) d q a) (reply_below P n S d p x) left b.0 _ (l.same P st p tries b.0 b.1 b.2) l.small z a e q f

    -- One value more, won with the leaf in y'.
    pub each_next : (y' : List ℕ) → Mid n t x y' → (left' : ℕ)
        → ((P : Problem) → States P n A → left' ≡ untried (λ b. uses S 7 && skippable P (list_in n x) d (leaf_in n y') b) a left)
        → ((P : Problem) → States P n A → (p : List ℕ) → Tries P n S d p left₀ x → reply_below P n S d p x a ≡ solved (leaf_in n y'))
        → Stated n A → EachLoop n A S d t x left₀ y' left'
    each_next y' m left' g f s =
        let here : T (bit left₀ a) = l.part a (subst (λ k. T (bit left k)) (sym e) (low_in 16 left l.small z)) in
        let below : a < 16 = let b = low_lt 16 left l.small z in omega (arith, e) in
        let is = g s.problem s.states in
        let gone : ¬ (left' ≡ left₀) = λ o. clash (untried_past (λ b. uses S 7 && skippable s.problem (list_in n x) d (leaf_in n y') b) a left below a (omega arith)) (subst (λ k. T (bit k a)) (sym o ∙ is) here) in
        record {
          mid = m;
          small = subst (λ k. k < 2 ^ 16) (sym is) (untried_small _ a left);
          part = λ v h. l.part v (untried-part _ a left v (subst (λ k. T (bit k v)) is h));
          same = λ P st p tries q o r.
              let b = last_leaf left₀ y left p in
              ap (each_value (λ q a. uses S 7 && skippable P (list_in n x) d q a) (reply_below P n S d p x) 16 0 left') (r gone)
              ∙ each_on (λ q a. uses S 7 && skippable P (list_in n x) d q a) (reply_below P n S d p x) left b.0 _ (l.same P st p tries b.0 b.1 b.2) l.small z a e (leaf_in n y') left' (f P st p tries) (g P st);
        }

    -- Its lowest member is higher.
    pub each_less : (g : ℕ → Bool) (left' : ℕ) → left' ≡ untried g a left → a < first 16 (bit left')
    each_less g left' is = by_lt a (first 16 (bit left')) (λ h. h) λ h.
        let b = low_lt 16 left l.small z in
        absurd (clash (untried_past g a left (omega (arith, e)) (first 16 (bit left')) (omega arith)) (subst (λ k. T (bit k (first 16 (bit left')))) is (first_of 16 (bit left') (omega (arith, e)))))
