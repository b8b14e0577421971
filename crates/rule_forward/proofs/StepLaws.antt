-- The check of one value, a variable at a time: what each step of the code leaves.
use mathlib.Core.Path.{◌≡◌, refl, sym, ap, ap₂, subst, ◌∙◌, fun_ext}
use mathlib.Core.Bool.{Bool, true, false, cond, not, ◌&&◌, ◌||◌, and-false, and-true, and_assoc, and-not_self, or-false}
use mathlib.Core.List.{List}
use Prim.Native.Nat.{ℕ, ◌^◌, ◌≤◌, ◌<◌}
use native.Mathlib.Omega.{arith}
use lib.Dec.{T, eqb, ltb}
use lib.Bits.{bit_and, bit_or, and_le_l}
use lib.ListN.{get_or, length, set}
use lib.Seq.{get_or-set_other, set-get_or}
use lib.Pow.{pow_mono}
use borrow.Author.Tests.{eq-eqb, ne_eqb, eqb-true, lt-ltb, le-ltb, ltb-true}
use Rattle.std.specs.Prelude.{Option, Some, None}
use Rattle.std.specs.Option.{option_or}
use Rattle.mask.specs.Range.{first}
use Rattle.mask.specs.Found.{found}
use Rattle.mask.specs.Mask.{bit, rest, above, mask_of}
use Rattle.mask.proofs.Logic.{holds, true_holds, fails, clash, by_eq, by_lt, and_out, or_out_false}
use Rattle.mask.proofs.Found.{found_some, found_none}
use Rattle.mask.proofs.Bits.{bit-bit_and, bit-bit_or, bit_single, bit_ext, bit_high, bit_of_zero}
use Rattle.mask.proofs.Masks.{mask_of_lt, bit-mask_of}
use Rattle.mask.proofs.Range.{first_none, first_more, first_of, first_least}
use Rattle.mask.proofs.Members.{bit-rest, low_in, low_lt, bit-above, first_found, first_on}
use Rattle.game.specs.Lists.{list_of}
use Rattle.theory.proofs.Lists.{length-list_of, get_d_list_of, list_of_same, set-list_of}
use Rattle.solver_arrays.specs.Arrays.{row_in}
use Rattle.solver_arrays.specs.Words.{list_in, why_in, reason_in, put_reason, holding}
use Rattle.solver_arrays.proofs.WordLaws.{holding-domain, holding_reason, holding-own, set-domain, set_reason, put_kept, reason_set, put-domain}
use Rattle.rule_forward.specs.OneValue.{later_of, left_of, fails_at, reason_of, checked_at, mask_at, why_at, failing, checked_words, first_failing, Unmoved, losing, first_losing, losing_at, ahead}
use Rattle.solver_arrays.specs.declared.arrays.Arrays.{Arrays}
use Rattle.rule_forward.specs.declared.steps.Ahead.{Ahead}

-- The members after x and below n ------------------------------------------------------------------------------
pub bit_later : (m x n : ℕ) → n ≤ 32 → (k : ℕ) → bit (later_of m x n) k ≡ (bit m k && (ltb x k && ltb k n))
unfolding later_of
bit_later m x n b k = by_lt k 32 (λ h. bit-mask_of 32 _ k h)
    (λ h. bit_high 32 _ k (mask_of_lt 32 _) h ∙ rw (le-ltb k n (omega arith), and-false (ltb x k), and-false (bit m k)))

later_lt : (m x n : ℕ) → later_of m x n < 2 ^ 32
unfolding later_of
later_lt m x n = mask_of_lt 32 _

-- What is above x, and among the numbers below n.
pub later_is : (m x n r e : ℕ) → n ≤ 32 → r < 2 ^ 32 → r ≡ above m x → ((k : ℕ) → bit e k ≡ ltb k n) → bit_and r e ≡ later_of m x n
later_is m x n r e b h p q =
    bit_ext 32 (bit_and r e) (later_of m x n) (let l = and_le_l r e in omega arith) (later_lt m x n)
    λ k _. bit-bit_and r e k ∙ ap₂ ◌&&◌ (ap (λ z. bit z k) p ∙ bit-above m x k) (q k)
    ∙ and_assoc (bit m k) (ltb x k) (ltb k n) ∙ sym (bit_later m x n b k)

-- The members of what is later lie between x and n.
pub later_in : (m x n : ℕ) → n ≤ 32 → (k : ℕ) → T (bit (later_of m x n) k) → k < n
later_in m x n b k t =
    let r = and_out (bit m k) (ltb x k && ltb k n) (rw (bit_later m x n b k) at t) in
    ltb-true k n (holds (and_out (ltb x k) (ltb k n) r.1).1)

-- A mask of members below n has n places.
pub fits_below : (n m : ℕ) → n ≤ 32 → m < 2 ^ 32 → ((k : ℕ) → T (bit m k) → k < n) → m < 2 ^ n
fits_below n m b h f =
    subst (λ x. x < 2 ^ n) (sym (bit_ext 32 m (mask_of n (bit m)) h (let p = pow_mono {i = n} {j = 32} b in omega (arith, mask_of_lt n (bit m))) same)) (mask_of_lt n (bit m))
  where
    same : (k : ℕ) → k < 32 → bit m k ≡ bit (mask_of n (bit m)) k
    same k _ = by_lt k n (λ l. sym (bit-mask_of n (bit m) k l))
        (λ l. fails {b = bit m k} (λ t. let r = f k t in omega arith) ∙ sym (bit_high n (mask_of n (bit m)) k (mask_of_lt n (bit m)) l))

-- One variable -------------------------------------------------------------------------------------------------
module _ (w : List ℕ) (small : (k : ℕ) → get_or w k 0 < 65536) where
  -- A mask that stays leaves the words as they are; one that changes is stored with its reason.
  pub checked_same : (u : Bool) (r q j : ℕ) → left_of u r (get_or w j 0) ≡ get_or w j 0 → w ≡ checked_at u r q w j
  unfolding checked_at reason_of
  checked_same u r q j e = rw (e, eq-eqb (get_or w j 0) (get_or w j 0) refl, set-get_or w j 0) (sym (put_kept w small j))

pub checked_new : (u : Bool) (r q : ℕ) (w : List ℕ) (j : ℕ) → j < 32 → ¬ (left_of u r (get_or w j 0) ≡ get_or w j 0)
    → put_reason (set w j (left_of u r (get_or w j 0))) j (bit_or (reason_in (set w j (left_of u r (get_or w j 0))) j) q) ≡ checked_at u r q w j
unfolding checked_at reason_of
checked_new u r q w j h e = rw (reason_set w j (left_of u r (get_or w j 0)) j h, ne_eqb (left_of u r (get_or w j 0)) (get_or w j 0) e)

-- Another domain stays.
checked_other : (u : Bool) (r q : ℕ) (w : List ℕ) (j k : ℕ) → k < 32 → ¬ (k ≡ j) → get_or (checked_at u r q w j) k 0 ≡ get_or w k 0
unfolding checked_at
checked_other u r q w j k h d = put-domain (set w j (left_of u r (get_or w j 0))) j (reason_of q (get_or w j 0) (left_of u r (get_or w j 0)) (reason_in w j)) k h ∙ get_or-set_other w j k (left_of u r (get_or w j 0)) 0 d

-- The mask of the variables that lost values, with one variable more.
pub unmoved_turn : (u : Bool) (r q j m m' : ℕ) (w v v' : List ℕ) → v' ≡ checked_at u r q v j → m' ≡ cond (eqb (get_or v' j 0) (get_or v j 0)) m (bit_or m (2 ^ j)) → Unmoved m w v → Unmoved m' w v'
unmoved_turn u r q j m m' w v v' e f h k l b = go (eqb (get_or v' j 0) (get_or v j 0)) refl (sym (ap (λ z. bit z k) f) ∙ b)
  where
    other : ¬ (k ≡ j) → get_or v' k 0 ≡ get_or v k 0
    other d = ap (λ (z : List ℕ). get_or z k 0) e ∙ checked_other u r q v j k l d

    go : (b : Bool) → eqb (get_or v' j 0) (get_or v j 0) ≡ b → bit (cond b m (bit_or m (2 ^ j))) k ≡ false → get_or v' k 0 ≡ get_or w k 0
    go true t s = by_eq k j (λ z. rw z (eqb-true (get_or v' j 0) (get_or v j 0) t)) other ∙ h k l s
    go false t s =
        let o = or_out_false (bit m k) (bit (2 ^ j) k) (sym (bit-bit_or m (2 ^ j) k) ∙ s) in
        by_eq k j (λ z. absurd (true_holds (sym o.1 ∙ bit_single j k ∙ eq-eqb k j z))) other ∙ h k l o.0

-- Each member of a mask ----------------------------------------------------------------------------------------
-- The members of m that are not left.
unfoldable pub passed : ℕ → ℕ → ℕ → Bool
passed m left k = bit m k && not (bit left k)

passed_none : (m k : ℕ) → passed m m k ≡ false
unfolding passed
passed_none m k = and-not_self (bit m k)

passed_all : (m k : ℕ) → passed m 0 k ≡ bit m k
unfolding passed
passed_all m k = rw (bit_of_zero k) (and-true (bit m k))

passed_more : (m left : ℕ) → left < 2 ^ 32 → ¬ (left ≡ 0) → ((k : ℕ) → T (bit left k) → T (bit m k))
    → (k : ℕ) → passed m (rest left) k ≡ (passed m left k || eqb k (first 32 (bit left)))
unfolding passed
passed_more m left h z s k = rw (bit-rest 32 left h z k) (by_eq k (first 32 (bit left))
    (λ e. let t = low_in 32 left h z in
    rw (e, holds {b = bit m (first 32 (bit left))} (s (first 32 (bit left)) t), holds {b = bit left (first 32 (bit left))} t, eq-eqb (first 32 (bit left)) (first 32 (bit left)) refl))
    (λ e. rw (ne_eqb k (first 32 (bit left)) e) (go (bit m k) (bit left k))))
  where
    go : (a c : Bool) → (a && not (c && true)) ≡ ((a && not c) || false)
    go true true = refl
    go true false = refl
    go false c = refl

passed-low : (m left : ℕ) → left < 2 ^ 32 → ¬ (left ≡ 0) → passed m left (first 32 (bit left)) ≡ false
unfolding passed
passed-low m left h z = rw (holds {b = bit left (first 32 (bit left))} (low_in 32 left h z)) (and-false (bit m (first 32 (bit left))))

pub within-rest : (m left left' : ℕ) → left < 2 ^ 32 → ¬ (left ≡ 0) → left' ≡ rest left → ((k : ℕ) → T (bit left k) → T (bit m k)) → (k : ℕ) → T (bit left' k) → T (bit m k)
within-rest m left left' h z e s k t = s k (and_out (bit left k) (not (eqb k (first 32 (bit left)))) (rw (e, bit-rest 32 left h z k) at t)).0

-- What is found first stays as long as it is before what is tested next.
first_kept : (n k j : ℕ) (lost : Bool) → j < n → (k < n → k < j) → cond lost (option_or (found n k) (Some j)) (found n k) ≡ found n (cond (lost && ltb j k) j k)
unfolding found
first_kept n k j true l s = by_lt k n
    (λ h. let d = s h in rw (le-ltb j k (omega arith), lt-ltb k n h))
    (λ h. rw (le-ltb k n h, lt-ltb j k (omega arith), lt-ltb j n l))
first_kept n k j false l s = refl

-- What holds when the members `left` of m are still to be checked: v are the words by then, and `named` is the lowest that failed.
pub record Passing (A : Arrays) (x a n q m : ℕ) (w : List ℕ) (left : ℕ) (v : List ℕ) (named : Option ℕ) : Type 0 where
  pub within : (k : ℕ) → T (bit left k) → T (bit m k)
  pub before : (k j : ℕ) → T (passed m left k) → T (bit left j) → k < j
  pub words : v ≡ checked_words A x a n q (passed m left) w
  pub lowest : named ≡ found n (first_failing A x a n (passed m left) w)

module _ (A : Arrays) (x a n q : ℕ) (b : n ≤ 32) (w : List ℕ) (l : 96 ≤ length w) where
  -- Nothing checked: the words as they are.
  checked_none : ((k : ℕ) → get_or w k 0 < 65536) → (d : ℕ → Bool) → ((k : ℕ) → d k ≡ false) → w ≡ checked_words A x a n q d w
  unfolding checked_words list_in why_in
  checked_none small d e =
      sym (ap₂ (holding n w) (list_of_same n _ (λ j. get_or w j 0) (λ k h. rw (e k))) (list_of_same n _ (reason_in w) (λ k h. rw (e k))) ∙ holding-own n b w l small)

  module _ (d : ℕ → Bool) (j : ℕ) (h : j < n) (e : d j ≡ false) where
    -- A variable that is not yet checked has its mask and its reason.
    mask_yet : get_or (checked_words A x a n q d w) j 0 ≡ get_or w j 0
    unfolding checked_words
    mask_yet = holding-domain n b w l _ _ j h ∙ get_d_list_of n _ j h ∙ rw e

    reason_yet : reason_in (checked_words A x a n q d w) j ≡ reason_in w j
    unfolding checked_words
    reason_yet = holding_reason n b w l _ _ j h ∙ get_d_list_of n _ j h ∙ rw e

    failing_yet : failing A x a (checked_words A x a n q d w) j ≡ failing A x a w j
    unfolding failing
    failing_yet = ap (fails_at (bit A.universal j) (row_in A x a j)) mask_yet

    -- It is checked next.
    checked_there : checked_at (bit A.universal j) (row_in A x a j) q (checked_words A x a n q d w) j
        ≡ put_reason (set (checked_words A x a n q d w) j (mask_at A x a w j)) j (why_at A x a q w j)
    unfolding checked_at mask_at why_at
    checked_there = rw (mask_yet, reason_yet)

    one_more : (d' : ℕ → Bool) → ((k : ℕ) → d' k ≡ (d k || eqb k j)) → (f g : ℕ → ℕ)
        → set (list_of n (λ k. cond (d k) (f k) (g k))) j (f j) ≡ list_of n (λ k. cond (d' k) (f k) (g k))
    one_more d' o f g = set-list_of n (λ k. cond (d k) (f k) (g k)) j (f j) h ∙ list_of_same n _ _ λ k r.
        rw (o k) (by_eq k j (λ s. rw (s, e, eq-eqb j j refl)) (λ s. rw (ne_eqb k j s) (go (d k) (f k) (g k))))
      where
        go : (c : Bool) (u v : ℕ) → cond c u v ≡ cond (c || false) u v
        go true u v = refl
        go false u v = refl

    checked_next : (d' : ℕ → Bool) → ((k : ℕ) → d' k ≡ (d k || eqb k j))
        → checked_at (bit A.universal j) (row_in A x a j) q (checked_words A x a n q d w) j ≡ checked_words A x a n q d' w
    unfolding checked_words
    checked_next d' o =
        let L = list_of n (λ j. cond (d j) (mask_at A x a w j) (get_or w j 0)) in
        let W = list_of n (λ j. cond (d j) (why_at A x a q w j) (reason_in w j)) in
        let v = mask_at A x a w j in
        let r = why_at A x a q w j in
        checked_there
        ∙ ap (λ z. put_reason z j r) (set-domain n b w l L W (length-list_of n _) j v h)
        ∙ set_reason n b w l (set L j v) W (length-list_of n _) j r h
        ∙ ap₂ (holding n w) (one_more d' o (mask_at A x a w) (λ j. get_or w j 0)) (one_more d' o (why_at A x a q w) (reason_in w))

  -- The loop over the members of m: all are left, one is checked, none is left.
  pub passing_start : ((k : ℕ) → get_or w k 0 < 65536) → (m : ℕ) → Passing A x a n q m w m w None
  unfolding first_failing found
  passing_start small m = record {
    within = λ k t. t;
    before = λ k j t b. absurd (clash (passed_none m k) t);
    words = checked_none small (passed m m) (passed_none m);
    lowest = rw (first_none n (λ j. passed m m j && failing A x a w j) (λ k h. rw (passed_none m k)), le-ltb n n (omega arith));
  }

  pub passing_end : (m left : ℕ) (v : List ℕ) (named : Option ℕ) → Passing A x a n q m w left v named → left ≡ 0
      → (named ≡ found n (first_failing A x a n (bit m) w)) × (v ≡ checked_words A x a n q (bit m) w)
  passing_end m left v named p e = (
    p.lowest ∙ rw e (ap (λ (d : ℕ → Bool). found n (first_failing A x a n d w)) (fun_ext (passed_all m))),
    p.words ∙ rw e (ap (λ (d : ℕ → Bool). checked_words A x a n q d w) (fun_ext (passed_all m))),
  )

  module _ (m : ℕ) (inside : (k : ℕ) → T (bit m k) → k < n) (left : ℕ) (h : left < 2 ^ 32) (z : ¬ (left ≡ 0)) (v : List ℕ) (named : Option ℕ)
      (p : Passing A x a n q m w left v named) where
    low_below : first 32 (bit left) < n
    low_below = inside (first 32 (bit left)) (p.within (first 32 (bit left)) (low_in 32 left h z))

    words_more : checked_at (bit A.universal (first 32 (bit left))) (row_in A x a (first 32 (bit left))) q (checked_words A x a n q (passed m left) w) (first 32 (bit left))
        ≡ checked_words A x a n q (passed m (rest left)) w
    words_more = checked_next (passed m left) (first 32 (bit left)) low_below (passed-low m left h z) (passed m (rest left)) (passed_more m left h z p.within)

    named_more : cond (failing A x a w (first 32 (bit left)) && ltb (first 32 (bit left)) (first_failing A x a n (passed m left) w))
        (first 32 (bit left)) (first_failing A x a n (passed m left) w) ≡ first_failing A x a n (passed m (rest left)) w
    unfolding first_failing
    named_more =
        first_more n (λ k. passed m left k && failing A x a w k) (λ k. passed m (rest left) k && failing A x a w k)
        (first 32 (bit left)) (failing A x a w (first 32 (bit left))) low_below
        λ k r. rw (passed_more m left h z p.within k) (by_eq k (first 32 (bit left))
        (λ e. rw (e, eq-eqb (first 32 (bit left)) (first 32 (bit left)) refl, passed-low m left h z))
        (λ e. rw (ne_eqb k (first 32 (bit left)) e) (ap (λ (b : Bool). b && failing A x a w k) (or-false (passed m left k)) ∙ sym (or-false (passed m left k && failing A x a w k)))))

    before_low : first_failing A x a n (passed m left) w < n → first_failing A x a n (passed m left) w < first 32 (bit left)
    unfolding first_failing
    before_low l =
        let k = first n (λ k. passed m left k && failing A x a w k) in
        p.before k (first 32 (bit left)) (and_out (passed m left k) (failing A x a w k) (first_of n (λ k. passed m left k && failing A x a w k) l)).0 (low_in 32 left h z)

    before_more : (k j : ℕ) → T (passed m (rest left) k) → T (bit (rest left) j) → k < j
    before_more k j t b =
        let r = and_out (bit left j) (not (eqb j (first 32 (bit left)))) (rw (bit-rest 32 left h z j) at b) in
        by_eq k (first 32 (bit left))
        (λ e. by_lt j (first 32 (bit left))
        (λ l. absurd (clash (first_least 32 (bit left) j l) r.0))
        (λ l. by_eq j (first 32 (bit left)) (λ d. absurd (clash (ap not (eq-eqb j (first 32 (bit left)) d)) r.1)) (λ d. omega arith)))
        (λ d. p.before k j
        (subst T (passed_more m left h z p.within k ∙ ap (λ (c : Bool). passed m left k || c) (ne_eqb k (first 32 (bit left)) d) ∙ or-false (passed m left k)) t) r.0)

    -- A turn of the loop, as the code has it: j is the lowest member left, and the names with a dash are those of the next turn.
    pub passing_turn : (j left' : ℕ) (lost : Bool) (v' : List ℕ) (named' : Option ℕ) → j ≡ first 32 (bit left) → left' ≡ rest left → lost ≡ failing A x a v j
        → v' ≡ checked_at (bit A.universal j) (row_in A x a j) q v j → named' ≡ cond lost (option_or named (Some j)) named
        → Passing A x a n q m w left' v' named'
    passing_turn j left' lost v' named' s t f g e = record {
      within = within-rest m left left' h z t p.within;
      before = rw t before_more;
      words = g ∙ rw (p.words, s, t) words_more;
      lowest = e ∙ rw (f, p.lowest, p.words, s, t, failing_yet (passed m left) (first 32 (bit left)) low_below (passed-low m left h z)) (first_kept n _ _ _ low_below before_low ∙ ap (found n) named_more);
    }

-- The loop that looks for the first losing value: nowhere, found at the lowest value a, and not there.
module _ (A : Arrays) (x n m : ℕ) (w : List ℕ) (d left : ℕ)
    (p : first_losing A x n m d w ≡ first_losing A x n m left w) where
  none_loses : left ≡ 0 → first_losing A x n m d w ≡ 16
  unfolding first_losing
  none_loses e = p ∙ rw e (first_none 16 _ λ k h. rw (bit_of_zero k))

  pub losing_none : left ≡ 0 → None ≡ ahead (first_losing A x n m d w) (losing_at A x n m d w)
  unfolding ahead
  losing_none e = rw (none_loses e)

  module _ (h : left < 2 ^ 16) (z : ¬ (left ≡ 0)) (a : ℕ) (s : a ≡ first 16 (bit left)) where
    abbrev failing_there : ℕ
    failing_there = first_failing A x a n (bit m) w

    a_loses : failing_there < n → first_losing A x n m d w ≡ a
    unfolding first_losing losing
    a_loses l =
        p ∙ first_found 16 16 left h z (λ a. ltb (first_failing A x a n (bit m) w) n) (low_lt 16 left h z)
        (rw (sym s, lt-ltb failing_there n l) tt) ∙ sym s

    pub losing-found : (v : ℕ) → Some v ≡ found n failing_there → Some record { value = a; variable = v } ≡ ahead (first_losing A x n m d w) (losing_at A x n m d w)
    unfolding losing_at ahead
    losing-found v f =
        let t = found_some n failing_there v f in
        rw (a_loses t.1, lt-ltb a 16 (let k = low_lt 16 left h z in omega arith), t.0)

    pub losing_on : None ≡ found n failing_there → (left' : ℕ) → left' ≡ rest left → first_losing A x n m d w ≡ first_losing A x n m left' w
    unfolding first_losing losing
    losing_on f left' e = p ∙ first_on 16 16 left h z (λ a. ltb (first_failing A x a n (bit m) w) n) (rw (sym s) (le-ltb failing_there n (found_none n failing_there f))) ∙ rw e

-- What look ahead names is below 16, and where it names nothing none is.
pub ahead_some : (value variable : ℕ) (a : Ahead) → Some a ≡ ahead value variable → (a.value ≡ value) × (a.variable ≡ variable) × (value < 16)
unfolding ahead
ahead_some value variable a e = by_lt value 16
    (λ l. let q : Some a ≡ Some record { value = value; variable = variable } = rw (lt-ltb value 16 l) at e in (cc, cc, l))
    (λ l. let q : Some a ≡ None = rw (le-ltb value 16 l) at e in absurd (cc))

pub ahead_none : (value variable : ℕ) → None ≡ ahead value variable → 16 ≤ value
unfolding ahead
ahead_none value variable e = by_lt value 16
    (λ l. let q : None ≡ Some record { value = value; variable = variable } = rw (lt-ltb value 16 l) at e in absurd (cc))
    (λ l. l)
