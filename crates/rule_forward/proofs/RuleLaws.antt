-- The steps of the check against rules 2 and 3, for a problem that the arrays state.
use mathlib.Core.Path.{◌≡◌, refl, sym, ap, ap₂, subst, ◌∙◌}
use mathlib.Core.Bool.{Bool, true, false, cond, not, ◌&&◌, ◌||◌, and-false, and_comm}
use mathlib.Core.List.{List}
use Prim.Native.Nat.{ℕ, ◌+◌, ◌*◌, ◌^◌, ◌≤◌, ◌<◌}
use native.Mathlib.Omega.{arith}
use lib.Dec.{T, eqb, ltb}
use lib.Bits.{bit_and, bit_or, and_le_l, or_self, or_lt}
use lib.ListN.{get_or, length, set}
use lib.Seq.{get_or-set_same, get_or-set_other}
use lib.Pow.{pow-lt, pow_mono}
use borrow.Author.Tests.{eq-eqb, ne_eqb, lt-ltb, le-ltb, ltb-true}
use Rattle.std.specs.Prelude.{Option}
use Rattle.mask.specs.Range.{some, each, first}
use Rattle.mask.specs.Found.{found}
use Rattle.rule_forward.specs.declared.steps.Ahead.{Ahead}
use Rattle.mask.specs.Mask.{bit, mask_of}
use Rattle.mask.proofs.Logic.{same, holds, true_holds, fails, clash, test, by_eq, by_lt, and_out}
use Rattle.mask.proofs.Range.{some_out, some_in, each_out, each_in, first-agree, first_none, first_some}
use Rattle.mask.proofs.Bits.{bit-bit_and, bit-bit_or, bit_single, bit_ext, bit_of_zero, bit_high}
use Rattle.mask.proofs.Masks.{mask_of_lt, bit-mask_of, mask_of_bits, mask_of_same, or_assoc, empty-some, within-each}
use Rattle.game.specs.Problem.{Problem}
use Rattle.game.specs.Game.{Domains}
use Rattle.game.specs.Lists.{domains, list_of, masks_of}
use Rattle.game.specs.Support.{clashes, empty}
use Rattle.game.specs.Forward.{forward, forward_domains, forward_fails, forward_loss, forward_named}
use Rattle.game.specs.LookAhead.{ahead_loss, look_ahead, ahead_named}
use Rattle.game.specs.Reasons.{explain_forward, forward_reasons, forward_conflict, neighbours}
use Rattle.theory.proofs.Lists.{get_d_list_of, list_of_same}
use Rattle.solver_arrays.specs.Arrays.{row_in, States}
use Rattle.solver_arrays.specs.Words.{list_in, why_in, reason_in, holding}
use Rattle.solver_arrays.proofs.WordLaws.{length-list_in, get_d_list_in, get_d_why_in, holding_reason, holding-own, holding_again, set-domain, reason_set}
use Rattle.rule_forward.specs.OneValue.{later_of, left_of, fails_at, reason_of, mask_at, why_at, failing, checked_words, first_failing, losing, first_losing, losing_at, ahead}
use Rattle.rule_forward.specs.Replies.{after_forward, ahead_value, ahead_variable, conflict_in}
use Rattle.rule_forward.proofs.StepLaws.{bit_later}
use Rattle.solver_arrays.specs.declared.arrays.Arrays.{Arrays}

some_same : (v : ℕ) (d e f g : ℕ → Bool) → ((k : ℕ) → k < v → d k ≡ e k) → ((k : ℕ) → k < v → f k ≡ g k) → some v d f ≡ some v e g
some_same v d e f g p q = same (some v d f) (some v e g)
    (λ t. let r = some_out v d f t in some_in v e g r.0 r.1 (rw (← (p r.0 r.1)) r.2) (rw (← (q r.0 r.1)) r.3))
    (λ t. let r = some_out v e g t in some_in v d f r.0 r.1 (rw (p r.0 r.1) r.2) (rw (q r.0 r.1) r.3))

some-not : (v : ℕ) (d f : ℕ → Bool) → some v d (λ k. not (f k)) ≡ not (each v d f)
some-not v d f = test (each v d f)
    (λ t. rw (holds {b = each v d f} t) (fails λ s. let r = some_out v d (λ k. not (f k)) s in clash (ap not (holds {b = f r.0} (each_out v d f t r.0 r.1 r.2))) r.3))
    (λ e. rw e (holds (test (some v d (λ k. not (f k))) (λ t. t)
    (λ g. absurd (clash e (each_in v d f λ k l b. test (f k) (λ t. t) (λ n. absurd (clash g (some_in v d (λ k. not (f k)) k l b (rw n tt))))))))))

-- A domain is empty where its mask is zero.
pub empty_mask : (P : Problem) (D : Domains) (j : ℕ) → empty P D j ≡ eqb (mask_of 16 (D j)) 0
unfolding empty
empty_mask P D j = sym (empty-some 16 (mask_of 16 (D j)) (mask_of_lt 16 (D j))
    ∙ ap not (some_same 16 (bit (mask_of 16 (D j))) (D j) (λ k. true) (λ k. true) (λ k h. bit-mask_of 16 (D j) k h) (λ k h. refl)))

pub one_value : (a : ℕ) → a < 16 → mask_of 16 (λ b. eqb b a) ≡ 2 ^ a
one_value a h = bit_ext 16 (mask_of 16 (λ b. eqb b a)) (2 ^ a) (mask_of_lt 16 (λ b. eqb b a)) (pow-lt h) λ k l. bit-mask_of 16 (λ b. eqb b a) k l ∙ sym (bit_single a k)

module _ (P : Problem) (n : ℕ) (A : Arrays) (st : States P n A)
    (x a : ℕ) (hx : x < n) (ha : a < 16) (w : List ℕ) (small : (k : ℕ) → get_or w k 0 < 65536) where
  abbrev D : Domains
  D = domains (list_in n w)

  abbrev reach : ℕ
  reach = later_of (get_or A.near x 0) x n

  domain_is : (j : ℕ) → j < n → (b : ℕ) → D j b ≡ bit (get_or w j 0) b
  unfolding domains
  domain_is j h b = ap (λ (m : ℕ). bit m b) (get_d_list_in n w j h)

  reached : (j : ℕ) → j < n → bit reach j ≡ (bit (get_or A.near x 0) j && ltb x j)
  reached j h = bit_later (get_or A.near x 0) x n st.most j ∙ rw (lt-ltb j n h) (go (bit (get_or A.near x 0) j) (ltb x j))
    where
      go : (c d : Bool) → (c && (d && true)) ≡ (c && d)
      go true true = refl
      go true false = refl
      go false d = refl

  module _ (j : ℕ) (h : j < n) where
    -- A variable that no constraint joins with x goes with everything.
    goes : bit (get_or A.near x 0) j ≡ false → (b : ℕ) → T (P.compatible x a j b)
    goes e b = P.free x j (st.joined x j hx h ∙ e) a b

    -- The mask that rule 2 leaves at j.
    pub mask_own : j ≡ x → mask_of 16 (forward_domains P D x a j) ≡ 2 ^ a
    unfolding forward_domains
    mask_own e = mask_of_same 16 _ (λ b. eqb b a) (λ b l. rw (eq-eqb j x e)) ∙ one_value a ha

    pub mask_stays : ¬ (j ≡ x) → (ltb x j && not (bit A.universal j)) ≡ false → mask_of 16 (forward_domains P D x a j) ≡ get_or w j 0
    unfolding forward_domains
    mask_stays e f = mask_of_same 16 _ (bit (get_or w j 0)) (λ b l. rw (ne_eqb j x e, st.side j h, f) (domain_is j h b)) ∙ sym (mask_of_bits 16 (get_or w j 0) (small j))

    mask_free : ¬ (j ≡ x) → bit (get_or A.near x 0) j ≡ false → mask_of 16 (forward_domains P D x a j) ≡ get_or w j 0
    unfolding forward_domains
    mask_free e f = mask_of_same 16 _ (bit (get_or w j 0)) (λ b l. rw (ne_eqb j x e, holds {b = P.compatible x a j b} (goes f b)) (go (ltb x j && not (P.universal j)) (D j b) ∙ domain_is j h b)) ∙ sym (mask_of_bits 16 (get_or w j 0) (small j))
      where
        go : (c d : Bool) → cond c (true && d) d ≡ d
        go true d = refl
        go false d = refl

    mask_met : x < j → bit A.universal j ≡ false → mask_of 16 (forward_domains P D x a j) ≡ bit_and (get_or w j 0) (row_in A x a j)
    unfolding forward_domains
    mask_met l f =
        mask_of_same 16 _ (λ b. bit (bit_and (get_or w j 0) (row_in A x a j)) b)
        (λ b k. rw (ne_eqb j x (omega arith), lt-ltb x j l, st.side j h, f, st.row x a j b hx ha h k, domain_is j h b)
        (and_comm (bit (row_in A x a j) b) (bit (get_or w j 0) b) ∙ sym (bit-bit_and (get_or w j 0) (row_in A x a j) b)))
        ∙ sym (mask_of_bits 16 (bit_and (get_or w j 0) (row_in A x a j)) (let s = and_le_l (get_or w j 0) (row_in A x a j) in let t = small j in omega arith))

    -- Where the check reaches j, the mask is what its row leaves; elsewhere it stays.
    mask_reached : bit reach j ≡ true → mask_of 16 (forward_domains P D x a j) ≡ left_of (bit A.universal j) (row_in A x a j) (get_or w j 0)
    unfolding left_of
    mask_reached e =
        let t = and_out (bit (get_or A.near x 0) j) (ltb x j) (true_holds (sym (reached j h) ∙ e)) in
        let l = ltb-true x j (holds t.1) in
        test (bit A.universal j)
        (λ u. rw (holds {b = bit A.universal j} u) (mask_stays (omega arith) (rw (holds {b = bit A.universal j} u, holds {b = ltb x j} t.1))))
        (λ u. rw u (mask_met l u))

    mask_unreached : ¬ (j ≡ x) → bit reach j ≡ false → mask_of 16 (forward_domains P D x a j) ≡ get_or w j 0
    mask_unreached d e = test (bit (get_or A.near x 0) j)
        (λ t. mask_stays d (rw (le-ltb x j (by_lt x j (λ l. absurd (clash e (rw (reached j h, holds {b = bit (get_or A.near x 0) j} t, lt-ltb x j l) tt))) (λ l. l)))))
        (λ f. mask_free d f)

    -- The check fails at j where rule 2 says so.
    clashes-row : clashes P D x a j ≡ not (eqb (bit_and (get_or w j 0) (row_in A x a j)) (get_or w j 0))
    unfolding clashes
    clashes-row =
        some_same 16 (D j) (bit (get_or w j 0)) (λ b. not (P.compatible x a j b)) (λ b. not (bit (row_in A x a j) b)) (λ b l. domain_is j h b) (λ b l. ap not (st.row x a j b hx ha h l))
        ∙ some-not 16 (bit (get_or w j 0)) (bit (row_in A x a j))
        ∙ ap not (sym (within-each 16 (get_or w j 0) (row_in A x a j) (small j)))

    clashes_free : bit (get_or A.near x 0) j ≡ false → clashes P D x a j ≡ false
    unfolding clashes
    clashes_free e = fails λ t. let r = some_out 16 (D j) (λ b. not (P.compatible x a j b)) t in clash (ap not (holds {b = P.compatible x a j r.0} (goes e r.0))) r.3

    fails_is : ¬ (get_or w j 0 ≡ 0) → (ltb x j && forward_fails P D x a j) ≡ (bit reach j && failing A x a w j)
    unfolding failing fails_at
    fails_is z = by_lt x j
        (λ l. rw (lt-ltb x j l, reached j h, lt-ltb x j l, st.side j h) (test (bit (get_or A.near x 0) j)
        (λ t. rw (holds {b = bit (get_or A.near x 0) j} t) (test (bit A.universal j)
        (λ u. rw (holds {b = bit A.universal j} u) clashes-row)
        (λ u. rw u (empty_mask P (forward_domains P D x a) j ∙ ap (λ (m : ℕ). eqb m 0) (mask_met l u)))))
        (λ f. rw f (test (bit A.universal j)
        (λ u. rw (holds {b = bit A.universal j} u) (clashes_free f))
        (λ u. rw u (empty_mask P (forward_domains P D x a) j ∙ ap (λ (m : ℕ). eqb m 0) (mask_free (omega arith) f) ∙ ne_eqb (get_or w j 0) 0 z))))))
        (λ l. rw (le-ltb x j l, reached j h, le-ltb x j l) (go (bit (get_or A.near x 0) j)))
      where
        go : (c : Bool) → false ≡ ((c && false) && cond (bit A.universal j) (not (eqb (bit_and (get_or w j 0) (row_in A x a j)) (get_or w j 0))) (eqb (bit_and (get_or w j 0) (row_in A x a j)) 0))
        go true = refl
        go false = refl

  -- The variable that a loss names is the first that fails.
  named_is : ((j : ℕ) → j < n → ¬ (get_or w j 0 ≡ 0)) → forward_named P x a (list_in n w) ≡ first_failing A x a n (bit reach) w
  unfolding forward_named first_failing
  named_is z =
      ap (λ (k : ℕ). first k (λ j. ltb x j && forward_fails P D x a j)) st.size
      ∙ first-agree n (λ j. ltb x j && forward_fails P D x a j) (λ j. bit reach j && failing A x a w j) (λ j h. fails_is j h (z j h))

  reach-own : bit reach x ≡ false
  reach-own = reached x hx ∙ rw (le-ltb x x (omega arith)) (and-false (bit (get_or A.near x 0) x))

  -- The same from the words with x narrowed to a.
  abbrev narrowed : List ℕ
  narrowed = set w x (2 ^ a)

  named_narrowed : first_failing A x a n (bit reach) narrowed ≡ first_failing A x a n (bit reach) w
  unfolding first_failing failing
  named_narrowed = first-agree n _ _ λ j h. by_eq j x (λ e. rw (e, reach-own)) (λ e. rw (get_or-set_other w x j (2 ^ a) 0 e))

  module _ (l : 96 ≤ length w) where
    reason_narrowed : (j : ℕ) → reason_in narrowed j ≡ reason_in w j
    reason_narrowed j = let b = st.most in reason_set w x (2 ^ a) j (omega arith)

    list_at : (j : ℕ) → j < n → cond (bit reach j) (mask_at A x a narrowed j) (get_or narrowed j 0) ≡ mask_of 16 (forward_domains P D x a j)
    unfolding mask_at
    list_at j h = by_eq j x
        (λ e. rw (e, reach-own) (let b = st.most in get_or-set_same w x (2 ^ a) 0 (omega arith)) ∙ sym (mask_own j h e))
        (λ e. rw (get_or-set_other w x j (2 ^ a) 0 e) (test (bit reach j)
        (λ t. rw (holds {b = bit reach j} t) (sym (mask_reached j h (holds t))))
        (λ f. rw f (sym (mask_unreached j h e f)))))

    why_at_lem : (j : ℕ) → j < n → cond (bit reach j) (why_at A x a (reason_in narrowed x) narrowed j) (reason_in narrowed j)
        ≡ cond (eqb (mask_of 16 (forward_domains P D x a j)) (get_or w j 0)) (reason_in w j) (bit_or (reason_in w j) (reason_in w x))
    unfolding why_at reason_of
    why_at_lem j h = rw (sym (list_at j h), reason_narrowed j, reason_narrowed x) (by_eq j x
        (λ e. rw (e, reach-own, or_self (reason_in w x)) (either (eqb (get_or narrowed x 0) (get_or w x 0)) (reason_in w x)))
        (λ e. rw (get_or-set_other w x j (2 ^ a) 0 e) (test (bit reach j)
        (λ t. rw (holds {b = bit reach j} t))
        (λ f. rw (f, eq-eqb (get_or w j 0) (get_or w j 0) refl)))))
      where
        either : (c : Bool) (r : ℕ) → r ≡ cond c r r
        either true r = refl
        either false r = refl

    -- The words that the check leaves are those of rule 2.
    words_are : (q : ℕ) → q ≡ reason_in narrowed x → checked_words A x a n q (bit reach) narrowed ≡ after_forward P n x a w
    unfolding checked_words after_forward explain_forward forward_reasons forward masks_of
    words_are q e =
        rw e (holding-narrowed _ _)
        ∙ ap₂ (holding n w)
        (list_of_same n _ _ list_at ∙ ap (λ (k : ℕ). list_of k (λ j. mask_of 16 (forward_domains P D x a j))) (sym st.size))
        (list_of_same n (λ j. cond (bit reach j) (why_at A x a (reason_in narrowed x) narrowed j) (reason_in narrowed j)) (reasons n)
        (λ j h. why_at_lem j h ∙ rw (get_d_list_of n M j h, get_d_list_in n w j h, get_d_why_in n w j h, get_d_why_in n w x hx))
        ∙ ap (λ (k : ℕ). list_of k (reasons k)) (sym st.size))
      where
        M : ℕ → ℕ
        M = λ j. mask_of 16 (forward_domains P D x a j)

        reasons : ℕ → ℕ → ℕ
        reasons = λ k j. cond (eqb (get_or (list_of k M) j 0) (get_or (list_in n w) j 0)) (get_or (why_in n w) j 0) (bit_or (get_or (why_in n w) j 0) (get_or (why_in n w) x 0))

        holding-narrowed : (K L : List ℕ) → holding n narrowed K L ≡ holding n w K L
        holding-narrowed K L =
            ap (λ (v : List ℕ). holding n (set v x (2 ^ a)) K L) (sym (holding-own n st.most w l small))
            ∙ ap (λ (v : List ℕ). holding n v K L) (set-domain n st.most w l (list_in n w) (why_in n w) (length-list_in n w) x (2 ^ a) hx)
            ∙ holding_again n st.most w l (set (list_in n w) x (2 ^ a)) (why_in n w) K L

-- What the code of the forward check ends with: m, v and q are its later neighbours, its narrowed mask and its reason.
pub forward_said : (P : Problem) (n : ℕ) (A : Arrays) → States P n A
    → (x a : ℕ) → x < n → a < 16 → (w : List ℕ) → ((k : ℕ) → get_or w k 0 < 65536) → 96 ≤ length w → ((j : ℕ) → j < n → ¬ (get_or w j 0 ≡ 0))
    → (m v q : ℕ) (r : Option ℕ) (w' : List ℕ) → m ≡ later_of (get_or A.near x 0) x n → v ≡ 2 ^ a → q ≡ reason_in (set w x v) x
    → r ≡ found n (first_failing A x a n (bit m) (set w x v)) → w' ≡ checked_words A x a n q (bit m) (set w x v)
    → (r ≡ found n (forward_named P x a (list_in n w))) × (w' ≡ after_forward P n x a w)
forward_said P n A st x a hx ha w small l z m v q r w' em ev eq er ew = (
  er ∙ ap (found n) (ap₂ (λ (m v : ℕ). first_failing A x a n (bit m) (set w x v)) em ev
      ∙ named_narrowed P n A st x a hx ha w small ∙ sym (named_is P n A st x a hx ha w small z)),
  ew ∙ ap₂ (λ (m v : ℕ). checked_words A x a n q (bit m) (set w x v)) em ev
      ∙ words_are P n A st x a hx ha w small l q (eq ∙ ap (λ (v : ℕ). reason_in (set w x v) x) ev),
)

-- A forward check is a loss where it names a variable.
pub loss_named_lem : (P : Problem) (x a : ℕ) (l : List ℕ) → forward_loss P (domains l) x a ≡ ltb (forward_named P x a l) P.n
unfolding forward_loss forward_named
loss_named_lem P x a l = first_some P.n (ltb x) (forward_fails P (domains l) x a)

module _ (P : Problem) (n : ℕ) (A : Arrays) (st : States P n A)
    (i : ℕ) (hi : i < n) (w : List ℕ) (small : (k : ℕ) → get_or w k 0 < 65536) (z : (j : ℕ) → j < n → ¬ (get_or w j 0 ≡ 0)) where
  -- Look ahead names the first losing value, and the variable at which it fails.
  value_is : ahead_value P n i w ≡ first_losing A i n (later_of (get_or A.near i 0) i n) (cond (bit A.universal i) (get_or w i 0) 0) w
  unfolding ahead_value ahead_named first_losing losing
  value_is = rw (st.side i hi) (test (bit A.universal i)
      (λ t. rw (holds {b = bit A.universal i} t) (first-agree 16 _ _ λ a l.
      rw (domain_is P n A st i a hi l w small i hi a, loss_named_lem P i a (list_in n w), named_is P n A st i a hi l w small z, st.size)))
      (λ f. rw f (sym (first_none 16 _ λ a l. rw (bit_of_zero a)))))

  variable_is : ahead_variable P n i w ≡ losing_at A i n (later_of (get_or A.near i 0) i n) (cond (bit A.universal i) (get_or w i 0) 0) w
  unfolding ahead_variable losing_at
  variable_is = rw value_is (go (first_losing A i n (later_of (get_or A.near i 0) i n) (cond (bit A.universal i) (get_or w i 0) 0) w))
    where
      go : (a : ℕ) → cond (ltb a 16) (forward_named P i a (list_in n w)) n ≡ cond (ltb a 16) (first_failing A i a n (bit (later_of (get_or A.near i 0) i n)) w) n
      go a = by_lt a 16 (λ l. rw (lt-ltb a 16 l) (named_is P n A st i a hi l w small z)) (λ l. rw (le-ltb a 16 l))

  -- What the code of look ahead ends with: m and d are its later neighbours and the values that it tries.
  pub ahead_said : (m d : ℕ) (r : Option Ahead) → m ≡ later_of (get_or A.near i 0) i n → d ≡ cond (bit A.universal i) (get_or w i 0) 0
      → r ≡ ahead (first_losing A i n m d w) (losing_at A i n m d w) → r ≡ ahead (ahead_value P n i w) (ahead_variable P n i w)
  ahead_said m d r em ed e =
      e ∙ ap₂ ahead (ap₂ (λ (m d : ℕ). first_losing A i n m d w) em ed ∙ sym value_is) (ap₂ (λ (m d : ℕ). losing_at A i n m d w) em ed ∙ sym variable_is)

-- Look ahead is a loss where it names a value.
pub ahead_named_lem : (P : Problem) (n i : ℕ) (w : List ℕ) → look_ahead P i (list_in n w) ≡ ltb (ahead_value P n i w) 16
unfolding look_ahead ahead_loss ahead_value ahead_named
ahead_named_lem P n i w = go (P.universal i) _ _ (first_some 16 (domains (list_in n w) i) (λ a. forward_loss P (domains (list_in n w)) i a))
  where
    go : (u s : Bool) (k : ℕ) → s ≡ ltb k 16 → (u && s) ≡ ltb (cond u k 16) 16
    go true s k e = e
    go false s k e = refl

-- Neighbours as the arrays have them.
neighbours_are : (P : Problem) (n : ℕ) (A : Arrays) → States P n A → (x : ℕ) → x < n → get_or A.near x 0 < 2 ^ 32
    → get_or A.near x 0 ≡ neighbours P x
unfolding neighbours
neighbours_are P n A st x h s =
    let m = pow_mono {i = n} {j = 32} st.most in
    let b = mask_of_lt n (P.constrained x) in
    bit_ext 32 (get_or A.near x 0) (mask_of n (P.constrained x)) s (omega arith)
    (λ k l. by_lt k n (λ r. sym (bit-mask_of n (P.constrained x) k r ∙ st.joined x k h r)) (λ r. st.inside x k h r ∙ bit_of_zero k ∙ sym (bit_high n (mask_of n (P.constrained x)) k b r)))
    ∙ ap (λ (k : ℕ). mask_of k (P.constrained x)) (sym st.size)

pub conflict_is : (P : Problem) (n : ℕ) (A : Arrays) → States P n A → (k x : ℕ) → x < n
    → (w : List ℕ) (a b m : ℕ) → a < 2 ^ 32 → b < 2 ^ 32 → m < 2 ^ 32 → a ≡ reason_in w k → b ≡ reason_in w x → m ≡ get_or A.near x 0 → bit_or (bit_or a b) m ≡ conflict_in P k x w
unfolding conflict_in
conflict_is P n A st k x h w a b m la lb lm p q e =
    or_assoc 32 a b m la lb lm ∙ rw (p, q, e) (ap (λ (s : ℕ). bit_or (reason_in w k) (bit_or (reason_in w x) s)) (neighbours_are P n A st x h (subst (λ (s : ℕ). s < 2 ^ 32) e lm)))

-- The conflict sets of the game, of a loss at x: by the words before the check, which look ahead has too, and by those that the check leaves.
reason_lt : (w : List ℕ) → ((k : ℕ) → get_or w k 0 < 65536) → (j : ℕ) → reason_in w j < 2 ^ 32
unfolding reason_in
reason_lt w small j = let s = small (32 + 2 * j) in let t = small (33 + 2 * j) in omega arith

taken_twice : (a b c : ℕ) → a < 2 ^ 32 → b < 2 ^ 32 → c < 2 ^ 32 → bit_or a (bit_or (bit_or b a) c) ≡ bit_or a (bit_or b c)
taken_twice a b c h k l =
    bit_ext 32 (bit_or a (bit_or (bit_or b a) c)) (bit_or a (bit_or b c)) (or_lt 32 a (bit_or (bit_or b a) c) h (or_lt 32 (bit_or b a) c (or_lt 32 b a k h) l)) (or_lt 32 a (bit_or b c) h (or_lt 32 b c k l))
    λ v _. rw (bit-bit_or a (bit_or (bit_or b a) c) v, bit-bit_or (bit_or b a) c v, bit-bit_or b a v, bit-bit_or a (bit_or b c) v, bit-bit_or b c v) (go (bit a v) (bit b v) (bit c v))
  where
    go : (x y z : Bool) → (x || ((y || x) || z)) ≡ (x || (y || z))
    go true y z = refl
    go false true z = refl
    go false false z = refl

module _ (P : Problem) (n : ℕ) (size : P.n ≡ n) (most : n ≤ 32) (k a : ℕ) (hk : k < n) (w : List ℕ) (x : ℕ) (named : x ≡ forward_named P k a (list_in n w)) (hx : x < n) where
  pub conflict-before : conflict_in P k x w ≡ forward_conflict P (list_in n w) (why_in n w) k a
  unfolding conflict_in forward_conflict
  conflict-before = rw (sym named, get_d_why_in n w k hk, get_d_why_in n w x hx)

  module _ (small : (j : ℕ) → get_or w j 0 < 65536) (l : 96 ≤ length w) where
    -- The reason of j after the check.
    reason_after : (j : ℕ) → j < n → (c : Bool) × (reason_in (after_forward P n k a w) j ≡ cond c (reason_in w j) (bit_or (reason_in w j) (reason_in w k)))
    unfolding after_forward explain_forward forward_reasons
    reason_after j h = (
      eqb (get_or (forward P k a (list_in n w)).list j 0) (get_or (list_in n w) j 0),
      holding_reason n most w l _ _ j h ∙ get_d_list_of P.n _ j (rw size h) ∙ rw (get_d_why_in n w j h, get_d_why_in n w k hk),
    )

    neighbours_lt : neighbours P x < 2 ^ 32
    unfolding neighbours
    neighbours_lt = let b = mask_of_lt P.n (P.constrained x) in let m = pow_mono {i = P.n} {j = 32} (omega arith) in omega arith

    pub conflict-after : conflict_in P k x (after_forward P n k a w) ≡ forward_conflict P (list_in n w) (why_in n w) k a
    unfolding conflict_in
    conflict-after = go (reason_after k hk).0 (reason_after x hx).0 (reason_after k hk).1 (reason_after x hx).1 ∙ conflict-before
      where
        go : (c d : Bool) → reason_in (after_forward P n k a w) k ≡ cond c (reason_in w k) (bit_or (reason_in w k) (reason_in w k)) → reason_in (after_forward P n k a w) x ≡ cond d (reason_in w x) (bit_or (reason_in w x) (reason_in w k))
            → conflict_in P k x (after_forward P n k a w) ≡ conflict_in P k x w
        go true true e f = rw (e, f)
        go true false e f = rw (e, f) (taken_twice (reason_in w k) (reason_in w x) (neighbours P x) (reason_lt w small k) (reason_lt w small x) neighbours_lt)
        go false true e f = rw (e, f, or_self (reason_in w k))
        go false false e f = rw (e, f, or_self (reason_in w k)) (taken_twice (reason_in w k) (reason_in w x) (neighbours P x) (reason_lt w small k) (reason_lt w small x) neighbours_lt)
