-- Open values over arrays, and in the problem that these state.
use mathlib.Core.Path.{◌≡◌, refl, sym, ap, ap₂, ◌∙◌}
use mathlib.Core.Bool.{Bool, true, false, cond, not, ◌&&◌, and-true}
use mathlib.Core.List.{List}
use Prim.Native.Nat.{ℕ, ◌+◌, ◌^◌, ◌≤◌, ◌<◌}
use native.Mathlib.Nat.{mod-eq_of_lt}
use native.Mathlib.Omega.{arith}
use lib.Count.{ones}
use lib.Dec.{T, T_not, eqb, ltb}
use lib.ListN.{get_or, length, set}
use lib.Pow.{pow-lt}
use lib.Seq.{get_or-take}
use borrow.Author.Tests.{lt-ltb, le-ltb, not-false}
use Rattle.mask.specs.Range.{some, each, count}
use Rattle.mask.specs.Mask.{bit, mask_of}
use Rattle.mask.proofs.Logic.{same_false, true_holds, fails, clash, by_lt}
use Rattle.mask.proofs.Range.{each_in, each_out, each_eq, some_in, some_out, some_eq}
use Rattle.mask.proofs.Bits.{bit_single, ones-count}
use Rattle.mask.proofs.Members.{some_single}
use Rattle.mask.proofs.Masks.{mask_of_lt, mask_of_same, mask_of_bits}
use Rattle.std.specs.Prelude.{Ok, Err}
use Rattle.refusal.specs.declared.reason.Reason.{Reason}
use Rattle.refusal.specs.Chain.{Fine}
use Rattle.refusal.proofs.RepliedLaws.{passed_stops, passed_goes}
use Rattle.game.specs.Problem.{Problem}
use Rattle.game.specs.Lists.{domains, list_of, masks_of, spread}
use Rattle.game.specs.Open.{goes_with_plays, stuck, is_open, open_values, open_counts}
use Rattle.game.specs.Support.{clashes}
use Rattle.theory.proofs.Lists.{get_d_list_of, list_of_same}
use Rattle.theory.proofs.SpreadLaws.{listed_next}
use Rattle.theory.proofs.Standing.{open_count}
use Rattle.theory.proofs.Turn.{unclashed_goes}
use Rattle.theory.proofs.OpenChecks.{Usable, usable_in, usable_out}
use Rattle.solver_arrays.specs.declared.arrays.Arrays.{Arrays}
use Rattle.solver_arrays.specs.Arrays.{row_in}
use Rattle.solver_arrays.specs.Going.{value_at, going_with}
use Rattle.solver_arrays.proofs.GoingLaws.{going_lt, going_bit, going_none, going_all}
use Rattle.position.specs.declared.Position.{Position}
use Rattle.position.specs.Position.{plays_of, fits_at, fits_in, fit_test}
use Rattle.position.proofs.Fitting.{fits_plays, fits_at_lem, length_plays, get_d_plays, played_small}
use Rattle.session.specs.declared.Opened.{Opened}
use Rattle.session.specs.Opening.{PosesOwn, opened_after, open_in, play_clashes, stuck_at, cause_at, stuck_to, open_mask, open_at, open_masks, mask_counts, open_all}
use Rattle.session.proofs.PlayLaws.{fit_fine, fit_same}

-- ---- the steps of the code

pub play_clash : (A : Arrays) (values : List ℕ) (j v own left : ℕ) (r : Bool) → v ≡ value_at values j → own ≡ 2 ^ v → left ≡ going_with A values j own j → r ≡ eqb left 0
    → r ≡ play_clashes A values j
unfolding play_clashes
play_clash A values j v own left r e f g q = q ∙ ap (λ m. eqb m 0) (g ∙ ap (λ m. going_with A values j m j) (f ∙ ap (λ a. 2 ^ a) e))

module _ (A : Arrays) (p : Position) where
  pub stuck-played : (j : ℕ) (r : Bool) → j < p.plays → r ≡ play_clashes A p.values j → r ≡ cause_at A p j
  unfolding cause_at stuck_at
  stuck-played j r h e = rw (lt-ltb j p.plays h) e

  pub stuck-universal : (m j left : ℕ) (r : Bool) → m ≡ get_or A.domains j 0 → p.plays ≤ j → bit A.universal j ≡ true → left ≡ going_with A p.values p.plays m j
      → r ≡ not (eqb left m) → r ≡ cause_at A p j
  unfolding cause_at stuck_at
  stuck-universal m j left r d h s e q = rw (le-ltb j p.plays h, s, sym d, sym e) q

  pub stuck_existential : (m j left : ℕ) (r : Bool) → m ≡ get_or A.domains j 0 → p.plays ≤ j → bit A.universal j ≡ false → left ≡ going_with A p.values p.plays m j
      → r ≡ eqb left 0 → r ≡ cause_at A p j
  unfolding cause_at stuck_at
  stuck_existential m j left r d h s e q = rw (le-ltb j p.plays h, s, sym d, sym e) q

  -- The three choices of a mask.
  pub open_chosen : (closed whole : Bool) (m j own going unplayed usable r : ℕ) → m ≡ get_or A.domains j 0 → own ≡ 2 ^ value_at p.values j → going ≡ going_with A p.values p.plays m j
      → whole ≡ bit A.universal j → unplayed ≡ cond whole m going → usable ≡ cond closed 0 unplayed → r ≡ cond (ltb j p.plays) own usable → r ≡ open_at A p closed j
  unfolding open_at open_mask
  open_chosen closed whole m j own going unplayed usable r i a b w c d e =
      rw (sym i) (e ∙ ap₂ (cond (ltb j p.plays)) a (d ∙ ap (cond closed 0) (c ∙ ap₂ (λ x y. cond x m y) w b)))

  module _ (closed : Bool) where
    pub masks_next : (w : List ℕ) (j r : ℕ) → j < 32 → w ≡ spread (open_masks A p closed j) → r ≡ open_at A p closed j
        → set w j r ≡ spread (open_masks A p closed (j + 1))
    unfolding open_masks
    masks_next w j r h e q = listed_next (open_at A p closed) w j r h e q

    pub counts-next : (w : List ℕ) (j m r : ℕ) → j < 32 → w ≡ spread (mask_counts A p closed j) → m ≡ open_at A p closed j
        → r ≡ count 16 (bit m) → set w j r ≡ spread (mask_counts A p closed (j + 1))
    unfolding mask_counts
    counts-next w j m r h e q c = listed_next (λ i. count 16 (bit (open_at A p closed i))) w j r h e (c ∙ ap (λ (x : ℕ). count 16 (bit x)) q)

    pub all_done : (m c : List ℕ) (j : ℕ) → j ≡ A.own → closed ≡ stuck_to A p A.own → m ≡ spread (open_masks A p closed j) → c ≡ spread (mask_counts A p closed j)
        → record { masks = m; counts = c } ≡ open_all A p
    unfolding open_all
    all_done m c j e s f g = rw (f, g, e, s)

-- ---- in the problem

-- A test holds whose negation is false.
denied : (a b : Bool) → a ≡ not b → a ≡ false → T b
denied a b e f = true_holds (not-false b (sym e ∙ f))

-- The domain of each of their own variables.
own_domain : (P : Problem) (A : Arrays) → PosesOwn P A → (i : ℕ) → i < A.own → get_or P.domain i 0 ≡ get_or A.domains i 0
own_domain P A h i b = ap (λ (l : List ℕ). get_or l i 0) h.domain ∙ get_or-take A.own A.domains i 0 b

module _ (P : Problem) (A : Arrays) (h : PosesOwn P A) (p : Position) (fits : T (fits_in p A.own A.domains)) (long : length p.values ≡ 32) where
  abbrev n : ℕ
  n = A.own

  abbrev u : ℕ
  u = A.universal

  abbrev D : List ℕ
  D = A.domains

  domain : (j : ℕ) → j < n → get_or P.domain j 0 ≡ get_or D j 0
  domain = own_domain P A h

  few : p.plays ≤ n
  few = fits_plays p n D fits

  size : length (plays_of p) ≡ p.plays
  size = length_plays p n D fits h.states.most long

  domain_small : (j : ℕ) → j < n → get_or D j 0 < 65536
  domain_small j k = omega (arith, domain j k, P.bounded j)

  -- A value played is below 16, so the cut changes nothing.
  value_small : (i : ℕ) → i < p.plays → get_or p.values i 0 < 16
  unfolding fits_at
  value_small i k =
      let b = few in let m = h.states.most in
      played_small p.plays i (get_or D i 0) (get_or p.values i 0) (domain_small i (omega arith)) k (fits_at_lem p n D fits i (omega arith))

  value_is : (i : ℕ) → i < p.plays → value_at p.values i ≡ get_or (plays_of p) i 0
  unfolding value_at
  value_is i k = mod-eq_of_lt (value_small i k) ∙ sym (get_d_plays p i k)

  row_is : (i j a : ℕ) → i < p.plays → j < n → a < 16 → bit (row_in A i (value_at p.values i) j) a ≡ P.compatible i (get_or (plays_of p) i 0) j a
  row_is i j a b k c =
      let v : value_at p.values i < 16 = omega (arith, value_is i b, get_d_plays p i b, value_small i b) in
      sym (h.states.row i (value_at p.values i) j a (omega (arith, few)) v k c) ∙ ap (λ (x : ℕ). P.compatible i x j a) (value_is i b)

  -- Value a of an unplayed variable j goes with every value played.
  free : (j a : ℕ) → goes_with_plays P (plays_of p) j a ≡ each p.plays (λ i. true) (λ i. P.compatible i (get_or (plays_of p) i 0) j a)
  unfolding goes_with_plays
  free j a = rw size

  -- ---- a cause at a variable

  abbrev cause : ℕ → Bool
  cause = cause_at A p

  module _ (j : ℕ) (k : j < n) where
    -- The values played before variable j that its own goes with.
    clash_is : j < p.plays → play_clashes A p.values j ≡ not (each j (λ i. true) (λ i. P.compatible i (get_or (plays_of p) i 0) j (get_or (plays_of p) j 0)))
    unfolding play_clashes
    clash_is b =
        let s : value_at p.values j < 16 = omega (arith, value_is j b, get_d_plays p j b, value_small j b) in
        going_none A p.values j (2 ^ value_at p.values j) j (λ i a. P.compatible i (get_or (plays_of p) i 0) j a) (pow-lt {j = 16} s) (λ i a l c. row_is i j a (omega arith) k c)
        ∙ ap not (some_single 16 (value_at p.values j) (λ a. each j (λ i. true) (λ i. P.compatible i (get_or (plays_of p) i 0) j a)) s
        ∙ ap (λ (x : ℕ). each j (λ i. true) (λ i. P.compatible i (get_or (plays_of p) i 0) j x)) (value_is j b))

    none_is : eqb (going_with A p.values p.plays (get_or D j 0) j) 0 ≡ not (some 16 (domains P.domain j) (goes_with_plays P (plays_of p) j))
    unfolding domains
    none_is =
        going_none A p.values p.plays (get_or D j 0) j (λ i a. P.compatible i (get_or (plays_of p) i 0) j a) (domain_small j k) (λ i a l c. row_is i j a l k c)
        ∙ ap not (some_eq 16 (bit (get_or D j 0)) _ _ (λ a _. sym (free j a)))
        ∙ ap (λ (m : ℕ). not (some 16 (bit m) (goes_with_plays P (plays_of p) j))) (sym (domain j k))

    all_is : eqb (going_with A p.values p.plays (get_or D j 0) j) (get_or D j 0) ≡ each 16 (domains P.domain j) (goes_with_plays P (plays_of p) j)
    unfolding domains
    all_is =
        going_all A p.values p.plays (get_or D j 0) j (λ i a. P.compatible i (get_or (plays_of p) i 0) j a) (domain_small j k) (λ i a l c. row_is i j a l k c)
        ∙ each_eq 16 (bit (get_or D j 0)) _ _ (λ a _. sym (free j a))
        ∙ ap (λ (m : ℕ). each 16 (bit m) (goes_with_plays P (plays_of p) j)) (sym (domain j k))

    at_played : j < p.plays → cause j ≡ not (each j (λ i. true) (λ i. P.compatible i (get_or (plays_of p) i 0) j (get_or (plays_of p) j 0)))
    unfolding cause_at stuck_at
    at_played b = rw (lt-ltb j p.plays b) (clash_is b)

    at_existential : p.plays ≤ j → P.universal j ≡ false → cause j ≡ not (some 16 (domains P.domain j) (goes_with_plays P (plays_of p) j))
    unfolding cause_at stuck_at
    at_existential b s = rw (le-ltb j p.plays b, sym (h.states.side j k) ∙ s) none_is

    at_universal : p.plays ≤ j → P.universal j ≡ true → cause j ≡ not (each 16 (domains P.domain j) (goes_with_plays P (plays_of p) j))
    unfolding cause_at stuck_at
    at_universal b s = rw (le-ltb j p.plays b, sym (h.states.side j k) ∙ s) (ap not all_is)

  -- ---- a cause at some variable

  module _ (e : stuck_to A p n ≡ false) where
    calm : (j : ℕ) → j < n → cause j ≡ false
    unfolding stuck_to
    calm j k = fails λ t. clash e (some_in n (λ j. true) cause j k tt t)

    usable_at : Usable P (plays_of p)
    unfolding goes_with_plays clashes
    usable_at = record {
      plays = λ i j g l. let z = size in let f = few in let b : j < p.plays = omega arith in let k : j < n = omega arith in
          each_out j (λ i. true) (λ i. P.compatible i (get_or (plays_of p) i 0) j (get_or (plays_of p) j 0)) (denied (cause j) (each j (λ i. true) (λ i. P.compatible i (get_or (plays_of p) i 0) j (get_or (plays_of p) j 0))) (at_played j k b) (calm j k)) i g tt;
      value = λ j l g s. let z = size in let y = h.states.size in let b : p.plays ≤ j = omega arith in let k : j < n = omega arith in
          some_out 16 (domains P.domain j) (goes_with_plays P (plays_of p) j) (denied (cause j) (some 16 (domains P.domain j) (goes_with_plays P (plays_of p) j)) (at_existential j k b s) (calm j k));
      unclashed = λ j l g s i x. fails λ t. let z = size in let y = h.states.size in let b : p.plays ≤ j = omega arith in let k : j < n = omega arith in
          let r = some_out 16 (domains P.domain j) (λ b. not (P.compatible i (get_or (plays_of p) i 0) j b)) t in
          T_not (P.compatible i (get_or (plays_of p) i 0) j r.0) r.3 (each_out (length (plays_of p)) (λ i. true) (λ i. P.compatible i (get_or (plays_of p) i 0) j r.0)
          (each_out 16 (domains P.domain j) (goes_with_plays P (plays_of p) j) (denied (cause j) (each 16 (domains P.domain j) (goes_with_plays P (plays_of p) j)) (at_universal j k b s) (calm j k)) r.0 r.1 r.2) i x tt);
    }

  usable_here : Usable P (plays_of p) → (j : ℕ) (k : j < n) → T (cause j) → ⊥
  unfolding goes_with_plays
  usable_here w j k t = by_lt j p.plays
      (λ b. T_not (each j (λ i. true) (λ i. P.compatible i (get_or (plays_of p) i 0) j (get_or (plays_of p) j 0))) (rw (at_played j k b) at t)
      (each_in j (λ i. true) (λ i. P.compatible i (get_or (plays_of p) i 0) j (get_or (plays_of p) j 0)) (λ i g _. w.plays i j g (omega (arith, size)))))
      (λ b. let z = size in let y = h.states.size in go b (omega arith) (omega arith) (P.universal j) refl)
    where
      go : p.plays ≤ j → length (plays_of p) ≤ j → j < P.n → (s : Bool) → P.universal j ≡ s → ⊥
      go b l g true s = T_not (each 16 (domains P.domain j) (goes_with_plays P (plays_of p) j)) (rw (at_universal j k b s) at t)
          (each_in 16 (domains P.domain j) (goes_with_plays P (plays_of p) j) λ a c d. each_in (length (plays_of p)) (λ i. true) (λ i. P.compatible i (get_or (plays_of p) i 0) j a) λ i x _.
          unclashed_goes P (domains P.domain) i (get_or (plays_of p) i 0) j a c d (w.unclashed j l g s i x))
      go b l g false s =
          let r = w.value j l g s in
          T_not (some 16 (domains P.domain j) (goes_with_plays P (plays_of p) j)) (rw (at_existential j k b s) at t) (some_in 16 (domains P.domain j) (goes_with_plays P (plays_of p) j) r.0 r.1 r.2 r.3)

  usable_none : Usable P (plays_of p) → stuck_to A p n ≡ false
  unfolding stuck_to
  usable_none w = fails λ t. let r = some_out n (λ j. true) cause t in usable_here w r.0 r.1 r.3

  stuck_is : stuck_to A p n ≡ stuck P (plays_of p)
  stuck_is = same_false (stuck_to A p n) (stuck P (plays_of p)) (λ e. usable_in P (plays_of p) (usable_at e)) (λ e. usable_none (usable_out P (plays_of p) e))

  -- ---- the masks

  abbrev closed : Bool
  closed = stuck P (plays_of p)

  -- The mask of an unplayed variable j, universal or not.
  unplayed : (j : ℕ) → j < n → (s c : Bool) → bit u j ≡ c
      → cond s 0 (cond c (get_or D j 0) (going_with A p.values p.plays (get_or D j 0) j))
      ≡ mask_of 16 (λ a. not s && (domains P.domain j a && cond c true (goes_with_plays P (plays_of p) j a)))
  unfolding domains mask_of
  unplayed j k true c e = refl
  unplayed j k false true e =
      mask_of_bits 16 (get_or D j 0) (domain_small j k)
      ∙ mask_of_same 16 (bit (get_or D j 0)) (λ a. bit (get_or P.domain j 0) a && true)
      (λ a _. ap (λ (m : ℕ). bit m a) (sym (domain j k)) ∙ sym (and-true (bit (get_or P.domain j 0) a)))
  unplayed j k false false e =
      mask_of_bits 16 (going_with A p.values p.plays (get_or D j 0) j) (going_lt A p.values p.plays (get_or D j 0) j (domain_small j k))
      ∙ mask_of_same 16 (bit (going_with A p.values p.plays (get_or D j 0) j)) (λ a. bit (get_or P.domain j 0) a && goes_with_plays P (plays_of p) j a)
      (λ a c. going_bit A p.values p.plays (get_or D j 0) j a (λ i. P.compatible i (get_or (plays_of p) i 0) j a) (λ i b. row_is i j a b k c)
      ∙ ap₂ (λ (m : ℕ) (b : Bool). bit m a && b) (sym (domain j k)) (sym (free j a)))

  -- The mask over the arrays, and the test, by whether the variable is played.
  mask_played : (j : ℕ) → j < p.plays → open_at A p closed j ≡ 2 ^ get_or (plays_of p) j 0
  unfolding open_at open_mask
  mask_played j b = rw (lt-ltb j p.plays b, value_is j b)

  mask_unplayed : (j : ℕ) → p.plays ≤ j → open_at A p closed j ≡ cond closed 0 (cond (bit u j) (get_or D j 0) (going_with A p.values p.plays (get_or D j 0) j))
  unfolding open_at open_mask
  mask_unplayed j b = rw (le-ltb j p.plays b)

  test_played : (j a : ℕ) → j < p.plays → is_open P (plays_of p) j a ≡ eqb a (get_or (plays_of p) j 0)
  unfolding is_open
  test_played j a b = rw (size, lt-ltb j p.plays b)

  test_unplayed : (j a : ℕ) → j < n → p.plays ≤ j
      → is_open P (plays_of p) j a ≡ (not closed && (domains P.domain j a && cond (bit u j) true (goes_with_plays P (plays_of p) j a)))
  unfolding is_open
  test_unplayed j a k b = rw (size, le-ltb j p.plays b, h.states.side j k)

  -- The mask of variable j over the arrays is that of its open values.
  open_same : (j : ℕ) → j < n → open_at A p closed j ≡ mask_of 16 (is_open P (plays_of p) j)
  open_same j k =
      by_lt j p.plays
      (λ b. mask_played j b
      ∙ mask_of_bits 16 (2 ^ get_or (plays_of p) j 0) (pow-lt {j = 16} (omega (arith, value_small j b, get_d_plays p j b)))
      ∙ mask_of_same 16 (bit (2 ^ get_or (plays_of p) j 0)) (is_open P (plays_of p) j) (λ a _. bit_single (get_or (plays_of p) j 0) a ∙ sym (test_played j a b)))
      (λ b. mask_unplayed j b
      ∙ unplayed j k closed (bit u j) refl
      ∙ mask_of_same 16 (λ a. not closed && (domains P.domain j a && cond (bit u j) true (goes_with_plays P (plays_of p) j a))) (is_open P (plays_of p) j) (λ a _. sym (test_unplayed j a k b)))

  masks_are : open_masks A p closed n ≡ open_values P (plays_of p)
  unfolding open_masks open_values masks_of
  masks_are =
      list_of_same n (open_at A p closed) (λ j. mask_of 16 (is_open P (plays_of p) j)) open_same
      ∙ ap (λ (k : ℕ). list_of k (λ j. mask_of 16 (is_open P (plays_of p) j))) (sym h.states.size)

  -- Counting the ones of a mask counts the open values.
  count_is : (j : ℕ) → j < n → count 16 (bit (open_at A p closed j)) ≡ count 16 (is_open P (plays_of p) j)
  unfolding open_values open_counts masks_of
  count_is j k =
      let b : j < P.n = omega (arith, h.states.size) in
      ap (λ (m : ℕ). count 16 (bit m)) (open_same j k)
      ∙ sym (ones-count 16 (mask_of 16 (is_open P (plays_of p) j)) (mask_of_lt 16 (is_open P (plays_of p) j)))
      ∙ ap ones (sym (get_d_list_of P.n (λ i. mask_of 16 (is_open P (plays_of p) i)) j b))
      ∙ sym (open_count P (plays_of p) j b)
      ∙ get_d_list_of P.n (λ i. count 16 (is_open P (plays_of p) i)) j b

  counts_are : mask_counts A p closed n ≡ open_counts P (plays_of p)
  unfolding mask_counts open_counts
  counts_are =
      list_of_same n (λ j. count 16 (bit (open_at A p closed j))) (λ j. count 16 (is_open P (plays_of p) j)) count_is
      ∙ ap (λ (k : ℕ). list_of k (λ j. count 16 (is_open P (plays_of p) j))) (sym h.states.size)

-- ---- the reply

module _ (P : Problem) (A : Arrays) (h : PosesOwn P A) (p : Position) where
  test_same : fit_test A.own A.domains p ≡ fit_test P.n P.domain p
  test_same = fit_same P A.own A.domains record { size = h.states.size; domain = own_domain P A h } p

  pub open_refused_lem : (e : Reason) → fit_test A.own A.domains p ≡ Err e → Err e ≡ open_in P p
  unfolding open_in
  open_refused_lem e q = passed_stops _ _ test_same q

  pub open_done : (r : Opened) → length p.values ≡ 32 → fit_test A.own A.domains p ≡ Fine → r ≡ open_all A p → Ok r ≡ open_in P p
  unfolding open_all opened_after open_in
  open_done r long q e =
      let t = fit_fine A.own A.domains p q in
      passed_goes _ _ test_same q (e ∙ rw (stuck_is P A h p t long) (ap₂ (λ (m c : List ℕ). record { masks = spread m; counts = spread c })
      (masks_are P A h p t long) (counts_are P A h p t long)))
