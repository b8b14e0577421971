-- Open values are what rule 2 leaves of a position's list, over all plays; where a cause holds that nothing is usable, it finds a loss.
use mathlib.Core.Path.{◌≡◌, refl, sym, ap, subst, fun_ext, ◌∙◌}
use mathlib.Core.Bool.{Bool, true, false, cond, not, ◌&&◌, ◌||◌, and-true}
use mathlib.Core.List.{List}
use Prim.Native.Nat.{ℕ, zero, suc, ◌+◌, ◌-◌, ◌≤◌, ◌<◌}
use native.Mathlib.Omega.{arith}
use lib.Dec.{T, T_not, eqb, eqb→eq, eqb_refl, ltb, ltb→lt, leb, leb→le, le→leb}
use lib.ListN.{get_or, length}
use borrow.Author.Tests.{eq-eqb, ne_eqb, lt-ltb, le-ltb}
use Rattle.mask.specs.Range.{some, each}
use Rattle.mask.specs.Mask.{mask_of}
use Rattle.mask.proofs.Logic.{same_false, cond_same, holds, true_holds, fails, clash, test, by_eq, by_lt, and_in, and_out, or_out, or_out_false}
use Rattle.mask.proofs.Range.{each_in, each_out, some_in, some_out}
use Rattle.mask.proofs.Masks.{mask_of_same}
use Rattle.game.specs.Problem.{Problem}
use Rattle.game.specs.Game.{Domains}
use Rattle.game.specs.Lists.{domains, masks_of, Masks}
use Rattle.game.specs.Position.{play_of, legal, placed}
use Rattle.game.specs.Open.{goes_with_plays, plays_clash, existential_empty, universal_clash, stuck, is_open, open_values}
use Rattle.game.specs.Support.{clashes, empty}
use Rattle.game.specs.Rule.{ListRule, unruled, and_next}
use Rattle.game.specs.Forward.{forward_domains, forward_fails, forward_loss, forward}
use Rattle.game.specs.Turn.{first_list, checks}
use Rattle.theory.proofs.Lists.{file_lent, masks_of-domains, list_of_same}
use Rattle.theory.proofs.OnLists.{forward_masks, domains-forward}
use Rattle.theory.proofs.Positions.{placed_below, placed-above}
use Rattle.theory.proofs.TurnLists.{legal_out, first-list, at_lent}
use Rattle.theory.proofs.Standing.{legal_inside, position-placed}
use Rattle.theory.proofs.Transfer.{In}
use Rattle.theory.proofs.Turn.{value_left, unclashed_goes}

-- Where one rule after another finds no loss, the first finds none; and then the next runs.
first_calm : (r s : ListRule) (l : List ℕ) → (and_next r s l).loss ≡ false → (r l).loss ≡ false
unfolding and_next
first_calm r s l e = go (r l).loss refl e
  where
    go : (b : Bool) → (r l).loss ≡ b → (cond b (r l) (s (r l).list)).loss ≡ false → b ≡ false
    go true f e = sym f ∙ e
    go false f e = refl

next_runs : (r s : ListRule) (l : List ℕ) → (r l).loss ≡ false → and_next r s l ≡ s (r l).list
unfolding and_next
next_runs r s l e = rw e

module _ (P : Problem) (p : List ℕ) where
  open P use {n, domain, universal, compatible}

  -- None of the causes holds, variable by variable.
  pub record Usable : Type 0 where
    pub plays : (i j : ℕ) → i < j → j < length p → T (compatible i (get_or p i 0) j (get_or p j 0))
    pub value : (j : ℕ) → length p ≤ j → j < n → universal j ≡ false → (b : ℕ) × (b < 16) × T (domains domain j b) × T (goes_with_plays P p j b)
    pub unclashed : (j : ℕ) → length p ≤ j → j < n → universal j ≡ true → (i : ℕ) → i < length p → clashes P (domains domain) i (get_or p i 0) j ≡ false

  pub usable_in : Usable → stuck P p ≡ false
  unfolding stuck plays_clash existential_empty universal_clash
  usable_in u = fails λ t. or_out (plays_clash P p) (existential_empty P p || universal_clash P p) t one (λ s. or_out (existential_empty P p) (universal_clash P p) s two three)
    where
      one : T (plays_clash P p) → ⊥
      one t =
          let a = some_out (length p) (λ j. true) (λ j. some j (λ i. true) (λ i. not (compatible i (get_or p i 0) j (get_or p j 0)))) t in
          let b = some_out a.0 (λ i. true) (λ i. not (compatible i (get_or p i 0) a.0 (get_or p a.0 0))) a.3 in
          T_not (compatible b.0 (get_or p b.0 0) a.0 (get_or p a.0 0)) b.3 (u.plays b.0 a.0 b.1 a.1)

      two : T (existential_empty P p) → ⊥
      two t =
          let r = some_out n (λ j. leb (length p) j && not (universal j)) (λ j. not (some 16 (domains domain j) (goes_with_plays P p j))) t in
          let q = and_out (leb (length p) r.0) (not (universal r.0)) r.2 in
          let v = u.value r.0 (leb→le (length p) r.0 q.0) r.1 (fails (T_not (universal r.0) q.1)) in
          T_not (some 16 (domains domain r.0) (goes_with_plays P p r.0)) r.3 (some_in 16 (domains domain r.0) (goes_with_plays P p r.0) v.0 v.1 v.2 v.3)

      three : T (universal_clash P p) → ⊥
      three t =
          let r = some_out n (λ j. leb (length p) j && universal j) (λ j. some (length p) (λ i. true) (λ i. clashes P (domains domain) i (get_or p i 0) j)) t in
          let q = and_out (leb (length p) r.0) (universal r.0) r.2 in
          let s = some_out (length p) (λ i. true) (λ i. clashes P (domains domain) i (get_or p i 0) r.0) r.3 in
          clash (u.unclashed r.0 (leb→le (length p) r.0 q.0) r.1 (holds q.1) s.0 s.1) s.3

  pub usable_out : stuck P p ≡ false → Usable
  unfolding stuck plays_clash existential_empty universal_clash
  usable_out e = record {
    plays = λ i j h k. test (compatible i (get_or p i 0) j (get_or p j 0)) (λ t. t) (λ f. absurd (clash parts.0
        (some_in (length p) (λ j. true) (λ j. some j (λ i. true) (λ i. not (compatible i (get_or p i 0) j (get_or p j 0)))) j k tt
        (some_in j (λ i. true) (λ i. not (compatible i (get_or p i 0) j (get_or p j 0))) i h tt (true_holds (ap not f))))));
    value = λ j h k s. test (some 16 (domains domain j) (goes_with_plays P p j)) (some_out 16 (domains domain j) (goes_with_plays P p j))
        (λ f. absurd (clash late.0 (some_in n (λ j. leb (length p) j && not (universal j)) (λ j. not (some 16 (domains domain j) (goes_with_plays P p j))) j k
        (and_in (leb (length p) j) (not (universal j)) (le→leb (length p) j h) (true_holds (ap not s))) (true_holds (ap not f)))));
    unclashed = λ j h k s i l. fails λ t. clash late.1 (some_in n (λ j. leb (length p) j && universal j) (λ j. some (length p) (λ i. true) (λ i. clashes P (domains domain) i (get_or p i 0) j)) j k
        (and_in (leb (length p) j) (universal j) (le→leb (length p) j h) (true_holds s)) (some_in (length p) (λ i. true) (λ i. clashes P (domains domain) i (get_or p i 0) j) i l tt t));
  }
    where
      parts : (plays_clash P p ≡ false) × ((existential_empty P p || universal_clash P p) ≡ false)
      parts = or_out_false (plays_clash P p) (existential_empty P p || universal_clash P p) e

      late : (existential_empty P p ≡ false) × (universal_clash P p ≡ false)
      late = or_out_false (existential_empty P p) (universal_clash P p) parts.1

  -- The domains of the position, and what is left of them after rule 2 for the first i plays.
  abbrev own : Domains
  own = placed (domains domain) (length p) (play_of p)

  -- Value b of variable j goes with the value played at h.
  abbrev goes : ℕ → ℕ → ℕ → Bool
  goes j b h = compatible h (get_or p h 0) j b

  left : ℕ → Domains
  left i j b = let free = each i (λ h. true) (goes j b) in cond (ltb j i) (eqb b (get_or p j 0)) (cond (universal j) (own j b) (free && own j b))

  left-start : left 0 ≡ own
  unfolding left each
  left-start = fun_ext λ j. fun_ext λ b. rw (le-ltb j 0 (omega arith)) (cond_same (universal j) (own j b))

  left-next : (x : ℕ) → forward_domains P (left x) x (get_or p x 0) ≡ left (suc x)
  unfolding forward_domains left each
  left-next x = fun_ext λ j. fun_ext λ b. by_eq j x
      (λ e. rw (e, eq-eqb x x refl, lt-ltb x (suc x) (omega arith)))
      (λ e. by_lt j x
      (λ h. rw (ne_eqb j x e, le-ltb x j (omega arith), lt-ltb j x h, lt-ltb j (suc x) (omega arith)))
      (λ h. rw (ne_eqb j x e, lt-ltb x j (omega arith), le-ltb j x h, le-ltb j (suc x) (omega arith)) (go (universal j) (compatible x (get_or p x 0) j b)
      (each x (λ h. true) (goes j b)) (own j b))))
    where
      go : (u c f o : Bool) → cond (not u) (c && cond u o (f && o)) (cond u o (f && o)) ≡ cond u o ((c && f) && o)
      go true c f o = refl
      go false true f o = refl
      go false false f o = refl

  -- A variable that is not checked yet has its domain in the position, and of an existential one what goes with the plays checked.
  left-universal : (i j : ℕ) → i ≤ j → universal j ≡ true → left i j ≡ own j
  unfolding left
  left-universal i j h u = fun_ext λ b. rw (le-ltb j i h, u)

  module _ (i j b : ℕ) (h : i ≤ j) (u : universal j ≡ false) where
    left_existential : left i j b ≡ (each i (λ h. true) (goes j b) && own j b)
    unfolding left
    left_existential = rw (le-ltb j i h, u)

    left_in : ((h : ℕ) → h < i → T (goes j b h)) → T (own j b) → T (left i j b)
    left_in g o =
        rw left_existential (and_in (each i (λ h. true) (goes j b)) (own j b)
        (each_in i (λ h. true) (goes j b) (λ h l _. g h l)) o)

    left_out : T (left i j b) → ((h : ℕ) → h < i → T (goes j b h)) × T (own j b)
    left_out t =
        let r = and_out (each i (λ h. true) (goes j b)) (own j b) (rw left_existential at t) in
        (λ h l. each_out i (λ h. true) (goes j b) r.0 h l tt, r.1)

  -- No check finds a loss.
  Calm : ℕ → Type 0
  Calm x = (i : ℕ) → x ≤ i → i < length p → forward_loss P (left i) i (get_or p i 0) ≡ false

  module _ (t : T (legal P p)) where
    few : length p ≤ n
    few = (legal_out P p t).0

    small : (i : ℕ) → i < length p → get_or p i 0 < 16
    unfolding play_of
    small i h = (legal_inside P p t i h).0

    -- The position's domain of a played variable, and of an unplayed one.
    played : (j : ℕ) → j < length p → own j ≡ (λ b. eqb b (get_or p j 0))
    unfolding play_of
    played j h = placed_below (domains domain) (length p) (play_of p) j h

    unplayed : (j : ℕ) → length p ≤ j → own j ≡ domains domain j
    unplayed j h = placed-above (domains domain) (length p) (play_of p) j h

    stepped : (x : ℕ) (l : List ℕ) → x < length p → Masks n l → domains l ≡ left x → domains (forward P x (get_or p x 0) l).list ≡ left (suc x)
    stepped x l h m e = domains-forward P x (get_or p x 0) l (omega (arith, few)) (small x h) m ∙ ap (λ (D : Domains). forward_domains P D x (get_or p x 0)) e ∙ left-next x

    -- Rule 2 for the k plays from x on, over the list that the checks before them left.
    calm_out : (k x : ℕ) (l : List ℕ) → k + x ≡ length p → Masks n l → domains l ≡ left x → (checks P k x p l).loss ≡ false
        → Calm x × ((checks P k x p l).list ≡ masks_of n (left (length p)))
    unfolding Calm checks unruled forward
    calm_out zero x l z m e c = let y : x ≡ length p = omega arith in (λ i h k. absurd (omega arith), sym (masks_of-domains n l m) ∙ ap (masks_of n) (e ∙ ap left y))
    calm_out (suc k) x l z m e c =
        let f = first_calm (forward P x (get_or p x 0)) (checks P k (suc x) p) l c in
        let q = next_runs (forward P x (get_or p x 0)) (checks P k (suc x) p) l f in
        let r = calm_out k (suc x) (forward P x (get_or p x 0) l).list (omega arith) (forward_masks P x (get_or p x 0) l) (stepped x l (omega arith) m e) (sym (ap (λ o. o.loss) q) ∙ c) in
        (λ i h b. by_eq i x (λ y. rw (y, sym e) f) (λ y. r.0 i (omega arith) b), ap (λ o. o.list) q ∙ r.1)

    calm_in : (k x : ℕ) (l : List ℕ) → k + x ≡ length p → Masks n l → domains l ≡ left x → Calm x → (checks P k x p l).loss ≡ false
    unfolding Calm checks unruled forward
    calm_in zero x l z m e c = refl
    calm_in (suc k) x l z m e c =
        ap (λ o. o.loss) (next_runs (forward P x (get_or p x 0)) (checks P k (suc x) p) l (rw e (c x (omega arith) (omega arith))))
        ∙ calm_in k (suc x) (forward P x (get_or p x 0) l).list (omega arith) (forward_masks P x (get_or p x 0) l) (stepped x l (omega arith) m e) (λ i h b. c i (omega arith) b)

    -- Where no cause holds, no check fails at a later variable.
    module _ (u : Usable) (i : ℕ) (h : i < length p) (j : ℕ) (g : i < j) (k : j < n) where
      none : T (empty P (forward_domains P (left i) i (get_or p i 0)) j) → (b : ℕ) → b < 16 → T (left (suc i) j b) → ⊥
      unfolding empty
      none f b l t =
          T_not (some 16 (forward_domains P (left i) i (get_or p i 0) j) (λ a. true)) f
          (some_in 16 (forward_domains P (left i) i (get_or p i 0) j) (λ a. true) b l (subst (λ (D : Domains). T (D j b)) (sym (left-next i)) t) tt)

      stands : (s : Bool) → universal j ≡ s → T (cond s (clashes P (left i) i (get_or p i 0) j) (empty P (forward_domains P (left i) i (get_or p i 0)) j)) → ⊥
      unfolding clashes goes_with_plays
      stands true s f = by_lt j (length p)
          (λ b. let r = some_out 16 (left i j) (λ v. not (compatible i (get_or p i 0) j v)) f in
          let e = eqb→eq r.0 (get_or p j 0) (subst (λ (d : ℕ → Bool). T (d r.0)) (left-universal i j (omega arith) s ∙ played j b) r.2) in
          T_not (compatible i (get_or p i 0) j r.0) r.3 (rw e (u.plays i j g b)))
          (λ b. clash (u.unclashed j b k s i h) (subst (λ (d : ℕ → Bool). T (some 16 d (λ v. not (compatible i (get_or p i 0) j v)))) (left-universal i j (omega arith) s ∙ unplayed j b) f))
      stands false s f = by_lt j (length p)
          (λ b. none f (get_or p j 0) (small j b) (left_in (suc i) j (get_or p j 0) (omega arith) s (λ h l. u.plays h j (omega arith) b) (rw (played j b) (eqb_refl (get_or p j 0)))))
          (λ b. let v = u.value j b k s in
          none f v.0 v.1 (left_in (suc i) j v.0 (omega arith) s
          (λ x l. each_out (length p) (λ i. true) (goes j v.0) v.3 x (omega arith) tt) (rw (unplayed j b) v.2)))

    usable_calm : Usable → Calm 0
    unfolding Calm forward_loss
    usable_calm u i _ h = fails λ f.
        let r = some_out n (ltb i) (forward_fails P (left i) i (get_or p i 0)) f in
        stands u i h r.0 (ltb→lt i r.0 r.2) r.1 (universal r.0) refl r.3

    -- Where no check finds a loss, no cause holds.
    module _ (c : Calm 0) where
      module _ (i j : ℕ) (h : i < length p) (g : i < j) (k : j < n) where
        calm_at : forward_fails P (left i) i (get_or p i 0) j ≡ false
        unfolding Calm forward_loss
        calm_at = fails λ t. clash (c i (omega arith) h) (some_in n (ltb i) (forward_fails P (left i) i (get_or p i 0)) j k (true_holds (lt-ltb i j g)) t)

        unclashing : universal j ≡ true → clashes P (left i) i (get_or p i 0) j ≡ false
        unclashing s = rw s at calm_at

        value_kept : universal j ≡ false → (b : ℕ) × In (left (suc i) j) b
        value_kept s = value_left P (left (suc i)) j λ t.
            let e : empty P (forward_domains P (left i) i (get_or p i 0)) j ≡ false = rw s at calm_at in
            clash e (subst (λ (D : Domains). T (empty P D j)) (sym (left-next i)) t)

      calm_plays : (i j : ℕ) → i < j → j < length p → T (compatible i (get_or p i 0) j (get_or p j 0))
      calm_plays i j g h = let d = few in go (omega arith) (omega arith) (universal j) refl
        where
          go : i < length p → j < n → (s : Bool) → universal j ≡ s → T (compatible i (get_or p i 0) j (get_or p j 0))
          go b k true s =
              unclashed_goes P (left i) i (get_or p i 0) j (get_or p j 0) (small j h) (rw (left-universal i j (omega arith) s, played j h) (eqb_refl (get_or p j 0))) (unclashing i j b g k s)
          go b k false s =
              let v = value_kept i j b g k s in
              let o = left_out (suc i) j v.0 (omega arith) s v.1.1 in
              rw (eqb→eq v.0 (get_or p j 0) (rw (played j h) at o.1)) at (o.0 i (omega arith))

      calm_value : (j : ℕ) → length p ≤ j → j < n → universal j ≡ false → (b : ℕ) × (b < 16) × T (domains domain j b) × T (goes_with_plays P p j b)
      unfolding goes_with_plays
      calm_value j h k s = by_eq (length p) 0
          (λ z. let v = (file_lent P).full j k in
          (v.0, v.1.0, v.1.1, each_in (length p) (λ i. true) (goes j v.0) (λ i l _. absurd (omega arith))))
          (λ z. let v = value_kept (length p - 1) j (omega arith) (omega arith) k s in
          let o = left_out (suc (length p - 1)) j v.0 (omega arith) s v.1.1 in
          (v.0, v.1.0, rw (unplayed j h) at o.1, each_in (length p) (λ i. true) (goes j v.0) (λ i l _. o.0 i (omega arith))))

      calm_usable : Usable
      unfolding clashes
      calm_usable = record {
        plays = calm_plays;
        value = calm_value;
        unclashed = λ j h k s i l. rw (left-universal i j (omega arith) s, unplayed j h) at (unclashing i j l (omega arith) k s);
      }

    -- The list of the position, and rule 2 over all plays.
    masks : Masks n (first_list P p)
    masks = (at_lent P p (first_list P p) (first-list P p t)).masks

    start : domains (first_list P p) ≡ left 0
    unfolding first_list
    start = position-placed P p t ∙ sym left-start

    pub stuck-checks : stuck P p ≡ (checks P (length p) 0 p (first_list P p)).loss
    stuck-checks = same_false (stuck P p) (checks P (length p) 0 p (first_list P p)).loss
        (λ e. calm_in (length p) 0 (first_list P p) (omega arith) masks start (usable_calm (usable_out e)))
        (λ e. usable_in (calm_usable (calm_out (length p) 0 (first_list P p) (omega arith) masks start e).0))

    -- What is open is what is left.
    open_left : stuck P p ≡ false → (j a : ℕ) → is_open P p j a ≡ left (length p) j a
    unfolding is_open goes_with_plays left
    open_left e j a = by_lt j (length p)
        (λ h. rw (lt-ltb j (length p) h))
        (λ h. rw (le-ltb j (length p) h, e, unplayed j h) (go (universal j) (domains domain j a) (each (length p) (λ i. true) (goes j a))))
      where
        go : (u d f : Bool) → (d && cond u true f) ≡ cond u d (f && d)
        go true d f = and-true d
        go false true true = refl
        go false true false = refl
        go false false true = refl
        go false false false = refl

    pub open_checks : stuck P p ≡ false → open_values P p ≡ (checks P (length p) 0 p (first_list P p)).list
    unfolding open_values masks_of
    open_checks e =
        list_of_same n (λ j. mask_of 16 (is_open P p j)) (λ j. mask_of 16 (left (length p) j)) (λ j _. mask_of_same 16 (is_open P p j) (left (length p) j) (λ a _. open_left e j a))
        ∙ sym (calm_out (length p) 0 (first_list P p) (omega arith) masks start (sym stuck-checks ∙ e)).1
