-- Chains over the members of a mask: what `all`, `any`, `find` and `fold` over the iterator of `members_of` give, and that their closures may be called.
-- A caller cites the call's clause `ran`, and shows what one call of the closure gives at a member.
use mathlib.Core.Path.{◌≡◌, refl, sym, ap, ◌∙◌, subst}
use mathlib.Core.Bool.{Bool, true, false, not, ◌&&◌, ◌||◌}
use mathlib.Core.List.{List, [], ◌∷◌}
use Prim.Native.Nat.{ℕ, suc, ◌^◌, ◌<◌}
use native.Mathlib.Omega.{arith}
use lib.Dec.{T, eqb}
use denote.Param.Members.{Mut}
use denote.Ref.{Bor}
use Rattle.std.specs.Prelude.{Option, None, Some}
use Rattle.std.specs.Option.{MatchOption, unwrap_or}
use Rattle.std.specs.Fn.{Called, CalledAt}
use Rattle.std.specs.Bool.{⊤}
use Rattle.std.specs.List.{FoldsTo}
use Rattle.std.specs.Iterator.{Yields, YieldsThen, Drains, ChecksAll, ChecksAny, FindsItem, FoldsItems, FoldTurn, CallableAtEachTurn}
use Rattle.mask.specs.Range.{some, each, count, first}
use Rattle.mask.specs.Mask.{bit}
use Rattle.mask.specs.Upward.{Took, TakesLowest}
use Rattle.mask.proofs.Logic.{and_out, by_lt, clash, true_holds}
use Rattle.mask.proofs.Range.{count_none, first_least}
use Rattle.mask.proofs.Bits.{bit_high, bit_of_zero}
use Rattle.mask.proofs.Members.{rest_lt, low_lt, low_in, bit-rest, count-rest, some-rest, each-rest, each_end, some_end, each_next, each-stop, some_next, some-stop, first_found, first_on, first-empty}

-- What a call took is a member.
module _ {w m j v : ℕ} (t : Took w m j v) where
  pub took_lt : j < w
  took_lt = rw t.low (low_lt w m t.fits t.some)

  pub took_in : T (bit m j)
  took_in = rw t.low (low_in w m t.fits t.some)

  -- None is below it.
  pub none_below : (x : ℕ) → x < j → bit m x ≡ false
  none_below x h = first_least w (bit m) x (rw (← t.low) h)

  -- What is left was there before.
  pub member_left : (x : ℕ) → T (bit v x) → T (bit m x)
  member_left x b = (and_out (bit m x) (not (eqb x (first w (bit m)))) (subst T (ap (λ (y : ℕ). bit y x) t.left ∙ bit-rest w m t.fits t.some x) b)).0

  -- What is left, and a test of some, and of each, member.
  pub bit-left : (k : ℕ) → bit v k ≡ (bit m k && not (eqb k j))
  bit-left k = rw (t.left, t.low) (bit-rest w m t.fits t.some k)

  pub some-left : (f : ℕ → Bool) → some w (bit m) f ≡ (f j || some w (bit v) f)
  some-left f = rw (t.left, t.low) (some-rest w m t.fits t.some f)

  pub each-left : (f : ℕ → Bool) → each w (bit m) f ≡ (f j && each w (bit v) f)
  each-left f = rw (t.left, t.low) (each-rest w m t.fits t.some f)

  -- There is one member fewer.
  pub count_left : count w (bit m) ≡ suc (count w (bit v))
  count_left = count-rest w m t.fits t.some ∙ ap (λ (y : ℕ). suc (count w (bit y))) (sym t.left)

  -- Within n places, so is the member, and what is left.
  pub took_below : (n : ℕ) → m < 2 ^ n → j < n
  took_below n h = rw t.low (by_lt (first w (bit m)) n (λ l. l) (λ l. absurd (clash (bit_high n m (first w (bit m)) h l) (low_in w m t.fits t.some))))

  pub left_fits : (n : ℕ) → m < 2 ^ n → v < 2 ^ n
  left_fits n h = let l = rest_lt m t.some in let e = t.left in omega arith

-- An empty mask has no members to count.
pub count_end : (w : ℕ) {m : ℕ} → m ≡ 0 → count w (bit m) ≡ 0
count_end w {m} z = count_none w (bit m) λ k h. ap (λ (y : ℕ). bit y k) z ∙ bit_of_zero k

-- `mask s` is the mask of a state s, whose places are the numbers below w.
module _ {S : Type 0} (w : ℕ) (mask : S → ℕ) where
  abbrev pub Steps : S → Option ℕ → S → Type 0
  Steps s r t = TakesLowest w (mask s) r (mask t)

  -- What holds at each member may be asked of the closure.
  pub serves_members :
      {P : Type 0} {R : P → ℕ → P → Type 0} {Q : P → ℕ → Type 0} {s : S} {p : P} (m : ℕ)
      → mask s ≡ m → ((x : ℕ) (q : P) → R p x q → q ≡ p) → ((x : ℕ) → x < w → T (bit m x) → Q p x) → CallableAtEachTurn Steps R Q s p
  serves_members {P} {R} {Q} {s} {p} m e same at =
      record { at = λ xs t q x u y r l. go xs s t q x u y r l λ x h b. at x h (subst (λ (m : ℕ). T (bit m x)) e b) }
    where
      go :
          (xs : List ℕ) (s t : S) (q : P) (x : ℕ) (u : S) → Yields Steps s xs t → FoldsTo R p xs q → Steps t (Some x) u
          → ((x : ℕ) → x < w → T (bit (mask s) x) → Q p x) → Q q x
      go [] s t q x u y r l at =
          subst (λ (p : P). Q p x) r (at x (took_lt l) (subst (λ (s : S). T (bit (mask s) x)) (sym y) (took_in l)))
      go (z ∷ zs) s t q x u y r l at =
          go zs y.0 t q x u y.2 (subst (λ (j : P). FoldsTo R j zs q) (same z r.0 r.1) r.2) l
          λ x h b. at x h (member_left y.1 x b)

  -- The same where a turn changes what is kept, as the total of `fold`: by a fact of the mask that is left and of what is kept.
  pub serves_turns :
      {P : Type 0} {R : P → ℕ → P → Type 0} {Q : P → ℕ → Type 0} {s : S} {p : P} (Kept : ℕ → P → Type 0) (m : ℕ) → mask s ≡ m → Kept m p
      → ((m j v : ℕ) (p q : P) → Took w m j v → Kept m p → R p j q → Kept v q) → ((m j v : ℕ) (p : P) → Took w m j v → Kept m p → Q p j)
      → CallableAtEachTurn Steps R Q s p
  serves_turns {P} {R} {Q} {s} {p} Kept m e k turn at =
      record { at = λ xs t q x u y r l. go xs s t p q x u y r l (subst (λ (m : ℕ). Kept m p) (sym e) k) }
    where
      go :
          (xs : List ℕ) (s t : S) (p q : P) (x : ℕ) (u : S) → Yields Steps s xs t → FoldsTo R p xs q → Steps t (Some x) u → Kept (mask s) p → Q q x
      go [] s t p q x u y r l k =
          subst (λ (p : P). Q p x) r (at (mask t) x (mask u) p l (subst (λ (s : S). Kept (mask s) p) y k))
      go (z ∷ zs) s t p q x u y r l k = go zs y.0 t r.0 q x u y.2 r.2 l (turn (mask s) z (mask y.0) p r.0 y.1 k r.1)

  module _ {F : Type 0} (g : Mut F (ℕ × Unit {0}) Bool) (f : F) (test : ℕ → Bool) where
    -- One call of the closure at a member of m leaves it, and gives the test.
    abbrev pub Tests : ℕ → Type 0
    Tests m = (x : ℕ) → x < w → T (bit m x) → (b : Bool) (q : F) → Called g f (x, tt) b q → (q ≡ f) × (b ≡ test x)

    tests_rest : {m j v : ℕ} → Took w m j v → Tests m → Tests v
    tests_rest k c x h b = c x h (member_left k x b)

    -- `all` is `each`, and `any` is `some`.
    pub all_members : (s u : S) (r : Bool) (m : ℕ) → mask s ≡ m → ChecksAll Steps g s f r u → Tests m → r ≡ each w (bit m) test
    all_members s u r m e a c = go a.0 s a.1 a.2 a.3 a.4 a.5 (subst Tests (sym e) c) ∙ ap (λ (m : ℕ). each w (bit m) test) e
      where
        go :
            (xs : List ℕ) (s : S) (o : Option ℕ) (f' : F) → YieldsThen Steps s xs o u → FoldsTo (λ p x q. Called g p (x, tt) true q) f xs f'
            → MatchOption o (r ≡ true) (λ x. (r ≡ false) × ((h : F) × Called g f' (x, tt) false h)) → Tests (mask s) → r ≡ each w (bit (mask s)) test
        go [] s None f' y k m c =
            let z : mask s ≡ 0 = ap mask y.1 ∙ y.2.0 in m ∙ each_end w (mask s) z test (each w (bit (mask s)) test) refl
        go [] s (Some x) f' y k m c =
            let l = subst (λ (s : S). Took w (mask s) x (mask u)) (sym y.1) y.2 in
            let d = c x (took_lt l) (took_in l) false m.1.0 (subst (λ (j : F). Called g j (x, tt) false m.1.0) (sym k) m.1.1) in
            m.0 ∙ each-stop w (mask s) l.fits l.some test (each w (bit (mask s)) test) x l.low (sym d.1) refl
        go (x ∷ xs) s o f' y k m c =
            let l = y.1.1 in
            let d = c x (took_lt l) (took_in l) true k.0 k.1 in
            go xs y.1.0 o f' (y.0, y.1.2, y.2) (subst (λ (j : F). FoldsTo (λ p x q. Called g p (x, tt) true q) j xs f') d.0 k.2) m (tests_rest l c)
            ∙ sym (each_next w (mask s) l.fits l.some test (each w (bit (mask s)) test) x l.low (mask y.1.0) (sym d.1) l.left refl)

    pub any_members : (s u : S) (r : Bool) (m : ℕ) → mask s ≡ m → ChecksAny Steps g s f r u → Tests m → r ≡ some w (bit m) test
    any_members s u r m e a c = go a.0 s a.1 a.2 a.3 a.4 a.5 (subst Tests (sym e) c) ∙ ap (λ (m : ℕ). some w (bit m) test) e
      where
        go :
            (xs : List ℕ) (s : S) (o : Option ℕ) (f' : F) → YieldsThen Steps s xs o u → FoldsTo (λ p x q. Called g p (x, tt) false q) f xs f'
            → MatchOption o (r ≡ false) (λ x. (r ≡ true) × ((h : F) × Called g f' (x, tt) true h)) → Tests (mask s) → r ≡ some w (bit (mask s)) test
        go [] s None f' y k m c =
            let z : mask s ≡ 0 = ap mask y.1 ∙ y.2.0 in m ∙ some_end w (mask s) z test (some w (bit (mask s)) test) refl
        go [] s (Some x) f' y k m c =
            let l = subst (λ (s : S). Took w (mask s) x (mask u)) (sym y.1) y.2 in
            let d = c x (took_lt l) (took_in l) true m.1.0 (subst (λ (j : F). Called g j (x, tt) true m.1.0) (sym k) m.1.1) in
            m.0 ∙ some-stop w (mask s) l.fits l.some test (some w (bit (mask s)) test) x l.low (sym d.1) refl
        go (x ∷ xs) s o f' y k m c =
            let l = y.1.1 in
            let d = c x (took_lt l) (took_in l) false k.0 k.1 in
            go xs y.1.0 o f' (y.0, y.1.2, y.2) (subst (λ (j : F). FoldsTo (λ p x q. Called g p (x, tt) false q) j xs f') d.0 k.2) m (tests_rest l c)
            ∙ sym (some_next w (mask s) l.fits l.some test (some w (bit (mask s)) test) x l.low (mask y.1.0) (sym d.1) l.left refl)

  module _ {F : Type 0} (g : Mut F (Bor ℕ × Unit {0}) Bool) (f : F) (test : ℕ → Bool) where
    -- The same of a closure that takes a reference.
    abbrev pub TestsAt : ℕ → Type 0
    TestsAt m = (x : ℕ) → x < w → T (bit m x) → (b : Bool) (q : F) → CalledAt g f x b q → (q ≡ f) × (b ≡ test x)

    tests_at_rest : {m j v : ℕ} → Took w m j v → TestsAt m → TestsAt v
    tests_at_rest k c x h b = c x h (member_left k x b)

    -- `find` is `first` among the members of a mask of n places, and n where it finds none.
    pub find_members :
        (s u : S) (r : Option ℕ) (m n : ℕ) → mask s ≡ m → m < 2 ^ n → FindsItem Steps g s f r u → TestsAt m
        → unwrap_or r n ≡ first n (λ k. bit m k && test k)
    find_members s u r m n e h a c =
        go a.0 s r (subst (λ (m : ℕ). m < 2 ^ n) (sym e) h) a.1 a.2 a.3 a.4 (subst TestsAt (sym e) c) ∙ ap (λ (m : ℕ). first n (λ k. bit m k && test k)) e
      where
        go :
            (xs : List ℕ) (s : S) (r : Option ℕ) → mask s < 2 ^ n → (f' : F) → YieldsThen Steps s xs r u → FoldsTo (λ p x q. CalledAt g p x false q) f xs f'
            → MatchOption r ⊤ (λ x. (h : F) × CalledAt g f' x true h) → TestsAt (mask s) → unwrap_or r n ≡ first n (λ k. bit (mask s) k && test k)
        go [] s None h f' y k m c = sym (first-empty n (mask s) test (ap mask y.1 ∙ y.2.0))
        go [] s (Some x) h f' y k m c =
            let l = subst (λ (s : S). Took w (mask s) x (mask u)) (sym y.1) y.2 in
            let d = c x (took_lt l) (took_in l) true m.0 (subst (λ (j : F). CalledAt g j x true m.0) (sym k) m.1) in
            l.low ∙ sym (first_found n w (mask s) l.fits l.some test (subst (λ (j : ℕ). j < n) l.low (took_below l n h)) (subst (λ (j : ℕ). T (test j)) l.low (true_holds (sym d.1))))
        go (x ∷ xs) s r h f' y k m c =
            let l = y.1.1 in
            let d = c x (took_lt l) (took_in l) false k.0 k.1 in
            go xs y.1.0 r (left_fits l n h) f' (y.0, y.1.2, y.2) (subst (λ (j : F). FoldsTo (λ p x q. CalledAt g p x false q) j xs f') d.0 k.2) m (tests_at_rest l c)
            ∙ ap (λ (v : ℕ). first n (λ k. bit v k && test k)) l.left
            ∙ sym (first_on n w (mask s) l.fits l.some test (ap test (sym l.low) ∙ sym d.1))

  -- `fold` keeps what each turn keeps: a fact of the mask that is left and of the total.
  module _ {F B : Type 0} (g : Mut F (B × (ℕ × Unit {0})) B) (f : F) (Kept : ℕ → B → Type 0) where
    pub fold_members :
        (s : S) (init r : B) (m : ℕ) → mask s ≡ m → FoldsItems Steps g s f init r → Kept m init
        → ((m j v : ℕ) (b c : B) (q : F) → Took w m j v → Kept m b → Called g f (b, (j, tt)) c q → (q ≡ f) × Kept v c) → Kept 0 r
    fold_members s init r m w a e turn = go a.0 s init a.1 a.2 a.3 (subst (λ (m : ℕ). Kept m init) (sym w) e)
      where
        go : (xs : List ℕ) (s : S) (b : B) (f' : F) → Drains Steps s xs → FoldsTo {P = F × B} (FoldTurn g) (f, b) xs (f', r) → Kept (mask s) b → Kept 0 r
        go [] s b f' y k e =
            subst (λ (m : ℕ). Kept m r) (ap mask y.1.1 ∙ y.1.2.0) (subst (λ (c : B). Kept (mask s) c) (ap (λ (p : F × B). p.1) k) e)
        go (x ∷ xs) s b f' y k e =
            let d = turn (mask s) x (mask y.1.1.0) b k.0.1 k.0.0 y.1.1.1 e k.1 in
            go xs y.1.1.0 k.0.1 f' (y.0, (y.1.0, y.1.1.2, y.1.2)) (subst (λ (j : F). FoldsTo {P = F × B} (FoldTurn g) (j, k.0.1) xs (f', r)) d.0 k.2) d.1
