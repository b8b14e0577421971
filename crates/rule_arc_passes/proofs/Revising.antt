-- One revision of rule 1: where it leaves all as it is, and what keeps it so. A revision of x by k reads the domains of x and k and
-- changes that of x, so it leaves all as it is from its own run on until the domain of k changes.
use mathlib.Core.Path.{◌≡◌, refl, sym, ap, ap₂, ◌∙◌}
use mathlib.Core.Bool.{Bool, true, false, cond, not, ◌&&◌}
use mathlib.Core.Logic.{◌⊎◌, inl, inr}
use mathlib.Core.List.{List}
use Prim.Native.Nat.{ℕ, ◌≤◌, ◌<◌}
use native.Mathlib.Omega.{arith}
use lib.Dec.{T, eqb, eqb→eq, ltb}
use lib.Bits.{bit_or, and_le_l}
use lib.ListN.{get_or, length, set, length-set}
use lib.Seq.{get_or-set_same, get_or-set_other, set_out}
use borrow.Author.Tests.{eq-eqb}
use Rattle.mask.specs.Range.{some}
use Rattle.mask.specs.Mask.{bit, mask_of}
use Rattle.mask.proofs.Logic.{by_eq, by_lt, true_holds, clash}
use Rattle.mask.proofs.Masks.{mask_of_lt, bit-mask_of, mask_of_same, mask_of_and, mask_of_bits}
use Rattle.game.specs.Problem.{Problem}
use Rattle.game.specs.Support.{clashes, alone}
use Rattle.game.specs.Lists.{domains}
use Rattle.game.specs.Reasons.{Sheet, kills, cause, surviving, revise}

-- The members of u that pass p.
unfoldable keep : (ℕ → Bool) → ℕ → ℕ
keep p u = mask_of 16 (λ a. bit u a && p a)

-- Kept twice is kept once; what keeps all of u keeps all of what another test keeps of it; no more is kept than there was.
keep_again : (p : ℕ → Bool) (u : ℕ) → keep p (keep p u) ≡ keep p u
unfolding keep
keep_again p u = mask_of_same 16 _ _ (λ a h. rw (bit-mask_of 16 (λ a. bit u a && p a) a h) (go (bit u a) (p a)))
  where
    go : (x y : Bool) → ((x && y) && y) ≡ (x && y)
    go true true = refl
    go true false = refl
    go false y = refl

keep_less : (p q : ℕ → Bool) (u : ℕ) → keep p u ≡ u → keep p (keep q u) ≡ keep q u
unfolding keep
keep_less p q u e = mask_of_same 16 _ _ (λ a h. rw (bit-mask_of 16 (λ a. bit u a && q a) a h) (go (bit u a) (p a) (q a) (sym (ap (λ (m : ℕ). bit m a) e) ∙ bit-mask_of 16 (λ a. bit u a && p a) a h)))
  where
    go : (x y z : Bool) → x ≡ (x && y) → ((x && z) && y) ≡ (x && z)
    go true true true e = refl
    go true true false e = refl
    go true false z e = let f : ◌≡◌ {A = Bool} true false = e in cc
    go false y z e = refl

keep_le : (p : ℕ → Bool) (u : ℕ) → u < 65536 → keep p u ≤ u
unfolding keep
keep_le p u h = let e = mask_of_bits 16 u h in let m = mask_of_and 16 (bit u) p in let l = and_le_l (mask_of 16 (bit u)) (mask_of 16 p) in omega arith

module _ (P : Problem) where
  open P use {n, universal, compatible, constrained, apart}

  -- Value a of x lives beside the mask v of k.
  unfoldable lives : ℕ → ℕ → ℕ → ℕ → Bool
  lives x k v a = not (cond (universal k && ltb x k) (some 16 (bit v) (λ b. not (compatible x a k b))) (not (some 16 (bit v) (λ b. compatible x a k b))))

  surviving-keep : (l : List ℕ) (x k : ℕ) → surviving P l x k ≡ keep (lives x k (get_or l k 0)) (get_or l x 0)
  unfolding surviving kills clashes alone domains keep lives
  surviving-keep l x k = refl

  -- No value of the existential x dies because of k.
  abbrev pub Still : List ℕ → ℕ → ℕ → Type 0
  Still l x k = T (not (universal x)) → T (constrained x k) → surviving P l x k ≡ get_or l x 0

  -- The list and the reasons that a revision leaves where a value dies.
  abbrev pub revised : ℕ → ℕ → Sheet → Sheet
  revised x k s = record { list = set s.list x (surviving P s.list x k); why = set s.why x (bit_or (get_or s.why x 0) (cause P s.why x k)) }

  -- A revision leaves all as it is, and then no value dies; or a value of an existential x dies.
  pub data Revised (x k : ℕ) (s : Sheet) : Sheet → Type 0 where
    kept : Still s.list x k → Revised x k s s
    cut : T (not (universal x)) → T (constrained x k) → ¬ (surviving P s.list x k ≡ get_or s.list x 0) → Revised x k s (revised x k s)

  pub revise_cases : (x k : ℕ) (s : Sheet) → Revised x k s (revise P x k s)
  unfolding revise
  revise_cases x k s = go (not (universal x)) (constrained x k) (eqb (surviving P s.list x k) (get_or s.list x 0)) refl refl refl
    where
      go : (u c e : Bool) → not (universal x) ≡ u → constrained x k ≡ c → eqb (surviving P s.list x k) (get_or s.list x 0) ≡ e
          → Revised x k s (cond (u && (c && not e)) (revised x k s) s)
      go true true true p q r = kept λ _ _. eqb→eq (surviving P s.list x k) (get_or s.list x 0) (true_holds r)
      go true true false p q r = cut (true_holds p) (true_holds q) (λ z. clash r (true_holds (eq-eqb (surviving P s.list x k) (get_or s.list x 0) z)))
      go true false e p q r = kept λ _ t. absurd (clash q t)
      go false c e p q r = kept λ t _. absurd (clash p t)

  -- A revision keeps the lengths.
  pub revise_long : (x k : ℕ) (s : Sheet) → (length (revise P x k s).list ≡ length s.list) × (length (revise P x k s).why ≡ length s.why)
  revise_long x k s = go (revise P x k s) (revise_cases x k s)
    where
      go : (r : Sheet) → Revised x k s r → (length r.list ≡ length s.list) × (length r.why ≡ length s.why)
      go r (kept h) = (refl, refl)
      go r (cut u c z) = (length-set s.list x (surviving P s.list x k), length-set s.why x (bit_or (get_or s.why x 0) (cause P s.why x k)))

  -- A revision keeps masks of 16 bits.
  pub revise_small : (x k : ℕ) (s : Sheet) → ((i : ℕ) → get_or s.list i 0 < 65536) → (i : ℕ) → get_or (revise P x k s).list i 0 < 65536
  unfolding surviving
  revise_small x k s h i = go (revise P x k s) (revise_cases x k s)
    where
      go : (r : Sheet) → Revised x k s r → get_or r.list i 0 < 65536
      go r (kept _) = h i
      go r (cut _ _ _) =
          let m = surviving P s.list x k in
          by_eq i x
          (λ e. by_lt x (length s.list)
          (λ l. rw (e, get_or-set_same s.list x m 0 l) (mask_of_lt 16 (λ a. domains s.list x a && not (kills P (domains s.list) x a k))))
          (λ l. rw (set_out s.list x m l) (h i)))
          (λ e. rw (get_or-set_other s.list x i m 0 e) (h i))

  -- Where no value dies a revision leaves all as it is.
  pub still_same : (x k : ℕ) (s : Sheet) → Still s.list x k → revise P x k s ≡ s
  still_same x k s h = go (revise P x k s) (revise_cases x k s)
    where
      go : (r : Sheet) → Revised x k s r → r ≡ s
      go r (kept _) = refl
      go r (cut u c z) = absurd (z (h u c))

  -- After a revision of x by k no value of x dies because of k.
  pub still_own : (x k : ℕ) (s : Sheet) → x < length s.list → Still (revise P x k s).list x k
  still_own x k s l = go (revise P x k s) (revise_cases x k s)
    where
      go : (r : Sheet) → Revised x k s r → Still r.list x k
      go r (kept h) u c = h u c
      go r (cut _ c _) _ _ =
          let m = surviving P s.list x k in
          let e = surviving-keep s.list x k in
          surviving-keep (set s.list x m) x k
          ∙ ap₂ (λ v w. keep (lives x k v) w) (get_or-set_other s.list x k m 0 (λ z. apart x k c (sym z))) (get_or-set_same s.list x m 0 l ∙ e)
          ∙ keep_again (lives x k (get_or s.list k 0)) (get_or s.list x 0)
          ∙ sym (get_or-set_same s.list x m 0 l ∙ e)

  -- A revision of another variable than k leaves it so that no value of y dies because of k.
  pub still_other : (y k x j : ℕ) (s : Sheet) → x < length s.list → ¬ (k ≡ x) → Still s.list y k → Still (revise P x j s).list y k
  still_other y k x j s l d h = go (revise P x j s) (revise_cases x j s)
    where
      go : (r : Sheet) → Revised x j s r → Still r.list y k
      go r (kept _) u c = h u c
      go r (cut _ _ _) u c =
          let m = surviving P s.list x j in
          let e = surviving-keep s.list x j in
          let o = get_or-set_other s.list x k m 0 d in
          by_eq y x
          (λ z. let i = get_or-set_same s.list x m 0 l ∙ e in
          rw z (surviving-keep (set s.list x m) x k ∙ ap₂ (λ v w. keep (lives x k v) w) o i
          ∙ keep_less (lives x k (get_or s.list k 0)) (lives x j (get_or s.list j 0)) (get_or s.list x 0) (sym (surviving-keep s.list x k) ∙ rw z at (h u c)) ∙ sym i))
          (λ z. let i = get_or-set_other s.list x y m 0 z in
          surviving-keep (set s.list x m) y k ∙ ap₂ (λ v w. keep (lives y k v) w) o i ∙ sym (surviving-keep s.list y k) ∙ h u c ∙ sym i)

  -- A revision of x leaves all as it is, or the number of the mask of x falls.
  pub revise_falls : (x k : ℕ) (s : Sheet) → x < length s.list → get_or s.list x 0 < 65536 → (revise P x k s ≡ s) ⊎ (get_or (revise P x k s).list x 0 < get_or s.list x 0)
  revise_falls x k s l b = go (revise P x k s) (revise_cases x k s)
    where
      go : (r : Sheet) → Revised x k s r → (r ≡ s) ⊎ (get_or r.list x 0 < get_or s.list x 0)
      go r (kept _) = inl refl
      go r (cut _ _ z) = inr (rw (get_or-set_same s.list x (surviving P s.list x k) 0 l)
          (let e = surviving-keep s.list x k in let f = keep_le (lives x k (get_or s.list k 0)) (get_or s.list x 0) b in omega (arith, z)))
