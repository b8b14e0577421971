-- The hidden variable encoding (003, definition 8; document 02, card 7): "one shift's choice for each such record, behind all others, whose options are the
-- places of its triples, with a table to each of the three".
use mathlib.Core.Path.{◌≡◌, refl, sym, ap, ◌∙◌}
use mathlib.Core.Bool.{Bool, true, false, cond, not, ◌&&◌, ◌||◌}
use mathlib.Core.List.{List, ◌++◌}
use Prim.Native.Nat.{ℕ, ◌+◌, ◌-◌, ◌≤◌, ◌<◌}
use native.Mathlib.Omega.{arith}
use lib.Dec.{T, eqb, ltb}
use lib.ListN.{get_or, length, length-append, get_or-append, get_or-eq_default}
use lib.Seq.{get_or-append-add}
use borrow.Author.Tests.{lt-ltb, le-ltb}
use Rattle.mask.specs.Mask.{bit, mask_of}
use Rattle.mask.proofs.Logic.{clash, by_lt, true_holds}
use Rattle.mask.proofs.Bits.{bit_of_zero}
use Rattle.mask.proofs.Masks.{mask_of_lt, bit-mask_of}
use Rattle.game.specs.Problem.{Problem}
use Rattle.game.specs.Ternary.{TernaryProblem}
use Rattle.game.specs.Lists.{list_of}
use Rattle.theory.proofs.Lists.{length-list_of, get_d_list_of}

module _ (J : TernaryProblem) where
  open J use {binary, ternary, one, two, three, size, first, second, third}
  open binary use {n, domain, universal, compatible, symmetric, constrained, apart, free}

  -- The domain of hidden variable r: the places of its triples.
  unfoldable pub hidden : ℕ → ℕ
  hidden r = mask_of 16 (λ q. ltb q (size r))

  -- x is one of the three variables of constraint r; value a of x is that of triple q, where x is one of them.
  unfoldable pub touches : ℕ → ℕ → Bool
  touches r x = eqb x (one r) || (eqb x (two r) || eqb x (three r))

  unfoldable pub agrees : ℕ → ℕ → ℕ → ℕ → Bool
  agrees r x a q = (not (eqb x (one r)) || eqb a (first r q)) && ((not (eqb x (two r)) || eqb a (second r q)) && (not (eqb x (three r)) || eqb a (third r q)))

  -- By cases: x and y are the problem's own; y is hidden; x is hidden; neither.
  unfoldable pub by_kind : {A : Type 0} → A → A → A → A → ℕ → ℕ → A
  by_kind own left right none x y =
      cond (ltb x n) (cond (ltb y n) own (cond (ltb y (n + ternary)) left none)) (cond (ltb y n) (cond (ltb x (n + ternary)) right none) none)

  unfoldable pub compatible_with : ℕ → ℕ → ℕ → ℕ → Bool
  compatible_with x a y b = by_kind (compatible x a y b) (agrees (y - n) x a b) (agrees (x - n) y b a) true x y

  unfoldable pub constrained_with : ℕ → ℕ → Bool
  constrained_with x y = by_kind (constrained x y) (touches (y - n) x) (touches (x - n) y) false x y

  unfoldable pub universal_with : ℕ → Bool
  universal_with x = ltb x n && universal x

  unfoldable pub domain_with : List ℕ
  domain_with = domain ++ list_of ternary hidden

  -- ---- what makes it a problem

  pub length-with : length domain_with ≡ n + ternary
  unfolding domain_with
  length-with = length-append domain (list_of ternary hidden) ∙ rw (binary.sized, length-list_of ternary hidden)

  -- Masks of the problem's own variables, of hidden ones, and behind.
  pub domain_own : (i : ℕ) → i < n → get_or domain_with i 0 ≡ get_or domain i 0
  unfolding domain_with
  domain_own i h = get_or-append domain (list_of ternary hidden) 0 i (omega (arith, binary.sized))

  pub domain_hidden : (r : ℕ) → r < ternary → get_or domain_with (n + r) 0 ≡ hidden r
  unfolding domain_with
  domain_hidden r h =
      let e : n + r ≡ length domain + r = omega (arith, binary.sized) in
      rw e (get_or-append-add domain (list_of ternary hidden) r 0 ∙ get_d_list_of ternary hidden r h)

  domain_behind : (i : ℕ) → n + ternary ≤ i → get_or domain_with i 0 ≡ 0
  domain_behind i h = let e = length-with in get_or-eq_default domain_with 0 {n = i} (omega arith)

  pub bounded_with : (i : ℕ) → get_or domain_with i 0 < 65536
  unfolding hidden
  bounded_with i =
      by_lt i n (λ h. rw (domain_own i h) (binary.bounded i))
      (λ g. by_lt i (n + ternary)
      (λ h. let e : i ≡ n + (i - n) = omega arith in rw (ap (λ (k : ℕ). get_or domain_with k 0) e ∙ domain_hidden (i - n) (omega arith)) (mask_of_lt 16 (λ q. ltb q (size (i - n)))))
      (λ h. rw (domain_behind i h) (omega arith)))

  hidden_some : (r : ℕ) → r < ternary → ¬ (hidden r ≡ 0)
  unfolding hidden
  hidden_some r h e =
      let s = (J.filled r h).0 in
      let b : bit (hidden r) 0 ≡ true = bit-mask_of 16 (λ q. ltb q (size r)) 0 (omega arith) ∙ lt-ltb 0 (size r) (omega arith) in
      clash {b = bit (hidden r) 0} (rw e (bit_of_zero 0)) (true_holds b)

  pub nonempty_with : (i : ℕ) → i < n + ternary → ¬ (get_or domain_with i 0 ≡ 0)
  nonempty_with i l z =
      by_lt i n (λ h. binary.nonempty i h (sym (domain_own i h) ∙ z))
      (λ g. let e : i ≡ n + (i - n) = omega arith in hidden_some (i - n) (omega arith) (sym (ap (λ (k : ℕ). get_or domain_with k 0) e ∙ domain_hidden (i - n) (omega arith)) ∙ z))

  pub symmetric_with : (x a y b : ℕ) → compatible_with x a y b ≡ compatible_with y b x a
  unfolding compatible_with by_kind
  symmetric_with x a y b = go (ltb x n) (ltb y n) (ltb x (n + ternary)) (ltb y (n + ternary))
    where
      go : (s t u v : Bool)
          → cond s (cond t (compatible x a y b) (cond v (agrees (y - n) x a b) true)) (cond t (cond u (agrees (x - n) y b a) true) true)
          ≡ cond t (cond s (compatible y b x a) (cond u (agrees (x - n) y b a) true)) (cond s (cond v (agrees (y - n) x a b) true) true)
      go true true u v = symmetric x a y b
      go true false u v = refl
      go false true u v = refl
      go false false u v = refl

  pub apart_with : (x y : ℕ) → T (constrained_with x y) → ¬ (x ≡ y)
  unfolding constrained_with by_kind
  apart_with x y t e = by_lt x n
      (λ h. by_lt y n (λ k. apart x y (rw (lt-ltb x n h, lt-ltb y n k) at t) e) (λ k. omega arith))
      (λ h. by_lt y n (λ k. omega arith) (λ k. absurd (rw (le-ltb x n h, le-ltb y n k) at t)))

  untouched : (r x a q : ℕ) → touches r x ≡ false → T (agrees r x a q)
  unfolding touches agrees
  untouched r x a q = go (eqb x (one r)) (eqb x (two r)) (eqb x (three r)) (eqb a (first r q)) (eqb a (second r q)) (eqb a (third r q))
    where
      go : (s t u f g h : Bool) → (s || (t || u)) ≡ false → T ((not s || f) && ((not t || g) && (not u || h)))
      go true t u f g h e = absurd (clash {b = true} e tt)
      go false true u f g h e = absurd (clash {b = true} e tt)
      go false false true f g h e = absurd (clash {b = true} e tt)
      go false false false f g h e = tt

  pub free_with : (x y : ℕ) → constrained_with x y ≡ false → (a b : ℕ) → T (compatible_with x a y b)
  unfolding constrained_with compatible_with by_kind
  free_with x y e a b = go (ltb x n) (ltb y n) (ltb x (n + ternary)) (ltb y (n + ternary)) e
    where
      go : (s t u v : Bool)
          → cond s (cond t (constrained x y) (cond v (touches (y - n) x) false)) (cond t (cond u (touches (x - n) y) false) false) ≡ false
          → T (cond s (cond t (compatible x a y b) (cond v (agrees (y - n) x a b) true)) (cond t (cond u (agrees (x - n) y b a) true) true))
      go true true u v e = free x y e a b
      go true false u true e = untouched (y - n) x a b e
      go true false u false e = tt
      go false true true v e = untouched (x - n) y b a e
      go false true false v e = tt
      go false false u v e = tt

  -- The ordinary problem.
  unfoldable pub expanded : Problem
  expanded = record {
    n = n + ternary;
    domain = domain_with;
    sized = length-with;
    bounded = bounded_with;
    nonempty = nonempty_with;
    universal = universal_with;
    compatible = compatible_with;
    symmetric = symmetric_with;
    constrained = constrained_with;
    apart = apart_with;
    free = free_with;
  }
