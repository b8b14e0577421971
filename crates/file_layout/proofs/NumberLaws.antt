-- Laws of a problem's numbers: what the tests say, and what makes them hold. The reader and the writer share them.
use Prim.Native.Nat.{ℕ, zero, suc, ◌+◌, ◌-◌, ◌*◌, ◌/◌, ◌≤◌, ◌<◌}
use mathlib.Core.Path.{◌≡◌, refl, sym, ap, ap₂, ◌∙◌}
use mathlib.Core.Bool.{Bool, true, false, ◌&&◌}
use native.Mathlib.Nat.{mul-le-mul}
use native.Mathlib.Omega.{arith}
use lib.Dec.{T, ltb}
use borrow.Author.Tests.{leb-true, ltb-true, le-leb, le-ltb, lt-ltb}
use Rattle.mask.specs.Mask.{bit}
use Rattle.mask.specs.Range.{each}
use Rattle.mask.proofs.Bits.{bit_high}
use Rattle.mask.proofs.Logic.{holds, true_holds, fails, clash, by_lt, and_in, and_out, and_same}
use Rattle.mask.proofs.Range.{each_out, each_in, each_eq}
use Rattle.refusal.specs.declared.reason.Reason.TheVariants.{Order, Stray}
use Rattle.refusal.specs.Chain.{Fine, ◌then◌, need}
use Rattle.refusal.proofs.Chain.{then_fine, then_same, need_fine, then_ok, need_ok, both_true, both_ok}
use Rattle.file_layout.specs.Numbers.{counts_fit, in_order, pair_of, row_fits, rows_fit, constraint_fits}
use Rattle.file_layout.specs.Numbers.{scope_of, triple_in, in_mask, values_in, above_last, triples_fit, scope_fits, count_fits, ternary_fits}

-- The counts.
pub record Counts (n m : ℕ) : Type 0 where
  pub some : 1 ≤ n
  pub most : n ≤ 32
  pub pairs : m ≤ n * (n - 1) / 2

pub counts_out : (n m : ℕ) → counts_fit n m ≡ true → Counts n m
unfolding counts_fit
counts_out n m q =
    let a = both_true _ _ q in
    let b = both_true _ _ a.0 in
    record { some = leb-true _ _ b.0; most = leb-true _ _ b.1; pairs = leb-true _ _ a.1 }

pub counts_in : (n m : ℕ) → Counts n m → counts_fit n m ≡ true
unfolding counts_fit
counts_in n m c = both_ok _ _ (both_ok _ _ (le-leb _ _ c.some) (le-leb _ _ c.most)) (le-leb _ _ c.pairs)

pub constraints_most : (n m : ℕ) → Counts n m → m ≤ 496
constraints_most n m c =
    let h : n ≤ 32 = c.most in
    let g : n - 1 ≤ 31 = omega arith in
    omega (arith, mul-le-mul h g, c.pairs)

-- A pair in order.
pub order_out : (i j n : ℕ) → in_order i j n ≡ true → (i < j) × (j < n)
unfolding in_order
order_out i j n q = let a = both_true _ _ q in (ltb-true _ _ a.0, ltb-true _ _ a.1)

pub order_in : (i j n : ℕ) → i < j → j < n → in_order i j n ≡ true
unfolding in_order
order_in i j n h l = both_ok _ _ (lt-ltb _ _ h) (lt-ltb _ _ l)

-- Two variables in order, and not.
pub in_order_then : (i j n : ℕ) {b : Bool} → i < j → b ≡ ltb j n → b ≡ in_order i j n
unfolding in_order
in_order_then i j n h e = rw (lt-ltb i j h) e

pub in_order_else : (i j n : ℕ) {b : Bool} → j ≤ i → b ≡ ltb i j → b ≡ in_order i j n
unfolding in_order
in_order_else i j n h e = rw (le-ltb i j h) (e ∙ le-ltb i j h)

-- One constraint's numbers.
pub record Fits (domain : ℕ → ℕ) (n last i j : ℕ) (row : ℕ → ℕ) : Type 0 where
  pub ascends : i < j
  pub below : j < n
  pub above : last < pair_of i j
  pub rows : (a : ℕ) → a < 16 → T (row_fits (domain i) (domain j) a (row a))

pub fits_out : (domain : ℕ → ℕ) (n last i j : ℕ) (row : ℕ → ℕ) → constraint_fits domain n last i j row ≡ Fine → Fits domain n last i j row
unfolding constraint_fits rows_fit
fits_out domain n last i j row q =
    let d = then_fine _ _ q in
    let g = order_out _ _ _ (need_fine _ _ d.0) in
    let h = then_fine _ _ d.1 in
    record {
      ascends = g.0;
      below = g.1;
      above = ltb-true _ _ (need_fine _ _ h.0);
      rows = λ a l. each_out 16 (λ a. true) (λ a. row_fits (domain i) (domain j) a (row a)) (true_holds (need_fine _ _ h.1)) a l tt;
    }

pub fits_in_lem : (domain : ℕ → ℕ) (n last i j : ℕ) (row : ℕ → ℕ) → Fits domain n last i j row → constraint_fits domain n last i j row ≡ Fine
unfolding constraint_fits rows_fit
fits_in_lem domain n last i j row t =
    then_ok _ _ (need_ok _ _ (order_in i j n t.ascends t.below))
    (then_ok _ _ (need_ok _ _ (lt-ltb _ _ t.above))
    (need_ok _ _ (holds (each_in 16 (λ a. true) (λ a. row_fits (domain i) (domain j) a (row a)) (λ a l s. t.rows a l)))))

-- Only the domains of the n variables and the 16 rows count.
pub fits_eq : (domain domain' : ℕ → ℕ) (n last i j : ℕ) (row row' : ℕ → ℕ) → ((k : ℕ) → k < n → domain k ≡ domain' k) → ((a : ℕ) → a < 16 → row a ≡ row' a) →
    constraint_fits domain n last i j row ≡ constraint_fits domain' n last i j row'
unfolding constraint_fits rows_fit
fits_eq domain domain' n last i j row row' ed er =
    then_same _ _ _
    (λ q.
    let o = order_out i j n (need_fine _ _ q) in
    let x : domain i ≡ domain' i = ed i (omega (arith, o.0, o.1)) in
    let y : domain j ≡ domain' j = ed j o.1 in
    let z = each_eq 16 (λ a. true) (λ a. row_fits (domain i) (domain j) a (row a)) (λ a. row_fits (domain' i) (domain' j) a (row' a)) (λ a l. rw (x, y, er a l)) in
    ap (λ (b : Bool). need (ltb last (pair_of i j)) Order then need b Stray) z)

-- One three-way constraint's variables.
pub record ScopeFits (n last : ℕ) (x : ℕ → ℕ) : Type 0 where
  pub first : x 0 < x 1
  pub second : x 1 < x 2
  pub below : x 2 < n
  pub above : last < scope_of (x 0) (x 1) (x 2)

-- All its numbers.
pub record TernaryFits (domain : ℕ → ℕ) (n last : ℕ) (x : ℕ → ℕ) : Type 0 where
  pub scope : ScopeFits n last x
  pub some : 1 ≤ x 3
  pub most : x 3 ≤ 16
  pub one : (q : ℕ) → q < x 3 → T (bit (domain (x 0)) (x (3 * q + 4)))
  pub two : (q : ℕ) → q < x 3 → T (bit (domain (x 1)) (x (3 * q + 5)))
  pub three : (q : ℕ) → q < x 3 → T (bit (domain (x 2)) (x (3 * q + 6)))
  pub low : (q : ℕ) → q < x 3 → (x (3 * q + 4) < 16) × (x (3 * q + 5) < 16) × (x (3 * q + 6) < 16)
  pub ascends : (q : ℕ) → suc q < x 3 → triple_in x q < triple_in x (suc q)

scope_out : (n last : ℕ) (x : ℕ → ℕ) → scope_fits n last x ≡ true → ScopeFits n last x
unfolding scope_fits
scope_out n last x e =
    let a = both_true _ _ e in
    let b = both_true _ _ a.1 in
    let o = order_out _ _ _ b.0 in
    record { first = ltb-true _ _ a.0; second = o.0; below = o.1; above = ltb-true _ _ b.1 }

-- A value of a domain: it is below 16 and the domain holds it, and of a word of 16 bits the second is all.
value_out : (m a : ℕ) → T (in_mask m a) → (a < 16) × T (bit m a)
unfolding in_mask
value_out m a t = let b = and_out _ _ t in (ltb-true a 16 (holds b.0), b.1)

value_low : (m a : ℕ) → a < 16 → T (bit m a) → T (in_mask m a)
unfolding in_mask
value_low m a h t = and_in _ _ (true_holds (lt-ltb a 16 h)) t

pub value_of_word : (m a : ℕ) → m < 65536 → in_mask m a ≡ bit m a
unfolding in_mask
value_of_word m a h =
    by_lt a 16 (λ l. rw (lt-ltb a 16 l) refl) (λ g. rw (le-ltb a 16 g) (sym (bit_high 16 m a h g)))

values_out : (domain x : ℕ → ℕ) (q : ℕ) → T (values_in domain x q)
    → T (in_mask (domain (x 0)) (x (3 * q + 4))) × T (in_mask (domain (x 1)) (x (3 * q + 5))) × T (in_mask (domain (x 2)) (x (3 * q + 6)))
unfolding values_in
values_out domain x q t =
    let a = and_out _ _ t in
    let b = and_out _ _ a.1 in
    (a.0, b.0, b.1)

-- The values of triple q.
values_fit : {domain : ℕ → ℕ} {n last : ℕ} {x : ℕ → ℕ} → TernaryFits domain n last x → (q : ℕ) → q < x 3
    → T (in_mask (domain (x 0)) (x (3 * q + 4))) × T (in_mask (domain (x 1)) (x (3 * q + 5))) × T (in_mask (domain (x 2)) (x (3 * q + 6)))
values_fit t q h =
    let l = t.low q h in
    (value_low _ _ l.0 (t.one q h), value_low _ _ l.1 (t.two q h), value_low _ _ l.2 (t.three q h))

pub ternary_out : (domain : ℕ → ℕ) (n last : ℕ) (x : ℕ → ℕ) → ternary_fits domain n last x ≡ true → TernaryFits domain n last x
unfolding ternary_fits count_fits triples_fit above_last
ternary_out domain n last x e =
    let a = both_true _ _ e in
    let b = both_true _ _ a.1 in
    let c = both_true _ _ b.0 in
    let t : (q : ℕ) → q < x 3 → T (values_in domain x q && above_last x q) =
    λ q h. each_out (x 3) (λ q. true) (λ q. values_in domain x q && above_last x q) (true_holds b.1) q h tt in
    let v = λ (q : ℕ) (h : q < x 3). values_out domain x q (and_out _ _ (t q h)).0 in
    let one = λ (q : ℕ) (h : q < x 3). value_out _ _ (v q h).0 in
    let two = λ (q : ℕ) (h : q < x 3). value_out _ _ (v q h).1 in
    let three = λ (q : ℕ) (h : q < x 3). value_out _ _ (v q h).2 in
    record {
      scope = scope_out n last x a.0;
      some = leb-true _ _ c.0;
      most = leb-true _ _ c.1;
      one = λ q h. (one q h).1;
      two = λ q h. (two q h).1;
      three = λ q h. (three q h).1;
      low = λ q h. ((one q h).0, (two q h).0, (three q h).0);
      ascends = λ q h. ltb-true _ _ (holds (and_out _ _ (t (suc q) h)).1);
    }

pub ternary_in : (domain : ℕ → ℕ) (n last : ℕ) (x : ℕ → ℕ) → TernaryFits domain n last x → ternary_fits domain n last x ≡ true
unfolding ternary_fits scope_fits count_fits triples_fit values_in above_last
ternary_in domain n last x t =
    let s = t.scope in
    both_ok _ _ (both_ok _ _ (lt-ltb _ _ s.first) (both_ok _ _ (order_in _ _ _ s.second s.below) (lt-ltb _ _ s.above)))
    (both_ok _ _ (both_ok _ _ (le-leb _ _ t.some) (le-leb _ _ t.most))
    (holds (each_in (x 3) (λ q. true) (λ q. values_in domain x q && above_last x q)
    (λ q h s. let v = values_fit t q h in and_in _ _ (and_in _ _ v.0 (and_in _ _ v.1 v.2)) (above q h)))))
  where
    above : (q : ℕ) → q < x 3 → T (above_last x q)
    above zero h = tt
    above (suc q) h = true_holds (lt-ltb _ _ (t.ascends q h))

-- Test by test: what is above the triples before number q, where one test fails, and where all hold.
unfoldable pub next_above : (ℕ → ℕ) → ℕ → ℕ
next_above x zero = 0
next_above x (suc q) = triple_in x q + 1

module _ (domain : ℕ → ℕ) (n last : ℕ) (x : ℕ → ℕ) where
  pub not_ordered : (ltb (x 0) (x 1) && in_order (x 1) (x 2) n) ≡ false → ternary_fits domain n last x ≡ false
  not_ordered e =
      fails (λ t. let s = (ternary_out domain n last x (holds t)).scope in clash e (true_holds (both_ok _ _ (lt-ltb _ _ s.first) (order_in _ _ _ s.second s.below))))

  pub not_above : scope_of (x 0) (x 1) (x 2) ≤ last → ternary_fits domain n last x ≡ false
  not_above h = fails (λ t. let s = (ternary_out domain n last x (holds t)).scope in omega (arith, s.above))

  pub not_counted : count_fits (x 3) ≡ false → ternary_fits domain n last x ≡ false
  unfolding count_fits
  not_counted e = fails (λ t. let f = ternary_out domain n last x (holds t) in clash e (true_holds (both_ok _ _ (le-leb _ _ f.some) (le-leb _ _ f.most))))

  pub not_inside :
      (q : ℕ) → q < x 3 → (in_mask (domain (x 0)) (x (3 * q + 4)) && in_mask (domain (x 1)) (x (3 * q + 5))) ≡ false → ternary_fits domain n last x ≡ false
  not_inside q h e = fails (λ t. let v = values_fit (ternary_out domain n last x (holds t)) q h in clash e (and_in _ _ v.0 v.1))

  pub not_third : (q : ℕ) → q < x 3 → in_mask (domain (x 2)) (x (3 * q + 6)) ≡ false → ternary_fits domain n last x ≡ false
  not_third q h e = fails (λ t. let v = values_fit (ternary_out domain n last x (holds t)) q h in clash e v.2)

  pub not_ascending : (q : ℕ) → q < x 3 → triple_in x q < next_above x q → ternary_fits domain n last x ≡ false
  unfolding next_above
  not_ascending zero h l = absurd (omega arith)
  not_ascending (suc q) h l = fails (λ t. let f = (ternary_out domain n last x (holds t)).ascends q h in omega arith)

  next_above_is : (q : ℕ) → next_above x q ≤ triple_in x q → above_last x q ≡ true
  unfolding next_above above_last
  next_above_is zero h = refl
  next_above_is (suc q) h = lt-ltb _ _ (omega arith)

  pub one_more :
      (q : ℕ) → triples_fit domain x q ≡ true → (in_mask (domain (x 0)) (x (3 * q + 4)) && in_mask (domain (x 1)) (x (3 * q + 5))) ≡ true
      → in_mask (domain (x 2)) (x (3 * q + 6)) ≡ true → next_above x q ≤ triple_in x q → triples_fit domain x (suc q) ≡ true
  unfolding triples_fit values_in each
  one_more q e v w l =
      let a = both_true _ _ v in both_ok _ _ (both_ok _ _ (both_ok _ _ a.0 (both_ok _ _ a.1 w)) (next_above_is q l)) e

  pub all_fit :
      (ltb (x 0) (x 1) && in_order (x 1) (x 2) n) ≡ true → last < scope_of (x 0) (x 1) (x 2) → count_fits (x 3) ≡ true → triples_fit domain x (x 3) ≡ true
      → ternary_fits domain n last x ≡ true
  unfolding ternary_fits scope_fits
  all_fit o h c t = let a = both_true _ _ o in both_ok _ _ (both_ok _ _ a.0 (both_ok _ _ a.1 (lt-ltb _ _ h))) (both_ok _ _ c t)

-- Only the domains of the n variables and the numbers of the triples counted tell.
module _ (domain domain' : ℕ → ℕ) (n last : ℕ) (x x' : ℕ → ℕ) (ed : (k : ℕ) → k < n → domain k ≡ domain' k) (ex : (k : ℕ) → k < 4 + 3 * x 3 → x k ≡ x' k) where
  scope_same : scope_fits n last x ≡ scope_fits n last x'
  unfolding scope_fits
  scope_same = rw (ex 0 (omega arith), ex 1 (omega arith), ex 2 (omega arith))

  triple_same : (q : ℕ) → q < x 3 → triple_in x q ≡ triple_in x' q
  unfolding triple_in
  triple_same q h = rw (ex (3 * q + 4) (omega arith), ex (3 * q + 5) (omega arith), ex (3 * q + 6) (omega arith))

  above_same : (q : ℕ) → q < x 3 → above_last x q ≡ above_last x' q
  unfolding above_last
  above_same zero h = refl
  above_same (suc q) h = ap₂ ltb (triple_same q (omega arith)) (triple_same (suc q) h)

  value_same : (i q : ℕ) → i < 4 → x i < n → q < 4 + 3 * x 3 → in_mask (domain (x i)) (x q) ≡ in_mask (domain' (x' i)) (x' q)
  value_same i q h l r = ap₂ in_mask (ed (x i) l ∙ ap domain' (ex i (omega arith))) (ex q r)

  triples_same : ScopeFits n last x → triples_fit domain x (x 3) ≡ triples_fit domain' x' (x' 3)
  unfolding triples_fit values_in
  triples_same s =
      each_eq (x 3) (λ q. true) (λ q. values_in domain x q && above_last x q) (λ q. values_in domain' x' q && above_last x' q)
      (λ q h. ap₂ ◌&&◌
      (ap₂ ◌&&◌ (value_same 0 (3 * q + 4) (omega arith) (omega (arith, s.first, s.second, s.below)) (omega arith))
      (ap₂ ◌&&◌ (value_same 1 (3 * q + 5) (omega arith) (omega (arith, s.second, s.below)) (omega arith)) (value_same 2 (3 * q + 6) (omega arith) s.below (omega arith))))
      (above_same q h))
      ∙ ap (λ (k : ℕ). each k (λ q. true) (λ q. values_in domain' x' q && above_last x' q)) (ex 3 (omega arith))

  pub ternary_eq : ternary_fits domain n last x ≡ ternary_fits domain' n last x'
  unfolding ternary_fits
  ternary_eq =
      and_same (scope_fits n last x) _ _ (λ s. ap₂ ◌&&◌ (ap count_fits (ex 3 (omega arith))) (triples_same (scope_out n last x (holds s))))
      ∙ ap (λ (b : Bool). b && (count_fits (x' 3) && triples_fit domain' x' (x' 3))) scope_same
