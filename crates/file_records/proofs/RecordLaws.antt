-- What a record's test that is fine says, and what makes it fine: a law out and a law in for each kind of record.
use Prim.Native.Nat.{ℕ, zero, suc, ◌+◌, ◌-◌, ◌*◌, ◌≤◌, ◌<◌}
use mathlib.Core.Path.{◌≡◌, refl, sym, ap, ◌∙◌}
use mathlib.Core.Bool.{Bool, true, false, ◌||◌, not}
use mathlib.Core.List.{List}
use mathlib.Core.Logic.{⊎_elim}
use lib.ListN.{length}
use native.Mathlib.Omega.{arith}
use native.Mathlib.Nat.{eq-or-lt_of_le, le_of_suc-le-suc}
use borrow.Author.Tests.{leb-true, le-leb, eqb-false, ne_eqb, not-true}
use Rattle.refusal.specs.Chain.{Fine}
use Rattle.refusal.proofs.Chain.{then_fine, need_fine, then_ok, need_ok, so, not_so, placed_fine, placed_ok}
use Rattle.rule_set.specs.RuleSet.{is_rule_set}
use Rattle.file_layout.specs.Layout.{byte, word, marked, QP, VE, VA, CT, EN, n_of, m_of, has_rules, variables_at, domain_at, one_at, two_at, row_at, after_constraints}
use Rattle.file_layout.specs.Layout.{number_at, body_at, ternary_at, t_of, end_at}
use Rattle.file_layout.proofs.LayoutLaws.{opened_out, opened_in, after_most}
use Rattle.file_records.specs.Records.{qp_test, rs_test, variable_test, variables_test, constraint_test, last_pair, constraints_test, ternary_test, last_scope, ternaries_test, en_test}
use Rattle.file_layout.proofs.NumberLaws.{Counts, counts_out, counts_in, Fits, fits_out, fits_in_lem, TernaryFits, ternary_out, ternary_in}

-- QP.
pub record HeadRecord (f : List ℕ) : Type 0 where
  pub within : 5 ≤ length f
  pub mark : marked f 0 QP ≡ true
  pub counts : Counts (n_of f) (m_of f)

pub qp_out : (f : List ℕ) → qp_test f ≡ Fine → HeadRecord f
unfolding qp_test
qp_out f q =
    let a = then_fine _ _ q in
    let o = opened_out _ _ _ _ a.0 in
    record { within = o.0; mark = o.1; counts = counts_out _ _ (need_fine _ _ a.1) }

pub qp_in : (f : List ℕ) → HeadRecord f → qp_test f ≡ Fine
unfolding qp_test
qp_in f h = then_ok _ _ (opened_in f 0 _ 3 h.within h.mark) (need_ok _ _ (counts_in _ _ h.counts))

-- RS.
pub rs_out : (f : List ℕ) → rs_test f ≡ Fine → has_rules f ≡ true → (8 ≤ length f) × (is_rule_set (byte f 7) ≡ true)
unfolding rs_test
rs_out f q h =
    let a = then_fine _ _ (sym (so _ _ h) ∙ q) in
    ((opened_out _ _ _ _ a.0).0, need_fine _ _ a.1)

pub rs_in : (f : List ℕ) (d : Bool) → has_rules f ≡ d → (d ≡ true → (8 ≤ length f) × (is_rule_set (byte f 7) ≡ true)) → rs_test f ≡ Fine
unfolding rs_test
rs_in f true e h = so _ _ e ∙ then_ok _ _ (opened_in f 5 true 1 (h refl).0 refl) (need_ok _ _ (h refl).1)
rs_in f false e h = not_so _ _ e

-- VE and VA.
pub record Variable (f : List ℕ) (p : ℕ) : Type 0 where
  pub within : p + 4 ≤ length f
  pub mark : (marked f p VE || marked f p VA) ≡ true
  pub domain : word f (p + 2) ≡ 0 → ⊥

variable_out : (f : List ℕ) (p : ℕ) → variable_test f p ≡ Fine → Variable f p
unfolding variable_test
variable_out f p q =
    let a = then_fine _ _ q in
    let o = opened_out _ _ _ _ a.0 in
    record {
      within = omega (arith, o.0);
      mark = o.1;
      domain = eqb-false _ _ (not-true _ (need_fine _ _ a.1));
    }

variable_in : (f : List ℕ) (p : ℕ) → Variable f p → variable_test f p ≡ Fine
unfolding variable_test
variable_in f p v =
    then_ok _ _ (opened_in f p _ 2 (omega (arith, v.within)) v.mark) (need_ok _ _ (ap not (ne_eqb (word f (p + 2)) 0 v.domain)))

pub variables_out : (f : List ℕ) (b k : ℕ) → variables_test f b k ≡ Fine → (i : ℕ) → i < k → Variable f (b + 4 * i)
unfolding variables_test
variables_out f b zero q i h = absurd (omega arith)
variables_out f b (suc k) q i h =
    let a = then_fine _ _ q in
    ⊎_elim
    (λ (e : i ≡ k). rw e (variable_out _ _ a.1))
    (λ (l : i < k). variables_out f b k a.0 i l)
    (eq-or-lt_of_le (le_of_suc-le-suc h))

pub variables_in_lem : (f : List ℕ) (b k : ℕ) → ((i : ℕ) → i < k → Variable f (b + 4 * i)) → variables_test f b k ≡ Fine
unfolding variables_test
variables_in_lem f b zero v = refl
variables_in_lem f b (suc k) v = then_ok _ _ (variables_in_lem f b k (λ i h. v i (omega arith))) (variable_in _ _ (v k (omega arith)))

pub variables-within : (f : List ℕ) (b k : ℕ) → variables_test f b k ≡ Fine → 1 ≤ k → b + 4 * k ≤ length f
variables-within f b k q h =
    let v = variables_out f b k q (k - 1) (omega arith) in
    omega (arith, v.within)

-- CT: the constraint at p, of a file of n variables from b, behind a constraint of the pair last.
pub record Constraint (f : List ℕ) (b n last p : ℕ) : Type 0 where
  pub within : p + 36 ≤ length f
  pub mark : marked f p CT ≡ true
  pub fits : Fits (domain_at f b) n last (one_at f p) (two_at f p) (row_at f p)

constraint_out : (f : List ℕ) (b n last p : ℕ) → constraint_test f b n last p ≡ Fine → Constraint f b n last p
unfolding constraint_test
constraint_out f b n last p q =
    let a = then_fine _ _ q in
    let o = opened_out _ _ _ _ a.0 in
    record { within = omega (arith, o.0); mark = o.1; fits = fits_out _ _ _ _ _ _ (placed_fine _ _ a.1) }

constraint_in : (f : List ℕ) (b n last p : ℕ) → Constraint f b n last p → constraint_test f b n last p ≡ Fine
unfolding constraint_test
constraint_in f b n last p t = then_ok _ _ (opened_in f p _ 34 (omega (arith, t.within)) t.mark) (placed_ok _ _ (fits_in_lem _ _ _ _ _ _ t.fits))

pub constraints_out : (f : List ℕ) (b n q k : ℕ) → constraints_test f b n q k ≡ Fine → (t : ℕ) → t < k → Constraint f b n (last_pair f q t) (q + 36 * t)
unfolding constraints_test
constraints_out f b n q zero e t h = absurd (omega arith)
constraints_out f b n q (suc k) e t h =
    let a = then_fine _ _ e in
    ⊎_elim
    (λ (i : t ≡ k). rw i (constraint_out _ _ _ _ _ a.1))
    (λ (l : t < k). constraints_out f b n q k a.0 t l)
    (eq-or-lt_of_le (le_of_suc-le-suc h))

pub constraints_in_lem : (f : List ℕ) (b n q k : ℕ) → ((t : ℕ) → t < k → Constraint f b n (last_pair f q t) (q + 36 * t)) → constraints_test f b n q k ≡ Fine
unfolding constraints_test
constraints_in_lem f b n q zero v = refl
constraints_in_lem f b n q (suc k) v =
    then_ok _ _ (constraints_in_lem f b n q k (λ t h. v t (omega arith))) (constraint_in _ _ _ _ _ (v k (omega arith)))

-- TT: record k at p, of a file of n variables from b, behind a record of the three variables last.
pub record Ternary (f : List ℕ) (b n last k p : ℕ) : Type 0 where
  pub within : p + 2 + body_at f p ≤ length f
  pub few : n + k + 1 ≤ 32
  pub fits : TernaryFits (domain_at f b) n last (number_at f p)

pub ternary_test_out : (f : List ℕ) (b n last k p : ℕ) → ternary_test f b n last k p ≡ Fine → Ternary f b n last k p
unfolding ternary_test
ternary_test_out f b n last k p q =
    let a = then_fine _ _ q in
    let c = then_fine _ _ a.1 in
    record { within = (opened_out _ _ _ _ a.0).0; few = leb-true _ _ (need_fine _ _ c.0); fits = ternary_out _ _ _ _ (need_fine _ _ c.1) }

ternary_test_in : (f : List ℕ) (b n last k p : ℕ) → Ternary f b n last k p → ternary_test f b n last k p ≡ Fine
unfolding ternary_test
ternary_test_in f b n last k p t =
    then_ok _ _ (opened_in f p true _ t.within refl)
    (then_ok _ _ (need_ok _ _ (le-leb (n + k + 1) 32 t.few)) (need_ok _ _ (ternary_in _ _ _ _ t.fits)))

pub ternaries_out : (f : List ℕ) (b n q k : ℕ) → ternaries_test f b n q k ≡ Fine → (t : ℕ) → t < k → Ternary f b n (last_scope f q t) t (ternary_at f q t)
unfolding ternaries_test
ternaries_out f b n q zero e t h = absurd (omega arith)
ternaries_out f b n q (suc k) e t h =
    let a = then_fine _ _ e in
    ⊎_elim
    (λ (i : t ≡ k). rw i (ternary_test_out _ _ _ _ _ _ a.1))
    (λ (l : t < k). ternaries_out f b n q k a.0 t l)
    (eq-or-lt_of_le (le_of_suc-le-suc h))

pub ternaries_in_lem : (f : List ℕ) (b n q k : ℕ) → ((t : ℕ) → t < k → Ternary f b n (last_scope f q t) t (ternary_at f q t)) → ternaries_test f b n q k ≡ Fine
unfolding ternaries_test
ternaries_in_lem f b n q zero v = refl
ternaries_in_lem f b n q (suc k) v =
    then_ok _ _ (ternaries_in_lem f b n q k (λ t h. v t (omega arith))) (ternary_test_in _ _ _ _ _ _ (v k (omega arith)))

-- One that is fine has at most 54 bytes; k of them are few, and end no further on.
pub ternary_short : (f : List ℕ) (b n last k p : ℕ) → Ternary f b n last k p → 2 + body_at f p ≤ 54
unfolding body_at
ternary_short f b n last k p t = omega (arith, t.fits.most)

pub ternaries_few : (f : List ℕ) (b n q k : ℕ) → n ≤ 32 → ternaries_test f b n q k ≡ Fine → n + k ≤ 32
ternaries_few f b n q zero h e = omega arith
ternaries_few f b n q (suc k) h e = omega (arith, (ternaries_out f b n q (suc k) e k (omega arith)).few)

ternaries_short : (f : List ℕ) (b n q k : ℕ) → ternaries_test f b n q k ≡ Fine → ternary_at f q k ≤ q + 54 * k
unfolding ternaries_test ternary_at
ternaries_short f b n q zero e = omega arith
ternaries_short f b n q (suc k) e =
    let a = then_fine _ _ e in
    omega (arith, ternaries_short f b n q k a.0, ternary_short f b n _ k _ (ternary_test_out _ _ _ _ _ _ a.1))

-- So no file of such records ends behind 17,992.
pub end_most :
    (f : List ℕ) → Counts (n_of f) (m_of f) → ternaries_test f (variables_at f) (n_of f) (after_constraints f) (t_of f) ≡ Fine → end_at f ≤ 17992
unfolding end_at
end_most f c e =
    let w = ternaries_few f _ _ _ _ c.most e in
    omega (arith, ternaries_short f _ _ _ _ e, after_most f (t_of f) c w)

-- EN.
pub en_out : (f : List ℕ) (p : ℕ) → en_test f p ≡ Fine → (length f ≡ p + 2) × (marked f p EN ≡ true)
unfolding en_test
en_out f p q =
    let a = then_fine _ _ q in
    let o = opened_out _ _ _ _ a.0 in
    let h : length f ≤ p + 2 = leb-true _ _ (need_fine _ _ a.1) in
    (omega (arith, o.0), o.1)

pub en_in : (f : List ℕ) (p : ℕ) → length f ≡ p + 2 → marked f p EN ≡ true → en_test f p ≡ Fine
unfolding en_test
en_in f p e m = then_ok _ _ (opened_in f p _ 0 (omega arith) m) (need_ok _ _ (le-leb (length f) (p + 2) (omega arith)))
