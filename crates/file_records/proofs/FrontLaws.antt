-- Two files with the same front: every test of a record that lies in it says the same of both, and a front of 18,763 bytes decides.
use Prim.Native.Nat.{ℕ, zero, suc, ◌+◌, ◌*◌, ◌≤◌, ◌<◌}
use mathlib.Core.Path.{◌≡◌, refl, sym, ap, ap₂, ◌∙◌}
use mathlib.Core.Bool.{Bool, true, false, cond, ◌||◌, not}
use mathlib.Core.List.{List}
use lib.Dec.{eqb, leb}
use lib.ListN.{get_or}
use native.Mathlib.Nat.{add-zero}
use native.Mathlib.Omega.{arith}
use Rattle.refusal.specs.declared.reason.Reason.TheVariants.{Count, Domain, Rules, Tail, Triple, Many}
use Rattle.refusal.specs.Reason.{◌at◌}
use Rattle.refusal.specs.Chain.{Verdict, Fine, ◌then◌, need, only, placed}
use Rattle.refusal.proofs.Chain.{then_same, then_assoc}
use Rattle.rule_set.specs.RuleSet.{is_rule_set}
use Rattle.file_layout.specs.Layout.{QP, RS, VE, VA, CT, TT, EN, marked, opened, n_of, m_of, variables_at, domain_at, one_at, two_at, row_at, constraints_at, after_constraints}
use Rattle.file_layout.specs.Layout.{number_at, body_at, ternary_at, leading, t_of, end_at}
use Rattle.file_layout.specs.Numbers.{counts_fit, constraint_fits}
use Rattle.file_layout.proofs.NumberLaws.{Counts, fits_eq, ternary_eq}
use Rattle.file_layout.proofs.LayoutLaws.{variables-before, start_most, after_most}
use Rattle.file_layout.proofs.FrontLaws.{SameFront, end_front, word_front, marked_front, opened_front, start_front, constraints_at_front, after_front, domain_front, row_front, pair_front, number_front, body_front}
use Rattle.file_records.specs.Records.{qp_test, rs_test, variable_test, variables_test, constraint_test, last_pair, constraints_test, ternary_test, scope_at, last_scope, ternaries_test, en_test, rest_test, verdict_of}
use Rattle.file_records.proofs.RecordLaws.{qp_out, ternary_test_out, ternary_short}

-- The records from p on as a cursor reads them, k of the kind TT at most, then EN.
unfoldable rest_from : List ℕ → ℕ → ℕ → ℕ → ℕ → ℕ → ℕ → Verdict
rest_from f b n last j p zero = en_test f p
rest_from f b n last j p (suc k) =
    cond (marked f p TT) (ternary_test f b n last j p then rest_from f b n (scope_at f p) (suc j) (p + 2 + body_at f p) k) (en_test f p)

-- Counting first and testing then says the same.
module _ (f : List ℕ) (b n q : ℕ) where
  -- The first k of them, and EN behind these.
  unfoldable counted : ℕ → Verdict
  counted k = ternaries_test f b n q k then en_test f (ternary_at f q k)

  counted_parts : (k : ℕ) → counted k ≡ (ternaries_test f b n q k then en_test f (ternary_at f q k))
  unfolding counted
  counted_parts k = refl

  counted_from : (k j : ℕ) →
      counted (j + leading f (ternary_at f q j) k) ≡ (ternaries_test f b n q j then rest_from f b n (last_scope f q j) j (ternary_at f q j) k)
  unfolding leading rest_from ternaries_test last_scope ternary_at
  counted_from zero j = ap counted (add-zero j) ∙ counted_parts j
  counted_from (suc k) j = go (marked f (ternary_at f q j) TT) (counted_from k (suc j))
    where
      go : (c : Bool) →
          counted (suc j + leading f (ternary_at f q (suc j)) k)
          ≡ (ternaries_test f b n q (suc j) then rest_from f b n (last_scope f q (suc j)) (suc j) (ternary_at f q (suc j)) k)
          → counted (j + cond c (suc (leading f (ternary_at f q j + 2 + body_at f (ternary_at f q j)) k)) 0)
          ≡ (ternaries_test f b n q j
          then cond c
          (ternary_test f b n (last_scope f q j) j (ternary_at f q j)
          then rest_from f b n (scope_at f (ternary_at f q j)) (suc j) (ternary_at f q j + 2 + body_at f (ternary_at f q j)) k)
          (en_test f (ternary_at f q j)))
      go true ih = ap counted (omega arith) ∙ ih ∙ then_assoc _ _ _
      go false ih = ap counted (add-zero j) ∙ counted_parts j

  counted_is : (k : ℕ) → counted (leading f q k) ≡ rest_from f b n 0 0 q k
  unfolding ternaries_test last_scope ternary_at ◌then◌
  counted_is k = ap counted (omega arith) ∙ counted_from k 0

module _ (k : ℕ) (f g : List ℕ) (s : SameFront k f g) where
  qp_front : 5 ≤ k → qp_test f ≡ qp_test g
  unfolding qp_test
  qp_front h =
      ap₂ ◌then◌ (opened_front k f g s 0 _ _ 3 h (marked_front k f g s 0 QP (omega arith)))
      (ap₂ (λ (n m : ℕ). need (counts_fit n m) (Count at 0)) (s.bytes 2 (omega arith)) (word_front k f g s 3 h))

  rs_front : 8 ≤ k → rs_test f ≡ rs_test g
  unfolding rs_test
  rs_front h =
      ap₂ only (marked_front k f g s 5 RS (omega arith))
      (ap₂ ◌then◌ (opened_front k f g s 5 _ _ 1 h refl) (ap (λ (r : ℕ). need (is_rule_set r) (Rules at 5)) (s.bytes 7 h)))

  variable_front : (p : ℕ) → p + 4 ≤ k → variable_test f p ≡ variable_test g p
  unfolding variable_test
  variable_front p h =
      ap₂ ◌then◌
      (opened_front k f g s p _ _ 2 (omega arith) (ap₂ ◌||◌ (marked_front k f g s p VE (omega arith)) (marked_front k f g s p VA (omega arith))))
      (ap (λ (d : ℕ). need (not (eqb d 0)) (Domain at p)) (word_front k f g s (p + 2) (omega arith)))

  variables_front : (b n : ℕ) → b + 4 * n ≤ k → variables_test f b n ≡ variables_test g b n
  unfolding variables_test
  variables_front b zero h = refl
  variables_front b (suc n) h = ap₂ ◌then◌ (variables_front b n (omega arith)) (variable_front (b + 4 * n) (omega arith))

  constraint_front : (b n last p : ℕ) → b + 4 * n ≤ k → p + 36 ≤ k → constraint_test f b n last p ≡ constraint_test g b n last p
  unfolding constraint_test
  constraint_front b n last p h l =
      ap₂ ◌then◌ (opened_front k f g s p _ _ 34 (omega arith) (marked_front k f g s p CT (omega arith)))
      (ap (placed p)
      (ap₂ (λ (i j : ℕ). constraint_fits (domain_at f b) n last i j (row_at f p)) (s.bytes (p + 2) (omega arith)) (s.bytes (p + 3) (omega arith))
      ∙ fits_eq (domain_at f b) (domain_at g b) n last (one_at g p) (two_at g p) (row_at f p) (row_at g p)
      (λ i r. domain_front k f g s b i (omega arith)) (λ a r. row_front k f g s p a (omega arith))))

  last_front : (q t : ℕ) → q + 36 * t ≤ k → last_pair f q t ≡ last_pair g q t
  unfolding last_pair
  last_front q zero h = refl
  last_front q (suc t) h = pair_front k f g s (q + 36 * t) (omega arith)

  constraints_front : (b n q m : ℕ) → b + 4 * n ≤ k → q + 36 * m ≤ k → constraints_test f b n q m ≡ constraints_test g b n q m
  unfolding constraints_test
  constraints_front b n q zero h l = refl
  constraints_front b n q (suc m) h l =
      ap₂ ◌then◌ (constraints_front b n q m h (omega arith))
      (ap (λ (last : ℕ). constraint_test f b n last (q + 36 * m)) (last_front q m (omega arith)) ∙ constraint_front b n _ (q + 36 * m) h (omega arith))

  en_front : (p : ℕ) → p + 2 < k → en_test f p ≡ en_test g p
  unfolding en_test
  en_front p h =
      ap₂ ◌then◌ (opened_front k f g s p _ _ 0 (omega arith) (marked_front k f g s p EN (omega arith)))
      (ap (λ (b : Bool). need b (Tail at (p + 2))) (end_front k f g s (p + 2) h))

  -- Variables and constraints of the front's own numbers.
  own_variables_front : 7 ≤ k → variables_at g + 4 * n_of g ≤ k → variables_test f (variables_at f) (n_of f) ≡ variables_test g (variables_at g) (n_of g)
  own_variables_front h l = ap₂ (variables_test f) (start_front k f g s h) (s.bytes 2 (omega arith)) ∙ variables_front (variables_at g) (n_of g) l

  own_constraints_front : 7 ≤ k → variables_at g + 4 * n_of g ≤ k → constraints_at g + 36 * m_of g ≤ k →
      constraints_test f (variables_at f) (n_of f) (constraints_at f) (m_of f) ≡ constraints_test g (variables_at g) (n_of g) (constraints_at g) (m_of g)
  own_constraints_front h l r =
      ap₂ (λ (b n : ℕ). constraints_test f b n (constraints_at f) (m_of f)) (start_front k f g s h) (s.bytes 2 (omega arith))
      ∙ ap₂ (constraints_test f (variables_at g) (n_of g)) (constraints_at_front k f g s h) (word_front k f g s 3 (omega arith))
      ∙ constraints_front (variables_at g) (n_of g) (constraints_at g) (m_of g) l r

  -- Record j at p, whose body is of 769 bytes at most.
  module _ (bytes : (p : ℕ) → get_or g p 0 < 256) (b n : ℕ) (near : b + 4 * n ≤ k) where
    numbers_front : (p : ℕ) → p + 771 ≤ k → (x : ℕ) → x < 4 + 3 * number_at f p 3 → number_at f p x ≡ number_at g p x
    unfolding number_at
    numbers_front p h x l = number_front k f g s p x (omega (arith, number_front k f g s p 3 (omega arith), bytes (p + 2 + 3)))

    ternary_front : (last j p : ℕ) → p + 771 ≤ k → ternary_test f b n last j p ≡ ternary_test g b n last j p
    unfolding ternary_test body_at number_at
    ternary_front last j p h =
        ap₂ ◌then◌
        (ap (opened f p true) (body_front k f g s p (omega arith)) ∙ opened_front k f g s p true true (body_at g p) (omega (arith, bytes (p + 2 + 3))) refl)
        (ap (λ (t : Bool). need (leb (n + j + 1) 32) (Many at p) then need t (Triple at p))
        (ternary_eq (domain_at f b) (domain_at g b) n last (number_at f p) (number_at g p) (λ i l. domain_front k f g s b i (omega arith)) (numbers_front p h)))

    scope_front : (p : ℕ) → p + 6 ≤ k → scope_at f p ≡ scope_at g p
    unfolding scope_at
    scope_front p h =
        rw (number_front k f g s p 0 (omega arith), number_front k f g s p 1 (omega arith), number_front k f g s p 2 (omega arith))

    -- The records from record j on, where those before it are of at most 54 bytes each: the next is looked at only where this one is fine.
    module _ (base : ℕ) (most : (t : ℕ) → n + t ≤ 32 → base + 54 * t + 771 ≤ k) where
      rest_from_front : (c last j p : ℕ) → n + j ≤ 32 → p ≤ base + 54 * j → rest_from f b n last j p c ≡ rest_from g b n last j p c
      unfolding rest_from
      rest_from_front zero last j p h l = en_front p (omega (arith, most j h))
      rest_from_front (suc c) last j p h l =
          let w : p + 771 ≤ k = omega (arith, most j h) in
          let next : (ternary_test g b n last j p ≡ Fine) →
          rest_from f b n (scope_at f p) (suc j) (p + 2 + body_at f p) c ≡ rest_from g b n (scope_at g p) (suc j) (p + 2 + body_at g p) c =
          λ q. let t = ternary_test_out g b n last j p q in
          ap₂ (λ (x y : ℕ). rest_from f b n x (suc j) (p + 2 + y) c) (scope_front p (omega arith)) (body_front k f g s p (omega arith))
          ∙ rest_from_front c (scope_at g p) (suc j) (p + 2 + body_at g p) (omega (arith, t.few)) (omega (arith, ternary_short g b n last j p t)) in
          rw (marked_front k f g s p TT (omega arith), en_front p (omega arith))
          (ap (λ (v : Verdict). cond (marked g p TT) v (en_test g p))
          (ap (λ (v : Verdict). v then rest_from f b n (scope_at f p) (suc j) (p + 2 + body_at f p) c) (ternary_front last j p w) ∙ then_same _ _ _ next))

  -- What stands behind QP is looked at only where its counts are in range, and then no record begins behind byte 17,992.
  module _ (bytes : (p : ℕ) → get_or g p 0 < 256) (h : 18763 ≤ k) (c : Counts (n_of g) (m_of g)) where
    records_front : counted f (variables_at f) (n_of f) (after_constraints f) (t_of f) ≡ counted g (variables_at g) (n_of g) (after_constraints g) (t_of g)
    unfolding t_of
    records_front =
        let n = n_of g in
        let most : (t : ℕ) → n + t ≤ 32 → after_constraints g + 54 * t + 771 ≤ k = λ t l. omega (arith, after_most g t c l) in
        counted_is f (variables_at f) (n_of f) (after_constraints f) 33
        ∙ ap₂ (λ (b n : ℕ). rest_from f b n 0 0 (after_constraints f) 33) (start_front k f g s (omega arith)) (s.bytes 2 (omega arith))
        ∙ ap (λ (q : ℕ). rest_from f (variables_at g) n 0 0 q 33) (after_front k f g s (omega arith))
        ∙ rest_from_front bytes (variables_at g) n (omega (arith, start_most g, c.most)) (after_constraints g) most 33 0 0 (after_constraints g) (omega (arith, c.most)) (omega arith)
        ∙ sym (counted_is g (variables_at g) n (after_constraints g) 33)

    rest_front : rest_test f ≡ rest_test g
    unfolding rest_test end_at counted after_constraints
    rest_front =
        let a = after_most g 0 c (omega (arith, c.most)) in
        let v : variables_at g + 4 * n_of g ≤ constraints_at g = variables-before g in
        ap₂ ◌then◌ (own_variables_front (omega arith) (omega arith)) (ap₂ ◌then◌ (own_constraints_front (omega arith) (omega arith) (omega arith)) records_front)

  pub verdict_front : ((p : ℕ) → get_or g p 0 < 256) → 18763 ≤ k → verdict_of f ≡ verdict_of g
  unfolding verdict_of
  verdict_front bytes h =
      ap (λ (v : Verdict). v then rs_test f then rest_test f) (qp_front (omega arith))
      ∙ then_same (qp_test g) _ _ (λ q. ap₂ ◌then◌ (rs_front (omega arith)) (rest_front bytes h (qp_out g q).counts))
