-- Accepted files. `Accepted f` says what holds of one, `accepted` and `accept` go between it and the verdict, and the laws below say
-- what a reading shows. The crates above rest on these and never open the definition of the verdict.
use Prim.Native.Nat.{ℕ, zero, suc, ◌+◌, ◌*◌, ◌≤◌, ◌<◌}
use mathlib.Core.Path.{◌≡◌, refl, sym, ap, ◌∙◌}
use mathlib.Core.Bool.{true}
use mathlib.Core.List.{List}
use mathlib.Core.Logic.{⊎_elim}
use lib.ListN.{length, get_or, length-set}
use lib.Seq.{get_or-set_same, get_or-set_other}
use native.Mathlib.Omega.{arith}
use native.Mathlib.Nat.{eq-or-lt_of_le, le_of_suc-le-suc}
use Rattle.mask.specs.Mask.{bit}
use Rattle.mask.proofs.Masks.{bit-mask_of}
use Rattle.std.specs.Prelude.{Ok, Err, Option, None, Some}
use Rattle.refusal.specs.declared.reason.Fault.{Fault}
use Rattle.refusal.specs.Chain.{Verdict, Fine}
use Rattle.refusal.specs.Told.{replied, fault_told}
use Rattle.refusal.proofs.Chain.{then_fine, then_ok}
use Rattle.refusal.proofs.Numbers.{fault_one}
use Rattle.rule_set.specs.RuleSet.{is_rule_set}
use Rattle.file_reader.specs.declared.Head.{Head}
use Rattle.file_layout.specs.Layout.{byte, word, marked, EN, n_of, m_of, has_rules, rules_of, variables_at, domain_at, universal_at, constraints_at, after_constraints, ternary_at, t_of, end_at}
use Rattle.file_records.specs.Records.{last_pair, last_scope, rest_test, verdict_of}
use Rattle.file_reader.specs.Reading.{rule_numbers, header_numbers, domain_of, universal_of, universal_bits, universal_bits_of, domains_to, head_of, header_for, domains_for, header_of, domains_of}
use Rattle.file_records.proofs.RecordLaws.{HeadRecord, Variable, Constraint, Ternary, qp_out, qp_in, rs_out, rs_in, variables_out, variables_in_lem, constraints_out, constraints_in_lem, en_out, en_in}
use Rattle.file_records.proofs.RecordLaws.{ternaries_out, ternaries_in_lem, ternaries_few, end_most}

-- What holds of an accepted file.
pub record Accepted (f : List ℕ) : Type 0 where
  pub head : HeadRecord f
  pub rules : has_rules f ≡ true → (8 ≤ length f) × (is_rule_set (byte f 7) ≡ true)
  pub variable : (i : ℕ) → i < n_of f → Variable f (variables_at f + 4 * i)
  pub constraint : (t : ℕ) → t < m_of f → Constraint f (variables_at f) (n_of f) (last_pair f (constraints_at f) t) (constraints_at f + 36 * t)
  pub ternary : (k : ℕ) → k < t_of f → Ternary f (variables_at f) (n_of f) (last_scope f (after_constraints f) k) k (ternary_at f (after_constraints f) k)
  pub size : length f ≡ end_at f + 2
  pub ends : marked f (end_at f) EN ≡ true

pub accepted : (f : List ℕ) → verdict_of f ≡ Fine → Accepted f
unfolding verdict_of rest_test
accepted f q =
    let a = then_fine _ _ q in
    let b = then_fine _ _ a.1 in
    let v = then_fine _ _ b.1 in
    let t = then_fine _ _ v.1 in
    let r = then_fine _ _ t.1 in
    let e = en_out _ _ r.1 in
    record {
      head = qp_out f a.0;
      rules = rs_out f b.0;
      variable = variables_out _ _ _ v.0;
      constraint = constraints_out _ _ _ _ _ t.0;
      ternary = ternaries_out _ _ _ _ _ r.0;
      size = e.0;
      ends = e.1;
    }

pub accept : (f : List ℕ) → Accepted f → verdict_of f ≡ Fine
unfolding verdict_of rest_test
accept f a =
    then_ok _ _ (qp_in f a.head)
    (then_ok _ _ (rs_in f (has_rules f) refl a.rules)
    (then_ok _ _ (variables_in_lem f _ _ a.variable)
    (then_ok _ _ (constraints_in_lem f _ _ _ _ a.constraint)
    (then_ok _ _ (ternaries_in_lem f _ _ _ _ a.ternary) (en_in f _ a.size a.ends)))))

-- "n, choices, 1 to 32".
pub variables-some : (f : List ℕ) → verdict_of f ≡ Fine → 1 ≤ n_of f
variables-some f v = (accepted f v).head.counts.some

pub variables_most : (f : List ℕ) → verdict_of f ≡ Fine → n_of f ≤ 32
variables_most f v = (accepted f v).head.counts.most

-- "Choices and records together number at most 32."
pub variables_and_ternaries : (f : List ℕ) → verdict_of f ≡ Fine → n_of f + t_of f ≤ 32
variables_and_ternaries f v =
    let a = accepted f v in ternaries_few f _ _ _ _ a.head.counts.most (ternaries_in_lem f _ _ _ _ a.ternary)

-- "The length is 7 + 4n + 36m, plus 3 with `RS`", and the records `TT`.
pub file-length : (f : List ℕ) → Accepted f → length f ≡ ternary_at f (variables_at f + 4 * n_of f + 36 * m_of f) (t_of f) + 2
unfolding end_at after_constraints constraints_at
file-length f a = a.size

-- `EN` begins nowhere behind 17,992.
pub accepted_end : (f : List ℕ) → Accepted f → end_at f ≤ 17992
accepted_end f a = end_most f a.head.counts (ternaries_in_lem f _ _ _ _ a.ternary)

-- ---- what a reading shows

pub header_is : (f : List ℕ) (v : Verdict) → verdict_of f ≡ v → header_of f ≡ header_for v f
unfolding header_of
header_is f v q = rw q

pub domains_is : (f : List ℕ) (v : Verdict) → verdict_of f ≡ v → domains_of f ≡ domains_for v f
unfolding domains_of
domains_is f v q = rw q

rules_same : (r s : Option ℕ) → rule_numbers r ≡ rule_numbers s → r ≡ s
rules_same None None e = refl
rules_same None (Some k) e = cc
rules_same (Some k) None e = cc
rules_same (Some k) (Some j) e = cc

-- A header that is accepted shows the file's numbers; one that is refused, its verdict.
pub record Shows (f : List ℕ) (h : Head) : Type 0 where
  pub fine : verdict_of f ≡ Fine
  pub variables : h.n ≡ n_of f
  pub constraints : h.m ≡ m_of f
  pub ternaries : h.t ≡ t_of f
  pub set : h.rules ≡ rules_of f
  pub bits : h.universal ≡ universal_bits_of f

pub header_shows : (f : List ℕ) (h : Head) → replied (header_numbers h) ≡ header_of f → Shows f h
unfolding header_for header_numbers head_of
header_shows f h e = go (verdict_of f) refl (e ∙ header_is f (verdict_of f) refl)
  where
    go : (v : Verdict) → verdict_of f ≡ v → replied (header_numbers h) ≡ header_for v f → Shows f h
    go (Ok u) q e = record {
      fine = q;
      variables = cc;
      constraints = cc;
      ternaries = cc;
      set = rules_same _ _ (cc);
      bits = cc;
    }
    go (Err d) q e = cc

pub shown_counts : {f : List ℕ} {h : Head} → Shows f h → (0 < h.n) × (h.n ≤ 32)
shown_counts {f} {h} s = (omega (arith, s.variables, variables-some f s.fine), omega (arith, s.variables, variables_most f s.fine))

pub head_is : (f : List ℕ) (h : Head) → Shows f h → h ≡ head_of f
unfolding head_of
head_is f h s = rw (← s.bits, ← s.set, ← s.ternaries, ← s.constraints, ← s.variables)

pub header_refuses : (f : List ℕ) (e : Fault) → fault_told e ≡ header_of f → verdict_of f ≡ Err e
unfolding header_for
header_refuses f e h = go (verdict_of f) refl (h ∙ header_is f (verdict_of f) refl)
  where
    go : (v : Verdict) → verdict_of f ≡ v → fault_told e ≡ header_for v f → verdict_of f ≡ Err e
    go (Ok u) q h = cc
    go (Err d) q h = q ∙ ap Err (fault_one d e (sym h))

-- The domains of the reply.
pub length-domains : (f : List ℕ) (b k : ℕ) → length (domains_to f b k) ≡ 32
unfolding domains_to
length-domains f b zero = refl
length-domains f b (suc k) = simp length-set (length-domains f b k)

pub domains-length : (f : List ℕ) → verdict_of f ≡ Fine → length (domains_of f) ≡ 32
unfolding domains_for
domains-length f v = ap length (domains_is f Fine v) ∙ length-domains f (variables_at f) (n_of f)

pub domain_in_lem : (f : List ℕ) (b k i : ℕ) → k ≤ 32 → i < k → get_or (domains_to f b k) i 0 ≡ domain_at f b i
unfolding domains_to
domain_in_lem f b zero i l h = absurd (omega arith)
domain_in_lem f b (suc k) i l h =
    ⊎_elim
    (λ (e : i ≡ k). rw e (get_or-set_same (domains_to f b k) k (domain_at f b k) 0 (omega (arith, length-domains f b k))))
    (λ (g : i < k). get_or-set_other (domains_to f b k) k i (domain_at f b k) 0 (λ e. omega arith) ∙ domain_in_lem f b k i (omega arith) g)
    (eq-or-lt_of_le (le_of_suc-le-suc h))

-- Of an accepted file the i-th domain of the reply is variable i's, and is not zero; its i-th universal bit says whether i is universal.
pub read_domain : (f : List ℕ) → verdict_of f ≡ Fine → (i : ℕ) → i < n_of f → get_or (domains_of f) i 0 ≡ domain_at f (variables_at f) i
unfolding domains_for
read_domain f v i h =
    ap (λ r. get_or r i 0) (domains_is f Fine v) ∙ domain_in_lem f (variables_at f) (n_of f) i (accepted f v).head.counts.most h

pub domain-some : (f : List ℕ) → verdict_of f ≡ Fine → (i : ℕ) → i < n_of f → get_or (domains_of f) i 0 ≡ 0 → ⊥
unfolding domain_at
domain-some f v i h e = ((accepted f v).variable i h).domain (sym (read_domain f v i h) ∙ e)

-- Every list's domains are below 2^16, and none of an accepted one is zero; of bytes they are those of the reply.
pub domain_small : (f : List ℕ) (i : ℕ) → domain_of f i < 65536
unfolding domain_of
domain_small f i = omega arith

pub domain-full : (f : List ℕ) → verdict_of f ≡ Fine → (i : ℕ) → i < n_of f → ¬ (domain_of f i ≡ 0)
unfolding domain_of domain_at
domain-full f v i h e = ((accepted f v).variable i h).domain (omega arith)

pub domain_read : (f : List ℕ) → ((k : ℕ) → get_or f k 0 < 256) → verdict_of f ≡ Fine → (i : ℕ) → i < n_of f → get_or (domains_of f) i 0 ≡ domain_of f i
unfolding domain_of domain_at word
domain_read f bytes v i h =
    let p = variables_at f + 4 * i + 2 in
    omega (arith, read_domain f v i h, bytes p, bytes (p + 1))

pub read_universal : (f : List ℕ) (b n i : ℕ) → i < n → bit (universal_bits f b n) i ≡ universal_at f b i
unfolding universal_bits
read_universal f b n i h = bit-mask_of n (universal_at f b) i h

pub universal-shown : (f : List ℕ) (i : ℕ) → i < n_of f → bit (universal_bits_of f) i ≡ universal_of f i
unfolding universal_of
universal-shown f i h = read_universal f (variables_at f) (n_of f) i h
