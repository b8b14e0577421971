-- A file of written bytes is accepted, and holds the numbers that were handed in.
use Prim.Native.Nat.{ℕ, zero, suc, ◌+◌, ◌*◌, ◌/◌, ◌%◌, ◌≤◌, ◌<◌}
use mathlib.Core.Path.{◌≡◌, refl, sym, ap, ◌∙◌}
use mathlib.Core.Bool.{Bool, true, false, false≢true}
use mathlib.Core.List.{List, [], ◌∷◌, ◌++◌}
use lib.ListN.{length, get_or}
use native.Mathlib.Nat.{zero-add, le_refl}
use native.Mathlib.Omega.{arith}
use Rattle.refusal.specs.Chain.{Fine}
use Rattle.rule_set.specs.RuleSet.{is_rule_set}
use Rattle.std.specs.Prelude.{Option, None, Some}
use Rattle.file_layout.specs.Layout.{byte, word, marked, QP, RS, EN, n_of, m_of, has_rules, rules_of, variables_at, domain_at, universal_at, one_at, two_at, row_at, pair_at, constraints_at, after_constraints, end_at, TT, t_of, number_at, body_at, ternary_at}
use Rattle.file_layout.proofs.LayoutLaws.{leading_all, leading_is}
use Rattle.file_layout.proofs.NumberLaws.{Fits, TernaryFits, ternary_out, ternary_in as ternary_passes, ternary_eq}
use Rattle.file_records.specs.Records.{last_pair, scope_at, last_scope, verdict_of}
use Rattle.file_records.proofs.RecordLaws.{Constraint, Ternary}
use Rattle.file_reader.proofs.Accepted.{Accepted, accept}
use Rattle.mask.specs.Mask.{bit}
use Rattle.file_bytes.specs.Bytes.{mark_bytes, word_bytes, variable_mark, variable_bytes, variables_bytes, constraint_bytes, constraints_bytes, head_bytes, qp_bytes, rs_bytes, Handed, from, size_in, start_in, count_in, ternary_in, ternaries_in, variables_in, constraints_in, bytes_of, start_of, length_of, domain_in, one_in, two_in, row_handed}
use Rattle.file_writer.specs.Tests.{rules_fit, pair_in, last_in, scope_in, last_scope_in}
use Rattle.file_bytes.proofs.RecordLaws.{start_least, length_head, length_front, length_body, length_records, length_bytes, variables-row, constraints-row, ternaries-row}
use Rattle.file_bytes.proofs.WalkLaws.{start_first, start_next}
use Rattle.file_writer.proofs.Writable.{Writable, sized, numbers_low}
use Rattle.file_round_trip.proofs.Held.{StandsAt, whole, left, right, joined_in, mark_is, not_first, variable_universal, variable_domain, variable_held, constraint_long, constraint_mark, constraint_one_lem, constraint_two_lem, constraint_row_lem, ternary_long, ternary_mark, ternary_number}

-- A constraint that fits still does where its numbers, and the domains of the variables, are named otherwise.
pub fits_same : (domain domain' : ℕ → ℕ) (n last last' i i' j j' : ℕ) (row row' : ℕ → ℕ) → last ≡ last' → i ≡ i' → j ≡ j' →
    ((k : ℕ) → k < n → domain k ≡ domain' k) → ((a : ℕ) → a < 16 → row a ≡ row' a) →
    Fits domain n last i j row → Fits domain' n last' i' j' row'
fits_same domain domain' n last last' i i' j j' row row' el ei ej ed er t =
    record {
      ascends = omega (arith, t.ascends);
      below = omega (arith, t.below);
      above = rw (← el, ← ei, ← ej) t.above;
      rows = λ a l.
          let x : domain i ≡ domain' i' = ed i (omega (arith, t.ascends, t.below)) ∙ ap domain' ei in
          let y : domain j ≡ domain' j' = ed j t.below ∙ ap domain' ej in
          rw (← x, ← y, ← er a l) (t.rows a l);
    }

-- So does a three-way constraint.
pub ternary_fits_same : (domain domain' : ℕ → ℕ) (n last last' : ℕ) (x x' : ℕ → ℕ) → last ≡ last' → ((k : ℕ) → k < n → domain k ≡ domain' k) →
    ((k : ℕ) → k < 4 + 3 * x 3 → x k ≡ x' k) → TernaryFits domain n last x → TernaryFits domain' n last' x'
ternary_fits_same domain domain' n last last' x x' el ed ex t =
    rw (← el) (ternary_out domain' n last x' (sym (ternary_eq domain domain' n last x x' ed ex) ∙ ternary_passes domain n last x t))

-- ---- the rule set

-- What stands behind `QP` says which rule set there is: without `RS` it is the V of the first variable's mark.
module _ (f : List ℕ) where
  rules_is : (r : Option ℕ) → StandsAt f 5 (rs_bytes r) → (r ≡ None → get_or f 5 0 ≡ 86) → rules_of f ≡ r
  unfolding rules_of rs_bytes mark_bytes
  rules_is None a h = rw (not_first f 5 RS (λ e. omega (arith, h refl)))
  rules_is (Some k) a h = rw (mark_is f 5 RS (left f 5 (mark_bytes RS) (k ∷ []) a), a.same 2 (omega arith))

  start_is : (r : Option ℕ) → StandsAt f 5 (rs_bytes r) → (r ≡ None → get_or f 5 0 ≡ 86) → variables_at f ≡ start_of r
  unfolding variables_at start_of rs_bytes mark_bytes
  start_is None a h = rw (not_first f 5 RS (λ e. omega (arith, h refl)))
  start_is (Some k) a h = rw (mark_is f 5 RS (left f 5 (mark_bytes RS) (k ∷ []) a))

  rules_fit_lem : (r : Option ℕ) → StandsAt f 5 (rs_bytes r) → (r ≡ None → get_or f 5 0 ≡ 86) → rules_fit r ≡ true → has_rules f ≡ true → (8 ≤ length f) × (is_rule_set (byte f 7) ≡ true)
  unfolding rs_bytes rules_fit mark_bytes
  rules_fit_lem None a h low e = absurd (false≢true (sym (not_first f 5 RS (λ g. omega (arith, h refl))) ∙ e))
  rules_fit_lem (Some k) a h low e = (a.long, ap is_rule_set (a.same 2 (omega arith)) ∙ low)

-- Both marks of a variable begin with V.
first_of : (d : Bool) → get_or (variable_mark d) 0 0 ≡ 86
unfolding variable_mark
first_of true = refl
first_of false = refl

-- ---- the whole file

-- The file of the numbers handed in.
module _ (x : Handed) (room : ℕ) (ok : Writable x room) where
  abbrev F : List ℕ
  F = bytes_of x

  abbrev n : ℕ
  n = x.n

  abbrev m : ℕ
  m = x.m

  abbrev rules : Option ℕ
  rules = x.rules

  abbrev universal : ℕ → Bool
  universal = bit x.universal

  abbrev domain : ℕ → ℕ
  domain = domain_in x.domains

  -- Its parts, and where they begin.
  H : List ℕ
  H = head_bytes n m rules

  S : List ℕ
  S = variables_in x

  C : List ℕ
  C = constraints_in x

  s : ℕ
  s = start_of rules

  q : ℕ
  q = start_of rules + 4 * n

  abbrev xs : List ℕ
  xs = x.ternaries

  abbrev t : ℕ
  t = count_in xs

  R : List ℕ
  R = ternaries_in x

  b : ℕ
  b = start_of rules + 4 * n + 36 * m

  -- The parts stand one behind another.
  behind_all : StandsAt F 0 (((H ++ S) ++ C) ++ R)
  unfolding bytes_of H S C R
  behind_all = left F 0 (((H ++ S) ++ C) ++ R) (mark_bytes EN) (whole F)

  front : StandsAt F 0 (H ++ S)
  front = left F 0 (H ++ S) C (left F 0 ((H ++ S) ++ C) R behind_all)

  head : StandsAt F 0 H
  head = left F 0 H S front

  variables : StandsAt F s S
  unfolding H s
  variables = right F 0 _ H S (zero-add _ ∙ length_head n m rules) front

  cons : StandsAt F q C
  unfolding H S C q
  cons = right F 0 _ (H ++ S) C (zero-add _ ∙ length_front x) (left F 0 ((H ++ S) ++ C) R behind_all)

  terns : StandsAt F b R
  unfolding H S C b
  terns = right F 0 _ ((H ++ S) ++ C) R (zero-add _ ∙ length_body x) behind_all

  end : StandsAt F (b + (length xs + 2 * t)) (mark_bytes EN)
  unfolding bytes_of H S C R b
  end = right F 0 _ (((H ++ S) ++ C) ++ R) (mark_bytes EN) (zero-add _ ∙ length_records x (sized ok)) (whole F)

  size : length F ≡ b + (length xs + 2 * t) + 2
  unfolding b length_of
  size = length_bytes x (sized ok)

  -- Each variable and each constraint stands at its place.
  variable : (i : ℕ) → i < n → StandsAt F (s + 4 * i) (variable_bytes (universal i) (domain i))
  unfolding S variables_bytes
  variable i h = joined_in F _ s _ n i (variables-row universal domain s n) variables h

  constraint : (t : ℕ) → t < m → StandsAt F (q + 36 * t) (constraint_bytes (one_in x.constraints t) (two_in x.constraints t) (row_handed x.constraints t))
  unfolding C constraints_bytes
  constraint t h = joined_in F _ q _ m t (constraints-row (one_in x.constraints) (two_in x.constraints) (row_handed x.constraints) q m) cons h

  qp : StandsAt F 0 (qp_bytes n m)
  unfolding H head_bytes
  qp = left F 0 (qp_bytes n m) (rs_bytes rules) head

  rs : StandsAt F 5 (rs_bytes rules)
  unfolding H head_bytes qp_bytes mark_bytes word_bytes
  rs = right F 0 5 (qp_bytes n m) (rs_bytes rules) refl head

  -- `QP` says n and m.
  n_is : n_of F ≡ n
  unfolding qp_bytes mark_bytes word_bytes
  n_is = qp.same 2 (omega arith)

  m_is : m_of F ≡ m
  unfolding qp_bytes mark_bytes word_bytes word
  m_is =
      let a : get_or F 3 0 ≡ m % 256 = qp.same 3 (omega arith) in
      let b : get_or F 4 0 ≡ m / 256 = qp.same 4 (omega arith) in
      omega arith

  begins : marked F 0 QP ≡ true
  unfolding qp_bytes mark_bytes word_bytes
  begins = mark_is F 0 QP (left F 0 (mark_bytes QP) ((n ∷ []) ++ word_bytes m) qp)

  first_mark : rules ≡ None → get_or F 5 0 ≡ 86
  unfolding s start_of variable_bytes mark_bytes
  first_mark e =
      let a = variable 0 ok.counts.some in
      let h : s ≡ 5 = ap start_of e in
      ap (λ (i : ℕ). get_or F i 0) (omega arith) ∙ a.same 0 (omega arith) ∙ first_of (universal 0)

  pub file-rules : rules_of F ≡ rules
  file-rules = rules_is F rules rs first_mark

  start : variables_at F ≡ s
  unfolding s
  start = start_is F rules rs first_mark

  behind : constraints_at F ≡ q
  unfolding constraints_at q s
  behind = omega (arith, start, n_is)

  after : after_constraints F ≡ b
  unfolding after_constraints b q
  after = omega (arith, behind, m_is)

  -- Variable i.
  pub file-domain : (i : ℕ) → i < n → domain_at F (variables_at F) i ≡ domain i
  unfolding domain_at
  file-domain i h = rw start (variable_domain F (s + 4 * i) (universal i) (domain i) (variable i h))

  pub file-universal : (i : ℕ) → i < n → universal_at F (variables_at F) i ≡ universal i
  unfolding universal_at
  file-universal i h = rw start (variable_universal F (s + 4 * i) (universal i) (domain i) (variable i h))

  -- Constraint t: its bytes are its numbers, since those are below 32.
  one_is : (t : ℕ) → t < m → one_at F (q + 36 * t) ≡ one_in x.constraints t
  one_is t h = constraint_one_lem F _ _ _ _ (constraint t h) ∙ omega (arith, (ok.fits t h).ascends, (ok.fits t h).below, ok.counts.most)

  two_is : (t : ℕ) → t < m → two_at F (q + 36 * t) ≡ two_in x.constraints t
  two_is t h = constraint_two_lem F _ _ _ _ (constraint t h) ∙ omega (arith, (ok.fits t h).below, ok.counts.most)

  row_is : (t a : ℕ) → t < m → a < 16 → row_at F (q + 36 * t) a ≡ row_handed x.constraints t a
  row_is t a h l = constraint_row_lem F _ _ _ _ (constraint t h) a l

  -- The pair before it.
  last_is : (t : ℕ) → t < m → last_in x.constraints t ≡ last_pair F q t
  unfolding last_in last_pair pair_in pair_at
  last_is zero h = refl
  last_is (suc t) h = sym (rw (one_is t (omega arith), two_is t (omega arith)))

  constraint_held : (t : ℕ) → t < m → Constraint F (variables_at F) n (last_pair F q t) (q + 36 * t)
  constraint_held t h =
      record {
        within = constraint_long F _ _ _ _ (constraint t h);
        mark = constraint_mark F _ _ _ _ (constraint t h);
        fits =
            fits_same domain (domain_at F (variables_at F)) n _ _ _ _ _ _ (row_handed x.constraints t) (row_at F (q + 36 * t))
            (last_is t h) (sym (one_is t h)) (sym (two_is t h)) (λ k l. sym (file-domain k l)) (λ a l. sym (row_is t a h l)) (ok.fits t h);
      }

  start-low : 5 ≤ b
  unfolding b
  start-low = omega (arith, start_least rules)

  not_zero : (i : ℕ) → i < n → domain i ≡ 0 → ⊥
  not_zero = ok.some

  -- Three-way constraint r: its bytes are its numbers, and it stands behind those before it.
  ternary : (r : ℕ) → r < t → StandsAt F (b + (start_in xs r + 2 * r)) (ternary_in xs r)
  unfolding R
  ternary r h = joined_in F _ b _ t r (ternaries-row xs b t) terns h

  number_is : (r k : ℕ) → r < t → k < size_in xs (start_in xs r) → number_at F (b + (start_in xs r + 2 * r)) k ≡ from xs (start_in xs r) k
  unfolding ternary_in
  number_is r k h l =
      ternary_number F _ _ _ (ternary r h) k l ∙ omega (arith, numbers_low ok r k h l)

  body_is : (r : ℕ) → r < t → body_at F (b + (start_in xs r + 2 * r)) ≡ size_in xs (start_in xs r)
  unfolding body_at size_in
  body_is r h = ap (λ (c : ℕ). 4 + 3 * c) (number_is r 3 h (omega arith))

  place_is : (r : ℕ) → r ≤ t → ternary_at F b r ≡ b + (start_in xs r + 2 * r)
  unfolding ternary_at
  place_is zero h = omega (arith, start_first xs)
  place_is (suc r) h =
      let e = place_is r (omega arith) in
      rw e (omega (arith, body_is r (omega arith), start_next xs r))

  -- So they are those that are counted: as many marks stand in a row, and then `EN`.
  stands_marked : (r : ℕ) → r < t → marked F (ternary_at F b r) TT ≡ true
  unfolding ternary_in
  stands_marked r h = rw (place_is r (omega arith)) (ternary_mark F _ _ _ (ternary r h))

  end_is : ternary_at F b t ≡ b + (length xs + 2 * t)
  end_is = place_is t (le_refl t) ∙ omega (arith, ok.whole)

  not_another : marked F (ternary_at F b t) TT ≡ false
  unfolding mark_bytes
  not_another =
      rw end_is
      (not_first F _ TT
      (λ e.
      let a : get_or F (b + (length xs + 2 * t) + 0) 0 ≡ 69 = end.same 0 (omega arith) in
      let z : b + (length xs + 2 * t) ≡ b + (length xs + 2 * t) + 0 = omega arith in
      let y : get_or F (b + (length xs + 2 * t)) 0 ≡ 69 = rw z a in
      omega arith))

  t_is : t_of F ≡ t
  unfolding t_of
  t_is = rw after (leading_is F b 33 t (leading_all F b 33 t (omega (arith, ok.few)) stands_marked) not_another)

  ending : end_at F ≡ b + (length xs + 2 * t)
  unfolding end_at
  ending = rw (t_is, after) end_is

  -- The three variables before it.
  last_scope_is : (r : ℕ) → r < t → last_scope_in xs r ≡ last_scope F b r
  unfolding last_scope_in last_scope scope_in scope_at size_in
  last_scope_is zero h = refl
  last_scope_is (suc r) h =
      let l : r < t = omega arith in
      sym (rw (place_is r (omega arith), number_is r 0 l (omega arith), number_is r 1 l (omega arith), number_is r 2 l (omega arith)) refl)

  ternary_within : (r : ℕ) → r < t → b + (start_in xs r + 2 * r) + 2 + size_in xs (start_in xs r) ≤ length F
  unfolding ternary_in
  ternary_within r h = ternary_long F _ _ _ (ternary r h)

  ternary_held : (r : ℕ) → r < t → Ternary F (variables_at F) n (last_scope F b r) r (ternary_at F b r)
  unfolding size_in
  ternary_held r h =
      let p = b + (start_in xs r + 2 * r) in
      let e = place_is r (omega arith) in
      record {
        within = rw e (omega (arith, body_is r h, ternary_within r h));
        few = omega (arith, ok.few);
        fits =
            rw e
            (ternary_fits_same domain (domain_at F (variables_at F)) n _ _ (from xs (start_in xs r)) (number_at F p)
            (last_scope_is r h) (λ k l. sym (file-domain k l)) (λ k l. sym (number_is r k h l)) (ok.triples r h));
      }

  -- The file is accepted.
  held : Accepted F
  held =
      record {
        head = record { within = omega (arith, size, start-low); mark = begins; counts = rw (n_is, m_is) ok.counts };
        rules = rules_fit_lem F rules rs first_mark ok.rules-low;
        variable = λ i h.
            rw start
            (variable_held F (s + 4 * i) (universal i) (domain i) (variable i (rw n_is at h)) (not_zero i (rw n_is at h)));
        constraint = λ t h. rw (n_is, behind) (constraint_held t (rw m_is at h));
        ternary = λ r h. rw (n_is, after) (ternary_held r (rw t_is at h));
        size = rw ending size;
        ends = rw ending (mark_is F _ EN end);
      }

  pub file_fine : verdict_of F ≡ Fine
  file_fine = accept F held

  -- The three-way constraints by their numbers.
  pub file_t : t_of F ≡ t
  file_t = t_is

  pub file-body : (r : ℕ) → r < t → body_at F (ternary_at F (after_constraints F) r) ≡ size_in xs (start_in xs r)
  file-body r h = rw (after, place_is r (omega arith)) (body_is r h)

  pub file-number : (r k : ℕ) → r < t → k < size_in xs (start_in xs r) →
      number_at F (ternary_at F (after_constraints F) r) k ≡ from xs (start_in xs r) k
  file-number r k h l = rw (after, place_is r (omega arith)) (number_is r k h l)

  -- The numbers by their places in the file.
  pub file-one : (t : ℕ) → t < m → one_at F (constraints_at F + 36 * t) ≡ one_in x.constraints t
  file-one t h = rw behind (one_is t h)

  pub file-two : (t : ℕ) → t < m → two_at F (constraints_at F + 36 * t) ≡ two_in x.constraints t
  file-two t h = rw behind (two_is t h)

  pub file-row : (t a : ℕ) → t < m → a < 16 → row_at F (constraints_at F + 36 * t) a ≡ row_handed x.constraints t a
  file-row t a h l = rw behind (row_is t a h l)

  pub file_n : n_of F ≡ n
  file_n = n_is

  pub file_m : m_of F ≡ m
  file_m = m_is
