-- A file without three-way constraints is the file of the problem that it states.
use mathlib.Core.Path.{◌≡◌, refl, sym, ap₂, subst, ◌∙◌}
use mathlib.Core.Bool.{◌&&◌}
use mathlib.Core.List.{List}
use Prim.Native.Nat.{ℕ, ◌+◌, ◌*◌, ◌/◌, ◌%◌, ◌≤◌, ◌<◌}
use native.Mathlib.Omega.{arith}
use lib.Dec.{T}
use lib.ListN.{get_or}
use Rattle.mask.specs.Mask.{bit, mask_of}
use Rattle.mask.proofs.Logic.{same, and_in, and_out, or_left, or_out}
use Rattle.mask.proofs.Places.{place_is, all_pass}
use Rattle.mask.proofs.Masks.{bit-mask_of, mask_of_same, mask_of_bits}
use Rattle.refusal.specs.Chain.{Fine}
use Rattle.file_layout.specs.Layout.{word, n_of, m_of, variables_at, row_at}
use Rattle.file_layout.specs.Numbers.{pair_of}
use Rattle.file_records.specs.Records.{verdict_of}
use Rattle.file_reader.specs.Reading.{t_of, head_of, domain_of, universal_of, domains_of}
use Rattle.file_reader.proofs.Accepted.{accepted, variables_most, read_domain, domain_read}
use Rattle.file_bytes.specs.Bytes.{records_from, count_in, variable_bytes, constraint_bytes, domain_in, one_in, two_in, row_handed}
use Rattle.file_lookup.specs.Part.{part}
use Rattle.file_round_trip.proofs.Parts.{variable_part, constraint_part, bytes_part}
use Rattle.file_constraints.specs.Constraints.{constraints_at, constraint_one, constraint_two, constraint_row}
use Rattle.file_constraints.specs.Pairs.{constrained_of, compatible_of}
use Rattle.file_constraints.proofs.ConstraintLaws.{constraints_stand, constraint_below, constraint_inside}
use Rattle.file_constraints.proofs.PairLaws.{Has, constrained_out, constrained_on, compatible_on}
use Rattle.file_decoder.specs.FileProblem.{problem_of}
use Rattle.game.specs.Problem.{Problem}
use Rattle.game.specs.Lists.{domains, list_of}
use Rattle.theory.proofs.Lists.{get_d_list_of}
use Rattle.problem_numbers.specs.Numbers.{tied, row_of, is_pair, constraints_of, constraint_count, numbers_of, file_of}
use Rattle.problem_theory.proofs.Listing.{ListedAs, pair_order, constraints_listed}
use Rattle.problem_theory.proofs.FileLaws.{pair_tied}

module _ (f : List ℕ) (bytes : (k : ℕ) → get_or f k 0 < 256) (fine : verdict_of f ≡ Fine) where
  abbrev Q : Problem
  Q = problem_of f fine

  abbrev one : ℕ → ℕ
  one t = constraint_one f (constraints_at f) t

  abbrev two : ℕ → ℕ
  two t = constraint_two f (constraints_at f) t

  abbrev pair : ℕ → ℕ
  pair t = pair_of (one t) (two t)

  order : (t : ℕ) → t < m_of f → (one t < two t) × (two t < n_of f) × (n_of f ≤ 32)
  order t h = (((constraints_stand f fine).order t h).0, constraint_below f fine t h, variables_most f fine)

  -- The pairs that are tied are those of the constraints.
  pair_listed : (t : ℕ) → t < m_of f → T (is_pair Q (pair t))
  unfolding tied problem_of pair_of
  pair_listed t h =
      let o = order t h in
      pair_tied Q (one t) (two t) o.0 o.1 o.2
      (or_left (constrained_of f (one t) (two t)) (constrained_of f (two t) (one t)) (constrained_on f fine (one t) (two t) t h refl refl))

  has_pair : (z : ℕ) → T (is_pair Q z) → Has f (z / 32) (z % 32)
  unfolding tied problem_of
  has_pair z t =
      let o = pair_order Q z t in
      let i = z / 32 in
      let j = z % 32 in
      or_out (constrained_of f i j) (constrained_of f j i) o.2
      (λ s. constrained_out f fine i j s (λ c. c) (λ c. let d = order c.t c.less in absurd (omega (arith, c.one, c.two, o.0, d.0))))
      (λ s. constrained_out f fine j i s (λ c. let d = order c.t c.less in absurd (omega (arith, c.one, c.two, o.0, d.0))) (λ c. c))

  pair_only : (z : ℕ) → T (is_pair Q z) → (t : ℕ) × (t < m_of f) × (pair t ≡ z)
  unfolding pair_of
  pair_only z t = let c = has_pair z t in (c.t, c.less, omega (arith, c.one, c.two))

  pair_low : (t : ℕ) → t < m_of f → pair t < 32 * n_of f
  unfolding pair_of
  pair_low t h = let o = order t h in omega (arith, o.0, o.1, o.2)

  -- Constraint t of the problem is constraint t of the file.
  counted : constraint_count Q ≡ m_of f
  unfolding constraint_count problem_of pair_of
  counted = all_pass (is_pair Q) pair (m_of f) (constraints_stand f fine).ascends pair_listed pair_only (32 * n_of f) pair_low

  listed_lem : (t : ℕ) → t < m_of f → ListedAs Q (constraints_of Q) t (pair t)
  unfolding constraints_of problem_of pair_of
  listed_lem t h =
      subst (λ (k : ℕ). ListedAs Q (constraints_of Q) k (pair t)) (place_is (is_pair Q) pair (m_of f) (constraints_stand f fine).ascends pair_listed pair_only t h)
      ((constraints_listed Q).listed (pair t) (pair_low t h) (pair_listed t h))

  -- The variables.
  domain_back : (i : ℕ) → i < n_of f → get_or (list_of (n_of f) (domain_of f)) i 0 ≡ get_or (domains_of f) i 0
  domain_back i h = get_d_list_of (n_of f) (domain_of f) i h ∙ sym (domain_read f bytes fine i h)

  -- A row has 16 bits.
  row_low : (t a : ℕ) → constraint_row f (constraints_at f) t a < 65536
  unfolding constraint_row row_at word
  row_low t a = let p = constraints_at f + 36 * t + 4 + 2 * a in omega (arith, bytes p, bytes (p + 1))

  -- A row of the problem that a file states is the file's own: "bits for options outside either mask are clear", so the domains cut nothing off.
  pub row_back : (t a : ℕ) → t < m_of f → a < 16 → row_of Q (one t) (two t) a ≡ constraint_row f (constraints_at f) t a
  unfolding row_of problem_of domains
  row_back t a h l =
      let r = constraint_row f (constraints_at f) t a in
      let o = order t h in
      let D = list_of (n_of f) (domain_of f) in
      mask_of_same 16 (λ b. domains D (one t) a && domains D (two t) b && compatible_of f (one t) a (two t) b) (bit r)
      (λ b g.
      same (domains D (one t) a && domains D (two t) b && compatible_of f (one t) a (two t) b) (bit r b)
      (λ s. rw (← (compatible_on f fine t a b h l)) (and_out (domains D (one t) a && domains D (two t) b) (compatible_of f (one t) a (two t) b) s).1)
      (λ s.
      let w = constraint_inside f fine t a b h l g s in
      and_in (domains D (one t) a && domains D (two t) b) (compatible_of f (one t) a (two t) b)
      (and_in (domains D (one t) a) (domains D (two t) b) (rw (domain_back (one t) (omega arith)) w.0) (rw (domain_back (two t) o.1) w.1))
      (rw (compatible_on f fine t a b h l) s)))
      ∙ sym (mask_of_bits 16 r (row_low t a))

  -- The records.
  variable_back : (i : ℕ) → i < n_of f → variable_bytes (bit (mask_of (n_of f) (universal_of f)) i) (domain_in (list_of (n_of f) (domain_of f)) i) ≡ part f (variables_at f + 4 * i) 4
  unfolding universal_of
  variable_back i h =
      rw (bit-mask_of (n_of f) (universal_of f) i h, domain_back i h, read_domain f fine i h)
      (variable_part f bytes (variables_at f) i ((accepted f fine).variable i h))

  constraint_back : (t : ℕ) → t < m_of f
      → constraint_bytes (one_in (constraints_of Q) t) (two_in (constraints_of Q) t) (row_handed (constraints_of Q) t) ≡ part f (constraints_at f + 36 * t) 36
  unfolding constraint_one constraint_two constraint_row pair_of
  constraint_back t h =
      let c = (accepted f fine).constraint t h in
      let l = listed_lem t h in
      let o = order t h in
      let u : pair t / 32 ≡ one t = omega arith in
      let v : pair t % 32 ≡ two t = omega arith in
      constraint_part f bytes (constraints_at f + 36 * t) _ _ _ c.within c.mark (l.one ∙ u) (l.two ∙ v)
      (λ a k. l.rows a k ∙ ap₂ (λ i j. row_of Q i j a) u v ∙ row_back t a h k)

  -- All of them are the file, where it has no three-way constraint.
  pub file_back : t_of f ≡ 0 → file_of Q (head_of f).rules ≡ f
  unfolding file_of numbers_of problem_of head_of count_in records_from
  file_back none =
      bytes_part f bytes (accepted f fine) (numbers_of Q (head_of f).rules) refl counted refl (sym none) variable_back constraint_back
      (λ q h. absurd (omega (arith, none)))
