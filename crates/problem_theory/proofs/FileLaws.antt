-- The file of a problem is accepted, shows the problem's numbers, and states a problem whose game is the same.
use mathlib.Core.Path.{◌≡◌, refl, sym, ap, ap₂, subst, ◌∙◌}
use mathlib.Core.Bool.{true, ◌&&◌}
use mathlib.Core.List.{List, []}
use Prim.Native.Nat.{ℕ, ◌+◌, ◌*◌, ◌/◌, ◌%◌, ◌≤◌, ◌<◌}
use native.Mathlib.Nat.{le_refl}
use native.Mathlib.Omega.{arith}
use lib.Dec.{T, leb}
use lib.ListN.{length, get_or, take, drop}
use lib.Seq.{ext_get_or, take_at}
use Rattle.std.specs.Prelude.{Option}
use Rattle.mask.specs.Range.{count}
use Rattle.mask.specs.Mask.{bit}
use Rattle.mask.proofs.Logic.{same, holds, true_holds, test, by_lt, and_in, and_out, or_left, or_out, or_out_false}
use Rattle.mask.proofs.Range.{each_in}
use Rattle.mask.proofs.Masks.{mask_of_lt, bit-mask_of}
use Rattle.mask.proofs.Places.{place-below}
use Rattle.refusal.specs.declared.reason.Reason.TheVariants.{Room}
use Rattle.refusal.specs.Chain.{Fine, need}
use Rattle.refusal.proofs.Chain.{then_fine, go}
use Rattle.file_layout.specs.Layout.{n_of, m_of}
use Rattle.file_layout.specs.Numbers.{in_order, row_fits}
use Rattle.file_layout.proofs.NumberLaws.{order_in}
use Rattle.file_records.specs.Records.{verdict_of}
use Rattle.file_reader.specs.Reading.{t_of, head_of, domain_of, universal_of}
use Rattle.file_bytes.specs.Bytes.{start_in, records_from, count_in, Handed, Sized, domain_in}
use Rattle.file_bytes.proofs.RecordLaws.{length_bytes}
use Rattle.file_writer.specs.Tests.{rules_fit, write_test, rest_test, pair_in}
use Rattle.file_writer.proofs.Writable.{Writable, FitsIn, write_fine, told_fine, buffer_fine}
use Rattle.file_round_trip.specs.Shown.{Shown}
use Rattle.file_round_trip.proofs.Written.{file_fine, file_n, file_m, file_t, file-rules, file-domain, file-universal, file-one, file-two, file-row}
use Rattle.file_round_trip.proofs.RoundTrip.{read_back}
use Rattle.file_constraints.specs.Constraints.{constraints_at, constraint_one, constraint_two, constraint_row}
use Rattle.file_constraints.specs.Pairs.{constrained_of, compatible_of}
use Rattle.file_constraints.proofs.PairLaws.{Has, constrained_out, constrained_on, constrained_back, compatible_on, free_of, symmetric_of}
use Rattle.file_decoder.specs.FileProblem.{problem_of}
use Rattle.game.specs.Problem.{Problem}
use Rattle.game.specs.Lists.{domains, list_of}
use Rattle.game.specs.Winning.{verdict}
use Rattle.theory.specs.SameGame.{SameGame}
use Rattle.theory.proofs.SameGame.{same_verdict}
use Rattle.theory.proofs.Standing.{legal_none}
use Rattle.theory.proofs.Lists.{length-list_of, get_d_list_of, file_masks, domains_boxed}
use Rattle.problem_numbers.specs.Numbers.{tied, row_of, is_pair, constraints_of, constraint_count, numbers_of, file_of}
use Rattle.problem_numbers.proofs.TieLaws.{tied_back}
use Rattle.problem_theory.proofs.PairCount.{pairs_most}
use Rattle.problem_theory.proofs.Listing.{Listing, ListedAs, pair_order, constraints_listed, constraints-length}

-- ---- pairs and rows

module _ (P : Problem) where
  open P use {n, domain, universal, compatible}

  -- A variable is not tied with itself.
  tied_apart : (i j : ℕ) → T (tied P i j) → ¬ (i ≡ j)
  unfolding tied
  tied_apart i j t e = or_out (P.constrained i j) (P.constrained j i) t (λ s. P.apart i j s e) (λ s. P.apart j i s (sym e))

  -- Two variables that are tied are the pair of a constraint.
  pub pair_tied : (i j : ℕ) → i < j → j < n → n ≤ 32 → T (tied P i j) → T (is_pair P (32 * i + j))
  unfolding is_pair
  pair_tied i j h l most t =
      let a : (32 * i + j) / 32 ≡ i = omega arith in
      let b : (32 * i + j) % 32 ≡ j = omega arith in
      rw (a, b) (and_in (in_order i j n) (tied P i j) (true_holds (order_in i j n h l)) t)

  -- What a row says of two values.
  row_bit : (i j a b : ℕ) → b < 16 → bit (row_of P i j a) b ≡ (domains domain i a && domains domain j b && compatible i a j b)
  unfolding row_of
  row_bit i j a b l = bit-mask_of 16 (λ b. domains domain i a && domains domain j b && compatible i a j b) b l

  row_fits_domains : (i j a : ℕ) → T (row_fits (domain_in domain i) (domain_in domain j) a (row_of P i j a))
  unfolding row_fits domains
  row_fits_domains i j a =
      each_in 16 (bit (row_of P i j a)) (λ b. bit (domain_in domain i) a && bit (domain_in domain j) b) λ b l t.
      (and_out (bit (domain_in domain i) a && bit (domain_in domain j) b) (compatible i a j b) (rw (row_bit i j a b l) at t)).0

  -- Of two values of the domains.
  row_compatible : (i j a b : ℕ) → b < 16 → T (domains domain i a) → T (domains domain j b) → bit (row_of P i j a) b ≡ compatible i a j b
  row_compatible i j a b l s t = row_bit i j a b l ∙ rw (holds s, holds t) refl

-- ---- the file

module _ (P : Problem) (some : 0 < P.n) (most : P.n ≤ 32) (rules : Option ℕ) (low : rules_fit rules ≡ true) where
  open P use {n, domain, universal, compatible}

  -- The constraints, the numbers, the file.
  abbrev cs : List ℕ
  cs = constraints_of P

  abbrev H : Handed
  H = numbers_of P rules

  abbrev F : List ℕ
  F = file_of P rules

  listed : Listing P (32 * n)
  listed = constraints_listed P

  -- Each constraint fits behind the one before it.
  fits_handed : (t : ℕ) → t < constraint_count P → FitsIn (domain_in domain) n cs t
  unfolding constraints_of constraint_count pair_in
  fits_handed t h =
      let r = listed.from t h in
      let o = pair_order P r.0 r.2.pair in
      record {
        ascends = omega (arith, r.2.one, r.2.two, o.0);
        below = omega (arith, r.2.two, o.1);
        above = listed.above t h;
        rows = λ a l. rw (r.2.one, r.2.two, r.2.rows a l) (row_fits_domains P (r.0 / 32) (r.0 % 32) a);
      }

  -- There are no three-way constraints.
  no_ternary : count_in H.ternaries ≡ 0
  unfolding numbers_of count_in records_from
  no_ternary = refl

  none_stands : start_in H.ternaries (count_in H.ternaries) ≡ length H.ternaries
  unfolding numbers_of start_in count_in records_from
  none_stands = refl

  sized_handed : Sized H
  unfolding numbers_of constraint_count
  sized_handed = record { masks = omega (arith, P.sized); rows = omega (arith, constraints-length P); whole = none_stands }

  -- The writer takes the numbers.
  pub numbers_fit : (room : ℕ) → length F ≤ room → Writable H room
  unfolding numbers_of file_of constraint_count
  numbers_fit room h =
      record {
        counts = record { some = some; most = most; pairs = pairs_most n (is_pair P) most (λ x t. let o = pair_order P x t in true_holds (order_in (x / 32) (x % 32) n o.0 o.1)) };
        domains_long = P.sized;
        constraints_long = constraints-length P;
        rules-low = low;
        bits = mask_of_lt n universal;
        some = P.nonempty;
        fits = fits_handed;
        whole = none_stands;
        few = omega (arith, no_ternary, most);
        triples = λ q g. absurd (omega (arith, no_ternary));
        wide = omega (arith, h, length_bytes H sized_handed);
      }

  fits_whole : Writable H (length F)
  fits_whole = numbers_fit (length F) (le_refl (length F))

  write_whole : write_test H (length F) ≡ Fine
  write_whole = write_fine H (length F) fits_whole

  -- Nothing but 12 is left for the writer to refuse.
  pub write_only_room : (room : ℕ) → write_test H room ≡ need (leb (length F) room) Room
  unfolding write_test rest_test file_of
  write_only_room room =
      let a = then_fine _ _ write_whole in
      let b = then_fine _ _ a.1 in
      let r = then_fine _ _ b.1 in
      let u = then_fine _ _ r.1 in
      let d = then_fine _ _ u.1 in
      let c = then_fine _ _ d.1 in
      let t = then_fine _ _ c.1 in
      go _ _ a.0 ∙ go _ _ b.0 ∙ go _ _ r.0 ∙ go _ _ u.0 ∙ go _ _ d.0 ∙ go _ _ c.0 ∙ go _ _ t.0
      ∙ ap (λ k. need (leb k room) Room) (sym (length_bytes H sized_handed))

  -- The file is accepted.
  pub file_accepted : verdict_of F ≡ Fine
  unfolding file_of
  file_accepted = file_fine H (length F) fits_whole

  -- Reading and look-up show the problem's numbers.
  pub file_shown : Shown F H
  unfolding file_of
  file_shown =
      subst (λ (f : List ℕ). Shown f H)
      (ap (take (length F)) (buffer_fine H F write_whole) ∙ take_at F (drop (length F) F) (length F) refl)
      (read_back H F (length F) (told_fine H F write_whole))

  -- It has no three-way constraint.
  pub file_binary : t_of F ≡ 0
  unfolding file_of
  file_binary = file_t H (length F) fits_whole ∙ no_ternary

  -- The rule set comes back.
  pub file_rules : (head_of F).rules ≡ rules
  unfolding file_of head_of numbers_of
  file_rules = file-rules H (length F) fits_whole

  -- ---- its constraints

  -- Constraint t of the file is of the pair (i, j).
  record Holds (i j t : ℕ) : Type 0 where
    less : t < m_of F
    one : constraint_one F (constraints_at F) t ≡ i
    two : constraint_two F (constraints_at F) t ≡ j
    rows : (a : ℕ) → a < 16 → constraint_row F (constraints_at F) t a ≡ row_of P i j a

  count_file : m_of F ≡ constraint_count P
  unfolding file_of numbers_of
  count_file = file_m H (length F) fits_whole

  -- What the list holds the file holds.
  holds_listed : (t y : ℕ) → t < constraint_count P → ListedAs P cs t y → Holds (y / 32) (y % 32) t
  unfolding file_of numbers_of constraint_one constraint_two constraint_row
  holds_listed t y h l =
      record {
        less = omega (arith, count_file);
        one = file-one H (length F) fits_whole t h ∙ l.one;
        two = file-two H (length F) fits_whole t h ∙ l.two;
        rows = λ a k. file-row H (length F) fits_whole t a h k ∙ l.rows a k;
      }

  -- Every constraint of the file is of a pair of the problem.
  has_tied : (i j : ℕ) → Has F i j → T (tied P i j)
  unfolding constraint_count constraints_of
  has_tied i j c =
      let h : c.t < constraint_count P = omega (arith, c.less, count_file) in
      let r = listed.from c.t h in
      let k = holds_listed c.t r.0 h r.2 in
      let u : r.0 / 32 ≡ i = sym k.one ∙ c.one in
      let v : r.0 % 32 ≡ j = sym k.two ∙ c.two in
      rw (← u, ← v) (pair_order P r.0 r.2.pair).2

  -- Every pair of the problem has its constraint.
  tied_holds : (i j : ℕ) → i < j → j < n → T (tied P i j) → (t : ℕ) × Holds i j t
  unfolding constraint_count constraints_of
  tied_holds i j h l t =
      let x = 32 * i + j in
      let s = pair_tied P i j h l most t in
      let k = listed.listed x (omega arith) s in
      let a : x / 32 ≡ i = omega arith in
      let b : x % 32 ≡ j = omega arith in
      let c = holds_listed (count x (is_pair P)) x (place-below (32 * n) (is_pair P) x (omega arith) s) k in
      (count x (is_pair P), rw (a, b) at c)

  module _ (fine : verdict_of F ≡ Fine) where
    abbrev Q : Problem
    Q = problem_of F fine

    -- A constraint of the file joins exactly the variables that one of the problem does.
    joined_tied : (i j : ℕ) → T (constrained_of F i j) → T (tied P i j)
    joined_tied i j t = constrained_out F fine i j t (has_tied i j) (λ c. rw (tied_back P i j) (has_tied j i c))

    tied_joined : (i j : ℕ) → i < n → j < n → T (tied P i j) → T (constrained_of F i j)
    tied_joined i j h l t =
        by_lt i j
        (λ g. let r = tied_holds i j g l t in constrained_on F fine i j r.0 r.1.less r.1.one r.1.two)
        (λ g. let r = tied_holds j i (let z = tied_apart P i j t in omega arith) h (rw (← (tied_back P i j)) t) in constrained_back F fine i j r.0 r.1.less r.1.one r.1.two)

    -- The same pairs are tied.
    pub file_ties : (i j : ℕ) → i < n → j < n → tied Q i j ≡ tied P i j
    unfolding tied problem_of
    file_ties i j h l =
        same (tied Q i j) (tied P i j)
        (λ t. or_out (constrained_of F i j) (constrained_of F j i) t (joined_tied i j) (λ s. rw (tied_back P i j) (joined_tied j i s)))
        (λ t. or_left (constrained_of F i j) (constrained_of F j i) (tied_joined i j h l t))

    -- The rows of its constraint say which values of a pair go together.
    row_read : (i j a b : ℕ) → i < j → j < n → a < 16 → b < 16 → T (domains domain i a) → T (domains domain j b) → T (tied P i j)
        → compatible_of F i a j b ≡ compatible i a j b
    row_read i j a b h l u v s t g =
        let r = tied_holds i j h l g in
        ap₂ (λ i j. compatible_of F i a j b) (sym r.1.one) (sym r.1.two) ∙ compatible_on F fine r.0 a b r.1.less u
        ∙ ap (λ w. bit w b) (r.1.rows a u) ∙ row_compatible P i j a b v s t

    -- The same values of two variables go together.
    compatible_read : (i a j b : ℕ) → i < n → j < n → T (domains domain i a) → T (domains domain j b) → compatible i a j b ≡ compatible_of F i a j b
    unfolding tied problem_of
    compatible_read i a j b h l s t =
        let u = (domains_boxed n domain (file_masks P) i a s).1 in
        let v = (domains_boxed n domain (file_masks P) j b t).1 in
        test (tied P i j)
        (λ g. by_lt i j
        (λ o. sym (row_read i j a b o l u v s t g))
        (λ o. P.symmetric i a j b ∙ sym (row_read j i b a (let z = tied_apart P i j g in omega arith) h v u t s (rw (← (tied_back P i j)) g)) ∙ symmetric_of F j b i a))
        (λ e.
        holds (P.free i j (or_out_false (P.constrained i j) (P.constrained j i) e).0 a b)
        ∙ sym (holds (free_of F i j (or_out_false (constrained_of F i j) (constrained_of F j i) (file_ties i j h l ∙ e)).0 a b)))

    -- The variables are the problem's.
    domain_read : (i : ℕ) → i < n → get_or domain i 0 ≡ domain_of F i
    unfolding domain_of file_of numbers_of
    domain_read i h = omega (arith, file-domain H (length F) fits_whole i h, P.bounded i)

    size_read : n ≡ n_of F
    unfolding file_of numbers_of
    size_read = sym (file_n H (length F) fits_whole)

    side_read : (i : ℕ) → i < n → universal i ≡ universal_of F i
    unfolding universal_of file_of numbers_of
    side_read i h = sym (file-universal H (length F) fits_whole i h ∙ bit-mask_of n universal i h)

    domains_read : domain ≡ list_of (n_of F) (domain_of F)
    domains_read =
        let k = P.sized in
        ext_get_or 0 domain (list_of (n_of F) (domain_of F)) (k ∙ size_read ∙ sym (length-list_of (n_of F) (domain_of F)))
        λ i h. domain_read i (omega arith) ∙ sym (get_d_list_of (n_of F) (domain_of F) i (omega (arith, size_read)))

    -- The game is the same, and so is the verdict.
    pub file_same : SameGame P Q
    unfolding problem_of
    file_same = record { size = size_read; side = side_read; domain = domains_read; compatible = λ i a j b l h. compatible_read i a j b (omega arith) h }

    pub file_verdict : verdict Q [] ≡ verdict P []
    file_verdict = sym (same_verdict P Q file_same [] (legal_none P))
