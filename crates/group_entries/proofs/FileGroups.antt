-- What the groups of a file are as files: each is accepted, shows the group's numbers, has one group, and has the verdict of the group's
-- problem; so the file is won exactly if all of its groups' files are.
use Prim.Native.Nat.{ℕ, ◌+◌, ◌≤◌, ◌<◌}
use mathlib.Core.Path.{◌≡◌, refl, sym, ap, ap₂, ◌∙◌}
use mathlib.Core.Bool.{Bool, true, ◌&&◌, ◌||◌}
use mathlib.Core.List.{List, [], ◌∷◌, ◌++◌}
use native.Mathlib.Omega.{arith}
use borrow.Author.Tests.{lt-ltb, le-leb}
use Rattle.std.specs.Prelude.{Option}
use lib.ListN.{length, get_or, drop}
use Rattle.mask.specs.Range.{each}
use Rattle.mask.specs.Mask.{bit}
use Rattle.mask.proofs.Range.{each_eq}
use Rattle.mask.proofs.Masks.{mask_of_same}
use Rattle.refusal.specs.Chain.{Fine}
use Rattle.refusal.specs.Told.{replied}
use Rattle.refusal.proofs.Chain.{then_ok, need_ok}
use Rattle.refusal.proofs.RepliedLaws.{reply_told, list_left}
use Rattle.game.specs.Problem.{Problem}
use Rattle.game.specs.Lists.{domains}
use Rattle.game.specs.Winning.{verdict}
use Rattle.game.specs.Ternary.{ternary_verdict}
use Rattle.ternary_theory.specs.Expanded.{compatible_with, domain_own, expanded}
use Rattle.ternary_theory.proofs.Parts.{own_pair, own_joined}
use Rattle.ternary_theory.proofs.Expansion.{expanded_won}
use Rattle.ternary_theory.proofs.NoTernary.{ternary_none}
use Rattle.theory.proofs.Lists.{get_d_list_of}
use Rattle.buffer.specs.Stored.{stored}
use Rattle.buffer.proofs.StoredLaws.{stored-start}
use Rattle.file_reader.specs.Reading.{n_of, t_of, verdict_of, head_of}
use Rattle.file_reader.proofs.Accepted.{accepted}
use Rattle.file_writer.specs.Tests.{rules_fit}
use Rattle.file_round_trip.specs.Shown.{Shown}
use Rattle.file_round_trip.proofs.RoundTrip.{rules_shown}
use Rattle.file_decoder.specs.FileProblem.{problem_of, ternary_of, ordinary_of}
use Rattle.file_decoder.proofs.FileLaws.{ordinary_most}
use Rattle.file_decoder.proofs.ReadLaws.{read_fine}
use Rattle.problem_numbers.specs.Numbers.{tied, row_of, numbers_of}
use Rattle.problem_theory.proofs.FileLaws.{file_accepted, file_shown, file_binary, file_ties, file_same, file_verdict}
use Rattle.buffer.specs.Fitting.{fit_test}
use Rattle.group.specs.Groups.{old_number, group_of, group_size, groups}
use Rattle.group.specs.GroupProblem.{group_problem, group_file}
use Rattle.group_theory.proofs.GroupLaws.{group_full, size_most}
use Rattle.group_theory.proofs.GroupVerdict.{groups_verdict}
use Rattle.group_theory.proofs.OneGroup.{groups_same, group_one}
use Rattle.group_entries.specs.Told.{groups_told, group_test, group_reply, group_buffer, write_group_told, write_group_left}
use Rattle.group_entries.specs.Won.{file_won}
use Rattle.group_entries.proofs.TernaryGroups.{one_group, groups_own}

-- An accepted file is won if its problem is, and so exactly if its ordinary problem is.
won_by : (f : List ℕ) (fine : verdict_of f ≡ Fine) → file_won f ≡ ternary_verdict (ternary_of f fine) []
unfolding file_won
won_by f fine = read_fine f _ _ fine

won_ordinary : (f : List ℕ) (fine : verdict_of f ≡ Fine) → file_won f ≡ verdict (ordinary_of f fine) []
unfolding ordinary_of
won_ordinary f fine = won_by f fine ∙ sym (expanded_won (ternary_of f fine))

-- Without three-way constraints the ordinary problem has the same size and ties as the file's.
module _ (f : List ℕ) (fine : verdict_of f ≡ Fine) (none : t_of f ≡ 0) where
  size_alike : (problem_of f fine).n ≡ (ordinary_of f fine).n
  unfolding ordinary_of expanded ternary_of
  size_alike = omega (arith, none)

  ties_alike : (i j : ℕ) → i < (problem_of f fine).n → j < (problem_of f fine).n → tied (problem_of f fine) i j ≡ tied (ordinary_of f fine) i j
  unfolding tied ordinary_of expanded ternary_of
  ties_alike i j h l =
      let J = ternary_of f fine in
      sym (ap₂ ◌||◌ (own_joined J i j h l) (own_joined J j i l h))

-- Between two variables of the file its rows are those of the file's own problem, so `row_back` speaks of them.
pub own_rows : (f : List ℕ) (fine : verdict_of f ≡ Fine) (i j a : ℕ) → i < n_of f → j < n_of f
    → row_of (ordinary_of f fine) i j a ≡ row_of (problem_of f fine) i j a
unfolding row_of domains ordinary_of expanded ternary_of problem_of
own_rows f fine i j a h l =
    let J = ternary_of f fine in
    let D = (problem_of f fine).domain in
    mask_of_same 16 _ _ λ b k.
    ap₂ (λ (x y : ℕ). bit x a && bit y b && compatible_with J i a j b) (domain_own J i h) (domain_own J j l)
    ∙ ap (λ (c : Bool). bit (get_or D i 0) a && bit (get_or D j 0) b && c) (own_pair J i a j b h l)

module _ (f : List ℕ) (fine : verdict_of f ≡ Fine) where
  -- The file's ordinary problem and its rule set, if there is one.
  abbrev P : Problem
  P = ordinary_of f fine

  abbrev rules : Option ℕ
  rules = (head_of f).rules

  rules_low : rules_fit rules ≡ true
  unfolding head_of
  rules_low = rules_shown f (accepted f fine)

  -- "A table over three choices" joins its three, in whose group its hidden variable is; so there are no more groups than the file's own variables.
  pub ternary_group : (r : ℕ) → r < t_of f → let J = ternary_of f fine in
      (group_of P (J.one r) ≡ group_of P (n_of f + r)) × (group_of P (J.two r) ≡ group_of P (n_of f + r))
      × (group_of P (J.three r) ≡ group_of P (n_of f + r))
  unfolding ordinary_of ternary_of problem_of
  ternary_group r h = one_group (ternary_of f fine) r h

  pub groups_few : groups P ≤ n_of f
  unfolding ordinary_of ternary_of problem_of
  groups_few = groups_own (ternary_of f fine)

  module _ (g : ℕ) (h : g < groups P) where
    abbrev part : Problem
    part = group_problem P g

    abbrev F : List ℕ
    F = group_file P rules g

    some : 0 < part.n
    unfolding group_problem
    some = group_full P g h

    many : part.n ≤ 32
    unfolding group_problem
    many = omega (arith, size_most P g, ordinary_most f fine)

    -- The group's file is accepted, and reading and look-up show the group's numbers.
    pub group_accepted : verdict_of F ≡ Fine
    unfolding group_file
    group_accepted = file_accepted part some many rules rules_low

    pub group_shown : Shown F (numbers_of part rules)
    unfolding group_file
    group_shown = file_shown part some many rules rules_low

    -- It has no three-way constraint: each is a variable with constraints of two.
    binary_only : t_of F ≡ 0
    unfolding group_file
    binary_only = file_binary part some many rules rules_low

    -- It has one group, and so the list of its groups says.
    pub group_alone : (fine : verdict_of F ≡ Fine) → groups (ordinary_of F fine) ≡ 1
    unfolding group_file
    group_alone fine =
        let e = (file_same part some many rules rules_low fine).size in
        sym
        (groups_same part (ordinary_of F fine) (e ∙ size_alike F fine binary_only)
        (λ i j a b. sym (file_ties part some many rules rules_low fine i j a b) ∙ ties_alike F fine binary_only i j (omega arith) (omega arith)))
        ∙ group_one P g h

    pub group_told_alone : groups_told F ≡ replied (1 ∷ [])
    unfolding groups_told
    group_told_alone = read_fine F _ _ group_accepted ∙ ap (λ (k : ℕ). replied (k ∷ [])) (group_alone group_accepted)

    -- Its rows are those of the file's ordinary problem, by old numbers.
    pub group_rows : (s t a : ℕ) → s < part.n → t < part.n → row_of part s t a ≡ row_of P (old_number P g s) (old_number P g t) a
    unfolding row_of group_problem domains
    group_rows s t a l m =
        mask_of_same 16 _ _ λ b k.
        ap₂ (λ (x y : ℕ). bit x a && bit y b && P.compatible (old_number P g s) a (old_number P g t) b)
        (get_d_list_of (group_size P g) (λ t. get_or P.domain (old_number P g t) 0) s l)
        (get_d_list_of (group_size P g) (λ t. get_or P.domain (old_number P g t) 0) t m)

    -- It is won exactly if the group's problem is.
    pub group_won : file_won F ≡ verdict part []
    unfolding group_file ternary_of
    group_won =
        won_by F group_accepted ∙ ternary_none (ternary_of F group_accepted) binary_only []
        ∙ file_verdict part some many rules rules_low group_accepted

    -- Where the buffer is long enough, it is what the entry writes, and bytes behind it stay.
    module _ (buf : List ℕ) (room : length F ≤ length buf) where
      passes : group_test P rules g (length buf) ≡ Fine
      unfolding group_test fit_test
      passes = then_ok _ _ (need_ok _ _ (lt-ltb _ _ h)) (need_ok _ _ (le-leb _ _ room))

      pub group_written : (write_group_told f g (length buf) ≡ replied (length F ∷ [])) × (write_group_left f g buf ≡ F ++ drop (length F) buf)
      unfolding write_group_told write_group_left group_reply group_buffer
      group_written = (
        read_fine f _ _ fine ∙ sym (reply_told (group_test P rules g (length buf)) _ refl passes refl),
        read_fine f _ _ fine ∙ sym (list_left (group_test P rules g (length buf)) (stored buf 0 F) buf refl passes refl) ∙ stored-start F buf room,
      )

  -- "The job is won exactly if each group is."
  pub files_won : file_won f ≡ each (groups P) (λ g. true) (λ g. file_won (group_file P rules g))
  files_won =
      won_ordinary f fine ∙ groups_verdict P
      ∙ each_eq (groups P) (λ g. true) (λ g. verdict (group_problem P g) []) (λ g. file_won (group_file P rules g)) (λ g h. sym (group_won g h))
