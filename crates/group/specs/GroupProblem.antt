-- The problem of a group, its variables by their new numbers, and its file.
use Rattle.std.specs.Prelude.{ℕ, ◌<◌, List, Option, get_or}
use mathlib.Core.Path.{ap}
use Rattle.mask.proofs.Places.{found_at_place}
use Rattle.game.specs.Problem.{Problem}
use Rattle.game.specs.Lists.{list_of}
use Rattle.theory.proofs.Lists.{length-list_of, list_of-below, list_of-some}
use Rattle.problem_numbers.specs.Numbers.{file_of}
use Rattle.group.specs.Groups.{in_group, new_number, old_number, group_size}

module _ (P : Problem) where
  open P use {n, domain, bounded, nonempty, universal, compatible, symmetric, constrained, apart, free}

  -- A variable of the group is one of the problem.
  pub old_below : (g t : ℕ) → t < group_size P g → old_number P g t < n
  unfolding group_size old_number new_number
  old_below g t h = (found_at_place n (in_group P g) t h).0

  -- "write each .. with its choices renumbered in order": every part speaks of variable t by its old number.
  unfoldable pub group_problem : ℕ → Problem
  group_problem g =
      let old = old_number P g in
      record {
        n = group_size P g;
        domain = list_of (group_size P g) (λ t. get_or domain (old t) 0);
        sized = length-list_of (group_size P g) (λ t. get_or domain (old t) 0);
        bounded = list_of-below (group_size P g) (λ t. get_or domain (old t) 0) 65536 (λ t. bounded (old t));
        nonempty = list_of-some (group_size P g) (λ t. get_or domain (old t) 0) (λ t h. nonempty (old t) (old_below g t h));
        universal = λ t. universal (old t);
        compatible = λ s a t b. compatible (old s) a (old t) b;
        symmetric = λ s a t b. symmetric (old s) a (old t) b;
        constrained = λ s t. constrained (old s) (old t);
        apart = λ s t c e. apart (old s) (old t) c (ap old e);
        free = λ s t c a b. free (old s) (old t) c a b;
      }

  -- Its file, with this rule set or none.
  unfoldable pub group_file : Option ℕ → ℕ → List ℕ
  group_file rules g = file_of (group_problem g) rules
