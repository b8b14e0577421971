-- The problem that an accepted file states: its variables in file order, of each pair what the look-up shows of it, and its three-way constraints.
use Rattle.std.specs.Prelude.{ℕ, ◌≡◌, ◌≤◌, ◌<◌, List}
use Rattle.game.specs.Problem.{Problem}
use Rattle.game.specs.Ternary.{TernaryProblem}
use Rattle.game.specs.Lists.{list_of}
use Rattle.theory.proofs.Lists.{length-list_of, list_of-below, list_of-some}
use Rattle.ternary_theory.specs.Expanded.{expanded}
use Rattle.refusal.specs.Chain.{Fine}
use Rattle.file_reader.specs.Reading.{n_of, domain_of, universal_of, verdict_of}
use Rattle.file_reader.proofs.Accepted.{domain_small, domain-full}
use Rattle.file_constraints.specs.Ternaries.{after_constraints, t_of, ternary_at, ternary_one, ternary_two, ternary_three, ternary_size, ternary_value}
use Rattle.file_constraints.specs.Pairs.{constrained_of, compatible_of}
use Rattle.file_constraints.proofs.PairLaws.{symmetric_of, apart_of, free_of}
use Rattle.file_constraints.proofs.TernaryLaws.{ternaries_stand}

-- Its parts speak of the file; that it is accepted gives the laws.
unfoldable pub problem_of : (f : List ℕ) → verdict_of f ≡ Fine → Problem
problem_of f fine = record {
  n = n_of f;
  domain = list_of (n_of f) (domain_of f);
  sized = length-list_of (n_of f) (domain_of f);
  bounded = list_of-below (n_of f) (domain_of f) 65536 (domain_small f);
  nonempty = list_of-some (n_of f) (domain_of f) (domain-full f fine);
  universal = universal_of f;
  compatible = compatible_of f;
  symmetric = symmetric_of f;
  constrained = constrained_of f;
  apart = apart_of f;
  free = free_of f;
}

-- The problem with its three-way constraints (document 02, card 7), record behind record.
unfoldable pub record_at : List ℕ → ℕ → ℕ
record_at f r = ternary_at f (after_constraints f) r

-- They say so of any problem of the file's variables.
abbrev pub ternary_with : (f : List ℕ) (P : Problem)
    → ((r : ℕ) → r < t_of f → let p = record_at f r in (ternary_one f p < ternary_two f p) × (ternary_two f p < ternary_three f p) × (ternary_three f p < P.n))
    → ((r : ℕ) → r < t_of f → (1 ≤ ternary_size f (record_at f r)) × (ternary_size f (record_at f r) ≤ 16)) → TernaryProblem
ternary_with f P order filled = record {
  binary = P;
  ternary = t_of f;
  one = λ r. ternary_one f (record_at f r);
  two = λ r. ternary_two f (record_at f r);
  three = λ r. ternary_three f (record_at f r);
  size = λ r. ternary_size f (record_at f r);
  first = λ r q. ternary_value f (record_at f r) 0 q;
  second = λ r q. ternary_value f (record_at f r) 1 q;
  third = λ r q. ternary_value f (record_at f r) 2 q;
  order = order;
  filled = filled;
}

unfoldable pub ternary_of : (f : List ℕ) → verdict_of f ≡ Fine → TernaryProblem
unfolding problem_of record_at
ternary_of f fine = ternary_with f (problem_of f fine) (ternaries_stand f fine).order (ternaries_stand f fine).counts

-- The ordinary problem, which the solver is handed: that of the hidden variable encoding.
unfoldable pub ordinary_of : (f : List ℕ) → verdict_of f ≡ Fine → Problem
ordinary_of f fine = expanded (ternary_of f fine)
