-- The problem of an accepted file: its size and its domains are those of the reading; with its hidden variables it has 1 to 32 variables.
use Prim.Native.Nat.{ℕ, ◌+◌, ◌≤◌, ◌<◌}
use mathlib.Core.Path.{◌≡◌, refl, sym, ◌∙◌}
use mathlib.Core.List.{List}
use lib.ListN.{get_or, take}
use lib.Seq.{length-take-le, get_or-take, ext_get_or}
use native.Mathlib.Omega.{arith}
use Rattle.game.specs.Lists.{list_of}
use Rattle.theory.proofs.Lists.{length-list_of, get_d_list_of}
use Rattle.refusal.specs.Chain.{Fine}
use Rattle.ternary_theory.specs.Expanded.{expanded}
use Rattle.file_reader.specs.Reading.{n_of, domain_of, domains_of, verdict_of}
use Rattle.file_reader.proofs.Accepted.{variables-some, variables_most, variables_and_ternaries, domains-length, domain_read}
use Rattle.file_decoder.specs.FileProblem.{problem_of, ternary_of, ordinary_of}

module _ (f : List ℕ) (fine : verdict_of f ≡ Fine) where
  pub problem_size : (problem_of f fine).n ≡ n_of f
  unfolding problem_of
  problem_size = refl

  pub ternary_most : (ternary_of f fine).binary.n + (ternary_of f fine).ternary ≤ 32
  unfolding ternary_of problem_of
  ternary_most = variables_and_ternaries f fine

  pub ordinary-some : 0 < (ordinary_of f fine).n
  unfolding ordinary_of expanded ternary_of problem_of
  ordinary-some = omega (arith, variables-some f fine)

  pub ordinary_most : (ordinary_of f fine).n ≤ 32
  unfolding ordinary_of expanded
  ordinary_most = ternary_most

  pub problem_domains : ((k : ℕ) → get_or f k 0 < 256) → (problem_of f fine).domain ≡ take (n_of f) (domains_of f)
  unfolding problem_of
  problem_domains bytes =
      let size = length-list_of (n_of f) (domain_of f) in
      ext_get_or 0 (list_of (n_of f) (domain_of f)) (take (n_of f) (domains_of f))
      (size ∙ sym (length-take-le (n_of f) (domains_of f) (omega (arith, variables_most f fine, domains-length f fine))))
      λ i h.
      let g : i < n_of f = omega arith in
      get_d_list_of (n_of f) (domain_of f) i g ∙ sym (get_or-take (n_of f) (domains_of f) i 0 g ∙ domain_read f bytes fine i g)
