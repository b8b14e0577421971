-- The problem of an accepted file, read once. In `problem_of` each look-up asks for the file's verdict again; here it is put in, so that
-- small problems compute.
use Prim.Native.Nat.{ℕ}
use mathlib.Core.Path.{◌≡◌}
use mathlib.Core.Bool.{Bool, false, ◌&&◌, ◌||◌}
use mathlib.Core.List.{List}
use lib.Dec.{T}
use Rattle.refusal.specs.Chain.{Verdict, Fine}
use Rattle.file_layout.specs.Layout.{n_of}
use Rattle.file_records.specs.Records.{verdict_of}
use Rattle.file_reader.specs.Reading.{domain_of, universal_of}
use Rattle.file_lookup.specs.Lookup.{look_for, look_up}
use Rattle.file_constraints.specs.Pairs.{found, allows, constrained_of, compatible_of}
use Rattle.game.specs.Problem.{Problem}
use Rattle.game.specs.Lists.{list_of}
use Rattle.game.specs.Ternary.{TernaryProblem}
use Rattle.file_decoder.specs.FileProblem.{problem_of, ternary_with, ternary_of}

module _ (f : List ℕ) where
  -- The parts that go by the verdict v.
  abbrev compatible_by : Verdict → ℕ → ℕ → ℕ → ℕ → Bool
  compatible_by v i a j b = allows (look_for v f i j) f a b && allows (look_for v f j i) f b a

  abbrev constrained_by : Verdict → ℕ → ℕ → Bool
  constrained_by v i j = found (look_for v f i j) || found (look_for v f j i)

  module _ (fine : verdict_of f ≡ Fine) where
    open problem_of f fine use {sized, bounded, nonempty, symmetric, apart, free}

    -- From `problem_of` to the problem with the verdict put in, the laws carried along.
    unfoldable pub on_the_way : 𝕀 → Problem
    unfolding problem_of look_up compatible_of constrained_of
    on_the_way i = record {
      n = n_of f;
      domain = list_of (n_of f) (domain_of f);
      sized = sized;
      bounded = bounded;
      nonempty = nonempty;
      universal = universal_of f;
      compatible = compatible_by (fine i);
      symmetric = coe 0 i (k. (x a y b : ℕ) → compatible_by (fine k) x a y b ≡ compatible_by (fine k) y b x a) symmetric;
      constrained = constrained_by (fine i);
      apart = coe 0 i (k. (x y : ℕ) → T (constrained_by (fine k) x y) → ¬ (x ≡ y)) apart;
      free = coe 0 i (k. (x y : ℕ) → constrained_by (fine k) x y ≡ false → (a b : ℕ) → T (compatible_by (fine k) x a y b)) free;
    }

    -- The same of the problem with its three-way constraints.
    open ternary_of f fine use {order, filled}

    unfoldable pub all_the_way : 𝕀 → TernaryProblem
    unfolding ternary_of problem_of on_the_way
    all_the_way i = ternary_with f (on_the_way i) order filled

    unfoldable pub read_once : TernaryProblem
    read_once = all_the_way 1

    pub once_is : ternary_of f fine ≡ read_once
    unfolding problem_of ternary_of look_up compatible_of constrained_of on_the_way all_the_way read_once
    once_is = λ i. all_the_way i
