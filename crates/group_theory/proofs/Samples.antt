-- Groups of samples, as a separately written program gives them. No two values clash in any of them: a constraint joins its variables all the
-- same.
use mathlib.Core.Path.{◌≡◌, refl}
use mathlib.Core.Bool.{true, ◌&&◌, ◌||◌}
use mathlib.Core.List.{[], ◌∷◌}
use lib.Dec.{eqb}
use Rattle.mask.specs.Mask.{bit}
use Rattle.mask.specs.Range.{count, first}
use Rattle.game.specs.Problem.{Problem}
use Rattle.game.specs.Lists.{list_of}
use Rattle.theory.proofs.Small.{mk_problem}
use Rattle.problem_numbers.specs.Numbers.{tied}
use Rattle.group.specs.Groups.{relabelled, merge, merged_with, merged, labels, smallest, leads, group_of, groups, in_group, new_number, old_number, group_size}

-- Eight variables that hang together by chains in either order.
abbrev chained : Problem
chained =
    mk_problem (bit 178) (160 ∷ 33 ∷ 2049 ∷ 4097 ∷ 8288 ∷ 32897 ∷ 552 ∷ 128 ∷ []) tt
    (λ i j. eqb i 0 && eqb j 6 || eqb i 0 && eqb j 7 || eqb i 1 && eqb j 7 || eqb i 2 && eqb j 4 || eqb i 2 && eqb j 5 || eqb i 3 && eqb j 6 || eqb i 4 && eqb j 6 || eqb i 5 && eqb j 6 || eqb i 5 && eqb j 7)
    (λ i a j b. true)

chained-groups : groups chained ∷ list_of 8 (group_of chained) ≡ 1 ∷ 0 ∷ 0 ∷ 0 ∷ 0 ∷ 0 ∷ 0 ∷ 0 ∷ 0 ∷ []
unfolding count bit list_of tied relabelled merge merged_with merged labels smallest leads group_of groups
chained-groups = refl

-- Seven variables, of which 0 and 2 hang together: six groups, numbered by their smallest variables; the last holds variable 6 alone.
abbrev apart : Problem
apart = mk_problem (bit 123) (256 ∷ 656 ∷ 33 ∷ 49152 ∷ 144 ∷ 8 ∷ 16408 ∷ []) tt (λ i j. eqb i 0 && eqb j 2) (λ i a j b. true)

apart-groups : groups apart ∷ list_of 7 (group_of apart) ≡ 6 ∷ 0 ∷ 1 ∷ 0 ∷ 2 ∷ 3 ∷ 4 ∷ 5 ∷ []
unfolding count bit list_of tied relabelled merge merged_with merged labels smallest leads group_of groups
apart-groups = refl

apart-first : group_size apart 0 ∷ list_of 2 (old_number apart 0) ≡ 2 ∷ 0 ∷ 2 ∷ []
unfolding count first bit list_of tied relabelled merge merged_with merged labels smallest leads group_of groups in_group new_number old_number group_size
apart-first = refl

apart-last : group_size apart 5 ∷ list_of 1 (old_number apart 5) ≡ 1 ∷ 6 ∷ []
unfolding count first bit list_of tied relabelled merge merged_with merged labels smallest leads group_of groups in_group new_number old_number group_size
apart-last = refl
