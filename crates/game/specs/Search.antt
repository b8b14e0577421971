-- The search: turns under all seven rules, which hand up a winning leaf or a conflict set. The code is proved equal to it.
use Rattle.std.specs.Prelude.{Bool, true, false, cond, not, ◌&&◌, ◌||◌, List, [], ◌∷◌, ◌++◌, ℕ, zero, suc, ◌-◌, ◌^◌, eqb, ltb, get_or, length}
use Rattle.std.specs.Int.Bits.{bit_or}
use Rattle.mask.specs.Range.{some, each, first}
use Rattle.mask.specs.Mask.{bit, mask_of}
use Rattle.game.specs.Problem.{Problem}
use Rattle.game.specs.Game.{Domains, satisfied}
use Rattle.game.specs.Lists.{domains}
use Rattle.game.specs.Position.{play_of}
use Rattle.game.specs.Rule.{uses, ListRule, if_so, and_next}
use Rattle.game.specs.Turn.{first_list, next_list, narrow_pure, narrow_interchangeable}
use Rattle.game.specs.Reasons.{first_reasons, next_reasons, choose, explain_checks, explained}

-- A turn is won with a leaf, the values of all variables; or lost with a conflict set, a mask of variables.
pub data Ending : Type 0 where
  solved : List ℕ → Ending
  failed : ℕ → Ending

abbrev pub is_solved : Ending → Bool
is_solved (solved q) = true
is_solved (failed S) = false

abbrev pub or_else : Ending → (ℕ → Ending) → Ending
or_else (solved q) h = solved q
or_else (failed S) h = h S

abbrev pub and_also : Ending → (List ℕ → Ending) → Ending
and_also (solved q) h = h q
and_also (failed S) h = failed S

-- "A loss found in search carries a set of played choices": of the i played variables those in S, or all of them where rule 6 is not used.
unfoldable pub handed : Bool → ℕ → ℕ → ℕ
handed jump i S = mask_of i (λ j. not jump || bit S j)

unfoldable pub hand_up : Bool → ℕ → Ending → Ending
hand_up jump i (solved q) = solved q
hand_up jump i (failed S) = failed (handed jump i S)

-- The existential turn: v values are left, a is the next of the domain d, J joins the conflict sets so far; f is the turn below.
-- "A shift's choice outside the set of an option's loss tries no further option and is lost with that set."
unfoldable pub some_value : Bool → ℕ → ℕ → (ℕ → Ending) → ℕ → ℕ → ℕ → Ending
some_value jump i d f zero a J = failed J
some_value jump i d f (suc v) a J =
    let rest = some_value jump i d f v (suc a) J in
    let one = or_else (f a) (λ S. let more = some_value jump i d f v (suc a) (bit_or J S) in cond (jump && not (bit S i)) (failed S) more) in
    cond (bit d a) one rest

-- What is left of the untried values u after value a gave a leaf: the later ones that may not be skipped.
unfoldable pub untried : (ℕ → Bool) → ℕ → ℕ → ℕ
untried skips a u = mask_of 16 (λ b. let s = skips b in ltb a b && (bit u b && not s))

-- The universal turn: v values are left, a is the next, u holds the untried ones, q is the last leaf handed up.
unfoldable pub each_value : (List ℕ → ℕ → Bool) → (ℕ → Ending) → ℕ → ℕ → ℕ → List ℕ → Ending
each_value skips f zero a u q = solved q
each_value skips f (suc v) a u q =
    let rest = each_value skips f v (suc a) u q in
    let one = and_also (f a) (λ r. each_value skips f v (suc a) (untried (skips r) a u) r) in
    cond (bit u a) one rest

-- The values that the turn after the plays p tries: all that its list e has at the next variable.
abbrev pub values_of_turn : List ℕ → List ℕ → ℕ
values_of_turn e p = get_or e (length p) 0

module _ (P : Problem) where
  open P use {n, universal, compatible, constrained}

  -- The constraint of x and y is broken in the play p; the two variables of the first broken constraint, ascending by (x, y).
  unfoldable pub broken : List ℕ → ℕ → ℕ → Bool
  broken p x y = ltb x y && not (compatible x (get_or p x 0) y (get_or p y 0))

  unfoldable pub first_broken : List ℕ → ℕ
  first_broken p =
      let x = first n (λ x. some n (λ y. true) (broken p x)) in
      bit_or (2 ^ x) (2 ^ first n (broken p x))

  -- The conflict set of rule 2 where it finds the turn's loss, else nothing.
  unfoldable pub check_set : ℕ → ℕ → List ℕ → List ℕ → List ℕ → ℕ
  check_set S c p l R = let o = choose (uses S 2) (explain_checks P (length p - c) c p) l R in cond o.loss o.set 0

  -- All variables are played: won with the play, or lost where a constraint is broken ("a lost leaf carries the two choices of its first
  -- broken table"), also where a rule found the loss; where that is rule 2, its conflict set U too.
  unfoldable pub leaf : Bool → ℕ → List ℕ → Ending
  leaf loss U p = cond (not loss && satisfied compatible n (play_of p)) (solved p) (failed (bit_or (first_broken p) U))

  -- No constraint is broken by any values of the domains W.
  unfoldable pub solid : Domains → Bool
  solid W = each n (λ i. true) (λ i. each i (λ j. true) (λ j. each 16 (W i) (λ b. each 16 (W j) (λ c. compatible j c i b))))

  -- Value a of variable i "in the leaf's place there, with any options of the later day's choices (masks of the skipping choice's own turn)
  -- in theirs, and all else as in this one leaf" q; l is the list of i's own turn, after its rules.
  unfoldable pub around : List ℕ → ℕ → List ℕ → ℕ → Domains
  around l i q a j b = cond (eqb j i) (eqb b a) (cond (ltb i j && universal j) (domains l j b) (eqb b (get_or q j 0)))

  -- Rule 7's test of value a after the leaf q.
  unfoldable pub skippable : List ℕ → ℕ → List ℕ → ℕ → Bool
  skippable l i q a = solid (around l i q a)

  -- Rules 4 and 5 at variable i.
  unfoldable pub narrow_next : ℕ → ℕ → ListRule
  narrow_next S i = and_next (if_so (uses S 4) (narrow_pure P i)) (if_so (uses S 5) (narrow_interchangeable P i))

  -- What the conflict set of an existential turn starts with: the reason of i and, where rules 4 and 5 narrowed its domain from l to e, those of
  -- its neighbours.
  unfoldable pub start_set : List ℕ → List ℕ → List ℕ → ℕ → ℕ
  start_set R l e i =
      let near = mask_of n (λ j. some n (constrained i) (λ k. bit (get_or R k 0) j)) in
      cond (eqb (get_or e i 0) (get_or l i 0)) (get_or R i 0) (bit_or (get_or R i 0) near)

  -- A turn after the plays p, of which those from c on are not yet checked, with k variables left; its list is l, with the reasons R.
  unfoldable pub search : ℕ → ℕ → ℕ → List ℕ → List ℕ → List ℕ → Ending
  search S c zero p l R = let o = explained P S c p l R in hand_up (uses S 6) (length p) (leaf o.loss (check_set S c p l R) p)
  search S c (suc k) p l R =
      let i = length p in
      let o = explained P S c p l R in
      let e = (narrow_next S i o.list).list in
      let f : ℕ → Ending = λ a. search S i k (p ++ (a ∷ [])) (next_list P e i a) (next_reasons o.why i) in
      let s = some_value (uses S 6) i (values_of_turn e p) f 16 0 (start_set o.why o.list e i) in
      let u = each_value (λ q a. uses S 7 && skippable e i q a) f 16 0 (values_of_turn e p) p in
      hand_up (uses S 6) i (cond o.loss (failed o.set) (cond (universal i) u s))

  -- The search from the plays p, none of them checked yet.
  unfoldable pub search_from : ℕ → List ℕ → Ending
  search_from S p = search S 0 (n - length p) p (first_list P p) (first_reasons n (length p))

  -- The marks of the next variable after the plays p: "A marking searches for each option by itself, its first turn starting from the position
  -- with that option played."
  unfoldable pub marked_values : ℕ → List ℕ → ℕ
  marked_values S p = mask_of 16 (λ a. let s = is_solved (search_from S (p ++ (a ∷ []))) in domains P.domain (length p) a && s)
