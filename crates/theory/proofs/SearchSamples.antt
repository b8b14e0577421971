-- The search computed: the problem on which leaner reasons break rule 6's law, G6 under rule 7, and each theorem of the search at a small problem.
use mathlib.Core.Path.{◌≡◌, refl, sym}
use mathlib.Core.Bool.{Bool, true, false, cond, not, ◌&&◌, ◌||◌}
use mathlib.Core.List.{List, [], ◌∷◌, ◌++◌}
use mathlib.Core.Logic.{◌⊎◌}
use Prim.Native.Nat.{ℕ, zero, suc, ◌+◌, ◌-◌, ◌*◌, ◌^◌, ◌<◌}
use native.Mathlib.Omega.{arith}
use lib.Dec.{T, eqb}
use lib.Bits.{bit_or}
use lib.ListN.{get_or, length, set}
use Rattle.mask.specs.Range.{some, each}
use Rattle.mask.specs.Range as Range
use Rattle.mask.specs.Mask.{bit, mask_of}
use Rattle.mask.proofs.Logic.{clash}
use Rattle.game.specs.Problem.{Problem}
use Rattle.game.specs.Game.{put, turn, satisfied, won, wins}
use Rattle.game.specs.Lists.{domains, list_of, masks_of, narrow_to, within, may_lend, wins_over}
use Rattle.game.specs.Position.{play_of, legal, narrowed, position}
use Rattle.game.specs.Winning.{verdict, winning_values}
use Rattle.game.specs.Support.{clashes, alone, empty}
use Rattle.game.specs.Rule.{uses, unruled, if_so, and_next}
use Rattle.game.specs.Arc.{dead, barred, arc_loss, sweep, swept, arc}
use Rattle.game.specs.Forward.{forward_domains, forward_loss, forward, forward_named}
use Rattle.game.specs.LookAhead.{ahead_loss, look_ahead, ahead_named}
use Rattle.game.specs.Pure.{lowest, is_pure, purged, purge}
use Rattle.game.specs.Interchangeable.{interchange, representatives, interchangeable, represent}
use Rattle.game.specs.Turn.{first_list, next_list, checks, checks_named, turn_named, ahead, narrow_pure, narrow_interchangeable, next_rules, reached}
use Rattle.game.specs.Reasons.{first_reasons, next_reasons, idle, chain, choose, loop, Sheet, neighbours, forward_conflict, forward_reasons, explain_forward, explain_checks, kills, cause, surviving, revise, pass, same_domains, passes, revisions, emptied, against, arc_conflict, explain_arc, explain_ahead, explained}
use Rattle.game.specs.Search.{Ending, solved, failed, is_solved, handed, hand_up, some_value, untried, each_value, broken, first_broken, check_set, leaf, solid, around, skippable, narrow_next, start_set, search, search_from, marked_values}
use Rattle.game.specs.Turns.{TurnOf, first, below}
use Rattle.game.specs.Skipping.{skipping_turn}
use Rattle.theory.specs.OtherSets.{Others}
use Rattle.theory.specs.AnyOrder.{Formed, none}
use Rattle.theory.specs.TurnList.{AtTurn}
use Rattle.theory.proofs.Theorems
use Rattle.theory.proofs.Small.{mk_problem, ok_bounded}
use Rattle.theory.proofs.Samples.{G1, G6}
use Rattle.theory.proofs.Revisions.{revisions_are}

-- WHAT COMPUTES HERE, by layers. To unfold one of these names is to unfold all that its line names, so `unfolding searching` opens every definition
-- of crate game that a search comes to.
game : Unit {0}
unfolding some each Range.first bit mask_of put turn satisfied won wins domains list_of masks_of narrow_to wins_over play_of legal narrowed position verdict
game = tt

rules : Unit {0}
unfolding game clashes alone empty uses unruled if_so and_next dead barred arc_loss sweep swept arc forward_domains forward_loss forward forward_named ahead_loss look_ahead ahead_named lowest is_pure purged purge interchange representatives interchangeable represent
rules = tt

turns : Unit {0}
unfolding rules first_list next_list checks ahead narrow_pure narrow_interchangeable next_rules reached
turns = tt

reasons : Unit {0}
unfolding turns first_reasons next_reasons idle chain choose loop neighbours forward_conflict forward_reasons explain_forward explain_checks kills cause surviving revise pass same_domains passes revisions emptied against arc_conflict explain_arc explain_ahead explained
reasons = tt

searching : Unit {0}
unfolding reasons handed hand_up some_value untried each_value broken first_broken check_set leaf solid around skippable narrow_next start_set search search_from marked_values
searching = tt

-- THE PROBLEM THAT BREAKS LEANER REASONS ------------------------------------------------------------------------------------------
-- Five variables, variable 2 universal; all pairs of values go together but six.
abbrev among : ℕ → ℕ → ℕ → ℕ → ℕ → ℕ → ℕ → Bool
among x a b c d e f = eqb x a || (eqb x b || (eqb x c || (eqb x d || (eqb x e || eqb x f))))

abbrev pub K : Problem
K = mk_problem (λ i. eqb i 2) (3 ∷ 3 ∷ 3 ∷ 7 ∷ 3 ∷ []) tt (λ i j. among (i * 10 + j) 12 3 13 23 24 34) (λ i a j b. not (among (i * 1000 + a * 100 + j * 10 + b) 1020 132 1130 2132 2141 3140))

-- Two positions of it.
abbrev here : List ℕ
here = 0 ∷ 1 ∷ 1 ∷ []

abbrev there : List ℕ
there = 0 ∷ 0 ∷ 1 ∷ []

-- A turn of a search: its plays from c on are not yet checked.
record Place : Type 0 where
  c : ℕ
  plays : List ℕ
  list : List ℕ
  why : List ℕ

-- The turn below, where value a is played; the turn after the plays p of a search from the start; what it answers.
onward : Problem → ℕ → ℕ → Place → Place
onward P S a w =
    let o = explained P S w.c w.plays w.list w.why in
    let e = (narrow_next P S (length w.plays) o.list).list in
    record { c = length w.plays; plays = w.plays ++ (a ∷ []); list = next_list P e (length w.plays) a; why = next_reasons o.why (length w.plays) }

along : Problem → ℕ → List ℕ → Place → Place
along P S [] w = w
along P S (a ∷ p) w = along P S p (onward P S a w)

answer_at : Problem → ℕ → List ℕ → Ending
answer_at P S p =
    let w = along P S p (record { c = 0; plays = []; list = first_list P []; why = first_reasons P.n 0 }) in
    search P S w.c (P.n - length p) w.plays w.list w.why

-- After 0, 1, 1 the turn is lost with all three variables under rules {1, 6}, {1, 2, 6}, all but 5, and all; so is the first turn from there.
k_sets : (answer_at K 33 here ≡ failed 7) × (answer_at K 35 here ≡ failed 7) × (answer_at K 111 here ≡ failed 7) × (answer_at K 127 here ≡ failed 7)
    × (search_from K 127 here ≡ failed 7)
unfolding onward along answer_at searching
k_sets = (refl, refl, refl, refl, refl)

-- The leaner reasons: a removal because of k takes in the reason of k alone.
lean_revise : ℕ → ℕ → Sheet → Sheet
lean_revise x k s =
    let m = surviving K s.list x k in
    let w : Sheet = record { list = set s.list x m; why = set s.why x (bit_or (get_or s.why x 0) (get_or s.why k 0)) } in
    let c = K.constrained x k && not (eqb m (get_or s.list x 0)) in
    cond (not (K.universal x) && c) w s

-- Four passes, and then value a of variable i is played.
lean_passes : Sheet → Sheet
lean_passes = loop 4 0 (λ _. loop 5 0 (λ x. loop 5 0 (λ k. lean_revise x k)))

lean_next : ℕ → ℕ → Sheet → Sheet
lean_next i a s = let t = lean_passes s in record { list = next_list K t.list i a; why = next_reasons t.why i }

lean : Sheet
lean = lean_passes (lean_next 2 1 (lean_next 1 1 (lean_next 0 0 (record { list = first_list K []; why = first_reasons 5 0 }))))

-- They find the loss with {0, 2}; but 0, 0, 1 is won.
lean_set : (arc_loss K (domains lean.list) ≡ true) × (arc_conflict K lean.list lean.why ≡ 5) × (verdict K there ≡ true)
unfolding lean_revise lean_passes lean_next lean searching
lean_set = (refl, refl, refl)

-- So they break the law of rule 6: 0, 0, 1 has the values of 0, 1, 1 at variables 0 and 2.
lean_breaks : ((q : List ℕ) → T (legal K q) → length q ≡ 3 → ((j : ℕ) → j < 3 → T (bit (arc_conflict K lean.list lean.why) j) → get_or q j 0 ≡ get_or here j 0) → verdict K q ≡ false) → ⊥
unfolding legal each domains bit
lean_breaks law = clash (law there tt refl agree) (rw lean_set.2 tt)
  where
    agree : (j : ℕ) → j < 3 → T (bit (arc_conflict K lean.list lean.why) j) → get_or there j 0 ≡ get_or here j 0
    agree zero h t = refl
    agree (suc zero) h t = absurd (rw lean_set.1 at t)
    agree (suc (suc zero)) h t = refl
    agree (suc (suc (suc j))) h t = absurd (omega arith)

-- RULE 7 AT G6 -----------------------------------------------------------------------------------------------------------------------
-- The plausible and wrong test: later universal variables stay as in the leaf.
wrong_around : ℕ → List ℕ → ℕ → ℕ → ℕ → Bool
wrong_around i q a j b = cond (eqb j i) (eqb b a) (eqb b (get_or q j 0))

-- Under set 64 G6 is lost; with the wrong test at its first turn it would be won.
g6 : (search_from G6 64 [] ≡ failed 0) × (search_from G6 127 [] ≡ failed 0)
    × (is_solved (each_value (λ q a. solid G6 (wrong_around 0 q a)) (λ a. search G6 64 0 2 (a ∷ []) (next_list G6 (3 ∷ 3 ∷ 3 ∷ []) 0 a) (next_reasons (first_reasons 3 0) 0)) 16 0 3 []) ≡ true)
unfolding wrong_around searching
g6 = (refl, refl, refl)

-- Under every rule alone, and under all, G1 is won; the leaf is the last one handed up.
g1 : (search_from G1 0 [] ≡ solved (1 ∷ 0 ∷ [])) × (search_from G1 1 [] ≡ solved (1 ∷ 0 ∷ [])) × (search_from G1 2 [] ≡ solved (1 ∷ 0 ∷ [])) × (search_from G1 127 [] ≡ solved (1 ∷ 0 ∷ []))
    × (search_from G1 127 (0 ∷ 0 ∷ []) ≡ failed 3)
unfolding searching
g1 = (refl, refl, refl, refl, refl)

-- A universal and an existential variable, all pairs of values compatible: after the first leaf the other value is skipped, so that the leaf differs.
abbrev full : Problem
full = mk_problem (λ i. eqb i 0) (3 ∷ 3 ∷ []) tt (λ i j. true) (λ i a j b. true)

skipped : (search_from full 0 [] ≡ solved (1 ∷ 0 ∷ [])) × (search_from full 64 [] ≡ solved (0 ∷ 0 ∷ []))
unfolding searching
skipped = (refl, refl)

-- Variables 0, 1, 2, all existential; value 0 of variable 0 clashes with both of variable 2. After 0, 0 rule 6 names variable 0 alone; without it the
-- set has both.
abbrev far : Problem
far = mk_problem (λ i. false) (3 ∷ 3 ∷ 3 ∷ []) tt (λ i j. eqb i 0 && eqb j 2) (λ i a j b. eqb a 1)

far_sets : (search_from far 32 (0 ∷ 0 ∷ []) ≡ failed 1) × (search_from far 0 (0 ∷ 0 ∷ []) ≡ failed 3)
unfolding searching
far_sets = (refl, refl)

-- A play of K that breaks the tables of 1 and 2 and of 0 and 3: the first is that of 0 and 3.
abbrev twice : List ℕ
twice = 1 ∷ 0 ∷ 0 ∷ 2 ∷ 0 ∷ []

k_broken : (satisfied K.compatible 5 (play_of twice) ≡ false) × (first_broken K twice ≡ 9)
unfolding searching
k_broken = (refl, refl)

-- The marks of G6 and of G1 after 0.
marks : (marked_values G6 127 [] ≡ 1) × (marked_values G1 3 (0 ∷ []) ≡ 2)
unfolding searching
marks = (refl, refl)

-- THE THEOREMS AT THESE PROBLEMS: their hypotheses are met -----------------------------------------------------------------------------
-- Two turns below a first one: after 0 at G6 under rule 7 alone, and after 0 at the problem far under rule 6 alone.
g6_turn : TurnOf G6 64 [] 0 (0 ∷ []) (1 ∷ 3 ∷ 3 ∷ []) (1 ∷ 0 ∷ 0 ∷ [])
unfolding searching
g6_turn = below 0 first (omega arith) refl tt

far-turn : TurnOf far 32 [] 0 (0 ∷ []) (1 ∷ 3 ∷ 3 ∷ []) (1 ∷ 0 ∷ 0 ∷ [])
unfolding searching
far-turn = below 0 first (omega arith) refl tt

-- Sets 64 and 96 differ in rule 6 alone.
others : Others 64 96
unfolding uses bit
others zero l h = refl
others (suc zero) l h = refl
others (suc (suc zero)) l h = refl
others (suc (suc (suc zero))) l h = refl
others (suc (suc (suc (suc zero)))) l h = refl
others (suc (suc (suc (suc (suc zero))))) l h = refl
others (suc (suc (suc (suc (suc (suc zero)))))) l h = absurd (h refl)
others (suc (suc (suc (suc (suc (suc (suc zero))))))) l h = refl
others (suc (suc (suc (suc (suc (suc (suc (suc k)))))))) l h = absurd (omega arith)

-- Every turn: its plays and its list; its verdict.
g6_turn_position : T (legal G6 (0 ∷ [])) × AtTurn G6 (0 ∷ []) (1 ∷ 3 ∷ 3 ∷ [])
unfolding game
g6_turn_position = Theorems.turn-position G6 64 [] tt 0 (0 ∷ []) (1 ∷ 3 ∷ 3 ∷ []) (1 ∷ 0 ∷ 0 ∷ []) g6_turn

g6_turn_answers : verdict G6 (0 ∷ []) ≡ true
unfolding searching
g6_turn_answers = sym (Theorems.turn_answers G6 64 [] tt 0 (0 ∷ []) (1 ∷ 3 ∷ 3 ∷ []) (1 ∷ 0 ∷ 0 ∷ []) g6_turn)

-- The rules with reasons: they find the loss of K after 0, 1, 1, and reach {0}, {1} at G1 after 0.
k_turn_loss : (explained K 127 0 here (first_list K here) (first_reasons 5 3)).loss ≡ true
unfolding searching
k_turn_loss = Theorems.turn-loss K 127 here tt 0 here (first_list K here) (first_reasons 5 3) first

g1_turn_reaches : (narrow_next G1 127 1 (explained G1 127 0 (0 ∷ []) (first_list G1 (0 ∷ [])) (first_reasons 2 1)).list).list ≡ 1 ∷ 2 ∷ []
unfolding searching
g1_turn_reaches = Theorems.turn_reaches G1 127 (0 ∷ []) tt 0 (0 ∷ []) (first_list G1 (0 ∷ [])) (first_reasons 2 1) first (omega arith) refl

-- Rule 6: the law of the set {0, 1, 2} of K after 0, 1, 1; its variables are played; without rule 6 all played ones are in a set.
k_conflict : (q : List ℕ) → T (legal K q) → length q ≡ 3 → ((j : ℕ) → j < 3 → T (bit 7 j) → get_or q j 0 ≡ get_or here j 0) → verdict K q ≡ false
unfolding search_from legal each domains bit
k_conflict = Theorems.turn-conflict K 127 here tt 0 here (first_list K here) (first_reasons 5 3) first 7 k_sets.4

k_played : (j : ℕ) → T (bit 7 j) → j < 3
unfolding search_from legal each domains bit
k_played = Theorems.turn-conflict-played K 127 here tt 0 here (first_list K here) (first_reasons 5 3) first 7 k_sets.4

far_whole : (j : ℕ) → j < 2 → T (bit 3 j)
unfolding search_from legal each domains bit uses
far_whole = Theorems.turn_conflict_whole far 0 (0 ∷ 0 ∷ []) tt 0 (0 ∷ 0 ∷ []) (first_list far (0 ∷ 0 ∷ [])) (first_reasons 3 2) first 3 far_sets.1 refl

-- A lost leaf carries its first broken table; in a first turn with rule 2 also the conflict set of that rule. It names variable 3, and the two
-- variables of the table, 0 and 3, would leave out the others that share a table with it.
k_leaf : search K 127 0 0 twice (first_list K twice) (first_reasons 5 5) ≡ failed 31
unfolding searching
k_leaf = Theorems.turn-leaf K 127 twice tt 0 twice (first_list K twice) (first_reasons 5 5) first refl

k_named : (turn_named K 127 0 twice (first_list K twice) ≡ 3) × T (K.constrained 3 1) × (bit (first_broken K twice) 1 ≡ false)
unfolding searching checks_named turn_named
k_named = (refl, tt, refl)

k_names : T (bit 31 1)
unfolding searching checks_named turn_named
k_names = Theorems.turn_names K 127 twice tt 0 twice (first_list K twice) (first_reasons 5 5) first 31 k_leaf (omega arith) 1 (omega arith) tt

k_has_name : turn_named K 127 0 twice (first_list K twice) < 5
unfolding searching
k_has_name = Theorems.turn_named_lem K 127 twice tt 0 twice (first_list K twice) (first_reasons 5 5) first refl (λ f. absurd (clash f tt))

k_name_lost : (reached K 127 0 twice (first_list K twice)).loss ≡ true
unfolding legal each domains bit
k_name_lost = Theorems.turn_named_lost K 127 twice tt 0 twice (first_list K twice) (first_reasons 5 5) first k_has_name

-- Below another turn it carries that table alone: 0, 0, 0 at the problem far.
far-leaf-turn : TurnOf far 32 [] 2 (0 ∷ 0 ∷ 0 ∷ []) (1 ∷ 1 ∷ 1 ∷ []) (1 ∷ 2 ∷ 4 ∷ [])
unfolding searching
far-leaf-turn = below 0 (below 0 far-turn (omega arith) refl tt) (omega arith) refl tt

far-leaf : search far 32 2 0 (0 ∷ 0 ∷ 0 ∷ []) (1 ∷ 1 ∷ 1 ∷ []) (1 ∷ 2 ∷ 4 ∷ []) ≡ failed 5
unfolding searching
far-leaf = Theorems.turn-leaf-below far 32 [] tt 2 (0 ∷ 0 ∷ 0 ∷ []) (1 ∷ 1 ∷ 1 ∷ []) (1 ∷ 2 ∷ 4 ∷ []) far-leaf-turn refl (omega arith)

k_first_broken : (x y : ℕ) × (x < y) × (y < 5) × (K.compatible x (get_or twice x 0) y (get_or twice y 0) ≡ false) × (first_broken K twice ≡ bit_or (2 ^ x) (2 ^ y))
    × ((i j : ℕ) → i < j → j < 5 → (i < x) ⊎ ((i ≡ x) × (j < y)) → T (K.compatible i (get_or twice i 0) j (get_or twice j 0)))
k_first_broken = Theorems.first-broken K twice k_broken.0

-- After 0 at the problem far the loss of value 0 of variable 1 names variable 0 alone, so value 1 is not tried.
far_jumps : search far 32 0 2 (0 ∷ []) (1 ∷ 3 ∷ 3 ∷ []) (1 ∷ 0 ∷ 0 ∷ []) ≡ failed 1
unfolding searching
far_jumps = Theorems.turn_jumps far 32 [] tt 0 (0 ∷ []) (1 ∷ 3 ∷ 3 ∷ []) (1 ∷ 0 ∷ 0 ∷ []) far-turn 1 refl refl refl refl 0 1 tt refl refl (λ x h. absurd (omega arith))

-- Rule 7: the leaf that G6 hands up after 0 breaks no table; it is the same with rule 6.
g6_turn_leaf : T (satisfied G6.compatible 3 (play_of (0 ∷ 1 ∷ 1 ∷ [])))
unfolding searching
g6_turn_leaf = (Theorems.turn_hands_leaf G6 64 [] tt 0 (0 ∷ []) (1 ∷ 3 ∷ 3 ∷ []) (1 ∷ 0 ∷ 0 ∷ []) g6_turn (0 ∷ 1 ∷ 1 ∷ []) refl).3

g6_turn_same : search G6 96 0 2 (0 ∷ []) (1 ∷ 3 ∷ 3 ∷ []) (1 ∷ 0 ∷ 0 ∷ []) ≡ solved (0 ∷ 1 ∷ 1 ∷ [])
unfolding searching
g6_turn_same = Theorems.turn_same_leaf G6 64 [] tt 0 (0 ∷ []) (1 ∷ 3 ∷ 3 ∷ []) (1 ∷ 0 ∷ 0 ∷ []) g6_turn 96 others (0 ∷ 1 ∷ 1 ∷ []) refl

-- The first turn of the problem full is the one of rule 7's sentence; value 1, which it skips because of the leaf 0, 0, wins.
full_turn_skips : search full 64 0 2 [] (3 ∷ 3 ∷ []) (0 ∷ 0 ∷ []) ≡ hand_up false 0 (skipping_turn full 64 1 [] (3 ∷ 3 ∷ []) (0 ∷ 0 ∷ []))
unfolding searching
full_turn_skips = Theorems.turn_skips full 64 [] tt 0 [] (first_list full []) (first_reasons 2 0) first 1 refl refl refl

full_skips : verdict full (1 ∷ []) ≡ true
unfolding searching
full_skips = Theorems.turn_skips_wins full 64 [] tt 0 [] (first_list full []) (first_reasons 2 0) first 1 refl refl refl 0 (0 ∷ 0 ∷ []) tt refl 1 tt tt

-- Rule 1 in any order: no revision at all at the first turn of G1, where none is dead; at K after 0, 1, 1 those of the search, which end in a loss.
g1_revisions : 3 ∷ 3 ∷ [] ≡ (arc G1 (3 ∷ 3 ∷ [])).list
unfolding searching may_lend within
g1_revisions = (Theorems.turn-revisions G1 0 [] tt 0 [] (first_list G1 []) (first_reasons 2 0) first refl (record { list = 3 ∷ 3 ∷ []; why = 0 ∷ 0 ∷ [] }) none).0 (Theorems.arc_removes G1 (3 ∷ 3 ∷ []) tt).1

abbrev k_sheet : Sheet
k_sheet = record { list = 1 ∷ 2 ∷ 2 ∷ 7 ∷ 3 ∷ []; why = 1 ∷ 2 ∷ 4 ∷ 0 ∷ 0 ∷ [] }

k_formed : Formed K k_sheet
k_formed = record { masks = record { size = refl; small = ok_bounded k_sheet.list tt }; sized = refl }

k_revisions : (q : List ℕ) → T (legal K q) → length q ≡ 3 → ((j : ℕ) → j < 3 → T (bit 7 j) → get_or q j 0 ≡ get_or here j 0) → verdict K q ≡ false
unfolding searching
k_revisions = (Theorems.turn-revisions K 33 here tt 0 here (first_list K here) (first_reasons 5 3) first refl (revisions K k_sheet) (revisions_are K k_sheet k_formed)).1 tt

-- The search from a position: its verdict; its leaf with rule 6; set 0; the marks.
g6_answers : is_solved (search_from G6 127 []) ≡ verdict G6 []
unfolding legal each
g6_answers = Theorems.search_answers G6 127 [] tt

full_same_leaf : search_from full 96 [] ≡ solved (0 ∷ 0 ∷ [])
unfolding legal each
full_same_leaf = Theorems.search_same_leaf full 64 96 [] tt others (0 ∷ 0 ∷ []) skipped.1

g1_plain : (explained G1 0 0 (0 ∷ []) (1 ∷ 3 ∷ []) (1 ∷ 0 ∷ []) ≡ idle (1 ∷ 3 ∷ []) (1 ∷ 0 ∷ [])) × (narrow_next G1 0 1 (1 ∷ 3 ∷ []) ≡ unruled (1 ∷ 3 ∷ []))
g1_plain = Theorems.search_0 G1 0 1 (0 ∷ []) (1 ∷ 3 ∷ []) (1 ∷ 0 ∷ [])

g1_marks_are : marked_values G1 3 (0 ∷ []) ≡ winning_values G1 (0 ∷ [])
unfolding legal each domains bit
g1_marks_are = Theorems.marks_are G1 3 (0 ∷ []) tt (omega arith)
