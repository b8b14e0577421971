-- Each theorem at a small problem of document 01, what the rules that the table of small_problems does not ask for compute there, and
-- plausible and wrong readings of rules.
use mathlib.Core.Path.{◌≡◌, refl, sym, ap, ◌∙◌}
use mathlib.Core.Bool.{Bool, true, false, cond, not, ◌&&◌, ◌||◌}
use mathlib.Core.List.{List, [], ◌∷◌}
use Prim.Native.Nat.{ℕ, zero, suc, ◌<◌, ◌≤◌}
use native.Mathlib.Omega.{arith}
use lib.ListN.{get_or, length, set}
use lib.Count.{ones as ones-of}
use lib.Dec.{T, eqb, eqb→eq, ltb}
use Rattle.mask.specs.Range.{some, each, first}
use Rattle.mask.specs.Mask.{bit, diff, mask_of}
use Rattle.mask.proofs.Logic.{clash}
use Rattle.mask.proofs.Bits.{bit_single}
use Rattle.game.specs.Problem.{Problem}
use Rattle.game.specs.Game.{Domains, put, turn, satisfied, won, wins}
use Rattle.game.specs.Lists.{domains, list_of, masks_of, narrow_to, within, may_lend, wins_over}
use Rattle.game.specs.Position.{play_of, legal, narrowed, position}
use Rattle.game.specs.Calls.{play, take_back, lock, unlock, plain, without_last, after_call, standing_from, standing}
use Rattle.game.specs.Open.{goes_with_plays, plays_clash, existential_empty, universal_clash, stuck, open_values, open_counts}
use Rattle.game.specs.Winning.{verdict, winning_values}
use Rattle.game.specs.Support.{clashes, alone, empty}
use Rattle.game.specs.Rule.{uses, Ruled, unruled, if_so, and_next}
use Rattle.game.specs.Arc.{dead, barred, arc_loss, sweep, swept, arc}
use Rattle.game.specs.Removals.{Removals, none, more}
use Rattle.game.specs.Forward.{forward_domains, forward_loss, forward, forward_named}
use Rattle.game.specs.LookAhead.{ahead_loss, look_ahead, ahead_named}
use Rattle.game.specs.Pure.{lowest, is_pure, purged, pure, purge, is_impure, clash_variable, clash_value}
use Rattle.game.specs.Interchangeable.{interchange, representatives, interchangeable, represent}
use Rattle.game.specs.Turn.{first_list, next_list, checks, ahead, narrow_pure, narrow_interchangeable, next_rules, reached}
use Rattle.theory.specs.TurnList.{AtTurn}
use Rattle.theory.proofs.Small.{mk_problem}
use Rattle.theory.proofs.Lists.{lent_out}
use Rattle.theory.proofs.OnLists.{remove_some}
use Rattle.theory.proofs.Theorems

-- Which pairs of values are compatible: they differ; 0 goes with both, 1 with 1 only.
abbrev pub differ : ℕ → ℕ → ℕ → ℕ → Bool
differ i a j b = not (eqb a b)

abbrev pub low : ℕ → ℕ → ℕ → ℕ → Bool
low i a j b = eqb a 0 || eqb b 1

abbrev every : ℕ → ℕ → Bool
every i j = true

abbrev pub G1 : Problem
G1 = mk_problem (λ i. eqb i 0) (3 ∷ 3 ∷ []) tt every differ

abbrev pub G2 : Problem
G2 = mk_problem (λ i. eqb i 1) (3 ∷ 3 ∷ []) tt every differ

abbrev pub G3 : Problem
G3 = mk_problem (λ i. eqb i 0) (3 ∷ 1 ∷ 1 ∷ []) tt (λ i j. eqb i 1) (λ i a j b. false)

abbrev pub G4 : Problem
G4 = mk_problem (λ i. eqb i 1) (3 ∷ 3 ∷ []) tt every low

abbrev pub G5 : Problem
G5 = mk_problem (λ i. false) (3 ∷ 3 ∷ []) tt every low

abbrev pub G6 : Problem
G6 = mk_problem (λ i. ltb i 2) (3 ∷ 3 ∷ 3 ∷ []) tt (λ i j. eqb j 2) (λ i a j b. cond (eqb i 1) (eqb a b) (eqb a 0 || eqb b 1))

abbrev pub G8 : Problem
G8 = mk_problem (λ i. false) (3 ∷ 3 ∷ []) tt every (λ i a j b. true)

-- The plain list: a play stands if its value is in the next domain, whatever number it is, and fewer than n stand; calls that change nothing
-- among them.
calls : standing G1 (take_back ∷ play 2 ∷ play 1 ∷ play 1000000 ∷ play 0 ∷ play 0 ∷ []) ≡ plain (1 ∷ 0 ∷ []) 0
unfolding bit domains without_last after_call standing_from standing
calls = refl

-- Its depth: a take-back at it, an unlock above it, plays behind it and the take-backs of these.
locks : (standing G1 (play 0 ∷ lock ∷ take_back ∷ []) ≡ plain (0 ∷ []) 1) × (standing G1 (play 0 ∷ lock ∷ unlock 2 ∷ unlock 0 ∷ take_back ∷ []) ≡ plain [] 0)
    × (standing G1 (lock ∷ play 1 ∷ unlock 1 ∷ play 7 ∷ take_back ∷ take_back ∷ []) ≡ plain [] 0)
    × (standing G1 (play 0 ∷ lock ∷ play 1 ∷ []) ≡ plain (0 ∷ 1 ∷ []) 1) × (standing G1 (play 0 ∷ lock ∷ play 1 ∷ take_back ∷ take_back ∷ []) ≡ plain (0 ∷ []) 1)
unfolding bit domains without_last after_call standing_from standing
locks = (refl, refl, refl, refl, refl)

abbrev ruled : Bool → List ℕ → Ruled
ruled b l = record { loss = b; list = l }

-- Rule 2: value 0 of G1's variable 0 leaves {1}; value 0 of G2's clashes at variable 1, whose domain stays. Rule 3: no loss in G1, a loss
-- in G6 when variable 1 has a value and variable 2 is 0.
checked : (forward G1 0 0 (3 ∷ 3 ∷ []) ≡ ruled false (1 ∷ 2 ∷ [])) × (forward G2 0 0 (3 ∷ 3 ∷ []) ≡ ruled true (1 ∷ 3 ∷ [])) × (forward_named G2 0 0 (3 ∷ 3 ∷ []) ≡ 1)
    × (look_ahead G1 0 (3 ∷ 3 ∷ []) ≡ false) × (look_ahead G6 0 (3 ∷ 1 ∷ 1 ∷ []) ≡ true)
unfolding some bit mask_of first domains list_of masks_of clashes alone empty forward_domains forward_loss forward forward_named ahead_loss look_ahead
checked = (refl, refl, refl, refl, refl)

-- Rule 4's narrowing: G5 keeps the pure value; all values of G3's variable 0 are pure, and the smallest stays. Rule 5: G1 keeps both values.
narrowings : (purge G5 0 (3 ∷ 3 ∷ []) ≡ 1 ∷ 3 ∷ []) × (purge G3 0 (3 ∷ 1 ∷ 1 ∷ []) ≡ 1 ∷ 1 ∷ 1 ∷ []) × (interchangeable G1 0 (3 ∷ 3 ∷ []) ≡ 3)
unfolding some each bit mask_of domains lowest is_pure purged pure purge interchange representatives interchangeable
narrowings = (refl, refl, refl)

-- The turn: set 2 checks the play, set 1 closes, set 31 does both and narrows, set 0 does nothing.
turns : (reached G1 2 0 (0 ∷ []) (first_list G1 (0 ∷ [])) ≡ ruled false (1 ∷ 2 ∷ [])) × (reached G4 1 0 [] (3 ∷ 3 ∷ []) ≡ ruled false (1 ∷ 3 ∷ []))
    × (reached G8 31 0 [] (3 ∷ 3 ∷ []) ≡ ruled false (1 ∷ 3 ∷ [])) × (reached G2 31 0 [] (3 ∷ 3 ∷ []) ≡ ruled true (0 ∷ 3 ∷ [])) × (reached G4 0 0 [] (3 ∷ 3 ∷ []) ≡ ruled false (3 ∷ 3 ∷ []))
unfolding some each bit mask_of domains list_of masks_of narrowed position clashes alone empty dead barred arc_loss sweep swept arc forward_domains forward_loss forward ahead_loss look_ahead lowest is_pure purged purge interchange representatives interchangeable represent uses unruled if_so and_next first_list checks ahead narrow_pure narrow_interchangeable next_rules reached
turns = (refl, refl, refl, refl, refl)

-- Why nothing is usable, each cause by itself: plays that clash; nothing open at G6's existential variable; a play that clashes with a value of
-- G2's universal one. None in G1 after 0.
causes : (plays_clash G1 (0 ∷ 0 ∷ []) ≡ true) × (existential_empty G6 (1 ∷ 0 ∷ []) ≡ true) × (universal_clash G2 (0 ∷ []) ≡ true)
    × ((plays_clash G6 (1 ∷ 0 ∷ []) || universal_clash G6 (1 ∷ 0 ∷ [])) ≡ false) × ((plays_clash G2 (0 ∷ []) || existential_empty G2 (0 ∷ [])) ≡ false)
    × (stuck G1 (0 ∷ []) ≡ false) × (stuck G2 (0 ∷ []) ≡ true)
unfolding some each bit domains clashes goes_with_plays plays_clash existential_empty universal_clash stuck
causes = (refl, refl, refl, refl, refl, refl, refl)

-- THE THEOREMS at small problems: their hypotheses are met ----------------------------------------------------------------------
abbrev full : List ℕ
full = 3 ∷ 3 ∷ []

abbrev ones : List ℕ
ones = 3 ∷ 1 ∷ 1 ∷ []

-- what some of the hypotheses say of rules 1 and 4
arc_4 : arc G4 full ≡ ruled false (1 ∷ 3 ∷ [])
unfolding some each bit mask_of domains list_of masks_of clashes alone empty dead barred arc_loss sweep swept arc
arc_4 = refl

pure-some : (pure G5 0 full ≡ 1) × (pure G4 1 full ≡ 2) × (pure G3 0 ones ≡ 3)
unfolding each bit mask_of domains is_pure pure
pure-some = (refl, refl, refl)

-- the game
g1_standing : T (legal G1 (standing G1 (play 0 ∷ lock ∷ take_back ∷ play 7 ∷ unlock 7 ∷ [])).plays)
g1_standing = Theorems.standing_is_position G1 (play 0 ∷ lock ∷ take_back ∷ play 7 ∷ unlock 7 ∷ [])

g1_depth : (standing G1 (play 0 ∷ lock ∷ take_back ∷ play 7 ∷ unlock 7 ∷ [])).depth ≤ length (standing G1 (play 0 ∷ lock ∷ take_back ∷ play 7 ∷ unlock 7 ∷ [])).plays
g1_depth = Theorems.standing_depth G1 (play 0 ∷ lock ∷ take_back ∷ play 7 ∷ unlock 7 ∷ [])

g1_unfolds : verdict G1 (0 ∷ []) ≡ turn false (domains full 1) (λ a. verdict G1 (0 ∷ a ∷ []))
unfolding each bit domains legal
g1_unfolds = Theorems.verdict_unfolds G1 (0 ∷ []) tt (omega arith)

g1_played_out : verdict G1 (0 ∷ 1 ∷ []) ≡ satisfied G1.compatible 2 (play_of (0 ∷ 1 ∷ []))
unfolding each bit domains legal
g1_played_out = Theorems.verdict_played_out G1 (0 ∷ 1 ∷ []) tt refl

g4_winning : bit (winning_values G4 []) 0 ≡ (domains full 0 0 && verdict G4 (0 ∷ []))
g4_winning = Theorems.winning_values_lem G4 [] 0 (omega arith)

g4_by_some : verdict G4 [] ≡ not (eqb (winning_values G4 []) 0)
unfolding each legal
g4_by_some = Theorems.won_by_some G4 [] tt (omega arith) refl

g1_by_all : verdict G1 [] ≡ eqb (winning_values G1 []) 3
unfolding each legal
g1_by_all = Theorems.won_by_all G1 [] tt (omega arith) refl

g1_counts : get_or (open_counts G1 (0 ∷ [])) 1 0 ≡ ones-of (get_or (open_values G1 (0 ∷ [])) 1 0)
g1_counts = Theorems.open_counts_lem G1 (0 ∷ []) 1 (omega arith)

g1_open : open_values G1 (0 ∷ []) ≡ (reached G1 2 0 (0 ∷ []) (first_list G1 (0 ∷ []))).list
unfolding each bit domains legal
g1_open = (Theorems.open_by_rule_2 G1 (0 ∷ []) tt).1 causes.5

g2_loses : (reached G2 2 0 (0 ∷ []) (first_list G2 (0 ∷ []))).loss ≡ true
unfolding each bit domains legal
g2_loses = sym (Theorems.open_by_rule_2 G2 (0 ∷ []) tt).0 ∙ causes.6

g2_stuck : verdict G2 (0 ∷ []) ≡ false
unfolding each bit domains legal
g2_stuck = Theorems.stuck_lost G2 (0 ∷ []) tt causes.6

g3_fresh : stuck G3 [] ≡ false
g3_fresh = Theorems.fresh-not-stuck G3

has_0 : T (bit 3 0)
unfolding bit
has_0 = tt

g4_monotone : T (wins_over G4 (1 ∷ 3 ∷ [])) → T (wins_over G4 full)
unfolding domains
g4_monotone = Theorems.wins_monotone G4 (1 ∷ 3 ∷ []) full fewer more_values
  where
    fewer : (j a : ℕ) → eqb j 1 ≡ true → T (bit (get_or full j 0) a) → T (bit (get_or (1 ∷ 3 ∷ []) j 0) a)
    fewer zero a s t = absurd (clash (sym s) tt)
    fewer (suc zero) a s t = t
    fewer (suc (suc j)) a s t = t

    more_values : (j a : ℕ) → eqb j 1 ≡ false → T (bit (get_or (1 ∷ 3 ∷ []) j 0) a) → T (bit (get_or full j 0) a)
    more_values zero a s t = rw (eqb→eq a 0 (rw (bit_single 0 a) at t)) has_0
    more_values (suc zero) a s t = absurd (clash s tt)
    more_values (suc (suc j)) a s t = t

-- rule 1
g4_arc : wins_over G4 full ≡ (not (arc G4 full).loss && wins_over G4 (arc G4 full).list)
unfolding each within may_lend
g4_arc = Theorems.arc-verdict G4 full tt

-- the removal of the one dead value by itself ends in the same list
dead_4 : T (dead G4 (domains full) 0 1)
unfolding some bit domains clashes alone dead
dead_4 = tt

one_removal : Removals G4 full (1 ∷ 3 ∷ [])
unfolding each within may_lend diff
one_removal = more {l = full} {k = 1 ∷ 3 ∷ []}
    (remove_some G4 full (lent_out G4 full tt).masks 0 (omega arith) refl 2 (λ a b t. rw (eqb→eq a 1 (rw (bit_single 1 a) at b)) dead_4)) none

g4_order : 1 ∷ 3 ∷ [] ≡ (arc G4 full).list
unfolding each within may_lend
g4_order = Theorems.arc_any_order G4 full tt (1 ∷ 3 ∷ []) one_removal (rw (ap list arc_4) at (Theorems.arc_removes G4 full tt).1)
  where
    list : Ruled → List ℕ
    list o = o.list

g4_arc_lends : T (may_lend G4 (arc G4 full).list)
unfolding each within may_lend
g4_arc_lends = Theorems.arc_may_lend G4 full tt (ap (λ (o : Ruled). o.loss) arc_4)

-- rules 2 and 3
g1_forward : wins_over G1 (narrow_to full 0 0) ≡ (not (forward G1 0 0 full).loss && wins_over G1 (forward G1 0 0 full).list)
unfolding each within may_lend bit domains
g1_forward = Theorems.forward-verdict G1 full tt 0 (omega arith) 0 tt

g1_forward_lends : T (may_lend G1 (forward G1 0 0 full).list)
unfolding each within may_lend bit domains
g1_forward_lends = Theorems.forward_may_lend G1 full tt 0 (omega arith) 0 tt (ap (λ (o : Ruled). o.loss) checked.0)

g2_names : 0 < forward_named G2 0 0 full
unfolding each within may_lend
g2_names = (Theorems.forward_names G2 full tt 0 (omega arith) 0 (rw checked.1 tt)).0

g6_ahead : wins_over G6 ones ≡ false
unfolding each within may_lend
g6_ahead = Theorems.ahead_lost G6 ones tt 0 (omega arith) (rw checked.4 tt)

g6_names : ahead_named G6 0 ones < 16
unfolding each within may_lend
g6_names = (Theorems.ahead_names G6 ones tt 0 (omega arith) (rw checked.4 tt)).0

g4_ahead : look_ahead G4 0 full ≡ false
unfolding each within may_lend
g4_ahead = Theorems.ahead_existential G4 full tt 0 (omega arith) refl

-- rules 4 and 5: an existential variable, a universal one, one all of whose values are pure, and one that is not the next
g5_smallest : wins_over G5 full ≡ wins_over G5 (narrow_to full 0 (first 16 (bit (pure G5 0 full))))
unfolding each within may_lend
g5_smallest = Theorems.pure_smallest G5 full tt 0 (omega arith) refl (λ z. let e = pure-some.0 in omega arith)

g4_rest : wins_over G4 full ≡ wins_over G4 (set full 1 (diff 3 (pure G4 1 full)))
unfolding each within may_lend diff
g4_rest = Theorems.pure-rest G4 full tt 1 (omega arith) refl (rw pure-some.1 λ z. omega arith)

g3_all : wins_over G3 ones ≡ wins_over G3 (narrow_to ones 0 (first 16 (domains ones 0)))
unfolding each within may_lend diff
g3_all = Theorems.pure_all G3 ones tt 0 (omega arith) refl (rw pure-some.2)

g3_later : wins_over G3 ones ≡ wins_over G3 (purge G3 2 ones)
unfolding each within may_lend
g3_later = Theorems.pure-verdict G3 ones tt 2 (omega arith)

g3_pure_lends : T (may_lend G3 (purge G3 0 ones))
unfolding each within may_lend
g3_pure_lends = Theorems.pure_may_lend G3 ones tt 0 (omega arith)

-- Card 5: for value 1 of G5's variable 0, value 0 of variable 1 is named; value 0 is pure.
pure_named : (clash_variable G5 (domains full) 0 1 ≡ 1) × (clash_value G5 (domains full) 0 1 ≡ 0)
unfolding some bit first domains clashes clash_variable clash_value
pure_named = (refl, refl)

g5_names : G5.compatible 0 1 (clash_variable G5 (domains full) 0 1) (clash_value G5 (domains full) 0 1) ≡ false
unfolding each within may_lend bit domains is_pure is_impure
g5_names = (Theorems.pure-names G5 full tt 0 (omega arith) 1 tt).4

g5_unnamed : (clash_variable G5 (domains full) 0 0 ≡ 2) × (clash_value G5 (domains full) 0 0 ≡ 16)
unfolding each within may_lend bit domains is_pure
g5_unnamed = Theorems.pure_unnamed G5 full tt 0 (omega arith) 0 tt

g4_interchangeable : wins_over G4 full ≡ wins_over G4 (set full 1 (interchangeable G4 1 full))
unfolding each within may_lend
g4_interchangeable = Theorems.interchangeable-verdict G4 full tt 1 (omega arith)

g8_interchangeable_lends : T (may_lend G8 (set full 0 (interchangeable G8 0 full)))
unfolding each within may_lend
g8_interchangeable_lends = Theorems.interchangeable_may_lend G8 full tt 0 (omega arith)

-- the turn
g1_first : AtTurn G1 (0 ∷ []) (first_list G1 (0 ∷ []))
unfolding each bit domains legal
g1_first = Theorems.first-turn G1 (0 ∷ []) tt

g1_continues : AtTurn G1 (0 ∷ []) (reached G1 2 0 (0 ∷ []) (first_list G1 (0 ∷ []))).list
g1_continues = Theorems.turn_continues G1 2 0 (0 ∷ []) (first_list G1 (0 ∷ [])) g1_first (omega arith) (ap (λ (o : Ruled). o.loss) turns.0)

g1_next : AtTurn G1 (0 ∷ 1 ∷ []) (next_list G1 (first_list G1 (0 ∷ [])) 1 1)
unfolding bit domains narrowed position first_list
g1_next = Theorems.next-turn G1 (0 ∷ []) (first_list G1 (0 ∷ [])) 1 g1_first (omega arith) tt

g1_turn : verdict G1 (0 ∷ []) ≡ (not (reached G1 127 0 (0 ∷ []) (first_list G1 (0 ∷ []))).loss && wins_over G1 (reached G1 127 0 (0 ∷ []) (first_list G1 (0 ∷ []))).list)
unfolding each bit domains legal
g1_turn = Theorems.position-verdict G1 127 (0 ∷ []) tt

g1_turn_below : let l = next_list G1 (first_list G1 (0 ∷ [])) 1 1 in wins_over G1 l ≡ (not (reached G1 127 1 (0 ∷ 1 ∷ []) l).loss && wins_over G1 (reached G1 127 1 (0 ∷ 1 ∷ []) l).list)
g1_turn_below = Theorems.turn-verdict G1 127 1 (0 ∷ 1 ∷ []) (next_list G1 (first_list G1 (0 ∷ [])) 1 1) g1_next (omega arith)

g2_lost : wins_over G2 (first_list G2 []) ≡ false
unfolding each legal narrowed position first_list
g2_lost = Theorems.turn_lost G2 31 0 [] (first_list G2 []) (Theorems.first-turn G2 [] tt) (omega arith) (ap (λ (o : Ruled). o.loss) turns.3)

g4_plain : reached G4 0 0 [] ≡ unruled
g4_plain = Theorems.set_0_is_plain G4 0 []

g4_off : if_so false (arc G4) ≡ unruled
g4_off = (Theorems.off_changes_nothing (arc G4)).0

g4_five : reached G4 31 0 [] ≡ reached G4 127 0 []
unfolding uses bit
g4_five = Theorems.first_five_decide G4 31 127 0 [] five
  where
    five : (k : ℕ) → k < 6 → uses 31 k ≡ uses 127 k
    five zero h = refl
    five (suc zero) h = refl
    five (suc (suc zero)) h = refl
    five (suc (suc (suc zero))) h = refl
    five (suc (suc (suc (suc zero)))) h = refl
    five (suc (suc (suc (suc (suc zero))))) h = refl
    five (suc (suc (suc (suc (suc (suc k)))))) h = absurd (omega arith)

-- PLAUSIBLE AND WRONG, computed --------------------------------------------------------------------------------------------------
-- A forward check that removes clashing values from every later domain, the universal ones too; its loss is an empty domain.
unfoldable wrong_forward : Problem → ℕ → ℕ → List ℕ → Ruled
wrong_forward P x a l =
    let E : Domains = λ j b. cond (eqb j x) (eqb b a) (cond (ltb x j) (P.compatible x a j b && domains l j b) (domains l j b)) in
    record { loss = some P.n (ltb x) (empty P E); list = masks_of P.n E }

-- A judgement by forward checks of the first variable.
unfoldable judged_by : (Problem → ℕ → ℕ → List ℕ → Ruled) → Problem → List ℕ → Bool
judged_by check P l = turn (P.universal 0) (domains l 0) (λ a. let w = wins_over P (check P 0 a l).list in not (check P 0 a l).loss && w)

-- G2 is lost; with the wrong check it turns yes.
wrong_forward_lem : (judged_by forward G2 full ≡ false) × (judged_by wrong_forward G2 full ≡ true)
unfolding some each put turn satisfied won wins bit mask_of domains list_of masks_of wins_over clashes empty forward_domains forward_loss forward wrong_forward judged_by
wrong_forward_lem = (refl, refl)

-- G3 is lost; with its universal domain emptied because all values are pure it turns yes.
wrong_pure : (wins_over G3 (purge G3 0 (3 ∷ 1 ∷ 1 ∷ [])) ≡ false) × (wins_over G3 (set (3 ∷ 1 ∷ 1 ∷ []) 0 (diff 3 (pure G3 0 (3 ∷ 1 ∷ 1 ∷ [])))) ≡ true)
unfolding some each put turn satisfied won wins bit diff mask_of domains wins_over lowest is_pure purged pure purge
wrong_pure = (refl, refl)

-- The first clash is not the last: value 0 of G6's variable 2 clashes with variable 0 and with variable 1; where no two values go together, for
-- value 0 of variable 0 value 0 of variable 1 is named, and not value 1. With G5's table read the other way round, value 1 of variable 0 would
-- have no name.
abbrev never : Problem
never = mk_problem (λ i. false) full tt every (λ i a j b. false)

wrong_names : (clash_variable G6 (domains G6.domain) 2 0 ≡ 0) × (clashes G6 (domains G6.domain) 2 0 1 ≡ true)
    × (clash_variable never (domains full) 0 0 ≡ 1) × (clash_value never (domains full) 0 0 ≡ 0) × (never.compatible 0 0 1 1 ≡ false)
    × (some 16 (domains full 1) (λ b. not (G5.compatible 0 b 1 1)) ≡ false)
unfolding some bit first domains clashes clash_variable clash_value
wrong_names = (refl, refl, refl, refl, refl, refl)
