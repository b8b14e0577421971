-- Every step of the two turns is a law of WholeTurn.
use Prim.Native.Nat.{ℕ}
use mathlib.Core.Bool.{true, false}
use mathlib.Core.Path.{refl, sym, ap, subst, ◌∙◌}
use borrow.Author.Rules.{rules}
use native.Mathlib.Omega.{arith}
use Rattle.mask.proofs.Chains.{took_lt}
use Rattle.mask.proofs.Members.{low_lt}
use Rattle.search_steps.proofs.SettledLaws.{settled}
use Rattle.search_steps.proofs.StandLaws.{stated, checked, nonzero}
use Rattle.search_turns.proofs.WholeTurn.{AfterRules, Trying, answered, rules_lost, child_stands, child_blank, child_fits, mid_fits, some_begins, some_ends, some-wins, some-leaves, some_goes_on, each_begins, each_ends, each_fails, each_goes_on, each_shrinks, won_mid, won_holds}
use Rattle.search_turns.proofs.+turns.Goals as goal
use Rattle.search_turns.proofs.+turns.Goals.{existential_turn-In-Err, existential_turn-After-into_iter-a-iterator, existential_turn-After-hand_down}
use Rattle.search_turns.proofs.+turns.Goals.{universal_turn-In-Err, universal_turn-In-Ok, universal_turn-After-hand_down}

-- ---- the existential turn

some-lost : (t : ℕ) (c : existential_turn-In-Err t) →
    let a = c.args in
    AfterRules a.arrays.now.n a.arrays.now a.set.bits a.c a.d a.room.now c.enter.new.w true c.in-Err.loss.conflict 0 false
some-lost t c =
    let s = c.requires in
    record { most = c.args.arrays.now.most; unplayed = s.0; fits = s.2; blank = s.3; stands = s.4; small = λ k. omega (arith, c.slice_known-1.given k); rules = c.in-Err.ensures }

some-entered : (t : ℕ) (c : existential_turn-After-into_iter-a-iterator t) →
    let a = c.args in
    AfterRules a.arrays.now.n a.arrays.now a.set.bits a.c a.d a.room.now c.enter.new.w false 0 c.into_iter-a-iterator.result.left c.in-Ok.e.narrowed
some-entered t c =
    let s = c.requires in
    let a = c.args in
    let e = c.in-Ok.e in
    subst (λ l. AfterRules a.arrays.now.n a.arrays.now a.set.bits a.c a.d a.room.now c.enter.new.w false 0 l e.narrowed)
    (sym (ap (λ i. i.left) c.into_iter-a-iterator.ensures.into_iter_gives ∙ c.members_of-a-items.ensures))
    (record { most = c.args.arrays.now.most; unplayed = s.0; fits = s.2; blank = s.3; stands = s.4; small = λ k. omega (arith, c.slice_known-1.given k); rules = c.in-Ok.ensures })

some-trying : (t : ℕ) (c : existential_turn-After-hand_down t) →
    let l = c.loop-a in
    Trying c.args.arrays.now.n c.args.d c.enter.new.w c.into_iter-a-iterator.result.left l.room l.a-iterator.left c.in-Some.a c.hand_down.new.room
some-trying t c =
    let l = c.loop-a.invariant in
    let k = c.in-Some.ensures.steps in
    record { mid = l.mid; less = l.small; part = l.part; more = k.some; lowest = k.low; down = c.hand_down.ensures }

pub existential_turn-enter-requires : goal.existential_turn-enter-requires
existential_turn-enter-requires t c =
    let s = c.requires in
    (checked _ _ _ _ _ _ s.4, s.0, search rules, nonzero _ _ _ _ _ _ s.4, stated _ _ _ _ _ _ s.4, settled _ _ _ _ _ _ (λ k. omega (arith, c.slice_known-1.given k)) s.4)

pub existential_turn-returns-in-Err : goal.existential_turn-returns-in-Err
existential_turn-returns-in-Err t c = rw c.lost_by_rules.ensures (rules_lost (some-lost t (goal.at.existential_turn-returns-in-Err t c).In-Err) refl)

pub existential_turn-loop-a-init : goal.existential_turn-loop-a-init
existential_turn-loop-a-init t c =
    some_begins (some-entered t (goal.at.existential_turn-loop-a-init t c).After-into_iter-a-iterator) refl c.requires.1 c.start_set-joined.ensures (λ k. omega (arith, c.slice_known-2-1.given k))

pub existential_turn-hand_down-requires : goal.existential_turn-hand_down-requires
existential_turn-hand_down-requires t c = (search rules, search rules, took_lt c.in-Some.ensures.steps)

pub existential_turn-turn-requires : goal.existential_turn-turn-requires
existential_turn-turn-requires t c =
    let at = goal.at.existential_turn-turn-requires t c in
    let A = some-entered t at.After-into_iter-a-iterator in
    let B = some-trying t at.After-hand_down in
    (search rules, (search rules, child_fits A refl B, child_blank A refl B, child_stands A refl B))

pub existential_turn-returns-in-Won : goal.existential_turn-returns-in-Won
existential_turn-returns-in-Won t c =
    let at = goal.at.existential_turn-returns-in-Won t c in
    let A = some-entered t at.After-into_iter-a-iterator in
    let B = some-trying t at.After-hand_down in
    let o = c.won_below.ensures in
    rw o.value (some-wins A refl c.requires.1 c.start_set-joined.ensures c.loop-a.invariant B (answered c.in-Won.ensures) _ o.room_after)

pub existential_turn-returns-then-jumps : goal.existential_turn-returns-then-jumps
existential_turn-returns-then-jumps t c =
    let at = goal.at.existential_turn-returns-then-jumps t c in
    let A = some-entered t at.After-into_iter-a-iterator in
    let B = some-trying t at.After-hand_down in
    let o = c.lost_below.ensures in
    rw o.value (some-leaves A refl c.requires.1 c.start_set-joined.ensures c.loop-a.invariant B (answered c.in-Lost.ensures) (sym c.jumps.ensures ∙ c.if-jumps.true) _ o.room_after)

pub existential_turn-loop-a-preserved : goal.existential_turn-loop-a-preserved
existential_turn-loop-a-preserved t c =
    let at = goal.at.existential_turn-loop-a-preserved t c in
    let A = some-entered t at.After-into_iter-a-iterator in
    let B = some-trying t at.After-hand_down in
    some_goes_on A refl c.requires.1 c.start_set-joined.ensures c.loop-a.invariant B (answered c.in-Lost.ensures) (sym c.jumps.ensures ∙ c.if-jumps.false) _ _ c.in-Some.ensures.steps.left refl

pub existential_turn-returns : goal.existential_turn-returns
existential_turn-returns t c =
    let A = some-entered t (goal.at.existential_turn-returns t c).After-into_iter-a-iterator in
    let o = c.lost_below-2.ensures in
    rw o.value (some_ends A refl c.requires.1 c.start_set-joined.ensures c.loop-a.invariant c.in-None.ensures.steps.0 _ o.room_after)

-- ---- the universal turn

each-lost : (t : ℕ) (c : universal_turn-In-Err t) →
    let a = c.args in
    AfterRules a.arrays.now.n a.arrays.now a.set.bits a.c a.d a.room.now c.enter.new.w true c.in-Err.loss.conflict 0 false
each-lost t c =
    let s = c.requires in
    record { most = c.args.arrays.now.most; unplayed = s.0; fits = s.2; blank = s.3; stands = s.4; small = λ k. omega (arith, c.slice_known-1.given k); rules = c.in-Err.ensures }

each-entered : (t : ℕ) (c : universal_turn-In-Ok t) →
    let a = c.args in
    AfterRules a.arrays.now.n a.arrays.now a.set.bits a.c a.d a.room.now c.enter.new.w false 0 c.in-Ok.e.left c.in-Ok.e.narrowed
each-entered t c =
    let s = c.requires in
    record { most = c.args.arrays.now.most; unplayed = s.0; fits = s.2; blank = s.3; stands = s.4; small = λ k. omega (arith, c.slice_known-1.given k); rules = c.in-Ok.ensures }

each-trying : (t : ℕ) (c : universal_turn-After-hand_down t) →
    let l = c.loop-left in
    Trying c.args.arrays.now.n c.args.d c.enter.new.w c.in-Ok.e.left l.room l.left c.lowest-a.result c.hand_down.new.room
each-trying t c =
    let l = c.loop-left.invariant in
    record { mid = l.mid; less = l.small; part = l.part; more = c.loop-left-test.true; lowest = c.lowest-a.ensures; down = c.hand_down.ensures }

pub universal_turn-enter-requires : goal.universal_turn-enter-requires
universal_turn-enter-requires t c =
    let s = c.requires in
    (checked _ _ _ _ _ _ s.4, s.0, search rules, nonzero _ _ _ _ _ _ s.4, stated _ _ _ _ _ _ s.4, settled _ _ _ _ _ _ (λ k. omega (arith, c.slice_known-1.given k)) s.4)

pub universal_turn-returns-in-Err : goal.universal_turn-returns-in-Err
universal_turn-returns-in-Err t c = rw c.lost_by_rules.ensures (rules_lost (each-lost t (goal.at.universal_turn-returns-in-Err t c).In-Err) refl)

pub universal_turn-loop-left-init : goal.universal_turn-loop-left-init
universal_turn-loop-left-init t c =
    each_begins (each-entered t (goal.at.universal_turn-loop-left-init t c).In-Ok) refl c.requires.1 (λ k. omega (arith, c.slice_known-2-1.given k))

pub universal_turn-hand_down-requires : goal.universal_turn-hand_down-requires
universal_turn-hand_down-requires t c =
    let l = c.loop-left.invariant in
    (search rules, search rules, omega (arith, low_lt 16 _ l.small c.loop-left-test.true))

pub universal_turn-turn-requires : goal.universal_turn-turn-requires
universal_turn-turn-requires t c =
    let at = goal.at.universal_turn-turn-requires t c in
    let A = each-entered t at.In-Ok in
    let B = each-trying t at.After-hand_down in
    (search rules, (search rules, child_fits A refl B, child_blank A refl B, child_stands A refl B))

pub universal_turn-returns-in-Lost : goal.universal_turn-returns-in-Lost
universal_turn-returns-in-Lost t c =
    let at = goal.at.universal_turn-returns-in-Lost t c in
    let A = each-entered t at.In-Ok in
    let B = each-trying t at.After-hand_down in
    let o = c.lost_after.ensures in
    rw o.value (each_fails A refl c.requires.1 c.loop-left.invariant B (answered c.in-Lost.ensures) _ o.room_after)

pub universal_turn-untried_next-left-requires : goal.universal_turn-untried_next-left-requires
universal_turn-untried_next-left-requires t c =
    let at = goal.at.universal_turn-untried_next-left-requires t c in
    let A = each-entered t at.In-Ok in
    let B = each-trying t at.After-hand_down in
    let l = c.loop-left.invariant in
    let R = answered c.in-Won.ensures in
    let z = mid_fits A (won_mid A refl B R _ c.take_leaf.ensures) in
    (search rules, omega (arith, c.lowest-a.ensures, low_lt 16 _ l.small c.loop-left-test.true), omega arith, won_holds A refl B R refl _ c.take_leaf.ensures)

pub universal_turn-loop-left-smaller : goal.universal_turn-loop-left-smaller
universal_turn-loop-left-smaller t c =
    let at = goal.at.universal_turn-loop-left-smaller t c in
    let A = each-entered t at.In-Ok in
    let B = each-trying t at.After-hand_down in
    let z = each_shrinks A refl c.requires.1 c.loop-left.invariant B (answered c.in-Won.ensures) _ c.take_leaf.ensures _ c.untried_next-left.ensures in
    omega arith

pub universal_turn-loop-left-preserved : goal.universal_turn-loop-left-preserved
universal_turn-loop-left-preserved t c =
    let at = goal.at.universal_turn-loop-left-preserved t c in
    let A = each-entered t at.In-Ok in
    let B = each-trying t at.After-hand_down in
    each_goes_on A refl c.requires.1 c.loop-left.invariant B (answered c.in-Won.ensures) _ c.take_leaf.ensures _ c.untried_next-left.ensures

pub universal_turn-returns : goal.universal_turn-returns
universal_turn-returns t c =
    let o = c.won_here.ensures in
    rw o.value (each_ends (each-entered t (goal.at.universal_turn-returns t c).In-Ok) refl c.requires.1 c.loop-left.invariant c.loop-left-test.false _ o.room_after)
