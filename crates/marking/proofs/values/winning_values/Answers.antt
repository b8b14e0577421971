use mathlib.Core.Path.{◌≡◌, refl, ap, ◌∙◌}
use native.Mathlib.Omega.{arith}
use lib.Bits.{bit_or}
use lib.ListN.{length}
use mathlib.Core.Bool.{true, false}
use borrow.Author.Rules.{rules}
use Rattle.mask.proofs.Chains.{took_lt}
use Rattle.marking.proofs.MarkLaws.{marking_start, marking_at, marking_next, marking_room, marking_end}
use Rattle.marking.proofs.values.winning_values.Goals as goal
use Rattle.marking.proofs.values.winning_values.Goals.{Start}

-- The places of the position.
long : (c : Start) → length c.args.s.position.values ≡ 32
long c = search rules

pub loop-a-init : goal.loop-a-init
loop-a-init c = marking_start _ _ _ _ _ _ refl (ap (λ s. s.left) c.into_iter-a-iterator.ensures.into_iter_gives ∙ c.members_of-a-items.ensures)

pub wins_with-requires : goal.wins_with-requires
wins_with-requires c =
    let p = c.requires in
    let l = c.loop-a.invariant in
    let a = marking_at _ _ _ _ _ _ l c.in-Some.ensures.steps in
    (record { start = p.start; next = p.next; room = omega (arith, l.size, p.room) }, a.0, a.1)

pub single-won-requires : goal.single-won-requires
single-won-requires c = took_lt c.in-Some.ensures.steps

pub loop-a-preserved-then-wins_with : goal.loop-a-preserved-then-wins_with
loop-a-preserved-then-wins_with c =
    let w = c.wins_with.ensures in
    marking_next _ _ _ _ _ _ c.loop-a.invariant c.in-Some.ensures.steps true c.if-wins_with.true w.0 w.1 c.requires.room (ap (bit_or c.loop-a.won) c.single-won.ensures)

pub loop-a-preserved : goal.loop-a-preserved
loop-a-preserved c =
    let w = c.wins_with.ensures in
    marking_next _ _ _ _ _ _ c.loop-a.invariant c.in-Some.ensures.steps false c.if-wins_with.false w.0 w.1 c.requires.room refl

pub returns : goal.returns
returns c =
    let p = c.requires in
    let l = c.loop-a.invariant in
    let z = c.in-None.ensures.steps.0 in (
      marking_end _ _ _ _ _ _ l z refl p.start.fits (long (goal.at.returns c).Start) p.next,
      marking_room _ _ _ _ _ _ l z refl p.start.posed p.next,
    )
