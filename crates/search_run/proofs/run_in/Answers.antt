use borrow.Author.Rules.{rules}
use lib.ListN.{length}
use mathlib.Core.Path.{◌≡◌}
use Prim.Native.Nat.{◌≤◌}
use native.Mathlib.Omega.{arith}
use Rattle.position.proofs.Fitting.{fits_plays}
use Rattle.search_run.proofs.RunLaws.{first-stands, first-blank, run_finds, room_kept}
use Rattle.search_run.proofs.run_in.Goals as goal
use Rattle.search_run.proofs.run_in.Goals.{After-turn-outcome, Start}

-- The places of the position.
long : (c : Start) → length c.args.s.position.values ≡ 32
long c = search rules

-- The words of the turn are there after it.
deep : (c : After-turn-outcome) → 128 ≤ length c.turn-outcome.new.room
deep c =
    let p = c.requires in
    omega (arith, p.1, fits_plays _ _ _ p.0.fits, c.first_words.ensures.size, c.turn-outcome.ensures.room.size)

pub first_words-requires : goal.first_words-requires
first_words-requires c = let p = c.requires in let h = fits_plays _ _ _ p.0.fits in (omega (arith, p.1, h), p.0.fits, λ k u. p.2 k (omega (arith, h)))

pub turn-outcome-requires : goal.turn-outcome-requires
turn-outcome-requires c = let p = c.requires in let h = fits_plays _ _ _ p.0.fits in let f = c.first_words.ensures in
    (h, omega (arith, p.1, f.size), first-blank _ _ _ _ _ f p.2, first-stands _ _ _ (long (goal.at.turn-outcome-requires c).Start) p.0.fits _ _ f p.0.posed)

pub list_of-list-requires : goal.list_of-list-requires
list_of-list-requires c = deep (goal.at.list_of-list-requires c).After-turn-outcome

pub leaf_of-leaf-requires : goal.leaf_of-leaf-requires
leaf_of-leaf-requires c = deep (goal.at.leaf_of-leaf-requires c).After-turn-outcome

pub zero_words-requires : goal.zero_words-requires
zero_words-requires c = (omega arith, omega (arith, deep (goal.at.zero_words-requires c).After-turn-outcome))

pub returns : goal.returns
returns c =
    let p = c.requires in
    let h = fits_plays _ _ _ p.0.fits in
    let f = c.first_words.ensures in
    let t = c.turn-outcome.ensures in (
      (λ P o. run_finds _ _ _ (long (goal.at.returns c).Start) p.0.fits _ _ f _ _ t c.list_of-list.ensures c.leaf_of-leaf.ensures h P o),
      room_kept _ _ _ _ _ f p.2 _ _ _ t.room c.zero_words.ensures p.1 h c.args.arrays.now.most,
    )
