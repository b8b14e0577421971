use mathlib.Core.Path.{◌≡◌, sym, ap, subst, ◌∙◌}
use mathlib.Core.List.{List}
use Prim.Native.Nat.{ℕ}
use lib.Dec.{T}
use lib.ListN.{length}
use borrow.Author.Rules.{rules}
use Rattle.game.specs.Search.{is_solved, search_from}
use Rattle.position.specs.declared.Position.{Position}
use Rattle.position.specs.Position.{plays_of, fits_in}
use Rattle.marking.proofs.PlayedLaws.{plays_pushed, pushed-fits}
use Rattle.marking.proofs.values.wins_with.Goals as goal
use Rattle.marking.proofs.values.wins_with.Goals.{Start}

-- The places of the position.
long : (c : Start) → length c.args.s.position.values ≡ 32
long c = search rules

pub run-requires : goal.run-requires
run-requires c =
    let p = c.requires.0 in
    let o = p.start.posed.poses in (
      record {
        fits = subst (λ (q : Position). T (fits_in q c.args.arrays.now.n c.args.arrays.now.domains)) (sym c.pushed.ensures)
            (pushed-fits _ _ _ p.start.fits c.args.arrays.now.most (long (goal.at.run-requires c).Start) p.next _ p.start.posed.problem o.states.size o.domain c.requires.2);
        posed = p.start.posed;
      },
      p.room,
    )

pub returns : goal.returns
returns c =
    let p = c.requires.0 in
    let r = c.run.ensures in (
      λ P o. c.is_won.ensures ∙ (r.0 P o).won
          ∙ ap (λ (l : List ℕ). is_solved (search_from P c.args.s.set.bits l)) (ap plays_of c.pushed.ensures ∙ plays_pushed _ _ _ p.start.fits c.args.arrays.now.most (long (goal.at.returns c).Start) p.next _),
      r.1,
    )
