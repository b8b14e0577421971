use borrow.Author.Rules.{rules}
use native.Mathlib.Omega.{arith}
use Rattle.position.proofs.Fitting.{fits_plays}
use Rattle.search_run.proofs.FirstLaws.{first_are}
use Rattle.search_run.proofs.first.first_words.Goals as goal

pub own_reasons-requires : goal.own_reasons-requires
own_reasons-requires c = let p = c.requires in (omega (arith, fits_plays _ _ _ p.1, c.args.arrays.now.most), search rules)

pub returns : goal.returns
returns c = let p = c.requires in first_are _ _ _ _ _ _ c.args.arrays.now.most p.0 (fits_plays _ _ _ p.1) p.2 c.narrowed_domains.ensures (search rules) c.own_reasons.ensures
