use Rattle.mask.proofs.contains.Goals as goal

pub returns : goal.returns
returns g c = c.holds.ensures
