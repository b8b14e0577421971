use Rattle.search_run.proofs.FirstLaws.{places_are}
use Rattle.search_run.proofs.first.places.Goals as goal

pub returns : goal.returns
returns c = places_are _ _ _ _ c.requires.1 c.copy_from_slice.ensures.after
