use mathlib.Core.Path.{refl, ap, ◌∙◌}
use native.Mathlib.Numerals.{add-one}
use native.Mathlib.Omega.{arith}
use Rattle.file_reader.specs.Reading.{domains_to}
use Rattle.file_reader.proofs.values.domains.Goals as goal

pub loop-k-init : goal.loop-k-init
unfolding domains_to
loop-k-init c = refl

pub loop-k-preserved : goal.loop-k-preserved
unfolding domains_to
loop-k-preserved c = rw add-one (cc)

pub returns : goal.returns
returns c = c.loop-k.invariant ∙ ap (domains_to _ _) (omega arith)
