use mathlib.Core.Path.{◌∙◌}
use native.Mathlib.Omega.{arith}
use Rattle.mask.proofs.Members.{count-rest}
use Rattle.mask.proofs.upward.AscendingIterator.next.Goals as goal

pub returns-clause-goes : goal.returns-clause-goes
returns-clause-goes g c =
    let e = count-rest g.M.Mask.width (g.M.Mask.number c.args.self.now.left) c.wide.ensures.fits (λ z. c.if-wide-eq0.false (c.wide.ensures.value ∙ z)) in
    record { on = λ _. (tt, tt, rw c.rest_of-self.ensures (omega (arith, e))); keeps = tt; rests = λ _. tt }
