use borrow.Author.Tests.{eq-eqb, ne_eqb, le-leb, lt-leb}
use mathlib.Core.Path.{refl}
use native.Mathlib.Omega.{arith}
use Rattle.history.specs.Replay.{as_call, call_of}
use Rattle.history.proofs.call.Call.of.Goals as goal

pub returns-in-255 : goal.returns-in-255
unfolding as_call call_of
returns-in-255 c = rw (eq-eqb c.args.byte 255 c.in-255.is) refl

pub returns-in-254 : goal.returns-in-254
unfolding as_call call_of
returns-in-254 c = rw c.in-254.is refl

pub returns-in-192-to-253 : goal.returns-in-192-to-253
unfolding as_call call_of
returns-in-192-to-253 c =
    let w = c.in-192-to-253 in
    rw (ne_eqb c.args.byte 255 (λ e. omega (arith, w)), ne_eqb c.args.byte 254 (λ e. omega (arith, w)), le-leb 192 c.args.byte (omega (arith, w))) refl

pub returns-in_default : goal.returns-in_default
unfolding as_call call_of
returns-in_default c =
    let w = c.in_default in
    rw (ne_eqb c.args.byte 255 (λ e. omega (arith, w)), ne_eqb c.args.byte 254 (λ e. omega (arith, w)), lt-leb 192 c.args.byte (omega (arith, w))) refl
