use Prim.Native.Nat.{◌+◌, ◌≤◌}
use lib.ListN.{length}
use mathlib.Core.Path.{◌≡◌, refl}
use native.Mathlib.Numerals.{add-one}
use native.Mathlib.Omega.{arith}
use Rattle.buffer.specs.Stored.{stored, joined}
use Rattle.file_bytes.specs.Bytes.{size_in, start_in, ternary_in}
use Rattle.file_bytes.proofs.WalkLaws.{size_least, start_first, start_next, stands}
use Rattle.file_bytes.proofs.RecordLaws.{ternaries-stored}
use Rattle.file_bytes.proofs.records.put_ternaries.Goals as goal
use Rattle.file_bytes.proofs.records.put_ternaries.Goals.{After-size_in-size}

pub loop-init : goal.loop-init
unfolding joined stored
loop-init c = (omega (arith, start_first c.args.xs.now), omega (arith, start_first c.args.xs.now), refl)

pub size_in-size-requires : goal.size_in-size-requires
size_in-size-requires c =
    let xs = c.args.xs.now in
    let k = c.loop.counter in
    omega (arith, c.loop.invariant.0, size_least xs (start_in xs k), stands xs k c.args.t (omega arith) (omega arith))

-- How many numbers the record has that is next.
size : (c : After-size_in-size) → c.size_in-size.result ≡ size_in c.args.xs.now (start_in c.args.xs.now c.loop.counter)
size c = rw (← c.loop.invariant.0) c.size_in-size.ensures.0

-- It ends within the list, and where the next of the t begins.
ends : (c : After-size_in-size) →
    (c.loop.base + c.size_in-size.result ≤ length c.args.xs.now) × (c.loop.base + c.size_in-size.result ≤ start_in c.args.xs.now c.args.t)
ends c = omega (arith, c.loop.invariant, size c, stands c.args.xs.now c.loop.counter c.args.t (omega arith) (omega arith))

pub put_ternary-requires : goal.put_ternary-requires
put_ternary-requires c = omega (arith, c.loop.invariant, ends (goal.at.put_ternary-requires c).After-size_in-size)

pub overflow_add-base : goal.overflow_add-base
overflow_add-base c = omega (arith, ends (goal.at.overflow_add-base c).After-size_in-size)

pub overflow_add-end-in-loop : goal.overflow_add-end-in-loop
overflow_add-end-in-loop c = omega (arith, c.loop.invariant, ends (goal.at.overflow_add-end-in-loop c).After-size_in-size)

pub loop-preserved : goal.loop-preserved
unfolding ternary_in
loop-preserved c =
    let xs = c.args.xs.now in
    let k = c.loop.counter in
    let i = c.loop.invariant in
    let e = size (goal.at.loop-preserved c).After-size_in-size in
    rw add-one (
      omega (arith, i.0, e, start_next xs k),
      omega (arith, i.1, e, start_next xs k),
      rw (c.put_ternary.ensures, i.2, i.1, i.0, e) (ternaries-stored c.args.buf.now xs c.args.at k),
    )
