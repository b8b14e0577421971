use mathlib.Core.Path.{◌≡◌}
use native.Mathlib.Numerals.{add-one}
use native.Mathlib.Omega.{arith}
use Rattle.file_bytes.specs.Bytes.{start_in, size_in}
use Rattle.file_bytes.proofs.WalkLaws.{size_least, start_first, start_next, starts_apart, one_counted, all_whole, stops_within}
use Rattle.file_bytes.proofs.records.count_records.Goals as goal

pub loop-base-init : goal.loop-base-init
loop-base-init c = omega (arith, start_first c.args.xs.now)

pub returns-then-xs-base-lt4 : goal.returns-then-xs-base-lt4
returns-then-xs-base-lt4 c =
    let i = c.loop-base.invariant in
    stops_within c.args.xs.now _ _ i.1 i.0 (omega arith) (omega (arith, size_least c.args.xs.now c.loop-base.base))

pub returns-then-xs-base : goal.returns-then-xs-base
returns-then-xs-base c =
    let i = c.loop-base.invariant in
    stops_within c.args.xs.now _ _ i.1 i.0 (omega arith) (omega arith)

pub overflow_add-t : goal.overflow_add-t
overflow_add-t c = omega (arith, c.loop-base.invariant.0, starts_apart c.args.xs.now c.loop-base.t)

pub loop-base-smaller : goal.loop-base-smaller
loop-base-smaller c = omega (arith, size_least c.args.xs.now c.loop-base.base)

pub loop-base-preserved : goal.loop-base-preserved
loop-base-preserved c =
    let xs = c.args.xs.now in
    let i = c.loop-base.invariant in
    let t = c.loop-base.t in
    let e : c.size_in-size.result ≡ size_in xs (start_in xs t) = rw (← i.0) c.size_in-size.ensures.0 in
    rw add-one (omega (arith, e, start_next xs t), one_counted xs t i.1 (omega arith))

pub returns : goal.returns
returns c = let i = c.loop-base.invariant in all_whole c.args.xs.now _ _ i.1 i.0 (omega arith)
