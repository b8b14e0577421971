use mathlib.Core.Path.{refl}
use native.Mathlib.Omega.{arith}
use Rattle.group_theory.proofs.GroupLaws.{group_full}
use Rattle.group_arrays.specs.Selected.{index_in, Renumbers}
use Rattle.group_arrays.proofs.SelectedLaws.{size_agrees, selected}
use Rattle.group_arrays.proofs.select.Goals as goal

-- A group that exists has a variable.
pub invariant_of-arrays-4 : goal.invariant_of-arrays-4
invariant_of-arrays-4 c =
    let P = c.requires.posed.problem in
    let poses = c.requires.posed.poses in
    let grouped = c.requires.grouped P poses in
    let size = size_agrees P c.args.arrays.now c.args.groups.now c.args.g c.group_members-m.result poses grouped c.group_members-m.ensures in
    let count = grouped.count in
    let h = c.requires.exists in
    let full = group_full P c.args.g (omega arith) in
    let most = c.group_members-m.result.most in
    record { first = omega arith; most = omega arith; some = omega arith; in_range = c.index-arrays.ensures.range }

pub returns : goal.returns
unfolding index_in
returns c =
    let parts : Renumbers c.args.arrays.now c.group_members-m.result _ = record {
      own = refl;
      n = refl;
      universal = c.renumbered-arrays.ensures;
      domains = c.domains-arrays.ensures;
      near = c.near-arrays.ensures;
      index = c.index-arrays.ensures.value;
      rows = refl;
    } in
    record {
      members = c.group_members-m.result;
      holds = c.group_members-m.ensures;
      renumbers = parts;
      states = λ P poses. selected P c.args.arrays.now c.args.groups.now c.args.g c.group_members-m.result poses (c.requires.grouped P poses) c.group_members-m.ensures _ parts;
    }
