use lib.ListN.{get_or}
use mathlib.Core.Path.{refl, sym, ◌∙◌}
use Prim.Native.Nat.{◌<◌}
use borrow.Author.Rules.{rules}
use native.Mathlib.Omega.{arith}
use Rattle.mask.proofs.Logic.{true_holds}
use Rattle.mask.proofs.Found.{found_some, found_none}
use Rattle.mask.proofs.Members.{low_lt}
use Rattle.search_rules.proofs.CheckLaws.{play_lost, play_kept, play_lasts}
use Rattle.search_rules.proofs.NarrowLaws.{play_narrowed, play_heeded}
use Rattle.search_rules.proofs.check_play.Goals as goal

pub forward-f-requires : goal.forward-f-requires
forward-f-requires c =
    let a = c.args in
    let p = c.requires in
    let f = low_lt 16 (get_or a.w.now a.x 0) (omega (arith, c.slice_known-1.given a.x)) (p.2 a.x p.0) in
    (p.0, omega arith, p.1, p.2)

pub forward_conflict-requires : goal.forward_conflict-requires
forward_conflict-requires c =
    let m = c.args.arrays.now.most in
    let t = found_some _ _ _ (sym c.in-Some.is ∙ (c.forward-f.ensures.0 _ c.requires.3.states).0) in search rules

pub returns-in-Some : goal.returns-in-Some
returns-in-Some c =
    let p = c.requires in record {
      replies = λ P st. let f = c.forward-f.ensures.0 P st in
          let t = found_some _ _ _ (sym c.in-Some.is ∙ f.0) in
          let l : c.in-Some.k < c.args.arrays.now.n = rw t.0 t.1 in
          play_lost P _ _ st _ p.0 _ p.1 (λ k. omega (arith, c.slice_known-1.given k)) p.2 _ c.lowest-a.ensures _ _ t.0 f.1 l _ (c.forward_conflict.ensures P st l);
      checked = record { lasts = λ e. absurd (true_holds (sym e)); moved = λ e. absurd (true_holds (sym e)); heeded = λ e _ _. absurd (true_holds (sym e)) };
    }

pub returns-in-None : goal.returns-in-None
returns-in-None c =
    let p = c.requires in
    let st = p.3.states in
    let g = c.forward-f.ensures.0 _ st in
    let m = found_none _ _ (sym c.in-None.is ∙ g.0) in record {
      replies = λ P st. let f = c.forward-f.ensures.0 P st in
          play_kept P _ _ st _ p.0 _ p.1 (λ k. omega (arith, c.slice_known-1.given k)) p.2 _ c.lowest-a.ensures _ _ refl f.1 (found_none _ _ (sym c.in-None.is ∙ f.0)) _;
      checked = record {
        lasts = λ e. play_lasts _ _ _ st _ p.0 _ p.1 (λ k. omega (arith, c.slice_known-1.given k)) p.2 _ c.lowest-a.ensures _ _ refl g.1 m;
        moved = λ e. play_narrowed _ _ _ st _ p.0 _ p.1 (λ k. omega (arith, c.slice_known-1.given k)) p.2 _ c.lowest-a.ensures _ _ refl g.1 _ c.args.arrays.now.most m c.forward-f.ensures.1;
        heeded = λ e _ _. play_heeded _ _ _ st _ p.0 _ p.1 (λ k. omega (arith, c.slice_known-1.given k)) p.2 _ c.lowest-a.ensures _ _ refl g.1 m (λ k. omega (arith, c.slice_known-3-1.given k));
      };
    }
