use mathlib.Core.Path.{refl, sym}
use native.Mathlib.Omega.{arith}
use Rattle.std.proofs.lemmas.Result.{err_from_is_err_and}
use Rattle.mask.proofs.Logic.{true_holds}
use Rattle.search_rules.proofs.ChainLaws.{chosen}
use Rattle.search_rules.proofs.CheckLaws.{along_start, along_turn, along_lost, along_end}
use Rattle.search_rules.proofs.NarrowLaws.{narrowed_none, narrowed_more, heeded_first}
use Rattle.search_rules.proofs.check_plays.Goals as goal

pub loop-x-init : goal.loop-x-init
loop-x-init c = record {
  small = λ k. omega (arith, c.type_inv.w k);
  lasts = c.requires.3;
  checking = λ P st p s. along_start P _ _ _ p _ s;
  narrowed = narrowed_none _ _ _ _ _;
  before = λ _. refl;
  first = λ q. absurd (omega arith);
}

pub returns-in_err-narrowed : goal.returns-in_err-narrowed
returns-in_err-narrowed c =
    let p = c.requires in
    let i = c.loop-x.invariant in
    let k = c.in_err-narrowed.ensures in
    let r = err_from_is_err_and c.from_residual.result c.from_residual.ensures.1 in
    rw (r.1, r.2) (record {
      replies = λ P st q s. chosen _ _ _ _ _ _ _ _ _ refl (along_lost P _ _ st _ _ _ p.1 q _ _ (omega arith) (i.checking P st q s) c.loop-x-test.true _ _ _ (k.replies P st) refl);
      checked = record { lasts = λ f. absurd (true_holds (sym f)); moved = λ f. absurd (true_holds (sym f)); heeded = λ f _ _. absurd (true_holds (sym f)) };
    })

pub loop-x-preserved : goal.loop-x-preserved
loop-x-preserved c =
    let p = c.requires in
    let i = c.loop-x.invariant in
    let h = c.loop-x-test.true in
    let k = c.in_ok-narrowed.ensures in
    let z = k.checked.lasts refl in
    record {
      small = λ k. omega (arith, c.type_inv.w k);
      lasts = z;
      checking = λ P st q s. along_turn P _ _ st _ _ _ p.1 q _ _ (omega arith) (i.checking P st q s) h _ _ _ (k.replies P st) refl z;
      narrowed = narrowed_more _ _ _ _ _ _ _ _ _ (omega arith) h i.narrowed (k.checked.moved refl);
      before = λ q. absurd (omega arith);
      first = λ q. heeded_first _ _ _ _ _ _ _ (omega arith) i.before (k.checked.heeded refl refl refl);
    }

pub returns : goal.returns
returns c =
    let p = c.requires in
    let i = c.loop-x.invariant in
    record {
      replies = λ P st q s. chosen _ _ _ _ _ _ _ _ _ refl (along_end P _ _ st _ _ _ p.1 q _ _ (omega arith) (i.checking P st q s) c.loop-x-test.false i.small _);
      checked = record { lasts = λ _. i.lasts; moved = λ _. i.narrowed; heeded = λ _ _ q. i.first (omega arith) };
    }
