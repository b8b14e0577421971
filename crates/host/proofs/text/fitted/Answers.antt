use mathlib.Core.Path.{◌≡◌, ap, ◌∙◌}
use mathlib.Core.List.{[], ◌∷◌}
use Prim.Native.Nat.{ℕ}
use native.Mathlib.Omega.{arith}
use lib.ListN.{length}
use borrow.Author.Rules.{rules}
use Rattle.std.specs.Prelude.{Err}
use Rattle.refusal.proofs.RepliedLaws.{reply_refused, reply_told, list_refused, list_left}
use Rattle.buffer.proofs.PutLaws.{put-stored}
use Rattle.file_writer.specs.Writing.{told}
use Rattle.buffer.specs.Fitting.{fit_test, fit_told, fit_left}
use Rattle.host.proofs.text.fitted.Goals as goal

pub returns-in_err-needed : goal.returns-in_err-needed
unfolding fit_told fit_left fit_test
returns-in_err-needed c =
    let e : c.from_residual.result ≡ Err c.in_err-needed.field-0.0 = search rules in
    let t = fit_test c.args.text.now (length c.args.buf.now) in
    record {
      result_value = ap told e ∙ reply_refused t _ c.needed.ensures c.in_err-needed.was;
      buf_after = list_refused t _ _ c.needed.ensures c.in_err-needed.was;
    }

pub returns : goal.returns
unfolding fit_told fit_left fit_test
returns c =
    let t = fit_test c.args.text.now (length c.args.buf.now) in
    let s = c.new-t.ensures in
    record {
      result_value = reply_told t _ c.needed.ensures c.in_ok-needed.was (ap (λ (n : ℕ). n ∷ []) (omega (arith, s.place, c.put.ensures.ends)));
      buf_after = list_left t _ _ c.needed.ensures c.in_ok-needed.was (put-stored s.place s.buffer c.put.ensures (search rules));
    }
