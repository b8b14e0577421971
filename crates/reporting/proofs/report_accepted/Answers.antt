use native.Mathlib.Omega.{arith}
use Prim.Native.Nat.{◌≤◌}
use Rattle.rule_set.specs.RuleSet.{greatest_set}
use Rattle.report_text.specs.Text.{text_of}
use Rattle.report_text.proofs.TextLaws.{reply_long}
use Rattle.reporting.proofs.ReportLaws.{holds_as, reply_same}
use Rattle.reporting.proofs.report_accepted.Goals as goal

-- The text fits.
pub render_reply-requires : goal.render_reply-requires
unfolding text_of
render_reply-requires c =
    let h = reply_long c.args.head.n c.args.head.m c.rules_used-set.result c.is_won-won.result 0 c.contains-universal.result c.first_marks-k.result.domain c.first_marks-k.result.winning (omega arith) (omega arith) (omega arith) (omega arith) in
    omega (arith, h)

pub returns-clause-reports_accepted : goal.returns-clause-reports_accepted
unfolding text_of
returns-clause-reports_accepted c = λ fine h.
    let k : c.rules_used-set.result ≤ greatest_set = rw c.rules_used-set.ensures h in
    let m = c.first_marks-k.ensures fine k in
    holds_as _ _ (reply_same _ _ c.rules_used-set.ensures (c.is_won-won.ensures fine k) c.contains-universal.ensures m.1 m.0) c.render_reply.ensures.value c.render_reply.ensures.out_after
