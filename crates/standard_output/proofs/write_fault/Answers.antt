use Rattle.std.proofs.Common.{arith}
use Rattle.report_text.proofs.TextLaws.{fault_long}
use Rattle.standard_output.proofs.write_fault.Goals as goal

pub render_refusal-k-requires : goal.render_refusal-k-requires
render_refusal-k-requires g c = omega (arith, fault_long c.args.fault (omega arith))
