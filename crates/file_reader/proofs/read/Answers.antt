use mathlib.Core.Path.{◌≡◌, sym}
use native.Mathlib.Omega.{arith}
use borrow.Author.Rules.{rules}
use Rattle.std.specs.Prelude.{Err}
use Rattle.file_layout.specs.Layout.{t_of}
use Rattle.file_reader.proofs.Accepted.{accepted, variables_and_ternaries, header_is, domains_is}
use Rattle.file_reader.specs.Reading.{head_of, header_for, domains_for}
use Rattle.file_reader.proofs.read.Goals as goal

pub returns-in_err-parts : goal.returns-in_err-parts
unfolding header_for domains_for
returns-in_err-parts c =
    let q : c.from_residual.result ≡ Err c.in_err-parts.field-0.0 = search rules in
    let v = sym c.in_err-parts.ensures.verdict in
    rw q (sym (header_is _ _ v), sym (domains_is _ _ v))

pub word_at-requires : goal.word_at-requires
word_at-requires c = (accepted _ (sym c.in_ok-parts.ensures.verdict)).head.within

pub overflow_cast-head-2 : goal.overflow_cast-head-2
unfolding t_of
overflow_cast-head-2 c =
    let few = variables_and_ternaries _ (sym c.in_ok-parts.ensures.verdict) in
    omega (arith, c.in_ok-parts.ensures.shows.ternaries.count, few)

pub returns : goal.returns
unfolding header_for head_of t_of domains_for
returns c =
    let s = c.in_ok-parts.ensures.shows.variables in
    let v = sym c.in_ok-parts.ensures.verdict in
    rw (
      c.word_at.ensures,
      c.in_ok-parts.ensures.shows.ternaries.count,
      c.rules_at.ensures,
      c.universal_bits.ensures,
      c.domains.ensures,
      s.file,
      s.start,
      s.count,
    )
    (sym (header_is _ _ v), sym (domains_is _ _ v))
