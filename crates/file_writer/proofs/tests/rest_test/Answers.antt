use mathlib.Core.Path.{◌≡◌, sym, ◌∙◌}
use native.Mathlib.Omega.{arith}
use borrow.Author.Rules.{rules}
use Rattle.refusal.specs.declared.reason.Reason.TheVariants.{Domain}
use Rattle.refusal.specs.Chain.{need}
use Rattle.refusal.proofs.Chain.{stops, goes}
use Rattle.file_bytes.specs.Bytes.{domain_in, count_in, length_of}
use Rattle.file_writer.specs.Tests.{domains_fit, ternaries_test, rest_test}
use Rattle.file_writer.proofs.Writable.{lists_out, ternaries_most}
use Rattle.file_writer.proofs.tests.rest_test.Goals as goal
use Rattle.file_writer.proofs.tests.rest_test.Goals.{After-needed-3, After-ternaries_test}

-- All domains of the list are the n.
tested : (c : After-needed-3) → c.needed-3.result ≡ need (domains_fit (domain_in c.args.domains.now) c.args.x.n) Domain
tested c = rw (← (lists_out _ _ _ _ c.requires.lists).0, ← c.domains_fit.ensures) c.needed-3.ensures

pub constraints_test-requires : goal.constraints_test-requires
constraints_test-requires c = let l = lists_out _ _ _ _ c.requires.lists in omega arith

pub returns-in_err-needed : goal.returns-in_err-needed
unfolding rest_test
returns-in_err-needed c = (search rules) ∙ stops _ _ (cc) c.in_err-needed.was

pub returns-in_err-needed-2 : goal.returns-in_err-needed-2
unfolding rest_test
returns-in_err-needed-2 c =
    goes _ _ (cc) c.in_ok-needed.was
    ((search rules) ∙ stops _ _ (cc) c.in_err-needed-2.was)

pub returns-in_err-needed-3 : goal.returns-in_err-needed-3
unfolding rest_test
returns-in_err-needed-3 c =
    goes _ _ (cc) c.in_ok-needed.was
    (goes _ _ (cc) c.in_ok-needed-2.was
    ((search rules) ∙ stops _ _ (tested (goal.at.returns-in_err-needed-3 c).After-needed-3) c.in_err-needed-3.was))

pub returns-in_err-constraints_test : goal.returns-in_err-constraints_test
unfolding rest_test
returns-in_err-constraints_test c =
    goes _ _ (cc) c.in_ok-needed.was
    (goes _ _ (cc) c.in_ok-needed-2.was
    (goes _ _ (tested (goal.at.returns-in_err-constraints_test c).After-needed-3) c.in_ok-needed-3.was
    ((search rules) ∙ stops _ _ c.constraints_test.ensures c.in_err-constraints_test.was)))

pub ternaries_test-requires : goal.ternaries_test-requires
ternaries_test-requires c = record { masks = omega (arith, lists_out _ _ _ _ c.requires.lists); count = c.requires.records.1 }

-- The three-way constraints that are counted are tested.
ternaries : (c : After-ternaries_test) →
    let xs = c.args.ternaries.now in c.ternaries_test.result ≡ ternaries_test (domain_in c.args.domains.now) c.args.x.n xs (count_in xs)
ternaries c = rw (← c.requires.records.1) c.ternaries_test.ensures

pub returns-in_err-ternaries_test : goal.returns-in_err-ternaries_test
unfolding rest_test
returns-in_err-ternaries_test c =
    goes _ _ (cc) c.in_ok-needed.was
    (goes _ _ (cc) c.in_ok-needed-2.was
    (goes _ _ (tested (goal.at.returns-in_err-ternaries_test c).After-needed-3) c.in_ok-needed-3.was
    (goes _ _ c.constraints_test.ensures c.in_ok-constraints_test.was
    ((search rules) ∙ stops _ _ (ternaries (goal.at.returns-in_err-ternaries_test c).After-ternaries_test) c.in_err-ternaries_test.was))))

pub length-requires : goal.length-requires
length-requires c =
    let t = ternaries (goal.at.length-requires c).After-ternaries_test in
    omega (arith, c.requires.records.1, ternaries_most _ _ _ (omega arith) c.requires.records.0 (sym t ∙ c.in_ok-ternaries_test.was))

pub returns : goal.returns
unfolding rest_test length_of
returns c =
    goes _ _ (cc) c.in_ok-needed.was
    (goes _ _ (cc) c.in_ok-needed-2.was
    (goes _ _ (tested (goal.at.returns c).After-needed-3) c.in_ok-needed-3.was
    (goes _ _ c.constraints_test.ensures c.in_ok-constraints_test.was
    (goes _ _ (ternaries (goal.at.returns c).After-ternaries_test) c.in_ok-ternaries_test.was
    (rw (← c.requires.records.1, ← c.length.ensures) c.needed-4.ensures)))))
