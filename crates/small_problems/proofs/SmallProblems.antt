-- G1 to G10 of document 01 and card 7's row hold.
use Prim.Native.Nat.{ℕ}
use mathlib.Core.Path.{◌≡◌, refl}
use mathlib.Core.List.{[], ◌∷◌, ◌++◌}
use lib.ListN.{replicate}
use Rattle.mask.specs.Range.{some, each, count, first}
use Rattle.mask.specs.Mask.{bit, mask_of}
use Rattle.refusal.specs.Chain.{◌then◌, need, only, placed}
use Rattle.file_layout.specs.Numbers.{counts_fit, in_order, pair_of, row_fits, rows_fit, constraint_fits, scope_of, triple_of, triple_in, in_mask, values_in, above_last, triples_fit, scope_fits, count_fits, ternary_fits}
use Rattle.file_layout.specs.Layout.{word, marked, opened, rules_of, variables_at, domain_at, universal_at, row_at, pair_at, constraints_at, after_constraints, number_at, body_at, ternary_at, leading, t_of, end_at}
use Rattle.file_records.specs.Records.{qp_test, rs_test, variable_test as variableFine, variables_test, constraint_test, last_pair, constraints_test, ternary_test, scope_at, last_scope, ternaries_test, en_test, rest_test, verdict_of}
use Rattle.file_reader.specs.Reading.{header_numbers, head_of, domain_of, universal_of, universal_bits, header_for, header_of}
use Rattle.file_lookup.specs.Part.{part, part_at}
use Rattle.file_lookup.specs.Lookup.{place_to, pair_place, look_for, look_up, rows_at}
use Rattle.file_lookup.specs.Ternary.{body_record, body_from, body_place, look_ternary, look_up_ternary}
use Rattle.file_constraints.specs.Ternaries.{ternary_one, ternary_two, ternary_three, ternary_size, ternary_value}
use Rattle.file_constraints.specs.Pairs.{found, allows}
use Rattle.game.specs.Game.{put, turn, satisfied, won, wins}
use Rattle.game.specs.Lists.{domains, list_of, masks_of, spread, within, may_lend, wins_over}
use Rattle.game.specs.Position.{narrowed, position}
use Rattle.game.specs.Calls.{without_last, after_call, standing_from, standing}
use Rattle.game.specs.Open.{goes_with_plays, plays_clash, existential_empty, universal_clash, stuck, is_open, open_values, open_counts}
use Rattle.game.specs.Ternary.{permits, meets_all, ternary_verdict, ternary_winning}
use Rattle.ternary_theory.specs.Expanded.{hidden, touches, agrees, by_kind, compatible_with, constrained_with, universal_with, domain_with, expanded}
use Rattle.file_decoder.specs.FileProblem.{record_at}
use Rattle.game.specs.Support.{clashes, alone, empty}
use Rattle.game.specs.Arc.{dead, barred, arc_loss, sweep, swept, arc}
use Rattle.game.specs.Pure.{is_pure, pure, is_impure, clash_variable, clash_value}
use Rattle.game.specs.Interchangeable.{interchange, representatives, interchangeable}
use Rattle.rule_lend.specs.Lend.{list_test, variable_test}
use Rattle.refusal.specs.Replied.{replied_for, list_for}
use Rattle.buffer.specs.Stored.{joined}
use Rattle.rule_entries.specs.Alone.{arc_reply, arc_list, names_told, pure_reply, interchangeable_reply}
use Rattle.session.specs.History.{list_told, list_opened}
use Rattle.history.specs.Replay.{list_marked}
use Rattle.small_problems.specs.Files.{words, variables, constraints, ternaries, file_with}
use Rattle.small_problems.specs.Table.{g1, table}
use Rattle.small_problems.specs.Claim.{RowsHold}
use Rattle.small_problems.proofs.Once.{on_the_way, all_the_way, read_once}
use Rattle.small_problems.proofs.Plain.{plainly}
use Rattle.small_problems.proofs.Check.{is_bytes, same_numbers, same_told, lines_pass, stages_pass, and_then, passes, rows_pass, rows_hold}

-- Groups of definitions to compute with: `unfolding checking` opens every definition that the test of the table comes to.
layout : Unit {0}
unfolding words variables constraints ternaries file_with
layout = tt

reading : Unit {0}
unfolding some each bit mask_of ◌then◌ need only placed counts_fit in_order pair_of row_fits rows_fit constraint_fits scope_of triple_of triple_in in_mask values_in above_last triples_fit scope_fits count_fits ternary_fits word marked opened rules_of variables_at domain_at universal_at row_at pair_at constraints_at after_constraints number_at body_at ternary_at leading t_of end_at qp_test rs_test variableFine variables_test constraint_test last_pair constraints_test ternary_test scope_at last_scope ternaries_test en_test rest_test verdict_of header_numbers head_of universal_bits header_for header_of place_to pair_place look_for look_up part part_at rows_at body_record body_from body_place look_ternary look_up_ternary
reading = tt

game : Unit {0}
unfolding count first put turn satisfied won wins domains list_of masks_of within may_lend wins_over narrowed position without_last after_call standing_from standing goes_with_plays plays_clash existential_empty universal_clash stuck is_open open_values open_counts permits meets_all ternary_verdict ternary_winning hidden touches agrees by_kind compatible_with constrained_with universal_with domain_with expanded ternary_one ternary_two ternary_three ternary_size ternary_value record_at clashes alone empty dead barred arc_loss sweep swept arc is_pure pure is_impure clash_variable clash_value interchange representatives interchangeable
game = tt

replies : Unit {0}
unfolding domain_of universal_of found allows list_test variable_test replied_for list_for arc_reply arc_list joined names_told pure_reply interchangeable_reply spread list_told list_opened list_marked plainly
replies = tt

checking : Unit {0}
unfolding layout reading game replies on_the_way all_the_way read_once is_bytes same_numbers same_told lines_pass stages_pass and_then passes rows_pass
checking = tt

-- "G1 in hex: 51 50 02 01 00 56 41 03 00 56 45 03 00 43 54 00 01 02 00 01 00, 28 zero bytes, 45 4E."
pub g1_bytes : g1 ≡ 81 ∷ 80 ∷ 2 ∷ 1 ∷ 0 ∷ 86 ∷ 65 ∷ 3 ∷ 0 ∷ 86 ∷ 69 ∷ 3 ∷ 0 ∷ 67 ∷ 84 ∷ 0 ∷ 1 ∷ 2 ∷ 0 ∷ 1 ∷ 0 ∷ replicate {A = ℕ} 28 0 ++ (69 ∷ 78 ∷ [])
unfolding layout
g1_bytes = refl

-- G1 TO G10 AND CARD 7'S ROW: one claim, computed from the definitions.
pub small_problems : RowsHold table
unfolding checking
small_problems = rows_hold table tt
