use mathlib.Core.Path.{◌≡◌, refl, sym, ap}
use Prim.Native.Nat.{ℕ}
use mir.Val.{bool_byte}
use lib.ListN.{length}
use Rattle.std.specs.Prelude.{Result, Option, None, Some, is_some}
use Rattle.refusal.specs.declared.reason.Fault.{Fault}
use Rattle.file_reader.specs.declared.Reading.{Reading}
use Rattle.file_reader.specs.Reading.{told, domains_shown, rule_numbers, header_numbers}
use Rattle.file_reader.specs.Used.{rules_used}
use Rattle.host_replies.specs.declared.files.ReadFile.{ReadFile}
use Rattle.host_replies.specs.Replies.{kind_of, number_of, place_of, value_of, count_from, rules_in, read_file_of}
use Rattle.host_replies.proofs.files.ReadFileFromResultReadingFault.from.Goals as goal

abbrev shown : Result Reading Fault → ReadFile
shown r = read_file_of (told r) (domains_shown r)

-- How many rule sets a file names: none or one.
named : (rules : Option ℕ) → bool_byte (is_some rules) ≡ length (rule_numbers rules)
named None = refl
named (Some k) = refl

pub returns-in-Ok : goal.returns-in-Ok
unfolding header_numbers read_file_of kind_of number_of place_of value_of count_from rules_in rules_used
returns-in-Ok c = rw (c.is_some.ensures, named, c.rules_used.ensures) (sym (ap shown c.in-Ok.is))

pub returns-in-Err : goal.returns-in-Err
unfolding header_numbers read_file_of kind_of number_of place_of value_of count_from rules_in
returns-in-Err c = rw c.from.ensures (sym (ap shown c.in-Err.is))
