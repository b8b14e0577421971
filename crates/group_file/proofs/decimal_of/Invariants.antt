use Rattle.std.proofs.Common.{◌≡◌, true, min, take, ◌-◌, ◌^◌}
use Rattle.std.specs.Char.{is_ascii_digit}
use Rattle.std.specs.List.{list_all}
use Rattle.group_file.specs.Decimal.{number}
use Rattle.group_file.proofs.decimal_of.Given as goal

abbrev pub invariant-loop-byte : goal.invariant-loop-byte
invariant-loop-byte l = (list_all is_ascii_digit (take l.byte-index l.text) ≡ true) × (l.out ≡ min (2 ^ 64 - 1) (number (take l.byte-index l.text)))
