-- The rule set used: the file's, or the usual one; with an accepted file it is a rule set.
use Prim.Native.Nat.{ℕ}
use mathlib.Core.Path.{◌≡◌, refl}
use mathlib.Core.Bool.{Bool, true, false, cond}
use mathlib.Core.List.{List}
use Rattle.std.specs.Prelude.{Option, None, Some}
use Rattle.std.specs.Option.{unwrap_or}
use Rattle.refusal.specs.Chain.{Fine}
use Rattle.rule_set.specs.RuleSet.{usual_set, is_rule_set}
use Rattle.file_layout.specs.Layout.{byte, has_rules, rules_of}
use Rattle.file_records.specs.Records.{verdict_of}
use Rattle.rule_set.proofs.RuleSetLaws.{named_sets}
use Rattle.file_reader.specs.Used.{set_used, rules_used}
use Rattle.file_reader.proofs.Accepted.{accepted}

pub used_is : (r : Option ℕ) → unwrap_or r usual_set ≡ rules_used r
unfolding rules_used set_used
used_is None = refl
used_is (Some k) = refl

pub used_set : (f : List ℕ) → verdict_of f ≡ Fine → is_rule_set (rules_used (rules_of f)) ≡ true
unfolding rules_used set_used rules_of
used_set f fine = go (has_rules f) refl
  where
    go : (b : Bool) → has_rules f ≡ b → is_rule_set (rules_used (cond b (Some (byte f 7)) None)) ≡ true
    go true e = ((accepted f fine).rules e).1
    go false e = named_sets.1
