-- A rule set that no byte holds is refused as 255 is, so the writer's byte loses nothing: what it tells and leaves is that of the whole number.
use mathlib.Core.Path.{◌≡◌, refl, sym, ap, ◌∙◌}
use mathlib.Core.Bool.{Bool, true, false, cond, ◌&&◌}
use mathlib.Core.List.{List, [], ◌∷◌}
use Prim.Native.Nat.{ℕ, ◌≤◌, ◌<◌}
use native.Mathlib.Omega.{arith}
use lib.Dec.{eqb}
use lib.ListN.{length}
use borrow.Author.Tests.{lt-leb, lt-ltb, le-ltb}
use Rattle.mask.proofs.Logic.{by_lt}
use Rattle.std.specs.Prelude.{Err, Option, None, Some}
use Rattle.refusal.specs.declared.reason.Reason.TheVariants.{Count, Lent, Rules}
use Rattle.refusal.specs.Chain.{Test, ◌then◌, need}
use Rattle.refusal.specs.Replied.{replied_for, list_for}
use Rattle.refusal.proofs.Chain.{stop}
use Rattle.rule_set.specs.RuleSet.{is_rule_set, greatest_set}
use Rattle.file_layout.specs.Numbers.{counts_fit}
use Rattle.buffer.specs.Stored.{stored}
use Rattle.file_bytes.specs.Bytes.{whole_records, Handed, handed, bytes_of}
use Rattle.file_writer.specs.Tests.{lists_fit, rules_fit, rest_test, write_test}
use Rattle.file_writer.specs.Writing.{write_told, write_buffer}
use Rattle.host.specs.Handed.{set_handed, byte_handed}

-- Tests for 3 and 13, and then 8 in any case.
abbrev ends_8 : Bool → Bool → Test
ends_8 a b = need a Count then need b Lent then Err Rules

-- They say nothing of the bytes.
told_same : (a b : Bool) (x y : List ℕ) → replied_for (ends_8 a b) x ≡ replied_for (ends_8 a b) y
unfolding replied_for need ◌then◌
told_same true true x y = refl
told_same true false x y = refl
told_same false b x y = refl

left_same : (a b : Bool) (x y old : List ℕ) → list_for (ends_8 a b) x old ≡ list_for (ends_8 a b) y old
unfolding list_for need ◌then◌
left_same true true x y old = refl
left_same true false x y old = refl
left_same false b x y old = refl

-- What tells no rule set above the greatest from another takes the byte for the number.
byte_same : {A : Type 0} (g : Option ℕ → A) (given rules : ℕ) → ((r s : ℕ) → greatest_set < r → greatest_set < s → g (Some r) ≡ g (Some s))
    → g (byte_handed given rules) ≡ g (set_handed given rules)
unfolding byte_handed set_handed
byte_same g given rules same = by_lt rules 256 (λ h. rw (lt-ltb rules 256 h) refl) (λ h. rw (le-ltb rules 256 h) (by_given h (eqb given 0)))
  where
    by_given : 256 ≤ rules → (b : Bool) → g (cond b None (Some 255)) ≡ g (cond b None (Some rules))
    by_given h true = refl
    by_given h false = same 255 rules (omega arith) (omega arith)

module _ (n m universal : ℕ) (domains constraints ternaries : List ℕ) where
  abbrev with_set : Option ℕ → Handed
  with_set rules = handed n m rules universal domains constraints ternaries

  -- Whether the lists are as long as they have to be.
  abbrev lists_whole : Bool
  lists_whole = lists_fit n m (length domains) (length constraints) && whole_records ternaries

  wide_test : (r room : ℕ) → greatest_set < r → write_test (with_set (Some r)) room ≡ ends_8 (counts_fit n m) lists_whole
  unfolding write_test rest_test rules_fit is_rule_set need
  wide_test r room h =
      ap (λ (t : Test). need (counts_fit n m) Count then need lists_whole Lent then t)
      (stop _ _ Rules (ap (λ (b : Bool). need b Rules) (lt-leb r greatest_set h)))

  pub byte-told : (given rules room : ℕ) → write_told (with_set (byte_handed given rules)) room ≡ write_told (with_set (set_handed given rules)) room
  unfolding write_told
  byte-told given rules room = byte_same (λ (x : Option ℕ). write_told (with_set x) room) given rules λ r s h k.
      ap (λ (t : Test). replied_for t (length (bytes_of (with_set (Some r))) ∷ [])) (wide_test r room h) ∙ told_same _ _ _ _
      ∙ sym (ap (λ (t : Test). replied_for t (length (bytes_of (with_set (Some s))) ∷ [])) (wide_test s room k))

  pub byte_left : (given rules : ℕ) (old : List ℕ) → write_buffer (with_set (byte_handed given rules)) old ≡ write_buffer (with_set (set_handed given rules)) old
  unfolding write_buffer
  byte_left given rules old = byte_same (λ (x : Option ℕ). write_buffer (with_set x) old) given rules λ r s h k.
      ap (λ (t : Test). list_for t (stored old 0 (bytes_of (with_set (Some r)))) old) (wide_test r (length old) h) ∙ left_same _ _ _ _ _
      ∙ sym (ap (λ (t : Test). list_for t (stored old 0 (bytes_of (with_set (Some s)))) old) (wide_test s (length old) k))
