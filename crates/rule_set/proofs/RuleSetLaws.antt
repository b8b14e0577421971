-- What the constructor's reply says of a number; the named sets are rule sets, and ALL uses the seven rules.
use Prim.Native.Nat.{ℕ, zero, suc, ◌-◌, ◌≤◌, ◌<◌}
use mathlib.Core.Path.{◌≡◌, refl, sym, ap}
use mathlib.Core.Bool.{Bool, true, false, cond}
use mathlib.Core.List.{[], ◌∷◌}
use lib.Dec.{T}
use native.Mathlib.Omega.{arith}
use borrow.Author.Tests.{leb-true}
use Rattle.mask.specs.Mask.{bit}
use Rattle.mask.specs.Range.{each}
use Rattle.mask.proofs.Range.{each_out}
use Rattle.mask.proofs.Bits.{bit_high}
use Rattle.std.specs.Prelude.{Ok, Err}
use Rattle.refusal.specs.declared.reason.Reason.{Reason}
use Rattle.refusal.specs.declared.reason.Reason.TheVariants.{Rules}
use Rattle.refusal.specs.Reason.{number_of}
use Rattle.refusal.specs.Told.{replied, refused}
use Rattle.refusal.proofs.Numbers.{number_one, refused_number}
use Rattle.rule_set.specs.declared.RuleSet.{RuleSet}
use Rattle.rule_set.specs.RuleSet.{greatest_set, plain_set, usual_set, full_set, is_rule_set, uses, rule_set_of, told}

-- The number of a rule set is 127 at most.
pub set_most : (k : ℕ) → is_rule_set k ≡ true → k ≤ greatest_set
unfolding is_rule_set
set_most k e = leb-true k greatest_set e

-- What is told of a number.
pub told-set : (k : ℕ) → is_rule_set k ≡ true → rule_set_of k ≡ replied (k ∷ [])
unfolding rule_set_of
told-set k e = rw e

pub told_none : (k : ℕ) → is_rule_set k ≡ false → rule_set_of k ≡ refused 8
unfolding rule_set_of
told_none k e = rw e

-- A set chosen has the number, and a number refused is none.
pub chosen_set : (s : RuleSet) (k : ℕ) → told (Ok s) ≡ rule_set_of k → (is_rule_set k ≡ true) × (s.bits ≡ k)
unfolding rule_set_of
chosen_set s k e = go (is_rule_set k) refl e
  where
    go : (b : Bool) → is_rule_set k ≡ b → replied (s.bits ∷ []) ≡ cond b (replied (k ∷ [])) (refused 8) → (is_rule_set k ≡ true) × (s.bits ≡ k)
    go true q e = (q, cc)
    go false q e = let z : ◌≡◌ {A = ℕ} 0 1 = cc in absurd (omega arith)

pub chosen_none : (e : Reason) (k : ℕ) → told (Err e) ≡ rule_set_of k → (is_rule_set k ≡ false) × (e ≡ Rules)
unfolding rule_set_of
chosen_none e k h = go (is_rule_set k) refl h
  where
    go : (b : Bool) → is_rule_set k ≡ b → refused (number_of e) ≡ cond b (replied (k ∷ [])) (refused 8) → (is_rule_set k ≡ false) × (e ≡ Rules)
    go true q h = let z : ◌≡◌ {A = ℕ} 0 1 = cc in absurd (omega arith)
    go false q h = (q, number_one e Rules (refused_number h))

-- No rule is used past the bits of a set.
pub uses_none : (set k : ℕ) → k < 1 → uses set k ≡ false
unfolding uses
uses_none set zero h = refl
uses_none set (suc k) h = absurd (omega arith)

pub uses_past : (set k : ℕ) → set < 256 → 8 < k → uses set k ≡ false
unfolding uses
uses_past set zero h l = refl
uses_past set (suc k) h l = bit_high 8 set k h (omega arith)

pub uses_is : (set k : ℕ) → 1 ≤ k → bit set (k - 1) ≡ uses set k
unfolding uses
uses_is set k l = let e : k ≡ suc (k - 1) = omega arith in sym (ap (uses set) e)

pub named_sets : (is_rule_set plain_set ≡ true) × (is_rule_set usual_set ≡ true) × (is_rule_set full_set ≡ true)
unfolding is_rule_set
named_sets = (refl, refl, refl)

pub all_used : (k : ℕ) → k < 7 → T (uses full_set (suc k))
unfolding each uses bit
all_used k h = each_out 7 (λ _. true) (λ k. uses full_set (suc k)) tt k h tt
