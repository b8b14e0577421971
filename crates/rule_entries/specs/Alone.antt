-- What each of the five calls tells, and what it leaves in the list: by the file's verdict first, then by the tests, then by the rule.
use Rattle.std.specs.Prelude.{ℕ, Bool, cond, List, [], ◌∷◌, get_or, replicate, Result, Ok, Err, Option, None, Some}
use Rattle.mask.specs.Mask.{bit}
use Rattle.buffer.specs.Stored.{joined}
use Rattle.refusal.specs.declared.reason.Refusal.{Refusal}
use Rattle.refusal.specs.Chain.{Test}
use Rattle.refusal.specs.Told.{Told, fault_told, refusal_told, told_by}
use Rattle.refusal.specs.Replied.{passed, replied_for, list_for}
use Rattle.game.specs.Problem.{Problem}
use Rattle.game.specs.Lists.{domains, may_lend}
use Rattle.game.specs.Arc.{arc}
use Rattle.game.specs.Forward.{forward, forward_named}
use Rattle.game.specs.LookAhead.{look_ahead, ahead_named}
use Rattle.game.specs.Pure.{pure, is_impure, clash_variable, clash_value}
use Rattle.game.specs.Interchangeable.{interchangeable}
use Rattle.rule_forward.specs.declared.steps.Ahead.{Ahead}
use Rattle.rule_narrow.specs.declared.names.PureNames.{PureNames}
use Rattle.rule_narrow.specs.Names.{pure_names}
use Rattle.file_decoder.specs.Read.{read_ordinary}
use Rattle.rule_lend.specs.Lend.{list_test, variable_test, value_test}

-- The values of a finished answer: 0 for no loss, 1 for a loss, and behind it what the loss names, the value before the variable; a mask.
abbrev pub loss_values : Bool → List ℕ
loss_values lost = cond lost 1 0 ∷ []

abbrev pub check_values : Option ℕ → List ℕ
check_values None = 0 ∷ []
check_values (Some j) = 1 ∷ j ∷ []

abbrev pub look_values : Option Ahead → List ℕ
look_values None = 0 ∷ []
look_values (Some h) = 1 ∷ h.value ∷ h.variable ∷ []

abbrev pub mask_values : ℕ → List ℕ
mask_values m = m ∷ []

-- Card 5. The mask of pure values; behind it, ascending, each value for which there is a name, with the variable and the value named.
abbrev pub name_values : PureNames → List ℕ
name_values r = r.pure ∷ joined (λ a. cond (bit r.impure a) (a ∷ get_or r.variables a 0 ∷ get_or r.values a 0 ∷ []) []) 16

-- Each answer in document 01's numbers.
abbrev pub told : Result Bool Refusal → Told
told = told_by loss_values refusal_told

abbrev pub told_check : Result (Option ℕ) Refusal → Told
told_check = told_by check_values refusal_told

abbrev pub told_look : Result (Option Ahead) Refusal → Told
told_look = told_by look_values refusal_told

abbrev pub told_values : Result ℕ Refusal → Told
told_values = told_by mask_values refusal_told

abbrev pub told_pure : Result PureNames Refusal → Told
told_pure = told_by name_values refusal_told

-- What rule 4 shows, field by field: of a refused call nothing, all is zero.
unfoldable pub no_names : PureNames
no_names = record { pure = 0; impure = 0; variables = replicate 16 0; values = replicate 16 0 }

abbrev pub names_shown : {E : Type 0} → Result PureNames E → PureNames
names_shown (Ok r) = r
names_shown (Err e) = no_names

-- What is told of a loss with what it names, or of none: "With no loss, both are absent."
unfoldable pub loss_named : Bool → List ℕ → List ℕ
loss_named lost names = cond lost (1 ∷ names) (0 ∷ [])

-- What is told of a loss or not, of one that names something, and of a mask, by the tests.
abbrev pub loss_for : Test → Bool → Told
loss_for t lost = replied_for t (loss_values lost)

abbrev pub named_for : Test → Bool → List ℕ → Told
named_for t lost names = replied_for t (loss_named lost names)

abbrev pub mask_for : Test → ℕ → Told
mask_for t m = replied_for t (mask_values m)

-- The five rules over a problem P and a list l.
module _ (P : Problem) (l : List ℕ) where
  open P use {n}

  unfoldable pub arc_reply : Told
  arc_reply = loss_for (list_test (may_lend P l)) (arc P l).loss

  unfoldable pub arc_list : List ℕ
  arc_list = list_for (list_test (may_lend P l)) (arc P l).list l

  -- "The forward check now also names the lowest-numbered later choice that was emptied or that holds a clash."
  unfoldable pub forward_reply : ℕ → ℕ → Told
  forward_reply x a = named_for (value_test (may_lend P l) n l x a) (forward P x a l).loss (forward_named P x a l ∷ [])

  unfoldable pub forward_list : ℕ → ℕ → List ℕ
  forward_list x a = list_for (value_test (may_lend P l) n l x a) (forward P x a l).list l

  -- "Look ahead passes on the smallest option whose check loses, with the choice that this check names."
  unfoldable pub ahead_reply : ℕ → Told
  ahead_reply x =
      let a = ahead_named P x l in
      named_for (variable_test (may_lend P l) n x) (look_ahead P x l) (a ∷ forward_named P x a l ∷ [])

  -- "It now also names, for each option of the mask that is not pure, the first choice and option in that order which it does not go with, and
  -- nothing for the others."
  unfoldable pub names_told : ℕ → List ℕ
  names_told x = let D = domains l in joined (λ a. cond (is_impure P D x a) (a ∷ clash_variable P D x a ∷ clash_value P D x a ∷ []) []) 16

  unfoldable pub pure_reply : ℕ → Told
  pure_reply x = replied_for (variable_test (may_lend P l) n x) (pure P x l ∷ names_told x)

  unfoldable pub pure_names_shown : ℕ → PureNames
  pure_names_shown x = names_shown (passed (variable_test (may_lend P l) n x) (pure_names P x l))

  unfoldable pub interchangeable_reply : ℕ → Told
  interchangeable_reply x = mask_for (variable_test (may_lend P l) n x) (interchangeable P x l)

-- What each call tells of a file f and a list l, and the list that rules 1 and 2 leave.
module _ (f l : List ℕ) where
  unfoldable pub arc_told : Told
  arc_told = read_ordinary f fault_told (λ P. arc_reply P l)

  unfoldable pub arc_left : List ℕ
  arc_left = read_ordinary f (λ e. l) (λ P. arc_list P l)

  unfoldable pub forward_told : ℕ → ℕ → Told
  forward_told x a = read_ordinary f fault_told (λ P. forward_reply P l x a)

  unfoldable pub forward_left : ℕ → ℕ → List ℕ
  forward_left x a = read_ordinary f (λ e. l) (λ P. forward_list P l x a)

  unfoldable pub ahead_told : ℕ → Told
  ahead_told x = read_ordinary f fault_told (λ P. ahead_reply P l x)

  unfoldable pub pure_told : ℕ → Told
  pure_told x = read_ordinary f fault_told (λ P. pure_reply P l x)

  unfoldable pub pure_shown : ℕ → PureNames
  pure_shown x = read_ordinary f (λ e. no_names) (λ P. pure_names_shown P l x)

  unfoldable pub interchangeable_told : ℕ → Told
  interchangeable_told x = read_ordinary f fault_told (λ P. interchangeable_reply P l x)
