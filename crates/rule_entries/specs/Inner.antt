-- The rules over the arrays A and a lent list, in every problem that these state.
use Rattle.std.specs.Prelude.{ℕ, ◌≡◌, Bool, List, Result, Option}
use Rattle.refusal.specs.declared.reason.Reason.{Reason}
use Rattle.refusal.specs.Told.{reason_told, told_by}
use Rattle.game.specs.Problem.{Problem}
use Rattle.rule_forward.specs.declared.steps.Ahead.{Ahead}
use Rattle.rule_narrow.specs.declared.names.PureNames.{PureNames}
use Rattle.solver_arrays.specs.declared.arrays.Arrays.{Arrays}
use Rattle.solver_arrays.specs.Arrays.{Poses}
use Rattle.rule_entries.specs.Alone.{loss_values, check_values, look_values, mask_values, name_values, names_shown, arc_reply, arc_list, forward_reply, forward_list, ahead_reply, pure_reply, pure_names_shown, interchangeable_reply}

-- What the rules reply on any list.
module _ (A : Arrays) where
  abbrev pub ArcIn : List ℕ → List ℕ → Result Bool Reason → Type 0
  ArcIn l l' r = (P : Problem) → Poses P A → (told_by loss_values reason_told r ≡ arc_reply P l) × (l' ≡ arc_list P l)

  abbrev pub ForwardIn : List ℕ → List ℕ → ℕ → ℕ → Result (Option ℕ) Reason → Type 0
  ForwardIn l l' x a r = (P : Problem) → Poses P A → (told_by check_values reason_told r ≡ forward_reply P l x a) × (l' ≡ forward_list P l x a)

  abbrev pub AheadIn : List ℕ → ℕ → Result (Option Ahead) Reason → Type 0
  AheadIn l x r = (P : Problem) → Poses P A → told_by look_values reason_told r ≡ ahead_reply P l x

  abbrev pub PureIn : List ℕ → ℕ → Result PureNames Reason → Type 0
  PureIn l x r = (P : Problem) → Poses P A → (told_by name_values reason_told r ≡ pure_reply P l x) × (names_shown r ≡ pure_names_shown P l x)

  abbrev pub InterchangeableIn : List ℕ → ℕ → Result ℕ Reason → Type 0
  InterchangeableIn l x r = (P : Problem) → Poses P A → told_by mask_values reason_told r ≡ interchangeable_reply P l x
