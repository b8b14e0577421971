-- Each reply as the code makes it of an answer: kind, number and place of the answer, the values of a finished one, and else zeros.
use mathlib.Core.Path.{◌≡◌, refl}
use mathlib.Core.Bool.{Bool, true, false, cond}
use mathlib.Core.List.{[], ◌∷◌}
use Prim.Native.Nat.{ℕ}
use mir.Val.{bool_byte}
use lib.ListN.{replicate}
use Rattle.std.specs.Prelude.{Result, Ok, Err, Option, None, Some, unwrap_or, is_some}
use Rattle.std.specs.Option.{UnwrapsOrElse}
use Rattle.std.specs.Result.{result_unwrap_or, ResultUnwrapsOrElse}
use Rattle.refusal.specs.declared.reason.Refusal.{Refusal}
use Rattle.refusal.specs.declared.reason.Refusal.TheVariants.{InFile, InCall}
use Rattle.refusal.specs.Told.{refusal_told, told_by}
use Rattle.file_lookup.specs.Lookup.{told as toldFound}
use Rattle.game.specs.Lists.{spread}
use Rattle.session.specs.declared.Opened.{Opened}
use Rattle.session.specs.Told.{told_opened, masks_in, counts_in}
use Rattle.search_steps.specs.declared.Outcome.TheVariants.{Lost}
use Rattle.search_steps.specs.TurnReply.{won_of, loss_of, set_of}
use Rattle.search_run.specs.declared.Ran.{Ran}
use Rattle.judging.specs.Judging.{told as toldJudged}
use Rattle.judging.specs.Searching.{found, findings_of, nothing}
use Rattle.marking.specs.declared.Marks.{Marks as Marked}
use Rattle.marking.specs.Marking.{told as toldMarked}
use Rattle.rule_forward.specs.declared.steps.Ahead.{Ahead}
use Rattle.rule_narrow.specs.declared.names.PureNames.{PureNames}
use Rattle.rule_entries.specs.Alone.{told as toldRuled, told_check, told_look, told_pure, no_names, names_shown, told_values}
use Rattle.formula_entries.specs.declared.JudgedFormula.{JudgedFormula}
use Rattle.formula_entries.specs.Told.{told_judged}
use Rattle.host_replies.specs.declared.files.FoundRows.{FoundRows}
use Rattle.host_replies.specs.declared.files.WrittenBytes.{WrittenBytes}
use Rattle.host_replies.specs.declared.calls.CallAnswer.{CallAnswer}
use Rattle.host_replies.specs.declared.calls.OpenMasks.{OpenMasks}
use Rattle.host_replies.specs.declared.formula_judgements.FormulaJudgement.{FormulaJudgement}
use Rattle.host_replies.specs.declared.games.Judgement.{Judgement}
use Rattle.host_replies.specs.declared.games.Marks.{Marks}
use Rattle.host_replies.specs.declared.games.SearchFindings.{SearchFindings}
use Rattle.host_replies.specs.declared.arcs.RuledList.{RuledList}
use Rattle.host_replies.specs.declared.checks.CheckedList.{CheckedList}
use Rattle.host_replies.specs.declared.looks.LookedAhead.{LookedAhead}
use Rattle.host_replies.specs.declared.names.NamedValues.{NamedValues}
use Rattle.host_replies.specs.declared.values.ValueMask.{ValueMask}
use Rattle.host_replies.specs.Replies.{kind_of, number_of, place_of, value_of, count_from, found_of, written_of, answer_of, opened_of, judgement_of, marks_of, searched_of, ruled_of, checked_of, looked_of, named_of, values_of, formula_judgement_of}

-- Kind, number and place of an answer.
abbrev pub head_of : {A : Type 0} → Result A Refusal → CallAnswer
head_of r = answer_of (told_by (λ x. []) refusal_told r)

pub found_rows : (r : Result (Option ℕ) Refusal) →
    let a = head_of r in
    let rows = result_unwrap_or r None in
    ◌≡◌ {A = FoundRows} (record { kind = a.kind; number = a.number; place = a.place; found = bool_byte (is_some rows); rows = unwrap_or rows 0 }) (found_of (toldFound r))
unfolding found_of answer_of kind_of number_of place_of value_of count_from
found_rows (Ok None) = refl
found_rows (Ok (Some p)) = refl
found_rows (Err (InFile f)) = refl
found_rows (Err (InCall e)) = refl

pub written_bytes : (r : Result ℕ Refusal) →
    let a = head_of r in
    ◌≡◌ {A = WrittenBytes} (record { kind = a.kind; number = a.number; place = a.place; length = result_unwrap_or r 0 }) (written_of (told_by (λ k. k ∷ []) refusal_told r))
unfolding written_of answer_of kind_of number_of place_of value_of
written_bytes (Ok k) = refl
written_bytes (Err (InFile f)) = refl
written_bytes (Err (InCall e)) = refl

pub open_masks : (r : Result Opened Refusal) →
    let a = head_of r in
    let o = result_unwrap_or r (record { masks = replicate 32 0; counts = replicate 32 0 }) in
    ◌≡◌ {A = OpenMasks} (record { kind = a.kind; number = a.number; place = a.place; masks = o.masks; counts = o.counts }) (opened_of (told_opened r) (masks_in r) (counts_in r))
unfolding told_opened masks_in counts_in opened_of answer_of kind_of number_of place_of
open_masks (Ok o) = refl
open_masks (Err (InFile f)) = refl
open_masks (Err (InCall e)) = refl

pub judgement : (r : Result Bool Refusal) →
    let a = head_of r in
    ◌≡◌ {A = Judgement} (record { kind = a.kind; number = a.number; place = a.place; won = bool_byte (result_unwrap_or r false) }) (judgement_of (toldJudged r))
unfolding judgement_of answer_of kind_of number_of place_of value_of
judgement (Ok true) = refl
judgement (Ok false) = refl
judgement (Err (InFile f)) = refl
judgement (Err (InCall e)) = refl

pub marks : (r : Result Marked Refusal) (m : Marked) → ResultUnwrapsOrElse r (λ z. (z.winning ≡ 0) × (z.domain ≡ 0)) m →
    let a = head_of r in
    ◌≡◌ {A = Marks} (record { kind = a.kind; number = a.number; place = a.place; winning = m.winning; domain = m.domain }) (marks_of (toldMarked r))
unfolding marks_of answer_of kind_of number_of place_of value_of
marks (Ok x) m d = rw d refl
marks (Err (InFile f)) m d = rw (d.0, d.1) refl
marks (Err (InCall e)) m d = rw (d.0, d.1) refl

-- A flag as a number.
flag : (b : Bool) → bool_byte b ≡ cond b 1 0
flag true = refl
flag false = refl

pub findings : (r : Result Ran Refusal) →
    let a = head_of r in
    let s = result_unwrap_or r (record { outcome = Lost false 0; list = replicate 32 0; leaf = replicate 32 0 }) in
    ◌≡◌ {A = SearchFindings} (record { kind = a.kind; number = a.number; place = a.place; won = bool_byte (won_of s.outcome); loss = bool_byte (loss_of s.outcome); conflict = set_of s.outcome; list = s.list; leaf = s.leaf }) (searched_of (found r))
unfolding spread findings_of nothing searched_of answer_of kind_of number_of place_of value_of
findings (Ok s) = rw (flag (won_of s.outcome), flag (loss_of s.outcome)) refl
findings (Err (InFile f)) = refl
findings (Err (InCall e)) = refl

pub ruled_list : (r : Result Bool Refusal) →
    let a = head_of r in
    ◌≡◌ {A = RuledList} (record { kind = a.kind; number = a.number; place = a.place; lost = bool_byte (result_unwrap_or r false) }) (ruled_of (toldRuled r))
unfolding ruled_of answer_of kind_of number_of place_of value_of
ruled_list (Ok true) = refl
ruled_list (Ok false) = refl
ruled_list (Err (InFile f)) = refl
ruled_list (Err (InCall e)) = refl

pub checked_list : (r : Result (Option ℕ) Refusal) →
    let a = head_of r in
    let named = result_unwrap_or r None in
    ◌≡◌ {A = CheckedList} (record { kind = a.kind; number = a.number; place = a.place; lost = bool_byte (is_some named); variable = unwrap_or named 0 }) (checked_of (told_check r))
unfolding checked_of answer_of kind_of number_of place_of value_of
checked_list (Ok None) = refl
checked_list (Ok (Some j)) = refl
checked_list (Err (InFile f)) = refl
checked_list (Err (InCall e)) = refl

pub looked_ahead : (r : Result (Option Ahead) Refusal) (h : Ahead) → UnwrapsOrElse (result_unwrap_or r None) (λ z. (z.value ≡ 0) × (z.variable ≡ 0)) h →
    let a = head_of r in
    let named = result_unwrap_or r None in
    ◌≡◌ {A = LookedAhead} (record { kind = a.kind; number = a.number; place = a.place; lost = bool_byte (is_some named); value = h.value; variable = h.variable }) (looked_of (told_look r))
unfolding looked_of answer_of kind_of number_of place_of value_of
looked_ahead (Ok None) h d = rw (d.0, d.1) refl
looked_ahead (Ok (Some x)) h d = rw d refl
looked_ahead (Err (InFile f)) h d = rw (d.0, d.1) refl
looked_ahead (Err (InCall e)) h d = rw (d.0, d.1) refl

pub named_values : (r : Result PureNames Refusal) →
    let a = head_of r in
    let s = result_unwrap_or r (record { pure = 0; impure = 0; variables = replicate 16 0; values = replicate 16 0 }) in
    ◌≡◌ {A = NamedValues} (record { kind = a.kind; number = a.number; place = a.place; pure = s.pure; impure = s.impure; variables = s.variables; values = s.values }) (named_of (told_pure r) (names_shown r))
unfolding named_of no_names answer_of kind_of number_of place_of
named_values (Ok s) = refl
named_values (Err (InFile f)) = refl
named_values (Err (InCall e)) = refl

pub value_mask : (r : Result ℕ Refusal) (a : CallAnswer) → a ≡ head_of r → (kind : ℕ) → kind ≡ a.kind →
    ◌≡◌ {A = ValueMask} (record { kind = kind; number = a.number; place = a.place; values = result_unwrap_or r 0 }) (values_of (told_values r))
unfolding values_of answer_of kind_of number_of place_of value_of
value_mask (Ok m) a e kind k = rw (k, e) refl
value_mask (Err (InFile f)) a e kind k = rw (k, e) refl
value_mask (Err (InCall d)) a e kind k = rw (k, e) refl

pub formula_judgement : (r : Result JudgedFormula Refusal) (j : JudgedFormula) → ResultUnwrapsOrElse r (λ z. (z.won ≡ false) × (z.length ≡ 0)) j →
    let a = head_of r in
    ◌≡◌ {A = FormulaJudgement} (record { kind = a.kind; number = a.number; place = a.place; won = bool_byte j.won; length = j.length }) (formula_judgement_of (told_judged r))
unfolding formula_judgement_of answer_of kind_of number_of place_of value_of
formula_judgement (Ok x) j d = rw (d, flag x.won) refl
formula_judgement (Err (InFile f)) j d = rw (d.0, d.1) refl
formula_judgement (Err (InCall e)) j d = rw (d.0, d.1) refl
