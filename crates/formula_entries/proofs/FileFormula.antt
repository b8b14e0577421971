-- The entries over an accepted file: the text is the formula of its ordinary problem, that formula has the verdict of the file's game with
-- three-way constraints, and so the judging entry tells.
use Prim.Native.Nat.{ℕ}
use mathlib.Core.Path.{◌≡◌, refl, sym, ap, ◌∙◌}
use mathlib.Core.Bool.{Bool, cond}
use mathlib.Core.List.{List, [], ◌∷◌}
use lib.ListN.{length}
use Rattle.refusal.specs.Chain.{Fine}
use Rattle.refusal.specs.Told.{replied}
use Rattle.refusal.proofs.RepliedLaws.{reply_told}
use Rattle.game.specs.Problem.{Problem}
use Rattle.game.specs.Ternary.{ternary_verdict}
use Rattle.ternary_theory.proofs.Expansion.{expanded_won}
use Rattle.file_reader.specs.Reading.{verdict_of}
use Rattle.file_decoder.specs.FileProblem.{ternary_of, ordinary_of}
use Rattle.file_decoder.proofs.FileLaws.{ordinary-some, ordinary_most}
use Rattle.file_decoder.proofs.ReadLaws.{read_fine}
use Rattle.formula.specs.Formula.{judge_formula}
use Rattle.formula.specs.Encoding.{formula_of}
use Rattle.formula.specs.Text.{read_text}
use Rattle.formula_theory.proofs.FormulaVerdict.{formula_verdict}
use Rattle.formula_theory.proofs.Printed.{formula_read_back}
use Rattle.formula_text.specs.Written.{text_for}
use Rattle.formula_entries.specs.Told.{formula_test, formula_reply, judge_formula_reply, formula_told, judge_formula_told}

module _ (f : List ℕ) (fine : verdict_of f ≡ Fine) where
  abbrev P : Problem
  P = ordinary_of f fine

  abbrev won : Bool
  won = ternary_verdict (ternary_of f fine) []

  formula-won : judge_formula (formula_of P) ≡ won
  unfolding ordinary_of
  formula-won = formula_verdict P ∙ expanded_won (ternary_of f fine)

  -- Whoever reads the text finds a formula with the verdict of the file's game.
  pub text_won : judge_formula (read_text (text_for P)) ≡ won
  text_won = ap judge_formula (formula_read_back P (ordinary-some f fine) (ordinary_most f fine)) ∙ formula-won

  -- Where the text fits, writing it tells its length, and judging it that verdict before the length.
  pub file_formula : (room : ℕ) → formula_test P room ≡ Fine
      → (formula_told f room ≡ replied (length (text_for P) ∷ [])) × (judge_formula_told f room ≡ replied (cond won 1 0 ∷ length (text_for P) ∷ []))
  unfolding formula_told judge_formula_told formula_reply judge_formula_reply ordinary_of
  file_formula room t = (
    read_fine f _ _ fine ∙ sym (reply_told (formula_test P room) _ refl t refl),
    read_fine f _ _ fine ∙ sym (reply_told (formula_test P room) _ refl t refl)
        ∙ ap (λ (b : Bool). replied (cond b 1 0 ∷ length (text_for P) ∷ [])) (expanded_won (ternary_of f fine)),
  )
