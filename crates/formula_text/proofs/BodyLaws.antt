-- The lines behind the first put one behind another.
use mathlib.Core.Path.{◌≡◌, sym, subst}
use mathlib.Core.Bool.{Bool, true, false}
use mathlib.Core.List.{[], ◌∷◌}
use Prim.Native.Nat.{ℕ}
use native.Mathlib.Omega.{arith}
use Rattle.buffer.specs.declared.Text.{Text}
use Rattle.buffer.specs.Put.{Put}
use Rattle.buffer.proofs.PutLaws.{put_behind}
use Rattle.formula.specs.Formula.{only_if}
use Rattle.solver_arrays.specs.declared.arrays.Arrays.{Arrays}
use Rattle.formula_words.specs.Words.{positives}
use Rattle.formula_clauses.specs.declared.Clauses.{Clauses}
use Rattle.formula_clauses.specs.Lines.{Lines}
use Rattle.formula_clauses.specs.Clauses.{constraints_of, existentials_of}
use Rattle.formula_clauses.proofs.LineLaws.{lines_both, lines_if, lines_skip}
use Rattle.formula_text.specs.Body.{closes_in, all_in, prefix_lines, clauses_in, body_text, Bodied}

-- The closing clause, where there is one and where there is none.
pub closing_put : {s u : Clauses} (A : Arrays) (c : Bool) (b : ℕ) → c ≡ closes_in A → c ≡ true → b ≡ all_in A → Lines s (positives b 1 ∷ []) u
    → Lines s (only_if (closes_in A) (positives (all_in A) 1 ∷ [])) u
closing_put A c b f t z p = rw (← f, ← z) (lines_if c t p)

pub closing_none : (s : Clauses) (A : Arrays) (c : Bool) → c ≡ closes_in A → c ≡ false → Lines s (only_if (closes_in A) (positives (all_in A) 1 ∷ [])) s
closing_none s A c f t = rw (← f) (lines_skip s c (positives (all_in A) 1 ∷ []) t)

-- All of them.
pub body_put : {s : Text} {a b d u : Clauses} (A : Arrays) → Put s (prefix_lines A) a.text.now → a.count ≡ 0 → Lines a (existentials_of A) b
    → Lines b (constraints_of A) d → Lines d (only_if (closes_in A) (positives (all_in A) 1 ∷ [])) u
    → {t : Text} → t ≡ u.text.now → Bodied A s t u.count
unfolding body_text clauses_in
body_put {s} A p e x y z q =
    let w = lines_both (lines_both x y) z in
    record { text = subst (λ (t : Text). Put s (body_text A) t) (sym q) (put_behind p w.text); count = omega (arith, w.count, e) }
