-- The whole text: measured, and put at the front of a buffer.
use mathlib.Core.Path.{◌≡◌, sym, ap, ap₂, ◌∙◌}
use mathlib.Core.List.{List, ◌++◌}
use Prim.Native.Nat.{ℕ}
use native.Mathlib.Omega.{arith}
use lib.ListN.{length, length-append}
use Rattle.buffer.specs.Stored.{stored}
use Rattle.buffer.specs.declared.Text.{Text}
use Rattle.buffer.specs.Put.{Put}
use Rattle.buffer.proofs.PutLaws.{put_behind, put-stored}
use Rattle.formula.specs.Encoding.{formula_of}
use Rattle.formula.specs.Text.{header_text}
use Rattle.formula_theory.proofs.CountLaws.{clauses_most}
use Rattle.formula_theory.proofs.TextLength.{text_most}
use Rattle.solver_arrays.specs.declared.arrays.Arrays.{Arrays}
use Rattle.formula_text.specs.Body.{booleans_in, clauses_in, body_text, Bodied}
use Rattle.formula_text.specs.Written.{Measures, Prints}
use Rattle.formula_text.proofs.ClauseLaws.{clauses_are}
use Rattle.formula_text.proofs.ModelLaws.{text_is}

module _ (A : Arrays) where
  -- All lines behind the first, then the first: the length is that of the text, which no number of 64 bits cuts.
  pub measured : {s t u : Text} {k b : ℕ} → s.at ≡ 0 → Bodied A s t k → b ≡ booleans_in A → Put t (header_text b k) u
      → Measures A (record { length = u.at; clauses = k })
  measured {s} {t} {u} {k} {b} f p e q P S =
      let many : length (clauses_in A) ≡ length (formula_of P).clauses = ap length (clauses_are P A S) in
      let few = clauses_most P (omega (arith, A.some, S.states.size)) (omega (arith, A.most, S.states.size)) in
      let n : k ≡ length (formula_of P).clauses = omega (arith, p.count) in
      let head : length (header_text b k) ≡ length (header_text (booleans_in A) (length (clauses_in A))) = ap₂ (λ x c. length (header_text x c)) e (n ∙ sym many) in
      let text = ap length (text_is P A S) in
      let parts = length-append (header_text (booleans_in A) (length (clauses_in A))) (body_text A) in
      let short = text_most P (omega (arith, A.some, S.states.size)) (omega (arith, A.most, S.states.size)) in
      (omega (arith, q.ends, p.text.ends), n)

  -- The first line, with the right number of clauses, then all others: put into l from its start on.
  pub printed : {s t u : Text} {b clauses k : ℕ} {l l' : List ℕ} → s.at ≡ 0 → s.out.now ≡ l → b ≡ booleans_in A → Put s (header_text b clauses) t
      → Bodied A t u k → l' ≡ u.out.now → Prints A clauses l l'
  printed {s} {t} {u} {b} {clauses} {k} {l} f g e p q w P S z =
      put-stored f g (put_behind p q.text) w
      ∙ ap (stored l 0)
      (ap₂ (λ x c. header_text x c ++ body_text A) e (z ∙ ap length (sym (clauses_are P A S))) ∙ sym (text_is P A S))
