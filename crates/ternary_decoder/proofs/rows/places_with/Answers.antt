use Prim.Native.Nat.{ℕ, ◌+◌, ◌^◌}
use mathlib.Core.Path.{◌≡◌, refl, sym, ap, ◌∙◌}
use mathlib.Core.List.{List}
use lib.Bits.{bit_or}
use lib.Dec.{eqb}
use native.Mathlib.Numerals.{add-one}
use native.Mathlib.Omega.{arith}
use borrow.Author.Tests.{eq-eqb, ne_eqb}
use Rattle.mask.specs.Mask.{mask_of}
use Rattle.file_constraints.specs.Ternaries.{ternary_value}
use Rattle.ternary_decoder.specs.Tables.{places_with}
use Rattle.ternary_decoder.proofs.rows.places_with.Goals as goal
use Rattle.ternary_decoder.proofs.rows.places_with.Goals.{then-value-a, else-value-a}

-- One turn: the place q, where value e of triple q is a, and where it is another.
module _ (f : List ℕ) (p e a q out next : ℕ) (i : out ≡ mask_of q (λ x. eqb a (ternary_value f p e x))) where
  held : ternary_value f p e q ≡ a → next ≡ bit_or out (2 ^ q) → next ≡ mask_of (q + 1) (λ x. eqb a (ternary_value f p e x))
  unfolding mask_of
  held s n = rw (add-one, n, i, eq-eqb a (ternary_value f p e q) (sym s)) refl

  skipped : ¬ (ternary_value f p e q ≡ a) → next ≡ out → next ≡ mask_of (q + 1) (λ x. eqb a (ternary_value f p e x))
  unfolding mask_of
  skipped s n = rw (add-one, n, i, ne_eqb a (ternary_value f p e q) (λ z. s (sym z))) refl

pub loop-q-init : goal.loop-q-init
unfolding mask_of
loop-q-init c = refl

pub loop-q-preserved : goal.loop-q-preserved
loop-q-preserved c =
    let i = c.loop-q.invariant in
    let a = c.args in
    elim c.if-value-a.branch [
      | then-value-a w ↦ held a.c.now.file.now a.c.now.place a.e a.a c.loop-q.q _ _ i (sym c.value.ensures ∙ w.if-value-a.true) (w.out-is ∙ ap (bit_or c.loop-q.out) w.single-out.ensures)
      | else-value-a w ↦ skipped a.c.now.file.now a.c.now.place a.e a.a c.loop-q.q _ _ i (λ z. w.if-value-a.false (c.value.ensures ∙ z)) w.out-is
    ]

pub returns : goal.returns
unfolding places_with
returns c = c.loop-q.invariant ∙ ap (λ (n : ℕ). mask_of n (λ x. eqb c.args.a (ternary_value c.args.c.now.file.now c.args.c.now.place c.args.e x))) (omega arith)
