-- The lines of the prefix that the code forms are those of the problem's formula.
use mathlib.Core.Path.{◌≡◌, refl, sym, ap, ap₂, ◌∙◌}
use mathlib.Core.Bool.{Bool, true, false, cond}
use mathlib.Core.List.{List, [], ◌∷◌, ◌++◌, append_assoc}
use Prim.Native.Nat.{ℕ, zero, suc, ◌+◌, ◌-◌, ◌<◌}
use native.Mathlib.Nat.{add-zero, zero-add}
use native.Mathlib.Omega.{arith}
use lib.Dec.{eqb-suc-zero}
use borrow.Author.Tests.{eq-eqb}
use Rattle.buffer.specs.Decimal.{decimal}
use Rattle.buffer.specs.Stored.{joined}
use Rattle.buffer.proofs.StoredLaws.{joined_same, joined-from}
use Rattle.game.specs.Problem.{Problem}
use Rattle.formula.specs.Formula.{Quantified, only_if}
use Rattle.formula.specs.Encoding.{run, width, base, closes, fresh, prefix_from, formula_of}
use Rattle.formula.specs.Text.{blank, line_end, letter, line_start, in_line, prefix_text}
use Rattle.formula_theory.proofs.Widths.{width_some}
use Rattle.solver_arrays.specs.declared.arrays.Arrays.{Arrays}
use Rattle.solver_arrays.specs.Arrays.{Poses}
use Rattle.formula_words.specs.declared.coded.Coded.{Coded}
use Rattle.formula_words.specs.Coding.{coded_in}
use Rattle.formula_words.specs.Words.{words_text}
use Rattle.formula_text.specs.Body.{turn_text, opening_text, block_text, blocks_text, fresh_text, prefix_lines}
use Rattle.formula_text.proofs.CodedLaws.{code_of, side_is, coded_is, all_is, closes_is}

-- ---- one block

-- The first of the booleans behind b, then the others.
words-first : (b k : ℕ) → words_text b (suc k) ≡ (decimal (suc b) ++ blank) ++ words_text (suc b) k
unfolding words_text
words-first b k = joined-from (λ x. decimal (suc x) ++ blank) b k

words-one : (b : ℕ) → words_text b 1 ≡ decimal (suc b) ++ blank
unfolding words_text joined
words-one b = rw add-zero

words_on : (b k : ℕ) (xs ys : List ℕ) → xs ≡ words_text (suc b) k ++ ys → (decimal (suc b) ++ blank) ++ xs ≡ words_text b (suc k) ++ ys
words_on b k xs ys e =
    ap (λ zs. (decimal (suc b) ++ blank) ++ zs) e
    ∙ sym (append_assoc (decimal (suc b) ++ blank) (words_text (suc b) k) ys)
    ∙ ap (λ zs. zs ++ ys) (sym (words-first b k))

-- The booleans of a block, inside a line of its side.
block_in : (u : Bool) (b k : ℕ) (qs : List Quantified) → in_line u (run u (suc b) k ++ qs) ≡ words_text b k ++ in_line u qs
unfolding in_line run words_text joined
block_in u b zero qs = refl
block_in u b (suc k) qs =
    rw (eq-eqb (letter u) (letter u) refl)
    (words_on b k (in_line u (run u (suc (suc b)) k ++ qs)) (in_line u qs) (block_in u (suc b) k qs))

-- A block behind a line of side u; one that comes first.
block_next : (u w : Bool) (b k : ℕ) (qs : List Quantified) → 0 < k → in_line u (run w (suc b) k ++ qs) ≡ turn_text u w ++ (words_text b k ++ in_line w qs)
unfolding turn_text in_line run letter
block_next u w b zero qs h = absurd (omega arith)
block_next true true b (suc k) qs h = block_in true b (suc k) qs
block_next false false b (suc k) qs h = block_in false b (suc k) qs
block_next true false b (suc k) qs h =
    ap (λ xs. (line_end ++ line_start false) ++ xs) (words_on b k (in_line false (run false (suc (suc b)) k ++ qs)) (in_line false qs) (block_in false (suc b) k qs))
block_next false true b (suc k) qs h =
    ap (λ xs. (line_end ++ line_start true) ++ xs) (words_on b k (in_line true (run true (suc (suc b)) k ++ qs)) (in_line true qs) (block_in true (suc b) k qs))

block_first : (w : Bool) (b k : ℕ) (qs : List Quantified) → 0 < k → prefix_text (run w (suc b) k ++ qs) ≡ line_start w ++ (words_text b k ++ in_line w qs)
unfolding prefix_text run
block_first w b zero qs h = absurd (omega arith)
block_first w b (suc k) qs h = ap (λ xs. line_start w ++ xs) (words_on b k (in_line w (run w (suc (suc b)) k ++ qs)) (in_line w qs) (block_in w (suc b) k qs))

-- The end of the lines: the closing boolean if the last variable is universal.
unfoldable end_text : Bool → ℕ → List ℕ
end_text closes b = cond closes (turn_text true false ++ words_text b 1) [] ++ line_end

end_is : (u : Bool) (b : ℕ) → in_line u (only_if u (record { universal = false; boolean = suc b } ∷ [])) ≡ end_text u b
unfolding end_text in_line only_if turn_text letter
end_is true b = ap (λ xs. (line_end ++ line_start false) ++ (xs ++ line_end)) (sym (words-one b))
end_is false b = refl

-- ---- all blocks

module _ (P : Problem) (A : Arrays) (S : Poses P A) where
  open P use {universal}

  -- The booleans of a variable, with what stands before them.
  words_are : (i : ℕ) → i < A.n → words_text (coded_in A i).base (coded_in A i).width ≡ words_text (base P i) (width P i)
  unfolding code_of
  words_are i h = ap (λ (x : Coded). words_text x.base x.width) (coded_is P A S i h)

  opening_is : (i : ℕ) → suc i < A.n → opening_text A.universal (suc i) ≡ turn_text (universal i) (universal (suc i))
  unfolding opening_text
  opening_is i h =
      let e : suc i - 1 ≡ i = omega arith in
      rw (eqb-suc-zero i, e) (ap₂ turn_text (side_is P A S i (omega arith)) (side_is P A S (suc i) h))

  block_is : (i : ℕ) → suc i < A.n → block_text A (suc i) ≡ turn_text (universal i) (universal (suc i)) ++ words_text (base P (suc i)) (width P (suc i))
  unfolding block_text
  block_is i h = ap₂ (λ xs ys. xs ++ ys) (opening_is i h) (words_are (suc i) h)

  block_zero : 0 < A.n → block_text A 0 ≡ line_start (universal 0) ++ words_text (base P 0) (width P 0)
  unfolding block_text opening_text
  block_zero h = ap₂ (λ xs ys. xs ++ ys) (ap (λ u. line_start u) (side_is P A S 0 h)) (words_are 0 h)

  last_is : (i : ℕ) → suc i ≡ A.n → universal i ≡ closes P
  unfolding closes
  last_is i e = ap universal (omega (arith, S.states.size))

  -- The k variables behind i.
  lines_behind : (k i : ℕ) → k + suc i ≡ A.n → in_line (universal i) (prefix_from P k (suc i)) ≡ joined (λ t. block_text A (suc i + t)) k ++ end_text (closes P) (base P P.n)
  unfolding prefix_from fresh joined
  lines_behind zero i e =
      ap (λ u. in_line u (only_if (closes P) (record { universal = false; boolean = suc (base P P.n) } ∷ []))) (last_is i (omega arith))
      ∙ end_is (closes P) (base P P.n)
  lines_behind (suc k) i e =
      let t = turn_text (universal i) (universal (suc i)) in
      let w = words_text (base P (suc i)) (width P (suc i)) in
      let end = end_text (closes P) (base P P.n) in
      block_next (universal i) (universal (suc i)) (base P (suc i)) (width P (suc i)) (prefix_from P k (suc (suc i))) (width_some P (suc i) (omega (arith, S.states.size)))
      ∙ sym (append_assoc t w (in_line (universal (suc i)) (prefix_from P k (suc (suc i)))))
      ∙ ap₂ (λ xs ys. xs ++ ys) (sym (block_is i (omega arith))) (lines_behind k (suc i) (omega arith))
      ∙ sym (append_assoc (block_text A (suc i)) (joined (λ t. block_text A (suc (suc i) + t)) k) end)
      ∙ ap (λ xs. xs ++ end) (sym (joined-from (block_text A) (suc i) k))

  lines_all : (k : ℕ) → suc k ≡ A.n → prefix_text (prefix_from P (suc k) 0) ≡ joined (block_text A) (suc k) ++ end_text (closes P) (base P P.n)
  unfolding prefix_from
  lines_all k e =
      let w = words_text (base P 0) (width P 0) in
      let end = end_text (closes P) (base P P.n) in
      block_first (universal 0) (base P 0) (width P 0) (prefix_from P k 1) (width_some P 0 (omega (arith, S.states.size)))
      ∙ sym (append_assoc (line_start (universal 0)) w (in_line (universal 0) (prefix_from P k 1)))
      ∙ ap₂ (λ xs ys. xs ++ ys) (sym (block_zero (omega arith))) (lines_behind k 0 (omega arith))
      ∙ sym (append_assoc (block_text A 0) (joined (λ t. block_text A (1 + t)) k) end)
      ∙ ap (λ xs. xs ++ end) (sym (joined-from (block_text A) 0 k) ∙ joined_same (λ t. block_text A (0 + t)) (block_text A) (suc k) (λ i h. ap (block_text A) (zero-add i)))

  pub prefix_is : prefix_lines A ≡ prefix_text (formula_of P).prefix
  unfolding prefix_lines fresh_text blocks_text formula_of end_text
  prefix_is =
      let e : suc (A.n - 1) ≡ A.n = omega (arith, A.some) in
      let e' : suc (A.n - 1) ≡ P.n = omega (arith, A.some, S.states.size) in
      ap₂ (λ xs ys. xs ++ ys) (ap (joined (block_text A)) (sym e)) (ap₂ end_text (closes_is P A S) (all_is P A S))
      ∙ sym (lines_all (A.n - 1) e)
      ∙ ap (λ k. prefix_text (prefix_from P k 0)) e'
