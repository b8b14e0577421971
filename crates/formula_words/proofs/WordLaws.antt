-- The text of literals, and literals put one behind another.
use mathlib.Core.Path.{◌≡◌, refl, sym, ap, ap₂, ◌∙◌, subst}
use mathlib.Core.Bool.{Bool, true, false, not}
use mathlib.Core.List.{List, [], ◌∷◌, ◌++◌, append-nil, append_assoc}
use Prim.Native.Nat.{ℕ, zero, suc, ◌+◌}
use native.Mathlib.Numerals.{add-one}
use Rattle.mask.specs.Mask.{bit}
use Rattle.buffer.specs.Decimal.{decimal}
use Rattle.buffer.specs.Stored.{joined}
use Rattle.buffer.specs.Put.{Put}
use Rattle.buffer.specs.declared.Text.{Text}
use Rattle.buffer.proofs.PutLaws.{put_behind, put-joined}
use Rattle.formula.specs.Formula.{Literal}
use Rattle.formula.specs.Text.{blank, line_end, literal_text, clause_text}
use Rattle.formula_words.specs.declared.coded.Coded.{Coded}
use Rattle.formula_words.specs.Words.{literal_word, literals_text, words_text, positives, bits_denied, denial_of}

-- ---- texts

-- Of two lists; of one literal; of one literal for each number.
pub literals_both : (xs ys : List Literal) → literals_text (xs ++ ys) ≡ literals_text xs ++ literals_text ys
unfolding literals_text
literals_both [] ys = refl
literals_both (l ∷ xs) ys =
    ap (λ (t : List ℕ). literal_word l.positive l.boolean ++ t) (literals_both xs ys)
    ∙ sym (append_assoc (literal_word l.positive l.boolean) (literals_text xs) (literals_text ys))

pub literals_one : (l : Literal) → literals_text (l ∷ []) ≡ literal_word l.positive l.boolean
unfolding literals_text
literals_one l = append-nil (literal_word l.positive l.boolean)

pub literals_joined : (g : ℕ → Literal) (k : ℕ) → literals_text (joined (λ t. g t ∷ []) k) ≡ joined (λ t. literal_word (g t).positive (g t).boolean) k
unfolding joined literals_text
literals_joined g zero = refl
literals_joined g (suc k) = literals_both (joined (λ t. g t ∷ []) k) (g k ∷ []) ∙ ap₂ ◌++◌ (literals_joined g k) (literals_one (g k))

-- Of a clause: its literals, and the end of the line. Of booleans: as literals, and as numbers.
pub clause-text : (ls : List Literal) → clause_text ls ≡ literals_text ls ++ line_end
unfolding clause_text literals_text literal_word literal_text
clause-text [] = refl
clause-text (l ∷ ls) =
    ap (λ (t : List ℕ). (literal_text l ++ blank) ++ t) (clause-text ls) ∙ sym (append_assoc (literal_text l ++ blank) (literals_text ls) line_end)

pub words_positive : (base k : ℕ) → literals_text (positives base k) ≡ words_text base k
unfolding positives words_text literal_word literal_text
words_positive base k = literals_joined (λ t. record { positive = true; boolean = suc (base + t) }) k

-- ---- literals put

module _ {s u : Text} where
  -- A boolean; a minus and a boolean.
  pub put_positive : (b : Bool) (x : ℕ) → b ≡ true → Put s (decimal x ++ blank) u → Put s (literal_word b x) u
  unfolding literal_word literal_text
  put_positive b x e p = rw e p

  pub put-negative : {t : Text} (b : Bool) (x : ℕ) → b ≡ false → Put s (45 ∷ []) t → Put t (decimal x ++ blank) u → Put s (literal_word b x) u
  unfolding literal_word literal_text
  put-negative b x e p q = rw e (put_behind p q)

  -- One boolean more.
  pub words_more : {t : Text} (base i : ℕ) → Put s (words_text base i) t → Put t (decimal (base + i + 1) ++ blank) u → Put s (words_text base (i + 1)) u
  unfolding words_text
  words_more base i p q = rw add-one (put-joined (λ i. decimal (suc (base + i)) ++ blank) i p (rw add-one at q))

  -- One bit more.
  pub bits_more :
      {t : Text} (base i c : ℕ) (b : Bool) → b ≡ bit c i → Put s (literals_text (bits_denied base i c)) t
      → Put t (literal_word (not b) (base + i + 1)) u → Put s (literals_text (bits_denied base (i + 1) c)) u
  unfolding bits_denied
  bits_more {t} base i c b z p q =
      let g : ℕ → Literal = λ i. record { positive = not (bit c i); boolean = suc (base + i) } in
      let w : ℕ → List ℕ = λ i. literal_word (not (bit c i)) (suc (base + i)) in
      rw add-one
      (subst (λ (x : List ℕ). Put s x u) (sym (literals_joined g (suc i)))
      (put-joined w i (subst (λ (x : List ℕ). Put s x t) (literals_joined g i) p) (rw (z, add-one) at q)))

  -- The literals that deny a way, by side.
  pub put_code : (x : Coded) (c : ℕ) → x.universal ≡ true → Put s (literals_text (bits_denied x.base x.width c)) u → Put s (literals_text (denial_of x c)) u
  unfolding denial_of
  put_code x c e p = rw e p

  pub put_boolean : (x : Coded) (c : ℕ) → x.universal ≡ false → Put s (literal_word false (x.base + c + 1)) u → Put s (literals_text (denial_of x c)) u
  unfolding denial_of
  put_boolean x c e p =
      rw e (subst (λ (y : List ℕ). Put s y u) (sym (literals_one (record { positive = false; boolean = suc (x.base + c) }))) (rw add-one at p))
