-- Clauses put one behind another, and counted.
use Prim.Native.Nat.{ℕ, ◌+◌, ◌≤◌, ◌<◌}
use mathlib.Core.Path.{◌≡◌, refl, sym, ap, ◌∙◌, subst}
use mathlib.Core.Bool.{Bool, true, false, not}
use mathlib.Core.List.{List, [], ◌∷◌, ◌++◌, append-nil, append_assoc}
use native.Mathlib.Numerals.{add-one}
use native.Mathlib.Omega.{arith}
use lib.ListN.{length-append}
use borrow.Author.Tests.{lt-ltb, le-ltb}
use Rattle.mask.specs.Mask.{bit}
use Rattle.mask.specs.Upward.{Took}
use Rattle.buffer.specs.Stored.{joined}
use Rattle.buffer.specs.Put.{Put}
use Rattle.buffer.specs.declared.Text.{Text}
use Rattle.buffer.proofs.PutLaws.{put_none, put_behind}
use Rattle.buffer.proofs.StoredLaws.{joined_members, joined_empty}
use Rattle.formula.specs.Formula.{Literal, only_if}
use Rattle.formula.specs.Text.{line_end, clause_text, clauses_text}
use Rattle.solver_arrays.specs.declared.arrays.Arrays.{Arrays}
use Rattle.formula_words.specs.declared.coded.Coded.{Coded}
use Rattle.formula_words.specs.Coding.{coded_in}
use Rattle.formula_words.specs.Words.{literals_text, words_text, positives}
use Rattle.formula_words.proofs.WordLaws.{literals_both, clause-text, words_positive}
use Rattle.formula_clauses.specs.declared.Clauses.{Clauses}
use Rattle.formula_clauses.specs.Lines.{Lines, Ended}
use Rattle.formula_clauses.specs.Clauses.{for_ways, existential_of}

-- ---- texts

-- Of two lists; of one clause.
pub clauses_both : (xs ys : List (List Literal)) → clauses_text (xs ++ ys) ≡ clauses_text xs ++ clauses_text ys
unfolding clauses_text
clauses_both [] ys = refl
clauses_both (c ∷ xs) ys = ap (λ (t : List ℕ). clause_text c ++ t) (clauses_both xs ys) ∙ sym (append_assoc (clause_text c) (clauses_text xs) (clauses_text ys))

pub clauses_one : (c : List Literal) → clauses_text (c ∷ []) ≡ literals_text c ++ line_end
unfolding clauses_text
clauses_one c = append-nil (clause_text c) ∙ clause-text c

-- ---- clauses put

-- None.
pub lines_none : (s : Clauses) → Lines s [] s
unfolding clauses_text
lines_none s = record { text = put_none s.text.now; same = refl; count = omega (arith, s.within) }

module _ {s u : Clauses} where
  -- One clause: its literals, and its end.
  lines_clause : {m : Clauses} (c : List Literal) → Put s.text.now (literals_text c) m.text.now → Ended m u → m.text.ghost_name ≡ s.text.ghost_name
      → m.count ≡ s.count → Lines s (c ∷ []) u
  lines_clause c p q e n = record {
    text = subst (λ (x : List ℕ). Put s.text.now x u.text.now) (sym (clauses_one c)) (put_behind p q.text);
    same = q.same ∙ e;
    count = rw n at q.count;
  }

  -- Of literals in two parts; of booleans.
  pub lines_one : {t : Text} {m : Clauses} (xs ys : List Literal) → Put s.text.now (literals_text xs) t → Put t (literals_text ys) m.text.now → Ended m u
      → m.text.ghost_name ≡ s.text.ghost_name → m.count ≡ s.count → Lines s ((xs ++ ys) ∷ []) u
  lines_one {t} {m} xs ys p q = lines_clause (xs ++ ys) (subst (λ (x : List ℕ). Put s.text.now x m.text.now) (sym (literals_both xs ys)) (put_behind p q))

  pub lines_some : {m : Clauses} (base k : ℕ) → Put s.text.now (words_text base k) m.text.now → Ended m u → m.text.ghost_name ≡ s.text.ghost_name
      → m.count ≡ s.count → Lines s (positives base k ∷ []) u
  lines_some {m} base k p = lines_clause (positives base k) (subst (λ (x : List ℕ). Put s.text.now x m.text.now) (sym (words_positive base k)) p)

  -- One list behind another.
  pub lines_both : {t : Clauses} {xs ys : List (List Literal)} → Lines s xs t → Lines t ys u → Lines s (xs ++ ys) u
  lines_both {t} {xs} {ys} p q =
      record {
        text = subst (λ (x : List ℕ). Put s.text.now x u.text.now) (sym (clauses_both xs ys)) (put_behind p.text q.text);
        same = q.same ∙ p.same;
        count = omega (arith, length-append xs ys, p.count, q.count);
      }

  pub lines_joined : {t : Clauses} (g : ℕ → List (List Literal)) (j : ℕ) → Lines s (joined g j) t → Lines t (g j) u → Lines s (joined g (j + 1)) u
  unfolding joined
  lines_joined g j p q = rw add-one (lines_both p q)

  -- The lists of a mask's members: that of the lowest, then the others.
  pub lines_member : {w m j v : ℕ} {t : Clauses} → Took w m j v → (g : ℕ → List (List Literal)) → Lines s (g j) t
      → Lines t (joined (λ a. only_if (bit v a) (g a)) w) u → Lines s (joined (λ a. only_if (bit m a) (g a)) w) u
  unfolding only_if
  lines_member k g p q = subst (λ (cs : List (List Literal)). Lines s cs u) (sym (joined_members k (λ a b. only_if b (g a)) (λ a. refl))) (lines_both p q)

  -- Under a test that holds.
  pub lines_if : {cs : List (List Literal)} (b : Bool) → b ≡ true → Lines s cs u → Lines s (only_if b cs) u
  unfolding only_if
  lines_if b e p = rw e p

  -- For the ways of a value: for two; for one.
  pub lines_two :
      {t : Clauses} (x : Coded) (p : ℕ) (g : ℕ → List (List Literal)) → p + x.size < x.ways → Lines s (g p) t → Lines t (g (p + x.size)) u
      → Lines s (for_ways x p g) u
  unfolding for_ways only_if
  lines_two x p g h a b = rw (lt-ltb (p + x.size) x.ways h) (lines_both a b)

  pub lines_only : (x : Coded) (p : ℕ) (g : ℕ → List (List Literal)) → x.ways ≤ p + x.size → Lines s (g p) u → Lines s (for_ways x p g) u
  unfolding for_ways only_if
  lines_only x p g h a = rw (le-ltb (p + x.size) x.ways h, append-nil (g p)) a

-- Under a test that does not.
pub lines_skip : (s : Clauses) (b : Bool) (cs : List (List Literal)) → b ≡ false → Lines s (only_if b cs) s
unfolding only_if
lines_skip s b cs e = rw e (lines_none s)

-- Of a mask without members.
pub lines_empty : (s : Clauses) (w : ℕ) {m : ℕ} (g : ℕ → List (List Literal)) → m ≡ 0 → Lines s (joined (λ a. only_if (bit m a) (g a)) w) s
unfolding only_if
lines_empty s w g z = subst (λ (cs : List (List Literal)). Lines s cs s) (sym (joined_empty w (λ a b. only_if b (g a)) (λ a. refl) z)) (lines_none s)

-- ---- at least one value of a variable, by side

module _ (A : Arrays) (i : ℕ) (x : Coded) (e : x ≡ coded_in A i) where
  side : bit A.universal i ≡ x.universal
  unfolding coded_in
  side = ap (λ (z : Coded). z.universal) (sym e)

  pub existential_none : (s : Clauses) → not x.universal ≡ false → Lines s (existential_of A i) s
  unfolding existential_of
  existential_none s t = lines_skip s (not (bit A.universal i)) _ (ap not side ∙ t)

  pub existential_some : {s u : Clauses} → not x.universal ≡ true → Lines s (positives x.base x.size ∷ []) u → Lines s (existential_of A i) u
  unfolding existential_of
  existential_some {s} {u} t p =
      lines_if (not (bit A.universal i)) (ap not side ∙ t) (subst (λ (z : Coded). Lines s (positives z.base z.size ∷ []) u) e p)
