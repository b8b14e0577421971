-- A clause of the text, literal by literal.
use mathlib.Core.Path.{◌≡◌, refl, sym, ap, ◌∙◌, subst}
use mathlib.Core.Bool.{Bool, true, false, beq, cond, not, ◌||◌}
use mathlib.Core.List.{List, [], ◌∷◌}
use denote.Param.Members.{Mut}
use Rattle.std.specs.Prelude.{Option, None, Some}
use Rattle.std.specs.Option.{MatchOption}
use Rattle.std.specs.Fn.{Called}
use Rattle.std.specs.List.{FoldsTo}
use Rattle.std.specs.Iterator.{YieldsThen, ChecksAny}
use Rattle.formula.specs.Formula.{Literal, Assignment, literal_holds, clause_holds}
use Rattle.formula.specs.Text.{literals_at}
use Rattle.formula_index.specs.declared.line.Line.{Line}
use Rattle.formula_index.specs.declared.line.Literal.{Literal as Read}
use Rattle.formula_index.specs.Reading.{literal_of, Reads}

-- The literals that are left of a line.
abbrev left_of : Line → List Literal
left_of l = literals_at l.text.now l.left l.place

-- One call of the line's iterator.
abbrev pub Steps : Line → Option Read → Line → Type 0
Steps l r u = Reads l.text.now l.left l.place r u.text.now u.left u.place

module _ (s : Assignment) where
  -- A clause holds where its first literal does, or where the others do.
  clause_first : (x : Read) (ls : List Literal) → clause_holds s (literal_of x ∷ ls) ≡ (not (beq (s x.boolean) x.negative) || clause_holds s ls)
  unfolding clause_holds literal_holds
  clause_first x ls = ap (λ (b : Bool). b || clause_holds s ls) (go (s x.boolean) x.negative)
    where
      go : (a b : Bool) → cond (not b) a (not a) ≡ not (beq a b)
      go true true = refl
      go true false = refl
      go false true = refl
      go false false = refl

  -- `any` of its literals is the clause.
  pub any-clause :
      {F : Type 0} (g : Mut F (Read × Unit {0}) Bool) (f : F) (l u : Line) (r : Bool) (ls : List Literal)
      → ChecksAny Steps g l f r u → left_of l ≡ ls
      → ((x : Read) (b : Bool) (q : F) → Called g f (x, tt) b q → (q ≡ f) × (b ≡ not (beq (s x.boolean) x.negative))) → r ≡ clause_holds s ls
  unfolding clause_holds
  any-clause {F} g f l u r ls a e c = go a.0 l a.1 a.2 a.3 a.4 a.5 ∙ ap (clause_holds s) e
    where
      go :
          (xs : List Read) (l : Line) (o : Option Read) (f' : F) → YieldsThen Steps l xs o u → FoldsTo (λ p x q. Called g p (x, tt) false q) f xs f'
          → MatchOption o (r ≡ false) (λ x. (r ≡ true) × ((h : F) × Called g f' (x, tt) true h)) → r ≡ clause_holds s (left_of l)
      go [] l None f' y k m = m ∙ sym (ap (λ (l : Line). clause_holds s (left_of l)) y.1 ∙ ap (clause_holds s) y.2.gives.0)
      go [] l (Some x) f' y k m =
          let d = c x true m.1.0 (subst (λ (j : F). Called g j (x, tt) true m.1.0) (sym k) m.1.1) in
          m.0
          ∙ sym (ap (λ (l : Line). clause_holds s (left_of l)) y.1 ∙ ap (clause_holds s) y.2.gives.0 ∙ clause_first x (left_of u)
          ∙ ap (λ (b : Bool). b || clause_holds s (left_of u)) (sym d.1))
      go (x ∷ xs) l o f' y k m =
          let d = c x false k.0 k.1 in
          go xs y.1.0 o f' (y.0, y.1.2, y.2) (subst (λ (j : F). FoldsTo (λ p x q. Called g p (x, tt) false q) j xs f') d.0 k.2) m
          ∙ sym (ap (clause_holds s) y.1.1.gives.0 ∙ clause_first x (left_of y.1.0) ∙ ap (λ (b : Bool). b || clause_holds s (left_of y.1.0)) (sym d.1))
