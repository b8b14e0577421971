-- A line read literal by literal.
use Prim.Native.Nat.{ℕ, suc, ◌+◌, ◌-◌, ◌*◌, ◌≤◌}
use mathlib.Core.Path.{◌≡◌, refl, sym, ap, ◌∙◌}
use mathlib.Core.Bool.{true, false}
use mathlib.Core.List.{List, [], ◌∷◌}
use borrow.Author.Tests.{eq-eqb, ne_eqb}
use lib.Dec.{eqb}
use lib.ListN.{get_or}
use native.Mathlib.Omega.{arith}
use Rattle.std.specs.Prelude.{Some, None}
use Rattle.formula.specs.Formula.{Literal}
use Rattle.formula.specs.Text.{number_at, after, negative, number_from, literals_at, end_at}
use Rattle.formula_index.specs.declared.line.Literal.{Literal as Read}
use Rattle.formula_index.specs.Reading.{literal_of, Reads}

-- ---- one call

-- Where the number of the literal at p begins: behind the minus, where there is one.
pub from_minus : (t : List ℕ) (p : ℕ) {b : ℕ} → b ≡ get_or t p 0 → eqb b 45 ≡ true → p + 1 ≡ number_from t p
unfolding number_from negative
from_minus t p e h = rw (← e, h)

pub from_plain : (t : List ℕ) (p : ℕ) {b : ℕ} → b ≡ get_or t p 0 → eqb b 45 ≡ false → p ≡ number_from t p
unfolding number_from negative
from_plain t p e h = rw (← e, h)

-- Nothing is left.
pub reads-empty : (t : List ℕ) (m p : ℕ) → m ≡ 0 → Reads t m p None t m p
unfolding literals_at
reads-empty t m p e = record { near = omega arith; ends = refl; gives = (rw e, e) }

-- The number x of the literal stands from `from` on, and a is the place behind it.
module _ {t : List ℕ} {m p b from x a : ℕ} (s : ¬ (m ≡ 0)) (z : b ≡ get_or t p 0) (f : from ≡ number_from t p) (h : from ≤ p + 1)
    (n : (x ≡ number_at t from) × (a ≡ after t from)) (l : a ≤ from + 10) where
  pub reads-zero : x ≡ 0 → Reads t m p None t 0 a
  unfolding literals_at end_at
  reads-zero e = go (m - 1) (omega arith)
    where
      go : (k : ℕ) → m ≡ suc k → Reads t m p None t 0 a
      go k w = record {
        near = omega arith;
        ends = rw (w, ← f, ← n.0, eq-eqb x 0 e) n.1;
        gives = (rw (w, ← f, ← n.0, eq-eqb x 0 e), refl);
      }

  pub reads_one : ¬ (x ≡ 0) → Reads t m p (Some record { negative = eqb b 45; boolean = x }) t (m - 1) a
  unfolding literals_at end_at negative
  reads_one d = go (m - 1) (omega arith)
    where
      go : (k : ℕ) → m ≡ suc k → Reads t m p (Some record { negative = eqb b 45; boolean = x }) t k a
      go k w = record {
        near = omega arith;
        ends = rw (w, ← f, ← n.0, ne_eqb x 0 d, ← n.1);
        gives = (rw (w, z, ← f, ← n.0, ne_eqb x 0 d, ← n.1), omega arith);
      }

-- ---- all calls

-- What f makes of the literals at p: from the m' on that are left at p', it goes on with a.
pub record Going {A : Type 0} (f : A → List Literal → A) (t : List ℕ) (most p : ℕ) (start : A) (t' : List ℕ) (m' p' : ℕ) (a : A) : Type 0 where
  pub near : p' + 11 * m' ≤ p + 11 * most
  pub ends : end_at t' m' p' ≡ end_at t most p
  pub gives : f a (literals_at t' m' p') ≡ f start (literals_at t most p)

-- The line is at its end.
pub record Gone {A : Type 0} (f : A → List Literal → A) (t : List ℕ) (most p : ℕ) (start : A) (p' : ℕ) (a : A) : Type 0 where
  pub near : p' ≤ p + 11 * most
  pub ends : p' ≡ end_at t most p
  pub gives : f a [] ≡ f start (literals_at t most p)

module _ {A : Type 0} {f : A → List Literal → A} {t : List ℕ} {most p : ℕ} {start : A} where
  module _ {t' t'' : List ℕ} {m' p' m'' p'' : ℕ} {a : A} (g : Going f t most p start t' m' p' a) where
    pub going_next : {x : Read} (b : A) → Reads t' m' p' (Some x) t'' m'' p'' → ((l : Literal) (ls : List Literal) → l.boolean ≡ x.boolean → f a (l ∷ ls) ≡ f b ls)
        → Going f t most p start t'' m'' p'' b
    going_next {x} b r e = record {
      near = let n = g.near in let l = r.near in omega arith;
      ends = r.ends ∙ g.ends;
      gives = sym (e (literal_of x) _ refl) ∙ ap (f a) (sym r.gives.0) ∙ g.gives;
    }

    pub going_end : Reads t' m' p' None t'' m'' p'' → Gone f t most p start p'' a
    unfolding end_at
    going_end r = record {
      near = let n = g.near in let l = r.near in omega arith;
      ends = (rw r.gives.1 at r.ends) ∙ g.ends;
      gives = ap (f a) (sym r.gives.0) ∙ g.gives;
    }
