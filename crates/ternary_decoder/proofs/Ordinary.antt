-- The arrays with a file's three-way constraints state its ordinary problem: before the first, at each turn, after the last.
use Prim.Native.Nat.{ℕ, suc, ◌+◌, ◌*◌, ◌≤◌, ◌<◌}
use mathlib.Core.Path.{◌≡◌, refl, sym, ap, subst, ◌∙◌}
use mathlib.Core.Bool.{false}
use mathlib.Core.List.{List}
use lib.ListN.{get_or, take}
use lib.Seq.{length-take-le, get_or-take, ext_get_or}
use native.Mathlib.Omega.{arith}
use Rattle.mask.specs.Mask.{bit}
use Rattle.solver_arrays.specs.declared.arrays.Arrays.{Arrays}
use Rattle.solver_arrays.specs.Arrays.{Poses}
use Rattle.game.specs.Ternary.{TernaryProblem}
use Rattle.ternary_theory.specs.Expanded.{domain_with, length-with, domain_own, expanded}
use Rattle.ternary_theory.proofs.Parts.{own_pair, own_joined, own_side}
use Rattle.std.specs.Prelude.{Err}
use Rattle.refusal.specs.declared.reason.Fault.{Fault}
use Rattle.refusal.specs.Chain.{Verdict, Fine}
use Rattle.file_reader.specs.Reading.{n_of, m_of, verdict_of}
use Rattle.file_constraints.specs.Ternaries.{after_constraints, t_of, Ternaries}
use Rattle.file_constraints.proofs.TernaryLaws.{ternaries_stand}
use Rattle.file_decoder.specs.FileProblem.{problem_of, ternary_of, record_at, ordinary_of}
use Rattle.file_decoder.proofs.Stated.{BinaryStated}
use Rattle.ternary_decoder.specs.Tables.{Adds}
use Rattle.ternary_decoder.specs.Stated.{TernaryStated}
use Rattle.ternary_decoder.specs.Decoded.{DecodesOrdinary}
use Rattle.ternary_decoder.proofs.Steps.{OfRecord, next}

-- ---- all of them

module _ (J : TernaryProblem) (m : ℕ) (A : Arrays) (S : TernaryStated J m J.ternary A) where
  pub last : Poses (expanded J) A
  unfolding expanded
  last = record {
    states = record {
      size = sym S.size;
      most = A.most;
      side = λ i h. S.side i (rw (← S.size) h);
      joined = λ i j h g. S.joined i j (rw (← S.size) h) (rw (← S.size) g);
      inside = λ i j h g. let most = A.most in S.inside i j (omega arith) (omega (arith, S.size));
      row = λ i a j b h g k l. S.row i a j b (rw (← S.size) h) g (rw (← S.size) k) l;
    };
    domain = posed;
  }
    where
      posed : domain_with J ≡ take A.n A.domains
      posed =
          let long = length-with J in
          let most = A.most in
          ext_get_or 0 (domain_with J) (take A.n A.domains) (long ∙ sym S.size ∙ sym (length-take-le A.n A.domains (omega (arith, S.domains_long))))
          λ i h. S.domain i (omega arith) ∙ sym (get_or-take A.n A.domains i 0 (omega (arith, S.size)))

  -- The domains of the problem's own variables.
  pub own_domain : J.binary.domain ≡ take A.own A.domains
  own_domain =
      let size = J.binary.sized in
      let few = A.first in
      let most = A.most in
      ext_get_or 0 J.binary.domain (take A.own A.domains) (size ∙ sym S.own ∙ sym (length-take-le A.own A.domains (omega (arith, S.domains_long))))
      λ i h. sym (domain_own J i (omega arith)) ∙ S.domain i (omega arith) ∙ sym (get_or-take A.own A.domains i 0 (omega (arith, S.own)))

-- ---- none

module _ (f : List ℕ) (fine : verdict_of f ≡ Fine) (A : Arrays) (b : BinaryStated f fine A) where
  abbrev J : TernaryProblem
  J = ternary_of f fine

  pub start : TernaryStated (ternary_of f fine) (m_of f) 0 A
  unfolding ternary_of problem_of
  start = record {
    own = b.own;
    size = omega (arith, b.size);
    side = λ i h. own_side J i (omega arith) ∙ b.states.side i (omega arith);
    joined = λ i j h g. own_joined J i j (omega arith) (omega arith) ∙ b.states.joined i j (omega arith) (omega arith);
    inside = λ i j h g. b.inside i j (omega arith);
    row = λ i a j c h g k l. own_pair J i a j c (omega arith) (omega arith) ∙ b.states.row i a j c (omega arith) g (omega arith) l;
    domain = λ i h. domain_own J i (omega arith) ∙ ap (λ (l : List ℕ). get_or l i 0) b.domain ∙ get_or-take (n_of f) A.domains i 0 (omega arith);
    free = λ i j h g k. b.unnamed i j h g (omega arith);
    blank = λ i h. b.blank i (omega arith);
    blocks = λ k. let e = b.blocks k in omega arith;
    ones = b.ones;
    near_long = b.near_long;
    index_long = b.index_long;
    rows_long = b.rows_long;
    domains_long = b.domains_long;
  }

-- ---- of a file

-- The record at p is constraint r of the file's problem.
of_record : (f : List ℕ) (fine : verdict_of f ≡ Fine) (r p : ℕ) → p ≡ record_at f r → OfRecord (ternary_of f fine) r f p
unfolding ternary_of
of_record f fine r p e = subst (OfRecord (ternary_of f fine) r f) (sym e) record {
  one = refl;
  two = refl;
  three = refl;
  size = refl;
  first = λ q. refl;
  second = λ q. refl;
  third = λ q. refl;
}

-- One more of the file's constraints entered in A, which has r of them and began with n variables.
module _ (f : List ℕ) (fine : verdict_of f ≡ Fine) (m n r p : ℕ) (A B : Arrays) where
  pub turn : n + suc r ≤ 32 → m + 3 * suc r ≤ 496 → r < t_of f → p ≡ record_at f r → A.n ≡ n + r → bit A.universal (n + r) ≡ false
      → TernaryStated (ternary_of f fine) m r A → Adds f p (m + 3 * r) A B → TernaryStated (ternary_of f fine) m (suc r) B
  unfolding ternary_of
  turn few numbers less place size existential S adds =
      let e : (ternary_of f fine).binary.n + r ≡ n + r = sym S.size ∙ size in
      next (ternary_of f fine) m r A S less (omega arith) (omega arith) (ap (bit A.universal) e ∙ existential) f p (of_record f fine r p place) B adds

-- The three-way constraints of an accepted file are fit for entering.
pub ready : (f : List ℕ) (q n t : ℕ) → verdict_of f ≡ Fine → q ≡ after_constraints f → n ≡ n_of f → t ≡ t_of f → Ternaries f q n t
ready f q n t fine x y z = rw (x, y, z) (ternaries_stand f fine)

-- A refused file.
pub leaves : (f : List ℕ) (A : Arrays) (e : Fault) (r : Verdict) → verdict_of f ≡ Err e → r ≡ Err e → DecodesOrdinary f A r A
leaves f A e r q t = record {
  given = λ g. absurd (cc);
  refused = λ k g. cc;
  kept = λ k g. refl;
}

-- An accepted one is entered whole.
pub enters : (f : List ℕ) (B : Arrays) (fine : verdict_of f ≡ Fine) (A : Arrays) → TernaryStated (ternary_of f fine) (m_of f) (t_of f) A → DecodesOrdinary f B Fine A
unfolding ternary_of problem_of ordinary_of
enters f B fine A S = record {
  given = λ z. record {
    fine = fine;
    size = S.own;
    poses = last (ternary_of f fine) (m_of f) A S;
    domain = own_domain (ternary_of f fine) (m_of f) A S;
  };
  refused = λ k z. absurd (cc);
  kept = λ k z. absurd (cc);
}
