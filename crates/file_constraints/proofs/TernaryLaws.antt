-- The three-way constraints of an accepted file.
use Prim.Native.Nat.{ℕ, suc, ◌+◌, ◌-◌, ◌*◌, ◌/◌, ◌≤◌}
use mathlib.Core.Path.{◌≡◌, refl}
use mathlib.Core.Bool.{true}
use mathlib.Core.List.{List}
use lib.Dec.{leb}
use native.Mathlib.Omega.{arith}
use borrow.Author.Tests.{leb-true}
use Rattle.mask.specs.Range.{each}
use Rattle.mask.proofs.Logic.{holds}
use Rattle.mask.proofs.Range.{each_out}
use Rattle.refusal.specs.Chain.{Fine}
use Rattle.file_layout.specs.Layout.{n_of, m_of, constraints_at, body_at, after_constraints, t_of, ternary_at}
use Rattle.file_layout.proofs.LayoutLaws.{start_most}
use Rattle.file_records.specs.Records.{verdict_of}
use Rattle.file_reader.proofs.Accepted.{accepted, variables_most, variables_and_ternaries}
use Rattle.file_lookup.proofs.TernaryLaws.{ternaries_near}
use Rattle.file_constraints.specs.Ternaries.{ternary_one, ternary_two, ternary_three, ternary_size, Ternaries}

-- They stand behind the constraints of two.
pub ternaries_stand : (f : List ℕ) → verdict_of f ≡ Fine → Ternaries f (after_constraints f) (n_of f) (t_of f)
unfolding ternary_one ternary_two ternary_three ternary_size
ternaries_stand f fine =
    let a = accepted f fine in
    record {
      few = variables_and_ternaries f fine;
      near = λ r h. ternaries_near f fine r (omega arith);
      order = λ r h. let b = (a.ternary r h).fits.scope in (b.first, b.second, b.below);
      counts = λ r h. let b = (a.ternary r h).fits in (b.some, b.most);
    }

-- Those of two begin near.
pub constraints_near : (f : List ℕ) → verdict_of f ≡ Fine → constraints_at f ≤ 136
unfolding constraints_at
constraints_near f fine = omega (arith, start_most f, variables_most f fine)

-- Where they begin, the first, and the place behind one of them.
pub behind_constraints : (f : List ℕ) (q m : ℕ) → q ≡ constraints_at f → m ≡ m_of f → q + 36 * m ≡ after_constraints f
unfolding after_constraints
behind_constraints f q m x y = rw (x, y) refl

pub first_at : (f : List ℕ) (q : ℕ) → ternary_at f q 0 ≡ q
unfolding ternary_at
first_at f q = refl

pub behind_ternary : (f : List ℕ) (q r p next : ℕ) → p ≡ ternary_at f q r → next ≡ p + 2 + body_at f p → next ≡ ternary_at f q (suc r)
unfolding ternary_at
behind_ternary f q r p next x y = rw (y, x) refl

-- Each is three constraints of the ordinary problem, whose arrays have room for 496.
pub entered_most : (f : List ℕ) → verdict_of f ≡ Fine → m_of f + 3 * t_of f ≤ 496
unfolding each
entered_most f fine =
    let few = variables_and_ternaries f fine in
    let n = n_of f in
    let pairs = (accepted f fine).head.counts.pairs in
    let most : n * (n - 1) / 2 + 3 * (32 - n) ≤ 496 =
    leb-true _ _ (holds (each_out 33 (λ n. true) (λ n. leb (n * (n - 1) / 2 + 3 * (32 - n)) 496) tt n (omega arith) tt)) in
    omega arith
