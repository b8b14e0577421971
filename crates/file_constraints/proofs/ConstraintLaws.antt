-- The constraints of an accepted file.
use Prim.Native.Nat.{ℕ, ◌<◌}
use mathlib.Core.Path.{◌≡◌}
use mathlib.Core.Bool.{◌&&◌}
use mathlib.Core.List.{List}
use lib.Dec.{T}
use lib.ListN.{get_or}
use native.Mathlib.Omega.{arith}
use Rattle.mask.specs.Mask.{bit}
use Rattle.mask.proofs.Logic.{and_out}
use Rattle.mask.proofs.Range.{each_out}
use Rattle.refusal.specs.Chain.{Fine}
use Rattle.file_layout.specs.Layout.{n_of, m_of, variables_at, domain_at, pair_at}
use Rattle.file_layout.specs.Numbers.{pair_of, row_fits}
use Rattle.file_layout.proofs.NumberLaws.{constraints_most}
use Rattle.file_records.specs.Records.{verdict_of}
use Rattle.file_reader.specs.Reading.{domains_of}
use Rattle.file_reader.proofs.Accepted.{accepted, read_domain}
use Rattle.file_lookup.proofs.Lookup.{ascend}
use Rattle.file_constraints.specs.Constraints.{constraints_at, constraint_one, constraint_two, constraint_row, Whole, Constraints}

module _ (f : List ℕ) (fine : verdict_of f ≡ Fine) where
  -- They stand from `constraints_at f` on.
  pub constraints_stand : Constraints f (constraints_at f) (m_of f)
  unfolding constraint_one constraint_two Whole pair_at pair_of
  constraints_stand =
      let a = accepted f fine in
      record {
        few = constraints_most _ _ a.head.counts;
        whole = λ t h. (a.constraint t h).within;
        order = λ t h. let d = (a.constraint t h).fits in (d.ascends, omega (arith, d.below, a.head.counts.most));
        ascends = λ s t h g. ascend f fine s t h g;
      }

  -- "i < j < n".
  pub constraint_below : (t : ℕ) → t < m_of f → constraint_two f (constraints_at f) t < n_of f
  unfolding constraint_two
  constraint_below t h = ((accepted f fine).constraint t h).fits.below

  -- "Bits for options outside either mask are clear."
  row_inside : (t a b : ℕ) → t < m_of f → a < 16 → b < 16 → T (bit (constraint_row f (constraints_at f) t a) b) →
      T (bit (domain_at f (variables_at f) (constraint_one f (constraints_at f) t)) a) × T (bit (domain_at f (variables_at f) (constraint_two f (constraints_at f) t)) b)
  unfolding constraint_one constraint_two constraint_row row_fits
  row_inside t a b h l g s =
      let di = domain_at f (variables_at f) (constraint_one f (constraints_at f) t) in
      let dj = domain_at f (variables_at f) (constraint_two f (constraints_at f) t) in
      and_out (bit di a) (bit dj b)
      (each_out 16 (bit (constraint_row f (constraints_at f) t a)) (λ b. bit di a && bit dj b) (((accepted f fine).constraint t h).fits.rows a l) b g s)

  pub constraint_inside : (t a b : ℕ) → t < m_of f → a < 16 → b < 16 → T (bit (constraint_row f (constraints_at f) t a) b) →
      T (bit (get_or (domains_of f) (constraint_one f (constraints_at f) t) 0) a) × T (bit (get_or (domains_of f) (constraint_two f (constraints_at f) t) 0) b)
  constraint_inside t a b h l g s =
      let o = constraints_stand.order t h in
      let k = constraint_below t h in
      rw (read_domain f fine (constraint_one f (constraints_at f) t) (omega arith), read_domain f fine (constraint_two f (constraints_at f) t) k) (row_inside t a b h l g s)
