-- The arrays of an accepted file state its problem: what the constraints' numbers give by the index is what the look-up finds. And what is left free for more.
use Prim.Native.Nat.{ℕ, ◌+◌, ◌*◌, ◌≤◌, ◌<◌}
use mathlib.Core.Path.{◌≡◌, refl, sym, ap, subst, ◌∙◌}
use mathlib.Core.Bool.{true, false, ◌||◌, or-false}
use mathlib.Core.List.{List}
use lib.ListN.{length, get_or, take, length-replicate, get_or-replicate}
use native.Mathlib.Omega.{arith}
use Rattle.mask.specs.Range.{some}
use Rattle.mask.specs.Mask.{bit, mask_of}
use Rattle.mask.proofs.Logic.{holds, fails, test, clash}
use Rattle.mask.proofs.Bits.{bit_of_zero, bit_high}
use Rattle.mask.proofs.Masks.{mask_of_lt, bit-mask_of}
use Rattle.solver_arrays.specs.declared.arrays.Arrays.{Arrays}
use Rattle.solver_arrays.specs.Blocks.{InRange}
use Rattle.solver_arrays.specs.Arrays.{row_in, States}
use Rattle.std.specs.Prelude.{Err}
use Rattle.refusal.specs.declared.reason.Fault.{Fault}
use Rattle.refusal.specs.Chain.{Verdict, Fine}
use Rattle.file_reader.specs.declared.Reading.{Reading}
use Rattle.file_reader.specs.Reading.{n_of, m_of, domains_of, universal_bits, universal_bits_of, verdict_of}
use Rattle.file_reader.proofs.Accepted.{Shows, variables_most, domains-length, universal-shown}
use Rattle.file_constraints.specs.Constraints.{constraints_at, constraint_one, constraint_two, constraint_row, joins, Constraints}
use Rattle.file_constraints.specs.Pairs.{constrained_of, compatible_of}
use Rattle.file_constraints.proofs.ConstraintLaws.{constraints_stand, constraint_below}
use Rattle.file_constraints.proofs.PairLaws.{free_of, constrained_out, constrained_on, constrained_back, constrained_below, constrained_is, compatible_on, compatible_back}
use Rattle.solver_arrays.proofs.EmptyLaws.{zeros, zeros_in_range}
use Rattle.file_decoder.specs.FileProblem.{problem_of}
use Rattle.file_decoder.specs.Tables.{column_of, near_to, index_to, rows_to, near_start, index_start, rows_start, SameVariables}
use Rattle.file_decoder.specs.Decoded.{FileGiven, Decodes, Unconstrained}
use Rattle.file_decoder.proofs.FileLaws.{problem_size, problem_domains}
use Rattle.file_decoder.proofs.Entered.{length_rows, rows_first, rows_at, columns_at, length_index, index_on, index_back, index_none, index_most, length_near, near_joins, near_none}

-- ---- before the first constraint

index_zero : (x : ℕ) → get_or index_start x 0 ≡ 0
unfolding index_start
index_zero x = zeros 1024 x

index_size : length index_start ≡ 1024
unfolding index_start
index_size = length-replicate {A = ℕ} 1024 0

near_zero : (u v : ℕ) → bit (get_or near_start u 0) v ≡ false
unfolding near_start
near_zero u v = ap (λ x. bit x v) (zeros 32 u) ∙ bit_of_zero v

near_size : length near_start ≡ 32
unfolding near_start
near_size = length-replicate {A = ℕ} 32 0

rows_ones : (x : ℕ) → x < 15888 → get_or rows_start x 0 ≡ 65535
unfolding rows_start
rows_ones x h = get_or-replicate 15888 x 65535 0 h

rows_size : length rows_start ≡ 15888
unfolding rows_start
rows_size = length-replicate {A = ℕ} 15888 65535

pub all_ones : (b : ℕ) → b < 16 → bit 65535 b ≡ true
unfolding mask_of
all_ones b h = bit-mask_of 16 (λ b. true) b h

-- Row a of variable i towards j in these lists.
unfoldable row_of : List ℕ → List ℕ → ℕ → ℕ → ℕ → ℕ
row_of index rows i a j = get_or rows (16 * get_or index (32 * i + j) 0 + a) 0

-- ---- of an accepted file

module _ (f : List ℕ) (fine : verdict_of f ≡ Fine) where
  abbrev q : ℕ
  q = constraints_at f

  abbrev m : ℕ
  m = m_of f

  abbrev one : ℕ → ℕ
  one t = constraint_one f q t

  abbrev two : ℕ → ℕ
  two t = constraint_two f q t

  abbrev near_all : List ℕ
  near_all = near_to near_start f q m

  abbrev index_all : List ℕ
  index_all = index_to index_start f q m

  abbrev rows_all : List ℕ
  rows_all = rows_to rows_start f q m

  stand : Constraints f q m
  stand = constraints_stand f fine

  -- The neighbours are the variables that a constraint joins.
  joined : (u v : ℕ) → constrained_of f u v ≡ bit (get_or near_all u 0) v
  joined u v =
      constrained_is f fine u v
      ∙ sym (near_joins near_start f q m near_size stand m u v (omega arith) ∙ ap (λ r. some m (λ t. true) (joins f q u v) || r) (near_zero u v) ∙ or-false (some m (λ t. true) (joins f q u v)))

  inside : (u v : ℕ) → n_of f ≤ v → bit (get_or near_all u 0) v ≡ bit 0 v
  inside u v h = sym (joined u v) ∙ fails (λ g. let b = constrained_below f fine u v g in omega arith) ∙ sym (bit_of_zero v)

  -- Row a towards a variable of a constraint, either way, and towards any other.
  row_on : (t a : ℕ) → t < m → a < 16 → row_of index_all rows_all (one t) a (two t) ≡ constraint_row f q t a
  unfolding row_of
  row_on t a h g =
      let e = index_on index_start f q m index_size stand m t (omega arith) h in
      let z : 16 * get_or index_all (32 * one t + two t) 0 + a ≡ 32 * t + 16 + a = omega arith in
      ap (λ x. get_or rows_all x 0) z ∙ rows_at rows_start f q m t a (omega (arith, rows_size, stand.few)) h g

  row_back : (t a : ℕ) → t < m → a < 16 → row_of index_all rows_all (two t) a (one t) ≡ column_of f q t a
  unfolding row_of
  row_back t a h g =
      let e = index_back index_start f q m index_size stand m t (omega arith) h in
      let z : 16 * get_or index_all (32 * two t + one t) 0 + a ≡ 32 * t + 32 + a = omega arith in
      ap (λ x. get_or rows_all x 0) z ∙ columns_at rows_start f q m t a (omega (arith, rows_size, stand.few)) h g

  -- The word of a pair that no constraint joins.
  index_free : (u v : ℕ) → u < 32 → v < 32 → constrained_of f u v ≡ false → get_or index_all (32 * u + v) 0 ≡ 0
  index_free u v h k e =
      index_none index_start f q m index_size stand m (32 * u + v)
      (λ t s x. let o = stand.order t s in clash e (constrained_on f fine u v t s (omega (arith, o.0, o.1)) (omega (arith, o.0, o.1))))
      (λ t s x. let o = stand.order t s in clash e (constrained_back f fine u v t s (omega (arith, o.0, o.1)) (omega (arith, o.0, o.1))))
      ∙ index_zero (32 * u + v)

  row_free : (u a v : ℕ) → u < 32 → a < 16 → v < 32 → constrained_of f u v ≡ false → row_of index_all rows_all u a v ≡ 65535
  unfolding row_of
  row_free u a v h g k e =
      let y = index_free u v h k e in
      let z : 16 * get_or index_all (32 * u + v) 0 + a ≡ a = omega arith in
      ap (λ x. get_or rows_all x 0) z ∙ rows_first rows_start f q m a g ∙ rows_ones a (omega arith)

  -- A row says which values are compatible: of a constraint's pair in either order, and of any pair.
  says_on : (u v t a b : ℕ) → t < m → one t ≡ u → two t ≡ v → a < 16 → compatible_of f u a v b ≡ bit (row_of index_all rows_all u a v) b
  says_on u v t a b h e d g = rw (← e, ← d) (compatible_on f fine t a b h g ∙ ap (λ x. bit x b) (sym (row_on t a h g)))

  says_back : (u v t a b : ℕ) → t < m → one t ≡ v → two t ≡ u → a < 16 → b < 16 → compatible_of f u a v b ≡ bit (row_of index_all rows_all u a v) b
  unfolding column_of
  says_back u v t a b h e d g k =
      rw (← e, ← d)
      (compatible_back f fine t a b h k
      ∙ sym (bit-mask_of 16 (λ x. bit (constraint_row f q t x) a) b k)
      ∙ ap (λ x. bit x b) (sym (row_back t a h g)))

  says : (u a v b : ℕ) → u < n_of f → a < 16 → v < n_of f → b < 16 → compatible_of f u a v b ≡ bit (row_of index_all rows_all u a v) b
  says u a v b h g k s =
      test (constrained_of f u v)
      (λ y.
      constrained_out f fine u v y
      (λ c. says_on u v c.t a b c.less c.one c.two g)
      (λ c. says_back u v c.t a b c.less c.one c.two g s))
      (λ e.
      let x : u < 32 = omega (arith, variables_most f fine) in
      let y : v < 32 = omega (arith, variables_most f fine) in
      holds (free_of f u v e a b) ∙ sym (all_ones b s) ∙ ap (λ x. bit x b) (sym (row_free u a v x g y e)))

  -- Arrays with these parts state the problem.
  pub stated : (A : Arrays) → A.universal ≡ universal_bits_of f → A.near ≡ near_all → A.index ≡ index_all → A.rows ≡ rows_all
      → States (problem_of f fine) (n_of f) A
  unfolding problem_of row_in row_of
  stated A u e d g = record {
    size = refl;
    most = variables_most f fine;
    side = λ i h. rw u (sym (universal-shown f i h));
    joined = λ i j h k. rw e (joined i j);
    inside = λ i j h k. rw e (inside i j k);
    row = λ i a j b h k l t. rw (d, g) (says i a j b h k l t);
  }

  -- Behind the file's variables: none universal, no neighbours, and block 0.
  existential : (u : ℕ) → n_of f ≤ u → bit (universal_bits_of f) u ≡ false
  unfolding universal_bits
  existential u h = bit_high (n_of f) _ u (mask_of_lt (n_of f) _) h

  blank : (u : ℕ) → n_of f ≤ u → get_or near_all u 0 ≡ 0
  unfolding near_start
  blank u h =
      near_none near_start f q m near_size stand m u
      (λ t s x. let o = stand.order t s in let b = constraint_below f fine t s in omega (arith, o.0))
      (λ t s x. let b = constraint_below f fine t s in omega arith)
      ∙ zeros 32 u

  unnamed : (u v : ℕ) → u < 32 → v < 32 → n_of f ≤ v → (get_or index_all (32 * u + v) 0 ≡ 0) × (get_or index_all (32 * v + u) 0 ≡ 0)
  unnamed u v h k l = (
    index_free u v h k (fails λ g. let b = constrained_below f fine u v g in omega arith),
    index_free v u k h (fails λ g. let b = constrained_below f fine v u g in omega arith),
  )

-- ---- with all constraints entered

-- What arrays state in which the constraints of two variables stand, and what they leave to more variables and to more constraints.
pub record BinaryStated (f : List ℕ) (fine : verdict_of f ≡ Fine) (A : Arrays) : Type 0 where
  pub own : A.own ≡ n_of f
  pub size : A.n ≡ n_of f
  pub states : States (problem_of f fine) (n_of f) A
  pub domain : (problem_of f fine).domain ≡ take (n_of f) A.domains
  pub existential : (i : ℕ) → n_of f ≤ i → bit A.universal i ≡ false
  pub inside : (i j : ℕ) → n_of f ≤ j → bit (get_or A.near i 0) j ≡ bit 0 j
  pub blank : (i : ℕ) → n_of f ≤ i → get_or A.near i 0 ≡ 0
  pub unnamed : (i j : ℕ) → i < 32 → j < 32 → n_of f ≤ j → (get_or A.index (32 * i + j) 0 ≡ 0) × (get_or A.index (32 * j + i) 0 ≡ 0)
  pub blocks : (k : ℕ) → get_or A.index k 0 ≤ 2 * m_of f
  pub ones : (x : ℕ) → x < 16 → get_or A.rows x 0 ≡ 65535
  pub near_long : length A.near ≡ 32
  pub index_long : length A.index ≡ 1024
  pub rows_long : length A.rows ≡ 15888
  pub domains_long : length A.domains ≡ 32

-- The constraints of an accepted file are fit for entering.
pub ready : (f : List ℕ) (q m : ℕ) → verdict_of f ≡ Fine → q ≡ constraints_at f → m ≡ m_of f → Constraints f q m
ready f q m fine x y = rw (x, y) (constraints_stand f fine)

-- No block is named before the first constraint.
pub start_in_range : InRange index_start
unfolding index_start
start_in_range = zeros_in_range 1024

-- The arrays of a reading, with its file's constraints entered.
pub entered : (f : List ℕ) (q : ℕ) (r : Reading) (A B : Arrays) → ((k : ℕ) → get_or f k 0 < 256) → (s : Shows f r.head) → r.domains ≡ domains_of f
    → q ≡ constraints_at f → Unconstrained r A → SameVariables A B
    → B.near ≡ near_to A.near f q r.head.m → B.index ≡ index_to A.index f q r.head.m → B.rows ≡ rows_to A.rows f q r.head.m
    → BinaryStated f s.fine B
entered f q r A B bytes s w x u v e d g =
    let fine = s.fine in
    let m = s.constraints in
    let near : B.near ≡ near_to near_start f (constraints_at f) (m_of f) = rw (u.near, x, m) at e in
    let index : B.index ≡ index_to index_start f (constraints_at f) (m_of f) = rw (u.index, x, m) at d in
    let rows : B.rows ≡ rows_to rows_start f (constraints_at f) (m_of f) = rw (u.rows, x, m) at g in
    let universal : B.universal ≡ universal_bits_of f = v.universal ∙ u.universal ∙ s.bits in
    let domains : B.domains ≡ domains_of f = v.domains ∙ u.domains ∙ w in
    let stand = constraints_stand f fine in
    record {
      own = v.own ∙ u.own ∙ s.variables;
      size = v.n ∙ u.n ∙ s.variables;
      states = stated f fine B universal near index rows;
      domain = problem_domains f fine bytes ∙ ap (take (n_of f)) (sym domains);
      existential = λ i h. rw universal (existential f fine i h);
      inside = λ i j h. rw near (inside f fine i j h);
      blank = λ i h. rw near (blank f fine i h);
      unnamed = λ i j h k l. rw index (unnamed f fine i j h k l);
      blocks = λ k. rw index (index_most index_start f (constraints_at f) (m_of f) index_size stand (m_of f) k (index_zero k));
      ones = λ x h. rw rows (rows_first rows_start f (constraints_at f) (m_of f) x h ∙ rows_ones x (omega arith));
      near_long = rw near (length_near near_start f (constraints_at f) (m_of f) near_size stand (m_of f));
      index_long = rw index (length_index index_start f (constraints_at f) (m_of f) index_size stand (m_of f));
      rows_long = rw rows (length_rows rows_start f (constraints_at f) (m_of f) ∙ rows_size);
      domains_long = rw domains (domains-length f fine);
    }

-- ---- what decoding leaves

-- A refused file.
pub leaves : (f : List ℕ) (A : Arrays) (e : Fault) (r : Verdict) → verdict_of f ≡ Err e → r ≡ Err e → Decodes f A r A
leaves f A e r q t = record {
  given = λ g. absurd (cc);
  refused = λ k g. cc;
  kept = λ k g. refl;
}

-- An accepted one is entered whole.
pub enters : (f : List ℕ) (B A : Arrays) (fine : verdict_of f ≡ Fine) → BinaryStated f fine A → Decodes f B Fine A
enters f B A fine b = record {
  given = λ z. record {
    fine = fine;
    size = b.own;
    poses = record {
      states = subst (λ k. States (problem_of f fine) k A) (sym b.size) b.states;
      domain = b.domain ∙ ap (λ (k : ℕ). take k A.domains) (sym b.size);
    };
  };
  refused = λ k z. absurd (cc);
  kept = λ k z. absurd (cc);
}

-- The arrays given have the file's domains, of their own variables.
pub given_domain : (f : List ℕ) (A : Arrays) (g : FileGiven f A) → (problem_of f g.fine).domain ≡ take A.own A.domains
given_domain f A g = g.poses.domain ∙ ap (λ (k : ℕ). take k A.domains) (sym g.poses.states.size ∙ problem_size f g.fine ∙ sym g.size)
