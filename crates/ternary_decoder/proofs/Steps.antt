-- What the arrays state after one more three-way constraint.
use Prim.Native.Nat.{ℕ, suc, ◌+◌, ◌*◌, ◌≤◌, ◌<◌}
use mathlib.Core.Path.{◌≡◌, refl, sym, ap, subst, ◌∙◌}
use mathlib.Core.Bool.{true, false, or-true}
use mathlib.Core.List.{List}
use lib.Dec.{eqb, ltb}
use lib.ListN.{get_or, set, length-set}
use lib.Seq.{get_or-set_same, get_or-set_other}
use native.Mathlib.Omega.{arith}
use borrow.Author.Tests.{eq-eqb, ne_eqb}
use Rattle.mask.specs.Mask.{bit, mask_of}
use Rattle.mask.proofs.Logic.{holds, true_holds, clash, by_eq, by_lt}
use Rattle.mask.proofs.Bits.{bit_of_zero}
use Rattle.mask.proofs.Masks.{bit-mask_of}
use Rattle.solver_arrays.specs.declared.arrays.Arrays.{Arrays}
use Rattle.solver_arrays.specs.Arrays.{row_in}
use Rattle.game.specs.Ternary.{TernaryProblem}
use Rattle.ternary_theory.specs.Expanded.{hidden, touches, agrees, compatible_with, constrained_with, domain_with, domain_hidden, symmetric_with, free_with}
use Rattle.ternary_theory.proofs.Parts.{hidden_pair, hidden_joined, joined_hidden, both_hidden_free, hidden_side}
use Rattle.ternary_theory.proofs.Parts.{agrees_one, agrees_two, agrees_three}
use Rattle.file_constraints.specs.Ternaries.{ternary_one, ternary_two, ternary_three, ternary_size, ternary_value}
use Rattle.file_decoder.proofs.Stated.{all_ones}
use Rattle.ternary_decoder.specs.Tables.{places_with, value_mask, places_of, near_added, index_added, rows_added, Adds}
use Rattle.ternary_decoder.specs.Stated.{TernaryStated}
use Rattle.ternary_decoder.proofs.Sides.{one_of, long_near, near_old, near_up, near_down, near_above, Away, long_index, index_other, index_most}
use Rattle.ternary_decoder.proofs.Sides.{on_one, back_one, on_two, back_two, on_three, back_three}
use Rattle.ternary_decoder.proofs.Sides.{long_rows, rows-before, rows_one, columns_one, rows_two, columns_two, rows_three, columns_three}

-- Constraint r of J is that of the record at p.
pub record OfRecord (J : TernaryProblem) (r : ℕ) (f : List ℕ) (p : ℕ) : Type 0 where
  pub one : J.one r ≡ ternary_one f p
  pub two : J.two r ≡ ternary_two f p
  pub three : J.three r ≡ ternary_three f p
  pub size : J.size r ≡ ternary_size f p
  pub first : (q : ℕ) → J.first r q ≡ ternary_value f p 0 q
  pub second : (q : ℕ) → J.second r q ≡ ternary_value f p 1 q
  pub third : (q : ℕ) → J.third r q ≡ ternary_value f p 2 q

module _ (J : TernaryProblem) (m r : ℕ) (A : Arrays) (S : TernaryStated J m r A) (less : r < J.ternary) (room : J.binary.n + r < 32) (numbers : m + 3 * r + 3 ≤ 496)
    (existential : bit A.universal (J.binary.n + r) ≡ false) (f : List ℕ) (p : ℕ) (d : OfRecord J r f p) (B : Arrays) (adds : Adds f p (m + 3 * r) A B) where
  abbrev h : ℕ
  h = J.binary.n + r

  abbrev t : ℕ
  t = m + 3 * r

  abbrev i : ℕ
  i = J.one r

  abbrev j : ℕ
  j = J.two r

  abbrev k : ℕ
  k = J.three r

  ij : i < j
  ij = (J.order r less).0

  jk : j < k
  jk = (J.order r less).1

  kn : k < J.binary.n
  kn = (J.order r less).2

  kh : k < h
  kh = let e = kn in omega arith

  near : B.near ≡ near_added A.near i j k h
  near = rw (d.one, d.two, d.three, ← S.size) adds.near

  index : B.index ≡ index_added A.index i j k h t
  index = rw (d.one, d.two, d.three, ← S.size) adds.index

  rows : B.rows ≡ rows_added A.rows t (places_with f p) (value_mask f p)
  rows = adds.rows

  domains : B.domains ≡ set A.domains h (places_of f p)
  domains = adds.domains ∙ ap (λ (x : ℕ). set A.domains x (places_of f p)) S.size

  -- The neighbours of the new variable, as J has them.
  alone : (u : ℕ) → ¬ (u ≡ i) → ¬ (u ≡ j) → ¬ (u ≡ k) → one_of i j k u ≡ false
  alone u a b c = rw (ne_eqb u i a, ne_eqb u j b, ne_eqb u k c) refl

  behind : (u : ℕ) → J.binary.n ≤ u → one_of i j k u ≡ false
  behind u g = let o = J.order r less in alone u (λ e. omega (arith, o.0, o.1, o.2)) (λ e. omega (arith, o.1, o.2)) (λ e. omega (arith, o.2))

  joins_up : (u : ℕ) → constrained_with J u h ≡ one_of i j k u
  unfolding touches
  joins_up u =
      by_lt u J.binary.n
      (λ l. hidden_joined J u r l less)
      (λ g. both_hidden_free J u h g (omega arith) ∙ sym (behind u g))

  joins_down : (u : ℕ) → constrained_with J h u ≡ one_of i j k u
  unfolding touches
  joins_down u =
      by_lt u J.binary.n
      (λ l. joined_hidden J r u less l)
      (λ g. both_hidden_free J h u (omega arith) g ∙ sym (behind u g))

  -- Words of the index, and rows.
  index_at : (x : ℕ) → get_or B.index x 0 ≡ get_or (index_added A.index i j k h t) x 0
  index_at x = ap (λ (l : List ℕ). get_or l x 0) index

  rows_at : (x : ℕ) → get_or B.rows x 0 ≡ get_or (rows_added A.rows t (places_with f p) (value_mask f p)) x 0
  rows_at x = ap (λ (l : List ℕ). get_or l x 0) rows

  away : (x : ℕ) → ((y : ℕ) → y < J.binary.n → one_of i j k y ≡ true → Away h x y) → get_or B.index x 0 ≡ get_or A.index x 0
  away x a =
      let o = J.order r less in
      index_at x
      ∙ index_other _ _ _ _ ij jk kh room _ t S.index_long x
      (a i (omega (arith, o.0, o.1, o.2)) (rw (eq-eqb i i refl) refl))
      (a j (omega (arith, o.1, o.2)) (rw (eq-eqb j j refl) (or-true (eqb j i))))
      (a k o.2 (rw (eq-eqb k k refl, or-true (eqb k j)) (or-true (eqb k i))))

  row_is : (u v y a : ℕ) → get_or B.index (32 * u + v) 0 ≡ y → row_in B u a v ≡ get_or B.rows (16 * y + a) 0
  unfolding row_in
  row_is u v y a e = ap (λ (z : ℕ). get_or B.rows (16 * z + a) 0) e

  row-before : (x : ℕ) → x < 32 * t + 16 → get_or B.rows x 0 ≡ get_or A.rows x 0
  row-before x l = rows_at x ∙ rows-before _ t (places_with f p) (value_mask f p) S.rows_long (omega arith) x l

  -- A pair without the new variable has the block that it had, and the rows of that.
  same : (u a v : ℕ) → u < h → a < 16 → v < h → row_in B u a v ≡ row_in A u a v
  unfolding row_in
  same u a v l g s =
      row_is u v (get_or A.index (32 * u + v) 0) a (away (32 * u + v) (λ y b w. (λ e. omega arith, λ e. omega arith)))
      ∙ row-before (16 * get_or A.index (32 * u + v) 0 + a) (omega (arith, S.blocks (32 * u + v)))

  -- The rows of u and the new variable, both ways.
  Told : ℕ → Type 0
  Told u = (a q : ℕ) → a < 16 → q < 16 → (compatible_with J u a h q ≡ bit (row_in B u a h) q) × (compatible_with J h q u a ≡ bit (row_in B h q u) a)

  -- Of one of the three, which has value e of each triple, by constraint s.
  told_side : (e s x : ℕ) → x < J.binary.n → get_or B.index (32 * x + h) 0 ≡ 2 * s + 1 → get_or B.index (32 * h + x) 0 ≡ 2 * s + 2
      → ((a : ℕ) → a < 16 → get_or B.rows (32 * s + 16 + a) 0 ≡ places_with f p e a)
      → ((q : ℕ) → q < 16 → get_or B.rows (32 * s + 32 + q) 0 ≡ value_mask f p e q)
      → ((a q : ℕ) → agrees J r x a q ≡ eqb a (ternary_value f p e q)) → Told x
  unfolding Told places_with value_mask
  told_side e s x low on back row column says a q l g =
      let c : compatible_with J x a h q ≡ eqb a (ternary_value f p e q) = hidden_pair J x a r q low less ∙ says a q in
      let u : 16 * (2 * s + 1) + a ≡ 32 * s + 16 + a = omega arith in
      let v : 16 * (2 * s + 2) + q ≡ 32 * s + 32 + q = omega arith in
      let w : row_in B x a h ≡ places_with f p e a = row_is x h (2 * s + 1) a on ∙ ap (λ (z : ℕ). get_or B.rows z 0) u ∙ row a l in
      let z : row_in B h q x ≡ value_mask f p e q = row_is h x (2 * s + 2) q back ∙ ap (λ (z : ℕ). get_or B.rows z 0) v ∙ column q g in (
        c ∙ sym (ap (λ (b : ℕ). bit b q) w ∙ bit-mask_of 16 (λ x. eqb a (ternary_value f p e x)) q g),
        symmetric_with J h q x a ∙ c ∙ sym (ap (λ (b : ℕ). bit b a) z ∙ bit-mask_of 16 (λ b. eqb b (ternary_value f p e q)) a l),
      )

  -- Of any other: block 0.
  free_row : (u v a : ℕ) → a < 16 → get_or B.index (32 * u + v) 0 ≡ 0 → row_in B u a v ≡ 65535
  free_row u v a l e = row_is u v 0 a e ∙ row-before (16 * 0 + a) (omega arith) ∙ ap (λ (x : ℕ). get_or A.rows x 0) (omega arith) ∙ S.ones a l

  told_free : (u : ℕ) → u ≤ h → ¬ (u ≡ i) → ¬ (u ≡ j) → ¬ (u ≡ k) → Told u
  unfolding Told
  told_free u low a b c v q l g =
      let z = S.free u h (omega arith) room (omega arith) in
      let other : (y : ℕ) → one_of i j k y ≡ true → ¬ (u ≡ y) = λ y e w. clash (alone u a b c) (true_holds (ap (one_of i j k) w ∙ e)) in
      let on : get_or B.index (32 * u + h) 0 ≡ 0 = away (32 * u + h) (λ y s e. (λ w. other y e (omega arith), λ w. omega arith)) ∙ z.0 in
      let back : get_or B.index (32 * h + u) 0 ≡ 0 = away (32 * h + u) (λ y s e. (λ w. omega arith, λ w. other y e (omega arith))) ∙ z.1 in (
        holds (free_with J u h (joins_up u ∙ alone u a b c) v q) ∙ sym (ap (λ (x : ℕ). bit x q) (free_row u h v l on) ∙ all_ones q g),
        holds (free_with J h u (joins_down u ∙ alone u a b c) q v) ∙ sym (ap (λ (x : ℕ). bit x v) (free_row h u q g back) ∙ all_ones v l),
      )

  told : (u : ℕ) → u ≤ h → Told u
  told u low =
      let o = J.order r less in
      by_eq u i
      (λ e.
      subst Told (sym e)
      (told_side 0 t i (omega (arith, o.0, o.1, o.2))
      (index_at (32 * i + h) ∙ on_one _ _ _ _ ij jk kh room _ t S.index_long) (index_at (32 * h + i) ∙ back_one _ _ _ _ ij jk kh room _ t S.index_long)
      (λ a l. rows_at (32 * t + 16 + a) ∙ rows_one _ t (places_with f p) (value_mask f p) S.rows_long (omega arith) a l)
      (λ q l. rows_at (32 * t + 32 + q) ∙ columns_one _ t (places_with f p) (value_mask f p) S.rows_long (omega arith) q l)
      (λ a q. agrees_one J r a q less ∙ ap (eqb a) (d.first q))))
      λ a.
      by_eq u j
      (λ e.
      subst Told (sym e)
      (told_side 1 (t + 1) j (omega (arith, o.1, o.2))
      (index_at (32 * j + h) ∙ on_two _ _ _ _ ij jk kh room _ t S.index_long) (index_at (32 * h + j) ∙ back_two _ _ _ _ ij jk kh room _ t S.index_long)
      (λ a l. rows_at (32 * (t + 1) + 16 + a) ∙ rows_two _ t (places_with f p) (value_mask f p) S.rows_long (omega arith) a l)
      (λ q l. rows_at (32 * (t + 1) + 32 + q) ∙ columns_two _ t (places_with f p) (value_mask f p) S.rows_long (omega arith) q l)
      (λ a q. agrees_two J r a q less ∙ ap (eqb a) (d.second q))))
      λ b.
      by_eq u k
      (λ e.
      subst Told (sym e)
      (told_side 2 (t + 2) k o.2
      (index_at (32 * k + h) ∙ on_three _ _ _ _ ij jk kh room _ t S.index_long) (index_at (32 * h + k) ∙ back_three _ _ _ _ ij jk kh room _ t S.index_long)
      (λ a l. rows_at (32 * (t + 2) + 16 + a) ∙ rows_three _ t (places_with f p) (value_mask f p) S.rows_long (omega arith) a l)
      (λ q l. rows_at (32 * (t + 2) + 32 + q) ∙ columns_three _ t (places_with f p) (value_mask f p) S.rows_long (omega arith) q l)
      (λ a q. agrees_three J r a q less ∙ ap (eqb a) (d.third q))))
      λ c. told_free u low a b c

  -- All rows, all neighbours, all domains.
  says : (u a v b : ℕ) → u ≤ h → a < 16 → v ≤ h → b < 16 → compatible_with J u a v b ≡ bit (row_in B u a v) b
  unfolding Told
  says u a v b g l s o =
      by_eq v h
      (λ e. rw e ((told u g a b l o).0))
      λ c.
      by_eq u h
      (λ e. rw e ((told v s b a o l).1))
      λ d. S.row u a v b (omega arith) l (omega arith) o ∙ ap (λ (x : ℕ). bit x b) (sym (same u a v (omega arith) l (omega arith)))

  none_at : (u v : ℕ) → u < 32 → h ≤ v → bit (get_or A.near u 0) v ≡ false
  none_at u v g l = S.inside u v g l ∙ bit_of_zero v

  none_of : (v : ℕ) → bit (get_or A.near h 0) v ≡ false
  none_of v = ap (λ (x : ℕ). bit x v) (S.blank h (omega arith)) ∙ bit_of_zero v

  near_at : (u v : ℕ) → bit (get_or B.near u 0) v ≡ bit (get_or (near_added A.near i j k h) u 0) v
  near_at u v = ap (λ (l : List ℕ). bit (get_or l u 0) v) near

  joins : (u v : ℕ) → u ≤ h → v ≤ h → constrained_with J u v ≡ bit (get_or B.near u 0) v
  joins u v g s =
      sym (near_at u v ∙ by_eq u h
      (λ e. rw e (near_down _ _ _ _ ij jk kh room _ S.near_long v (none_of v) ∙ sym (joins_down v)))
      λ c.
      by_eq v h
      (λ e. rw e (near_up _ _ _ _ ij jk kh room _ S.near_long u c (none_at u h (omega arith) (omega arith)) ∙ sym (joins_up u)))
      λ d. near_old _ _ _ _ ij jk kh room _ S.near_long u v c d ∙ sym (S.joined u v (omega arith) (omega arith)))

  within : (u v : ℕ) → u < 32 → h < v → bit (get_or B.near u 0) v ≡ bit 0 v
  within u v g s =
      near_at u v
      ∙ by_eq u h
      (λ e. rw e (near_down _ _ _ _ ij jk kh room _ S.near_long v (none_of v) ∙ behind v (omega arith) ∙ sym (bit_of_zero v)))
      λ c. near_old _ _ _ _ ij jk kh room _ S.near_long u v c (λ e. omega arith) ∙ S.inside u v g (omega arith)

  masks : (u : ℕ) → u ≤ h → get_or (domain_with J) u 0 ≡ get_or B.domains u 0
  unfolding hidden places_of
  masks u g =
      let l = S.domains_long in
      by_eq u h
      (λ e.
      rw (e, domains)
      (domain_hidden J r less
      ∙ ap (λ (s : ℕ). mask_of 16 (λ q. ltb q s)) d.size
      ∙ sym (get_or-set_same A.domains h (places_of f p) 0 (omega arith))))
      λ c. S.domain u (omega arith) ∙ sym (ap (λ (w : List ℕ). get_or w u 0) domains ∙ get_or-set_other A.domains h u (places_of f p) 0 c)

  apart : (u v : ℕ) → u < 32 → v < 32 → h < v → (get_or B.index (32 * u + v) 0 ≡ 0) × (get_or B.index (32 * v + u) 0 ≡ 0)
  apart u v g s c =
      let z = S.free u v g s (omega arith) in
      (away (32 * u + v) (λ y b w. (λ e. omega arith, λ e. omega arith)) ∙ z.0, away (32 * v + u) (λ y b w. (λ e. omega arith, λ e. omega arith)) ∙ z.1)

  pub next : TernaryStated J m (suc r) B
  next = record {
    own = adds.own ∙ S.own;
    size = omega (arith, adds.n, S.size);
    side = λ u g.
        rw adds.universal
        (by_eq u h
        (λ e. rw e (hidden_side J h (omega arith) ∙ sym existential))
        (λ c. S.side u (omega arith)));
    joined = λ u v g s. joins u v (omega arith) (omega arith);
    inside = λ u v g s. within u v g (omega arith);
    row = λ u a v b g l s o. says u a v b (omega arith) l (omega arith) o;
    domain = λ u g. masks u (omega arith);
    free = λ u v g s c. apart u v g s (omega arith);
    blank = λ u g. ap (λ (l : List ℕ). get_or l u 0) near ∙ near_above _ _ _ _ ij jk kh room _ S.near_long u (omega arith) ∙ S.blank u (omega arith);
    blocks = λ x. rw index (index_most _ _ _ _ ij jk kh room _ t S.index_long (2 * (m + 3 * suc r)) x (omega arith) (let b = S.blocks x in omega arith));
    ones = λ x g. row-before x (omega arith) ∙ S.ones x g;
    near_long = rw near (long_near _ _ _ _ ij jk kh room _ S.near_long);
    index_long = rw index (long_index _ _ _ _ ij jk kh room _ t S.index_long);
    rows_long = rw rows (long_rows _ t (places_with f p) (value_mask f p) S.rows_long (omega arith));
    domains_long = rw domains (length-set A.domains h (places_of f p) ∙ S.domains_long);
  }
