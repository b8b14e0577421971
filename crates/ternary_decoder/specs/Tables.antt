-- The rows and the domain of a hidden variable, whose values are the places of the triples of the record at p; and one three-way constraint entered.
use Rattle.std.specs.Prelude.{ℕ, ◌+◌, ◌≡◌, List, set, eqb, ltb}
use Rattle.mask.specs.Mask.{mask_of}
use Rattle.solver_arrays.specs.declared.arrays.Arrays.{Arrays}
use Rattle.file_constraints.specs.Ternaries.{ternary_one, ternary_two, ternary_three, ternary_size, ternary_value}
use Rattle.file_decoder.specs.Tables.{linked, numbered, blocks}

-- The places whose value e is a; value e of triple q alone; all places.
unfoldable pub places_with : List ℕ → ℕ → ℕ → ℕ → ℕ
places_with f p e a = mask_of 16 (λ q. eqb a (ternary_value f p e q))

unfoldable pub value_mask : List ℕ → ℕ → ℕ → ℕ → ℕ
value_mask f p e q = mask_of 16 (λ a. eqb a (ternary_value f p e q))

unfoldable pub places_of : List ℕ → ℕ → ℕ
places_of f p = mask_of 16 (λ q. ltb q (ternary_size f p))

-- A "table to each of the three" variables i, j and k, with the numbers t, t + 1 and t + 2, towards the hidden variable h; of number e the rows r e towards
-- h, and s e back.
abbrev pub near_added : List ℕ → ℕ → ℕ → ℕ → ℕ → List ℕ
near_added l i j k h = linked (linked (linked l i h) j h) k h

abbrev pub index_added : List ℕ → ℕ → ℕ → ℕ → ℕ → ℕ → List ℕ
index_added l i j k h t = numbered (numbered (numbered l i h t) j h (t + 1)) k h (t + 2)

abbrev pub rows_added : List ℕ → ℕ → (ℕ → ℕ → ℕ) → (ℕ → ℕ → ℕ) → List ℕ
rows_added l t r s = blocks (blocks (blocks l t (r 0) (s 0)) (t + 1) (r 1) (s 1)) (t + 2) (r 2) (s 2)

-- The arrays A become B: "one shift's choice for each such record, behind all others".
pub record Adds (f : List ℕ) (p t : ℕ) (A B : Arrays) : Type 0 where
  pub own : B.own ≡ A.own
  pub n : B.n ≡ A.n + 1
  pub universal : B.universal ≡ A.universal
  pub domains : B.domains ≡ set A.domains A.n (places_of f p)
  pub near : B.near ≡ near_added A.near (ternary_one f p) (ternary_two f p) (ternary_three f p) A.n
  pub index : B.index ≡ index_added A.index (ternary_one f p) (ternary_two f p) (ternary_three f p) A.n t
  pub rows : B.rows ≡ rows_added A.rows t (places_with f p) (value_mask f p)
