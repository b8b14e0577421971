-- Tests on a problem's numbers, which the reader makes of a file and the writer of what it is handed.
use Rattle.std.specs.Prelude.{◌≡◌, ℕ, zero, suc, ◌<◌, ◌+◌, ◌-◌, ◌*◌, ◌/◌, Bool, true, ◌&&◌, ltb, leb}
use Rattle.mask.specs.Range.{each}
use Rattle.mask.specs.Mask.{bit}
use Rattle.refusal.specs.declared.reason.Reason.TheVariants.{Pair, Order, Stray}
use Rattle.refusal.specs.Chain.{Test, ◌then◌, need}

-- "n, choices, 1 to 32; m, tables, 0 to n·(n-1)/2."
unfoldable pub counts_fit : ℕ → ℕ → Bool
counts_fit n m = leb 1 n && leb n 32 && leb m (n * (n - 1) / 2)

-- i < j < n.
unfoldable pub in_order : ℕ → ℕ → ℕ → Bool
in_order i j n = ltb i j && ltb j n

-- A pair as one number, which ascends as the pairs do where j is below 32.
unfoldable pub pair_of : ℕ → ℕ → ℕ
pair_of i j = 32 * i + j

-- "Bits for options outside either mask are clear": of row a between the domains di and dj.
unfoldable pub row_fits : ℕ → ℕ → ℕ → ℕ → Bool
row_fits di dj a row = each 16 (bit row) (λ b. bit di a && bit dj b)

-- The first k rows.
unfoldable pub rows_fit : ℕ → ℕ → (ℕ → ℕ) → ℕ → Bool
rows_fit di dj row k = each k (λ a. true) (λ a. row_fits di dj a (row a))

-- One constraint's numbers, among n variables with these domains, behind a constraint of the pair last (0 if there is none).
unfoldable pub constraint_fits : (ℕ → ℕ) → ℕ → ℕ → ℕ → ℕ → (ℕ → ℕ) → Test
constraint_fits domain n last i j row =
    need (in_order i j n) Pair
    then need (ltb last (pair_of i j)) Order
    then need (rows_fit (domain i) (domain j) row 16) Stray

-- Three variables as one number, and three values, which ascend as these do where the later ones are below 32 and below 16.
unfoldable pub scope_of : ℕ → ℕ → ℕ → ℕ
scope_of i j k = 1024 * i + 32 * j + k

unfoldable pub triple_of : ℕ → ℕ → ℕ → ℕ
triple_of a b c = 256 * a + 16 * b + c

-- A value of the mask m: below 16, and its bit set ("options in the masks").
unfoldable pub in_mask : ℕ → ℕ → Bool
in_mask m a = ltb a 16 && bit m a

-- The numbers x 0, x 1, .. of a three-way constraint: the variables i, j, k, the count, the triples. Triple q as one number; its values are in the domains
-- ("good triples of options in the masks"); it is above the one before it ("ascending strictly").
unfoldable pub triple_in : (ℕ → ℕ) → ℕ → ℕ
triple_in x q = triple_of (x (3 * q + 4)) (x (3 * q + 5)) (x (3 * q + 6))

unfoldable pub values_in : (ℕ → ℕ) → (ℕ → ℕ) → ℕ → Bool
values_in domain x q =
    in_mask (domain (x 0)) (x (3 * q + 4)) && (in_mask (domain (x 1)) (x (3 * q + 5)) && in_mask (domain (x 2)) (x (3 * q + 6)))

unfoldable pub above_last : (ℕ → ℕ) → ℕ → Bool
above_last x zero = true
above_last x (suc q) = ltb (triple_in x q) (triple_in x (suc q))

-- The first k triples.
unfoldable pub triples_fit : (ℕ → ℕ) → (ℕ → ℕ) → ℕ → Bool
triples_fit domain x k = each k (λ q. true) (λ q. values_in domain x q && above_last x q)

-- i < j < k < n, above the three of the record before (0 if there is none), and a count of 1 to 16.
unfoldable pub scope_fits : ℕ → ℕ → (ℕ → ℕ) → Bool
scope_fits n last x = ltb (x 0) (x 1) && (in_order (x 1) (x 2) n && ltb last (scope_of (x 0) (x 1) (x 2)))

unfoldable pub count_fits : ℕ → Bool
count_fits c = leb 1 c && leb c 16

-- One three-way constraint's numbers, among n variables with these domains: "26 Triple, a wrong index, count, option or order".
unfoldable pub ternary_fits : (ℕ → ℕ) → ℕ → ℕ → (ℕ → ℕ) → Bool
ternary_fits domain n last x = scope_fits n last x && (count_fits (x 3) && triples_fit domain x (x 3))

-- What is read of a number below n is g of it.
abbrev pub Gives : (ℕ → ℕ → Type 0) → ℕ → (ℕ → ℕ) → Type 0
Gives read n g = (k x : ℕ) → k < n → read k x → x ≡ g k
