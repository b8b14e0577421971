-- The lines of the prefix put one behind another.
use mathlib.Core.Path.{◌≡◌}
use mathlib.Core.Bool.{Bool, true, false, beq, not}
use Prim.Native.Nat.{ℕ, ◌+◌, ◌-◌, ◌≤◌}
use native.Mathlib.Numerals.{add-one}
use native.Mathlib.Omega.{arith}
use borrow.Author.Tests.{eq-eqb, ne_eqb}
use Rattle.mask.specs.Mask.{bit}
use Rattle.mask.proofs.Logic.{true_holds, clash}
use Rattle.buffer.specs.Stored.{joined}
use Rattle.buffer.specs.declared.Text.{Text}
use Rattle.buffer.specs.Put.{Put}
use Rattle.buffer.proofs.PutLaws.{put_none, put_behind, put-joined}
use Rattle.formula.specs.Text.{line_end, letter, line_start}
use Rattle.solver_arrays.specs.declared.arrays.Arrays.{Arrays}
use Rattle.formula_words.specs.declared.coded.Coded.{Coded}
use Rattle.formula_words.specs.Coding.{coded_in, Bounded}
use Rattle.formula_words.specs.Words.{words_text}
use Rattle.formula_words.proofs.CodingLaws.{coded_bounded}
use Rattle.formula_text.specs.Body.{turn_text, opening_text, block_text, blocks_text, closes_in, all_in, fresh_text, prefix_lines}

-- The booleans of a variable are few.
pub coded_few : (A : Arrays) (i : ℕ) (x : Coded) → i ≤ 32 → x ≡ coded_in A i → x.base + x.width ≤ 1024
coded_few A i x h e = let b : Bounded x = rw e (coded_bounded A i h) in omega arith

module _ {s u : Text} where
  -- From one side to the other.
  pub turn_other : {t : Text} (v w : Bool) → not (beq v w) ≡ true → Put s line_end t → Put t (line_start w) u → Put s (turn_text v w) u
  unfolding turn_text letter
  turn_other true true e p q = absurd (true_holds e)
  turn_other true false e p q = put_behind p q
  turn_other false true e p q = put_behind p q
  turn_other false false e p q = absurd (true_holds e)

  -- What stands before the booleans of the first variable, and of another.
  pub open_first : (universal i : ℕ) (w : Bool) → i ≡ 0 → w ≡ bit universal i → Put s (line_start w) u → Put s (opening_text universal i) u
  unfolding opening_text
  open_first universal i w z e p = rw (eq-eqb i 0 z, ← e) p

  pub open_next : (universal i : ℕ) (v w : Bool) → (i ≡ 0 → ⊥) → v ≡ bit universal (i - 1) → w ≡ bit universal i → Put s (turn_text v w) u → Put s (opening_text universal i) u
  unfolding opening_text
  open_next universal i v w z e f p = rw (ne_eqb i 0 z, ← e, ← f) p

  -- The booleans of a variable; those of one more.
  pub block_put : {t : Text} (A : Arrays) (i : ℕ) (x : Coded) → x ≡ coded_in A i → Put s (opening_text A.universal i) t → Put t (words_text x.base x.width) u
      → Put s (block_text A i) u
  unfolding block_text
  block_put A i x z p q = rw (← z) (put_behind p q)

  pub blocks_more : {t : Text} (A : Arrays) (i : ℕ) → Put s (joined (block_text A) i) t → Put t (block_text A i) u → Put s (joined (block_text A) (i + 1)) u
  blocks_more A i p q = rw add-one (put-joined (block_text A) i p q)

  pub blocks_all : (A : Arrays) (i : ℕ) → i ≡ A.n → Put s (joined (block_text A) i) u → Put s (blocks_text A) u
  unfolding blocks_text
  blocks_all A i e p = rw e at p

  -- The closing boolean.
  pub fresh_put : {t : Text} (A : Arrays) (c : Bool) (b : ℕ) → c ≡ closes_in A → c ≡ true → b ≡ all_in A → Put s (turn_text true false) t → Put t (words_text b 1) u
      → Put s (fresh_text A) u
  unfolding fresh_text
  fresh_put A c b f e z p q = rw (← f, e, ← z) (put_behind p q)

  -- All of them, and the end of the last line.
  pub prefix_put : {t t' : Text} (A : Arrays) → Put s (blocks_text A) t → Put t (fresh_text A) t' → Put t' line_end u → Put s (prefix_lines A) u
  unfolding prefix_lines
  prefix_put A p q e = put_behind p (put_behind q e)

-- From one side to the same; no closing boolean.
pub turn_same : (s : Text) (v w : Bool) → not (beq v w) ≡ false → Put s (turn_text v w) s
unfolding turn_text letter
turn_same s true true e = put_none s
turn_same s true false e = absurd (clash e tt)
turn_same s false true e = absurd (clash e tt)
turn_same s false false e = put_none s

pub fresh_none : (s : Text) (A : Arrays) (c : Bool) → c ≡ closes_in A → c ≡ false → Put s (fresh_text A) s
unfolding fresh_text
fresh_none s A c f e = rw (← f, e) (put_none s)
