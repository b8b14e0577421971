-- Rule 5 over the arrays: steps of its loops, and its reply in a problem that the arrays state.
use mathlib.Core.Path.{◌≡◌, sym, ap, ap₂, ◌∙◌}
use mathlib.Core.Bool.{Bool, true, false, cond, not, ◌&&◌, beq}
use mathlib.Core.List.{List}
use Prim.Native.Nat.{ℕ, ◌-◌, ◌^◌, ◌<◌}
use native.Mathlib.Omega.{arith}
use lib.Dec.{T}
use lib.Bits.{bit_and, bit_or, or_zero_r}
use lib.Pow.{pow-lt, pow_pos}
use lib.ListN.{get_or}
use Rattle.mask.specs.Range.{some, each, first}
use Rattle.mask.specs.Mask.{bit, mask_of, rest}
use Rattle.mask.proofs.Range.{each_in, each_eq, some_eq}
use Rattle.mask.proofs.Bits.{bit_of_zero, bit_none}
use Rattle.mask.proofs.Masks.{mask_of_same, mask_of_lt, bit-mask_of, or_assoc}
use Rattle.mask.proofs.Members.{low_lt, some_below, passing_rest, same_within}
use Rattle.game.specs.Problem.{Problem}
use Rattle.game.specs.Lists.{domains}
use Rattle.game.specs.Interchangeable.{interchange, representatives, interchangeable}
use Rattle.solver_arrays.specs.Arrays.{row_in, States}
use Rattle.solver_arrays.specs.Words.{list_in}
use Rattle.solver_arrays.proofs.Stated.{domain_of_lem, neighbours}
use Rattle.rule_narrow.specs.Narrow.{same_row, interchange_in, some_interchange, is_representative, representatives_in}
use Rattle.solver_arrays.specs.declared.arrays.Arrays.{Arrays}

module _ (A : Arrays) (x : ℕ) (w : List ℕ) where
  -- A value represents its group where it is interchangeable with no member of the domain below it.
  representative_test : (a : ℕ) → a < 16 → is_representative A x w a ≡ not (some_interchange A x w a (bit_and (get_or w x 0) (2 ^ a - 1)))
  unfolding is_representative some_interchange
  representative_test a h = ap not (sym (some_below 16 a (get_or w x 0) (λ b. interchange_in A x w b a) (omega arith)))

  -- What a value adds to the mask of the representatives.
  pub representative_none : (a one : ℕ) → a < 16 → one ≡ 2 ^ a → some_interchange A x w a (bit_and (get_or w x 0) (one - 1)) ≡ true → 0 ≡ cond (is_representative A x w a) (2 ^ a) 0
  representative_none a one h e t = sym (ap (λ b. cond b (2 ^ a) 0) (representative_test a h ∙ ap not (sym (ap (λ y. some_interchange A x w a (bit_and (get_or w x 0) (y - 1))) e) ∙ t)))

  pub representative_one : (a one : ℕ) → a < 16 → one ≡ 2 ^ a → some_interchange A x w a (bit_and (get_or w x 0) (one - 1)) ≡ false → one ≡ cond (is_representative A x w a) (2 ^ a) 0
  representative_one a one h e t =
      e ∙ sym (ap (λ b. cond b (2 ^ a) 0) (representative_test a h ∙ ap not (sym (ap (λ y. some_interchange A x w a (bit_and (get_or w x 0) (y - 1))) e) ∙ t)))

  pub representative_lt : (a : ℕ) → a < 16 → cond (is_representative A x w a) (2 ^ a) 0 < 2 ^ 16
  representative_lt a h = go (is_representative A x w a)
    where
      go : (b : Bool) → cond b (2 ^ a) 0 < 2 ^ 16
      go true = pow-lt h
      go false = pow_pos 16

  -- One more value of the domain, and no more.
  pub representatives-next :
      (out m all a r v : ℕ) → out < 2 ^ 16 → m < 2 ^ 16 → ¬ (m ≡ 0) → a ≡ first 16 (bit m) → r ≡ cond (is_representative A x w a) (2 ^ a) 0 → v ≡ rest m
      → all ≡ bit_or out (representatives_in A x w m) → all ≡ bit_or (bit_or out r) (representatives_in A x w v)
  unfolding representatives_in
  representatives-next out m all a r v o h z f g q e =
      e ∙ ap (bit_or out) (passing_rest 16 m (is_representative A x w) h z)
      ∙ sym (or_assoc 16 out _ _ o (representative_lt (first 16 (bit m)) (low_lt 16 m h z)) (mask_of_lt 16 _))
      ∙ ap₂ (λ y u. bit_or (bit_or out y) (mask_of 16 (λ a. bit u a && is_representative A x w a)))
      (sym (g ∙ ap (λ k. cond (is_representative A x w k) (2 ^ k) 0) f)) (sym q)

  pub representatives_end : (out m all : ℕ) → m ≡ 0 → all ≡ bit_or out (representatives_in A x w m) → out ≡ all
  unfolding representatives_in
  representatives_end out m all z e = sym (e ∙ ap (λ y. bit_or out (representatives_in A x w y)) z ∙ ap (bit_or out) none ∙ or_zero_r out)
    where
      none : mask_of 16 (λ a. bit 0 a && is_representative A x w a) ≡ 0
      none =
          bit_none 16 _ (mask_of_lt 16 _) λ a l.
          bit-mask_of 16 (λ a. bit 0 a && is_representative A x w a) a l
          ∙ ap (λ b. b && is_representative A x w a) (bit_of_zero a)

module _ (P : Problem) (n : ℕ) (A : Arrays) (S : States P n A) (x : ℕ) (l : x < n) (w : List ℕ) (small : (j : ℕ) → get_or w j 0 < 2 ^ 16) where
  -- Values a and b of x agree on value c of j; on all of them; on all other variables.
  abbrev agree : ℕ → ℕ → ℕ → ℕ → Bool
  agree a b j c = beq (P.compatible x a j c) (P.compatible x b j c)

  row_stated : (a b j : ℕ) → a < 16 → b < 16 → j < n → each 16 (domains (list_in n w) j) (agree a b j) ≡ same_row A x w a b j
  unfolding same_row
  row_stated a b j h k q =
      ap (λ d. each 16 d (agree a b j)) (domain_of_lem n w j q)
      ∙ each_eq 16 (bit (get_or w j 0)) (agree a b j) (λ c. beq (bit (row_in A x a j) c) (bit (row_in A x b j) c))
      (λ c r. ap₂ beq (S.row x a j c l h q r) (S.row x b j c l k q r))
      ∙ sym (same_within 16 (row_in A x a j) (row_in A x b j) (get_or w j 0) (small j))

  interchange_stated : (a b : ℕ) → a < 16 → b < 16 → interchange P (domains (list_in n w)) x a b ≡ interchange_in A x w a b
  unfolding interchange interchange_in
  interchange_stated a b h k =
      neighbours P n A S x l (λ j. each 16 (domains (list_in n w) j) (agree a b j)) (same_row A x w a b)
      (λ j q. row_stated a b j h k q)
      (λ j f. each_in 16 (domains (list_in n w) j) (agree a b j) λ c q t. both (P.compatible x a j c) (P.compatible x b j c) (P.free x j f a c) (P.free x j f b c))
    where
      both : (p q : Bool) → T p → T q → T (beq p q)
      both true true s t = tt
      both true false s t = absurd t
      both false q s t = absurd s

  -- The smallest of each group of the domain are rule 5's reply.
  pub interchangeable_stated : representatives_in A x w (get_or w x 0) ≡ interchangeable P x (list_in n w)
  unfolding representatives_in is_representative interchangeable representatives
  interchangeable_stated =
      mask_of_same 16 _ _ λ a h.
      ap₂ (λ (d : ℕ → Bool) (s : Bool). d a && not s) (sym (domain_of_lem n w x l))
      (ap (λ (d : ℕ → Bool). some a d (λ b. interchange_in A x w b a)) (sym (domain_of_lem n w x l))
      ∙ some_eq a (domains (list_in n w) x) (λ b. interchange_in A x w b a) (λ b. interchange P (domains (list_in n w)) x b a)
      (λ b k. sym (interchange_stated b a (omega arith) h)))
