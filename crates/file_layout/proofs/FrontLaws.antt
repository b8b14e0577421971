-- Two files with the same bytes below k, each of which ends where the other does or not below k: what the layout reads there is the same.
use Prim.Native.Nat.{ℕ, ◌+◌, ◌*◌, ◌≤◌, ◌<◌, min}
use mathlib.Core.Path.{◌≡◌, sym, ap, ap₂, ◌∙◌}
use mathlib.Core.Bool.{Bool, cond}
use mathlib.Core.List.{List}
use lib.ListN.{length, get_or, take, length-take}
use lib.Seq.{get_or-take}
use lib.Dec.{leb}
use native.Mathlib.Omega.{arith}
use borrow.Author.Tests.{le-leb, lt-leb}
use Rattle.mask.proofs.Logic.{by_lt}
use Rattle.file_layout.specs.Numbers.{pair_of}
use Rattle.file_layout.specs.Layout.{word, marked, opened, RS, variables_at, domain_at, row_at, pair_at, constraints_at, after_constraints, number_at, body_at}

pub record SameFront (k : ℕ) (f g : List ℕ) : Type 0 where
  pub bytes : (p : ℕ) → p < k → get_or f p 0 ≡ get_or g p 0
  pub long : min k (length f) ≡ min k (length g)

-- The first k bytes of a file.
pub take_front : (k : ℕ) (f : List ℕ) → SameFront k (take k f) f
take_front k f = record { bytes = λ p h. get_or-take k f p 0 h; long = omega (arith, length-take k f) }

module _ (k : ℕ) (f g : List ℕ) (s : SameFront k f g) where
  -- Places up to k that are reached, and those below k where a file has ended.
  reach_front : (p : ℕ) → p ≤ k → leb p (length f) ≡ leb p (length g)
  reach_front p h =
      by_lt (length f) p
      (λ l. lt-leb p (length f) l ∙ sym (lt-leb p (length g) (omega (arith, s.long))))
      (λ l. le-leb p (length f) l ∙ sym (le-leb p (length g) (omega (arith, s.long))))

  pub end_front : (p : ℕ) → p < k → leb (length f) p ≡ leb (length g) p
  end_front p h =
      by_lt p (length f)
      (λ l. lt-leb (length f) p l ∙ sym (lt-leb (length g) p (omega (arith, s.long))))
      (λ l. le-leb (length f) p l ∙ sym (le-leb (length g) p (omega (arith, s.long))))

  pub word_front : (p : ℕ) → p + 2 ≤ k → word f p ≡ word g p
  unfolding word
  word_front p h = ap₂ (λ (x y : ℕ). x + 256 * y) (s.bytes p (omega arith)) (s.bytes (p + 1) (omega arith))

  pub marked_front : (p : ℕ) (m : List ℕ) → p + 2 ≤ k → marked f p m ≡ marked g p m
  unfolding marked
  marked_front p m h = rw (reach_front (p + 2) h, s.bytes p (omega arith), s.bytes (p + 1) (omega arith))

  pub opened_front : (p : ℕ) (x y : Bool) (j : ℕ) → p + 2 + j ≤ k → x ≡ y → opened f p x j ≡ opened g p y j
  unfolding opened
  opened_front p x y j h e = rw (reach_front (p + 2) (omega arith), reach_front (p + 2 + j) h, e)

  pub start_front : 7 ≤ k → variables_at f ≡ variables_at g
  unfolding variables_at
  start_front h = ap (λ (b : Bool). cond b 8 5) (marked_front 5 RS h)

  pub constraints_at_front : 7 ≤ k → constraints_at f ≡ constraints_at g
  unfolding constraints_at
  constraints_at_front h = ap₂ (λ (b n : ℕ). b + 4 * n) (start_front h) (s.bytes 2 (omega arith))

  pub after_front : 7 ≤ k → after_constraints f ≡ after_constraints g
  unfolding after_constraints
  after_front h = ap₂ (λ (q m : ℕ). q + 36 * m) (constraints_at_front h) (word_front 3 (omega arith))

  pub domain_front : (b i : ℕ) → b + 4 * i + 4 ≤ k → domain_at f b i ≡ domain_at g b i
  unfolding domain_at
  domain_front b i h = word_front (b + 4 * i + 2) (omega arith)

  pub row_front : (p a : ℕ) → p + 6 + 2 * a ≤ k → row_at f p a ≡ row_at g p a
  unfolding row_at
  row_front p a h = word_front (p + 4 + 2 * a) (omega arith)

  pub pair_front : (p : ℕ) → p + 4 ≤ k → pair_at f p ≡ pair_at g p
  unfolding pair_at
  pair_front p h = ap₂ pair_of (s.bytes (p + 2) (omega arith)) (s.bytes (p + 3) (omega arith))

  pub number_front : (p x : ℕ) → p + 3 + x ≤ k → number_at f p x ≡ number_at g p x
  unfolding number_at
  number_front p x h = s.bytes (p + 2 + x) (omega arith)

  pub body_front : (p : ℕ) → p + 6 ≤ k → body_at f p ≡ body_at g p
  unfolding body_at
  body_front p h = ap (λ (c : ℕ). 4 + 3 * c) (number_front p 3 (omega arith))
