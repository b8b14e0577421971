-- The steps of the code against specs/Loss.antt, over plain variables.
use mathlib.Core.Path.{◌≡◌, sym, ap, ap₂, subst, ◌∙◌}
use mathlib.Core.Bool.{Bool, true, false, not, ◌&&◌, and-true, and_comm}
use mathlib.Core.List.{List}
use Prim.Native.Nat.{ℕ, ◌^◌, ◌≤◌, ◌<◌}
use native.Mathlib.Omega.{arith}
use lib.Dec.{T, eqb, ltb}
use lib.Bits.{bit_and, bit_or}
use lib.ListN.{get_or}
use borrow.Author.Tests.{lt-ltb, le-ltb, ltb-true}
use Rattle.mask.specs.Range.{each, first}
use Rattle.mask.specs.Mask.{bit}
use Rattle.std.specs.Prelude.{Option, Some, None}
use Rattle.std.specs.Option.{unwrap_or}
use Rattle.mask.specs.Upward.{Took}
use Rattle.mask.proofs.Logic.{holds, true_holds, by_lt, and_out, and_keep}
use Rattle.mask.proofs.Range.{first_of, first-agree}
use Rattle.mask.proofs.Bits.{bit-bit_and}
use Rattle.mask.proofs.Masks.{within-each}
use Rattle.mask.proofs.Members.{first_found, first_on, first-empty}
use Rattle.mask.proofs.Chains.{took_below, left_fits}
use Rattle.solver_arrays.specs.Arrays.{supported_in, common_in}
use Rattle.solver_arrays.specs.Words.{reason_in}
use Rattle.mask.specs.Found.{found}
use Rattle.rule_arc.specs.Loss.{emptied_in, bars_in, barrier, stopped, stop, loss, conflict}
use Rattle.mask.proofs.Found.{found_some, found_none, cut_fits}
use Rattle.solver_arrays.specs.declared.arrays.Arrays.{Arrays}

-- A universal k, a later existential one, and an earlier one.
module _ (A : Arrays) (x k u v m : ℕ) (b c : Bool) (e : c ≡ bit A.universal k) (p : b ≡ each 16 (bit u) (bit m)) where
  pub bars_universal : c ≡ true → m ≡ common_in A k v x → not b ≡ bars_in A x k u v
  unfolding bars_in
  bars_universal t q = rw (← e, t, ← q, p)

pub bars_later : (A : Arrays) (x k u v m : ℕ) (c : Bool) → u < 65536 → c ≡ bit A.universal k → c ≡ false → x < k → m ≡ bit_and u (supported_in A k v x)
    → not (eqb m u) ≡ bars_in A x k u v
unfolding bars_in
bars_later A x k u v m c h e t l q = rw (← e, t, lt-ltb x k l, ← within-each 16 u (supported_in A k v x) h, ← q)

pub bars_earlier : (A : Arrays) (x k u v : ℕ) (c : Bool) → c ≡ bit A.universal k → c ≡ false → k ≤ x → ltb x k ≡ bars_in A x k u v
unfolding bars_in
bars_earlier A x k u v c e t l = rw (← e, t, le-ltb x k l)

-- The search for the lowest stopped variable with its barrier: m are the universal variables that are still to come.
module _ (A : Arrays) (touched : ℕ) (w : List ℕ) (n : ℕ) where
  abbrev first_bar_of : ℕ → ℕ
  first_bar_of x = barrier A w x (bit_and (get_or A.near x 0) touched)

  abbrev is_barred : ℕ → Bool
  is_barred x = ltb (first_bar_of x) 32

  pub record Stopping (m : ℕ) : Type 0 where
    pub fits : m < 2 ^ n
    pub lowest : first n (stopped A touched w) ≡ first n (λ x. bit m x && is_barred x)

  pub stopping_start : (e : ℕ) → n ≤ 32 → e < 2 ^ 32 → ((k : ℕ) → bit e k ≡ ltb k n) → Stopping (bit_and A.universal e)
  unfolding stopped
  stopping_start e b h f = record {
    fits = cut_fits n A.universal e b h f;
    lowest = first-agree n _ _ λ x l. ap (λ (c : Bool). c && is_barred x) (sym (bit-bit_and A.universal e x ∙ rw (f x, lt-ltb x n l) (and-true (bit A.universal x))));
  }

  stop_is : (x k : ℕ) → first n (stopped A touched w) ≡ x → x < n → k ≡ first_bar_of x → Some (x, k) ≡ stop A touched w n
  unfolding stop
  stop_is x k e l q = rw (e, lt-ltb x n l, q)

  module _ (m x v : ℕ) (t : Took 32 m x v) (s : Stopping m) where
    pub stopping-found : (k : ℕ) → Some k ≡ found 32 (first_bar_of x) → Some (x, k) ≡ stop A touched w n
    stopping-found k e =
        let r = found_some 32 (first_bar_of x) k e in
        let l = took_below t n s.fits in
        stop_is x k
        (s.lowest ∙ first_found n 32 m t.fits t.some is_barred (subst (λ y. y < n) t.low l) (subst (λ y. T (is_barred y)) t.low (true_holds (lt-ltb (first_bar_of x) 32 r.1))) ∙ sym t.low)
        l r.0

    pub stopping_on : None ≡ found 32 (first_bar_of x) → Stopping v
    stopping_on e = record {
      fits = left_fits t n s.fits;
      lowest = s.lowest ∙ first_on n 32 m t.fits t.some is_barred (subst (λ y. is_barred y ≡ false) t.low (le-ltb (first_bar_of x) 32 (found_none 32 (first_bar_of x) e)))
          ∙ ap (λ y. first n (λ x. bit y x && is_barred x)) (sym t.left);
    }

  pub stopping_end : (m : ℕ) → m ≡ 0 → Stopping m → None ≡ stop A touched w n
  unfolding stop
  stopping_end m z s = rw (s.lowest ∙ first-empty n m is_barred z, le-ltb n n (omega arith))

-- The lowest emptied variable is one of the mask.
pub emptied_first : (n universal touched e : ℕ) (w : List ℕ) → ((k : ℕ) → bit e k ≡ ltb k n) → ((x : ℕ) → x < n → T (emptied_in universal w x) → T (bit touched x))
    → first n (λ k. bit (bit_and touched e) k && emptied_in universal w k) ≡ first n (emptied_in universal w)
emptied_first n universal touched e w f g = first-agree n _ _ λ x l.
    ap (λ c. c && emptied_in universal w x) (bit-bit_and touched e x ∙ rw (f x, lt-ltb x n l) (and-true (bit touched x)))
    ∙ and_comm (bit touched x) (emptied_in universal w x) ∙ and_keep (emptied_in universal w x) (bit touched x) (g x l)

-- The loss: an emptied variable; else a stopped one, with its barrier; else none.
module _ (A : Arrays) (touched : ℕ) (w : List ℕ) (n : ℕ) where
  pub loss-emptied : (x q : ℕ) → Some x ≡ found n (first n (emptied_in A.universal w)) → q ≡ reason_in w x
      → (true ≡ loss A touched w n) × (q ≡ conflict A touched w n)
  unfolding loss conflict
  loss-emptied x q p e =
      let r = found_some n (first n (emptied_in A.universal w)) x p in
      (rw (lt-ltb (first n (emptied_in A.universal w)) n r.1), rw (lt-ltb (first n (emptied_in A.universal w)) n r.1) (e ∙ ap (reason_in w) r.0))

  -- What is stopped first, and its barrier; or nothing.
  abbrev y : ℕ
  y = first n (stopped A touched w)

  abbrev z : ℕ
  z = barrier A w y (bit_and (get_or A.near y 0) touched)

  stop_some : (x k : ℕ) → Some (x, k) ≡ stop A touched w n → (y < n) × (x ≡ y) × (k ≡ z)
  unfolding stop
  stop_some x k e = by_lt y n
      (λ l. let q : Some (x, k) ≡ Some (y, z) = rw (lt-ltb y n l) at e in
      (l, ap (λ (o : Option (ℕ × ℕ)). (unwrap_or o (0, 0)).0) q, ap (λ (o : Option (ℕ × ℕ)). (unwrap_or o (0, 0)).1) q))
      (λ l. let q : Some (x, k) ≡ None = rw (le-ltb y n l) at e in absurd (cc))

  stop_none : None ≡ stop A touched w n → n ≤ y
  unfolding stop
  stop_none e = by_lt y n (λ l. let q : None ≡ Some (y, z) = rw (lt-ltb y n l) at e in absurd (cc)) (λ l. l)

  -- The lowest stopped variable has a barrier.
  pub stop_below : (x k : ℕ) → Some (x, k) ≡ stop A touched w n → (x < n) × (k < 32)
  unfolding stopped
  stop_below x k e =
      let s = stop_some x k e in
      let t : T (stopped A touched w y) = first_of n (stopped A touched w) s.0 in
      (omega arith, rw s.2 (ltb-true z 32 (holds {b = ltb z 32} (and_out (bit A.universal y) (ltb z 32) t).1)))

  module _ (p : None ≡ found n (first n (emptied_in A.universal w))) where
    not_emptied : ltb (first n (emptied_in A.universal w)) n ≡ false
    not_emptied = le-ltb (first n (emptied_in A.universal w)) n (found_none n (first n (emptied_in A.universal w)) p)

    pub loss-stopped : (x k a b : ℕ) → Some (x, k) ≡ stop A touched w n → a ≡ reason_in w x → b ≡ reason_in w k
        → (true ≡ loss A touched w n) × (bit_or a b ≡ conflict A touched w n)
    unfolding loss conflict
    loss-stopped x k a b q e g =
        let s = stop_some x k q in
        (rw (not_emptied, lt-ltb y n s.0), rw (not_emptied, lt-ltb y n s.0) (ap₂ bit_or (e ∙ ap (reason_in w) s.1) (g ∙ ap (reason_in w) s.2)))

    pub loss_none : None ≡ stop A touched w n → (false ≡ loss A touched w n) × (0 ≡ conflict A touched w n)
    unfolding loss conflict
    loss_none q = let l = stop_none q in (rw (not_emptied, le-ltb y n l), rw (not_emptied, le-ltb y n l))
