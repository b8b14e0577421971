-- Lists of masks against domains: the two forms say the same, so every law of domains is a law of lists.
use mathlib.Core.Path.{◌≡◌, refl, sym, ap, ◌∙◌, fun_ext, ap₂}
use mathlib.Core.Bool.{Bool, true, false, not, ◌&&◌, cond}
use mathlib.Core.List.{List, [], ◌∷◌}
use Prim.Native.Nat.{ℕ, zero, suc, ◌^◌, ◌≤◌, ◌<◌}
use native.Mathlib.Omega.{arith}
use lib.Dec.{T, T_not, eqb, eqb→eq, eqb_refl, ltb}
use lib.ListN.{get_or, length, set, length-set, get_or-eq_default}
use lib.Seq.{ext_get_or, get_or-set_same, get_or-set_other}
use lib.Pow.{pow-lt}
use lib.Bits.{bit_and, and_le_l}
use borrow.Author.Tests.{eq-eqb, ne_eqb, lt-ltb, le-ltb}
use Rattle.mask.specs.Range.{some, each}
use Rattle.mask.specs.Mask.{bit, mask_of}
use Rattle.mask.proofs.Logic.{fails, clash, test, by_eq, by_lt, and_in, and_out}
use Rattle.mask.proofs.Range.{each_out, each_in, some_out, some_in}
use Rattle.mask.proofs.Bits.{bit_single, bit_of_zero, bit_high, bit_none, bit-bit_and, bit_ext}
use Rattle.mask.proofs.Masks.{mask_of_lt, bit-mask_of, mask_of_bits}
use Rattle.game.specs.Problem.{Problem}
use Rattle.game.specs.Game.{Domains, replace, narrow}
use Rattle.game.specs.Lists.{domains, list_of, masks_of, narrow_to, within, may_lend, wins_over, Masks}
use Rattle.game.specs.Position.{play_of, narrowed, placed}
use Rattle.theory.proofs.Transfer.{In}
use Rattle.theory.proofs.Swap.{start, wins-start}

-- Domains with no value outside n variables of 16 values.
abbrev pub Boxed : ℕ → Domains → Type 0
Boxed n D = (j a : ℕ) → T (D j a) → (j < n) × (a < 16)

-- The elements of a list that a function makes.
pub length-list_of : (n : ℕ) (f : ℕ → ℕ) → length (list_of n f) ≡ n
unfolding list_of
length-list_of zero f = refl
length-list_of (suc n) f = ap suc (length-list_of n (λ i. f (suc i)))

pub get_d_list_of : (n : ℕ) (f : ℕ → ℕ) (i : ℕ) → i < n → get_or (list_of n f) i 0 ≡ f i
unfolding list_of
get_d_list_of zero f i h = absurd (omega arith)
get_d_list_of (suc n) f zero h = refl
get_d_list_of (suc n) f (suc i) h = get_d_list_of n (λ i. f (suc i)) i (omega arith)

pub get_d_beyond : (n : ℕ) (f : ℕ → ℕ) (i : ℕ) → n ≤ i → get_or (list_of n f) i 0 ≡ 0
get_d_beyond n f i h = let e = length-list_of n f in get_or-eq_default (list_of n f) 0 {n = i} (omega arith)

-- Its numbers are below w where every f i is, and not zero where no f i is.
pub list_of-below : (n : ℕ) (f : ℕ → ℕ) (w : ℕ) → ((i : ℕ) → f i < w) → (i : ℕ) → get_or (list_of n f) i 0 < w
list_of-below n f w h i = by_lt i n (λ l. omega (arith, get_d_list_of n f i l, h i)) (λ l. omega (arith, get_d_beyond n f i l, h i))

pub list_of-some : (n : ℕ) (f : ℕ → ℕ) → ((i : ℕ) → i < n → ¬ (f i ≡ 0)) → (i : ℕ) → i < n → ¬ (get_or (list_of n f) i 0 ≡ 0)
list_of-some n f h i l e = h i l (sym (get_d_list_of n f i l) ∙ e)

-- Lists of equal numbers are equal; a number stored in such a list.
pub list_of_same : (n : ℕ) (f g : ℕ → ℕ) → ((k : ℕ) → k < n → f k ≡ g k) → list_of n f ≡ list_of n g
unfolding list_of
list_of_same zero f g e = refl
list_of_same (suc n) f g e = ap₂ (λ (a : ℕ) (l : List ℕ). a ∷ l) (e 0 (omega arith)) (list_of_same n (λ k. f (suc k)) (λ k. g (suc k)) (λ k h. e (suc k) (omega arith)))

pub set-list_of : (n : ℕ) (f : ℕ → ℕ) (j v : ℕ) → j < n → set (list_of n f) j v ≡ list_of n (λ k. cond (eqb k j) v (f k))
set-list_of n f j v h =
    let p = length-list_of n f in
    let q = length-list_of n (λ k. cond (eqb k j) v (f k)) in
    let s = length-set (list_of n f) j v in
    ext_get_or 0 (set (list_of n f) j v) (list_of n (λ k. cond (eqb k j) v (f k))) (s ∙ p ∙ sym q) λ k l.
    rw (get_d_list_of n (λ k. cond (eqb k j) v (f k)) k (omega arith)) (by_eq k j
    (λ e. rw (e, get_or-set_same (list_of n f) j v 0 (omega arith), eq-eqb j j refl))
    (λ e. rw (get_or-set_other (list_of n f) j k v 0 e, ne_eqb k j e) (get_d_list_of n f k (omega arith))))

-- The masks of domains are n masks of 16 bits, and state these domains.
pub masks_of_masks : (n : ℕ) (D : Domains) → Masks n (masks_of n D)
unfolding masks_of
masks_of_masks n D = record {
  size = length-list_of n (λ i. mask_of 16 (D i));
  small = list_of-below n (λ i. mask_of 16 (D i)) 65536 (λ i. mask_of_lt 16 (D i));
}

pub domains-masks_of : (n : ℕ) (D : Domains) → Boxed n D → domains (masks_of n D) ≡ D
unfolding domains masks_of
domains-masks_of n D b = fun_ext λ j. fun_ext λ a. by_lt j n
    (λ h. rw (get_d_list_of n (λ i. mask_of 16 (D i)) j h) (by_lt a 16 (λ l. bit-mask_of 16 (D j) a l)
    (λ l. bit_high 16 (mask_of 16 (D j)) a (mask_of_lt 16 (D j)) l ∙ sym (fails {b = D j a} λ t. let r = b j a t in let k = r.1 in omega arith))))
    (λ h. rw (get_d_beyond n (λ i. mask_of 16 (D i)) j h) (bit_of_zero a ∙ sym (fails {b = D j a} λ t. let r = b j a t in let k = r.0 in omega arith)))

-- The domains of n masks of 16 bits lie in the box, and have these masks.
pub domains_boxed : (n : ℕ) (l : List ℕ) → Masks n l → Boxed n (domains l)
unfolding domains
domains_boxed n l w j a t = (
  by_lt j n (λ h. h) (λ h. let e = w.size in absurd (clash {b = bit (get_or l j 0) a} (rw (get_or-eq_default l 0 {n = j} (omega arith)) (bit_of_zero a)) t)),
  by_lt a 16 (λ h. h) (λ h. absurd (clash (bit_high 16 (get_or l j 0) a (w.small j) h) t)),
)

pub masks_of-domains : (n : ℕ) (l : List ℕ) → Masks n l → masks_of n (domains l) ≡ l
unfolding domains masks_of
masks_of-domains n l w =
    let e = w.size in
    let k = length-list_of n (λ i. mask_of 16 (bit (get_or l i 0))) in
    ext_get_or 0 (list_of n (λ i. mask_of 16 (bit (get_or l i 0)))) l (k ∙ sym e)
    λ i h. get_d_list_of n (λ i. mask_of 16 (bit (get_or l i 0))) i (omega arith) ∙ sym (mask_of_bits 16 (get_or l i 0) (w.small i))

-- One mask set: the domains with one replaced.
pub masks_set : (n : ℕ) (l : List ℕ) (x m : ℕ) → x < n → m < 65536 → Masks n l → Masks n (set l x m)
masks_set n l x m h k w = let e = w.size in record {
  size = length-set l x m ∙ e;
  small = λ i. by_eq i x (λ z. rw (z, get_or-set_same l x m 0 (omega arith)) k) (λ z. rw (get_or-set_other l x i m 0 z) (w.small i));
}

pub domains-set : (n : ℕ) (l : List ℕ) (x : ℕ) (m : ℕ) → x < n → Masks n l → domains (set l x m) ≡ replace (domains l) x (bit m)
unfolding domains replace
domains-set n l x m h w = let e = w.size in fun_ext λ j. fun_ext λ a.
    by_eq j x (λ z. rw (z, eq-eqb x x refl, get_or-set_same l x m 0 (omega arith))) (λ z. rw (ne_eqb j x z, get_or-set_other l x j m 0 z))

-- The bits of the mask of a test with no value above 15.
pub bits_of : (m : ℕ → Bool) → ((a : ℕ) → T (m a) → a < 16) → bit (mask_of 16 m) ≡ m
bits_of m b = fun_ext λ a. by_lt a 16 (λ l. bit-mask_of 16 m a l)
    (λ l. bit_high 16 (mask_of 16 m) a (mask_of_lt 16 m) l ∙ sym (fails {b = m a} λ t. let k = b a t in omega arith))

pub domains_mask : (n : ℕ) (l : List ℕ) (x : ℕ) (m : ℕ → Bool) → x < n → ((a : ℕ) → T (m a) → a < 16) → Masks n l → domains (set l x (mask_of 16 m)) ≡ replace (domains l) x m
domains_mask n l x m h b w = domains-set n l x (mask_of 16 m) h w ∙ rw (bits_of m b)

pub domains-narrow_to : (n : ℕ) (l : List ℕ) (x a : ℕ) → x < n → Masks n l → domains (narrow_to l x a) ≡ narrow (domains l) x a
unfolding narrow_to
domains-narrow_to n l x a h w = domains-set n l x (2 ^ a) h w ∙ ap (replace (domains l) x) (fun_ext λ b. bit_single a b)

power_small : (a : ℕ) → a < 16 → 2 ^ a < 65536
power_small a h = pow-lt h

pub masks_narrow_to : (n : ℕ) (l : List ℕ) (x a : ℕ) → x < n → a < 16 → Masks n l → Masks n (narrow_to l x a)
unfolding narrow_to
masks_narrow_to n l x a h k w = masks_set n l x (2 ^ a) h (power_small a k) w

-- The plays narrowed: the position.
ltb·suc : (j n : ℕ) → ltb (suc j) (suc n) ≡ ltb j n
ltb·suc j n = by_lt j n (λ h. lt-ltb (suc j) (suc n) (omega arith) ∙ sym (lt-ltb j n h)) (λ h. le-ltb (suc j) (suc n) (omega arith) ∙ sym (le-ltb j n h))

placed_at : (l p : List ℕ) → length p ≤ length l → (j a : ℕ) → domains (narrowed l p) j a ≡ placed (domains l) (length p) (play_of p) j a
unfolding domains narrowed placed play_of
placed_at l [] h j a = rw (le-ltb j 0 (omega arith))
placed_at [] (v ∷ p) h j a = absurd (omega arith)
placed_at (m ∷ l) (v ∷ p) h zero a = rw (lt-ltb 0 (suc (length p)) (omega arith)) (bit_single v a)
placed_at (m ∷ l) (v ∷ p) h (suc j) a = rw (ltb·suc j (length p)) (placed_at l p (omega arith) j a)

-- A list of masks with plays narrowed: its length, a mask of a play, another mask.
pub length-narrowed : (l p : List ℕ) → length (narrowed l p) ≡ length l
unfolding narrowed
length-narrowed l [] = refl
length-narrowed [] (a ∷ p) = refl
length-narrowed (m ∷ l) (a ∷ p) = ap suc (length-narrowed l p)

pub narrowed-played : (l p : List ℕ) (i : ℕ) → length p ≤ length l → i < length p → get_or (narrowed l p) i 0 ≡ 2 ^ get_or p i 0
unfolding narrowed
narrowed-played l [] i h k = absurd (omega arith)
narrowed-played [] (a ∷ p) i h k = absurd (omega arith)
narrowed-played (m ∷ l) (a ∷ p) zero h k = refl
narrowed-played (m ∷ l) (a ∷ p) (suc i) h k = narrowed-played l p i (omega arith) (omega arith)

pub narrowed_unplayed : (l p : List ℕ) (i : ℕ) → length p ≤ i → get_or (narrowed l p) i 0 ≡ get_or l i 0
unfolding narrowed
narrowed_unplayed l [] i h = refl
narrowed_unplayed [] (a ∷ p) i h = refl
narrowed_unplayed (m ∷ l) (a ∷ p) zero h = absurd (omega arith)
narrowed_unplayed (m ∷ l) (a ∷ p) (suc i) h = narrowed_unplayed l p i (omega arith)

pub domains-narrowed : (l p : List ℕ) → length p ≤ length l → domains (narrowed l p) ≡ placed (domains l) (length p) (play_of p)
domains-narrowed l p h = fun_ext λ j. fun_ext λ a. placed_at l p h j a

-- A list that may be lent.
pub record Lent (P : Problem) (l : List ℕ) : Type 0 where
  pub masks : Masks P.n l
  pub full : (i : ℕ) → i < P.n → (a : ℕ) × In (domains l i) a
  pub within : (i a : ℕ) → T (domains l i a) → T (domains P.domain i a)

module _ (P : Problem) where
  open P use {n, domain, universal, compatible}

  -- The file's own masks.
  pub file_masks : Masks n domain
  file_masks = record { size = P.sized; small = P.bounded }

  -- A mask that is not zero holds a value; one that holds a value is not zero.
  pub some_value_lem : (m : ℕ) → m < 65536 → ¬ (m ≡ 0) → (a : ℕ) × In (bit m) a
  some_value_lem m h ne = test (some 16 (bit m) (λ a. true)) (λ t. let r = some_out 16 (bit m) (λ a. true) t in (r.0, (r.1, r.2)))
      (λ e. absurd (ne (bit_none 16 m h (λ k l. fails {b = bit m k} λ t. clash e (some_in 16 (bit m) (λ a. true) k l t tt)))))

  not_zero : (m a : ℕ) → T (bit m a) → eqb m 0 ≡ false
  not_zero m a t = ne_eqb m 0 (λ e. clash {b = bit m a} (rw e (bit_of_zero a)) t)

  -- A mask within another is no greater, and its members are the other's.
  within_le : (m w : ℕ) → T (within m w) → m ≤ w
  unfolding within
  within_le m w t = let e = eqb→eq (bit_and w m) m t in let k = and_le_l w m in omega arith

  within-bit : (m w : ℕ) → T (within m w) → (a : ℕ) → T (bit m a) → T (bit w a)
  unfolding within
  within-bit m w t a s =
      let u : T (bit (bit_and w m) a) = rw (eqb→eq (bit_and w m) m t) s in (and_out (bit w a) (bit m a) (rw (bit-bit_and w m a) at u)).0

  within_in : (m w : ℕ) → m < 65536 → w < 65536 → ((a : ℕ) → T (bit m a) → T (bit w a)) → T (within m w)
  unfolding within
  within_in m w hm hw f =
      let e : bit_and w m ≡ m = bit_ext 16 (bit_and w m) m (let k = and_le_l w m in omega arith) hm (λ k l. bit-bit_and w m k ∙ sub (bit w k) (bit m k) (f k)) in
      rw e (eqb_refl m)
    where
      sub : (x y : Bool) → (T y → T x) → (x && y) ≡ y
      sub true y f = refl
      sub false true f = absurd (f tt)
      sub false false f = refl

  -- What the test says of a list that may be lent, and what shows it.
  pub lent_out : (l : List ℕ) → T (may_lend P l) → Lent P l
  unfolding may_lend domains
  lent_out l t = record { masks = w; full = λ i h. some_value_lem (get_or l i 0) (w.small i) (λ e. T_not (eqb (get_or l i 0) 0) (each_mask i h).0 (rw e (eqb_refl 0))); within = sub }
    where
      parts : T (eqb (length l) n) × T (each n (λ i. true) (λ i. not (eqb (get_or l i 0) 0) && within (get_or l i 0) (get_or domain i 0)))
      parts = and_out (eqb (length l) n) (each n (λ i. true) (λ i. not (eqb (get_or l i 0) 0) && within (get_or l i 0) (get_or domain i 0))) t

      each_mask : (i : ℕ) → i < n → T (not (eqb (get_or l i 0) 0)) × T (within (get_or l i 0) (get_or domain i 0))
      each_mask i h =
          and_out (not (eqb (get_or l i 0) 0)) (within (get_or l i 0) (get_or domain i 0))
          (each_out n (λ i. true) (λ i. not (eqb (get_or l i 0) 0) && within (get_or l i 0) (get_or domain i 0)) parts.1 i h tt)

      long : length l ≡ n
      long = eqb→eq (length l) n parts.0

      beyond : (i : ℕ) → n ≤ i → get_or l i 0 ≡ 0
      beyond i h = let e = long in get_or-eq_default l 0 {n = i} (omega arith)

      sub : (i a : ℕ) → T (bit (get_or l i 0) a) → T (bit (get_or domain i 0) a)
      sub i a s = by_lt i n (λ h. within-bit (get_or l i 0) (get_or domain i 0) (each_mask i h).1 a s)
          (λ h. absurd (clash {b = bit (get_or l i 0) a} (rw (beyond i h) (bit_of_zero a)) s))

      w : Masks n l
      w = record {
        size = long;
        small = λ i. by_lt i n (λ h. let k = within_le (get_or l i 0) (get_or domain i 0) (each_mask i h).1 in let b = P.bounded i in omega arith)
            (λ h. let e = beyond i h in omega arith);
      }

  pub lent_in : (l : List ℕ) → Lent P l → T (may_lend P l)
  unfolding may_lend domains
  lent_in l w =
      and_in (eqb (length l) n) (each n (λ i. true) (λ i. not (eqb (get_or l i 0) 0) && within (get_or l i 0) (get_or domain i 0)))
      (rw w.masks.size (eqb_refl n))
      (each_in n (λ i. true) (λ i. not (eqb (get_or l i 0) 0) && within (get_or l i 0) (get_or domain i 0)) λ i h _.
      let v = w.full i h in
      and_in (not (eqb (get_or l i 0) 0)) (within (get_or l i 0) (get_or domain i 0)) (rw (not_zero (get_or l i 0) v.0 v.1.1) tt)
      (within_in (get_or l i 0) (get_or domain i 0) (w.masks.small i) (P.bounded i) (w.within i)))

  -- The file's own list may be lent.
  pub file_lent : Lent P domain
  unfolding domains
  file_lent = record { masks = file_masks; full = λ i h. some_value_lem (get_or domain i 0) (P.bounded i) (P.nonempty i h); within = λ i a t. t }

  -- The game over a list is the game over its domains.
  pub over-start : (l : List ℕ) → wins_over P l ≡ start P (domains l)
  unfolding wins_over
  over-start l = wins-start P (domains l)
