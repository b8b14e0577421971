-- The values of a turn, by the members of the mask that is left to try: the definitions go over all 16 values, the code over members. What is
-- left, from the present set or leaf, is the whole reply: that equation is what a loop keeps.
use mathlib.Core.Path.{◌≡◌, refl, sym, ap, ap₂, subst, ◌∙◌, fun_ext}
use mathlib.Core.Bool.{Bool, true, false, cond, not, ◌&&◌, and-false, and-true}
use mathlib.Core.List.{List}
use Prim.Native.Nat.{ℕ, zero, suc, ◌+◌, ◌-◌, ◌^◌, ◌≤◌, ◌<◌}
use native.Mathlib.Omega.{arith}
use lib.Dec.{T, ltb}
use lib.Bits.{bit_and, bit_or}
use borrow.Author.Tests.{eq-eqb, ne_eqb, le-ltb}
use Rattle.mask.specs.Range.{first}
use Rattle.mask.specs.Mask.{bit, mask_of, rest}
use Rattle.mask.proofs.Logic.{holds, clash, and_out, by_eq, by_lt}
use Rattle.mask.proofs.Range.{first_least}
use Rattle.mask.proofs.Bits.{bit-bit_and, bit_of_zero, bit_high}
use Rattle.mask.proofs.Masks.{mask_of_lt, bit-mask_of, mask_of_same, mask_of_bits}
use Rattle.mask.proofs.Members.{bit-rest, low_lt, low_in}
use Rattle.game.specs.Search.{Ending, solved, failed, or_else, and_also, some_value, untried, each_value}

-- The existential turn ---------------------------------------------------------------------------------------------------------
module _ (jump : Bool) (i : ℕ) (f : ℕ → Ending) where
  -- Values that the mask lacks are passed over.
  some_past : (m k v b J u c : ℕ) → u ≡ k + v → c ≡ k + b → ((x : ℕ) → b ≤ x → x < c → bit m x ≡ false) → some_value jump i m f u b J ≡ some_value jump i m f v c J
  unfolding some_value
  some_past m zero v b J u c p q h = let p' : u ≡ v = omega arith in let q' : b ≡ c = omega arith in rw (p', q')
  some_past m (suc k) v b J u c p q h =
      let p' : u ≡ suc (k + v) = omega arith in
      ap (λ u. some_value jump i m f u b J) p'
      ∙ ap (λ z. cond z (or_else (f b) (λ S. cond (jump && not (bit S i)) (failed S) (some_value jump i m f (k + v) (suc b) (bit_or J S)))) (some_value jump i m f (k + v) (suc b) J)) (h b (omega arith) (omega arith))
      ∙ some_past m k v (suc b) J (k + v) c refl (omega arith) (λ x l u. h x (omega arith) u)

  -- Only the values from b on count.
  some-agree : (m m' v b : ℕ) → ((x : ℕ) → b ≤ x → bit m x ≡ bit m' x) → (J : ℕ) → some_value jump i m f v b J ≡ some_value jump i m' f v b J
  unfolding some_value
  some-agree m m' zero b h J = refl
  some-agree m m' (suc v) b h J =
      let q : (J : ℕ) → some_value jump i m f v (suc b) J ≡ some_value jump i m' f v (suc b) J = some-agree m m' v (suc b) (λ x l. h x (omega arith)) in
      let g : ◌≡◌ {A = ℕ → Ending} (λ (J : ℕ). some_value jump i m f v (suc b) J) (λ (J : ℕ). some_value jump i m' f v (suc b) J) = fun_ext q in
      ap (λ z. cond z (or_else (f b) (λ S. cond (jump && not (bit S i)) (failed S) (some_value jump i m f v (suc b) (bit_or J S)))) (some_value jump i m f v (suc b) J)) (h b (omega arith))
      ∙ ap (λ (t : ℕ → Ending). cond (bit m' b) (or_else (f b) (λ S. cond (jump && not (bit S i)) (failed S) (t (bit_or J S)))) (t J)) g

  -- No value is left.
  some_none : (v b J : ℕ) → some_value jump i 0 f v b J ≡ failed J
  unfolding some_value
  some_none zero b J = refl
  some_none (suc v) b J =
      ap (λ z. cond z (or_else (f b) (λ S. cond (jump && not (bit S i)) (failed S) (some_value jump i 0 f v (suc b) (bit_or J S)))) (some_value jump i 0 f v (suc b) J)) (bit_of_zero b)
      ∙ some_none v (suc b) J

  module _ (m : ℕ) (h : m < 2 ^ 16) (z : ¬ (m ≡ 0)) (a : ℕ) (q : a ≡ first 16 (bit m)) where
    -- The rest has what the mask has above its lowest member, and nothing below.
    bit-above-low : (x : ℕ) → suc a ≤ x → bit (rest m) x ≡ bit m x
    bit-above-low x u = bit-rest 16 m h z x ∙ ap (λ e. bit m x && not e) (ne_eqb x (first 16 (bit m)) (omega arith)) ∙ and-true (bit m x)

    no_rest : (x : ℕ) → x < suc a → bit (rest m) x ≡ false
    no_rest x u = by_eq x (first 16 (bit m))
        (λ r. bit-rest 16 m h z x ∙ ap (λ e. bit m x && not e) (eq-eqb x (first 16 (bit m)) r) ∙ and-false (bit m x))
        (λ r. bit-rest 16 m h z x ∙ ap (λ e. bit m x && not e) (ne_eqb x (first 16 (bit m)) r) ∙ and-true (bit m x) ∙ first_least 16 (bit m) x (omega arith))

    low-here : bit m a ≡ true
    low-here = ap (bit m) q ∙ holds {b = bit m (first 16 (bit m))} (low_in 16 m h z)

    low_below : a < 16
    low_below = let l = low_lt 16 m h z in omega arith

    rest_from : (J : ℕ) → some_value jump i m f (15 - a) (suc a) J ≡ some_value jump i (rest m) f 16 0 J
    rest_from J =
        let l = low_below in
        sym (some_past (rest m) (suc a) (15 - a) 0 J 16 (suc a) (omega arith) (omega arith) (λ x _ u. no_rest x u) ∙ some-agree (rest m) m (15 - a) (suc a) bit-above-low J)

    -- The lowest member is tried first; the rest follows it.
    some-low : (J : ℕ) → some_value jump i m f 16 0 J ≡ or_else (f a) (λ S. cond (jump && not (bit S i)) (failed S) (some_value jump i (rest m) f 16 0 (bit_or J S)))
    unfolding some_value
    some-low J =
        let l = low_below in
        let r : ◌≡◌ {A = ℕ → Ending} (λ (J : ℕ). some_value jump i m f (15 - a) (suc a) J) (λ (J : ℕ). some_value jump i (rest m) f 16 0 J) = fun_ext rest_from in
        some_past m a (suc (15 - a)) 0 J 16 a (omega arith) (omega arith) (λ x _ u. first_least 16 (bit m) x (omega arith))
        ∙ ap (λ y. cond y (or_else (f a) (λ S. cond (jump && not (bit S i)) (failed S) (some_value jump i m f (15 - a) (suc a) (bit_or J S)))) (some_value jump i m f (15 - a) (suc a) J)) low-here
        ∙ ap (λ (t : ℕ → Ending). or_else (f a) (λ S. cond (jump && not (bit S i)) (failed S) (t (bit_or J S)))) r

  -- The loop: `left` is what is left, J the set so far, `whole` the reply of all values.
  module _ (left J : ℕ) (whole : Ending) (e : some_value jump i left f 16 0 J ≡ whole) where
    pub some_end : left ≡ 0 → whole ≡ failed J
    some_end z = sym e ∙ ap (λ m. some_value jump i m f 16 0 J) z ∙ some_none 16 0 J

    module _ (b : left < 2 ^ 16) (z : ¬ (left ≡ 0)) (a : ℕ) (q : a ≡ first 16 (bit left)) where
      step : (r : Ending) → f a ≡ r → whole ≡ or_else r (λ S. cond (jump && not (bit S i)) (failed S) (some_value jump i (rest left) f 16 0 (bit_or J S)))
      step r g = sym e ∙ some-low left b z a q J ∙ ap (λ (r : Ending). or_else r (λ S. cond (jump && not (bit S i)) (failed S) (some_value jump i (rest left) f 16 0 (bit_or J S)))) g

      -- A value that wins; one whose conflict set lacks the turn's variable; any other.
      pub some-won : (l : List ℕ) → f a ≡ solved l → whole ≡ solved l
      some-won l g = step (solved l) g

      pub some_jumps : (S : ℕ) → f a ≡ failed S → (jump && not (bit S i)) ≡ true → whole ≡ failed S
      some_jumps S g t = step (failed S) g ∙ ap (λ y. cond y (failed S) (some_value jump i (rest left) f 16 0 (bit_or J S))) t

      pub some_on : (S left' J' : ℕ) → f a ≡ failed S → (jump && not (bit S i)) ≡ false → left' ≡ rest left → J' ≡ bit_or J S → some_value jump i left' f 16 0 J' ≡ whole
      some_on S left' J' g t p u = rw (p, u) (sym (step (failed S) g ∙ ap (λ y. cond y (failed S) (some_value jump i (rest left) f 16 0 (bit_or J S))) t))

-- After value a nothing up to a is untried, and nothing that was not before.
pub untried_past : (g : ℕ → Bool) (a u : ℕ) → a < 16 → (x : ℕ) → x < suc a → bit (untried g a u) x ≡ false
unfolding untried
untried_past g a u h x l =
    bit-mask_of 16 (λ b. ltb a b && (bit u b && not (g b))) x (omega arith) ∙ ap (λ y. y && (bit u x && not (g x))) (le-ltb a x (omega arith))

pub untried_small : (g : ℕ → Bool) (a u : ℕ) → untried g a u < 2 ^ 16
unfolding untried
untried_small g a u = mask_of_lt 16 (λ b. ltb a b && (bit u b && not (g b)))

pub untried-part : (g : ℕ → Bool) (a u x : ℕ) → T (bit (untried g a u) x) → T (bit u x)
unfolding untried
untried-part g a u x t = by_lt x 16
    (λ h. (and_out (bit u x) (not (g x)) (and_out (ltb a x) (bit u x && not (g x)) (subst (λ b. T b) (bit-mask_of 16 (λ b. ltb a b && (bit u b && not (g b))) x h) t)).1).0)
    (λ h. absurd (clash (bit_high 16 (untried g a u) x (untried_small g a u) h) t))

-- The universal turn -----------------------------------------------------------------------------------------------------------
module _ (skips : List ℕ → ℕ → Bool) (f : ℕ → Ending) where
  each_past : (m k v b u c : ℕ) (q : List ℕ) → u ≡ k + v → c ≡ k + b → ((x : ℕ) → b ≤ x → x < c → bit m x ≡ false) → each_value skips f u b m q ≡ each_value skips f v c m q
  unfolding each_value
  each_past m zero v b u c q p r h = let p' : u ≡ v = omega arith in let r' : b ≡ c = omega arith in rw (p', r')
  each_past m (suc k) v b u c q p r h =
      let p' : u ≡ suc (k + v) = omega arith in
      ap (λ u. each_value skips f u b m q) p'
      ∙ ap (λ z. cond z (and_also (f b) (λ r. each_value skips f (k + v) (suc b) (untried (skips r) b m) r)) (each_value skips f (k + v) (suc b) m q)) (h b (omega arith) (omega arith))
      ∙ each_past m k v (suc b) (k + v) c q refl (omega arith) (λ x l u. h x (omega arith) u)

  each_none : (v b : ℕ) (q : List ℕ) → each_value skips f v b 0 q ≡ solved q
  unfolding each_value
  each_none zero b q = refl
  each_none (suc v) b q =
      ap (λ z. cond z (and_also (f b) (λ r. each_value skips f v (suc b) (untried (skips r) b 0) r)) (each_value skips f v (suc b) 0 q)) (bit_of_zero b)
      ∙ each_none v (suc b) q

  module _ (m : ℕ) (h : m < 2 ^ 16) (z : ¬ (m ≡ 0)) (a : ℕ) (s : a ≡ first 16 (bit m)) where
    next-from : (r : List ℕ) → each_value skips f (15 - a) (suc a) (untried (skips r) a m) r ≡ each_value skips f 16 0 (untried (skips r) a m) r
    next-from r =
        let l = low_lt 16 m h z in
        sym (each_past (untried (skips r) a m) (suc a) (15 - a) 0 16 (suc a) r (omega arith) (omega arith) (λ x _ u. untried_past (skips r) a m (omega arith) x u))

    -- The lowest member is tried first; what it leaves untried follows.
    each-low : (q : List ℕ) → each_value skips f 16 0 m q ≡ and_also (f a) (λ r. each_value skips f 16 0 (untried (skips r) a m) r)
    unfolding each_value
    each-low q =
        let l = low_lt 16 m h z in
        let r : ◌≡◌ {A = List ℕ → Ending} (λ (r : List ℕ). each_value skips f (15 - a) (suc a) (untried (skips r) a m) r) (λ (r : List ℕ). each_value skips f 16 0 (untried (skips r) a m) r) = fun_ext next-from in
        each_past m a (suc (15 - a)) 0 16 a q (omega arith) (omega arith) (λ x _ u. first_least 16 (bit m) x (omega arith))
        ∙ ap (λ y. cond y (and_also (f a) (λ r. each_value skips f (15 - a) (suc a) (untried (skips r) a m) r)) (each_value skips f (15 - a) (suc a) m q)) (ap (bit m) s ∙ holds {b = bit m (first 16 (bit m))} (low_in 16 m h z))
        ∙ ap (λ (t : List ℕ → Ending). and_also (f a) t) r

  -- The loop: `left` is untried, q the last leaf, `whole` the reply of all values.
  module _ (left : ℕ) (q : List ℕ) (whole : Ending) (e : each_value skips f 16 0 left q ≡ whole) where
    pub each_end : left ≡ 0 → whole ≡ solved q
    each_end z = sym e ∙ ap (λ m. each_value skips f 16 0 m q) z ∙ each_none 16 0 q

    module _ (b : left < 2 ^ 16) (z : ¬ (left ≡ 0)) (a : ℕ) (s : a ≡ first 16 (bit left)) where
      each_step : (r : Ending) → f a ≡ r → whole ≡ and_also r (λ r. each_value skips f 16 0 (untried (skips r) a left) r)
      each_step r g = sym e ∙ each-low left b z a s q ∙ ap (λ (r : Ending). and_also r (λ r. each_value skips f 16 0 (untried (skips r) a left) r)) g

      -- A value that is lost; one that gives the leaf r.
      pub each_lost : (S : ℕ) → f a ≡ failed S → whole ≡ failed S
      each_lost S g = each_step (failed S) g

      pub each_on : (r : List ℕ) (left' : ℕ) → f a ≡ solved r → left' ≡ untried (skips r) a left → each_value skips f 16 0 left' r ≡ whole
      each_on r left' g u = rw u (sym (each_step (solved r) g))

-- The untried values m, where none is skipped.
bit-untried : (a u m : ℕ) → m ≡ untried (bit 0) a u → (k : ℕ) → k < 16 → bit m k ≡ (ltb a k && (bit u k && true))
unfolding untried
bit-untried a u m o k l =
    ap (λ x. bit x k) o ∙ bit-mask_of 16 (λ b. ltb a b && (bit u b && not (bit 0 b))) k l ∙ ap (λ z. ltb a k && (bit u k && not z)) (bit_of_zero k)

-- Where there are none, none is left.
pub untried_none : (g : ℕ → Bool) (a u m : ℕ) → m ≡ untried (bit 0) a u → m ≡ 0 → 0 ≡ untried g a u
unfolding untried
untried_none g a u m o z =
    mask_of_bits 16 0 (omega arith)
    ∙ mask_of_same 16 (bit 0) (λ b. ltb a b && (bit u b && not (g b))) λ k l.
    bit_of_zero k ∙ less (ltb a k) (bit u k) (not (g k)) (sym (bit-untried a u m o k l) ∙ ap (λ x. bit x k) z ∙ bit_of_zero k)
  where
    less : (x y z : Bool) → (x && (y && true)) ≡ false → false ≡ (x && (y && z))
    less true true z q = absurd (clash q tt)
    less true false z q = refl
    less false y z q = refl

-- What those of them that are skipped, as a mask, leave untried.
untried_of : (g : ℕ → Bool) (a u m skipped : ℕ) → m ≡ untried (bit 0) a u → skipped ≡ bit_and m (mask_of 16 g) → untried (bit skipped) a u ≡ untried g a u
unfolding untried
untried_of g a u m skipped o e = mask_of_same 16 (λ b. ltb a b && (bit u b && not (bit skipped b))) (λ b. ltb a b && (bit u b && not (g b))) λ k l.
    ap (λ y. ltb a k && (bit u k && not y)) (ap (λ s. bit s k) e ∙ bit-bit_and m (mask_of 16 g) k ∙ ap₂ ◌&&◌ (bit-untried a u m o k l) (bit-mask_of 16 g k l))
    ∙ meet (ltb a k) (bit u k) (g k)
  where
    meet : (x y z : Bool) → (x && (y && not ((x && (y && true)) && z))) ≡ (x && (y && not z))
    meet true true z = refl
    meet true false z = refl
    meet false y z = refl

-- No value is skipped where rule 7 is not used.
pub untried_off : (on : Bool) (g : ℕ → Bool) (a u skipped : ℕ) → on ≡ false → skipped ≡ 0 → untried (bit skipped) a u ≡ untried (λ b. on && g b) a u
unfolding untried
untried_off on g a u skipped o e = mask_of_same 16 (λ b. ltb a b && (bit u b && not (bit skipped b))) (λ b. ltb a b && (bit u b && not (on && g b))) λ k l.
    ap (λ y. ltb a k && (bit u k && not y)) (ap (λ s. bit s k) e ∙ bit_of_zero k ∙ sym (ap (λ x. x && g k) o))

pub untried_used : (on : Bool) (g : ℕ → Bool) (a u m skipped : ℕ) → on ≡ true → m ≡ untried (bit 0) a u → skipped ≡ bit_and m (mask_of 16 g)
    → untried (bit skipped) a u ≡ untried (λ b. on && g b) a u
untried_used on g a u m skipped t o e = untried_of g a u m skipped o e ∙ ap (λ (x : Bool). untried (λ b. x && g b) a u) (sym t)
