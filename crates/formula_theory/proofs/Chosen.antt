-- What an assignment chooses of a variable: the ways whose denial does not hold.
use mathlib.Core.Path.{◌≡◌, refl, sym, ◌∙◌}
use mathlib.Core.Bool.{Bool, true, false, not}
use mathlib.Core.List.{[], ◌∷◌}
use Prim.Native.Nat.{ℕ, suc, ◌+◌, ◌<◌, ◌%◌}
use native.Mathlib.Nat.{mod-lt, mod-eq_of_lt}
use native.Mathlib.Omega.{arith}
use lib.Dec.{T, eqb, eqb→eq, eqb_refl}
use Rattle.mask.specs.Mask.{bit, mask_of}
use Rattle.mask.proofs.Logic.{holds, true_holds, fails, clash, and_in, and_out}
use Rattle.mask.proofs.Places.{place-below, at_place, place_same}
use Rattle.mask.proofs.Bits.{bit_ext}
use Rattle.mask.proofs.Masks.{mask_of_lt, bit-mask_of}
use Rattle.game.specs.Problem.{Problem}
use Rattle.game.specs.Lists.{domains}
use Rattle.buffer.specs.Stored.{joined}
use Rattle.formula.specs.Formula.{Assignment, literal_holds, clause_holds}
use Rattle.formula.specs.Encoding.{size, place, width, base, boolean_of, ways, stands, denial}
use Rattle.formula_theory.proofs.Clauses.{clause-joined, joined-clause, one_literal, literal_one}
use Rattle.formula_theory.proofs.Blocks.{spread, spread_at}
use Rattle.formula_theory.proofs.Widths.{size-some, width_existential, ways-universal, ways_existential, size-ways}

-- A literal against the value of its boolean.
literal_fails : (s : Assignment) (b : Bool) (v : ℕ) → s v ≡ b → T (literal_holds s (record { positive = not b; boolean = v })) → ⊥
unfolding literal_holds
literal_fails s true v e t = let t' : T (not (s v)) = t in let z : T (not true) = rw e at t' in z
literal_fails s false v e t = let t' : T (s v) = t in let z : T false = rw e at t' in z

literal_else : (s : Assignment) (b : Bool) (v : ℕ) → (T (literal_holds s (record { positive = not b; boolean = v })) → ⊥) → s v ≡ b
unfolding literal_holds
literal_else s true v f = go (s v) f
  where
    go : (x : Bool) → (T (not x) → ⊥) → x ≡ true
    go true f = refl
    go false f = absurd (f tt)
literal_else s false v f = fails f

module _ (P : Problem) where
  open P use {n, domain, universal}

  -- Way c stands for the value at place c mod d.
  stands_in : (i c a : ℕ) → T (domains domain i a) → c % size P i ≡ place P i a → T (stands P i c a)
  unfolding stands
  stands_in i c a t e = and_in (domains domain i a) (eqb (c % size P i) (place P i a)) t (rw e (eqb_refl (place P i a)))

  -- Each way stands for a value, no way for two, and each value has a way, its place.
  pub way_value : (i c : ℕ) → i < n → (a : ℕ) × (a < 16) × T (domains domain i a) × T (stands P i c a)
  unfolding size place
  way_value i c h =
      let r = at_place 16 (domains domain i) (c % size P i) (mod-lt c (size-some P i h)) in
      (r.0, r.1, r.2, stands_in i c r.0 r.2 (sym r.3))

  pub stands_value : (i c a : ℕ) → T (stands P i c a) → T (domains domain i a)
  unfolding stands
  stands_value i c a t = (and_out (domains domain i a) (eqb (c % size P i) (place P i a)) t).0

  stands-place : (i c a : ℕ) → T (stands P i c a) → c % size P i ≡ place P i a
  unfolding stands
  stands-place i c a t = eqb→eq (c % size P i) (place P i a) (and_out (domains domain i a) (eqb (c % size P i) (place P i a)) t).1

  pub stands_same : (i c a b : ℕ) → T (stands P i c a) → T (stands P i c b) → a ≡ b
  unfolding place
  stands_same i c a b t u = place_same (domains domain i) a b (stands_value i c a t) (stands_value i c b u) (sym (stands-place i c a t) ∙ stands-place i c b u)

  pub place-size : (i a : ℕ) → a < 16 → T (domains domain i a) → place P i a < size P i
  unfolding place size
  place-size i a h t = place-below 16 (domains domain i) a h t

  small_stands : (i c a : ℕ) → c < size P i → T (domains domain i a) → c ≡ place P i a → T (stands P i c a)
  small_stands i c a h t e = stands_in i c a t (mod-eq_of_lt h ∙ e)

  -- The denial of a way, by side.
  denied_universal : (i c : ℕ) → universal i ≡ true → denial P i c ≡ joined (λ t. record { positive = not (bit c t); boolean = boolean_of P i t } ∷ []) (width P i)
  unfolding denial
  denied_universal i c e = rw e

  denied_existential : (i c : ℕ) → universal i ≡ false → denial P i c ≡ record { positive = false; boolean = boolean_of P i c } ∷ []
  unfolding denial
  denied_existential i c e = rw e

  -- Way c is chosen: its denial does not hold.
  abbrev pub Chosen : Assignment → ℕ → ℕ → Type 0
  Chosen s i c = T (clause_holds s (denial P i c)) → ⊥

  code_chosen : (s : Assignment) (i c : ℕ) → universal i ≡ true → ((t : ℕ) → t < width P i → s (boolean_of P i t) ≡ bit c t) → Chosen s i c
  code_chosen s i c e f t =
      let r = clause-joined s (λ t. record { positive = not (bit c t); boolean = boolean_of P i t }) (width P i) (rw (denied_universal i c e) at t) in
      literal_fails s (bit c r.0) (boolean_of P i r.0) (f r.0 r.1) r.2

  chosen_code : (s : Assignment) (i c : ℕ) → universal i ≡ true → Chosen s i c → (t : ℕ) → t < width P i → s (boolean_of P i t) ≡ bit c t
  chosen_code s i c e f t h =
      literal_else s (bit c t) (boolean_of P i t)
      (λ u. f (rw (denied_universal i c e) (joined-clause s (λ t. record { positive = not (bit c t); boolean = boolean_of P i t }) (width P i) t h u)))

  boolean_chosen : (s : Assignment) (i c : ℕ) → universal i ≡ false → s (boolean_of P i c) ≡ true → Chosen s i c
  boolean_chosen s i c e h t = literal_fails s true (boolean_of P i c) h (one_literal s (record { positive = false; boolean = boolean_of P i c }) (rw (denied_existential i c e) at t))

  chosen_boolean : (s : Assignment) (i c : ℕ) → universal i ≡ false → Chosen s i c → s (boolean_of P i c) ≡ true
  chosen_boolean s i c e f = literal_else s true (boolean_of P i c) (λ u. f (rw (denied_existential i c e) (literal_one s (record { positive = false; boolean = boolean_of P i c }) u)))

  -- The booleans of a variable come before those of the next.
  boolean_below : (i t : ℕ) → t < width P i → boolean_of P i t < suc (base P (suc i))
  unfolding boolean_of base
  boolean_below i t h = omega arith

  -- Two assignments that agree on the booleans up to variable i's choose alike there.
  chosen_same : (s s' : Assignment) (i c : ℕ) → c < ways P i → ((w : ℕ) → w < suc (base P (suc i)) → s w ≡ s' w) → Chosen s i c → Chosen s' i c
  chosen_same s s' i c h a f = go (universal i) refl
    where
      go : (b : Bool) → universal i ≡ b → Chosen s' i c
      go true e = code_chosen s' i c e (λ t l. sym (a (boolean_of P i t) (boolean_below i t l)) ∙ chosen_code s i c e f t l)
      go false e =
          boolean_chosen s' i c e (sym (a (boolean_of P i c) (boolean_below i c (let z = width_existential P i e in let y = ways_existential P i e in omega arith))) ∙ chosen_boolean s i c e f)

  -- The assignment chooses just value a of variable i; it chooses it, and maybe others.
  pub record Exact (i a : ℕ) (s : Assignment) : Type 0 where
    pub value : (a < 16) × T (domains domain i a)
    pub alone : (c : ℕ) → c < ways P i → Chosen s i c → T (stands P i c a)
    pub some : universal i ≡ false → s (boolean_of P i (place P i a)) ≡ true

  pub record Among (i a : ℕ) (s : Assignment) : Type 0 where
    pub way : ℕ
    pub below : way < ways P i
    pub chosen : Chosen s i way
    pub for : T (stands P i way a)

  pub exact_same : (s s' : Assignment) (i a : ℕ) → ((w : ℕ) → w < suc (base P (suc i)) → s w ≡ s' w) → Exact i a s → Exact i a s'
  exact_same s s' i a g x =
      record {
        value = x.value;
        alone = λ c h f. x.alone c h (chosen_same s' s i c h (λ w l. sym (g w l)) f);
        some = λ e. sym (g (boolean_of P i (place P i a)) (boolean_below i (place P i a) (let z = width_existential P i e in let y = place-size i a x.value.0 x.value.1 in omega arith))) ∙ x.some e;
      }

  pub among_same : (s s' : Assignment) (i a : ℕ) → ((w : ℕ) → w < suc (base P (suc i)) → s w ≡ s' w) → Among i a s → Among i a s'
  among_same s s' i a g x = record { way = x.way; below = x.below; chosen = chosen_same s s' i x.way x.below g x.chosen; for = x.for }

  -- What a spread over the booleans of variable i chooses.
  module _ (s : Assignment) (i : ℕ) (h : i < n) (x : ℕ → Bool) where
    spread_is : (t : ℕ) → t < width P i → spread s (suc (base P i)) (width P i) x (boolean_of P i t) ≡ x t
    unfolding boolean_of
    spread_is t l = let e : suc (base P i + t) ≡ suc (base P i) + t = omega arith in rw e (spread_at s (suc (base P i)) (width P i) x t l)

    pub exact_universal : universal i ≡ true → (a : ℕ) → a < 16 → T (domains domain i a) → T (stands P i (mask_of (width P i) x) a) → Exact i a (spread s (suc (base P i)) (width P i) x)
    exact_universal e a l d t =
        record {
          value = (l, d);
          alone = λ c b f. let z : c ≡ mask_of (width P i) x = bit_ext (width P i) c (mask_of (width P i) x) (rw (ways-universal P i e) at b) (mask_of_lt (width P i) x)
              (λ k g. sym (chosen_code (spread s (suc (base P i)) (width P i) x) i c e f k g) ∙ spread_is k g ∙ sym (bit-mask_of (width P i) x k g)) in rw z t;
          some = λ z. absurd (clash z (rw e tt));
        }

    pub exact_existential : universal i ≡ false → (a : ℕ) → a < 16 → T (domains domain i a) → ((t : ℕ) → x t ≡ eqb t (place P i a)) → Exact i a (spread s (suc (base P i)) (width P i) x)
    exact_existential e a l d f =
        let w = width_existential P i e in
        let p = place-size i a l d in
        record {
          value = (l, d);
          alone = λ c b g. let b' : c < size P i = rw (ways_existential P i e) at b in
              small_stands i c a b' d (eqb→eq c (place P i a) (true_holds (sym (f c) ∙ sym (spread_is c (omega arith)) ∙ chosen_boolean (spread s (suc (base P i)) (width P i) x) i c e g)));
          some = λ z. spread_is (place P i a) (omega arith) ∙ f (place P i a) ∙ holds (eqb_refl (place P i a));
        }

    pub among-universal : universal i ≡ true → (a : ℕ) → a < 16 → T (domains domain i a) → ((t : ℕ) → x t ≡ bit (place P i a) t) → Among i a (spread s (suc (base P i)) (width P i) x)
    among-universal e a l d f =
        let p = place-size i a l d in
        record {
          way = place P i a;
          below = omega (arith, size-ways P i);
          chosen = code_chosen (spread s (suc (base P i)) (width P i) x) i (place P i a) e (λ t g. spread_is t g ∙ f t);
          for = small_stands i (place P i a) a p d refl;
        }

    pub among_existential : universal i ≡ false → (t : ℕ) → t < width P i → x t ≡ true → (a : ℕ) → T (stands P i t a) → Among i a (spread s (suc (base P i)) (width P i) x)
    among_existential e t l f a d =
        let w = width_existential P i e in
        record {
          way = t;
          below = omega (arith, size-ways P i);
          chosen = boolean_chosen (spread s (suc (base P i)) (width P i) x) i t e (spread_is t l ∙ f);
          for = d;
        }
