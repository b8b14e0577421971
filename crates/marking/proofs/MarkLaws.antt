-- The loop over the values of the next variable: m is its domain, `left` what is left of it, `won` the values found to win.
use mathlib.Core.Path.{◌≡◌, refl, sym, ap, ap₂, subst, ◌∙◌}
use mathlib.Core.Bool.{Bool, true, false, cond, not, ◌&&◌, ◌||◌}
use mathlib.Core.List.{List, [], ◌∷◌, ◌++◌}
use mathlib.Core.Logic.{inr}
use Prim.Native.Nat.{ℕ, ◌^◌, ◌≤◌, ◌<◌}
use native.Mathlib.Omega.{arith}
use lib.Dec.{T, eqb}
use lib.Bits.{bit_or, or_lt}
use lib.Pow.{pow-lt}
use lib.ListN.{get_or, length}
use lib.Seq.{ext_get_or, get_or-take}
use borrow.Author.Tests.{eq-eqb, ne_eqb}
use Rattle.mask.specs.Mask.{bit}
use Rattle.mask.proofs.Logic.{holds, by_eq, by_lt}
use Rattle.mask.proofs.Bits.{bit-bit_or, bit_single, bit_of_zero, bit_ext}
use Rattle.mask.proofs.Masks.{mask_of_lt, bit-mask_of}
use Rattle.mask.specs.Upward.{Took}
use Rattle.mask.proofs.Chains.{took_lt, took_in, member_left, bit-left}
use Rattle.game.specs.Problem.{Problem}
use Rattle.game.specs.Lists.{domains}
use Rattle.game.specs.Search.{is_solved, search_from, marked_values}
use Rattle.search_words.specs.TurnRoom.{zeroed}
use Rattle.search_words.proofs.RoomLaws.{length-zeroed, zeroed_at, zeroed_other}
use Rattle.solver_arrays.specs.declared.arrays.Arrays.{Arrays}
use Rattle.solver_arrays.specs.Arrays.{Poses, Posed}
use Rattle.position.specs.declared.Position.{Position}
use Rattle.position.specs.Position.{plays_of, fits_in}
use Rattle.position.proofs.Fitting.{length_plays}
use Rattle.marking.specs.Marks.{WinsWith, Wins}

-- The mask won with value a in it where w says so.
abbrev with_value : ℕ → ℕ → Bool → ℕ
with_value won a w = cond w (bit_or won (2 ^ a)) won

with_value_lt : (won a : ℕ) (w : Bool) → won < 2 ^ 16 → a < 16 → with_value won a w < 2 ^ 16
with_value_lt won a true h l = or_lt 16 won (2 ^ a) h (pow-lt l)
with_value_lt won a false h l = h

bit-with_value : (won a : ℕ) (w : Bool) (k : ℕ) → bit (with_value won a w) k ≡ (bit won k || (w && eqb k a))
bit-with_value won a true k = bit-bit_or won (2 ^ a) k ∙ ap (λ x. bit won k || x) (bit_single a k)
bit-with_value won a false k = sym (or_false (bit won k))
  where
    or_false : (x : Bool) → (x || false) ≡ x
    or_false true = refl
    or_false false = refl

-- Words that are zero stay so.
zeroed-twice : (k : ℕ) (w : List ℕ) → k ≤ length w → zeroed 0 k (zeroed 0 k w) ≡ zeroed 0 k w
zeroed-twice k w h =
    let l = length-zeroed 0 k w in
    let m = length-zeroed 0 k (zeroed 0 k w) in
    ext_get_or 0 (zeroed 0 k (zeroed 0 k w)) (zeroed 0 k w) m λ i u. by_lt i k
    (λ b. zeroed_at 0 k (zeroed 0 k w) i (omega arith) b (omega arith) ∙ sym (zeroed_at 0 k w i (omega arith) b (omega arith)))
    (λ b. zeroed_other 0 k (zeroed 0 k w) i (inr b))

-- The values looked at are in `won` exactly if they win. The room is zero where one was looked at.
pub record Marking (A : Arrays) (S : ℕ) (p : Position) (k : ℕ) (room₀ : List ℕ) (m : ℕ) (room : List ℕ) (won left : ℕ) : Type 0 where
  pub size : length room ≡ length room₀
  pub zero : zeroed 0 k room ≡ zeroed 0 k room₀
  pub used : ¬ (left ≡ m) → room ≡ zeroed 0 k room₀
  pub few : won < 2 ^ 16
  pub part : (a : ℕ) → T (bit left a) → T (bit m a)
  pub found : (P : Problem) → Poses P A → (b : ℕ) → b < 16
      → bit won b ≡ ((bit m b && not (bit left b)) && is_solved (search_from P S (plays_of p ++ (b ∷ []))))

module _ (A : Arrays) (S : ℕ) (p : Position) (k : ℕ) (room₀ : List ℕ) (m : ℕ) where
  pub marking_start : {won left : ℕ} → won ≡ 0 → left ≡ m → Marking A S p k room₀ m room₀ won left
  marking_start {won} {left} e q = record {
    size = refl;
    zero = refl;
    used = λ z. absurd (z q);
    few = omega arith;
    part = λ a h. subst (λ x. T (bit x a)) q h;
    found = λ P o b h.
        ap (λ x. bit x b) e ∙ bit_of_zero b
        ∙ none (bit m b) (is_solved (search_from P S (plays_of p ++ (b ∷ []))))
        ∙ ap (λ x. (bit m b && not (bit x b)) && is_solved (search_from P S (plays_of p ++ (b ∷ [])))) (sym q);
  }
    where
      none : (x s : Bool) → false ≡ ((x && not x) && s)
      none true s = refl
      none false s = refl

  module _ {room : List ℕ} {won left : ℕ} (l : Marking A S p k room₀ m room won left) where
    module _ {a left' : ℕ} (t : Took 16 left a left') where
      -- The value looked at.
      pub marking_at : (a < 16) × T (bit m a)
      marking_at = (took_lt t, l.part a (took_in t))

      -- One value more.
      pub marking_next : {r : Bool} {room' : List ℕ} {won' : ℕ} (w : Bool) → r ≡ w → WinsWith A S p a r → room' ≡ zeroed 0 k room → k ≤ length room₀
          → won' ≡ with_value won a w → Marking A S p k room₀ m room' won' left'
      marking_next {r} {room'} {won'} w q f e fits g =
          let here = took_in t in
          record {
            size = ap length e ∙ length-zeroed 0 k room ∙ l.size;
            zero = ap (zeroed 0 k) (e ∙ l.zero) ∙ zeroed-twice k room₀ fits;
            used = λ _. e ∙ l.zero;
            few = subst (λ x. x < 2 ^ 16) (sym g) (with_value_lt won a w l.few (took_lt t));
            part = λ b h. l.part b (member_left t b h);
            found = λ P o b c.
                let s = is_solved (search_from P S (plays_of p ++ (b ∷ []))) in
                ap (λ x. bit x b) g ∙ bit-with_value won a w b ∙ ap (λ x. x || (w && eqb b a)) (l.found P o b c)
                ∙ by_eq b a
                (λ i. ap₂ (λ x y. ((bit m b && not x) && s) || (w && y)) (ap (bit left) i ∙ holds here) (eq-eqb b a i)
                ∙ now (bit m b) w s (ap (bit m) i ∙ holds (l.part a here)) (sym q ∙ f P o ∙ ap (λ y. is_solved (search_from P S (plays_of p ++ (y ∷ [])))) (sym i))
                ∙ ap (λ x. (bit m b && not x) && s) (sym (bit-left t b ∙ ap₂ (λ x y. x && not y) (ap (bit left) i ∙ holds here) (eq-eqb b a i))))
                (λ i. ap (λ y. ((bit m b && not (bit left b)) && s) || (w && y)) (ne_eqb b a i)
                ∙ same_else ((bit m b && not (bit left b)) && s) w
                ∙ ap (λ x. (bit m b && not x) && s) (sym (bit-left t b ∙ ap (λ y. bit left b && not y) (ne_eqb b a i) ∙ and_true (bit left b))));
          }
        where
          now : (x w s : Bool) → x ≡ true → w ≡ s → (((x && false) && s) || (w && true)) ≡ ((x && true) && s)
          now true true s d e = e
          now true false s d e = e
          now false w s d e = absurd (subst (λ b. T b) (sym d) tt)

          same_else : (x w : Bool) → (x || (w && false)) ≡ x
          same_else true w = refl
          same_else false true = refl
          same_else false false = refl

          and_true : (x : Bool) → (x && true) ≡ x
          and_true true = refl
          and_true false = refl

    -- All values looked at: there is one.
    pub marking_room : left ≡ 0 → m ≡ get_or A.domains p.plays 0 → Posed A → p.plays < A.n → room ≡ zeroed 0 k room₀
    marking_room z e s h =
        let P = s.problem in
        let q = s.poses.states.size in
        l.used λ o. P.nonempty p.plays (omega arith) (ap (λ (l : List ℕ). get_or l p.plays 0) s.poses.domain ∙ get_or-take A.n A.domains p.plays 0 h ∙ sym e ∙ sym o ∙ z)

    pub marking_end : left ≡ 0 → m ≡ get_or A.domains p.plays 0 → T (fits_in p A.n A.domains) → length p.values ≡ 32 → p.plays < A.n → Wins A S p won m
    unfolding marked_values domains
    marking_end z e t s h P o =
        let j = length_plays p A.n A.domains t A.most s in
        let d : m ≡ get_or P.domain p.plays 0 = e ∙ sym (ap (λ (l : List ℕ). get_or l p.plays 0) o.domain ∙ get_or-take A.n A.domains p.plays 0 h) in (
          bit_ext 16 won _ l.few (mask_of_lt 16 _) (λ i c. l.found P o i c
              ∙ ap (λ x. (bit m i && not x) && is_solved (search_from P S (plays_of p ++ (i ∷ [])))) (ap (λ x. bit x i) z ∙ bit_of_zero i)
              ∙ all (bit m i) (is_solved (search_from P S (plays_of p ++ (i ∷ []))))
              ∙ ap (λ x. bit x i && is_solved (search_from P S (plays_of p ++ (i ∷ [])))) (d ∙ ap (λ k. get_or P.domain k 0) (sym j))
              ∙ sym (bit-mask_of 16 (λ a. bit (get_or P.domain (length (plays_of p)) 0) a && is_solved (search_from P S (plays_of p ++ (a ∷ [])))) i c)),
          d,
        )
      where
        all : (x s : Bool) → ((x && true) && s) ≡ (x && s)
        all true s = refl
        all false s = refl
