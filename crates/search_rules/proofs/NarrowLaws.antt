-- What rule 2 narrows, and which variables rule 1 need not look at after it.
use mathlib.Core.Path.{◌≡◌, refl, sym, ap, subst, ◌∙◌}
use mathlib.Core.Bool.{Bool, true, false, cond, not, ◌&&◌}
use mathlib.Core.Logic.{◌⊎◌, inl, inr}
use mathlib.Core.List.{List}
use Prim.Native.Nat.{ℕ, ◌+◌, ◌^◌, ◌≤◌, ◌<◌}
use native.Mathlib.Omega.{arith}
use lib.Dec.{T, eqb, ltb}
use lib.Bits.{bit_or}
use lib.ListN.{get_or, length}
use borrow.Author.Tests.{eq-eqb, ne_eqb, eqb-true, lt-ltb, le-ltb}
use lib.Pow.{pow-lt}
use Rattle.mask.specs.Range.{some, first}
use Rattle.mask.specs.Mask.{bit, mask_of}
use Rattle.mask.proofs.Logic.{holds, true_holds, fails, clash, test, by_eq, by_lt, and_out, or_out_false}
use Rattle.mask.proofs.Range.{some_out, some_in}
use Rattle.mask.proofs.Bits.{bit-bit_or, bit_single, bit_high, bit_ext}
use Rattle.mask.proofs.Masks.{mask_of_lt, bit-mask_of}
use Rattle.mask.proofs.Members.{low_in}
use Rattle.game.specs.Problem.{Problem}
use Rattle.game.specs.Game.{Domains}
use Rattle.game.specs.Lists.{domains}
use Rattle.game.specs.Support.{clashes, alone, empty}
use Rattle.game.specs.Arc.{barred}
use Rattle.game.specs.Reasons.{kills}
use Rattle.game.specs.Rule.{uses}
use Rattle.game.specs.Forward.{forward_domains, forward_fails, forward_loss, forward_named}
use Rattle.theory.proofs.Quiet.{Quiet}
use Rattle.solver_arrays.specs.Arrays.{States}
use Rattle.solver_arrays.specs.Words.{list_in, Nonzero}
use Rattle.solver_arrays.proofs.WordLaws.{get_d_list_in}
use Rattle.rule_forward.specs.Replies.{UnmovedBut, after_forward}
use Rattle.rule_forward.proofs.RuleLaws.{loss_named_lem}
use Rattle.rule_arc.specs.ArcRule.{Calm, CalmBut}
use Rattle.rule_arc.proofs.CalmLaws.{calm_less}
use Rattle.rule_arc.proofs.QuietLaws.{calm_in}
use Rattle.search_rules.specs.RuledTurn.{Narrowed, Outside, Settled, lowest_of, Heeded}
use Rattle.search_rules.proofs.CheckLaws.{lowest_single, mask_after, check_kept, value_lt}
use Rattle.solver_arrays.specs.declared.arrays.Arrays.{Arrays}

-- The code of one check, with the lowest value a of x.
module _ (P : Problem) (n : ℕ) (A : Arrays) (st : States P n A) (x : ℕ) (hx : x < n) (w : List ℕ) (long : 96 ≤ length w)
    (small : (k : ℕ) → get_or w k 0 < 65536) (z : Nonzero n w) (a : ℕ) (low : a ≡ first 16 (bit (get_or w x 0))) (v : ℕ) (u : List ℕ) (e : v ≡ forward_named P x a (list_in n w)) (f : u ≡ after_forward P n x a w) where
  play_less : n ≤ v → (k b : ℕ) → k < n → T (bit (get_or u k 0) b) → T (bit (get_or w k 0) b)
  unfolding forward_domains domains
  play_less h k b l t = by_lt b 16 (λ g. go (eqb k x) refl (ltb x k && not (P.universal k)) (rw (bit-mask_of 16 F b g) at t')) (λ g. absurd (clash (bit_high 16 (mask_of 16 F) b (mask_of_lt 16 F) g) t'))
    where
      F : ℕ → Bool
      F = forward_domains P (domains (list_in n w)) x a k

      t' : T (bit (mask_of 16 F) b)
      t' = rw (mask_after P n A st x a hx w long u false 0 (check_kept P n A st x a hx w long
          (value_lt P n A st x hx w long small z a low v u e f) small v u 0 e f h) k l) at t

      stays : T (bit (get_or (list_in n w) k 0) b) → T (bit (get_or w k 0) b)
      stays s = rw (get_d_list_in n w k l) at s

      go : (c : Bool) → eqb k x ≡ c → (d : Bool) → T (cond c (eqb b a) (cond d (P.compatible x a k b && bit (get_or (list_in n w) k 0) b) (bit (get_or (list_in n w) k 0) b))) → T (bit (get_or w k 0) b)
      go true q d s = rw (eqb-true k x q, eqb-true b a (holds {b = eqb b a} s), low) (low_in 16 (get_or w x 0) (small x) (z x hx))
      go false q true s = stays (and_out (P.compatible x a k b) (bit (get_or (list_in n w) k 0) b) s).1
      go false q false s = stays s

  pub play_narrowed : (m : ℕ) → n ≤ 32 → n ≤ v → UnmovedBut x m w u → Narrowed n x (x + 1) m w u
  play_narrowed m g h t = record {
    less = play_less h;
    kept = λ k l o b. t k (omega arith) (other o) b;
  }
    where
      other : {k : ℕ} → (k < x) ⊎ (x + 1 ≤ k) → ¬ (k ≡ x)
      other (inl l) e = omega arith
      other (inr l) e = omega arith

  -- What the check leaves has no effect of x on those behind it.
  module _ (h : n ≤ v) where
    abbrev D : Domains
    D = domains (list_in n w)

    abbrev E : Domains
    E = domains (list_in n u)

    after_mask : (j : ℕ) → j < n → get_or u j 0 ≡ mask_of 16 (forward_domains P D x a j)
    after_mask = mask_after P n A st x a hx w long u false 0
        (check_kept P n A st x a hx w long (value_lt P n A st x hx w long small z a low v u e f) small v u 0 e f h)

    after_at : (j b : ℕ) → j < n → b < 16 → E j b ≡ forward_domains P D x a j b
    unfolding domains
    after_at j b lj lb = ap (λ (m : ℕ). bit m b) (get_d_list_in n u j lj ∙ after_mask j lj) ∙ bit-mask_of 16 (forward_domains P D x a j) b lb

    value : a < 16
    value = value_lt P n A st x hx w long small z a low v u e f

    own_value : (b : ℕ) → b < 16 → E x b ≡ eqb b a
    unfolding forward_domains
    own_value b lb = after_at x b hx lb ∙ rw (eq-eqb x x refl)

    module _ (y : ℕ) (ly : y < n) (l : x < y) where
      goes : P.universal y ≡ false → (b : ℕ) → b < 16 → T (E y b) → T (P.compatible y b x a)
      unfolding forward_domains
      goes s b lb t = rw (P.symmetric y b x a) (and_out (P.compatible x a y b) (D y b) (rw (after_at y b ly lb, ne_eqb y x (omega arith), lt-ltb x y l, s) at t)).0

      calm_loss : forward_loss P D x a ≡ false
      calm_loss = let g = st.size in loss_named_lem P x a (list_in n w) ∙ le-ltb (forward_named P x a (list_in n w)) P.n (rw (← e, g) h)

      fits : P.universal y ≡ true → (b : ℕ) → b < 16 → T (E y b) → T (P.compatible y b x a)
      unfolding forward_domains forward_loss clashes
      fits s b lb t =
          let g = st.size in
          let d : T (D y b) = rw (after_at y b ly lb, ne_eqb y x (omega arith), lt-ltb x y l, s) at t in
          rw (P.symmetric y b x a) (test (P.compatible x a y b) (λ k. k)
          (λ k. absurd (clash calm_loss (some_in P.n (ltb x) (forward_fails P D x a) y (omega arith) (true_holds (lt-ltb x y l))
          (subst (λ (q : Bool). T (cond q (clashes P D x a y) (empty P (forward_domains P D x a) y))) (sym s) (some_in 16 (D y) (λ b. not (P.compatible x a y b)) b lb d (true_holds (ap not k))))))))

      behind : Quiet P E y x
      unfolding kills barred clashes alone
      behind = record {
        lives = λ s c b lb t. rw (le-ltb y x (omega arith)) (off (P.universal x) (some 16 (E x) (λ k. not (P.compatible y b x k))) (some 16 (E x) (λ k. P.compatible y b x k))
            (some_in 16 (E x) (λ k. P.compatible y b x k) a value (rw (own_value a value) (true_holds (eq-eqb a a refl))) (goes s b lb t)));
        unbarred = λ s c b lb t. rw (le-ltb y x (omega arith)) (shut (P.universal x) (some 16 (E x) (λ k. not (P.compatible y b x k)))
            (λ q. let r = some_out 16 (E x) (λ k. not (P.compatible y b x k)) q in
            let g = eqb-true r.0 a (holds {b = eqb r.0 a} (rw (own_value r.0 r.1) at r.2)) in
            clash (ap not (holds {b = P.compatible y b x r.0} (rw g (fits s b lb t)))) r.3));
      }
        where
          off : (i q r : Bool) → T r → cond (i && false) q (not r) ≡ false
          off true q true t = refl
          off false q true t = refl
          off i q false t = absurd t

          shut : (i q : Bool) → (T q → ⊥) → cond i q false ≡ false
          shut true q f = fails f
          shut false q f = refl

    pub play_heeded : ((k : ℕ) → get_or u k 0 < 65536) → Heeded n A x w u
    unfolding lowest_of
    play_heeded below = record {
      own = bit_ext 16 (get_or u x 0) (2 ^ first 16 (bit (get_or w x 0))) (below x) (let g : first 16 (bit (get_or w x 0)) < 16 = rw (← low) value in pow-lt g)
          (λ b lb. ap (λ (m : ℕ). bit m b) (after_mask x hx) ∙ bit-mask_of 16 (forward_domains P D x a x) b lb ∙ sym (after_at x b hx lb) ∙ own_value b lb ∙ ap (eqb b) low ∙ sym (bit_single (first 16 (bit (get_or w x 0))) b));
      later = λ y ly l. calm_in P n A st u below y x ly hx (behind y ly l);
    }

-- No play; one play more.
pub narrowed_none : (n c d m : ℕ) (w : List ℕ) → Narrowed n c d m w w
narrowed_none n c d m w = record { less = λ k a l t. t; kept = λ k l o b. refl }

pub narrowed_more : (n c d x m m' : ℕ) (w v u : List ℕ) → c ≤ x → x < d → Narrowed n c d m w v → Narrowed n x (x + 1) m' v u → Narrowed n c d (bit_or m m') w u
narrowed_more n c d x m m' w v u g h s t = record {
  less = λ k a l b. s.less k a l (t.less k a l b);
  kept = λ k l o b. let q = or_out_false (bit m k) (bit m' k) (sym (bit-bit_or m m' k) ∙ b) in t.kept k l (outer o) q.1 ∙ s.kept k l o q.0;
}
  where
    outer : {k : ℕ} → (k < c) ⊎ (d ≤ k) → (k < x) ⊎ (x + 1 ≤ k)
    outer (inl l) = inl (omega arith)
    outer (inr l) = inr (omega arith)

-- The first play.
pub heeded_first : (n : ℕ) (A : Arrays) (x c : ℕ) (f w u : List ℕ) → x ≡ c → (x ≡ c → w ≡ f) → Heeded n A x w u → Heeded n A c f u
heeded_first n A x c f w u e q h = subst (λ y. Heeded n A y f u) e (subst (λ v. Heeded n A x v u) (q e) h)

-- What rule 1 looks at.
pub outside_none : (n c d : ℕ) (on : Bool) (narrowed r : ℕ) → ((k : ℕ) → bit r k ≡ ltb k n) → Outside n c d on narrowed r
outside_none n c d on narrowed r h k l b = absurd (clash b (true_holds (h k ∙ lt-ltb k n l)))

module _ (n c d : ℕ) (on : Bool) (narrowed : ℕ) (z : ¬ (c ≡ 0)) (e : c + 1 ≡ d) where
  pub outside_checked : on ≡ true → Outside n c d on narrowed narrowed
  outside_checked o k l b = (z, e, b, λ _. o)

  pub outside_play : (s : ℕ) → s ≡ 2 ^ c → Outside n c d on narrowed (bit_or narrowed s)
  outside_play s f k l b =
      let q = or_out_false (bit narrowed k) (bit s k) (sym (bit-bit_or narrowed s k) ∙ b) in
      (z, e, q.0, λ i. absurd (clash (sym (bit_single c k) ∙ sym (ap (λ m. bit m k) f) ∙ q.1) (true_holds (eq-eqb k c i))))

-- All variables.
pub calm_all : (n : ℕ) (A : Arrays) (r : ℕ) (w : List ℕ) → ((k : ℕ) → bit r k ≡ ltb k n) → CalmBut n r A w
calm_all n A r w h x k lx lk b = absurd (clash b (true_holds (h k ∙ lt-ltb k n lk)))

-- After rule 2 no other variable has an effect.
module _ (n : ℕ) (A : Arrays) (S c d m r : ℕ) (w v : List ℕ) (small : (k : ℕ) → get_or v k 0 < 65536) (s : Settled n A S c d w)
    (t : Narrowed n c d m w v) (checks : Bool) (g : checks ≡ true → c + 1 ≡ d → Heeded n A c w v) (o : Outside n c d checks m r) where
  pub calm_after : (on : Bool) → on ≡ uses S 1 → on ≡ true → CalmBut n r A v
  unfolding lowest_of
  calm_after on e f x k lx lk b =
      let q = o k lk b in
      let rested = s (sym e ∙ f) q.0 in
      let i = q.1 in
      by_eq k c
      (λ z. let h = g (q.3 z) i in
      by_lt c x
      (λ l. subst (Calm A v x) (sym z) (h.later x lx l))
      (λ l. let a = rested.single c (omega arith) (omega arith) in
      let p : get_or v c 0 ≡ get_or w c 0 = h.own ∙ ap (λ y. 2 ^ first 16 (bit y)) a.2 ∙ ap (λ y. 2 ^ y) (lowest_single a.0 a.1) ∙ sym a.2 in
      calm_less A w v x k (rested.calm x k lx lk (λ _ _. omega arith)) (subst (λ y. get_or v y 0 ≡ get_or w y 0) (sym z) p) (λ a. t.less x a lx) (small x)))
      (λ z. calm_less A w v x k (rested.calm x k lx lk (λ c1 c2. absurd (omega arith)))
      (t.kept k lk (by_lt k c inl (λ l. inr (omega arith))) q.2) (λ a. t.less x a lx) (small x))
