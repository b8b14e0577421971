-- Rule 2 where all variables are played: in a first turn it finds a loss if a constraint is broken, below another turn it finds none.
use mathlib.Core.Path.{◌≡◌, refl, sym, ap, ◌∙◌}
use mathlib.Core.Bool.{Bool, true, false, cond}
use mathlib.Core.List.{List, [], ◌∷◌, ◌++◌}
use Prim.Native.Nat.{ℕ, zero, suc, ◌-◌, ◌≤◌}
use native.Mathlib.Omega.{arith}
use lib.Dec.{T, ltb, ltb→lt}
use lib.ListN.{get_or, length}
use Rattle.mask.proofs.Logic.{holds, fails, clash, test}
use Rattle.mask.proofs.Range.{some_out}
use Rattle.game.specs.Problem.{Problem}
use Rattle.game.specs.Game.{satisfied}
use Rattle.game.specs.Lists.{domains}
use Rattle.game.specs.Position.{play_of, legal}
use Rattle.game.specs.Rule.{uses}
use Rattle.game.specs.Forward.{forward_fails, forward_loss, forward}
use Rattle.game.specs.Turn.{checks}
use Rattle.game.specs.Reasons.{idle, chain, choose, explain_forward, explain_checks, explained}
use Rattle.game.specs.Search.{check_set}
use Rattle.game.specs.Turns.{TurnOf, first, below}
use Rattle.theory.proofs.Search.{F, foe, foe_in}
use Rattle.theory.proofs.TurnLists.{snoc_length}
use Rattle.theory.proofs.Moves.{satisfied_in}
use Rattle.theory.proofs.OpenChecks.{usable_out, stuck-checks}
use Rattle.theory.proofs.Plain.{checks_plain}
use Rattle.theory.proofs.Turns.{turn_at}

module _ (P : Problem) where
  open P use {n, compatible}

  -- Checks of the last variable, which has no later one.
  late_calm : (k x : ℕ) (p l R : List ℕ) → n ≤ suc x → (explain_checks P k x p l R).loss ≡ false
  unfolding explain_checks explain_forward chain idle forward forward_loss
  late_calm zero x p l R h = refl
  late_calm (suc k) x p l R h =
      let e : forward_loss P (domains l) x (get_or p x 0) ≡ false = fails λ t.
      let r = some_out n (ltb x) (forward_fails P (domains l) x (get_or p x 0)) t in
      let o = ltb→lt x r.0 r.2 in
      let m = r.1 in
      omega arith
      in
      rw e (late_calm k (suc x) p _ _ (omega arith))

  -- Where no variable is later than the first unchecked one, or rule 2 is not used, it adds nothing.
  pub late_none : (S c : ℕ) (p l R : List ℕ) → n ≤ suc c → check_set P S c p l R ≡ 0
  unfolding check_set choose idle
  late_none S c p l R h = go (uses S 2)
    where
      go : (b : Bool) → (let o = choose b (explain_checks P (length p - c) c p) l R in cond o.loss o.set 0) ≡ 0
      go true = rw (late_calm (length p - c) c p l R h)
      go false = refl

  pub unused_none : (S c : ℕ) (p l R : List ℕ) → uses S 2 ≡ false → check_set P S c p l R ≡ 0
  unfolding check_set choose idle
  unused_none S c p l R e = rw e

  -- One variable breaks no constraint.
  alone-goes : (p : List ℕ) → n ≤ 1 → T (satisfied compatible n (play_of p))
  alone-goes p h = satisfied_in compatible n (play_of p) λ y x ly lx. absurd (omega arith)

  -- A turn of a search where all variables are played. Where c is 0 it is the first one, or there is one variable.
  module _ (S : ℕ) (p₀ : List ℕ) (start : T (legal P p₀)) where
    first_loses : (c : ℕ) (p l R : List ℕ) → TurnOf P S p₀ c p l R → length p ≡ n → c ≡ 0 → satisfied compatible n (play_of p) ≡ false → (explain_checks P (length p - c) c p l R).loss ≡ true
    unfolding play_of
    first_loses c p l R first z h f =
        let w = turn_at P S p₀ start c p l R first in
        let y : length p - 0 ≡ length p = omega arith in
        let q = checks_plain P (F P) (foe P) (foe_in P) (length p) p w.entry.depth (length p - 0) 0 (omega arith) l R w.entry.ready in
        test (explain_checks P (length p - 0) 0 p l R).loss holds λ e.
        let v = usable_out P p (stuck-checks P p start ∙ ap (λ (k : ℕ). (checks P k 0 p l).loss) (sym y) ∙ sym (ap (λ o. o.loss) q) ∙ e) in
        absurd (clash f (satisfied_in compatible n (play_of p) λ j i k g. v.plays i j g (omega arith)))
    first_loses c q m U (below {c = d} {p = p} {l = l} {R = R} a turn k e t) z h f = let s = snoc_length P p a in absurd (clash f (alone-goes (p ++ (a ∷ [])) (omega arith)))

    pub first_finds : (c : ℕ) (p l R : List ℕ) → TurnOf P S p₀ c p l R → length p ≡ n → c ≡ 0 → satisfied compatible n (play_of p) ≡ false → uses S 2 ≡ true
        → ((explained P S c p l R).loss ≡ true) × (check_set P S c p l R ≡ (explained P S c p l R).set)
    unfolding check_set explained chain choose
    first_finds c p l R turn z h f two = rw (two, first_loses c p l R turn z h f) (refl, refl)

    pub below_finds_none : (c : ℕ) (p l R : List ℕ) → TurnOf P S p₀ c p l R → length p ≡ n → ¬ (c ≡ 0) → check_set P S c p l R ≡ 0
    below_finds_none c p l R first z h = absurd (h refl)
    below_finds_none c q m U (below {c = d} {p = p} {l = l} {R = R} a turn k e t) z h = let s = snoc_length P p a in late_none S c q m U (omega arith)
