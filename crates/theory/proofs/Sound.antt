-- What it means that a rule keeps a turn, and rules one after another.
use mathlib.Core.Path.{◌≡◌, refl, ◌∙◌}
use mathlib.Core.Bool.{Bool, true, false, cond, not, ◌&&◌}
use Prim.Native.Nat.{ℕ, suc, ◌≤◌, ◌<◌}
use lib.Dec.{T, eqb, eqb_refl}
use Rattle.mask.proofs.Logic.{by_eq}
use Rattle.game.specs.Game.{put, narrow, Domains, Play}
use Rattle.game.specs.Problem.{Problem}
use Rattle.theory.proofs.Laws.{at, Played, played-put, Answers}
use Rattle.theory.proofs.Moves.{put_at, put_off, replace_at, replace_off}
use Rattle.theory.proofs.Swap.{start}
use Rattle.theory.proofs.Transfer.{Inside}

-- What a rule on domains replies: whether it found a loss, and the domains that it leaves.
pub record Outcome : Type 0 where
  pub loss : Bool
  pub dom : Domains

abbrev pub Rule : Type 0
Rule = Domains → Outcome

-- No rule; one rule after another, unless the first found a loss.
abbrev pub skip : Rule
skip D = record { loss = false; dom = D }

unfoldable pub after : Bool → Outcome → Rule → Outcome
after true o r = o
after false o r = r o.dom

unfoldable pub and_then : Rule → Rule → Rule
and_then r s D = after (r D).loss (r D) s

module _ (P : Problem) where
  open P use {n, universal, compatible, symmetric}

  -- The domains of a turn after the first i values of p; the universal side has an answer.
  pub record State (i : ℕ) (p : Play) (D : Domains) : Type 0 where
    pub played : Played P D i p
    pub foe : Play
    pub foe_in : Answers P D foe

  -- What a rule's reply o keeps at a turn: the verdict; without a loss the state; a part of the domains; the verdict of every deeper position.
  pub record Sound (i : ℕ) (p : Play) (D : Domains) (o : Outcome) : Type 0 where
    pub law : start P D ≡ (not o.loss && start P o.dom)
    pub state : o.loss ≡ false → State i p o.dom
    pub sub : (j a : ℕ) → a < 16 → T (o.dom j a) → T (D j a)
    pub faith : (m : ℕ) (q : Play) → i < m → m ≤ n → Inside o.dom m q → at P D m q ≡ at P o.dom m q

  -- A rule that is sound at every list of a turn; no rule, rules one after another, a rule or another.
  abbrev pub Keeps : ℕ → Play → Rule → Type 0
  Keeps i p r = (D : Domains) → State i p D → Sound i p D (r D)

  pub skip_keeps : (i : ℕ) (p : Play) → Keeps i p skip
  skip_keeps i p D s = record { law = refl; state = λ _. s; sub = λ j a l t. t; faith = λ m q g l z. refl }

  pub then_keeps : (i : ℕ) (p : Play) (r s : Rule) → Keeps i p r → Keeps i p s → Keeps i p (and_then r s)
  unfolding and_then after
  then_keeps i p r s f g D w = go (r D).loss refl (f D w)
    where
      go : (b : Bool) → (r D).loss ≡ b → Sound i p D (r D) → Sound i p D (after b (r D) s)
      go true e h = h
      go false e h =
          let k = g (r D).dom (h.state e) in
          let q : start P D ≡ start P (r D).dom = rw e at h.law in
          record {
            law = q ∙ k.law;
            state = k.state;
            sub = λ j a l t. h.sub j a l (k.sub j a l t);
            faith = λ m q g l z. h.faith m q g l (λ j u. ((z j u).0, k.sub j (q j) (z j u).0 (z j u).1)) ∙ k.faith m q g l z;
          }

  pub choose_keeps : (b : Bool) (i : ℕ) (p : Play) (r s : Rule) → Keeps i p r → Keeps i p s → Keeps i p (cond b r s)
  choose_keeps true i p r s f g = f
  choose_keeps false i p r s f g = g

  -- The state of the next turn.
  pub state_put : (i : ℕ) (p : Play) (D : Domains) (a : ℕ) → State i p D → a < 16 → State (suc i) (put p i a) (narrow D i a)
  state_put i p D a s l = record {
    played = played-put P D i p a s.played l;
    foe = put s.foe i a;
    foe_in = λ j h u. by_eq j i (λ e. rw (e, replace_at D i (λ b. eqb b a), put_at s.foe i a) (l, eqb_refl a))
        (λ e. rw (replace_off D i (λ b. eqb b a) j e, put_off s.foe i a j e) (s.foe_in j h u));
  }
