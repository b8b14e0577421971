-- What the rules of a turn reply and leave, in the words of the game.
use Rattle.std.specs.Prelude.{◌≡◌, Bool, true, false, List, ◌⊎◌, ℕ, ◌+◌, ◌-◌, ◌^◌, ◌≤◌, ◌<◌, T, get_or, length}
use Rattle.mask.specs.Range.{first}
use Rattle.mask.specs.Mask.{bit}
use Rattle.game.specs.Problem.{Problem}
use Rattle.game.specs.Rule.{uses}
use Rattle.game.specs.Reasons.{Step, choose, explain_forward, explain_checks, explain_arc, explain_ahead, explained}
use Rattle.solver_arrays.specs.Arrays.{States}
use Rattle.solver_arrays.specs.Words.{list_in, why_in, holding, Nonzero}
use Rattle.rule_arc.specs.ArcRule.{Calm}
use Rattle.solver_arrays.specs.declared.arrays.Arrays.{Arrays}
use Rattle.search_rules.specs.declared.Rule.{Rule}
use Rattle.search_rules.specs.declared.Rule.TheVariants.{Checks, Arc}

-- The words hold the list and the reasons of the step o, n of each; the reply is its loss and, where it is lost, its conflict set.
pub record Replied (n : ℕ) (entry exit : List ℕ) (lost : Bool) (conflict : ℕ) (o : Step) : Type 0 where
  pub masks : length o.list ≡ n
  pub reasons : length o.why ≡ n
  pub words : exit ≡ holding n entry o.list o.why
  pub loss : lost ≡ o.loss
  pub set : lost ≡ true → conflict ≡ o.set

-- Where nothing is lost, no variable is without a value.
abbrev pub Lasting : ℕ → List ℕ → Bool → Type 0
Lasting n w lost = lost ≡ false → Nonzero n w

-- Rule 2 for the plays from c on, below d, turned the words w into w': no domain gained a value, and of those that are not played there the
-- domains outside the mask m stayed.
pub record Narrowed (n c d m : ℕ) (w w' : List ℕ) : Type 0 where
  pub less : (k a : ℕ) → k < n → T (bit (get_or w' k 0) a) → T (bit (get_or w k 0) a)
  pub kept : (k : ℕ) → k < n → (k < c) ⊎ (d ≤ k) → bit m k ≡ false → get_or w' k 0 ≡ get_or w k 0

-- A variable outside the mask r was not narrowed and is not the one play from c on, but where rule 2 is on; and c is not 0.
abbrev pub Outside : (n c d : ℕ) (on : Bool) (narrowed r : ℕ) → Type 0
Outside n c d on narrowed r = (k : ℕ) → k < n → bit r k ≡ false → (¬ (c ≡ 0)) × (c + 1 ≡ d) × (bit narrowed k ≡ false) × (k ≡ c → on ≡ true)

-- The lowest value of variable x.
unfoldable pub lowest_of : List ℕ → ℕ → ℕ
lowest_of w x = first 16 (bit (get_or w x 0))

-- p is a list of d plays, and the words from c on hold them.
pub record Plays (c d : ℕ) (p w : List ℕ) : Type 0 where
  pub count : length p ≡ d
  pub value : (j : ℕ) → c ≤ j → j < d → get_or p j 0 < 16
  pub word : (j : ℕ) → c ≤ j → j < d → get_or w j 0 ≡ 2 ^ get_or p j 0

-- Over the arrays of a problem, from the words w to w'. A statement of a reply holds for every problem that the arrays state, and for all plays
-- that the words hold.
module _ (n : ℕ) (A : Arrays) where
  -- The arrays state some problem: without one nothing is known of the words between two rules.
  pub record Stated : Type 0 where
    pub problem : Problem
    pub states : States problem n A

  -- Rule 1 in the turn above left a list in which no variable has an effect on another; since then the plays from c on have become single
  -- values, which have no effect on those before them.
  pub record Rested (c d : ℕ) (w : List ℕ) : Type 0 where
    pub single : (k : ℕ) → c ≤ k → k < d → (a : ℕ) × (a < 16) × (get_or w k 0 ≡ 2 ^ a)
    pub calm : (x k : ℕ) → x < n → k < n → (c ≤ k → k < d → x ≤ k) → Calm A w x k

  -- Where c is not 0 there is a turn above.
  abbrev pub Settled : (S c d : ℕ) (w : List ℕ) → Type 0
  Settled S c d w = uses S 1 ≡ true → ¬ (c ≡ 0) → Rested c d w

  -- The check of the lowest value of x leaves that value of x, and x has no effect on those behind it.
  pub record Heeded (x : ℕ) (w w' : List ℕ) : Type 0 where
    pub own : get_or w' x 0 ≡ 2 ^ lowest_of w x
    pub later : (y : ℕ) → y < n → x < y → Calm A w' y x

  -- What rule 2, where it is on, leaves without a loss, for the plays from c on, below d: values everywhere, the domains outside the mask, and
  -- one play heeded.
  pub record Checked (on : Bool) (c d : ℕ) (w w' : List ℕ) (lost : Bool) (narrowed : ℕ) : Type 0 where
    pub lasts : Lasting n w' lost
    pub moved : lost ≡ false → Narrowed n c d narrowed w w'
    pub heeded : lost ≡ false → on ≡ true → c + 1 ≡ d → Heeded c w w'

  -- The check of the lowest value of x.
  pub record CheckedPlay (x : ℕ) (w w' : List ℕ) (lost : Bool) (conflict narrowed : ℕ) : Type 0 where
    pub replies : (P : Problem) → States P n A
        → Replied n w w' lost conflict (explain_forward P x (lowest_of w x) (list_in n w) (why_in n w))
    pub checked : Checked true x (x + 1) w w' lost narrowed

  -- The parts of a turn, each where `on` says so: rule 2 for the plays from c on, rule 1, and rule 3 at d.
  pub record ChecksTurn (on : Bool) (c d : ℕ) (w w' : List ℕ) (lost : Bool) (conflict narrowed : ℕ) : Type 0 where
    pub replies : (P : Problem) → States P n A → (p : List ℕ) → Plays c d p w
        → Replied n w w' lost conflict (choose on (explain_checks P (d - c) c p) (list_in n w) (why_in n w))
    pub checked : Checked on c d w w' lost narrowed

  pub record ArcTurn (on : Bool) (w w' : List ℕ) (lost : Bool) (conflict : ℕ) : Type 0 where
    pub replies : (P : Problem) → States P n A → Replied n w w' lost conflict (choose on (explain_arc P) (list_in n w) (why_in n w))
    pub lasts : Lasting n w' lost

  abbrev pub AheadTurn : (on : Bool) (d : ℕ) (w : List ℕ) (lost : Bool) (conflict : ℕ) → Type 0
  AheadTurn on d w lost conflict =
      (P : Problem) → States P n A → Replied n w w lost conflict (choose on (explain_ahead P d) (list_in n w) (why_in n w))

  -- Rule 2, or else rule 1.
  abbrev pub RuleTurn : Rule → (on : Bool) (c d : ℕ) (w w' : List ℕ) (lost : Bool) (conflict narrowed : ℕ) → Type 0
  RuleTurn Checks on c d w w' lost conflict narrowed = ChecksTurn on c d w w' lost conflict narrowed
  RuleTurn Arc on c d w w' lost conflict narrowed = ArcTurn on w w' lost conflict

  -- All rules of the turn, by the rule set.
  pub record RuledTurn (set c d : ℕ) (w w' : List ℕ) (lost : Bool) (conflict : ℕ) : Type 0 where
    pub replies : (P : Problem) → States P n A → (p : List ℕ) → Plays c d p w
        → Replied n w w' lost conflict (explained P set c p (list_in n w) (why_in n w))
    pub lasts : Lasting n w' lost
