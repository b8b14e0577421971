-- Rules 1 to 3 with reasons, for rule 6. Document 01 leaves conflict sets free but for their law; these are ours.
-- A set of variables is a mask. The reason of a variable is the set of variables because of which values are missing there; a list has n reasons.
use Rattle.std.specs.Prelude.{Bool, true, false, cond, not, ◌&&◌, List, ℕ, zero, suc, ◌-◌, ◌*◌, ◌^◌, eqb, ltb, get_or, length, set}
use Rattle.std.specs.Int.Bits.{bit_or}
use Rattle.mask.specs.Range.{some, each, first}
use Rattle.mask.specs.Mask.{mask_of}
use Rattle.game.specs.Problem.{Problem}
use Rattle.game.specs.Game.{Domains}
use Rattle.game.specs.Lists.{domains, list_of, narrow_to}
use Rattle.game.specs.Support.{clashes, alone, empty}
use Rattle.game.specs.Rule.{uses}
use Rattle.game.specs.Arc.{barred, arc_loss}
use Rattle.game.specs.Forward.{forward, forward_named}
use Rattle.game.specs.LookAhead.{look_ahead, ahead_named}

-- The n reasons of a search's first turn after i plays: each played variable is its own. Those of the turn below, where variable i is played.
unfoldable pub first_reasons : ℕ → ℕ → List ℕ
first_reasons n i = list_of n (λ j. cond (ltb j i) (2 ^ j) 0)

unfoldable pub next_reasons : List ℕ → ℕ → List ℕ
next_reasons R i = narrow_to R i i

-- A rule with reasons replies: whether it found a loss, the loss's conflict set, and the list and the reasons that it leaves.
pub record Step : Type 0 where
  pub loss : Bool
  pub set : ℕ
  pub list : List ℕ
  pub why : List ℕ

abbrev pub Ruling : Type 0
Ruling = List ℕ → List ℕ → Step

-- No rule; one rule after another ("a loss ends the turn").
unfoldable pub idle : Ruling
idle l R = record { loss = false; set = 0; list = l; why = R }

unfoldable pub chain : Ruling → Ruling → Ruling
chain r s l R = let o = r l R in let q = s o.list o.why in cond o.loss o q

unfoldable pub choose : Bool → Ruling → Ruling
choose b r l R = let o = r l R in cond b o (idle l R)

-- f for the v numbers from a on, ascending.
unfoldable pub loop : {A : Type 0} → ℕ → ℕ → (ℕ → A → A) → A → A
loop zero a f s = s
loop (suc v) a f s = loop v (suc a) f (f a s)

-- A list and its reasons.
pub record Sheet : Type 0 where
  pub list : List ℕ
  pub why : List ℕ

module _ (P : Problem) where
  open P use {n, universal, constrained}

  -- The variables that share a constraint with x.
  unfoldable pub neighbours : ℕ → ℕ
  neighbours x = mask_of n (constrained x)

  -- Rule 2 ---------------------------------------------------------------------------------------------------------------
  -- The conflict set of a lost check of value a of k: the reasons of k and of the variable x that the loss names, and the neighbours of x.
  unfoldable pub forward_conflict : List ℕ → List ℕ → ℕ → ℕ → ℕ
  forward_conflict l R k a = let x = forward_named P k a l in bit_or (get_or R k 0) (bit_or (get_or R x 0) (neighbours x))

  -- A variable that loses values takes the reason of k in.
  unfoldable pub forward_reasons : List ℕ → List ℕ → ℕ → ℕ → List ℕ
  forward_reasons l R k a = let m = (forward P k a l).list in list_of n (λ j. cond (eqb (get_or m j 0) (get_or l j 0)) (get_or R j 0) (bit_or (get_or R j 0) (get_or R k 0)))

  unfoldable pub explain_forward : ℕ → ℕ → Ruling
  explain_forward k a l R = let o = forward P k a l in record { loss = o.loss; set = forward_conflict l R k a; list = o.list; why = forward_reasons l R k a }

  unfoldable pub explain_checks : ℕ → ℕ → List ℕ → Ruling
  explain_checks zero x p = idle
  explain_checks (suc k) x p = chain (explain_forward x (get_or p x 0)) (explain_checks k (suc x) p)

  -- Rule 1 ---------------------------------------------------------------------------------------------------------------
  -- Value a of x dies because of k.
  unfoldable pub kills : Domains → ℕ → ℕ → ℕ → Bool
  kills D x a k = let s = clashes P D x a k in let r = alone P D x a k in cond (universal k && ltb x k) s r

  -- What the reason of x takes in with a removal because of k: the reason of k, and x itself where k is universal and later.
  unfoldable pub cause : List ℕ → ℕ → ℕ → ℕ
  cause R x k = cond (universal k && ltb x k) (bit_or (get_or R k 0) (2 ^ x)) (get_or R k 0)

  -- All values of x that die because of k are removed at once; if there are any, the reason of x takes their cause in.
  unfoldable pub surviving : List ℕ → ℕ → ℕ → ℕ
  surviving l x k = mask_of 16 (λ a. domains l x a && not (kills (domains l) x a k))

  unfoldable pub revise : ℕ → ℕ → Sheet → Sheet
  revise x k s =
      let m = surviving s.list x k in
      let w : Sheet = record { list = set s.list x m; why = set s.why x (bit_or (get_or s.why x 0) (cause s.why x k)) } in
      let c = constrained x k && not (eqb m (get_or s.list x 0)) in
      cond (not (universal x) && c) w s

  -- THE ORDER of removals: passes over the pairs (x, k), both ascending, until one changes no domain; 16 n passes are enough (theory,
  -- `revisions-closed`). It matters for reasons alone: whatever the order, the list is rule 1's.
  unfoldable pub pass : Sheet → Sheet
  pass = loop n 0 (λ x. loop n 0 (λ k. revise x k))

  unfoldable pub same_domains : List ℕ → List ℕ → Bool
  same_domains l m = each n (λ j. true) (λ j. eqb (get_or l j 0) (get_or m j 0))

  unfoldable pub passes : ℕ → Sheet → Sheet
  passes zero s = s
  passes (suc v) s = let t = pass s in let r = passes v t in cond (same_domains t.list s.list) t r

  unfoldable pub revisions : Sheet → Sheet
  revisions = passes (16 * n)

  -- An emptied existential domain; a universal variable x with a value that a neighbour k bars.
  unfoldable pub emptied : Domains → ℕ → Bool
  emptied D x = not (universal x) && empty P D x

  unfoldable pub against : Domains → ℕ → ℕ → Bool
  against D x k = let b = some 16 (D x) (λ a. barred P D x a k) in universal x && (constrained x k && b)

  -- The conflict set of a loss: the reason of the lowest emptied variable; if none is emptied, the reasons of the first pair (x, k) with x against k.
  unfoldable pub arc_conflict : List ℕ → List ℕ → ℕ
  arc_conflict l R =
      let D = domains l in
      let x = first n (emptied D) in
      let y = first n (λ y. some n (against D y) (λ k. true)) in
      let one = get_or R x 0 in
      let two = bit_or (get_or R y 0) (get_or R (first n (against D y)) 0) in
      cond (ltb x n) one two

  unfoldable pub explain_arc : Ruling
  explain_arc l R =
      let s = revisions (record { list = l; why = R }) in
      record { loss = arc_loss P (domains s.list); set = arc_conflict s.list s.why; list = s.list; why = s.why }

  -- Rule 3: the conflict set of the value that the loss names. ------------------------------------------
  unfoldable pub explain_ahead : ℕ → Ruling
  explain_ahead i l R = record { loss = look_ahead P i l; set = forward_conflict l R i (ahead_named P i l); list = l; why = R }

  -- Rules 2, 1 and 3 of the turn after the plays p, of which those from c on are not yet checked.
  unfoldable pub explained : ℕ → ℕ → List ℕ → Ruling
  explained S c p =
      chain (choose (uses S 2) (explain_checks (length p - c) c p))
      (chain (choose (uses S 1) explain_arc) (choose (ltb (length p) n && uses S 3) (explain_ahead (length p))))
