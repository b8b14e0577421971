-- A turn of a search: which list it starts from, and the list that its rules reach.
use Rattle.std.specs.Prelude.{false, cond, ◌&&◌, List, ℕ, zero, suc, ◌-◌, ltb, get_or, length}
use Rattle.game.specs.Problem.{Problem}
use Rattle.game.specs.Lists.{narrow_to}
use Rattle.game.specs.Position.{position}
use Rattle.game.specs.Rule.{uses, ListRule, unruled, if_so, and_next}
use Rattle.game.specs.Arc.{arc}
use Rattle.game.specs.Forward.{forward, forward_named}
use Rattle.game.specs.LookAhead.{look_ahead, ahead_named}
use Rattle.game.specs.Pure.{purge}
use Rattle.game.specs.Interchangeable.{represent}

module _ (P : Problem) where
  open P use {n}

  -- "The first turn from the position": after the plays p, of which none is checked yet.
  unfoldable pub first_list : List ℕ → List ℕ
  first_list p = position P p

  -- "A turn of a search starts from the list of the turn above with the new play narrowed": value a of variable i, the one play not yet
  -- checked.
  unfoldable pub next_list : List ℕ → ℕ → ℕ → List ℕ
  next_list l i a = narrow_to l i a

  -- Rule 2 for the k plays from variable x on, ascending.
  unfoldable pub checks : ℕ → ℕ → List ℕ → ListRule
  checks zero x p = unruled
  checks (suc k) x p = and_next (forward P x (get_or p x 0)) (checks k (suc x) p)

  -- Rules 3, 4 and 5 on variable i, "with the narrowing that 4 and 5 name".
  unfoldable pub ahead : ℕ → ListRule
  ahead i l = record { loss = look_ahead P i l; list = l }

  unfoldable pub narrow_pure : ℕ → ListRule
  narrow_pure i l = record { loss = false; list = purge P i l }

  unfoldable pub narrow_interchangeable : ℕ → ListRule
  narrow_interchangeable i l = record { loss = false; list = represent P i l }

  unfoldable pub next_rules : ℕ → ℕ → ListRule
  next_rules set i = and_next (if_so (uses set 3) (ahead i)) (and_next (if_so (uses set 4) (narrow_pure i)) (if_so (uses set 5) (narrow_interchangeable i)))

  -- "At each turn the set's rules run once in the order 2 (for each play not yet checked, ascending), 1, and then, if a choice is left
  -- unplayed, 3, 4 and 5 on the lowest such choice": the turn after the plays p, of which those from c on are not yet checked.
  unfoldable pub reached : ℕ → ℕ → List ℕ → ListRule
  reached set c p =
      and_next (if_so (uses set 2) (checks (length p - c) c p)) (and_next (if_so (uses set 1) (arc P)) (if_so (ltb (length p) n) (next_rules set (length p))))

  -- The variable that the first losing check names, of the k plays from variable x on; n where none loses.
  unfoldable pub checks_named : ℕ → ℕ → List ℕ → List ℕ → ℕ
  checks_named zero x p l = n
  checks_named (suc k) x p l =
      let here = forward_named P x (get_or p x 0) l in
      let next = checks_named k (suc x) p (forward P x (get_or p x 0) l).list in
      cond (forward P x (get_or p x 0) l).loss here next

  -- What a turn's loss names (document 02, card 2): the variable of a loss of rule 2 or of rule 3, in the turn after the plays p of which those
  -- from c on are not yet checked; n where neither finds a loss.
  unfoldable pub turn_named : ℕ → ℕ → List ℕ → List ℕ → ℕ
  turn_named set c p l =
      let i = length p in
      let two = if_so (uses set 2) (checks (i - c) c p) l in
      let one = if_so (uses set 1) (arc P) two.list in
      let by2 = checks_named (i - c) c p l in
      let by3 = forward_named P i (ahead_named P i one.list) one.list in
      let three = ltb i n && (uses set 3 && look_ahead P i one.list) in
      cond two.loss by2 (cond one.loss n (cond three by3 n))
