-- The plain list of plays that stand, with the depth beside it (document 02, card 6): "fed only the file and each call's kind and arguments, never a
-- position, and empty at first"; "The plain list has a depth beside it, 0 at first".
use Rattle.std.specs.Prelude.{cond, ◌&&◌, List, [], ◌∷◌, ◌++◌, ℕ, eqb, ltb, leb, length}
use Rattle.game.specs.Problem.{Problem}
use Rattle.game.specs.Lists.{domains}

-- A play of any number at all, a take-back, a lock, or an unlock to any number at all.
pub data Call : Type 0 where
  play : ℕ → Call
  take_back : Call
  lock : Call
  unlock : ℕ → Call

-- The plays that stand, and how many of them, the first ones, are held.
pub record PlainList : Type 0 where
  pub plays : List ℕ
  pub depth : ℕ

abbrev pub plain : List ℕ → ℕ → PlainList
plain l d = record { plays = l; depth = d }

abbrev pub nothing_stands : PlainList
nothing_stands = plain [] 0

-- The list without its last element, if it has one.
unfoldable pub without_last : List ℕ → List ℕ
without_last [] = []
without_last (a ∷ []) = []
without_last (a ∷ (b ∷ p)) = a ∷ without_last (b ∷ p)

-- "A play adds its option if fewer than n stand and the next choice's mask holds it. A take-back removes the last if any stands.
-- Otherwise the list stays as it is." Card 6: "A lock sets it to the number of plays standing, an unlock to its number if that is no larger than
-- this depth, and a take-back at that depth removes nothing."
unfoldable pub after_call : Problem → PlainList → Call → PlainList
after_call P s (play a) =
    let p = s.plays in
    record { plays = cond (ltb (length p) P.n && domains P.domain (length p) a) (p ++ (a ∷ [])) p; depth = s.depth }
after_call P s take_back = record { plays = cond (eqb (length s.plays) s.depth) s.plays (without_last s.plays); depth = s.depth }
after_call P s lock = record { plays = s.plays; depth = length s.plays }
after_call P s (unlock k) = record { plays = s.plays; depth = cond (leb k s.depth) k s.depth }

-- What stands after calls, from s; from nothing.
unfoldable pub standing_from : Problem → PlainList → List Call → PlainList
standing_from P s [] = s
standing_from P s (c ∷ cs) = standing_from P (after_call P s c) cs

unfoldable pub standing : Problem → List Call → PlainList
standing P cs = standing_from P nothing_stands cs
