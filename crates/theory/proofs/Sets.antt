-- Rules that are switched off change nothing.
use mathlib.Core.Path.{◌≡◌, refl, ap, fun_ext, ◌∙◌}
use mathlib.Core.Bool.{Bool, true, false, cond}
use mathlib.Core.List.{List}
use Prim.Native.Nat.{ℕ, ◌-◌, ◌<◌}
use native.Mathlib.Omega.{arith}
use lib.Dec.{ltb}
use lib.ListN.{length}
use Rattle.mask.specs.Mask.{bit}
use Rattle.mask.proofs.Logic.{cond_same}
use Rattle.game.specs.Problem.{Problem}
use Rattle.game.specs.Rule.{uses, Ruled, ListRule, unruled, if_so, and_next}
use Rattle.game.specs.Turn.{checks, next_rules, reached}

-- A rule that is off is no rule, and no rule before or after another changes nothing.
pub off_is_none : (r : ListRule) → if_so false r ≡ unruled
unfolding if_so
off_is_none r = refl

pub none_first : (r : ListRule) → and_next unruled r ≡ r
unfolding and_next unruled
none_first r = refl

pub none_last : (r : ListRule) → and_next r unruled ≡ r
unfolding and_next unruled
none_last r = fun_ext λ l. both (r l).loss (r l).list
  where
    both : (b : Bool) (m : List ℕ) → ◌≡◌ {A = Ruled} (cond b (record { loss = b; list = m }) (record { loss = false; list = m })) (record { loss = b; list = m })
    both true m = refl
    both false m = refl

-- Set 0 uses no rule: the list that its turn reaches is the list it started from.
pub plain_turn : (P : Problem) (c : ℕ) (p : List ℕ) → reached P 0 c p ≡ unruled
unfolding reached next_rules and_next if_so unruled uses bit
plain_turn P c p = fun_ext λ l. cond_same {A = Ruled} (ltb (length p) P.n) (record { loss = false; list = l })

-- Set 2 uses rule 2 alone.
pub checks-turn : (P : Problem) (c : ℕ) (p : List ℕ) → reached P 2 c p ≡ checks P (length p - c) c p
unfolding reached next_rules and_next if_so unruled uses bit
checks-turn P c p =
    ap (and_next (checks P (length p - c) c p)) (fun_ext λ l. cond_same {A = Ruled} (ltb (length p) P.n) (record { loss = false; list = l }))
    ∙ none_last (checks P (length p - c) c p)

-- A turn depends on the first five rules of its set alone: rules 6 and 7 do not change its list.
pub same_turn : (P : Problem) (s t c : ℕ) (p : List ℕ) → ((k : ℕ) → k < 6 → uses s k ≡ uses t k) → reached P s c p ≡ reached P t c p
unfolding reached next_rules
same_turn P s t c p e = rw (e 1 (omega arith), e 2 (omega arith), e 3 (omega arith), e 4 (omega arith), e 5 (omega arith))
