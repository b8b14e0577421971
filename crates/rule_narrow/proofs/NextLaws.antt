-- Rules 4 and 5 one after the other: what each leaves of the domain, and the words after both.
use mathlib.Core.Path.{◌≡◌, refl, sym, ap, ◌∙◌}
use mathlib.Core.Bool.{Bool, true, false}
use mathlib.Core.List.{List}
use Prim.Native.Nat.{ℕ, ◌≤◌, ◌<◌}
use native.Mathlib.Omega.{arith}
use lib.ListN.{get_or, length, set, length-set}
use lib.Seq.{get_or-set_same, get_or-set_other, set-get_or, set-set, ext_get_or}
use Rattle.mask.specs.Mask.{mask_of}
use Rattle.mask.proofs.Logic.{by_eq}
use Rattle.game.specs.Problem.{Problem}
use Rattle.game.specs.Lists.{domains}
use Rattle.game.specs.Rule.{uses, ListRule, unruled, if_so, and_next}
use Rattle.game.specs.Pure.{purged, purge}
use Rattle.game.specs.Interchangeable.{interchangeable, represent}
use Rattle.game.specs.Turn.{narrow_pure, narrow_interchangeable}
use Rattle.game.specs.Search.{narrow_next}
use Rattle.solver_arrays.specs.Words.{list_in, why_in, holding}
use Rattle.solver_arrays.proofs.WordLaws.{length-list_in, get_d_list_in, holding-own, set-domain}
use Rattle.rule_narrow.specs.Narrow.{Narrows}

module _ (n x : ℕ) (h : x < n) (w : List ℕ) where
  -- What is stored at x is read there.
  placed : (v : ℕ) → get_or (set (list_in n w) x v) x 0 ≡ v
  placed v = let e = length-list_in n w in get_or-set_same (list_in n w) x v 0 (omega arith)

  -- The domain of x where a rule is not used, and where rule 4 or 5 is.
  pub leaves_all : (r : ListRule) (used : Bool) → used ≡ false → get_or w x 0 ≡ get_or (if_so used r (list_in n w)).list x 0
  unfolding if_so unruled
  leaves_all r used e = rw e (sym (get_d_list_in n w x h))

  pub leaves-pure : (P : Problem) (used : Bool) → used ≡ true → mask_of 16 (purged P (domains (list_in n w)) x) ≡ get_or (if_so used (narrow_pure P x) (list_in n w)).list x 0
  unfolding if_so narrow_pure purge
  leaves-pure P used e = rw e (sym (placed _))

  pub leaves-interchangeable : (P : Problem) (used : Bool) → used ≡ true → interchangeable P x (list_in n w) ≡ get_or (if_so used (narrow_interchangeable P x) (list_in n w)).list x 0
  unfolding if_so narrow_interchangeable represent
  leaves-interchangeable P used e = rw e (sym (placed _))

  -- A store to the domain of x is one to the list.
  list_in-set : (v : ℕ) → x < length w → list_in n (set w x v) ≡ set (list_in n w) x v
  list_in-set v k =
      let e = length-list_in n w in
      let f = length-set (list_in n w) x v in
      let g = length-list_in n (set w x v) in
      ext_get_or 0 (list_in n (set w x v)) (set (list_in n w) x v) (g ∙ sym (f ∙ e)) λ j l.
      get_d_list_in n (set w x v) j (omega arith)
      ∙ by_eq j x (λ q. rw q (get_or-set_same w x v 0 k ∙ sym (placed v)))
      (λ q. get_or-set_other w x j v 0 q ∙ sym (get_or-set_other (list_in n w) x j v 0 q ∙ get_d_list_in n w j (omega arith)))

  -- A rule that changes the domain of x alone leaves the list with what it leaves of this domain.
  own : (r : ListRule) (m : ℕ) → (r (list_in n w)).list ≡ set (list_in n w) x m → (used : Bool)
      → set (list_in n w) x (get_or (if_so used r (list_in n w)).list x 0) ≡ (if_so used r (list_in n w)).list
  unfolding if_so unruled
  own r m e true = rw e (ap (set (list_in n w) x) (placed m))
  own r m e false = set-get_or (list_in n w) x 0

-- Rule 4 finds no loss, so rule 5 goes on from its list.
both-rules : (P : Problem) (S x : ℕ) (l : List ℕ) (four five : Bool) → uses S 4 ≡ four → uses S 5 ≡ five
    → (narrow_next P S x l).list ≡ (if_so five (narrow_interchangeable P x) (if_so four (narrow_pure P x) l).list).list
unfolding narrow_next and_next if_so unruled narrow_pure
both-rules P S x l four five f g = rw (f, g) (go four)
  where
    go : (b : Bool) → (and_next (if_so b (narrow_pure P x)) (if_so five (narrow_interchangeable P x)) l).list ≡ (if_so five (narrow_interchangeable P x) (if_so b (narrow_pure P x) l).list).list
    go true = refl
    go false = refl

module _ (n x : ℕ) (h : x < n) (b : n ≤ 32) (w : List ℕ) (q : 96 ≤ length w) where
  -- Words in which the domain of x alone was changed hold the list with this change and the old reasons.
  held : ((k : ℕ) → get_or w k 0 < 65536) → (v : ℕ) (l : List ℕ) → list_in n (set w x v) ≡ l → set w x v ≡ holding n w l (why_in n w)
  held small v l e =
      ap (λ y. set y x v) (sym (holding-own n b w q small))
      ∙ set-domain n b w q (list_in n w) (why_in n w) (length-list_in n w) x v h
      ∙ ap (λ y. holding n w y (why_in n w)) (sym (list_in-set n x h w v (omega arith)) ∙ e)

  -- The words after a store of what rule 4 leaves, and one of what rule 5 leaves of that.
  pub narrows :
      ((k : ℕ) → get_or w k 0 < 65536) → (P : Problem) (S : ℕ) (four five : Bool) → uses S 4 ≡ four → uses S 5 ≡ five → (m k : ℕ)
      → m ≡ get_or (if_so four (narrow_pure P x) (list_in n w)).list x 0
      → k ≡ get_or (if_so five (narrow_interchangeable P x) (list_in n (set w x m))).list x 0
      → Narrows P n S x w (set (set w x m) x k)
  unfolding narrow_pure purge narrow_interchangeable represent
  narrows small P S four five f g m k e d =
      let first = list_in-set n x h w m (omega arith) ∙ ap (set (list_in n w) x) e ∙ own n x h w (narrow_pure P x) _ refl four in
      let l = length-set w x m in
      let both = ap (λ y. (if_so five (narrow_interchangeable P x) y).list) first ∙ sym (both-rules P S x (list_in n w) four five f g) in
      let stored = set-set w x m k in
      let whole =
      list_in-set n x h (set w x m) k (omega arith) ∙ ap (set (list_in n (set w x m)) x) d ∙ own n x h (set w x m) (narrow_interchangeable P x) _ refl five ∙ both in
      record {
        words = stored ∙ ap (set w x) (d ∙ ap (λ y. get_or y x 0) both);
        list = whole;
        holds = stored ∙ held small k (narrow_next P S x (list_in n w)).list (ap (list_in n) (sym stored) ∙ whole);
      }
