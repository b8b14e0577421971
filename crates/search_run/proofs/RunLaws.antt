-- A run's outcome, and its room.
use mathlib.Core.Path.{◌≡◌, refl, sym, ap, ap₂, ◌∙◌}
use mathlib.Core.Bool.{Bool, true, false, cond}
use mathlib.Core.List.{List, []}
use mathlib.Core.Logic.{inr}
use Prim.Native.Nat.{ℕ, ◌+◌, ◌-◌, ◌*◌, ◌≤◌, ◌<◌}
use native.Mathlib.Omega.{arith}
use lib.Dec.{T}
use lib.ListN.{get_or, length, take, drop, length-drop, get_or-eq_default}
use lib.Seq.{ext_get_or, get_or-drop}
use borrow.Author.Rules.{part_to_end}
use borrow.Rule.Slice.PartMut.{put_mid, put_same}
use Rattle.game.specs.Lists.{spread}
use Rattle.mask.proofs.Logic.{by_lt}
use Rattle.game.specs.Problem.{Problem}
use Rattle.game.specs.Turn.{first_list, reached}
use Rattle.game.specs.Reasons.{first_reasons}
use Rattle.game.specs.Search.{solved, failed, is_solved, search, search_from}
use Rattle.theory.proofs.Lists.{list_of_same}
use Rattle.theory.proofs.SpreadLaws.{spread_places}
use Rattle.solver_arrays.specs.declared.arrays.Arrays.{Arrays}
use Rattle.solver_arrays.specs.Arrays.{Poses, Posed}
use Rattle.solver_arrays.specs.Words.{list_in, leaf_in}
use Rattle.solver_arrays.proofs.WordLaws.{length-leaf_in, get_d_leaf_in}
use Rattle.position.specs.declared.Position.{Position}
use Rattle.position.specs.Position.{plays_of, fits_in}
use Rattle.search_words.specs.TurnRoom.{zeroed}
use Rattle.search_words.proofs.RoomLaws.{length-zeroed, zeroed_at, zeroed_other}
use Rattle.search_steps.specs.declared.Outcome.{Outcome}
use Rattle.search_steps.specs.declared.Outcome.TheVariants.{Won, Lost}
use Rattle.search_steps.specs.TurnReply.{won_of, set_of, reply_in, room_of, Stands, Blank, Leaves, TurnReplies}
use Rattle.search_run.specs.declared.Ran.{Ran}
use Rattle.search_run.specs.FirstTurn.{ZeroBelow, FirstWords}
use Rattle.search_run.specs.Run.{room_words, leaf_shown, conflict_shown, Finds}
use Rattle.search_run.proofs.FirstLaws.{plays_count, first-list, first-why, first_in}

-- A leaf of zeros.
no_leaf : (n : ℕ) (w : List ℕ) → ((k : ℕ) → 96 ≤ k → k < 128 → get_or w k 0 ≡ 0) → n ≤ 32 → spread (leaf_in n w) ≡ spread []
no_leaf n w z m =
    let e = length-leaf_in n w in
    spread_places (leaf_in n w) (omega arith)
    ∙ list_of_same 32 _ _ (λ j h. by_lt j n
    (λ u. get_d_leaf_in n w j u ∙ z (96 + j) (omega arith) (omega arith))
    (λ u. get_or-eq_default (leaf_in n w) 0 (omega arith)))
    ∙ sym (spread_places [] (omega arith))

-- What the first turn's words give to the turn: the first words w become x.
module _ (A : Arrays) (S : ℕ) (p : Position) (long : length p.values ≡ 32) (fits : T (fits_in p A.n A.domains))
    (w x : List ℕ) (f : FirstWords p A.n A.domains w x) where
  pub first-stands : Posed A → Stands A.n A S 0 p.plays x
  first-stands o = record {
    problem = o.problem;
    states = o.poses.states;
    plays = plays_of p;
    turn = first_in o.problem A o.poses S p long fits w x f;
  }

  -- What the run finds, where the turn leaves the words y.
  module _ (y : List ℕ) (r : Ran) (t : TurnReplies A.n A S 0 p.plays x y r.outcome)
      (list : r.list ≡ spread (list_in A.n y)) (leaf : r.leaf ≡ spread (leaf_in A.n y)) (h : p.plays ≤ A.n) where
    shown : (b : Bool) → won_of r.outcome ≡ b → spread (leaf_in A.n y) ≡ leaf_shown (cond b (solved (leaf_in A.n y)) (failed (set_of r.outcome)))
    unfolding leaf_shown
    shown true e = refl
    shown false e = no_leaf A.n y (λ k l u. t.room.lost e k l (omega arith)) A.most

    told : (u : Outcome) → set_of u ≡ conflict_shown (cond (won_of u) (solved (leaf_in A.n y)) (failed (set_of u)))
    unfolding conflict_shown
    told Won = refl
    told (Lost by q) = refl

    solved_is : (b : Bool) → b ≡ is_solved (cond b (solved (leaf_in A.n y)) (failed (set_of r.outcome)))
    solved_is true = refl
    solved_is false = refl

    module _ (P : Problem) (q : Poses P A) where
      verdict : search_from P S (plays_of p) ≡ cond (won_of r.outcome) (solved (leaf_in A.n y)) (failed (set_of r.outcome))
      unfolding search_from reply_in
      verdict =
          let c = plays_count P A q S p long fits w x f in
          let e : P.n - length (plays_of p) ≡ A.n - p.plays = ap₂ (λ (a b : ℕ). a - b) q.states.size c in
          ap (λ k. search P S 0 k (plays_of p) (first_list P (plays_of p)) (first_reasons P.n (length (plays_of p)))) e
          ∙ ap₂ (λ (l R : List ℕ). search P S 0 (A.n - p.plays) (plays_of p) l R)
          (sym (first-list P A q S p long fits w x f)) (sym (first-why P A q S p long fits w x f))
          ∙ t.reply P q.states (plays_of p) (first_in P A q S p long fits w x f)

      pub run_finds : Finds P S p r
      run_finds =
          let a = t.reach P q.states (plays_of p) (first_in P A q S p long fits w x f) in
          let l = first-list P A q S p long fits w x f in
          record {
            loss = a.loss ∙ ap (λ (l : List ℕ). (reached P S 0 (plays_of p) l).loss) l;
            list = list ∙ ap spread (a.list ∙ ap (λ (l : List ℕ). (reached P S 0 (plays_of p) l).list) l);
            won = solved_is (won_of r.outcome) ∙ sym (ap is_solved verdict);
            conflict = told r.outcome ∙ sym (ap conflict_shown verdict);
            leaf = leaf ∙ shown (won_of r.outcome) refl ∙ sym (ap leaf_shown verdict);
          }

-- The room: blank before the turn, and as it was after it, since the turn leaves zeros behind its own words and these are cleared.
module _ (p : Position) (n : ℕ) (masks w x : List ℕ) (f : FirstWords p n masks w x) (z : ZeroBelow (room_of n p.plays) w) where
  pub first-blank : Blank (room_of n p.plays) x
  first-blank k a b = f.behind k a ∙ z k b

  pub room_kept : (y v : List ℕ) (won : Bool) → Leaves n (room_of n p.plays) won x y → v ≡ zeroed 0 128 y → room_of n p.plays ≤ length w → p.plays ≤ n → n ≤ 32 → v ≡ w
  room_kept y v won t e b h m =
      let s = t.size in
      let g = f.size in
      ext_get_or 0 v w (ap length e ∙ length-zeroed 0 128 y ∙ s ∙ g) λ k l. ap (λ (u : List ℕ). get_or u k 0) e ∙ by_lt k (room_of n p.plays)
      (λ u. by_lt k 128 (λ i. zeroed_at 0 128 y k (omega arith) i (omega arith)) (λ i. zeroed_other 0 128 y k (inr i) ∙ t.behind k (omega arith) u) ∙ sym (z k u))
      (λ u. zeroed_other 0 128 y k (inr (omega arith)) ∙ t.beyond k u ∙ f.behind k (omega arith))

-- The cleared room x, from the first turn on: the part that is lent, and the whole when it is back as it was.
module _ (n d : ℕ) (w x : List ℕ) (t : ℕ) (h : d ≤ n) (q : t ≡ room_words n) (b : room_words n ≤ length w) (e : x ≡ zeroed 0 t w) where
  room_size : length x ≡ length w
  room_size = ap length e ∙ length-zeroed 0 t w

  pub part-start : 128 * d ≤ length x
  part-start = let s = room_size in omega arith

  pub part-size : room_of n d ≤ length (take (length x - 128 * d) (drop (128 * d) x))
  part-size = let s = room_size in let l = ap length (part_to_end x (128 * d)) ∙ length-drop (128 * d) x in omega arith

  pub part_zero : ZeroBelow (room_of n d) (take (length x - 128 * d) (drop (128 * d) x))
  part_zero k u =
      ap (λ (y : List ℕ). get_or y k 0) (part_to_end x (128 * d)) ∙ get_or-drop (128 * d) x k 0 ∙ ap (λ (y : List ℕ). get_or y (128 * d + k) 0) e
      ∙ zeroed_at 0 t w (128 * d + k) (omega arith) (omega arith) (omega arith)

  pub room_back : (y : List ℕ) → y ≡ take (length x - 128 * d) (drop (128 * d) x) → put_mid (128 * d) (length x - 128 * d) x y ≡ zeroed 0 (room_words n) w
  room_back y g = ap (put_mid (128 * d) (length x - 128 * d) x) g ∙ put_same (128 * d) (length x - 128 * d) x ∙ e ∙ ap (λ t. zeroed 0 t w) q
