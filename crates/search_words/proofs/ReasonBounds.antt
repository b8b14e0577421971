-- Reasons that are sets of the n variables stay such through rules 1 to 3: what a turn needs before its conflict set starts.
use mathlib.Core.Path.{sym, subst}
use mathlib.Core.Bool.{Bool, true, false, cond, not, ◌&&◌}
use mathlib.Core.List.{List}
use Prim.Native.Nat.{ℕ, zero, suc, ◌*◌, ◌^◌, ◌<◌}
use native.Mathlib.Omega.{arith}
use lib.Dec.{eqb, ltb}
use lib.Bits.{bit_or, or_lt}
use lib.ListN.{get_or, length, set, length-set, get_or-eq_default}
use lib.Pow.{pow_pos, pow-lt}
use lib.Seq.{get_or-set_same, get_or-set_other}
use Rattle.mask.proofs.Logic.{by_eq, by_lt}
use Rattle.game.specs.Problem.{Problem}
use Rattle.game.specs.Lists.{list_of}
use Rattle.game.specs.Forward.{forward}
use Rattle.game.specs.Reasons.{Step, Ruling, idle, chain, choose, loop, Sheet, first_reasons, forward_reasons, explain_forward, explain_checks, cause, surviving, revise, pass, passes, same_domains, revisions, explain_arc, explain_ahead, explained}
use Rattle.theory.proofs.Lists.{get_d_list_of, get_d_beyond}
use Rattle.theory.proofs.Revisions.{loop_keeps}
use Rattle.solver_arrays.specs.Words.{why_in}
use Rattle.solver_arrays.proofs.WordLaws.{get_d_why_in, length-why_in}
use Rattle.search_words.specs.TurnSets.{ReasonsBelow}

-- Each of the reasons R is a set of variables below n.
abbrev pub Below : ℕ → List ℕ → Type 0
Below n R = (j : ℕ) → get_or R j 0 < 2 ^ n

-- The reasons in the words, as a list.
pub below_in : (n : ℕ) (w : List ℕ) → ReasonsBelow n w → Below n (why_in n w)
below_in n w f j = by_lt j n
    (λ l. subst (λ x. x < 2 ^ n) (sym (get_d_why_in n w j l)) (f j l))
    (λ l. let e = length-why_in n w in subst (λ x. x < 2 ^ n) (sym (get_or-eq_default (why_in n w) 0 (omega arith))) (pow_pos n))

pub below_out : (n : ℕ) (w : List ℕ) → Below n (why_in n w) → ReasonsBelow n w
below_out n w f j l = subst (λ x. x < 2 ^ n) (get_d_why_in n w j l) (f j)

-- One of two numbers; a list by its n numbers; a store.
one_of : (b : Bool) (x y m : ℕ) → x < m → y < m → cond b x y < m
one_of true x y m p q = p
one_of false x y m p q = q

below-list_of : (n : ℕ) (f : ℕ → ℕ) → ((j : ℕ) → j < n → f j < 2 ^ n) → Below n (list_of n f)
below-list_of n f h j = by_lt j n
    (λ l. subst (λ x. x < 2 ^ n) (sym (get_d_list_of n f j l)) (h j l))
    (λ l. subst (λ x. x < 2 ^ n) (sym (get_d_beyond n f j l)) (pow_pos n))

below_set : (n : ℕ) (R : List ℕ) (x v : ℕ) → Below n R → v < 2 ^ n → Below n (set R x v)
below_set n R x v h q j = by_eq j x
    (λ z. by_lt x (length R)
    (λ l. rw (z, get_or-set_same R x v 0 l) q)
    (λ l. let e = length-set R x v in rw (z, get_or-eq_default (set R x v) 0 {n = x} (omega arith)) (pow_pos n)))
    (λ z. rw (get_or-set_other R x j v 0 z) (h j))

-- The reasons of a search's first turn.
pub first_below : (n i : ℕ) → Below n (first_reasons n i)
unfolding first_reasons
first_below n i = below-list_of n _ λ j l. one_of (ltb j i) (2 ^ j) 0 (2 ^ n) (pow-lt l) (pow_pos n)

module _ (P : Problem) where
  open P use {n, universal, constrained}

  abbrev Keeps : Ruling → Type 0
  Keeps r = (l R : List ℕ) → Below n R → Below n (r l R).why

  either : (b : Bool) (o q : Step) → Below n o.why → Below n q.why → Below n (cond b o q).why
  either true o q f g = f
  either false o q f g = g

  -- One rule after another, and a rule that may not be used.
  chain_keeps : (r s : Ruling) → Keeps r → Keeps s → Keeps (chain r s)
  unfolding chain
  chain_keeps r s f g l R h = either (r l R).loss (r l R) (s (r l R).list (r l R).why) (f l R h) (g (r l R).list (r l R).why (f l R h))

  idle_keeps : Keeps idle
  unfolding idle
  idle_keeps l R h = h

  choose_keeps : (b : Bool) (r : Ruling) → Keeps r → Keeps (choose b r)
  unfolding choose
  choose_keeps b r f l R h = either b (r l R) (idle l R) (f l R h) (idle_keeps l R h)

  -- Rule 2.
  forward_keeps : (k a : ℕ) → Keeps (explain_forward P k a)
  unfolding explain_forward forward_reasons
  forward_keeps k a l R h =
      below-list_of n _ λ j _.
      one_of (eqb (get_or (forward P k a l).list j 0) (get_or l j 0)) (get_or R j 0) (bit_or (get_or R j 0) (get_or R k 0)) (2 ^ n) (h j) (or_lt n (get_or R j 0) (get_or R k 0) (h j) (h k))

  checks-keep : (k x : ℕ) (p : List ℕ) → Keeps (explain_checks P k x p)
  unfolding explain_checks
  checks-keep zero x p = idle_keeps
  checks-keep (suc k) x p = chain_keeps (explain_forward P x (get_or p x 0)) (explain_checks P k (suc x) p) (forward_keeps x (get_or p x 0)) (checks-keep k (suc x) p)

  -- Rule 1.
  abbrev Fits : Sheet → Type 0
  Fits s = Below n s.why

  cause_lt : (R : List ℕ) (x k : ℕ) → x < n → Below n R → cause P R x k < 2 ^ n
  unfolding cause
  cause_lt R x k l h = one_of (universal k && ltb x k) (bit_or (get_or R k 0) (2 ^ x)) (get_or R k 0) (2 ^ n) (or_lt n (get_or R k 0) (2 ^ x) (h k) (pow-lt l)) (h k)

  sheet_of : (b : Bool) (s t : Sheet) → Fits s → Fits t → Fits (cond b s t)
  sheet_of true s t f g = f
  sheet_of false s t f g = g

  revise_keeps : (x k : ℕ) (s : Sheet) → x < n → Fits s → Fits (revise P x k s)
  unfolding revise
  revise_keeps x k s l h =
      let m = surviving P s.list x k in
      let v = bit_or (get_or s.why x 0) (cause P s.why x k) in
      sheet_of (not (universal x) && (constrained x k && not (eqb m (get_or s.list x 0)))) (record { list = set s.list x m; why = set s.why x v }) s
      (below_set n s.why x v h (or_lt n (get_or s.why x 0) (cause P s.why x k) (h x) (cause_lt s.why x k l h))) h

  pass_keeps : (s : Sheet) → Fits s → Fits (pass P s)
  unfolding pass
  pass_keeps s h = loop_keeps Fits n 0 n (λ x. loop n 0 (λ k. revise P x k)) (omega arith)
      (λ x t l g. loop_keeps Fits n 0 n (λ k. revise P x k) (omega arith) (λ k u _ f. revise_keeps x k u l f) t g) s h

  passes-keep : (v : ℕ) (s : Sheet) → Fits s → Fits (passes P v s)
  unfolding passes
  passes-keep zero s h = h
  passes-keep (suc v) s h = sheet_of (same_domains P (pass P s).list s.list) (pass P s) (passes P v (pass P s)) (pass_keeps s h) (passes-keep v (pass P s) (pass_keeps s h))

  arc_keeps : Keeps (explain_arc P)
  unfolding explain_arc revisions
  arc_keeps l R h = passes-keep (16 * n) (record { list = l; why = R }) h

  -- Rule 3.
  ahead_keeps : (i : ℕ) → Keeps (explain_ahead P i)
  unfolding explain_ahead
  ahead_keeps i l R h = h

  -- Rules 2, 1 and 3 of a turn.
  pub explained-below : (S c : ℕ) (p l R : List ℕ) → Below n R → Below n (explained P S c p l R).why
  unfolding explained
  explained-below S c p = chain_keeps _ _ (choose_keeps _ _ (checks-keep _ c p)) (chain_keeps _ _ (choose_keeps _ _ arc_keeps) (choose_keeps _ _ (ahead_keeps (length p))))
