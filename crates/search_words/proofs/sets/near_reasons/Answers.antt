use Prim.Native.Nat.{◌+◌, ◌*◌, ◌<◌, ◌≤◌}
use borrow.Author.Rules.{rules}
use lib.Bits.{or_lt, or_zero_l, bit_or}
use lib.ListN.{length, get_or}
use mathlib.Core.Path.{◌≡◌, sym, refl}
use native.Mathlib.Omega.{arith}
use Rattle.mask.proofs.Chains.{serves_turns, fold_members, took_lt}
use Rattle.solver_arrays.specs.Words.{reason_in}
use Rattle.search_words.specs.TurnSets.{joined_reasons}
use Rattle.search_words.proofs.SetLaws.{joined_step, joined_end}
use Rattle.search_words.proofs.sets.near_reasons.Goals as goal

pub fold-requires-clause-callable : goal.fold-requires-clause-callable
fold-requires-clause-callable c =
    serves_turns 32 (λ s. s.left) (λ m p. 96 ≤ length p.0.0.now) _ c.members_of.ensures (search rules) (λ m j v p q t k r. search rules)
    (λ m j v p t k. let l = took_lt t in search rules)

pub returns : goal.returns
unfolding reason_in
returns c =
    let r = fold_members 32 (λ s. s.left) _ _
    (λ left out. (out < 4294967296) × (joined_reasons (get_or c.args.arrays.now.near c.args.d 0) c.args.w.now ≡ bit_or out (joined_reasons left c.args.w.now)))
    c.members_of.result _ c.fold.result _ c.members_of.ensures c.fold.ensures.ran (search rules, sym (or_zero_l _))
    (λ m j v b d q t k e.
    let low = c.type_inv.w (32 + 2 * j) in
    let high = c.type_inv.w (33 + 2 * j) in
    let r : reason_in c.args.w.now j < 4294967296 = omega arith in
    let f : d ≡ bit_or b (reason_in c.args.w.now j) = search rules in
    (search rules, rw f (or_lt 32 _ _ k.0 r, joined_step _ _ t.fits t.some _ _ _ _ _ k.0 r t.low refl t.left k.1)))
    in joined_end _ _ _ _ refl r.1
