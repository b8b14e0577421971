use mathlib.Core.Path.{◌≡◌, refl, sym, subst}
use mathlib.Core.Bool.{Bool, cond}
use mathlib.Core.List.{List, []}
use Prim.Native.Nat.{ℕ}
use Rattle.mask.specs.Mask.{bit}
use Rattle.mask.specs.Upward.{Took}
use Rattle.mask.proofs.Chains.{took_lt}
use Rattle.buffer.specs.Put.{Put}
use Rattle.buffer.specs.declared.Text.{Text}
use Rattle.buffer.proofs.StoredLaws.{joined_members, joined_empty}
use Rattle.buffer.proofs.PutLaws.{put_none, put_behind}
use Rattle.report_text.specs.Text.{option_line, option_text, options_text}
use Rattle.report_text.proofs.lines.put_options.Goals as goal

-- The line of the smallest value, then those of the others.
option_member : (w : ℕ) {m j v : ℕ} {b : Bool} {s t u : Text} → Took 16 m j v → b ≡ bit w j → Put s (option_line j b) t → Put t (options_text v w 16) u
    → Put s (options_text m w 16) u
unfolding option_text options_text
option_member w {m} {j} {v} {b} {s} {t} {u} k e p q =
    subst (λ (xs : List ℕ). Put s xs u) (sym (joined_members k (λ a b. cond b (option_line a (bit w a)) []) (λ a. refl)))
    (put_behind (subst (λ (b : Bool). Put s (option_line j b) t) e p) q)

-- No value, no line.
options_empty : (s : Text) (m w : ℕ) → m ≡ 0 → Put s (options_text m w 16) s
unfolding option_text options_text
options_empty s m w z = subst (λ (xs : List ℕ). Put s xs s) (sym (joined_empty 16 (λ a b. cond b (option_line a (bit w a)) []) (λ a. refl) z)) (put_none s)

pub loop-a-init : goal.loop-a-init
loop-a-init c = rw (c.into_iter-a-iterator.ensures.into_iter_gives, c.members_of-a-items.ensures) (λ u p. p)

pub contains-requires : goal.contains-requires
contains-requires c = took_lt c.in-Some.ensures.steps

pub loop-a-preserved : goal.loop-a-preserved
loop-a-preserved c = λ u p. c.loop-a.invariant u (option_member _ c.in-Some.ensures.steps c.contains.ensures c.put_option_line.ensures p)

pub returns : goal.returns
returns c = c.loop-a.invariant _ (options_empty _ _ _ c.in-None.ensures.steps.0)
