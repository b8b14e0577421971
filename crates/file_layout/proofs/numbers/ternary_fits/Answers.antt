use Prim.Native.Nat.{ℕ, ◌+◌, ◌≤◌, ◌<◌}
use mathlib.Core.Path.{◌≡◌, refl, sym, ap, ◌∙◌}
use mathlib.Core.Bool.{Bool, true, ◌&&◌}
use lib.Dec.{ltb}
use native.Mathlib.Numerals.{add-one}
use native.Mathlib.Omega.{arith}
use borrow.Author.Rules.{rules}
use borrow.Author.Tests.{lt-ltb, le-ltb, ltb-true, leb-true}
use Rattle.mask.specs.Mask.{bit}
use Rattle.mask.specs.Range.{each}
use Rattle.refusal.proofs.Chain.{both_true}
use Rattle.file_layout.specs.Numbers.{in_order, triple_of, triple_in, in_mask, count_fits, triples_fit}
use Rattle.file_layout.proofs.NumberLaws.{order_out, value_of_word, next_above, not_ordered, not_above, not_counted, not_inside, not_third, not_ascending, one_more, all_fit}
use Rattle.file_layout.proofs.numbers.ternary_fits.Goals as goal
use Rattle.file_layout.proofs.numbers.ternary_fits.Goals.{Joined-i-j, then-i-j, else-i-j, Joined-holds, then-holds, else-holds}
use Rattle.file_layout.proofs.numbers.ternary_fits.Goals.{then-not-inside-via-then-not-inside, then-not-inside-via-else-not-inside+then-not-holds}

-- What the first tests say where they hold.
variables : (i j k n : ℕ) {b : Bool} → b ≡ (ltb i j && in_order j k n) → b ≡ true → (i < j) × (j < k) × (k < n)
variables i j k n e q =
    let a = both_true _ _ (sym e ∙ q) in
    let o = order_out j k n a.1 in
    (ltb-true i j a.0, o.0, o.1)

few : (c : ℕ) {b : Bool} → b ≡ count_fits c → b ≡ true → c ≤ 16
unfolding count_fits
few c e q = leb-true c 16 (both_true _ _ (sym e ∙ q)).1

-- A value of a mask, which is a word of 16 bits.
value : (m a : ℕ) {b : Bool} → m < 65536 → b ≡ bit m a → b ≡ in_mask m a
value m a h e = e ∙ sym (value_of_word m a h)

-- What the tests of the variables say, and what those of two values of a triple.
ordered : (g : _) (c : Joined-i-j g) → c.if-i-j.ordered ≡ (ltb c.number-i.result c.number-j.result && in_order c.number-j.result c.number-k.result c.args.n)
ordered g c =
    elim c.if-i-j.branch [
      | then-i-j w ↦ w.ordered-is ∙ w.in_order-ordered.ensures ∙ rw (lt-ltb c.number-i.result c.number-j.result w.if-i-j.true) refl
      | else-i-j w ↦ w.ordered-is ∙ rw (le-ltb c.number-i.result c.number-j.result w.if-i-j.false) refl
    ]

inside : (g : _) (c : Joined-holds g) → c.if-holds.inside ≡ (in_mask c.domain-di.result c.number-a.result && in_mask c.domain-dj.result c.number-b.result)
inside g c =
    let di = value c.domain-di.result c.number-a.result (omega arith) c.holds.ensures in
    elim c.if-holds.branch [
      | then-holds w ↦
          w.inside-is ∙ value c.domain-dj.result c.number-b.result (omega arith) w.holds-inside.ensures ∙ rw (sym di ∙ w.if-holds.true) refl
      | else-holds w ↦ w.inside-is ∙ rw (sym di ∙ w.if-holds.false) w.if-holds.false
    ]

pub returns-then-not-ordered : goal.returns-then-not-ordered
returns-then-not-ordered g c = λ d x D X.
    let o = ordered g (goal.at.returns-then-not-ordered g c).Joined-i-j in
    let xi = X 0 _ (omega arith) c.number-i.ensures in
    let xj = X 1 _ (omega arith) c.number-j.ensures in
    let xk = X 2 _ (omega arith) c.number-k.ensures in
    sym (not_ordered d _ _ x (rw (← xi, ← xj, ← xk) (sym o ∙ c.if-not-ordered.true)))

pub returns-then-not-above : goal.returns-then-not-above
returns-then-not-above g c = λ d x D X.
    let xi = X 0 _ (omega arith) c.number-i.ensures in
    let xj = X 1 _ (omega arith) c.number-j.ensures in
    let xk = X 2 _ (omega arith) c.number-k.ensures in
    sym (not_above d _ _ x (rw (← xi, ← xj, ← xk, ← c.scope_of.ensures) c.if-not-above.true))

pub returns-then-not-counted : goal.returns-then-not-counted
returns-then-not-counted g c = λ d x D X.
    sym (not_counted d _ _ x (rw (← X 3 _ (omega arith) c.number-count.ensures) (sym c.count_fits-counted.ensures ∙ c.if-not-counted.true)))

pub domain-di-requires : goal.domain-di-requires
domain-di-requires g c =
    let v = variables _ _ _ _ (ordered g (goal.at.domain-di-requires g c).Joined-i-j) c.if-not-ordered.false in c.requires.domains _ (omega arith)

pub domain-dj-requires : goal.domain-dj-requires
domain-dj-requires g c =
    let v = variables _ _ _ _ (ordered g (goal.at.domain-dj-requires g c).Joined-i-j) c.if-not-ordered.false in c.requires.domains _ (omega arith)

pub domain-dk-requires : goal.domain-dk-requires
domain-dk-requires g c =
    let v = variables _ _ _ _ (ordered g (goal.at.domain-dk-requires g c).Joined-i-j) c.if-not-ordered.false in c.requires.domains _ (omega arith)

pub loop-q-init : goal.loop-q-init
unfolding triples_fit each next_above
loop-q-init g c = λ d x D X. (refl, refl)

pub number-a-requires : goal.number-a-requires
number-a-requires g c = let h = few _ c.count_fits-counted.ensures c.if-not-counted.false in c.requires.numbers _ (omega arith)

pub number-b-requires : goal.number-b-requires
number-b-requires g c = let h = few _ c.count_fits-counted.ensures c.if-not-counted.false in c.requires.numbers _ (omega arith)

pub number-c-requires : goal.number-c-requires
number-c-requires g c = let h = few _ c.count_fits-counted.ensures c.if-not-counted.false in c.requires.numbers _ (omega arith)

pub returns-then-not-inside : goal.returns-then-not-inside
returns-then-not-inside g c = λ d x D X.
    let v = variables _ _ _ _ (ordered g (goal.at.returns-then-not-inside g c).Joined-i-j) c.if-not-ordered.false in
    let h = few _ c.count_fits-counted.ensures c.if-not-counted.false in
    let xi = X 0 _ (omega arith) c.number-i.ensures in
    let xj = X 1 _ (omega arith) c.number-j.ensures in
    let xk = X 2 _ (omega arith) c.number-k.ensures in
    let n = X 3 _ (omega arith) c.number-count.ensures in
    let q = c.loop-q.q in
    let l : q < x 3 = omega arith in
    elim c.then-not-inside.branch [
      | then-not-inside-via-then-not-inside w ↦
          sym (not_inside d _ _ x q l (rw (
            ← xi,
            ← xj,
            ← D _ _ (omega arith) c.domain-di.ensures,
            ← D _ _ (omega arith) c.domain-dj.ensures,
            ← X _ _ (omega arith) c.number-a.ensures,
            ← X _ _ (omega arith) c.number-b.ensures,
          ) (sym (inside g (goal.at.returns-then-not-inside g c).Joined-holds) ∙ w.if-not-inside.true)))
      | then-not-inside-via-else-not-inside+then-not-holds w ↦
          sym (not_third d _ _ x q l (rw (
            ← xk,
            ← D _ _ (omega arith) c.domain-dk.ensures,
            ← X _ _ (omega arith) c.number-c.ensures,
          ) (sym (value c.domain-dk.result c.number-c.result (omega arith) w.holds-else-not-inside.ensures) ∙ w.if-not-holds.true)))
    ]

pub returns-then-triple-next : goal.returns-then-triple-next
unfolding triple_in
returns-then-triple-next g c = λ d x D X.
    let h = few _ c.count_fits-counted.ensures c.if-not-counted.false in
    let n = X 3 _ (omega arith) c.number-count.ensures in
    let i = c.loop-q.invariant d x D X in
    sym (not_ascending d _ _ x c.loop-q.q (omega arith) (rw (
      ← X _ _ (omega arith) c.number-a.ensures,
      ← X _ _ (omega arith) c.number-b.ensures,
      ← X _ _ (omega arith) c.number-c.ensures,
      ← c.triple_of-triple.ensures,
      ← i.1,
    ) c.if-triple-next.true))

pub overflow_add-next : goal.overflow_add-next
unfolding triple_of
overflow_add-next g c = search rules

pub loop-q-preserved : goal.loop-q-preserved
unfolding next_above triple_in
loop-q-preserved g c = λ d x D X.
    let v = variables _ _ _ _ (ordered g (goal.at.loop-q-preserved g c).Joined-i-j) c.if-not-ordered.false in
    let h = few _ c.count_fits-counted.ensures c.if-not-counted.false in
    let xi = X 0 _ (omega arith) c.number-i.ensures in
    let xj = X 1 _ (omega arith) c.number-j.ensures in
    let xk = X 2 _ (omega arith) c.number-k.ensures in
    let xa = X _ _ (omega arith) c.number-a.ensures in
    let xb = X _ _ (omega arith) c.number-b.ensures in
    let xc = X _ _ (omega arith) c.number-c.ensures in
    let di = D _ _ (omega arith) c.domain-di.ensures in
    let dj = D _ _ (omega arith) c.domain-dj.ensures in
    let dk = D _ _ (omega arith) c.domain-dk.ensures in
    let i = c.loop-q.invariant d x D X in
    let q = c.loop-q.q in
    let e : c.triple_of-triple.result ≡ triple_in x q = c.triple_of-triple.ensures ∙ rw (xa, xb, xc) refl in
    rw add-one (
      one_more d c.args.n c.args.last x q i.0
          (rw (← xi, ← xj, ← di, ← dj, ← xa, ← xb) (sym (inside g (goal.at.loop-q-preserved g c).Joined-holds) ∙ c.if-not-inside.false))
          (rw (← xk, ← dk, ← xc) (sym (value c.domain-dk.result c.number-c.result (omega arith) c.holds-else-not-inside.ensures) ∙ c.if-not-holds.false))
          (omega (arith, i.1, e)),
      ap (λ (t : ℕ). t + 1) e,
    )

pub returns : goal.returns
returns g c = λ d x D X.
    let o = ordered g (goal.at.returns g c).Joined-i-j in
    let xi = X 0 _ (omega arith) c.number-i.ensures in
    let xj = X 1 _ (omega arith) c.number-j.ensures in
    let xk = X 2 _ (omega arith) c.number-k.ensures in
    let n = X 3 _ (omega arith) c.number-count.ensures in
    let e : c.loop-q.q ≡ x 3 = omega arith in
    sym (all_fit d _ _ x
    (rw (← xi, ← xj, ← xk) (sym o ∙ c.if-not-ordered.false))
    (rw (← xi, ← xj, ← xk, ← c.scope_of.ensures) c.if-not-above.false)
    (rw (← n) (sym c.count_fits-counted.ensures ∙ c.if-not-counted.false))
    (ap (triples_fit d x) (sym e) ∙ (c.loop-q.invariant d x D X).0))
