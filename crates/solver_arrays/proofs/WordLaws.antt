-- The words of a turn: what they hold, and what a store to one of them changes.
use mathlib.Core.Path.{◌≡◌, refl, sym, ap, ◌∙◌}
use mathlib.Core.List.{List}
use mathlib.Core.Logic.{◌⊎◌, inl, inr, ⊎_elim}
use Prim.Native.Nat.{ℕ, ◌+◌, ◌-◌, ◌*◌, ◌/◌, ◌%◌, ◌≤◌, ◌<◌}
use native.Mathlib.Omega.{arith}
use lib.ListN.{get_or, length, set, length-set}
use lib.Seq.{ext_get_or, get_or-set_same, get_or-set_other, set-get_or}
use borrow.Author.Tests.{lt-ltb, le-ltb, le-leb, lt-leb, eq-eqb, ne_eqb}
use Rattle.mask.proofs.Logic.{by_eq, by_lt}
use Rattle.theory.proofs.Lists.{length-list_of, get_d_list_of}
use Rattle.solver_arrays.specs.Words.{list_in, reason_in, why_in, leaf_in, put_reason, half_of, word_of, holding}

pub length-list_in : (n : ℕ) (w : List ℕ) → length (list_in n w) ≡ n
unfolding list_in
length-list_in n w = length-list_of n _

pub length-why_in : (n : ℕ) (w : List ℕ) → length (why_in n w) ≡ n
unfolding why_in
length-why_in n w = length-list_of n _

pub get_d_list_in : (n : ℕ) (w : List ℕ) (i : ℕ) → i < n → get_or (list_in n w) i 0 ≡ get_or w i 0
unfolding list_in
get_d_list_in n w i h = get_d_list_of n (λ i. get_or w i 0) i h

pub get_d_why_in : (n : ℕ) (w : List ℕ) (i : ℕ) → i < n → get_or (why_in n w) i 0 ≡ reason_in w i
unfolding why_in
get_d_why_in n w i h = get_d_list_of n (reason_in w) i h

pub length-leaf_in : (n : ℕ) (w : List ℕ) → length (leaf_in n w) ≡ n
unfolding leaf_in
length-leaf_in n w = length-list_of n _

pub get_d_leaf_in : (n : ℕ) (w : List ℕ) (j : ℕ) → j < n → get_or (leaf_in n w) j 0 ≡ get_or w (96 + j) 0
unfolding leaf_in
get_d_leaf_in n w j h = get_d_list_of n (λ j. get_or w (96 + j) 0) j h

pub length-holding : (n : ℕ) (w l R : List ℕ) → length (holding n w l R) ≡ length w
unfolding holding
length-holding n w l R = length-list_of (length w) (word_of n w l R)

pub length-put_reason : (w : List ℕ) (i r : ℕ) → length (put_reason w i r) ≡ length w
unfolding put_reason
length-put_reason w i r = length-set (set w (32 + 2 * i) (r % 65536)) (33 + 2 * i) (r / 65536) ∙ length-set w (32 + 2 * i) (r % 65536)

-- A reason stored: the other words, domains among them, stay; it comes out again; other reasons stay; storing the one that stands there changes nothing.
pub put_other : (w : List ℕ) (i r k : ℕ) → (k < 32 + 2 * i) ⊎ (34 + 2 * i ≤ k) → get_or (put_reason w i r) k 0 ≡ get_or w k 0
unfolding put_reason
put_other w i r k o =
    let x = set w (32 + 2 * i) (r % 65536) in
    let f : ¬ (k ≡ 33 + 2 * i) = ⊎_elim (λ u. omega arith) (λ u. omega arith) o in
    let g : ¬ (k ≡ 32 + 2 * i) = ⊎_elim (λ u. omega arith) (λ u. omega arith) o in
    get_or-set_other x (33 + 2 * i) k (r / 65536) 0 f ∙ get_or-set_other w (32 + 2 * i) k (r % 65536) 0 g

pub put_same : (w : List ℕ) (i r : ℕ) → 96 ≤ length w → i < 32 → reason_in (put_reason w i r) i ≡ r
unfolding put_reason reason_in
put_same w i r b h =
    let x = set w (32 + 2 * i) (r % 65536) in
    let e = length-set w (32 + 2 * i) (r % 65536) in
    rw (
      get_or-set_other x (33 + 2 * i) (32 + 2 * i) (r / 65536) 0 (omega arith),
      get_or-set_same w (32 + 2 * i) (r % 65536) 0 (omega arith),
      get_or-set_same x (33 + 2 * i) (r / 65536) 0 (omega arith),
    ) (omega arith)

pub put_apart : (w : List ℕ) (i r j : ℕ) → ¬ (j ≡ i) → reason_in (put_reason w i r) j ≡ reason_in w j
unfolding reason_in
put_apart w i r j z =
    let o : (k : ℕ) → (k ≡ 32 + 2 * j) ⊎ (k ≡ 33 + 2 * j) → (k < 32 + 2 * i) ⊎ (34 + 2 * i ≤ k) =
    λ k e. by_lt j i (λ u. inl (⊎_elim (λ v. omega arith) (λ v. omega arith) e)) (λ u. inr (⊎_elim (λ v. omega arith) (λ v. omega arith) e)) in
    rw (put_other w i r (32 + 2 * j) (o (32 + 2 * j) (inl refl)), put_other w i r (33 + 2 * j) (o (33 + 2 * j) (inr refl)))

pub put-domain : (w : List ℕ) (i r k : ℕ) → k < 32 → get_or (put_reason w i r) k 0 ≡ get_or w k 0
put-domain w i r k h = put_other w i r k (inl (omega arith))

pub put_kept : (w : List ℕ) → ((k : ℕ) → get_or w k 0 < 65536) → (j : ℕ) → put_reason w j (reason_in w j) ≡ w
unfolding put_reason reason_in
put_kept w small j =
    let s = small (32 + 2 * j) in
    let p : (get_or w (32 + 2 * j) 0 + 65536 * get_or w (33 + 2 * j) 0) % 65536 ≡ get_or w (32 + 2 * j) 0 = omega arith in
    let q : (get_or w (32 + 2 * j) 0 + 65536 * get_or w (33 + 2 * j) 0) / 65536 ≡ get_or w (33 + 2 * j) 0 = omega arith in
    rw (p, q, set-get_or w (32 + 2 * j) 0) (set-get_or w (33 + 2 * j) 0)

-- A domain stored: the reasons stay.
pub reason_set : (w : List ℕ) (j k i : ℕ) → j < 32 → reason_in (set w j k) i ≡ reason_in w i
unfolding reason_in
reason_set w j k i h = rw (get_or-set_other w j (32 + 2 * i) k 0 (omega arith), get_or-set_other w j (33 + 2 * i) k 0 (omega arith))

-- A word that is neither a domain's nor a reason's.
abbrev Other : ℕ → ℕ → Type 0
Other n k = (n ≤ k) × ((k < 32) ⊎ (32 + 2 * n ≤ k))

-- Words that agree in domains, in both halves of reasons, and elsewhere.
same_words : (n : ℕ) → n ≤ 32 → (x y : List ℕ) → length x ≡ length y
    → ((k : ℕ) → k < n → get_or x k 0 ≡ get_or y k 0)
    → ((i : ℕ) → i < n → get_or x (32 + 2 * i) 0 ≡ get_or y (32 + 2 * i) 0)
    → ((i : ℕ) → i < n → get_or x (33 + 2 * i) 0 ≡ get_or y (33 + 2 * i) 0)
    → ((k : ℕ) → k < length y → Other n k → get_or x k 0 ≡ get_or y k 0)
    → x ≡ y
same_words n b x y e f g h o = ext_get_or 0 x y e λ k l.
    by_lt k n (f k) λ p. by_lt k 32 (λ q. o k (omega arith) (p, inl q)) λ q. by_lt k (32 + 2 * n)
    (λ r. by_eq (k % 2) 0
    (λ z. let s : k ≡ 32 + 2 * ((k - 32) / 2) = omega arith in rw s (g ((k - 32) / 2) (omega arith)))
    (λ z. let s : k ≡ 33 + 2 * ((k - 32) / 2) = omega arith in rw s (h ((k - 32) / 2) (omega arith))))
    (λ r. o k (omega arith) (p, inr r))

module _ (n : ℕ) (b : n ≤ 32) (w : List ℕ) (m : 96 ≤ length w) (l R : List ℕ) where
  word_at : (k : ℕ) → k < length w → get_or (holding n w l R) k 0 ≡ word_of n w l R k
  unfolding holding
  word_at k h = get_d_list_of (length w) (word_of n w l R) k h

  -- What each word holds.
  pub holding-domain : (j : ℕ) → j < n → get_or (holding n w l R) j 0 ≡ get_or l j 0
  unfolding word_of
  holding-domain j h = word_at j (omega arith) ∙ rw (lt-ltb j n h)

  holding-low : (j : ℕ) → j < n → get_or (holding n w l R) (32 + 2 * j) 0 ≡ get_or R j 0 % 65536
  unfolding word_of half_of
  holding-low j h =
      let s : (32 + 2 * j - 32) / 2 ≡ j = omega arith in
      word_at (32 + 2 * j) (omega arith)
      ∙ rw (le-ltb (32 + 2 * j) n (omega arith), le-leb 32 (32 + 2 * j) (omega arith), lt-ltb (32 + 2 * j) (32 + 2 * n) (omega arith), eq-eqb ((32 + 2 * j) % 2) 0 (omega arith), s)

  holding_high : (j : ℕ) → j < n → get_or (holding n w l R) (33 + 2 * j) 0 ≡ get_or R j 0 / 65536
  unfolding word_of half_of
  holding_high j h =
      let s : (33 + 2 * j - 32) / 2 ≡ j = omega arith in
      word_at (33 + 2 * j) (omega arith)
      ∙ rw (le-ltb (33 + 2 * j) n (omega arith), le-leb 32 (33 + 2 * j) (omega arith), lt-ltb (33 + 2 * j) (32 + 2 * n) (omega arith), ne_eqb ((33 + 2 * j) % 2) 0 (omega arith), s)

  holding_other : (k : ℕ) → k < length w → Other n k → get_or (holding n w l R) k 0 ≡ get_or w k 0
  unfolding word_of
  holding_other k h o = word_at k h ∙ rw (le-ltb k n o.0) (⊎_elim
      (λ q. rw (lt-leb 32 k q))
      (λ q. rw (le-leb 32 k (omega arith), le-ltb k (32 + 2 * n) q)) o.1)

  pub holding_reason : (j : ℕ) → j < n → reason_in (holding n w l R) j ≡ get_or R j 0
  unfolding reason_in
  holding_reason j h = rw (holding-low j h, holding_high j h) (omega arith)

  -- The list and the reasons that were put come out again.
  pub list_in-holding : length l ≡ n → list_in n (holding n w l R) ≡ l
  list_in-holding e =
      let k = length-list_in n (holding n w l R) in
      ext_get_or 0 (list_in n (holding n w l R)) l (k ∙ sym e) λ i h. get_d_list_in n (holding n w l R) i (omega arith) ∙ holding-domain i (omega arith)

  pub why_in-holding : length R ≡ n → why_in n (holding n w l R) ≡ R
  why_in-holding e =
      let k = length-why_in n (holding n w l R) in
      ext_get_or 0 (why_in n (holding n w l R)) R (k ∙ sym e) λ i h. get_d_why_in n (holding n w l R) i (omega arith) ∙ holding_reason i (omega arith)

module _ (n : ℕ) (b : n ≤ 32) (w : List ℕ) (m : 96 ≤ length w) where
  -- The words hold what they hold.
  pub holding-own : ((k : ℕ) → get_or w k 0 < 65536) → holding n w (list_in n w) (why_in n w) ≡ w
  unfolding reason_in
  holding-own small =
      same_words n b (holding n w (list_in n w) (why_in n w)) w (length-holding n w (list_in n w) (why_in n w))
      (λ k h. holding-domain n b w m (list_in n w) (why_in n w) k h ∙ get_d_list_in n w k h)
      (λ i h. let s = small (32 + 2 * i) in let e = get_d_why_in n w i h in holding-low n b w m (list_in n w) (why_in n w) i h ∙ omega arith)
      (λ i h. let s = small (32 + 2 * i) in let e = get_d_why_in n w i h in holding_high n b w m (list_in n w) (why_in n w) i h ∙ omega arith)
      (holding_other n b w m (list_in n w) (why_in n w))

  -- What was held before does not matter.
  pub holding_again : (l R l' R' : List ℕ) → holding n (holding n w l R) l' R' ≡ holding n w l' R'
  holding_again l R l' R' =
      let H = holding n w l R in
      let e = length-holding n w l R in
      let k : 96 ≤ length H = omega arith in
      same_words n b (holding n H l' R') (holding n w l' R') (length-holding n H l' R' ∙ e ∙ sym (length-holding n w l' R'))
      (λ j h. holding-domain n b H k l' R' j h ∙ sym (holding-domain n b w m l' R' j h))
      (λ j h. holding-low n b H k l' R' j h ∙ sym (holding-low n b w m l' R' j h))
      (λ j h. holding_high n b H k l' R' j h ∙ sym (holding_high n b w m l' R' j h))
      (λ j h o. let q = length-holding n w l' R' in
      holding_other n b H k l' R' j (omega arith) o ∙ holding_other n b w m l R j (omega arith) o ∙ sym (holding_other n b w m l' R' j (omega arith) o))

  -- A store to a domain, and to a reason.
  pub set-domain : (l R : List ℕ) → length l ≡ n → (j v : ℕ) → j < n → set (holding n w l R) j v ≡ holding n w (set l j v) R
  set-domain l R e j v h =
      let H = holding n w l R in
      let f = length-holding n w l R in
      let g = length-holding n w (set l j v) R in
      same_words n b (set H j v) (holding n w (set l j v) R) (length-set H j v ∙ f ∙ sym g)
      (λ k q. by_eq k j
      (λ z. rw (z, get_or-set_same H j v 0 (omega arith), holding-domain n b w m (set l j v) R j h, get_or-set_same l j v 0 (omega arith)))
      (λ z. rw (get_or-set_other H j k v 0 z, holding-domain n b w m (set l j v) R k q, get_or-set_other l j k v 0 z) (holding-domain n b w m l R k q)))
      (λ i q. get_or-set_other H j (32 + 2 * i) v 0 (omega arith) ∙ holding-low n b w m l R i q ∙ sym (holding-low n b w m (set l j v) R i q))
      (λ i q. get_or-set_other H j (33 + 2 * i) v 0 (omega arith) ∙ holding_high n b w m l R i q ∙ sym (holding_high n b w m (set l j v) R i q))
      (λ k q o. let p = o.0 in
      get_or-set_other H j k v 0 (omega arith) ∙ holding_other n b w m l R k (omega arith) o ∙ sym (holding_other n b w m (set l j v) R k (omega arith) o))

  pub set_reason : (l R : List ℕ) → length R ≡ n → (j r : ℕ) → j < n → put_reason (holding n w l R) j r ≡ holding n w l (set R j r)
  unfolding put_reason
  set_reason l R e j r h =
      let H = holding n w l R in
      let f = length-holding n w l R in
      let g = length-holding n w l (set R j r) in
      let G = set H (32 + 2 * j) (r % 65536) in
      let p = length-set H (32 + 2 * j) (r % 65536) in
      let apart : (k : ℕ) → ¬ (k ≡ 32 + 2 * j) → ¬ (k ≡ 33 + 2 * j) → get_or (set G (33 + 2 * j) (r / 65536)) k 0 ≡ get_or H k 0 =
      λ k y z. get_or-set_other G (33 + 2 * j) k (r / 65536) 0 z ∙ get_or-set_other H (32 + 2 * j) k (r % 65536) 0 y in
      same_words n b (set G (33 + 2 * j) (r / 65536)) (holding n w l (set R j r)) (length-set G (33 + 2 * j) (r / 65536) ∙ p ∙ f ∙ sym g)
      (λ k q. apart k (omega arith) (omega arith) ∙ holding-domain n b w m l R k q ∙ sym (holding-domain n b w m l (set R j r) k q))
      (λ i q. by_eq i j
      (λ z. rw (
        z,
        get_or-set_other G (33 + 2 * j) (32 + 2 * j) (r / 65536) 0 (omega arith),
        get_or-set_same H (32 + 2 * j) (r % 65536) 0 (omega arith),
        holding-low n b w m l (set R j r) j h,
        get_or-set_same R j r 0 (omega arith),
      ))
      (λ z. apart (32 + 2 * i) (omega arith) (omega arith) ∙ holding-low n b w m l R i q ∙ sym (holding-low n b w m l (set R j r) i q ∙ ap (λ x. x % 65536) (get_or-set_other R j i r 0 z))))
      (λ i q. by_eq i j
      (λ z. rw (z, get_or-set_same G (33 + 2 * j) (r / 65536) 0 (omega arith), holding_high n b w m l (set R j r) j h, get_or-set_same R j r 0 (omega arith)))
      (λ z. apart (33 + 2 * i) (omega arith) (omega arith) ∙ holding_high n b w m l R i q ∙ sym (holding_high n b w m l (set R j r) i q ∙ ap (λ x. x / 65536) (get_or-set_other R j i r 0 z))))
      (λ k q o. other k (omega arith) o ∙ holding_other n b w m l R k (omega arith) o ∙ sym (holding_other n b w m l (set R j r) k (omega arith) o))
    where
      other : (k : ℕ) → k < length w → Other n k → get_or (set (set (holding n w l R) (32 + 2 * j) (r % 65536)) (33 + 2 * j) (r / 65536)) k 0 ≡ get_or (holding n w l R) k 0
      other k q o =
          let a : ¬ (k ≡ 32 + 2 * j) = ⊎_elim (λ x. omega arith) (λ x. omega arith) o.1 in
          let c : ¬ (k ≡ 33 + 2 * j) = ⊎_elim (λ x. omega arith) (λ x. omega arith) o.1 in
          get_or-set_other (set (holding n w l R) (32 + 2 * j) (r % 65536)) (33 + 2 * j) k (r / 65536) 0 c ∙ get_or-set_other (holding n w l R) (32 + 2 * j) k (r % 65536) 0 a
