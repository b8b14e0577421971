-- Two variables have the same label exactly if a chain of constraints joins them; the label is a variable, and no variable joined with it
-- by a chain is smaller.
use mathlib.Core.Path.{◌≡◌, refl, sym, ap, ◌∙◌}
use mathlib.Core.Bool.{Bool, true, false, cond}
use mathlib.Core.List.{List}
use Prim.Native.Nat.{ℕ, zero, suc, ◌≤◌, ◌<◌, min, max}
use native.Mathlib.Omega.{arith}
use lib.Dec.{T}
use lib.ListN.{get_or, length}
use Rattle.std.proofs.lemmas.List.{length-map, get_or-map}
use borrow.Author.Tests.{eq-eqb, ne_eqb}
use Rattle.mask.proofs.Logic.{holds, true_holds, by_eq, by_lt}
use Rattle.game.specs.Problem.{Problem}
use Rattle.game.specs.Lists.{list_of}
use Rattle.theory.proofs.Lists.{length-list_of, get_d_list_of}
use Rattle.problem_numbers.specs.Numbers.{tied}
use Rattle.problem_numbers.proofs.TieLaws.{tied_back}
use Rattle.group.specs.Groups.{Chain, here, link, relabelled, merge, merged_with, merged, labels, smallest}

-- ---- one label

-- A label that is the larger becomes the smaller, any other stays.
pub relabelled_high : (low high v : ℕ) → v ≡ high → relabelled low high v ≡ low
unfolding relabelled
relabelled_high low high v e = rw (eq-eqb v high e)

pub relabelled_else : (low high v : ℕ) → ¬ (v ≡ high) → relabelled low high v ≡ v
unfolding relabelled
relabelled_else low high v e = rw (ne_eqb v high e)

-- So it is no more than it was; one of the two is the smaller afterwards, and the two are one.
relabelled_most : (low high v : ℕ) → low ≤ high → relabelled low high v ≤ v
relabelled_most low high v h = by_eq v high (λ e. omega (arith, relabelled_high low high v e)) (λ e. omega (arith, relabelled_else low high v e))

relabelled_low : (low high v : ℕ) → (¬ (v ≡ high) → v ≡ low) → relabelled low high v ≡ low
relabelled_low low high v f = by_eq v high (relabelled_high low high v) (λ e. relabelled_else low high v e ∙ f e)

relabelled_joins : (a b : ℕ) → relabelled (min a b) (max a b) a ≡ relabelled (min a b) (max a b) b
relabelled_joins a b = relabelled_low (min a b) (max a b) a (λ e. omega arith) ∙ sym (relabelled_low (min a b) (max a b) b (λ e. omega arith))

-- Labels as a function of the variable, after x and y were found to hang together.
abbrev merged_label : (ℕ → ℕ) → ℕ → ℕ → ℕ → ℕ
merged_label f x y i = relabelled (min (f x) (f y)) (max (f x) (f y)) (f i)

-- ---- lists of labels

-- Each label of a list that was merged, and how many there are.
pub merge_at : (l : List ℕ) (x y i : ℕ) → i < length l → get_or (merge l x y) i 0 ≡ merged_label (λ j. get_or l j 0) x y i
unfolding merge
merge_at l x y i h = get_or-map _ l i 0 0 h

pub length-merge : (l : List ℕ) (x y : ℕ) → length (merge l x y) ≡ length l
unfolding merge
length-merge l x y = length-map l _

-- Labels once the same stay the same.
merge_kept : (l : List ℕ) (x y i j : ℕ) → i < length l → j < length l → get_or l i 0 ≡ get_or l j 0 → get_or (merge l x y) i 0 ≡ get_or (merge l x y) j 0
merge_kept l x y i j hi hj e = merge_at l x y i hi ∙ ap (relabelled _ _) e ∙ sym (merge_at l x y j hj)

merge_joins : (l : List ℕ) (x y : ℕ) → x < length l → y < length l → get_or (merge l x y) x 0 ≡ get_or (merge l x y) y 0
merge_joins l x y hx hy = merge_at l x y x hx ∙ relabelled_joins (get_or l x 0) (get_or l y 0) ∙ sym (merge_at l x y y hy)

-- What holds of both lists holds of the one that a test takes.
either : (F : List ℕ → Type 0) (b : Bool) (u v : List ℕ) → (b ≡ true → F u) → (b ≡ false → F v) → F (cond b u v)
either F true u v f g = f refl
either F false u v f g = g refl

module _ (tie : ℕ → ℕ → Bool) where
  length-merged_with : (l : List ℕ) (y k : ℕ) → length (merged_with tie l y k) ≡ length l
  unfolding merged_with
  length-merged_with l y zero = refl
  length-merged_with l y (suc x) =
      let ih = length-merged_with l y x in
      either (λ u. length u ≡ length l) (tie x y) (merge (merged_with tie l y x) x y) (merged_with tie l y x) (λ e. length-merge (merged_with tie l y x) x y ∙ ih) (λ e. ih)

  length-merged : (l : List ℕ) (k : ℕ) → length (merged tie l k) ≡ length l
  unfolding merged
  length-merged l zero = refl
  length-merged l (suc y) = length-merged_with (merged tie l y) y y ∙ length-merged l y

  -- Labels once the same stay the same, and those of a constraint are.
  merged_with-kept : (l : List ℕ) (y k i j : ℕ) → i < length l → j < length l → get_or l i 0 ≡ get_or l j 0 → get_or (merged_with tie l y k) i 0 ≡ get_or (merged_with tie l y k) j 0
  unfolding merged_with
  merged_with-kept l y zero i j hi hj e = e
  merged_with-kept l y (suc x) i j hi hj e =
      let ih = merged_with-kept l y x i j hi hj e in
      let z = length-merged_with l y x in
      either (λ u. get_or u i 0 ≡ get_or u j 0) (tie x y) (merge (merged_with tie l y x) x y) (merged_with tie l y x)
      (λ _. merge_kept (merged_with tie l y x) x y i j (omega arith) (omega arith) ih) (λ _. ih)

  merged_with-tied : (l : List ℕ) (y k x : ℕ) → y < length l → k ≤ y → x < k → T (tie x y) → get_or (merged_with tie l y k) x 0 ≡ get_or (merged_with tie l y k) y 0
  unfolding merged_with
  merged_with-tied l y zero x h g a t = absurd (omega arith)
  merged_with-tied l y (suc k) x h g a t =
      let z = length-merged_with l y k in
      by_eq x k
      (λ e. let t' : tie k y ≡ true = holds (rw e at t) in rw (e, t') (merge_joins (merged_with tie l y k) k y (omega arith) (omega arith)))
      λ e. let ih = merged_with-tied l y k x h (omega arith) (omega arith) t in
      either (λ u. get_or u x 0 ≡ get_or u y 0) (tie k y) (merge (merged_with tie l y k) k y) (merged_with tie l y k)
      (λ _. merge_kept (merged_with tie l y k) k y x y (omega arith) (omega arith) ih) (λ _. ih)

  merged_tied : (l : List ℕ) (k x y : ℕ) → k ≤ length l → x < y → y < k → T (tie x y) → get_or (merged tie l k) x 0 ≡ get_or (merged tie l k) y 0
  unfolding merged
  merged_tied l zero x y g h m t = absurd (omega arith)
  merged_tied l (suc k) x y g h m t =
      let z = length-merged l k in
      by_eq y k (λ e. let t' : T (tie x k) = rw e at t in rw e (merged_with-tied (merged tie l k) k k x (omega arith) (omega arith) (omega arith) t'))
      (λ e. merged_with-kept (merged tie l k) k k x y (omega arith) (omega arith) (merged_tied l k x y (omega arith) h (omega arith) t))

module _ (P : Problem) where
  open P use {n}

  -- Chains one behind another, and turned.
  chain_on : {i j k : ℕ} → Chain P i j → Chain P j k → Chain P i k
  chain_on here d = d
  chain_on (link l m t c) d = link l m t (chain_on c d)

  chain_back : {i j : ℕ} → Chain P i j → Chain P j i
  chain_back here = here
  chain_back {i} (link {k = k} l m t c) = chain_on (chain_back c) (link m l (rw (tied_back P k i) t) here)

  -- Labels that say only what chains say, and are the smallest of those that have them.
  record Sound (f : ℕ → ℕ) : Type 0 where
    chains : (i j : ℕ) → i < n → j < n → f i ≡ f j → Chain P i j
    most : (i : ℕ) → i < n → f i ≤ i
    stays : (i : ℕ) → i < n → f (f i) ≡ f i

  module _ (f : ℕ → ℕ) (x y : ℕ) (hx : x < n) (hy : y < n) (s : Sound f) (c : Chain P x y) where
    abbrev low : ℕ
    low = min (f x) (f y)

    abbrev high : ℕ
    high = max (f x) (f y)

    -- i has the larger label, j the smaller.
    cross : (i j : ℕ) → i < n → j < n → f i ≡ high → f j ≡ low → Chain P i j
    cross i j hi hj u w =
        by_lt (f y) (f x)
        (λ h. chain_on (s.chains i x hi hx (omega arith)) (chain_on c (s.chains y j hy hj (omega arith))))
        (λ h. chain_on (s.chains i y hi hy (omega arith)) (chain_on (chain_back c) (s.chains x j hx hj (omega arith))))

    merged_chains : (i j : ℕ) → i < n → j < n → merged_label f x y i ≡ merged_label f x y j → Chain P i j
    merged_chains i j hi hj e =
        by_eq (f i) high
        (λ u. let a = relabelled_high low high (f i) u in
        by_eq (f j) high (λ w. s.chains i j hi hj (omega arith)) (λ w. let b = relabelled_else low high (f j) w in cross i j hi hj u (omega arith)))
        (λ u. let a = relabelled_else low high (f i) u in
        by_eq (f j) high (λ w. let b = relabelled_high low high (f j) w in chain_back (cross j i hj hi w (omega arith)))
        (λ w. let b = relabelled_else low high (f j) w in s.chains i j hi hj (omega arith)))

    -- The smaller label is its own, and stays.
    own : f low ≡ low
    own = by_lt (f y) (f x) (λ h. let e : low ≡ f y = omega arith in rw e (s.stays y hy)) (λ h. let e : low ≡ f x = omega arith in rw e (s.stays x hx))

    merged_stays : (i : ℕ) → i < n → merged_label f x y (merged_label f x y i) ≡ merged_label f x y i
    merged_stays i h =
        by_eq (f i) high
        (λ e. rw (relabelled_high low high (f i) e) (rw own (relabelled_low low high low (λ _. refl))))
        (λ e. rw (relabelled_else low high (f i) e) (rw (s.stays i h) (relabelled_else low high (f i) e)))

    merged_sound : (g : ℕ → ℕ) → ((i : ℕ) → i < n → g i ≡ merged_label f x y i) → Sound g
    merged_sound g e =
        let most : (i : ℕ) → i < n → merged_label f x y i ≤ i = λ i h. omega (arith, relabelled_most low high (f i) (omega arith), s.most i h) in
        record {
          chains = λ i j hi hj d. merged_chains i j hi hj (sym (e i hi) ∙ d ∙ e j hj);
          most = λ i h. rw (e i h) (most i h);
          stays = λ i h. rw (e i h) (e (merged_label f x y i) (let m = most i h in omega arith) ∙ merged_stays i h);
        }

  -- Lists of n labels.
  record Labelled (l : List ℕ) : Type 0 where
    size : length l ≡ n
    sound : Sound (λ i. get_or l i 0)

  merged_with-sound : (l : List ℕ) (y k : ℕ) → y < n → k ≤ y → Labelled l → Labelled (merged_with (tied P) l y k)
  unfolding merged_with
  merged_with-sound l y zero h g s = s
  merged_with-sound l y (suc x) h g s =
      let ih = merged_with-sound l y x h (omega arith) s in
      let z = ih.size in
      either Labelled (tied P x y) (merge (merged_with (tied P) l y x) x y) (merged_with (tied P) l y x)
      (λ e. record {
        size = length-merge (merged_with (tied P) l y x) x y ∙ z;
        sound = merged_sound (λ i. get_or (merged_with (tied P) l y x) i 0) x y (omega arith) h ih.sound (link (omega arith) h (true_holds e) here)
            (λ i. get_or (merge (merged_with (tied P) l y x) x y) i 0) (λ i d. merge_at (merged_with (tied P) l y x) x y i (omega arith));
      })
      (λ e. ih)

  merged_labelled : (l : List ℕ) (k : ℕ) → k ≤ n → Labelled l → Labelled (merged (tied P) l k)
  unfolding merged
  merged_labelled l zero h s = s
  merged_labelled l (suc y) h s = merged_with-sound (merged (tied P) l y) y y h (omega arith) (merged_labelled l y (omega arith) s)

  -- At first each variable has its own label, so all that holds of merged labels holds of these.
  labels_sound : Sound (smallest P)
  unfolding smallest labels
  labels_sound =
      let at : (i : ℕ) → i < n → get_or (list_of n (λ i. i)) i 0 ≡ i = get_d_list_of n (λ i. i) in
      (merged_labelled (list_of n (λ i. i)) n (omega arith) (record {
        size = length-list_of n (λ i. i);
        sound = record {
          chains = λ i j hi hj e. rw (sym (at i hi) ∙ e ∙ at j hj) here;
          most = λ i h. omega (arith, at i h);
          stays = λ i h. rw (at i h) (at i h);
        };
      })).sound

  smallest_tied : (x y : ℕ) → x < y → y < n → T (tied P x y) → smallest P x ≡ smallest P y
  unfolding smallest labels
  smallest_tied x y h l t = let e = length-list_of n (λ i. i) in merged_tied (tied P) (list_of n (λ i. i)) n x y (omega arith) h l t

  -- THE LABELS ARE THOSE OF CHAINS: variables that a chain joins have one, and where two have one a chain joins them.
  pub chain_label : {i j : ℕ} → Chain P i j → smallest P i ≡ smallest P j
  chain_label here = refl
  chain_label {i} (link {k = k} l m t c) =
      by_lt i k (λ h. smallest_tied i k h m t)
      (λ h. by_lt k i (λ g. sym (smallest_tied k i g l (rw (tied_back P k i) t))) (λ g. let e : i ≡ k = omega arith in rw e))
      ∙ chain_label c

  pub label_chain : (i j : ℕ) → i < n → j < n → smallest P i ≡ smallest P j → Chain P i j
  label_chain i j hi hj e = labels_sound.chains i j hi hj e

  -- The label of a variable is no more than it, and its own label.
  pub smallest_most : (i : ℕ) → i < n → smallest P i ≤ i
  smallest_most i h = labels_sound.most i h

  pub smallest_own : (i : ℕ) → i < n → smallest P (smallest P i) ≡ smallest P i
  smallest_own i h = labels_sound.stays i h
