-- What the writer's tests say, what makes them fine, and what writing tells and leaves.
use Prim.Native.Nat.{ℕ, zero, suc, ◌+◌, ◌*◌, ◌/◌, ◌%◌, ◌^◌, ◌≤◌, ◌<◌}
use mathlib.Core.Path.{◌≡◌, refl, sym, ap, ◌∙◌}
use mathlib.Core.Bool.{Bool, true, false, cond, ◌&&◌, not}
use mathlib.Core.List.{List, [], ◌∷◌, ◌++◌}
use mathlib.Core.Logic.{⊎_elim}
use lib.ListN.{length, drop}
use lib.Dec.{eqb}
use native.Mathlib.Omega.{arith}
use native.Mathlib.Nat.{eq-or-lt_of_le, le_of_suc-le-suc}
use borrow.Author.Tests.{leb-true, ltb-true, eqb-true, eqb-false, le-leb, lt-ltb, eq-eqb, ne_eqb, not-true}
use Rattle.std.specs.Prelude.{Result, Err, Option, None, Some}
use Rattle.std.specs.Option.{ok_or}
use Rattle.std.proofs.lemmas.Option.{cond_some}
use Rattle.mask.proofs.Logic.{holds, true_holds}
use Rattle.mask.proofs.Range.{each_in, each_out}
use Rattle.refusal.specs.declared.reason.Reason.{Reason}
use Rattle.refusal.specs.declared.reason.Reason.TheVariants.{Lent}
use Rattle.refusal.specs.Chain.{Fine, need}
use Rattle.refusal.specs.Told.{replied}
use Rattle.refusal.proofs.Chain.{not_fine, then_fine, need_fine, then_ok, need_ok, both_true, both_ok}
use Rattle.refusal.proofs.RepliedLaws.{reply_refused, reply_told, list_refused, list_left}
use Rattle.file_layout.proofs.NumberLaws.{Counts, counts_out, counts_in, Fits, fits_out, fits_in_lem, TernaryFits, ternary_out, ternary_in}
use Rattle.buffer.specs.Stored.{stored}
use Rattle.file_bytes.specs.Bytes.{domain_in, one_in, two_in, row_handed, from, size_in, start_in, count_in, whole_records, Handed, Sized, length_of, bytes_of}
use Rattle.file_writer.specs.Tests.{rules_fit, domains_fit, last_in, constraints_test, last_scope_in, ternaries_test, rest_test, write_test, lists_fit}
use Rattle.file_writer.specs.Writing.{told, write_told, write_buffer}
use Rattle.buffer.proofs.StoredLaws.{stored-start}
use Rattle.file_bytes.proofs.RecordLaws.{length_bytes}
use Rattle.file_bytes.proofs.WalkLaws.{start_first, start_next, told_count}

-- ---- the records' tests

-- Domains that pass are not zero, and such domains pass.
domains_out : (domain : ℕ → ℕ) (n : ℕ) → domains_fit domain n ≡ true → (i : ℕ) → i < n → domain i ≡ 0 → ⊥
unfolding domains_fit
domains_out domain n q i h =
    eqb-false (domain i) 0 (not-true _ (holds (each_out n (λ i. true) (λ i. not (eqb (domain i) 0)) (true_holds q) i h tt)))

domains_in : (domain : ℕ → ℕ) (n : ℕ) → ((i : ℕ) → i < n → domain i ≡ 0 → ⊥) → domains_fit domain n ≡ true
unfolding domains_fit
domains_in domain n v =
    holds (each_in n (λ i. true) (λ i. not (eqb (domain i) 0)) (λ i h t. true_holds (ap not (ne_eqb (domain i) 0 (v i h)))))

-- Lists of the right lengths.
pub lists_out : (n m x y : ℕ) → lists_fit n m x y ≡ true → (x ≡ n) × (y ≡ 18 * m)
unfolding lists_fit
lists_out n m x y q = let a = both_true _ _ q in (eqb-true _ _ a.0, eqb-true _ _ a.1)

-- Constraint t fits behind the one before it.
abbrev pub FitsIn : (ℕ → ℕ) → ℕ → List ℕ → ℕ → Type 0
FitsIn domain n cs t = Fits domain n (last_in cs t) (one_in cs t) (two_in cs t) (row_handed cs t)

-- Constraints that pass fit, and such constraints pass.
constraints_out : (domain : ℕ → ℕ) (n : ℕ) (cs : List ℕ) (k : ℕ) → constraints_test domain n cs k ≡ Fine → (t : ℕ) → t < k → FitsIn domain n cs t
unfolding constraints_test
constraints_out domain n cs zero q t h = absurd (omega arith)
constraints_out domain n cs (suc k) q t h =
    let a = then_fine _ _ q in
    ⊎_elim
    (λ (e : t ≡ k). rw e (fits_out _ _ _ _ _ _ a.1))
    (λ (l : t < k). constraints_out domain n cs k a.0 t l)
    (eq-or-lt_of_le (le_of_suc-le-suc h))

constraints_in_lem : (domain : ℕ → ℕ) (n : ℕ) (cs : List ℕ) (k : ℕ) → ((t : ℕ) → t < k → FitsIn domain n cs t) → constraints_test domain n cs k ≡ Fine
unfolding constraints_test
constraints_in_lem domain n cs zero v = refl
constraints_in_lem domain n cs (suc k) v =
    then_ok _ _ (constraints_in_lem domain n cs k (λ t h. v t (omega arith))) (fits_in_lem _ _ _ _ _ _ (v k (omega arith)))

-- Three-way constraint q fits behind the one before it.
abbrev pub TernaryIn : (ℕ → ℕ) → ℕ → List ℕ → ℕ → Type 0
TernaryIn domain n xs q = TernaryFits domain n (last_scope_in xs q) (from xs (start_in xs q))

at_low : (x : ℕ → ℕ) (a b : ℕ) → a ≡ b → x a < 256 → x b < 256
at_low x a b e h = rw (← e) h

-- Its numbers are bytes.
module _ (domain : ℕ → ℕ) (n last : ℕ) (x : ℕ → ℕ) (t : TernaryFits domain n last x) (few : n ≤ 32) where
  triple_low : (q r : ℕ) → q < x 3 → r < 3 → x (3 * q + 4 + r) < 256
  triple_low q zero h l = at_low x (3 * q + 4) _ (omega arith) (omega (arith, (t.low q h).0))
  triple_low q (suc zero) h l = at_low x (3 * q + 5) _ (omega arith) (omega (arith, (t.low q h).1))
  triple_low q (suc (suc zero)) h l = at_low x (3 * q + 6) _ (omega arith) (omega (arith, (t.low q h).2))
  triple_low q (suc (suc (suc r))) h l = absurd (omega arith)

  pub number_low : (a : ℕ) → a < 4 + 3 * x 3 → x a < 256
  number_low zero h = omega (arith, t.scope.first, t.scope.second, t.scope.below)
  number_low (suc zero) h = omega (arith, t.scope.second, t.scope.below)
  number_low (suc (suc zero)) h = omega (arith, t.scope.below)
  number_low (suc (suc (suc zero))) h = omega (arith, t.most)
  number_low (suc (suc (suc (suc a)))) h =
      at_low x (3 * (a / 3) + 4 + a % 3) _ (omega arith) (triple_low (a / 3) (a % 3) (omega arith) (omega arith))

-- Three-way constraints that pass fit, and with the variables they are no more than 32; and such constraints pass.
ternaries_out : (domain : ℕ → ℕ) (n : ℕ) (xs : List ℕ) (k : ℕ) → ternaries_test domain n xs k ≡ Fine → (q : ℕ) → q < k → TernaryIn domain n xs q
unfolding ternaries_test
ternaries_out domain n xs zero e q h = absurd (omega arith)
ternaries_out domain n xs (suc k) e q h =
    let a = then_fine _ _ e in
    let b = then_fine _ _ a.1 in
    ⊎_elim
    (λ (z : q ≡ k). rw z (ternary_out _ _ _ _ (need_fine _ _ b.1)))
    (λ (l : q < k). ternaries_out domain n xs k a.0 q l)
    (eq-or-lt_of_le (le_of_suc-le-suc h))

few_out : (domain : ℕ → ℕ) (n : ℕ) (xs : List ℕ) (k : ℕ) → n ≤ 32 → ternaries_test domain n xs k ≡ Fine → n + k ≤ 32
unfolding ternaries_test
few_out domain n xs zero m e = omega arith
few_out domain n xs (suc k) m e = omega (arith, leb-true _ _ (need_fine _ _ (then_fine _ _ (then_fine _ _ e).1).0))

ternaries_in_lem : (domain : ℕ → ℕ) (n : ℕ) (xs : List ℕ) (k : ℕ) → n + k ≤ 32 → ((q : ℕ) → q < k → TernaryIn domain n xs q) →
    ternaries_test domain n xs k ≡ Fine
unfolding ternaries_test
ternaries_in_lem domain n xs zero m v = refl
ternaries_in_lem domain n xs (suc k) m v =
    then_ok _ _ (ternaries_in_lem domain n xs k (omega arith) (λ q h. v q (omega arith)))
    (then_ok _ _ (need_ok _ _ (le-leb (n + k + 1) 32 (omega arith))) (need_ok _ _ (ternary_in _ _ _ _ (v k (omega arith)))))

-- They have at most 52 numbers each, so a list of whole ones has at most 1,664.
start_most : (domain : ℕ → ℕ) (n : ℕ) (xs : List ℕ) (k : ℕ) → ((q : ℕ) → q < k → TernaryIn domain n xs q) → start_in xs k ≤ 52 * k
unfolding size_in
start_most domain n xs zero v = omega (arith, start_first xs)
start_most domain n xs (suc k) v =
    omega (arith, start_next xs k, (v k (omega arith)).most, start_most domain n xs k (λ q h. v q (omega arith)))

numbers_most : (domain : ℕ → ℕ) (n : ℕ) (xs : List ℕ) → start_in xs (count_in xs) ≡ length xs → n + count_in xs ≤ 32 →
    ((q : ℕ) → q < count_in xs → TernaryIn domain n xs q) → length xs ≤ 1664
numbers_most domain n xs w f v = omega (arith, start_most domain n xs (count_in xs) v)

pub ternaries_most : (domain : ℕ → ℕ) (n : ℕ) (xs : List ℕ) → n ≤ 32 → whole_records xs ≡ true → ternaries_test domain n xs (count_in xs) ≡ Fine →
    (length xs ≤ 1664) × (count_in xs ≤ 32)
unfolding whole_records
ternaries_most domain n xs m w e =
    let f = few_out domain n xs (count_in xs) m e in
    omega (arith, numbers_most domain n xs (eqb-true _ _ w) f (ternaries_out domain n xs (count_in xs) e))

-- Test 13 is made in two parts: of the lengths of two lists, and of the third list, whose records are counted.
pub lent_first : (b w : Bool) (e : Reason) → need b Lent ≡ Err e → need (b && w) Lent ≡ Err e
unfolding need
lent_first true w e q = not_fine e (sym q)
lent_first false w e q = q

pub lent_last : (b : Bool) (xs : List ℕ) (o : Option ℕ) (e : Reason) → b ≡ true → o ≡ told_count xs → ok_or o Lent ≡ Err e →
    need (b && whole_records xs) Lent ≡ Err e
unfolding need whole_records
lent_last b xs o e h c q = rw h (go (whole_records xs) (ap (λ (o : Option ℕ). ok_or o Lent) (sym c) ∙ q))
  where
    go : (w : Bool) → ok_or (cond w (Some (count_in xs)) None) Lent ≡ Err e → need w Lent ≡ Err e
    go true z = absurd (cc)
    go false z = let i : Lent ≡ e = cc in ap Err i

pub lent_fine : (xs : List ℕ) (t : ℕ) → told_count xs ≡ Some t → (whole_records xs ≡ true) × (t ≡ count_in xs)
unfolding whole_records
lent_fine xs t q = let a = cond_some _ _ _ q in (a.0, sym a.1)

-- ---- all tests

-- What holds of numbers that the writer takes.
pub record Writable (h : Handed) (room : ℕ) : Type 0 where
  pub counts : Counts h.n h.m
  pub domains_long : length h.domains ≡ h.n
  pub constraints_long : length h.constraints ≡ 18 * h.m
  pub rules-low : rules_fit h.rules ≡ true
  pub bits : h.universal < 2 ^ h.n
  pub some : (i : ℕ) → i < h.n → domain_in h.domains i ≡ 0 → ⊥
  pub fits : (t : ℕ) → t < h.m → FitsIn (domain_in h.domains) h.n h.constraints t
  pub whole : start_in h.ternaries (count_in h.ternaries) ≡ length h.ternaries
  pub few : h.n + count_in h.ternaries ≤ 32
  pub triples : (q : ℕ) → q < count_in h.ternaries → TernaryIn (domain_in h.domains) h.n h.ternaries q
  pub wide : length_of h ≤ room

-- Lists of these lengths.
pub sized : {h : Handed} {room : ℕ} → Writable h room → Sized h
sized w = record { masks = omega (arith, w.domains_long); rows = omega (arith, w.constraints_long); whole = w.whole }

-- The list of three-way constraints is short, and its numbers are bytes.
pub length_most : {h : Handed} {room : ℕ} → Writable h room → length h.ternaries ≤ 1664
length_most {h} w = numbers_most (domain_in h.domains) h.n h.ternaries w.whole w.few w.triples

pub numbers_low : {h : Handed} {room : ℕ} → Writable h room
    → (q a : ℕ) → q < count_in h.ternaries → a < size_in h.ternaries (start_in h.ternaries q) → from h.ternaries (start_in h.ternaries q) a < 256
unfolding size_in
numbers_low {h} w q a l k = number_low (domain_in h.domains) h.n _ _ (w.triples q l) w.counts.most a k

module _ (h : Handed) (room : ℕ) where
  -- Numbers that pass all tests, and back.
  pub writable : write_test h room ≡ Fine → Writable h room
  unfolding write_test rest_test lists_fit whole_records
  writable q =
      let a = then_fine _ _ q in
      let b = then_fine _ _ a.1 in
      let s = both_true _ _ (need_fine _ _ b.0) in
      let l = lists_out _ _ _ _ s.0 in
      let r = then_fine _ _ b.1 in
      let u = then_fine _ _ r.1 in
      let d = then_fine _ _ u.1 in
      let c = then_fine _ _ d.1 in
      let t = then_fine _ _ c.1 in
      let k = counts_out _ _ (need_fine _ _ a.0) in
      record {
        counts = k;
        domains_long = l.0;
        constraints_long = l.1;
        rules-low = need_fine _ _ r.0;
        bits = ltb-true _ _ (need_fine _ _ u.0);
        some = domains_out _ _ (need_fine _ _ d.0);
        fits = constraints_out _ _ _ _ c.0;
        whole = eqb-true _ _ s.1;
        few = few_out _ _ _ _ k.most t.0;
        triples = ternaries_out _ _ _ _ t.0;
        wide = leb-true _ _ (need_fine _ _ t.1);
      }

  pub write_fine : Writable h room → write_test h room ≡ Fine
  unfolding write_test rest_test lists_fit whole_records
  write_fine w =
      then_ok _ _ (need_ok _ _ (counts_in _ _ w.counts))
      (then_ok _ _ (need_ok _ _ (both_ok _ _ (both_ok _ _ (eq-eqb _ _ w.domains_long) (eq-eqb _ _ w.constraints_long)) (eq-eqb _ _ w.whole)))
      (then_ok _ _ (need_ok _ _ w.rules-low)
      (then_ok _ _ (need_ok _ _ (lt-ltb _ _ w.bits))
      (then_ok _ _ (need_ok _ _ (domains_in _ _ w.some))
      (then_ok _ _ (constraints_in_lem _ _ _ _ w.fits)
      (then_ok _ _ (ternaries_in_lem _ _ _ _ w.few w.triples) (need_ok _ _ (le-leb _ _ w.wide))))))))

-- Numbers that fit are written, and the reply is the length. The bytes are stored at the front of the buffer: they stand there, and
-- every byte behind them is as it was.
module _ (h : Handed) (old : List ℕ) (q : write_test h (length old) ≡ Fine) where
  pub told_fine : write_told h (length old) ≡ replied (length (bytes_of h) ∷ [])
  unfolding write_told
  told_fine = sym (reply_told (write_test h (length old)) _ refl q refl)

  pub told_length : (k : ℕ) → k ≡ length_of h → replied (k ∷ []) ≡ write_told h (length old)
  told_length k e = ap (λ (j : ℕ). replied (j ∷ [])) (e ∙ sym (length_bytes h (sized (writable h (length old) q)))) ∙ sym told_fine

  pub buffer_stored : write_buffer h old ≡ stored old 0 (bytes_of h)
  unfolding write_buffer
  buffer_stored = sym (list_left (write_test h (length old)) _ old refl q refl)

  pub buffer_fine : write_buffer h old ≡ bytes_of h ++ drop (length (bytes_of h)) old
  buffer_fine =
      let w = writable h (length old) q in
      buffer_stored ∙ stored-start (bytes_of h) old (omega (arith, length_bytes h (sized w), w.wide))

-- Refused, it tells the number alone and leaves the buffer as it was.
module _ (h : Handed) (old : List ℕ) {e : Reason} (q : Err e ≡ write_test h (length old)) where
  pub told_refused : {r : Result ℕ Reason} → r ≡ Err e → told r ≡ write_told h (length old)
  unfolding write_told
  told_refused i = ap told i ∙ reply_refused _ _ q refl

  pub buffer_refused : old ≡ write_buffer h old
  unfolding write_buffer
  buffer_refused = list_refused _ _ old q refl
