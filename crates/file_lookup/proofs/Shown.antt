-- What the look-up shows of an accepted file is the numbers of each of its constraints, in the order of the file.
use Prim.Native.Nat.{ℕ, zero, suc, ◌+◌, ◌*◌, ◌/◌, ◌%◌, ◌≤◌, ◌<◌}
use mathlib.Core.Path.{◌≡◌, refl, sym, ap, ◌∙◌}
use mathlib.Core.Bool.{Bool, true, false}
use mathlib.Core.List.{List, [], ◌∷◌, ◌++◌, append-nil}
use mathlib.Core.Logic.{⊎_elim}
use lib.ListN.{length, get_or, length-append, get_or-append}
use lib.Seq.{get_or-append-add}
use native.Mathlib.Omega.{arith}
use native.Mathlib.Nat.{eq-or-lt_of_le, le_of_suc-le-suc}
use lib.Dec.{ltb}
use borrow.Author.Tests.{ltb-true, ltb-false}
use Rattle.refusal.specs.Chain.{Fine}
use Rattle.refusal.specs.Told.{Told, replied, refused, refused_at}
use Rattle.file_layout.specs.Layout.{word, m_of, one_at, two_at, row_at, pair_at, constraints_at}
use Rattle.file_layout.specs.Numbers.{pair_of}
use Rattle.file_records.specs.Records.{verdict_of}
use Rattle.file_reader.proofs.Accepted.{accepted}
use Rattle.file_lookup.specs.Lookup.{look_up, rows_at, words_to, showing, shown_to, constraints_shown, rows_to, numbers_at, numbers_to}
use Rattle.file_lookup.proofs.PartLaws.{part_byte}
use Rattle.file_lookup.proofs.Lookup.{look_at, look_finds, ascend}

-- ---- the numbers of the constraints, one by one

-- The entry behind a list.
last : (xs : List ℕ) (y n : ℕ) → n ≡ length xs → get_or (xs ++ (y ∷ [])) n 0 ≡ y
last xs y n e = let z : n ≡ length xs + 0 = omega arith in rw (z, get_or-append-add)

length_rows : (f : List ℕ) (p k : ℕ) → length (rows_to f p k) ≡ k
unfolding rows_to
length_rows f p zero = refl
length_rows f p (suc k) = simp length-append (omega (arith, length_rows f p k))

row_at_lem : (f : List ℕ) (p k a : ℕ) → a < k → get_or (rows_to f p k) a 0 ≡ row_at f p a
unfolding rows_to
row_at_lem f p zero a h = absurd (omega arith)
row_at_lem f p (suc k) a h =
    ⊎_elim
    (λ (e : a ≡ k). rw e (last (rows_to f p k) (row_at f p k) k (sym (length_rows f p k))))
    (λ (l : a < k). get_or-append (rows_to f p k) _ 0 a (omega (arith, length_rows f p k)) ∙ row_at_lem f p k a l)
    (eq-or-lt_of_le (le_of_suc-le-suc h))

length_numbers_at : (f : List ℕ) (p : ℕ) → length (numbers_at f p) ≡ 18
unfolding numbers_at
length_numbers_at f p = ap (λ n. suc (suc n)) (length_rows f p 16)

pub length_numbers : (f : List ℕ) (k : ℕ) → length (numbers_to f k) ≡ 18 * k
unfolding numbers_to
length_numbers f zero = refl
length_numbers f (suc k) =
    length-append (numbers_to f k) _ ∙ omega (arith, length_numbers f k, length_numbers_at f (constraints_at f + 36 * k))

number_at_lem : (f : List ℕ) (k t r : ℕ) → t < k → r < 18 →
    get_or (numbers_to f k) (18 * t + r) 0 ≡ get_or (numbers_at f (constraints_at f + 36 * t)) r 0
unfolding numbers_to
number_at_lem f zero t r h l = absurd (omega arith)
number_at_lem f (suc k) t r h l =
    ⊎_elim
    (λ (e : t ≡ k).
    let z : 18 * t + r ≡ length (numbers_to f k) + r = omega (arith, length_numbers f k) in
    rw (z, e) (get_or-append-add (numbers_to f k) _ r 0))
    (λ (g : t < k).
    get_or-append (numbers_to f k) _ 0 (18 * t + r) (omega (arith, length_numbers f k)) ∙ number_at_lem f k t r g l)
    (eq-or-lt_of_le (le_of_suc-le-suc h))

-- Constraint t of the first k: i, j and row a.
module _ (f : List ℕ) (k t : ℕ) (h : t < k) where
  pub number-one : get_or (numbers_to f k) (18 * t) 0 ≡ one_at f (constraints_at f + 36 * t)
  unfolding numbers_at
  number-one =
      let z : 18 * t ≡ 18 * t + 0 = omega arith in
      ap (λ n. get_or (numbers_to f k) n 0) z ∙ number_at_lem f k t 0 h (omega arith)

  pub number-two : get_or (numbers_to f k) (18 * t + 1) 0 ≡ two_at f (constraints_at f + 36 * t)
  unfolding numbers_at
  number-two = number_at_lem f k t 1 h (omega arith)

  pub number-row : (a : ℕ) → a < 16 → get_or (numbers_to f k) (18 * t + 2 + a) 0 ≡ row_at f (constraints_at f + 36 * t) a
  unfolding numbers_at
  number-row a l =
      let z : 18 * t + 2 + a ≡ 18 * t + suc (suc a) = omega arith in
      ap (λ n. get_or (numbers_to f k) n 0) z ∙ number_at_lem f k t (suc (suc a)) h (omega arith) ∙ row_at_lem f (constraints_at f + 36 * t) 16 a l

-- ---- what one look-up shows

-- A word of the rows that are shown.
pub word-shown : (f : List ℕ) (p a : ℕ) → p + 32 ≤ length f → a < 16 → word (rows_at f p) (2 * a) ≡ word f (p + 2 * a)
unfolding word rows_at
word-shown f p a h l =
    let z : p + (2 * a + 1) ≡ p + 2 * a + 1 = omega arith in
    rw (part_byte f p 32 (2 * a) h (omega arith), part_byte f p 32 (2 * a + 1) h (omega arith), z) refl

rows_shown : (f : List ℕ) (p k : ℕ) → p + 36 ≤ length f → k ≤ 16 → words_to (rows_at f (p + 4)) k ≡ rows_to f p k
unfolding words_to rows_to row_at
rows_shown f p zero h l = refl
rows_shown f p (suc k) h l =
    rw (rows_shown f p k h (omega arith), word-shown f (p + 4) k (omega arith) (omega arith))

shows_rows : (r : Told) (f : List ℕ) (i j p : ℕ) → r ≡ replied (p ∷ []) → showing r f i j ≡ i ∷ j ∷ words_to (rows_at f p) 16
unfolding showing
shows_rows r f i j p q = rw q

shows_none : (r : Told) (f : List ℕ) (i j : ℕ) → ((p : ℕ) → r ≡ replied (p ∷ []) → ⊥) → showing r f i j ≡ []
unfolding showing
shows_none (replied []) f i j h = refl
shows_none (replied (p ∷ [])) f i j h = absurd (h p refl)
shows_none (replied (p ∷ q ∷ ps)) f i j h = refl
shows_none (refused e) f i j h = refl
shows_none (refused_at e p) f i j h = refl

-- ---- what all look-ups show

-- The first k constraints have a pair number below c, the next one has not, and the pairs below c show just those k.
record Reached (f : List ℕ) (c : ℕ) : Type 0 where
  k : ℕ
  most : k ≤ m_of f
  before : (t : ℕ) → t < k → pair_at f (constraints_at f + 36 * t) < c
  behind : k < m_of f → c ≤ pair_at f (constraints_at f + 36 * k)
  shown : shown_to f c ≡ numbers_to f k

module _ (f : List ℕ) (fine : verdict_of f ≡ Fine) where
  -- The pair number of the constraint t, of two numbers below 32.
  record Pair (t : ℕ) : Type 0 where
    pair : pair_at f (constraints_at f + 36 * t) ≡ 32 * one_at f (constraints_at f + 36 * t) + two_at f (constraints_at f + 36 * t)
    one : one_at f (constraints_at f + 36 * t) < 32
    two : two_at f (constraints_at f + 36 * t) < 32

  pair_of_lem : (t : ℕ) → t < m_of f → Pair t
  unfolding pair_at pair_of
  pair_of_lem t h =
      let a = accepted f fine in
      let d = (a.constraint t h).fits in
      let n = a.head.counts.most in
      record { pair = refl; one = omega (arith, d.ascends, d.below); two = omega (arith, d.below) }

  -- A constraint's pair shows its numbers.
  shows_numbers : (t c : ℕ) → t < m_of f → c ≡ pair_at f (constraints_at f + 36 * t) →
      showing (look_up f (c / 32) (c % 32)) f (c / 32) (c % 32) ≡ numbers_at f (constraints_at f + 36 * t)
  unfolding numbers_at
  shows_numbers t c h e =
      let p = constraints_at f + 36 * t in
      let d = pair_of_lem t h in
      let x : c / 32 ≡ one_at f p = omega (arith, d.pair, d.one, d.two) in
      let y : c % 32 ≡ two_at f p = omega (arith, d.pair, d.one, d.two) in
      let w : p + 36 ≤ length f = ((accepted f fine).constraint t h).within in
      rw (x, y) (shows_rows _ f _ _ _ (look_finds f fine t h) ∙ ap (λ l. one_at f p ∷ two_at f p ∷ l) (rows_shown f p 16 w (omega arith)))

  -- A pair that no constraint has shows nothing.
  shows_nothing : (c : ℕ) → ((t : ℕ) → t < m_of f → pair_at f (constraints_at f + 36 * t) ≡ c → ⊥) →
      showing (look_up f (c / 32) (c % 32)) f (c / 32) (c % 32) ≡ []
  unfolding pair_of
  shows_nothing c none =
      shows_none _ f _ _
      (λ p q.
      let s = (look_at f _ _ p q).stands in
      none s.t s.less (s.pair ∙ omega arith))

  -- From c to c + 1: at no constraint's pair, and at the next constraint's.
  idle : (c : ℕ) (r : Reached f c) → ((t : ℕ) → t < m_of f → pair_at f (constraints_at f + 36 * t) ≡ c → ⊥) → Reached f (suc c)
  unfolding shown_to
  idle c r none = record {
    k = r.k;
    most = r.most;
    before = λ t h. omega (arith, r.before t h);
    behind = λ h. let n : (pair_at f (constraints_at f + 36 * r.k) ≡ c → ⊥) = none r.k h in omega (arith, r.behind h);
    shown = rw (shows_nothing c none, append-nil) r.shown;
  }

  taken : (c : ℕ) (r : Reached f c) → r.k < m_of f → c ≡ pair_at f (constraints_at f + 36 * r.k) → Reached f (suc c)
  unfolding shown_to numbers_to
  taken c r l e = record {
    k = suc r.k;
    most = l;
    before = λ t h.
        ⊎_elim
        (λ (i : t ≡ r.k). rw (i, ← e) (omega arith))
        (λ (g : t < r.k). omega (arith, r.before t g))
        (eq-or-lt_of_le (le_of_suc-le-suc h));
    behind = λ h. omega (arith, ascend f fine r.k (suc r.k) (omega arith) h);
    shown = rw (shows_numbers r.k c l e, r.shown);
  }

  -- No constraint has the pair c where the next one's is above it.
  passed : (c : ℕ) (r : Reached f c) → r.k < m_of f → c < pair_at f (constraints_at f + 36 * r.k) →
      (t : ℕ) → t < m_of f → pair_at f (constraints_at f + 36 * t) ≡ c → ⊥
  passed c r l g t h e = go (ltb t r.k) refl
    where
      go : (b : Bool) → ltb t r.k ≡ b → ⊥
      go true q = omega (arith, r.before t (ltb-true _ _ q))
      go false q =
          ⊎_elim
          (λ (i : r.k ≡ t). let z = ap (λ x. pair_at f (constraints_at f + 36 * x)) i in omega arith)
          (λ (i : r.k < t). omega (arith, ascend f fine r.k t i h))
          (eq-or-lt_of_le (ltb-false _ _ q))

  step : (c : ℕ) → Reached f c → Reached f (suc c)
  step c r =
      ⊎_elim
      (λ (i : r.k ≡ m_of f). idle c r (λ t h e. omega (arith, r.before t (omega arith))))
      (λ (l : r.k < m_of f).
      ⊎_elim
      (λ (e : c ≡ pair_at f (constraints_at f + 36 * r.k)). taken c r l e)
      (λ (g : c < pair_at f (constraints_at f + 36 * r.k)). idle c r (passed c r l g))
      (eq-or-lt_of_le (r.behind l)))
      (eq-or-lt_of_le r.most)

  reach : (c : ℕ) → Reached f c
  unfolding shown_to numbers_to
  reach zero = record {
    k = 0;
    most = omega arith;
    before = λ t h. absurd (omega arith);
    behind = λ h. omega arith;
    shown = refl;
  }
  reach (suc c) = step c (reach c)

  -- Of an accepted file the look-up shows all constraints, in order, and nothing else.
  pub shown_all : constraints_shown f ≡ numbers_to f (m_of f)
  unfolding constraints_shown
  shown_all =
      let r = reach 1024 in
      ⊎_elim
      (λ (i : r.k ≡ m_of f). r.shown ∙ ap (numbers_to f) i)
      (λ (l : r.k < m_of f). let d = pair_of_lem r.k l in absurd (omega (arith, r.behind l, d.pair, d.one, d.two)))
      (eq-or-lt_of_le r.most)
