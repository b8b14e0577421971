-- The two round trips, over the definitions that the contracts of reading, look-up and writing equate to; which lists of bytes are accepted.
use Prim.Native.Nat.{ℕ, zero, suc, ◌+◌, ◌-◌, ◌*◌, ◌/◌, ◌%◌, ◌≤◌, ◌<◌}
use mathlib.Core.Path.{◌≡◌, refl, sym, ap, ◌∙◌}
use mathlib.Core.Bool.{Bool, true, false, cond}
use mathlib.Core.List.{List, [], ◌∷◌, ◌++◌}
use mathlib.Core.Logic.{◌↔◌}
use lib.ListN.{length, get_or, take, drop, replicate, length-take, length-append, length-replicate, get_or-append}
use lib.Seq.{ext_get_or, get_or-take, get_or-append-add, get_or-set_other, take_at}
use native.Mathlib.Nat.{le_refl}
use native.Mathlib.Omega.{arith}
use Rattle.mask.proofs.Logic.{by_eq, by_lt}
use Rattle.mask.proofs.Bits.{bit_ext}
use Rattle.mask.proofs.Masks.{mask_of_lt, bit-mask_of}
use Rattle.std.specs.Prelude.{Ok, Err, None, Some}
use Rattle.refusal.specs.Chain.{Test, Fine}
use Rattle.refusal.specs.Told.{replied}
use Rattle.refusal.specs.Replied.{replied_for}
use Rattle.file_layout.specs.Layout.{byte, n_of, m_of, has_rules, rules_of, variables_at, domain_at, universal_at, one_at, two_at, row_at, pair_at, constraints_at, after_constraints, number_at, body_at, ternary_at, t_of, end_at}
use Rattle.file_layout.proofs.LayoutLaws.{leading_marked}
use Rattle.file_records.specs.Records.{last_pair, scope_at, last_scope, verdict_of}
use Rattle.file_reader.specs.declared.Head.{Head}
use Rattle.file_reader.specs.Reading.{header_numbers, universal_bits, domains_to, head_of, header_for, domains_for, header_of, domains_of}
use Rattle.file_reader.proofs.Accepted.{Accepted, accepted, variables_and_ternaries, header_is, domains_is, header_shows, head_is, length-domains, domains-length, domain_in_lem, read_domain, domain-some, read_universal}
use Rattle.file_lookup.specs.Lookup.{constraints_shown, numbers_to}
use Rattle.file_lookup.proofs.Shown.{length_numbers, number-one, number-two, number-row, shown_all}
use Rattle.file_lookup.specs.Ternary.{ternaries_shown}
use Rattle.file_lookup.proofs.TernaryLaws.{body_shown, length_body, body_number, shown_ternaries}
use Rattle.buffer.specs.Stored.{joined}
use Rattle.buffer.proofs.StoredLaws.{joined_same}
use Rattle.file_bytes.proofs.WalkLaws.{start_first, start_next, stands}
use Rattle.file_bytes.specs.Bytes.{from, size_in, start_in, count_in, ternary_in, Handed, bytes_of, start_of, length_of, domain_in, one_in, two_in, row_handed}
use Rattle.file_writer.specs.Tests.{rules_fit, pair_in, last_in, scope_in, last_scope_in}
use Rattle.file_writer.specs.Writing.{write_told, write_buffer}
use Rattle.file_writer.proofs.Writable.{Writable, writable, write_fine, told_fine, buffer_fine}
use Rattle.file_round_trip.specs.Writes.{Writes}
use Rattle.file_round_trip.specs.Shown.{shown_with, head_in, Shown}
use Rattle.file_lookup.specs.Part.{part}
use Rattle.file_round_trip.proofs.Parts.{part_is, variable_part, constraint_part, ternary_part, bytes_part}
use Rattle.file_round_trip.proofs.Listed.{size_is, number_there, count_is, whole_is, record_of, records_joined}
use Rattle.file_round_trip.proofs.Written.{fits_same, ternary_fits_same, file_fine, file_n, file_m, file_t, file-rules, file-domain, file-universal, file-one, file-two, file-row, file-body, file-number}

-- ---- from a file to its numbers and back

-- The rule set that a file shows is in its range, and says where the variables begin.
start-shown : (f : List ℕ) → start_of (rules_of f) ≡ variables_at f
unfolding start_of rules_of variables_at
start-shown f = go (has_rules f)
  where
    go : (d : Bool) → start_of (cond d (Some (byte f 7)) None) ≡ cond d 8 5
    go true = refl
    go false = refl

pub rules_shown : (f : List ℕ) → Accepted f → rules_fit (rules_of f) ≡ true
unfolding rules_fit rules_of
rules_shown f a = go (has_rules f) refl
  where
    go : (d : Bool) → has_rules f ≡ d → rules_fit (cond d (Some (byte f 7)) None) ≡ true
    go true e = (a.rules e).1
    go false e = refl

module _ (f : List ℕ) (fine : verdict_of f ≡ Fine) where
  -- What is shown of an accepted file, by its places: domain i, and constraint t.
  domain-shown : (i : ℕ) → i < n_of f → domain_in (take (n_of f) (domains_of f)) i ≡ domain_at f (variables_at f) i
  domain-shown i h = get_or-take (n_of f) (domains_of f) i 0 h ∙ read_domain f fine i h

  one-shown : (t : ℕ) → t < m_of f → one_in (constraints_shown f) t ≡ one_at f (constraints_at f + 36 * t)
  one-shown t h = rw (shown_all f fine) (number-one f (m_of f) t h)

  two-shown : (t : ℕ) → t < m_of f → two_in (constraints_shown f) t ≡ two_at f (constraints_at f + 36 * t)
  two-shown t h = rw (shown_all f fine) (number-two f (m_of f) t h)

  row-shown : (t a : ℕ) → t < m_of f → a < 16 → row_handed (constraints_shown f) t a ≡ row_at f (constraints_at f + 36 * t) a
  row-shown t a h l = rw (shown_all f fine) (number-row f (m_of f) t h a l)

  last-shown : (t : ℕ) → t < m_of f → last_pair f (constraints_at f) t ≡ last_in (constraints_shown f) t
  unfolding last_pair last_in pair_at pair_in
  last-shown zero h = refl
  last-shown (suc t) h = sym (rw (one-shown t (omega arith), two-shown t (omega arith)))

  -- The records that the look-up by place shows are those of the file, each of as many numbers, one behind another.
  body_sized : (q : ℕ) → q < t_of f → length (body_shown f q) ≡ 4 + 3 * get_or (body_shown f q) 3 0
  unfolding body_at
  body_sized q h = length_body f fine q h ∙ ap (λ (c : ℕ). 4 + 3 * c) (sym (body_number f fine q 3 h (omega arith)))

  size-shown : (q : ℕ) → q < t_of f → size_in (ternaries_shown f) (start_in (ternaries_shown f) q) ≡ body_at f (ternary_at f (after_constraints f) q)
  size-shown q h = rw (shown_ternaries f fine) (size_is (body_shown f) (t_of f) body_sized q h ∙ length_body f fine q h)

  number-shown : (q x : ℕ) → q < t_of f → x < body_at f (ternary_at f (after_constraints f) q) →
      from (ternaries_shown f) (start_in (ternaries_shown f) q) x ≡ number_at f (ternary_at f (after_constraints f) q) x
  number-shown q x h l =
      rw (shown_ternaries f fine)
      (number_there (body_shown f) (t_of f) body_sized q x h (omega (arith, length_body f fine q h)) ∙ body_number f fine q x h l)

  count-shown : count_in (ternaries_shown f) ≡ t_of f
  count-shown = rw (shown_ternaries f fine) (count_is (body_shown f) (t_of f) body_sized)

  whole-shown : start_in (ternaries_shown f) (count_in (ternaries_shown f)) ≡ length (ternaries_shown f)
  whole-shown = rw (shown_ternaries f fine) (whole_is (body_shown f) (t_of f) body_sized)

  place-shown : (q : ℕ) → q ≤ t_of f → ternary_at f (after_constraints f) q ≡ after_constraints f + (start_in (ternaries_shown f) q + 2 * q)
  unfolding ternary_at
  place-shown zero h = omega (arith, start_first (ternaries_shown f))
  place-shown (suc q) h = omega (arith, place-shown q (omega arith), size-shown q (omega arith), start_next (ternaries_shown f) q)

  last-scope-shown : (q : ℕ) → q < t_of f → last_scope f (after_constraints f) q ≡ last_scope_in (ternaries_shown f) q
  unfolding last_scope last_scope_in scope_at scope_in body_at
  last-scope-shown zero h = refl
  last-scope-shown (suc q) h =
      let l : q < t_of f = omega arith in
      sym (rw (number-shown q 0 l (omega arith), number-shown q 1 l (omega arith), number-shown q 2 l (omega arith)) refl)

  length_shown : Accepted f → length f ≡ length_of (shown_with (head_of f) f)
  unfolding head_of length_of end_at after_constraints constraints_at
  length_shown a =
      let s = ap (start_in (ternaries_shown f)) count-shown in
      omega (arith, a.size, place-shown (t_of f) (le_refl (t_of f)), count-shown, s, whole-shown, start-shown f)

  -- The writer takes it.
  writable_shown : (room : ℕ) → length f ≤ room → Writable (shown_with (head_of f) f) room
  unfolding head_of universal_bits body_at
  writable_shown room h =
      let a = accepted f fine in
      let n : n_of f ≤ 32 = a.head.counts.most in
      let d = domains-length f fine in
      record {
        counts = a.head.counts;
        domains_long = length-take (n_of f) (domains_of f) ∙ omega arith;
        constraints_long = ap length (shown_all f fine) ∙ length_numbers f (m_of f);
        rules-low = rules_shown f a;
        bits = mask_of_lt (n_of f) (universal_at f (variables_at f));
        some = λ i l e. domain-some f fine i l (sym (get_or-take (n_of f) (domains_of f) i 0 l) ∙ e);
        fits = λ t l.
            fits_same (domain_at f (variables_at f)) (domain_in (take (n_of f) (domains_of f))) (n_of f) _ _ _ _ _ _ (row_at f (constraints_at f + 36 * t)) (row_handed (constraints_shown f) t)
            (last-shown t l) (sym (one-shown t l)) (sym (two-shown t l)) (λ k g. sym (domain-shown k g)) (λ r g. sym (row-shown t r l g))
            (a.constraint t l).fits;
        whole = whole-shown;
        few = omega (arith, count-shown, variables_and_ternaries f fine);
        triples = λ q l.
            let h : q < t_of f = rw count-shown at l in
            ternary_fits_same (domain_at f (variables_at f)) (domain_in (take (n_of f) (domains_of f))) (n_of f) _ _ _ _
            (last-scope-shown q h) (λ k g. sym (domain-shown k g)) (λ x g. sym (number-shown q x h g))
            (a.ternary q h).fits;
        wide = omega (arith, h, length_shown a);
      }

  -- Its bytes are the file.
  bytes_shown : ((k : ℕ) → get_or f k 0 < 256) → bytes_of (shown_with (head_of f) f) ≡ f
  unfolding head_of ternary_in t_of
  bytes_shown bytes =
      let a = accepted f fine in
      bytes_part f bytes a _ refl refl refl count-shown
      (λ i h. rw (read_universal f (variables_at f) (n_of f) i h, domain-shown i h) (variable_part f bytes (variables_at f) i (a.variable i h)))
      (λ t h.
      let c = a.constraint t h in
      constraint_part f bytes (constraints_at f + 36 * t) _ _ _ c.within c.mark (one-shown t h) (two-shown t h) (λ r l. row-shown t r h l))
      (λ q h.
      rw (size-shown q h)
      (ternary_part f bytes (ternary_at f (after_constraints f) q) _ (a.ternary q h).within (leading_marked f (after_constraints f) 33 q h)
      (λ x l. number-shown q x h l)))

-- For every accepted file, what the reader and the look-up show, handed to the writer with room enough, gives the very bytes: the
-- writer tells the file's length, the file stands at the front of the buffer, and every byte behind it is as it was.
pub write_back : (f old : List ℕ) (x : Head) → ((k : ℕ) → get_or f k 0 < 256) →
    header_of f ≡ replied (header_numbers x) → length f ≤ length old →
    (write_told (shown_with x f) (length old) ≡ replied (length f ∷ []))
    × (write_buffer (shown_with x f) old ≡ f ++ drop (length f) old)
write_back f old x bytes e h =
    let s = header_shows f x (sym e) in
    let q = write_fine _ _ (writable_shown f s.fine (length old) h) in
    let b = bytes_shown f s.fine bytes in
    rw (head_is f x s) (
      told_fine _ _ q ∙ ap (λ (x : List ℕ). replied (length x ∷ [])) b,
      buffer_fine _ old q ∙ ap (λ (x : List ℕ). x ++ drop (length x) old) b,
    )

-- The same with the header named by the file's places: every accepted file shows one.
pub write_accepted : (f old : List ℕ) → ((k : ℕ) → get_or f k 0 < 256) → verdict_of f ≡ Fine → length f ≤ length old →
    (write_told (shown_with (head_of f) f) (length old) ≡ replied (length f ∷ []))
    × (write_buffer (shown_with (head_of f) f) old ≡ f ++ drop (length f) old)
unfolding header_for
write_accepted f old bytes fine h = write_back f old (head_of f) bytes (header_is f Fine fine) h

-- ---- from numbers to a file and back

-- Domains past the first k are zero.
zeros : (k i : ℕ) → ◌≡◌ {A = ℕ} (get_or (replicate k 0) i 0) 0
zeros zero i = refl
zeros (suc k) zero = refl
zeros (suc k) (suc i) = zeros k i

domain_none : (f : List ℕ) (b k i : ℕ) → k ≤ i → get_or (domains_to f b k) i 0 ≡ 0
unfolding domains_to
domain_none f b zero i h = zeros 32 i
domain_none f b (suc k) i h = get_or-set_other (domains_to f b k) k i (domain_at f b k) 0 (λ e. omega arith) ∙ domain_none f b k i (omega arith)

module _ (h : Handed) (room : ℕ) (ok : Writable h room) where
  abbrev F : List ℕ
  F = bytes_of h

  fine : verdict_of F ≡ Fine
  fine = file_fine h room ok

  -- The universal bits, the header, the domains and the constraints come back.
  bits_back : universal_bits F (variables_at F) h.n ≡ h.universal
  unfolding universal_bits
  bits_back =
      bit_ext h.n _ h.universal (mask_of_lt h.n (universal_at F (variables_at F))) ok.bits
      (λ k l. bit-mask_of h.n (universal_at F (variables_at F)) k l ∙ file-universal h room ok k l)

  header_back : header_of F ≡ replied (header_numbers (head_in h))
  unfolding header_for head_of header_numbers
  header_back =
      header_is F Fine fine
      ∙ rw (file_n h room ok, file_m h room ok, file_t h room ok, file-rules h room ok, bits_back)

  domain_back : (i : ℕ) → i < 32 → get_or (domains_to F (variables_at F) h.n) i 0 ≡ get_or (h.domains ++ replicate (32 - h.n) 0) i 0
  domain_back i r =
      by_lt i h.n
      (λ l.
      domain_in_lem F (variables_at F) h.n i ok.counts.most l ∙ file-domain h room ok i l
      ∙ sym (get_or-append h.domains _ 0 i (omega (arith, ok.domains_long))))
      (λ g.
      let e : i ≡ length h.domains + (i - h.n) = omega (arith, ok.domains_long) in
      domain_none F (variables_at F) h.n i g
      ∙ sym (ap (λ (k : ℕ). get_or (h.domains ++ replicate (32 - h.n) 0) k 0) e ∙ get_or-append-add h.domains _ (i - h.n) 0 ∙ zeros (32 - h.n) (i - h.n)))

  domains_back : domains_of F ≡ h.domains ++ replicate (32 - h.n) 0
  unfolding domains_for
  domains_back =
      let l = length-domains F (variables_at F) h.n in
      let r = length-replicate {A = ℕ} (32 - h.n) 0 in
      domains_is F Fine fine ∙ ap (domains_to F (variables_at F)) (file_n h room ok)
      ∙ ext_get_or 0 (domains_to F (variables_at F) h.n) (h.domains ++ replicate (32 - h.n) 0)
      (sym (length-append h.domains (replicate (32 - h.n) 0) ∙ omega (arith, ok.domains_long, ok.counts.most)))
      (λ i g. domain_back i (omega arith))

  -- Number k of the constraints is i, j or a row of constraint k / 18.
  number_back : (k : ℕ) → k < 18 * h.m → get_or (numbers_to F h.m) k 0 ≡ get_or h.constraints k 0
  number_back k g =
      let t = k / 18 in
      let l : t < h.m = omega arith in
      let at : (r : ℕ) → r ≡ k → get_or (numbers_to F h.m) r 0 ≡ get_or h.constraints r 0 → get_or (numbers_to F h.m) k 0 ≡ get_or h.constraints k 0
      = λ r e p. rw (← e) p in
      by_eq (k % 18) 0
      (λ e. at (18 * t) (omega arith) (number-one F h.m t l ∙ file-one h room ok t l))
      (λ d.
      by_eq (k % 18) 1
      (λ e. at (18 * t + 1) (omega arith) (number-two F h.m t l ∙ file-two h room ok t l))
      (λ g.
      let a = k % 18 - 2 in
      let b : a < 16 = omega arith in
      at (18 * t + 2 + a) (omega arith) (number-row F h.m t l a b ∙ file-row h room ok t a l b)))

  constraints_back : constraints_shown F ≡ h.constraints
  constraints_back =
      let l = length_numbers F h.m in
      shown_all F fine ∙ ap (numbers_to F) (file_m h room ok)
      ∙ ext_get_or 0 (numbers_to F h.m) h.constraints (l ∙ sym ok.constraints_long) (λ k g. number_back k (omega arith))

  -- The bodies are the records of the list.
  body_back : (q : ℕ) → q < count_in h.ternaries → body_shown F q ≡ record_of h.ternaries ok.whole q
  body_back q l =
      let xs = h.ternaries in
      let e = file-body h room ok q l in
      let g : q < t_of F = rw (file_t h room ok) l in
      let s = length_body F fine q g ∙ e in
      part_is xs (body_shown F q) (start_in xs q) (omega (arith, s, (stands xs q (count_in xs) l (le_refl (count_in xs))).0))
      (λ x k. body_number F fine q x g (omega (arith, length_body F fine q g)) ∙ file-number h room ok q x l (omega (arith, s)))
      ∙ ap (part xs (start_in xs q)) s

  ternaries_back : ternaries_shown F ≡ h.ternaries
  ternaries_back =
      shown_ternaries F fine
      ∙ ap (joined (body_shown F)) (file_t h room ok)
      ∙ joined_same (body_shown F) (record_of h.ternaries ok.whole) (count_in h.ternaries) body_back
      ∙ records_joined h.ternaries ok.whole

  shown_back : Shown F h
  shown_back = record { header = header_back; masks = domains_back; rows = constraints_back; bodies = ternaries_back }

-- What the writer took was fine, and the length told is that of the file.
told-length : (t : Test) (j k : ℕ) → replied_for t (j ∷ []) ≡ replied (k ∷ []) → (t ≡ Fine) × (j ≡ k)
unfolding replied_for
told-length (Ok u) j k e = (refl, cc)
told-length (Err r) j k e = absurd (cc)

-- For all numbers that the writer takes, and every buffer, the reader and the look-ups show of the bytes written just those numbers.
pub read_back : (h : Handed) (old : List ℕ) (k : ℕ) → write_told h (length old) ≡ replied (k ∷ []) → Shown (take k (write_buffer h old)) h
unfolding write_told
read_back h old k e =
    let t = told-length _ _ k e in
    let w = writable h (length old) t.0 in
    rw (buffer_fine h old t.0, take_at (bytes_of h) (drop (length (bytes_of h)) old) k t.1) (shown_back h (length old) w)

-- ---- exactly the files of the layout

-- A list of bytes is accepted exactly if it is the file of some numbers that the writer takes.
pub accepted_exactly : (f : List ℕ) → ((k : ℕ) → get_or f k 0 < 256) → (verdict_of f ≡ Fine) ↔ Writes f
accepted_exactly f bytes = (
  λ fine. record {
    numbers = shown_with (head_of f) f;
    taken = write_fine _ _ (writable_shown f fine (length f) (le_refl (length f)));
    bytes = sym (bytes_shown f fine bytes);
  },
  λ w. ap verdict_of w.bytes ∙ file_fine w.numbers (length f) (writable _ _ w.taken),
)
