-- Laws of the look-up by place in an accepted file: each record `TT` is found by its number, none behind the last, what is found is such a
-- record, and all that is shown is their bodies, one behind another.
use Prim.Native.Nat.{ℕ, zero, suc, ◌+◌, ◌-◌, ◌≤◌, ◌<◌}
use mathlib.Core.Path.{◌≡◌, refl, sym, ap, ap₂, ◌∙◌}
use mathlib.Core.Bool.{Bool, true, false, cond}
use mathlib.Core.List.{List, [], ◌∷◌, ◌++◌, append-nil}
use lib.ListN.{length, get_or}
use native.Mathlib.Omega.{arith}
use borrow.Author.Tests.{lt-ltb, le-ltb, ltb-true, ltb-false}
use Rattle.std.specs.Prelude.{Result, Ok, Err, Option, None, Some}
use Rattle.refusal.specs.declared.reason.Fault.{Fault}
use Rattle.refusal.specs.Chain.{Verdict, Fine}
use Rattle.refusal.specs.Told.{replied, fault_told}
use Rattle.buffer.specs.Stored.{joined}
use Rattle.buffer.proofs.StoredLaws.{joined_same, joined_none, joined_split}
use Rattle.file_layout.specs.Layout.{after_constraints, number_at, body_at, ternary_at, t_of, end_at}
use Rattle.file_layout.proofs.LayoutLaws.{ternary_ascends}
use Rattle.file_records.specs.Records.{verdict_of}
use Rattle.file_reader.proofs.Accepted.{accepted, accepted_end, variables_and_ternaries}
use Rattle.file_lookup.specs.declared.ternary.Body.{Body}
use Rattle.file_lookup.specs.Part.{part, part_at}
use Rattle.file_lookup.specs.Ternary.{told_body, body_numbers, body_place, body_record, body_from, look_ternary, look_up_ternary, body_of, showing_body, bodies_to, ternaries_shown}
use Rattle.file_lookup.proofs.PartLaws.{part_there, length_part, part_byte}

ternary_is : (f : List ℕ) (v : Verdict) → verdict_of f ≡ v → (k : ℕ) → look_up_ternary f k ≡ look_ternary v f k
unfolding look_up_ternary
ternary_is f v q k = rw q

pub ternary_fine : (f : List ℕ) → verdict_of f ≡ Fine → (k : ℕ) → look_up_ternary f k ≡ body_place f k
unfolding look_ternary
ternary_fine f q k = ternary_is f Fine q k

pub ternary_refused : (f : List ℕ) (e : Fault) → verdict_of f ≡ Err e → (k : ℕ) → look_up_ternary f k ≡ fault_told e
unfolding look_ternary
ternary_refused f e q k = ternary_is f (Err e) q k

-- The body of record k, by its place.
abbrev pub body_shown : List ℕ → ℕ → List ℕ
body_shown f k = part_at f (ternary_at f (after_constraints f) k + 2) (body_at f (ternary_at f (after_constraints f) k))

module _ (f : List ℕ) (fine : verdict_of f ≡ Fine) where
  abbrev at : ℕ → ℕ
  at = ternary_at f (after_constraints f)

  -- All of them stand near.
  pub ternaries_near : (k : ℕ) → k ≤ t_of f → at k ≤ 17992
  unfolding end_at
  ternaries_near k h = omega (arith, ternary_ascends f (after_constraints f) k (t_of f) h, accepted_end f (accepted f fine))

  -- A record is found by its number, and none behind the last one.
  pub ternary_found : (k : ℕ) → k < t_of f → look_up_ternary f k ≡ replied ((at k + 2) ∷ body_at f (at k) ∷ [])
  unfolding body_place body_from body_record
  ternary_found k h = ternary_fine f fine k ∙ rw (lt-ltb _ _ h) refl

  pub ternary_none : (k : ℕ) → t_of f ≤ k → look_up_ternary f k ≡ replied []
  unfolding body_place
  ternary_none k h = ternary_fine f fine k ∙ rw (le-ltb _ _ h) refl

  -- Its body lies within the file, so it is shown whole: its numbers are those of the record.
  pub body_within : (k : ℕ) → k < t_of f → at k + 2 + body_at f (at k) ≤ length f
  body_within k h = ((accepted f fine).ternary k h).within

  pub length_body : (k : ℕ) → k < t_of f → length (body_shown f k) ≡ body_at f (at k)
  length_body k h = length_part f (at k + 2) (body_at f (at k)) (body_within k h)

  pub body_number : (k x : ℕ) → k < t_of f → x < body_at f (at k) → get_or (body_shown f k) x 0 ≡ number_at f (at k) x
  unfolding number_at
  body_number k x h l = part_byte f (at k + 2) (body_at f (at k)) x (body_within k h) l

  -- All that is shown.
  showing_found : (k : ℕ) → k < t_of f → showing_body (look_up_ternary f k) f ≡ body_shown f k
  unfolding showing_body
  showing_found k h = rw (ternary_found k h) refl

  showing_none : (k : ℕ) → t_of f ≤ k → showing_body (look_up_ternary f k) f ≡ []
  unfolding showing_body
  showing_none k h = rw (ternary_none k h) refl

  bodies_joined : (k : ℕ) → bodies_to f k ≡ joined (λ q. showing_body (look_up_ternary f q) f) k
  unfolding bodies_to joined
  bodies_joined zero = refl
  bodies_joined (suc k) = ap (λ (x : List ℕ). x ++ showing_body (look_up_ternary f k) f) (bodies_joined k)

  pub shown_ternaries : ternaries_shown f ≡ joined (body_shown f) (t_of f)
  unfolding ternaries_shown
  shown_ternaries =
      let g = λ (q : ℕ). showing_body (look_up_ternary f q) f in
      let t = t_of f in
      let s : 32 ≡ t + (32 - t) = omega (arith, variables_and_ternaries f fine) in
      bodies_joined 32
      ∙ ap (joined g) s
      ∙ joined_split g t (32 - t)
      ∙ ap₂ (λ (x y : List ℕ). x ++ y)
      (joined_same g (body_shown f) t showing_found)
      (joined_none (λ i. g (t + i)) (32 - t) (λ i l. showing_none (t + i) (omega arith)))
      ∙ append-nil _

-- ---- what an answer says

-- What is found at p, k bytes long: the file is accepted, and it is the body of its record q.
pub record FoundBody (f : List ℕ) (q p k : ℕ) : Type 0 where
  pub fine : verdict_of f ≡ Fine
  pub less : q < t_of f
  pub place : p ≡ ternary_at f (after_constraints f) q + 2
  pub size : k ≡ body_at f (ternary_at f (after_constraints f) q)

chosen_body : (b : Bool) (x : Body) (p k : ℕ) → replied (body_numbers (cond b (Some x) None)) ≡ replied (p ∷ k ∷ []) → (b ≡ true) × (p ≡ x.place) × (k ≡ x.length)
chosen_body true x p k e = (refl, cc, cc)
chosen_body false x p k e = absurd (cc)

chosen_nothing : (b : Bool) (x : Body) → replied (body_numbers (cond b (Some x) None)) ≡ replied [] → b ≡ false
chosen_nothing true x e = absurd (cc)
chosen_nothing false x e = refl

replies_body : (v : Verdict) (f : List ℕ) (q : ℕ) (ps : List ℕ) → look_ternary v f q ≡ replied ps → (v ≡ Fine) × (body_place f q ≡ replied ps)
unfolding look_ternary
replies_body (Ok u) f q ps e = (refl, e)
replies_body (Err d) f q ps e = absurd (cc)

pub body_found : (f : List ℕ) (q p k : ℕ) → look_up_ternary f q ≡ replied (p ∷ k ∷ []) → FoundBody f q p k
unfolding body_place body_from body_record
body_found f q p k e =
    let a = replies_body (verdict_of f) f q _ (sym (ternary_is f _ refl q) ∙ e) in
    let b = chosen_body _ _ p k a.1 in
    record { fine = a.0; less = ltb-true _ _ b.0; place = b.1; size = b.2 }

-- None says that the file is accepted and has no such record.
pub none_found : (f : List ℕ) (q : ℕ) → look_up_ternary f q ≡ replied [] → (verdict_of f ≡ Fine) × (t_of f ≤ q)
unfolding body_place
none_found f q e =
    let a = replies_body (verdict_of f) f q _ (sym (ternary_is f _ refl q) ∙ e) in
    (a.0, ltb-false _ _ (chosen_nothing _ _ a.1))

-- ---- the part of the file

pub body_of_lem : (r : Result (Option Body) Fault) (f : List ℕ) (b : Body) → r ≡ Ok (Some b) → body_of r f ≡ part_at f b.place b.length
unfolding body_of
body_of_lem r f b q = rw q

told_bodies : (r : Result (Option Body) Fault) (p k : ℕ) → told_body r ≡ replied (p ∷ k ∷ []) → r ≡ Ok (Some (record { place = p; length = k }))
told_bodies (Ok (Some b)) p k e = let x : b.place ≡ p = cc in let y : b.length ≡ k = cc in rw (← x, ← y) refl
told_bodies (Ok None) p k e = cc
told_bodies (Err d) p k e = cc

-- An answer of the look-up that has a body shows the bytes at its place.
pub found_body : (f : List ℕ) (q p k : ℕ) (r : Result (Option Body) Fault) → told_body r ≡ look_up_ternary f q →
    look_up_ternary f q ≡ replied (p ∷ k ∷ []) → body_of r f ≡ part f p k
found_body f q p k r e h =
    let s = body_found f q p k h in
    body_of_lem r f _ (told_bodies r p k (e ∙ h)) ∙ part_there f p k (omega (arith, body_within f s.fine q s.less, s.place, s.size))
