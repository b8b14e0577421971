-- What the entries tell and leave, by the file and by the tests.
use Prim.Native.Nat.{ℕ}
use mathlib.Core.Path.{◌≡◌, refl, sym, ap, ◌∙◌, subst}
use mathlib.Core.Bool.{true}
use mathlib.Core.List.{List, [], ◌∷◌}
use lib.Dec.{ltb}
use lib.ListN.{length}
use Rattle.std.specs.Prelude.{Result, Ok, Err, Option}
use Rattle.refusal.specs.declared.reason.Reason.{Reason}
use Rattle.refusal.specs.declared.reason.Reason.TheVariants.{Variable}
use Rattle.refusal.specs.declared.reason.Fault.{Fault}
use Rattle.refusal.specs.Chain.{Test, need}
use Rattle.refusal.specs.Told.{replied, reason_told, fault_told, told_by}
use Rattle.refusal.specs.Replied.{replied_for, list_for}
use Rattle.refusal.proofs.Chain.{stop, go}
use Rattle.refusal.proofs.RepliedLaws.{reply_refused, list_refused}
use Rattle.game.specs.Problem.{Problem}
use Rattle.buffer.specs.Stored.{stored}
use Rattle.solver_arrays.specs.declared.arrays.Arrays.{Arrays}
use Rattle.solver_arrays.specs.Arrays.{Poses, Posed}
use Rattle.file_reader.specs.declared.Head.{Head}
use Rattle.file_reader.specs.Reading.{verdict_of}
use Rattle.file_reader.proofs.Accepted.{Shows, accepted, head_is}
use Rattle.file_writer.specs.Tests.{rules_fit}
use Rattle.file_round_trip.proofs.RoundTrip.{rules_shown}
use Rattle.file_decoder.specs.FileProblem.{ordinary_of}
use Rattle.ternary_decoder.specs.Decoded.{OrdinaryGiven}
use Rattle.file_decoder.proofs.ReadLaws.{read_fine, read_refused}
use Rattle.group.specs.Groups.{groups}
use Rattle.group.specs.GroupProblem.{group_problem, group_file}
use Rattle.group_labels.specs.declared.Groups.{Groups}
use Rattle.group_labels.specs.Labels.{GroupsOf}
use Rattle.group_arrays.specs.Selected.{Selects}
use Rattle.buffer.specs.Fitting.{fit_test, fit_told, fit_left}
use Rattle.problem_writer.specs.Written.{WritesProblem}
use Rattle.group_entries.specs.Told.{told_groups, groups_shown, groups_told, groups_listed, length_values, group_test, group_reply, group_buffer, WritesGroup, write_group_told, write_group_left}

-- ---- over the arrays: t is the test whether group g is there

module _ (A : Arrays) (r : Groups) (of : GroupsOf A r) (rules : Option ℕ) (g : ℕ) (t : Test) (e : t ≡ need (ltb g r.count) Variable) where
  test_is : (P : Problem) → Poses P A → t ≡ need (ltb g (groups P)) Variable
  test_is P p = e ∙ ap (λ (k : ℕ). need (ltb g k) Variable) (of P p).count

  pub absent : (buf : List ℕ) {x : Reason} {z : Result ℕ Reason} → t ≡ Err x → z ≡ Err x → WritesGroup A rules g buf buf z
  unfolding group_reply group_buffer group_test
  absent buf {x} q w =
      λ P p.
      let s = stop (need (ltb g (groups P)) Variable) (fit_test (group_file P rules g) (length buf)) x (sym (test_is P p) ∙ q) in
      (ap (told_by length_values reason_told) w ∙ reply_refused _ _ (sym s) refl, list_refused _ _ buf (sym s) refl)

  pub present :
      {u : Unit {0}} (B : Arrays) (buf buf' : List ℕ) (z : Result ℕ Reason) → t ≡ Ok u → Selects A r g B → WritesProblem B rules buf buf' z → WritesGroup A rules g buf buf' z
  unfolding group_reply group_buffer group_test group_file fit_told fit_left
  present B buf buf' z q s w =
      λ P p.
      let h = go (need (ltb g (groups P)) Variable) (fit_test (group_file P rules g) (length buf)) (sym (test_is P p) ∙ q) in
      let o = w (group_problem P g) (s.states P p) in (
        o.0 ∙ sym (ap (λ (v : Test). replied_for v (length (group_file P rules g) ∷ [])) h),
        o.1 ∙ sym (ap (λ (v : Test). list_for v (stored buf 0 (group_file P rules g)) buf) h),
      )

-- The arrays of a group state a problem, as those that they are made of do.
pub selected_posed : (A : Arrays) (r : Groups) (g : ℕ) (B : Arrays) → Posed A → Selects A r g B → Posed B
selected_posed A r g B p s = record { problem = group_problem p.problem g; poses = s.states p.problem p.poses }

-- ---- over the file

module _ (f : List ℕ) (e : Fault) (q : verdict_of f ≡ Err e) where
  pub refused_groups : {r : Result Groups Fault} → r ≡ Err e → (told_groups r ≡ groups_told f) × (groups_shown r ≡ groups_listed f)
  unfolding groups_told groups_listed
  refused_groups w = (ap told_groups w ∙ sym (read_refused f _ _ e q), ap groups_shown w ∙ sym (read_refused f _ _ e q))

  pub refused_told : (g room : ℕ) → fault_told e ≡ write_group_told f g room
  unfolding write_group_told
  refused_told g room = sym (read_refused f _ _ e q)

  pub refused_left : (g : ℕ) (buf : List ℕ) → buf ≡ write_group_left f g buf
  unfolding write_group_left
  refused_left g buf = sym (read_refused f _ _ e q)

module _ (f : List ℕ) (A : Arrays) (given : OrdinaryGiven f A) where
  pub file_groups : (r : Groups) → GroupsOf A r → (told_groups (Ok r) ≡ groups_told f) × (groups_shown (Ok r) ≡ groups_listed f)
  unfolding groups_told groups_listed
  file_groups r of =
      let o = of (ordinary_of f given.fine) given.poses in
      (ap (λ (k : ℕ). replied (k ∷ [])) o.count ∙ sym (read_fine f _ _ given.fine), o.group ∙ sym (read_fine f _ _ given.fine))

  -- With the rule set of the header x that reading shows.
  pub shown_writes :
      (x : Head) → Shows f x → (g : ℕ) (buf buf' : List ℕ) (r : Result ℕ Reason) → WritesGroup A x.rules g buf buf' r
      → (told_by length_values reason_told r ≡ write_group_told f g (length buf)) × (buf' ≡ write_group_left f g buf)
  unfolding write_group_told write_group_left
  shown_writes x s g buf buf' r w =
      let o = subst (λ (h : Head). WritesGroup A h.rules g buf buf' r) (head_is f x s) w (ordinary_of f given.fine) given.poses in
      (o.0 ∙ sym (read_fine f _ _ given.fine), o.1 ∙ sym (read_fine f _ _ given.fine))

  -- Some problem is stated.
  pub given_posed : Posed A
  given_posed = record { problem = ordinary_of f given.fine; poses = given.poses }

-- The writer takes the rule set that reading shows.
pub set_fits : (f : List ℕ) (x : Head) → Shows f x → rules_fit x.rules ≡ true
set_fits f x s = ap rules_fit s.set ∙ rules_shown f (accepted f s.fine)
