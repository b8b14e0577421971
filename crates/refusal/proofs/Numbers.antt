-- No two reasons have one number, so what is told tells the reason.
use Rattle.std.specs.Prelude.{ℕ, List, [], ◌∷◌, get_or}
use mathlib.Core.Path.{◌≡◌, refl, sym, ap, ap₂, ◌∙◌}
use Rattle.refusal.specs.declared.reason.Reason.{Reason}
use Rattle.refusal.specs.declared.reason.Reason.TheVariants.{Short, Mark, Count, Domain, Pair, Order, Stray, Rules, Tail, Value, Variable, Room, Lent, Full, Bare, Done, Misfit, Locked, Depth, Triple, Many}
use Rattle.refusal.specs.declared.reason.Fault.{Fault}
use Rattle.refusal.specs.Reason.{number_of, ◌at◌}
use Rattle.refusal.specs.Told.{Told, replied, refused, refused_at, fault_told}

-- Each reason at its number.
abbrev reasons : List Reason
reasons =
    Misfit ∷ Short ∷ Mark ∷ Count ∷ Domain ∷ Pair ∷ Order ∷ Stray ∷ Rules ∷ Tail ∷ Value ∷ Variable ∷ Room ∷ Lent
    ∷ Misfit ∷ Misfit ∷ Misfit ∷ Misfit ∷ Misfit ∷ Misfit ∷ Full ∷ Bare ∷ Done ∷ Misfit ∷ Locked ∷ Depth ∷ Triple ∷ Many ∷ []

unfoldable reason_of : ℕ → Reason
reason_of k = get_or reasons k Misfit

unfoldable refused_of : Told → ℕ
refused_of (replied values) = 0
refused_of (refused k) = k
refused_of (refused_at k p) = k

of_number : (e : Reason) → reason_of (number_of e) ≡ e
unfolding reason_of
of_number Short = refl
of_number Mark = refl
of_number Count = refl
of_number Domain = refl
of_number Pair = refl
of_number Order = refl
of_number Stray = refl
of_number Rules = refl
of_number Tail = refl
of_number Value = refl
of_number Variable = refl
of_number Room = refl
of_number Lent = refl
of_number Full = refl
of_number Bare = refl
of_number Done = refl
of_number Misfit = refl
of_number Locked = refl
of_number Depth = refl
of_number Triple = refl
of_number Many = refl

pub number_one : (d e : Reason) → number_of d ≡ number_of e → d ≡ e
number_one d e q = sym (of_number d) ∙ ap reason_of q ∙ of_number e

-- What a file's refusal tells is the refusal.
unfoldable place_of : Told → ℕ
place_of (replied values) = 0
place_of (refused k) = 0
place_of (refused_at k p) = p

pub fault_one : (d e : Fault) → fault_told d ≡ fault_told e → d ≡ e
unfolding refused_of place_of
fault_one d e q = ap₂ ◌at◌ (number_one d.reason e.reason (ap refused_of q)) (ap place_of q)

-- What a refusal tells has its number.
pub refused_number : {j k : ℕ} → refused j ≡ refused k → j ≡ k
unfolding refused_of
refused_number q = ap refused_of q
