-- Texts put one behind another.
use Prim.Native.Nat.{ℕ, suc, ◌+◌, ◌≤◌, ◌<◌, min}
use mathlib.Core.Path.{◌≡◌, refl, sym, ap, ap₂, ◌∙◌, subst}
use mathlib.Core.List.{List, [], ◌∷◌, ◌++◌, append-nil}
use lib.ListN.{length, length-append, set, take, drop, get_or}
use lib.Seq.{take-suc, set_out}
use native.Mathlib.Omega.{arith}
use Rattle.mask.proofs.Logic.{by_lt}
use Rattle.buffer.specs.declared.Text.{Text}
use Rattle.buffer.specs.Stored.{stored, joined, together}
use Rattle.buffer.specs.Put.{largest, Put}
use Rattle.buffer.proofs.StoredLaws.{stored_more, stored-start, length-stored}

-- A list stays where what is stored lies behind its end.
stored_beyond : (vs l : List ℕ) (i : ℕ) → length l ≤ i → stored l i vs ≡ l
unfolding stored
stored_beyond [] l i h = refl
stored_beyond (v ∷ vs) l i h = rw (set_out l i v h) (stored_beyond vs l (suc i) (omega arith))

-- Nothing put; one byte put, and one left out.
pub put_none : (s : Text) → Put s [] s
unfolding stored
put_none s = record { ends = omega (arith, s.within); bytes = refl; same = refl }

pub put_byte : {s t : Text} (b : ℕ) → t.at ≡ min largest (s.at + 1) → t.out.now ≡ set s.out.now s.at b → t.out.ghost_name ≡ s.out.ghost_name → Put s (b ∷ []) t
unfolding stored
put_byte b e z n = record { ends = e; bytes = z; same = n }

pub put_beyond : {s t : Text} (b : ℕ) → t.at ≡ min largest (s.at + 1) → length s.out.now ≤ s.at → t.out.now ≡ s.out.now → t.out.ghost_name ≡ s.out.ghost_name → Put s (b ∷ []) t
unfolding stored
put_beyond {s} b e g z n = record { ends = e; bytes = z ∙ sym (set_out s.out.now s.at b g); same = n }

-- The buffer keeps its length.
pub put_kept : {s t : Text} {xs : List ℕ} → Put s xs t → length t.out.now ≡ length s.out.now
put_kept {s} {t} {xs} p = ap length p.bytes ∙ length-stored s.out.now s.at xs

-- One text behind another. Where the first ends behind the largest number, neither reaches the buffer there.
pub put_behind : {s t u : Text} {xs ys : List ℕ} → Put s xs t → Put t ys u → Put s (xs ++ ys) u
put_behind {s} {t} {u} {xs} {ys} p q =
    record {
      ends = omega (arith, length-append xs ys, p.ends, q.ends);
      bytes = q.bytes ∙ moved ∙ ap (λ (z : List ℕ). stored z (s.at + length xs) ys) p.bytes ∙ stored_more xs ys s.out.now s.at (length xs) refl;
      same = q.same ∙ p.same;
    }
  where
    moved : stored t.out.now t.at ys ≡ stored t.out.now (s.at + length xs) ys
    moved =
        by_lt largest (s.at + length xs)
        (λ h. stored_beyond ys t.out.now t.at (omega (arith, s.small, p.ends, put_kept p)) ∙ sym (stored_beyond ys t.out.now (s.at + length xs) (omega (arith, s.small, put_kept p))))
        (λ h. ap (λ (i : ℕ). stored t.out.now i ys) (let e : t.at ≡ s.at + length xs = omega (arith, p.ends) in e))

-- The parts of a text: the first and then the others; the last alone.
pub put_more : {s t u : Text} {x : List ℕ} (xs : List (List ℕ)) → Put s x t → Put t (together xs) u → Put s (together (x ∷ xs)) u
unfolding together
put_more xs p q = put_behind p q

pub put_last : {s t : Text} {x : List ℕ} → Put s x t → Put s (together (x ∷ [])) t
unfolding together
put_last {s} {t} {x} p = subst (λ (v : List ℕ). Put s v t) (sym (append-nil x)) p

-- A text put into the buffer l from its start on leaves l': the text is stored there.
pub put-stored : {s t : Text} {l l' xs : List ℕ} → s.at ≡ 0 → s.out.now ≡ l → Put s xs t → l' ≡ t.out.now → l' ≡ stored l 0 xs
put-stored {xs = xs} z e p q = q ∙ p.bytes ∙ ap₂ (λ (b : List ℕ) (i : ℕ). stored b i xs) e z

-- If it fits: where it ends; the text, and behind it what was there.
pub put-start : {s t : Text} {l l' xs : List ℕ} → s.at ≡ 0 → s.out.now ≡ l → length xs ≤ length l → Put s xs t → l' ≡ t.out.now → (t.at ≡ length xs) × (l' ≡ xs ++ drop (length xs) l)
put-start {s} {t} {l} {l'} {xs} z e h p q = (omega (arith, z, p.ends, s.small, ap length e), put-stored z e p q ∙ stored-start xs l h)

pub put-joined : {s t u : Text} (g : ℕ → List ℕ) (j : ℕ) → Put s (joined g j) t → Put t (g j) u → Put s (joined g (suc j)) u
unfolding joined
put-joined g j p q = put_behind p q

-- One more byte of a text.
pub put_one : {s t u : Text} (text : List ℕ) (k : ℕ) → k < length text → Put s (take k text) t → Put t (get_or text k 0 ∷ []) u → Put s (take (suc k) text) u
put_one {s} {t} {u} text k h p q = subst (λ (v : List ℕ). Put s v u) (sym (take-suc text k 0 h)) (put_behind p q)
