-- A position with one value more played, where that value is in its domain.
use mathlib.Core.Path.{◌≡◌, sym, ap, subst, ◌∙◌}
use mathlib.Core.List.{List, [], ◌∷◌, ◌++◌}
use Prim.Native.Nat.{ℕ, ◌≤◌, ◌<◌}
use native.Mathlib.Omega.{arith}
use lib.Dec.{T}
use lib.ListN.{get_or, length, take, length-append}
use lib.Seq.{get_or-take}
use Rattle.mask.specs.Mask.{bit}
use Rattle.game.specs.Problem.{Problem}
use Rattle.game.specs.Lists.{domains}
use Rattle.theory.proofs.Standing.{legal_snoc}
use Rattle.position.specs.declared.Position.{Position}
use Rattle.position.specs.Position.{shown, plays_of, pushed, fits_in}
use Rattle.position.proofs.Shown.{plays_shown, pushed-shown}
use Rattle.position.proofs.Fitting.{fits_depth, fits-shown, fits-legal, legal-fits, length_plays}

module _ (p : Position) (n : ℕ) (masks : List ℕ) (t : T (fits_in p n masks)) (small : n ≤ 32) (long : length p.values ≡ 32) (more : p.plays < n) (a : ℕ) where
  shows : pushed p a ≡ shown p.depth (plays_of p ++ (a ∷ []))
  shows =
      let k = length_plays p n masks t small long in
      ap (λ (q : Position). pushed q a) (sym (fits-shown p n masks t small long)) ∙ pushed-shown p.depth (plays_of p) a (omega arith)

  pub plays_pushed : plays_of (pushed p a) ≡ plays_of p ++ (a ∷ [])
  plays_pushed = ap plays_of shows ∙ plays_shown p.depth (plays_of p ++ (a ∷ []))

  pub pushed-fits : (P : Problem) → P.n ≡ n → P.domain ≡ take n masks → T (bit (get_or masks p.plays 0) a) → T (fits_in (pushed p a) n masks)
  unfolding domains
  pushed-fits P e f m =
      let k = length_plays p n masks t small long in
      let d : get_or P.domain (length (plays_of p)) 0 ≡ get_or masks p.plays 0 = ap (λ i. get_or P.domain i 0) k ∙ ap (λ (l : List ℕ). get_or l p.plays 0) f ∙ get_or-take n masks p.plays 0 more in
      let deep : p.depth ≤ length (plays_of p ++ (a ∷ [])) = omega (arith, k, fits_depth p n masks t, length-append (plays_of p) (a ∷ [])) in
      subst (λ (q : Position). T (fits_in q n masks)) (sym shows)
      (legal-fits P n masks (plays_of p ++ (a ∷ [])) p.depth e f (legal_snoc P (plays_of p) a (fits-legal p n masks t small long P e f) (omega arith) (subst (λ v. T (bit v a)) (sym d) m)) deep)
