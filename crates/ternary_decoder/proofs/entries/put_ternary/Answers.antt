use mathlib.Core.Path.{refl, ◌∙◌}
use Rattle.ternary_decoder.proofs.entries.put_ternary.Goals as goal

pub returns : goal.returns
returns c =
    let s = c.scope-i.ensures in
    let x = c.put_side.ensures in
    let y = c.put_side-2.ensures in
    let z = c.put_side-3.ensures in
    let o = z.others in
    let l = y.others in
    let k = x.others in
    record {
      own = o.own ∙ l.own ∙ k.own;
      n = refl;
      universal = o.universal ∙ l.universal ∙ k.universal;
      domains = rw (o.domains, l.domains, k.domains, c.places_of.ensures) refl;
      near = rw (z.near_after, y.near_after, x.near_after, s) refl;
      index = rw (z.index_after, y.index_after, x.index_after, s) refl;
      rows = rw (z.rows_after, y.rows_after, x.rows_after) refl;
    }
