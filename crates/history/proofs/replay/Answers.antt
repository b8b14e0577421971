use mathlib.Core.Path.{◌≡◌, ap, ◌∙◌}
use lib.ListN.{length}
use Rattle.position.specs.declared.Position.{Position}
use Rattle.session.specs.Told.{told_opened, open_told, masks_shown, counts_shown}
use Rattle.session.specs.History.{reached_by}
use Rattle.marking.specs.Marking.{told, mark_told, mark_left}
use Rattle.history.specs.Replay.{calls_of}
use Rattle.history.proofs.ByteLaws.{from-fresh}
use Rattle.history.proofs.Histories.{demand_3}
use Rattle.history.proofs.replay.Goals as goal
use Rattle.history.proofs.replay.Goals.{After-mark-marks, After-open_values-opened, After-reached-p}

-- What the entries reply, over the calls.
over : (c : After-reached-p) → let a = c.args in c.reached-p.result ≡ reached_by a.f.now (calls_of a.calls.now)
over c = from-fresh _ _ _ _ c.fresh-start.ensures c.reached-p.ensures

marks-are : (c : After-mark-marks) → let a = c.args in
    told c.mark-marks.result ≡ mark_told a.f.now (reached_by a.f.now (calls_of a.calls.now)) a.set (length a.room.now)
marks-are c = let a = c.args in
    c.mark-marks.ensures.result_value ∙ ap (λ (p : Position). mark_told a.f.now p a.set (length a.room.now)) (from-fresh _ _ _ _ c.fresh-start.ensures c.reached-p.ensures)

opened : (c : After-open_values-opened) → let a = c.args in
    told_opened c.open_values-opened.result ≡ open_told a.f.now (reached_by a.f.now (calls_of a.calls.now))
opened c = let a = c.args in
    c.open_values-opened.ensures.result_value ∙ ap (open_told a.f.now) (from-fresh _ _ _ _ c.fresh-start.ensures c.reached-p.ensures)

pub returns : goal.returns
returns c =
    let a = c.args in
    let e = c.open_values-opened.ensures.masks_value in
    let at = goal.at.returns c in
    record {
      marks_value = marks-are at.After-mark-marks;
      opened_value = opened at.After-open_values-opened;
      masks_value = (e.0 ∙ ap (masks_shown a.f.now) (over at.After-reached-p), e.1 ∙ ap (counts_shown a.f.now) (over at.After-reached-p));
      room_after = c.mark-marks.ensures.room_after ∙ ap (λ (p : Position). mark_left a.f.now p a.set a.room.now) (over at.After-reached-p);
      demand3 = λ fine. let t = demand_3 a.f.now fine (calls_of a.calls.now) a.set (length a.room.now) in record {
        shows = t.shows;
        marked = λ s r. marks-are at.After-mark-marks ∙ t.marked s r;
        opens = opened at.After-open_values-opened ∙ t.opens;
        tells = t.tells;
        stays = t.stays;
      };
    }
