use native.Mathlib.Omega.{arith}
use Rattle.position.proofs.Fitting.{fits_plays}
use Rattle.search_run.proofs.RunLaws.{part-start, part-size, part_zero, room_back}
use Rattle.search_run.proofs.run.Goals as goal

pub overflow_mul-d : goal.overflow_mul-d
overflow_mul-d c = let p = c.requires in let h = fits_plays _ _ _ p.0.fits in omega (arith, h, c.args.arrays.now.most)

pub offset_bounds-room-d : goal.offset_bounds-room-d
offset_bounds-room-d c = let p = c.requires in let h = fits_plays _ _ _ p.0.fits in omega (arith, h, c.args.arrays.now.most)

pub slice_bounds-run_in-count : goal.slice_bounds-run_in-count
slice_bounds-run_in-count c = let p = c.requires in let h = fits_plays _ _ _ p.0.fits in part-start _ _ _ _ _ h c.room_needed.ensures p.1 c.zero_words.ensures

pub slice_bounds-run_in-start : goal.slice_bounds-run_in-start
slice_bounds-run_in-start c = let p = c.requires in let h = fits_plays _ _ _ p.0.fits in part-start _ _ _ _ _ h c.room_needed.ensures p.1 c.zero_words.ensures

pub run_in-requires : goal.run_in-requires
run_in-requires c = let p = c.requires in let h = fits_plays _ _ _ p.0.fits in (p.0, part-size _ _ _ _ _ h c.room_needed.ensures p.1 c.zero_words.ensures, part_zero _ _ _ _ _ h c.room_needed.ensures p.1 c.zero_words.ensures)

pub returns : goal.returns
returns c = let p = c.requires in let h = fits_plays _ _ _ p.0.fits in (c.run_in.ensures.0, room_back _ _ _ _ _ h c.room_needed.ensures p.1 c.zero_words.ensures _ c.run_in.ensures.1)
