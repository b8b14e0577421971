-- What play, take-back, lock, unlock and open values tell of a file and a position, and the position that the first four lead to: by the
-- file's verdict first, then by the tests.
use Rattle.std.specs.Prelude.{ℕ, Result, Ok, Err, List, [], ◌++◌, replicate}
use Rattle.refusal.specs.declared.reason.Refusal.{Refusal}
use Rattle.refusal.specs.Told.{Told, refusal_told, told_by}
use Rattle.position.specs.declared.Position.{Position}
use Rattle.session.specs.declared.Opened.{Opened}
use Rattle.session.specs.Files.{play_file, take_back_file, lock_file, unlock_file, open_file}

-- Each case of a reply in document 01's numbers: a finished play, take-back, lock or unlock has no values beside the position, open values have 32
-- masks, then 32 counts.
unfoldable pub told : Result Position Refusal → Told
told r = told_by (λ q. []) refusal_told r

unfoldable pub told_opened : Result Opened Refusal → Told
told_opened r = told_by (λ o. o.masks ++ o.counts) refusal_told r

-- The position that a call leaves, from `old`: "A refused call leaves position, list, room and buffer with their old contents."
unfoldable pub left : Position → Result Position Refusal → Position
left old (Ok q) = q
left old (Err e) = old

-- The masks and counts of a reply. "Nothing else is returned": of a refused call both are zero.
unfoldable pub masks_in : Result Opened Refusal → List ℕ
masks_in (Ok o) = o.masks
masks_in (Err e) = replicate 32 0

unfoldable pub counts_in : Result Opened Refusal → List ℕ
counts_in (Ok o) = o.counts
counts_in (Err e) = replicate 32 0

module _ (f : List ℕ) (p : Position) where
  unfoldable pub play_told : ℕ → Told
  play_told a = told (play_file f p a)

  unfoldable pub play_left : ℕ → Position
  play_left a = left p (play_file f p a)

  unfoldable pub take_back_told : Told
  take_back_told = told (take_back_file f p)

  unfoldable pub take_back_left : Position
  take_back_left = left p (take_back_file f p)

  unfoldable pub lock_told : Told
  lock_told = told (lock_file f p)

  unfoldable pub lock_left : Position
  lock_left = left p (lock_file f p)

  unfoldable pub unlock_told : ℕ → Told
  unlock_told k = told (unlock_file f p k)

  unfoldable pub unlock_left : ℕ → Position
  unlock_left k = left p (unlock_file f p k)

  unfoldable pub open_told : Told
  open_told = told_opened (open_file f p)

  unfoldable pub masks_shown : List ℕ
  masks_shown = masks_in (open_file f p)

  unfoldable pub counts_shown : List ℕ
  counts_shown = counts_in (open_file f p)
