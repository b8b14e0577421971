-- Document 01, "Small jobs", row by row, and the 31-byte job of card 7. Masks are numbers: 3 is {0, 1}, 1 is {0}, 2 is {1}, 32 is {5}.
use Rattle.std.specs.Prelude.{ℕ, List, [], ◌∷◌, ◌++◌}
use Rattle.refusal.specs.Told.{Told, replied, refused}
use Rattle.game.specs.Lists.{spread}
use Rattle.game.specs.Calls.{Call, play, take_back}
use Rattle.small_problems.specs.Files.{existential, universal, between, among, file, file_with}
use Rattle.small_problems.specs.Questions.{Question, size, reading, looking_up, looking_up_ternary, judging, marking, opening, calling, arc, arc_leaving, pure_at, interchangeable_at}

-- A question and its answer.
infix 70 ◌gives◌
pub data Line : Type 0 where
  ◌gives◌ : Question → Told → Line

-- The lines of the position that these calls reach from the fresh one.
pub data Stage : Type 0 where
  after : List Call → List Line → Stage

pub record Row : Type 0 where
  pub file : List ℕ
  pub stages : List Stage

abbrev row : List ℕ → List Stage → Row
row f s = record { file = f; stages = s }

-- A row with lines of the fresh position only.
abbrev fresh : List ℕ → List Line → Row
fresh f ls = row f (after [] ls ∷ [])

-- ---- answers, in the numbers that the entries tell

abbrev number : ℕ → Told
number k = replied (k ∷ [])

abbrev yes : Told
yes = number 1

abbrev no : Told
no = number 0

abbrev loss : Told
loss = number 1

abbrev no_loss : Told
no_loss = number 0

-- n variables, m constraints of two and t of three, and the mask of the universal ones.
abbrev counts : ℕ → ℕ → ℕ → ℕ → Told
counts n m t u = replied (n ∷ m ∷ t ∷ u ∷ [])

-- Where a body begins, and how long it is.
abbrev body : ℕ → ℕ → Told
body place length = replied (place ∷ length ∷ [])

abbrev none : Told
none = replied []

-- The good values of the next variable, and its domain.
abbrev good : ℕ → ℕ → Told
good m domain = replied (m ∷ domain ∷ [])

-- The open values of each variable, and how many they are.
abbrev opens : List ℕ → List ℕ → Told
opens masks sizes = replied (spread masks ++ spread sizes)

-- ---- the rows of a constraint between values 0 and 1

abbrev differ : List ℕ
differ = 2 ∷ 1 ∷ []

abbrev equal : List ℕ
equal = 1 ∷ 2 ∷ []

-- "0 goes with both, 1 with 1 only".
abbrev low : List ℕ
low = 3 ∷ 2 ∷ []

abbrev full : List ℕ
full = 3 ∷ 3 ∷ []

abbrev clash : List ℕ
clash = []

-- ---- the table

-- "G1: day, shift; options must differ. Yes; 0 good, 1 good. 51 bytes."
abbrev pub g1 : List ℕ
g1 = file (universal 3 ∷ existential 3 ∷ []) (between 0 1 differ ∷ [])

abbrev g1_lines : List Line
g1_lines = judging gives yes ∷ marking gives good 3 3 ∷ opening gives opens (3 ∷ 3 ∷ []) (2 ∷ 2 ∷ []) ∷ []

abbrev G1 : Row
G1 = fresh g1 (size gives number 51 ∷ reading gives counts 2 1 0 1 ∷ looking_up 0 1 gives number 17 ∷ g1_lines)

-- "G2: shift, day; must differ. No; both bad. Arc empties choice 0."
abbrev G2 : Row
G2 = fresh (file (existential 3 ∷ universal 3 ∷ []) (between 0 1 differ ∷ []))
    (judging gives no ∷ marking gives good 0 3 ∷ arc (3 ∷ 3 ∷ []) gives loss ∷ arc_leaving (3 ∷ 3 ∷ []) gives replied (0 ∷ 3 ∷ []) ∷ [])

-- "G3: day; shift {0}; shift {0}; the two shift's options clash. No, though both day options are pure."
abbrev G3 : Row
G3 = fresh (file (universal 3 ∷ existential 1 ∷ existential 1 ∷ []) (between 1 2 clash ∷ []))
    (judging gives no ∷ marking gives good 0 3 ∷ pure_at 0 (3 ∷ 1 ∷ 1 ∷ []) gives number 3 ∷ [])

-- "G4: shift, day; 0 goes with both, 1 with 1 only. Yes; 0 good, 1 bad. Arc leaves {0}."
abbrev G4 : Row
G4 = fresh (file (existential 3 ∷ universal 3 ∷ []) (between 0 1 low ∷ []))
    (judging gives yes ∷ marking gives good 1 3 ∷ arc (3 ∷ 3 ∷ []) gives no_loss ∷ arc_leaving (3 ∷ 3 ∷ []) gives replied (1 ∷ 3 ∷ []) ∷ [])

-- "G5: shift, shift; same table. Yes; both good, though 0 is pure." Value 1 does not go with value 0 of variable 1.
abbrev G5 : Row
G5 = fresh (file (existential 3 ∷ existential 3 ∷ []) (between 0 1 low ∷ []))
    (judging gives yes ∷ marking gives good 3 3 ∷ pure_at 0 (3 ∷ 3 ∷ []) gives replied (1 ∷ 1 ∷ 1 ∷ 0 ∷ []) ∷ [])

-- "G6: day, day, shift; choices 1 and 2 must be equal; option 0 of choice 0 goes with both of choice 2, option 1 with 1 only. No; 0 good,
-- 1 bad."
abbrev G6 : Row
G6 = fresh (file (universal 3 ∷ universal 3 ∷ existential 3 ∷ []) (between 0 2 low ∷ between 1 2 equal ∷ []))
    (judging gives no ∷ marking gives good 1 3 ∷ [])

-- "G7: one shift's choice {5}, no table. Yes; 5 good. 11 bytes."
abbrev G7 : Row
G7 = fresh (file (existential 32 ∷ []) []) (size gives number 11 ∷ judging gives yes ∷ marking gives good 32 32 ∷ [])

-- "G8: shift, shift; table full. Both good; alike keeps {0}."
abbrev G8 : Row
G8 = fresh (file (existential 3 ∷ existential 3 ∷ []) (between 0 1 full ∷ []))
    (judging gives yes ∷ marking gives good 3 3 ∷ interchangeable_at 0 (3 ∷ 3 ∷ []) gives number 1 ∷ [])

-- "G9: G1 after play 0: open at choice 1 is {1}; 0 bad, 1 good. After take-back, as G1."
abbrev G9 : Row
G9 = row g1
    (after (play 0 ∷ []) (opening gives opens (1 ∷ 2 ∷ []) (1 ∷ 1 ∷ []) ∷ judging gives yes ∷ marking gives good 2 3 ∷ [])
    ∷ after (play 0 ∷ take_back ∷ []) g1_lines
    ∷ [])

-- "G10: G1 after 0, 0: no; marks give 22; a further play 20; take-back of a fresh G1 gives 21; a play of 2 on it gives 10."
abbrev G10 : Row
G10 = row g1
    (after (play 0 ∷ play 0 ∷ []) (judging gives no ∷ marking gives refused 22 ∷ calling (play 0) gives refused 20 ∷ calling (play 1) gives refused 20 ∷ [])
    ∷ after [] (calling take_back gives refused 21 ∷ calling (play 2) gives refused 10 ∷ [])
    ∷ [])

-- Document 02, card 7: existential, universal, existential; the triples are (0, 0, 1) and (0, 1, 0). Yes; 0 good, 1 bad. After 0 both values of variable 1 are
-- good; after 0, 0 of variable 2 only 1 is, and open values keep to `CT`. Played out as 0, 0, 0: no. Rule 1 on four masks, the last that of the triples'
-- places, leaves {0} of variable 0.
abbrev pub triples : List ℕ
triples = file_with (existential 3 ∷ universal 3 ∷ existential 3 ∷ []) [] (among 0 1 2 (0 ∷ 0 ∷ 1 ∷ 0 ∷ 1 ∷ 0 ∷ []) ∷ [])

abbrev Triples : Row
Triples = row triples
    (after []
    (size gives number 31 ∷ reading gives counts 3 0 1 2 ∷ looking_up 0 1 gives none ∷ looking_up_ternary 0 gives body 19 10 ∷ looking_up_ternary 1 gives none
    ∷ judging gives yes ∷ marking gives good 1 3 ∷ opening gives opens (3 ∷ 3 ∷ 3 ∷ []) (2 ∷ 2 ∷ 2 ∷ [])
    ∷ arc (3 ∷ 3 ∷ 3 ∷ 3 ∷ []) gives no_loss ∷ arc_leaving (3 ∷ 3 ∷ 3 ∷ 3 ∷ []) gives replied (1 ∷ 3 ∷ 3 ∷ 3 ∷ []) ∷ arc (3 ∷ 3 ∷ 3 ∷ []) gives refused 13 ∷ [])
    ∷ after (play 0 ∷ []) (judging gives yes ∷ marking gives good 3 3 ∷ [])
    ∷ after (play 1 ∷ []) (judging gives no ∷ marking gives good 0 3 ∷ [])
    ∷ after (play 0 ∷ play 0 ∷ []) (judging gives yes ∷ marking gives good 2 3 ∷ opening gives opens (1 ∷ 1 ∷ 3 ∷ []) (1 ∷ 1 ∷ 2 ∷ []) ∷ [])
    ∷ after (play 0 ∷ play 0 ∷ play 0 ∷ []) (judging gives no ∷ marking gives refused 22 ∷ calling (play 0) gives refused 20 ∷ [])
    ∷ [])

abbrev pub table : List Row
table = G1 ∷ G2 ∷ G3 ∷ G4 ∷ G5 ∷ G6 ∷ G7 ∷ G8 ∷ G9 ∷ G10 ∷ Triples ∷ []
