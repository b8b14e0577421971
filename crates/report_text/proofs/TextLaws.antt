-- How long the texts are at most, where every number has at most 20 digits.
use Prim.Native.Nat.{ℕ, zero, suc, ◌+◌, ◌*◌, ◌^◌, ◌≤◌, ◌<◌}
use mathlib.Core.Bool.{Bool, true, false, cond}
use mathlib.Core.List.{List, [], ◌∷◌}
use lib.ListN.{length, length-append}
use native.Mathlib.Omega.{arith}
use Rattle.mask.specs.Mask.{bit}
use Rattle.refusal.specs.declared.reason.Reason.{Reason}
use Rattle.refusal.specs.declared.reason.Reason.TheVariants.{Short, Mark, Count, Domain, Pair, Order, Stray, Rules, Tail, Value, Variable, Room, Lent, Full, Bare, Done, Misfit, Locked, Depth, Triple, Many}
use Rattle.refusal.specs.declared.reason.Fault.{Fault}
use Rattle.refusal.specs.Reason.{number_of}
use Rattle.buffer.specs.Stored.{joined, together}
use Rattle.buffer.specs.Decimal.{decimal}
use Rattle.report_text.specs.Text.{choices_label, tables_label, rules_label, verdict_text, side_of, mark_of, number_line, answer_line, next_line, option_line, option_text, options_text, head_text, reply_text, refused_text, fault_text}
use Rattle.buffer.proofs.DecimalLaws.{decimal_short}

-- A part and the others behind it.
long : (k m : ℕ) (x : List ℕ) (xs : List (List ℕ)) → length x ≤ k → length (together xs) ≤ m → length (together (x ∷ xs)) ≤ k + m
unfolding together
long k m x xs h g = omega (arith, length-append x (together xs), h, g)

none : length (together []) ≤ 0
unfolding together
none = omega arith

digits : (x : ℕ) → x < 10 ^ 20 → length (decimal x) ≤ 20
digits x h = decimal_short 19 x h

number_long : (label : List ℕ) (x : ℕ) → length label ≤ 8 → x < 10 ^ 20 → length (number_line label x) ≤ 29
unfolding number_line
number_long label x l h = long 8 21 _ _ l (long 20 1 _ _ (digits x h) (long 1 0 _ _ (omega arith) none))

answer_long : (won : Bool) → length (answer_line won) ≤ 11
unfolding answer_line verdict_text
answer_long won = long 7 4 _ _ (omega arith) (long 3 1 _ _ (word won) (long 1 0 _ _ (omega arith) none))
  where
    word : (b : Bool) → length (verdict_text b) ≤ 3
    word true = omega arith
    word false = omega arith

next_long : (next : ℕ) (universal : Bool) → next < 10 ^ 20 → length (next_line next universal) ≤ 32
unfolding next_line side_of
next_long next universal h =
    long 5 27 _ _ (omega arith) (long 20 7 _ _ (digits next h) (long 1 6 _ _ (omega arith) (long 5 1 _ _ (word universal) (long 1 0 _ _ (omega arith) none))))
  where
    word : (b : Bool) → length (side_of b) ≤ 5
    word true = omega arith
    word false = omega arith

option_long : (a : ℕ) (winning : Bool) → a < 10 ^ 20 → length (option_line a winning) ≤ 33
unfolding option_line mark_of
option_long a winning h =
    long 7 26 _ _ (omega arith) (long 20 6 _ _ (digits a h) (long 1 5 _ _ (omega arith) (long 4 1 _ _ (word winning) (long 1 0 _ _ (omega arith) none))))
  where
    word : (b : Bool) → length (mark_of b) ≤ 4
    word true = omega arith
    word false = omega arith

value_long : (domain winning a : ℕ) → a < 16 → length (option_text domain winning a) ≤ 33
unfolding option_text
value_long domain winning a h = go (bit domain a)
  where
    go : (b : Bool) → length (cond b (option_line a (bit winning a)) []) ≤ 33
    go true = option_long a (bit winning a) (omega (arith, h))
    go false = omega arith

options_long : (domain winning k : ℕ) → k ≤ 16 → length (options_text domain winning k) ≤ 33 * k
unfolding options_text joined
options_long domain winning zero h = omega arith
options_long domain winning (suc k) h =
    omega (arith, length-append (joined (option_text domain winning) k) (option_text domain winning k), options_long domain winning k (omega (arith, h)), value_long domain winning k h)

head_long : (n m set : ℕ) → n < 10 ^ 20 → m < 10 ^ 20 → set < 10 ^ 20 → length (head_text n m set) ≤ 87
unfolding head_text
head_long n m set h i j =
    long 29 58 _ _ (number_long choices_label n (omega arith) h) (long 29 29 _ _ (number_long tables_label m (omega arith) i) (long 29 0 _ _ (number_long rules_label set (omega arith) j) none))

pub reply_long : (n m set : ℕ) (won : Bool) (next : ℕ) (universal : Bool) (domain winning : ℕ) → n < 10 ^ 20 → m < 10 ^ 20 → set < 10 ^ 20 → next < 10 ^ 20
    → length (reply_text n m set won next universal domain winning) ≤ 658
unfolding reply_text
reply_long n m set won next universal domain winning h i j k =
    long 87 571 _ _ (head_long n m set h i j) (long 11 560 _ _ (answer_long won) (long 32 528 _ _ (next_long next universal k) (long 528 0 _ _ (options_long domain winning 16 (omega arith)) none)))

pub refused_long : (number place : ℕ) → number < 10 ^ 20 → place < 10 ^ 20 → length (refused_text number place) ≤ 53
unfolding refused_text
refused_long number place h i =
    long 8 45 _ _ (omega arith) (long 20 25 _ _ (digits number h) (long 4 21 _ _ (omega arith) (long 20 1 _ _ (digits place i) (long 1 0 _ _ (omega arith) none))))

-- Every reason's number is a byte.
number_small : (e : Reason) → number_of e ≤ 255
number_small Short = omega arith
number_small Mark = omega arith
number_small Count = omega arith
number_small Domain = omega arith
number_small Pair = omega arith
number_small Order = omega arith
number_small Stray = omega arith
number_small Rules = omega arith
number_small Tail = omega arith
number_small Value = omega arith
number_small Variable = omega arith
number_small Room = omega arith
number_small Lent = omega arith
number_small Full = omega arith
number_small Bare = omega arith
number_small Done = omega arith
number_small Misfit = omega arith
number_small Locked = omega arith
number_small Depth = omega arith
number_small Triple = omega arith
number_small Many = omega arith

pub fault_long : (e : Fault) → e.place < 10 ^ 20 → length (fault_text e) ≤ 53
unfolding fault_text
fault_long e h = refused_long _ _ (omega (arith, number_small e.reason)) h
