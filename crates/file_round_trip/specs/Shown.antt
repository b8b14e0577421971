-- What reading a file and looking up every pair and every three-way constraint shows, as the numbers that the writer is handed.
use Rattle.std.specs.Prelude.{ℕ, ◌-◌, ◌≡◌, List, ◌++◌, take, replicate}
use Rattle.refusal.specs.Told.{replied}
use Rattle.file_reader.specs.declared.Head.{Head}
use Rattle.file_reader.specs.Reading.{header_numbers, header_of, domains_of}
use Rattle.file_lookup.specs.Lookup.{constraints_shown}
use Rattle.file_lookup.specs.Ternary.{ternaries_shown}
use Rattle.file_bytes.specs.Bytes.{Handed, handed, count_in}

-- What is shown of f beside the header x, handed on.
abbrev pub shown_with : Head → List ℕ → Handed
shown_with x f = handed x.n x.m x.rules x.universal (take x.n (domains_of f)) (constraints_shown f) (ternaries_shown f)

-- The header of numbers.
abbrev pub head_in : Handed → Head
head_in h = record { n = h.n; m = h.m; t = count_in h.ternaries; rules = h.rules; universal = h.universal }

-- Reading f, looking up every pair and showing every three-way constraint shows these numbers: n domains, and zero behind them.
pub record Shown (f : List ℕ) (h : Handed) : Type 0 where
  pub header : header_of f ≡ replied (header_numbers (head_in h))
  pub masks : domains_of f ≡ h.domains ++ replicate (32 - h.n) 0
  pub rows : constraints_shown f ≡ h.constraints
  pub bodies : ternaries_shown f ≡ h.ternaries
