-- What reading tells: of an accepted file n, m, the number of `TT` records (document 02, card 7), the rule set or none, the universal bits
-- and the domains; else the number and the place, "Nothing else is returned". The crates above name a file's numbers and its verdict by what
-- this module passes on.
use Rattle.std.specs.Prelude.{ℕ, zero, suc, min, Bool, List, ◌∷◌, set, replicate, Result, Ok, Err, Option}
use Rattle.mask.specs.Mask.{mask_of}
use Rattle.refusal.specs.declared.reason.Fault.{Fault}
use Rattle.refusal.specs.Chain.{Verdict}
use Rattle.refusal.specs.Told.{Told, replied, fault_told, told_by, listed}
use Rattle.file_reader.specs.declared.Head.{Head}
use Rattle.file_reader.specs.declared.Reading.{Reading}
use Rattle.file_layout.specs.Layout.{rules_of, variables_at, domain_at, universal_at}
pub use Rattle.file_layout.specs.Layout.{n_of, m_of, t_of}
pub use Rattle.file_records.specs.Records.{verdict_of}

-- The rule set's number, if there is one.
abbrev pub rule_numbers : Option ℕ → List ℕ
rule_numbers = listed

-- The numbers of a header.
unfoldable pub header_numbers : Head → List ℕ
header_numbers h = h.n ∷ h.m ∷ h.t ∷ h.universal ∷ rule_numbers h.rules

-- Each case of the answer in document 01's numbers, and the domains that it shows.
abbrev pub told : Result Reading Fault → Told
told = told_by (λ (r : Reading). header_numbers r.head) fault_told

abbrev pub domains_shown : Result Reading Fault → List ℕ
domains_shown (Ok r) = r.domains
domains_shown (Err e) = replicate 32 0

-- "two bytes, a mask of options": a number of 16 bits. The bound cuts nothing in a slice, whose elements are bytes (`domain_read` in
-- `proofs/Accepted.antt`), and it keeps a domain that is not zero.
unfoldable pub domain_of : List ℕ → ℕ → ℕ
domain_of f i = min (domain_at f (variables_at f) i) 65535

-- "a choice of the day, universal".
unfoldable pub universal_of : List ℕ → ℕ → Bool
universal_of f i = universal_at f (variables_at f) i

-- The universal variables among the first n, as bits; and those of a file.
unfoldable pub universal_bits : List ℕ → ℕ → ℕ → ℕ
universal_bits f b n = mask_of n (universal_at f b)

abbrev pub universal_bits_of : List ℕ → ℕ
universal_bits_of f = universal_bits f (variables_at f) (n_of f)

-- The first k domains of 32, the others zero.
unfoldable pub domains_to : List ℕ → ℕ → ℕ → List ℕ
domains_to f b zero = replicate 32 0
domains_to f b (suc k) = set (domains_to f b k) k (domain_at f b k)

-- The numbers of a file.
unfoldable pub head_of : List ℕ → Head
head_of f = record { n = n_of f; m = m_of f; t = t_of f; rules = rules_of f; universal = universal_bits_of f }

unfoldable pub header_for : Verdict → List ℕ → Told
header_for (Ok u) f = replied (header_numbers (head_of f))
header_for (Err e) f = fault_told e

unfoldable pub domains_for : Verdict → List ℕ → List ℕ
domains_for (Ok u) f = domains_to f (variables_at f) (n_of f)
domains_for (Err e) f = replicate 32 0

-- What the header tells, and the domains.
unfoldable pub header_of : List ℕ → Told
header_of f = header_for (verdict_of f) f

unfoldable pub domains_of : List ℕ → List ℕ
domains_of f = domains_for (verdict_of f) f
