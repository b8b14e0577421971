-- The longest file; what stands further behind decides nothing.
use Prim.Native.Nat.{ℕ, ◌≤◌, ◌<◌}
use mathlib.Core.Path.{◌≡◌, refl, sym, ap, ◌∙◌}
use mathlib.Core.List.{List}
use lib.ListN.{length, get_or, take, replicate}
use lib.Seq.{take_all}
use native.Mathlib.Nat.{le_refl}
use native.Mathlib.Omega.{arith}
use Rattle.std.specs.Prelude.{Ok, Err}
use Rattle.refusal.specs.declared.reason.Fault.{Fault}
use Rattle.refusal.specs.Chain.{Verdict, Fine}
use Rattle.refusal.specs.Told.{fault_told}
use Rattle.file_layout.proofs.FrontLaws.{take_front}
use Rattle.file_records.specs.Records.{verdict_of}
use Rattle.file_records.proofs.FrontLaws.{verdict_front}
use Rattle.file_reader.specs.Reading.{header_for, domains_for, header_of, domains_of}
use Rattle.file_reader.proofs.Accepted.{accepted, accepted_end, header_is, domains_is}

-- "at most 17,994 bytes".
pub longest : (f : List ℕ) → verdict_of f ≡ Fine → length f ≤ 17994
longest f q =
    let a = accepted f q in
    omega (arith, a.size, accepted_end f a)

-- The first 18,763 bytes of any file are accepted or refused as the whole is, with the same number and place: a `TT` behind the longest constraints, at 17,992,
-- is 27 where its whole body stands, of up to 769 bytes, and else 1.
pub long_tail : (f : List ℕ) → ((k : ℕ) → get_or f k 0 < 256) → verdict_of (take 18763 f) ≡ verdict_of f
long_tail f bytes = verdict_front 18763 (take 18763 f) f (take_front 18763 f) bytes (le_refl 18763)

-- An accepted file lies within them.
pub front_whole : (f : List ℕ) → verdict_of f ≡ Fine → take 18763 f ≡ f
front_whole f q = take_all 18763 f (omega (arith, longest f q))

-- So every reply that is the refusal alone of a refused file is that of the first 18,763 bytes: the reader's header, and its domains.
pub reply_tail : {A : Type 0} (reply : List ℕ → A) (refusal : Fault → A) → ((f : List ℕ) (e : Fault) → verdict_of f ≡ Err e → reply f ≡ refusal e) →
    (f : List ℕ) → ((k : ℕ) → get_or f k 0 < 256) → reply (take 18763 f) ≡ reply f
reply_tail {A} reply refusal refuses f bytes = go (verdict_of f) refl
  where
    go : (v : Verdict) → verdict_of f ≡ v → reply (take 18763 f) ≡ reply f
    go (Ok u) q = ap reply (front_whole f q)
    go (Err e) q = refuses (take 18763 f) e (long_tail f bytes ∙ q) ∙ sym (refuses f e q)

pub header_tail : (f : List ℕ) → ((k : ℕ) → get_or f k 0 < 256) → header_of (take 18763 f) ≡ header_of f
unfolding header_for
header_tail = reply_tail header_of fault_told (λ f e q. header_is f (Err e) q)

pub domains_tail : (f : List ℕ) → ((k : ℕ) → get_or f k 0 < 256) → domains_of (take 18763 f) ≡ domains_of f
unfolding domains_for
domains_tail = reply_tail domains_of (λ e. replicate 32 0) (λ f e q. domains_is f (Err e) q)
