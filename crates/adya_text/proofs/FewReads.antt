-- Reads that are counted with the bytes that they bring.
use Rattle.std.proofs.Common.{ℕ, ◌+◌, ◌<◌, ◌≤◌, List, [], ◌++◌, length, Option, arith}
use Rattle.std.proofs.lemmas.List.{length-append}
use Rattle.std.specs.Io.KnownBytes.{Consumes}
use Rattle.std.proofs.KnownBytes.{Consumes-nil, Consumes-trans}
use Rattle.devices.specs.Clauses.Reading.{TookFewReads}

module _ {D : Type 0} (remaining : D → Option (List ℕ)) (left : D → ℕ) where
  pub took_none : (a : D) → TookFewReads remaining left a a 0
  took_none a = record { bytes = []; consumed = Consumes-nil (remaining a); few = omega arith }

  pub took_then : (a b c : D) (i j : ℕ) → TookFewReads remaining left a b i → TookFewReads remaining left b c j
      → TookFewReads remaining left a c (i + j)
  took_then a b c i j first second = record {
    bytes = first.bytes ++ second.bytes;
    consumed = Consumes-trans (remaining a) (remaining b) (remaining c) first.bytes second.bytes first.consumed second.consumed;
    few = omega (arith, first.few, second.few, length-append first.bytes second.bytes);
  }

  pub took_idle : (a b : D) → TookFewReads remaining left a b 0 → TookFewReads remaining left a b 1
  took_idle a b took = record { bytes = took.bytes; consumed = took.consumed; few = omega (arith, took.few) }

  -- one read that brought some bytes
  pub took_some : (a b c : D) (bytes : List ℕ) → TookFewReads remaining left a b 0
      → Consumes (remaining b) (remaining c) bytes → left b ≤ left c + 1 → 0 < length bytes
      → TookFewReads remaining left a c 0
  took_some a b c bytes first more one some = took_then a b c 0 0 first
      (record { bytes = bytes; consumed = more; few = omega (arith, one, some) })

  -- one read that may have brought none
  pub took_last : (a b c : D) (bytes : List ℕ) → TookFewReads remaining left a b 0
      → Consumes (remaining b) (remaining c) bytes → left b ≤ left c + 1 → TookFewReads remaining left a c 1
  took_last a b c bytes first more one = took_then a b c 0 1 first
      (record { bytes = bytes; consumed = more; few = omega (arith, one) })
