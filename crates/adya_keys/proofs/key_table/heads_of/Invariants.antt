-- The first keys are chained.
use Rattle.std.proofs.Common.{◌≡◌, length, vec_capacity, vec_len}
use Rattle.adya_keys.specs.Machinery.Buckets.{AreChained}
use Rattle.adya_keys.specs.Machinery.Parts.{parts_of}
use Rattle.adya_keys.proofs.key_table.heads_of.Given as goal

pub record ChainsSome (l : goal.Live-loop-number) : Type 0 where
  pub chained : AreChained (parts_of l.texts) l.heads.items l.next.items l.number
  pub buckets : length l.heads.items ≡ l.buckets
  pub count : length l.next.items ≡ length l.initial.next.items
  pub len : vec_len l.next ≡ vec_len l.initial.next
  pub capacity : vec_capacity l.next ≡ vec_capacity l.initial.next

abbrev pub invariant-loop-number : goal.invariant-loop-number
invariant-loop-number l = ChainsSome l
