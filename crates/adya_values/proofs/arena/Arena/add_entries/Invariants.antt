-- The entries so far have been added, and there is room for the others if there was room for all.
use Rattle.std.proofs.Common.{◌≡◌, ◌++◌, ◌-◌, length, map, take}
use Rattle.adya_values.specs.Mirror.Events.{entries_of}
use Rattle.adya_values.specs.Machinery.Packed.{entry_of_seen, Extends, CanSee}
use Rattle.adya_values.proofs.arena.Arena.add_entries.Given as goal

pub record AreAdded (l : goal.Live-loop-j) : Type 0 where
  pub extends : Extends l.fn.self l.self
  pub listings : l.self.listings ≡ l.fn.self.listings
  pub entries : map (entry_of_seen l.self) l.self.seen.items
      ≡ map (entry_of_seen l.fn.self) l.fn.self.seen.items ++ take l.j (entries_of l.entries)
  pub room : CanSee l.fn.self (length (entries_of l.entries)) → CanSee l.self (length (entries_of l.entries) - l.j)

abbrev pub invariant-loop-j : goal.invariant-loop-j
invariant-loop-j l = AreAdded l
