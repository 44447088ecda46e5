-- What a reason is an instance of (Adya 1999, sections 3.1 and 4.2).
use Rattle.std.specs.Prelude.{ℕ, zero, suc, nat_eq, ◌==◌, ◌&&◌, Bool, true, false, List, [], Option, Some, None, count_by, slice_get, codes, if◌then◌else◌}
use Rattle.std.specs.List.{list_any}
use Rattle.std.specs.Cmp.Lexicographic.{pointwise}
use Rattle.append_values.specs.declared.transaction.Outcome.{Outcome}
use Rattle.append_values.specs.declared.transaction.Outcome.TheVariants.{Committed, Aborted, Unknown}
use Rattle.append_values.specs.declared.transaction.Operation.{Operation}
use Rattle.append_values.specs.declared.transaction.Operation.TheVariants.{Append, Read as ReadOf, LostRead}
use Rattle.append_values.specs.declared.transaction.Transaction.{Transaction}
use Rattle.append_values.specs.declared.reason.Read.{Read}
use Rattle.append_values.specs.declared.reason.Link.{Link}
use Rattle.append_values.specs.declared.reason.Kind.{Kind}
use Rattle.append_values.specs.declared.reason.Kind.TheVariants as By
use Rattle.append_values.specs.declared.reason.Reason.{Reason}
use Rattle.append_values.specs.declared.reason.Reason.TheVariants as For
use Rattle.lists_verdicts.specs.declared.phenomenon.Phenomenon.{Phenomenon}
use Rattle.lists_verdicts.specs.declared.phenomenon.Phenomenon.TheVariants as It

abbrev pub is_anti_kind : Kind → Bool
is_anti_kind (By.ReadWrite read) = true
is_anti_kind (By.WriteRead read) = false
is_anti_kind (By.WriteWrite read) = false

abbrev pub is_read_kind : Kind → Bool
is_read_kind (By.WriteRead read) = true
is_read_kind (By.ReadWrite read) = false
is_read_kind (By.WriteWrite read) = false

-- an anti-dependency, and a read dependency
abbrev pub is_anti : Link → Bool
is_anti link = is_anti_kind link.kind

abbrev pub is_read : Link → Bool
is_read link = is_read_kind link.kind

-- by the numbers of its anti-dependencies and of its read dependencies
abbrev pub of_counts : ℕ → ℕ → Phenomenon
of_counts zero zero = It.WriteCycle
of_counts zero (suc reads) = It.InformationCycle
of_counts (suc zero) reads = It.SingleAntiDependency
of_counts (suc (suc more)) reads = It.AntiDependencies

abbrev pub of_cycle : List Link → Phenomenon
of_cycle links = of_counts (count_by is_anti links) (count_by is_read links)

abbrev pub appends : ℕ → ℕ → Operation → Bool
appends key element (Append k x) = (k == key) && (x == element)
appends key element (ReadOf k xs) = false
appends key element (LostRead k) = false

abbrev pub is_aborted : Outcome → Bool
is_aborted Committed = false
is_aborted Aborted = true
is_aborted Unknown = false

abbrev pub is_aborted_append : ℕ → ℕ → Transaction → Bool
is_aborted_append key element t = is_aborted t.outcome && list_any (appends key element) t.operations.items

abbrev pub key_of : Option Operation → Option ℕ
key_of None = None
key_of (Some (ReadOf k xs)) = Some k
key_of (Some (Append k x)) = None
key_of (Some (LostRead k)) = None

abbrev pub step_of : Option Transaction → ℕ → Option Operation
step_of None step = None
step_of (Some t) step = slice_get t.operations.items step

abbrev pub key_read : List Transaction → Read → Option ℕ
key_read ts read = key_of (step_of (slice_get ts read.transaction) read.step)

abbrev pub elements_of : Option Operation → List ℕ
elements_of None = []
elements_of (Some (ReadOf k xs)) = xs.items
elements_of (Some (Append k x)) = []
elements_of (Some (LostRead k)) = []

abbrev pub elements_read : List Transaction → Read → List ℕ
elements_read ts read = elements_of (step_of (slice_get ts read.transaction) read.step)

-- if both found the same list, one lost the other's update. Else the lists themselves have no common order
abbrev pub of_incompatible : List Transaction → Read → Read → Phenomenon
of_incompatible ts one other = if pointwise nat_eq (elements_read ts one) (elements_read ts other) then It.LostUpdate else It.IncompatibleOrder

-- an element that an aborted transaction appended to the key that was read, or nobody
abbrev pub of_append : List Transaction → Option ℕ → ℕ → Phenomenon
of_append ts None element = It.Unwritten
of_append ts (Some key) element = if list_any (is_aborted_append key element) ts then It.AbortedRead else It.Unwritten

abbrev pub of_unwritten : List Transaction → Read → ℕ → Phenomenon
of_unwritten ts read element = of_append ts (key_read ts read) element

abbrev pub phenomenon_of : List Transaction → Reason → Phenomenon
phenomenon_of ts (For.Internal read) = It.Internal
phenomenon_of ts (For.Unrepeatable first second) = It.Unrepeatable
phenomenon_of ts (For.Twice read element) = It.DuplicateElements
phenomenon_of ts (For.Unwritten read element) = of_unwritten ts read element
phenomenon_of ts (For.DirtyUpdate read aborted element) = It.DirtyUpdate
phenomenon_of ts (For.Future read element) = It.Future
phenomenon_of ts (For.Intermediate read writer) = It.IntermediateRead
phenomenon_of ts (For.Incompatible one other) = of_incompatible ts one other
phenomenon_of ts (For.Cycle links) = of_cycle links.items

abbrev pub name_of : Phenomenon → List ℕ
name_of It.Internal = codes "internal"
name_of It.Unrepeatable = codes "unrepeatable"
name_of It.DuplicateElements = codes "duplicate elements"
name_of It.Unwritten = codes "unwritten"
name_of It.AbortedRead = codes "G1a"
name_of It.DirtyUpdate = codes "dirty update"
name_of It.Future = codes "future"
name_of It.IntermediateRead = codes "G1b"
name_of It.IncompatibleOrder = codes "incompatible order"
name_of It.LostUpdate = codes "lost update"
name_of It.WriteCycle = codes "G0"
name_of It.InformationCycle = codes "G1c"
name_of It.SingleAntiDependency = codes "G-single"
name_of It.AntiDependencies = codes "G2-item"

-- what one instance is called
abbrev pub noun_of : Phenomenon → List ℕ
noun_of It.Internal = codes "internal read"
noun_of It.Unrepeatable = codes "unrepeatable read"
noun_of It.DuplicateElements = codes "duplicate read"
noun_of It.Unwritten = codes "unwritten read"
noun_of It.AbortedRead = codes "aborted read"
noun_of It.DirtyUpdate = codes "dirty update"
noun_of It.Future = codes "future read"
noun_of It.IntermediateRead = codes "intermediate read"
noun_of It.IncompatibleOrder = codes "incompatible order"
noun_of It.LostUpdate = codes "lost update"
noun_of It.WriteCycle = codes "write cycle"
noun_of It.InformationCycle = codes "circular information flow"
noun_of It.SingleAntiDependency = codes "single anti-dependency cycle"
noun_of It.AntiDependencies = codes "anti-dependency cycle"

-- of a link, by its kind
abbrev pub name_of_kind : Kind → List ℕ
name_of_kind (By.WriteWrite read) = codes "ww"
name_of_kind (By.WriteRead read) = codes "wr"
name_of_kind (By.ReadWrite read) = codes "rw"
