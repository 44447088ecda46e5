-- The courses to which lines lead.
use Rattle.std.proofs.Common.{◌≡◌, Bool, true, false, List, [], ◌∷◌, ◌++◌, refl, sym, ◌∙◌, ap, subst, inl, append_assoc}
use Rattle.std.proofs.lemmas.Bool.{lt-ltb}
use Rattle.adya_keys.specs.Meaning.Keys.{Bytes}
use Rattle.ssi_conflict.specs.Computing.Steps.{smallest_ordered_pivot}
use Rattle.ssi_store.specs.Meaning.Acts.{Act, acts, act_by}
use Rattle.ssi_store.specs.Meaning.Courses.{Command, Begin, Get, Put, Del, Scan, ScanFirst, Commit, Abort, Collect, Stat, Course, txn_for}
use Rattle.ssi_store.specs.Clauses.Following.{Follows, is_proper}
use Rattle.ssi_line.specs.Meaning.Spelling.{IsCommand}
use Rattle.ssi_durable.specs.Meaning.Lines.{is_comment}
use Rattle.ssi_durable.specs.Meaning.Replays.{LeadsIf, Replays, answer_after}

-- a limit is at least one row
proper : (c : Command) → IsCommand c → is_proper c ≡ true
proper (Begin s) good = refl
proper (Get s k) good = refl
proper (Put s k v) good = refl
proper (Del s k) good = refl
proper (Scan s low high) good = refl
proper (ScanFirst s low high n) good = lt-ltb 0 n good.3.0
proper (Commit s) good = refl
proper (Abort s) good = refl
proper Collect good = refl
proper Stat good = refl

abbrev pub Follow : Course → Type 0
Follow c = Follows smallest_ordered_pivot c

follows_one : (comment : Bool) (c : Course) (line : Bytes) (next : Course) → LeadsIf comment c line next → Follow c → Follow next
follows_one true c line next lead f = subst Follow (sym lead) f
follows_one false c line next lead f =
    subst Follow (sym lead.is_next) (proper lead.command lead.is_line.good, inl refl, f)

-- each answer is the reply
pub follows : (lines : List Bytes) (c end : Course) → Replays c lines end → Follow c → Follow end
follows [] c end r f = subst Follow (sym r) f
follows (line ∷ lines) c end r f = follows lines r.0 end r.2 (follows_one (is_comment line) c line r.0 r.1 f)

-- the acts of a course after another one
pub record IsLonger (log : List Act) (all : List Act) : Type 0 where
  pub more : List Act
  pub is : all ≡ more ++ log

longer_one : (comment : Bool) (c : Course) (line : Bytes) (next : Course) → LeadsIf comment c line next → IsLonger (acts c) (acts next)
longer_one true c line next lead = record { more = []; is = ap acts lead }
longer_one false c line next lead =
    record { more = act_by (txn_for lead.command c) lead.command (answer_after c lead.command); is = ap acts lead.is_next }

pub longer : (lines : List Bytes) (c end : Course) → Replays c lines end → IsLonger (acts c) (acts end)
longer [] c end r = record { more = []; is = ap acts r }
longer (line ∷ lines) c end r =
    let first = longer_one (is_comment line) c line r.0 r.1 in
    let rest = longer lines r.0 end r.2 in
    record {
      more = rest.more ++ first.more;
      is = rest.is ∙ ap (λ l. rest.more ++ l) first.is ∙ sym (append_assoc rest.more first.more (acts c));
    }
