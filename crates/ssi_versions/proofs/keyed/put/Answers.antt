use Rattle.std.proofs.Common.{rules, sym, ◌∙◌, ap, ◌+◌, length, if◌then◌else◌}
use Rattle.std.specs.BTreeMap.{is_at}
use Rattle.std.specs.Ordering.{nat_cmp}
use Rattle.std.specs.Cmp.Lexicographic.{slice_cmp}
use Rattle.ssi_versions.specs.Machinery.Keyed.{is_owned, versions, filled_count}
use Rattle.ssi_versions.proofs.Entries.{put_at, room_other, owned-put, count-put, filled-put, empty_count}
use Rattle.ssi_versions.proofs.keyed.put.Goals as goal

pub returns-in-Some-clause-added : goal.returns-in-Some-clause-added
returns-in-Some-clause-added c = λ q.
    put_at _ _ (record { held = c.args.held }) q c.in-Some.chain.now c.push_reserved.new.self (sym c.in-Some.ensures.value) c.push_reserved.ensures.items
    (((c.get_mut.follows.holds c.push_reserved.new.self).3 (Prim.search rules)).0 q)

pub returns-in-Some-clause-keeps : goal.returns-in-Some-clause-keeps
returns-in-Some-clause-keeps c = λ q other room.
    room_other _ _ c.args.held.version.key q c.push_reserved.new.self other (((c.get_mut.follows.holds c.push_reserved.new.self).3 (Prim.search rules)).0 q) room

pub returns-in-Some-clause-owned : goal.returns-in-Some-clause-owned
returns-in-Some-clause-owned c = λ owned.
    ap is_owned (c.get_mut.follows.holds c.push_reserved.new.self).0
    ∙ owned-put _ (record { held = c.args.held }) c.in-Some.chain.now c.push_reserved.new.self (sym c.in-Some.ensures.value) c.push_reserved.ensures.items owned

pub returns-in-Some-clause-count : goal.returns-in-Some-clause-count
returns-in-Some-clause-count c =
    ap (λ es. length (versions es)) (c.get_mut.follows.holds c.push_reserved.new.self).0
    ∙ count-put (is_at (slice_cmp nat_cmp c.args.held.version.key)) c.args.chains.now.entries (record { held = c.args.held }) c.in-Some.chain.now c.push_reserved.new.self (sym c.in-Some.ensures.value) c.push_reserved.ensures.items

pub returns-in-Some-clause-filled : goal.returns-in-Some-clause-filled
returns-in-Some-clause-filled c =
    ap filled_count (c.get_mut.follows.holds c.push_reserved.new.self).0
    ∙ filled-put (is_at (slice_cmp nat_cmp c.args.held.version.key)) c.args.chains.now.entries (record { held = c.args.held }) c.in-Some.chain.now c.push_reserved.new.self (sym c.in-Some.ensures.value) c.push_reserved.ensures.items
    ∙ ap (λ n. filled_count c.args.chains.now.entries + n) (empty_count c.in-Some.chain.now ∙ ap (λ b. if b then 1 else 0) (sym c.is_empty-opened.ensures))
