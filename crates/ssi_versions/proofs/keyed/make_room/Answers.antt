use Rattle.std.proofs.Common.{rules, arith, sym, ◌∙◌, ap, length}
use Rattle.std.specs.BTreeMap.{is_at}
use Rattle.std.specs.Ordering.{nat_cmp}
use Rattle.std.specs.Cmp.Lexicographic.{slice_cmp}
use Rattle.ssi_versions.specs.Machinery.Keyed.{is_owned, versions, held_at, filled_count}
use Rattle.ssi_versions.proofs.Entries.{same_at, new_at, room_at, versions-same, versions-insert, owned-same, owned-insert, filled-same, filled-insert}
use Rattle.ssi_versions.proofs.keyed.make_room.Goals as goal

pub returns-in-Some-clause-same : goal.returns-in-Some-clause-same
returns-in-Some-clause-same c = λ q.
    same_at _ _ c.args.key q c.in-Some.chain.now c.reserve.new.self (sym c.in-Some.ensures.value) c.reserve.ensures.items
    (((c.get_mut.follows.holds c.reserve.new.self).3 (Prim.search rules)).0 q)

pub returns-in-Some-clause-keeps : goal.returns-in-Some-clause-keeps
returns-in-Some-clause-keeps c = λ q.
    room_at _ _ c.args.key q c.in-Some.chain.now c.reserve.new.self (sym c.in-Some.ensures.value) (λ r. omega (arith, ap length c.reserve.ensures.items))
    (((c.get_mut.follows.holds c.reserve.new.self).3 (Prim.search rules)).0 q)

pub returns-in-Some-clause-versions : goal.returns-in-Some-clause-versions
returns-in-Some-clause-versions c =
    ap versions (c.get_mut.follows.holds c.reserve.new.self).0
    ∙ versions-same (is_at (slice_cmp nat_cmp c.args.key)) c.args.chains.now.entries c.in-Some.chain.now c.reserve.new.self (sym c.in-Some.ensures.value) c.reserve.ensures.items

pub returns-in-Some-clause-owned : goal.returns-in-Some-clause-owned
returns-in-Some-clause-owned c =
    ap is_owned (c.get_mut.follows.holds c.reserve.new.self).0
    ∙ owned-same (is_at (slice_cmp nat_cmp c.args.key)) c.args.chains.now.entries c.in-Some.chain.now c.reserve.new.self (sym c.in-Some.ensures.value) c.reserve.ensures.items

pub returns-in-Some-clause-filled : goal.returns-in-Some-clause-filled
returns-in-Some-clause-filled c =
    ap filled_count (c.get_mut.follows.holds c.reserve.new.self).0
    ∙ filled-same (is_at (slice_cmp nat_cmp c.args.key)) c.args.chains.now.entries c.in-Some.chain.now c.reserve.new.self (sym c.in-Some.ensures.value) c.reserve.ensures.items

pub returns-clause-same : goal.returns-clause-same
returns-clause-same c = λ q.
    new_at c.get_mut.follows.lender-at-none.entries _ c.args.key q c.new.result (Prim.search rules) c.new.ensures.items (c.in_ok-insert.ensures.updates.0 q)
    ∙ ap (λ m. held_at q m.entries) c.get_mut.follows.holds-at-none

pub returns-clause-versions : goal.returns-clause-versions
returns-clause-versions c = ap versions c.in_ok-insert.ensures.entries
    ∙ versions-insert c.args.key c.get_mut.follows.lender-at-none.entries c.new.result (Prim.search rules) c.new.ensures.items
    ∙ ap (λ m. versions m.entries) c.get_mut.follows.holds-at-none

pub returns-clause-owned : goal.returns-clause-owned
returns-clause-owned c = ap is_owned c.in_ok-insert.ensures.entries
    ∙ owned-insert c.args.key c.get_mut.follows.lender-at-none.entries c.new.result (Prim.search rules) c.new.ensures.items
    ∙ ap (λ m. is_owned m.entries) c.get_mut.follows.holds-at-none

pub returns-clause-filled : goal.returns-clause-filled
returns-clause-filled c = ap filled_count c.in_ok-insert.ensures.entries
    ∙ filled-insert c.args.key c.get_mut.follows.lender-at-none.entries c.new.result (Prim.search rules) c.new.ensures.items
    ∙ ap (λ m. filled_count m.entries) c.get_mut.follows.holds-at-none
