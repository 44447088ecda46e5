use Rattle.std.proofs.Common.{rules, ◌≡◌, [], ◌∷◌, ◌++◌, ◌+◌, ◌==◌, true, sym, subst, ◌∙◌, ap, length, if◌then◌else◌, Ok, Err, OnOk, OnErr, IfOk}
use Rattle.std.specs.Map.{set_value}
use Rattle.std.specs.BTreeMap.{is_at}
use Rattle.std.specs.Ordering.{nat_cmp}
use Rattle.std.specs.Cmp.Lexicographic.{slice_cmp}
use Rattle.std.proofs.lemmas.Result.{on_ok_weaker}
use Rattle.ssi_versions.specs.declared.place.Place.{Place}
use Rattle.ssi_versions.specs.Machinery.Plain.{as_held}
use Rattle.ssi_versions.specs.Machinery.Keyed.{versions, is_owned, filled_count}
use Rattle.ssi_versions.proofs.Entries.{put_at, versions-same, owned-put, owned-same, count-put, filled-put, filled-same, empty_count}
use Rattle.ssi_versions.proofs.keyed.add.Goals as goal

-- the version that is put
abbrev new : goal.After-chains-in-Some-1 → Place
new c = record { held = as_held c.args.stamp c.args.write.now }

pushed : (c : goal.After-chains-in-Some-1) → OnOk c.push.result (c.push.new.chain.items ≡ c.in-Some.chain.now.items ++ new c ∷ [])
pushed c = subst (λ x. OnOk c.push.result (c.push.new.chain.items ≡ c.in-Some.chain.now.items ++ record { held = x } ∷ [])) c.stamped.ensures c.push.ensures.ok

pub returns-in-Some-clause-added : goal.returns-in-Some-clause-added
returns-in-Some-clause-added c =
    on_ok_weaker c.push.result (λ items q. put_at _ _ (new c) q c.in-Some.chain.now c.push.new.chain (sym c.in-Some.ensures.value) items
    (((c.get_mut.follows.holds c.push.new.chain).3 (Prim.search rules)).0 q)) (pushed c)

pub returns-in-Some-clause-owned : goal.returns-in-Some-clause-owned
returns-in-Some-clause-owned c = λ owned.
    let test = is_at (slice_cmp nat_cmp c.args.write.now.0.key) in
    ap is_owned (c.get_mut.follows.holds c.push.new.chain).0
    ∙ elim c.push.result as (λ r. OnOk r (c.push.new.chain.items ≡ c.in-Some.chain.now.items ++ new c ∷ []) → OnErr r (c.push.new.chain.items ≡ c.in-Some.chain.now.items)
    → is_owned (set_value test c.args.chains.now.entries c.push.new.chain) ≡ true) [
      | Ok opened ↦ λ items same. owned-put _ (new c) c.in-Some.chain.now c.push.new.chain (sym c.in-Some.ensures.value) items owned
      | Err e ↦ λ items same. owned-same test c.args.chains.now.entries c.in-Some.chain.now c.push.new.chain (sym c.in-Some.ensures.value) same ∙ owned
    ] (pushed c) c.push.ensures.err

pub returns-in-Some-clause-count : goal.returns-in-Some-clause-count
returns-in-Some-clause-count c =
    on_ok_weaker c.push.result (λ items. ap (λ es. length (versions es)) (c.get_mut.follows.holds c.push.new.chain).0
    ∙ count-put (is_at (slice_cmp nat_cmp c.args.write.now.0.key)) c.args.chains.now.entries (new c) c.in-Some.chain.now c.push.new.chain (sym c.in-Some.ensures.value) items) (pushed c)

pub returns-in-Some-clause-filled : goal.returns-in-Some-clause-filled
returns-in-Some-clause-filled c =
    let was = filled_count c.args.chains.now.entries in
    let now = filled_count (c.get_mut.follows.lender c.push.new.chain).entries in
    elim c.push.result as (λ r. OnOk r (c.push.new.chain.items ≡ c.in-Some.chain.now.items ++ new c ∷ []) → IfOk r (λ opened. opened ≡ (length c.in-Some.chain.now.items == 0)) → IfOk r (λ opened. now ≡ was + (if opened then 1 else 0))) [
      | Ok opened ↦ λ items empty. ap filled_count (c.get_mut.follows.holds c.push.new.chain).0
          ∙ filled-put (is_at (slice_cmp nat_cmp c.args.write.now.0.key)) c.args.chains.now.entries (new c) c.in-Some.chain.now c.push.new.chain (sym c.in-Some.ensures.value) items
          ∙ ap (λ n. was + n) (empty_count c.in-Some.chain.now ∙ ap (λ b. if b then 1 else 0) (sym empty))
      | Err e ↦ λ items empty. tt
    ] (pushed c) c.push.ensures.opened

pub returns-in-Some-clause-refused : goal.returns-in-Some-clause-refused
returns-in-Some-clause-refused c =
    elim c.push.result as (λ r. OnErr r (c.push.new.chain.items ≡ c.in-Some.chain.now.items) → OnErr r (versions (c.get_mut.follows.lender c.push.new.chain).entries ≡ versions c.args.chains.now.entries)) [
      | Ok opened ↦ λ same. tt
      | Err e ↦ λ same. ap versions (c.get_mut.follows.holds c.push.new.chain).0
          ∙ versions-same (is_at (slice_cmp nat_cmp c.args.write.now.0.key)) c.args.chains.now.entries c.in-Some.chain.now c.push.new.chain (sym c.in-Some.ensures.value) same
    ] c.push.ensures.err

pub returns-in-Some-clause-refused_filled : goal.returns-in-Some-clause-refused_filled
returns-in-Some-clause-refused_filled c =
    elim c.push.result as (λ r. OnErr r (c.push.new.chain.items ≡ c.in-Some.chain.now.items) → OnErr r (filled_count (c.get_mut.follows.lender c.push.new.chain).entries ≡ filled_count c.args.chains.now.entries)) [
      | Ok opened ↦ λ same. tt
      | Err e ↦ λ same. ap filled_count (c.get_mut.follows.holds c.push.new.chain).0
          ∙ filled-same (is_at (slice_cmp nat_cmp c.args.write.now.0.key)) c.args.chains.now.entries c.in-Some.chain.now c.push.new.chain (sym c.in-Some.ensures.value) same
    ] c.push.ensures.err
