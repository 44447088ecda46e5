use Rattle.std.proofs.Common.{◌≡◌, ◌∙◌, ap, map, if◌then◌else◌, None, true}
use Rattle.adya_keys.specs.Meaning.Keys.{keys_rise, lies_in}
use Rattle.adya_values.specs.Mirror.Events.{entry_of}
use Rattle.adya_values.specs.Meaning.Events.{listed}
use Rattle.ssi_versions.specs.Meaning.Changes.{otherwise, entry_in}
use Rattle.ssi_versions.specs.Clauses.ByStamp.{newest_within}
use Rattle.ssi_versions.specs.Mirror.{held_of, found_in, chain_of}
use Rattle.ssi_snapshot.specs.Clauses.Listings.{keys}
use Rattle.ssi_snapshot.specs.Mirror.{own}
use Rattle.ssi_snapshot.specs.Machinery.Stored.{are_keyed, entry_key, stored_at}
use Rattle.ssi_snapshot.proofs.Merging.{rising_values, listed_values, both_shown}
use Rattle.ssi_snapshot.proofs.view.View.scan.Goals as goal

pub returns : goal.returns
returns g c =
    let es = c.put_own.new.seen.entries in
    let keyed : are_keyed entry_key es ≡ true = c.put_own.ensures.keyed (c.put_held.ensures.keyed (ap (are_keyed entry_key) c.new-seen.ensures.empty)) in
    record {
      rising = ap (λ ws. keys_rise (keys (map entry_of ws))) c.in_ok-entries.ensures.all ∙ rising_values es keyed c.in_ok-entries.ensures.ordered;
      each = λ key.
          let inside = lies_in c.args.low c.args.high key in
          let mine = own key c.args.self.now in
          let held = newest_within c.args.self.now.snapshot (chain_of key (g.C.Chains.held c.args.chains.now)) in
          let committed : stored_at key c.put_held.new.seen.entries ≡ otherwise (entry_in (if inside then held else None)) None =
          c.in_ok-put_held.ensures.stored key
          ∙ ap (λ xs. otherwise (entry_in (found_in key (map held_of c.as_slice.result.now))) (stored_at key xs)) c.new-seen.ensures.empty
          ∙ ap (λ hs. otherwise (entry_in (found_in key (map held_of hs))) None) c.as_slice.ensures.value
          ∙ ap (λ o. otherwise (entry_in o) None) (c.in_ok-held.ensures.found key) in
          ap (λ ws. listed key (map entry_of ws)) c.in_ok-entries.ensures.all ∙ listed_values key es keyed
          ∙ c.in_ok-put_own.ensures.stored key
          ∙ ap (λ ws. otherwise (if inside then listed key ws else None) (stored_at key c.put_held.new.seen.entries)) c.writes.ensures.all
          ∙ ap (otherwise (if inside then mine else None)) committed
          ∙ both_shown inside mine held;
    }
