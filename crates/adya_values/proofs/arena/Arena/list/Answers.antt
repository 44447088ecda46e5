use Rattle.std.proofs.Common.{◌≡◌, ◌∙◌, ◌+◌, ◌*◌, ◌≤◌, ℕ, length, map, ap, sym, subst, arith, refl, Vec, Global, vec_len, vec_capacity}
use Rattle.adya_keys.specs.Machinery.KeyTables.{keys_in}
use Rattle.std.proofs.Math.Bool.{false≢true}
use Rattle.std.proofs.lemmas.Result.{IfOk-from_err}
use Rattle.std.specs.Result.{is_ok}
use Rattle.adya_values.specs.declared.seen.Seen.{Seen}
use Rattle.std.proofs.lemmas.Bool.{and_from, le-leb}
use Rattle.std.proofs.lemmas.List.{length-append, length-map}
use Rattle.adya_values.specs.Meaning.Histories.{Scan}
use Rattle.adya_values.specs.Mirror.Events.{entries_of}
use Rattle.adya_keys.specs.Machinery.Within.{key_at, part}
use Rattle.adya_values.specs.Machinery.Packed.{entry_of_seen, listing_of, CanNumber}
use Rattle.adya_keys.proofs.Within.{IsKeyAt, found_key, key_stays_in, last_part}
use Rattle.adya_values.proofs.PackedRows.{extends_keys, extends_trans}
use Rattle.adya_values.proofs.PackedRows.{numbers_less}
use Rattle.adya_values.proofs.arena.Arena.list.Goals as goal

pub returns-in_err-low-clause-extends : goal.returns-in_err-low-clause-extends
returns-in_err-low-clause-extends c =
    extends_keys _ _ c.number.ensures.front c.number.ensures.bytes c.number.ensures.listings c.number.ensures.seen

pub returns-in_err-low-clause-listings : goal.returns-in_err-low-clause-listings
returns-in_err-low-clause-listings c = c.number.ensures.listings

pub returns-in_err-low-clause-listed : goal.returns-in_err-low-clause-listed
returns-in_err-low-clause-listed c = IfOk-from_err c.from_residual.result _ c.from_residual.ensures.0

pub returns-in_err-low-clause-scan : goal.returns-in_err-low-clause-scan
returns-in_err-low-clause-scan c t = IfOk-from_err c.from_residual.result _ c.from_residual.ensures.0

pub returns-in_err-low-clause-succeeds : goal.returns-in_err-low-clause-succeeds
returns-in_err-low-clause-succeeds c room =
    let n = length (entries_of c.args.entries.now) in
    let fits = c.number.ensures.succeeds (numbers_less _ _ (n + 1) 1 (subst (CanNumber c.args.self.now.keys (vec_capacity c.args.self.now.last_values)) (omega arith) room.keys)) in
    absurd (false≢true (sym (ap is_ok c.in_err-low.was) ∙ fits))

pub returns-in_err-high-clause-extends : goal.returns-in_err-high-clause-extends
returns-in_err-high-clause-extends c =
    extends_trans c.args.self.now c.number.new.self c.number-2.new.self
    (extends_keys _ _ c.number.ensures.front c.number.ensures.bytes c.number.ensures.listings c.number.ensures.seen)
    (extends_keys _ _ c.number-2.ensures.front c.number-2.ensures.bytes c.number-2.ensures.listings c.number-2.ensures.seen)

pub returns-in_err-high-clause-listings : goal.returns-in_err-high-clause-listings
returns-in_err-high-clause-listings c = c.number-2.ensures.listings ∙ c.number.ensures.listings

pub returns-in_err-high-clause-listed : goal.returns-in_err-high-clause-listed
returns-in_err-high-clause-listed c = IfOk-from_err c.from_residual-in_err-high.result _ c.from_residual-in_err-high.ensures.0

pub returns-in_err-high-clause-scan : goal.returns-in_err-high-clause-scan
returns-in_err-high-clause-scan c t = IfOk-from_err c.from_residual-in_err-high.result _ c.from_residual-in_err-high.ensures.0

pub returns-in_err-high-clause-succeeds : goal.returns-in_err-high-clause-succeeds
returns-in_err-high-clause-succeeds c room =
    let n = length (entries_of c.args.entries.now) in
    let left = c.number.ensures.room (n + 1) (subst (CanNumber c.args.self.now.keys (vec_capacity c.args.self.now.last_values)) (omega arith) room.keys) in
    let fits = c.number-2.ensures.succeeds (numbers_less _ _ n 1 left) in
    absurd (false≢true (sym (ap is_ok c.in_err-high.was) ∙ fits))

pub returns-in_err-add_entries-clause-extends : goal.returns-in_err-add_entries-clause-extends
returns-in_err-add_entries-clause-extends c =
    extends_trans c.args.self.now c.number-2.new.self c.add_entries.new.self
    (extends_trans c.args.self.now c.number.new.self c.number-2.new.self
    (extends_keys _ _ c.number.ensures.front c.number.ensures.bytes c.number.ensures.listings c.number.ensures.seen)
    (extends_keys _ _ c.number-2.ensures.front c.number-2.ensures.bytes c.number-2.ensures.listings c.number-2.ensures.seen)) c.add_entries.ensures.extends

pub returns-in_err-add_entries-clause-listings : goal.returns-in_err-add_entries-clause-listings
returns-in_err-add_entries-clause-listings c =
    c.add_entries.ensures.listings ∙ (c.number-2.ensures.listings ∙ c.number.ensures.listings)

pub returns-in_err-add_entries-clause-listed : goal.returns-in_err-add_entries-clause-listed
returns-in_err-add_entries-clause-listed c =
    IfOk-from_err c.from_residual-in_err-add_entries.result _ c.from_residual-in_err-add_entries.ensures.0

pub returns-in_err-add_entries-clause-scan : goal.returns-in_err-add_entries-clause-scan
returns-in_err-add_entries-clause-scan c t =
    IfOk-from_err c.from_residual-in_err-add_entries.result _ c.from_residual-in_err-add_entries.ensures.0

pub returns-in_err-add_entries-clause-succeeds : goal.returns-in_err-add_entries-clause-succeeds
returns-in_err-add_entries-clause-succeeds c room =
    let n = length (entries_of c.args.entries.now) in
    let fits = c.add_entries.ensures.succeeds
    (record {
      keys = c.number-2.ensures.room n
          (c.number.ensures.room (n + 1) (subst (CanNumber c.args.self.now.keys (vec_capacity c.args.self.now.last_values)) (omega arith) room.keys));
      bytes = subst (λ (v : Vec ℕ Global). vec_len v + n * 64 ≤ vec_capacity v) (sym (c.number-2.ensures.bytes ∙ c.number.ensures.bytes)) (omega (arith, room.bytes));
      seen = subst (λ (v : Vec Seen Global). vec_len v + n ≤ vec_capacity v) (sym (c.number-2.ensures.seen ∙ c.number.ensures.seen)) room.seen;
    }) in
    absurd (false≢true (sym (ap is_ok c.in_err-add_entries.was) ∙ fits))

pub returns-clause-extends : goal.returns-clause-extends
returns-clause-extends c =
    extends_trans c.args.self.now c.number-2.new.self c.add_entries.new.self
    (extends_trans c.args.self.now c.number.new.self c.number-2.new.self
    (extends_keys _ _ c.number.ensures.front c.number.ensures.bytes c.number.ensures.listings c.number.ensures.seen)
    (extends_keys _ _ c.number-2.ensures.front c.number-2.ensures.bytes c.number-2.ensures.listings c.number-2.ensures.seen)) c.add_entries.ensures.extends

pub returns-clause-listings : goal.returns-clause-listings
returns-clause-listings c = c.add_entries.ensures.listings ∙ (c.number-2.ensures.listings ∙ c.number.ensures.listings)

pub returns-clause-succeeds : goal.returns-clause-succeeds
returns-clause-succeeds c room = refl

low_at : (c : goal.After-len) → IsKeyAt (keys_in c.add_entries.new.self.keys) c.in_ok-low.low c.args.low.now
low_at c =
    key_stays_in _ _ c.add_entries.ensures.extends.keys c.in_ok-low.low c.args.low.now
    (key_stays_in (keys_in c.number.new.self.keys) (keys_in c.number-2.new.self.keys) c.number-2.ensures.front c.in_ok-low.low c.args.low.now
    (found_key (keys_in c.number.new.self.keys) c.in_ok-low.low c.args.low.now c.in_ok-low.ensures.number))

high_at : (c : goal.After-len) → IsKeyAt (keys_in c.add_entries.new.self.keys) c.in_ok-high.high c.args.high.now
high_at c =
    key_stays_in _ _ c.add_entries.ensures.extends.keys c.in_ok-high.high c.args.high.now
    (found_key (keys_in c.number-2.new.self.keys) c.in_ok-high.high c.args.high.now c.in_ok-high.ensures.number)

pub returns-clause-listed : goal.returns-clause-listed
returns-clause-listed c =
    let l = listing_of c.in_ok-low.low c.in_ok-high.high c.len-from.result c.len.result in
    let b = c.add_entries.new.self in
    let a = c.number-2.new.self in
    let es = entries_of c.args.entries.now in
    let count : length b.seen.items ≡ length a.seen.items + length es =
    sym (length-map b.seen.items (entry_of_seen b)) ∙
    (ap length c.in_ok-add_entries.ensures.entries ∙
    (length-append (map (entry_of_seen a) a.seen.items) es ∙ ap (λ n. n + length es) (length-map a.seen.items (entry_of_seen a)))) in
    let within : l.from + l.count ≤ length b.seen.items = omega (arith, c.len-from.ensures, a.seen.ok.0, count, c.len.ensures) in
    and_from _ _ (low_at c).there (and_from _ _ (high_at c).there (le-leb (l.from + l.count) (length b.seen.items) within))

pub returns-clause-scan : goal.returns-clause-scan
returns-clause-scan c t =
    let l = listing_of c.in_ok-low.low c.in_ok-high.high c.len-from.result c.len.result in
    let b = c.add_entries.new.self in
    let a = c.number-2.new.self in
    let es = entries_of c.args.entries.now in
    let ks = (keys_in b.keys) in
    let before = map (entry_of_seen a) a.seen.items in
    let all = map (entry_of_seen b) b.seen.items in
    let from : l.from ≡ length before = c.len-from.ensures ∙ (a.seen.ok.0 ∙ sym (length-map a.seen.items (entry_of_seen a))) in
    ap (λ k. Scan t k (key_at ks l.high) (part l.from l.count all)) (low_at c).key ∙
    (ap (λ k. Scan t c.args.low.now k (part l.from l.count all)) (high_at c).key ∙
    ap (Scan t c.args.low.now c.args.high.now)
    (ap (λ n. part n l.count all) from ∙
    (ap (λ n. part (length before) n all) c.len.ensures ∙
    (ap (part (length before) (length es)) c.in_ok-add_entries.ensures.entries ∙ last_part before es))))
