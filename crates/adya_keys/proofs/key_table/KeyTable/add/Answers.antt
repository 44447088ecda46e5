use Rattle.std.proofs.Common.{◌∙◌, ◌*◌, ◌≡◌, ◌++◌, ◌∷◌, [], ap, arith, length, set, slice_get, slice_index, suc}
use Rattle.std.proofs.lemmas.List.{length-append, length-set}
use Rattle.adya_keys.specs.Machinery.KeyHash.{bucket_of}
use Rattle.adya_keys.specs.Machinery.Parts.{parts_of}
use Rattle.adya_keys.proofs.KeyChains.{has_room_for, table_with}
use Rattle.adya_keys.proofs.Within.{slice_get_end}
use Rattle.adya_keys.proofs.key_table.KeyTable.add.Goals as goal

pub invariant_of-self : goal.invariant_of-self
invariant_of-self c =
    let t = c.args.self.now in
    let ks = parts_of t.texts in
    let b = c.bucket_of-bucket.result in
    let count : c.len-count.result ≡ length ks = c.len-count.ensures in
    let buckets : c.len.result ≡ length t.heads.items = c.len.ensures ∙ t.heads.ok.0 in
    let within = c.bucket_of-bucket.ensures.within in
    let room = c.requires.room.buckets in
    let made = table_with ks t.heads.items t.next.items c.args.key.now b t.table c.requires.limits c.requires.fresh (omega (arith, room, t.table.buckets))
    (c.bucket_of-bucket.ensures.value ∙ ap (λ m. bucket_of m c.args.key.now) buckets) (omega (arith, within, buckets)) in
    let heads : c.chain.new.heads.items ≡ set t.heads.items b (suc (length ks)) = c.chain.ensures.heads ∙ ap (λ n. set t.heads.items b (suc n)) count in
    let next : c.chain.new.next.items ≡ set (t.next.items ++ 0 ∷ []) (length ks) (slice_index t.heads.items b) =
    c.chain.ensures.next ∙
    (ap (λ xs. set xs c.len-count.result (slice_index t.heads.items b)) c.push_reserved.ensures.items ∙
    ap (λ n. set (t.next.items ++ 0 ∷ []) n (slice_index t.heads.items b)) count) in
    record { table = rw (c.in-Ok.ensures.ok, heads, next) made }

pub returns-clause-number : goal.returns-clause-number
returns-clause-number c =
    let ks = parts_of c.args.self.now.texts in
    ap (λ js. slice_get js c.len-count.result) c.in-Ok.ensures.ok ∙
    (ap (slice_get (ks ++ c.args.key.now ∷ [])) c.len-count.ensures ∙ slice_get_end ks c.args.key.now)

pub returns-clause-room : goal.returns-clause-room
returns-clause-room c n room =
    let t = c.args.self.now in
    let buckets = room.buckets in
    let next = room.next in
    let same : length c.chain.new.heads.items ≡ length t.heads.items = ap length c.chain.ensures.heads ∙ length-set t.heads.items c.bucket_of-bucket.result _ in
    let more = ap length c.in-Ok.ensures.ok ∙ length-append (parts_of t.texts) (c.args.key.now ∷ []) in
    record {
      buckets = omega (arith, buckets, same, more);
      next = omega (arith, next, c.chain.ensures.len, c.chain.ensures.capacity, c.push_reserved.ensures.len, c.push_reserved.ensures.capacity);
      texts = c.push.ensures.room n (n * 32) (has_room_for t.texts n c.args.key.now c.requires.limits room.texts);
    }
