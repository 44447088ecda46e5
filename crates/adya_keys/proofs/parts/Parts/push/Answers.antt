use Rattle.std.proofs.Common.{◌∙◌, ◌≡◌, ◌+◌, ◌≤◌, ◌++◌, ◌∷◌, List, ℕ, [], ap, arith, length, subst}
use Rattle.std.proofs.lemmas.List.{length-append}
use Rattle.adya_keys.specs.Machinery.Indices.{indices_in, CanPush}
use Rattle.adya_keys.proofs.PackedLists.{pushed}
use Rattle.adya_keys.proofs.parts.Parts.push.Goals as goal

-- the ends with the new one, by those for which there is room
with_end : (es room later : List ℕ) (e : ℕ) → later ≡ room ++ e ∷ [] → room ≡ es → later ≡ es ++ e ∷ []
with_end es room later e added same = added ∙ ap (λ xs. xs ++ e ∷ []) same

pub invariant_of-self-2 : goal.invariant_of-self-2
invariant_of-self-2 g c =
    let old = c.args.self.now in
    let es = indices_in old.ends in
    let e = c.len-3.result in
    let later = with_end es (indices_in c.reserve.new.self) (indices_in c.push_reserved.new.self) e c.push_reserved.ensures.items c.reserve.ensures.same in
    record {
      valid =
          (pushed old.all.items c.extend_from_slice.new.self.items c.args.part.now es (indices_in c.push_reserved.new.self) e
          c.in_ok-extend_from_slice.ensures.items later (c.len-3.ensures ∙ c.extend_from_slice.new.self.ok.0) old.valid).valid;
      few = omega (arith, ap length later, length-append es (e ∷ []), c.len.ensures.length, c.if-len-eq-MOST_PARTS.false, old.few);
    }

pub returns-clause-ok : goal.returns-clause-ok
returns-clause-ok g c =
    let old = c.args.self.now in
    let es = indices_in old.ends in
    let e = c.len-3.result in
    (pushed old.all.items c.extend_from_slice.new.self.items c.args.part.now es (indices_in c.push_reserved.new.self) e c.in_ok-extend_from_slice.ensures.items
    (with_end es (indices_in c.reserve.new.self) (indices_in c.push_reserved.new.self) e c.push_reserved.ensures.items c.reserve.ensures.same)
    (c.len-3.ensures ∙ c.extend_from_slice.new.self.ok.0) old.valid).parts

pub returns-clause-room : goal.returns-clause-room
returns-clause-room g c n m room =
    let old = c.args.self.now in
    let es = indices_in old.ends in
    let e = c.len-3.result in
    let all = c.extend_from_slice.new.self in
    let later = with_end es (indices_in c.reserve.new.self) (indices_in c.push_reserved.new.self) e c.push_reserved.ensures.items c.reserve.ensures.same in
    let more : length all.items ≡ length old.all.items + length c.args.part.now =
    ap length c.in_ok-extend_from_slice.ensures.items ∙ length-append old.all.items c.args.part.now in
    let most : length old.all.items + (m + length c.args.part.now) ≡ length all.items + m = omega (arith, more) in
    let below : c.saturating_add.result ≤ length all.items + m = omega (arith, more, c.saturating_add.ensures, c.len-2.ensures, old.all.ok.0) in
    let fits : CanPush old.ends (n + 1) (length all.items + m) = subst (CanPush old.ends (n + 1)) most room.ends in
    let elements = room.all in
    let few = room.few in
    record {
      ends = c.push_reserved.ensures.room n (length all.items + m) (c.reserve.ensures.keeps (n + 1) (length all.items + m) below fits);
      all = omega (arith, elements, c.in_ok-extend_from_slice.ensures.len, c.extend_from_slice.ensures.capacity);
      few = omega (arith, few, ap length later, length-append es (e ∷ []));
    }
