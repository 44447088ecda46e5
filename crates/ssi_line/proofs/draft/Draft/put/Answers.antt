use Rattle.std.proofs.Common.{◌≡◌, ℕ, List, [], ◌++◌, rules, ap, arith}
use Rattle.std.proofs.lemmas.Grind.{common_steps}
use Rattle.ssi_line.proofs.Drafts.{added_draft, added_all, added_then}
use Rattle.ssi_line.proofs.draft.Draft.put.Goals as goal

pub returns-then-bytes-self : goal.returns-then-bytes-self
returns-then-bytes-self g c =
    let empty : c.make_room.new.self ≡ [] = c.make_room.ensures.room (search rules) in
    added_then g.W.Write.contents _ _ _ _ _ _ _ _ c.make_room.ensures.added
    (added_all g.W.Write.contents c.write_all.result _ _ _ _ _ _ (ap (λ (l : List ℕ). l ++ c.args.bytes.now) empty) empty c.write_all.ensures.bytes c.write_all.ensures.works
    c.write_all.ensures.fault c.write_all.ensures.broke c.write_all.ensures.kept)

pub returns : goal.returns
returns g c =
    added_then g.W.Write.contents _ _ _ _ _ _ _ _ c.make_room.ensures.added (added_draft g.W.Write.contents _ _ _ _ (grind (arith, common_steps)))
