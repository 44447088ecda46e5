use Rattle.std.proofs.Common.{arith, ◌≡◌, ◌+◌, map, option_map, take, ◌++◌, ◌∷◌, [], sym, subst, ap, ◌∙◌, IfSome}
use Rattle.std.proofs.lemmas.Grind.{common_steps}
use Rattle.ssi_versions.specs.Mirror.{write_of}
use Rattle.ssi_snapshot.specs.Clauses.Listings.{keys}
use Rattle.ssi_store.specs.Machinery.Overtaken.{is_passed, passed_by, key_of, lesser, IsLeast}
use Rattle.ssi_store.specs.declared.overtaken.Overtaken.{Overtaken}
use Rattle.ssi_store.proofs.Overtaking.{keys_more, least_step, lesser_has}
use Rattle.ssi_store.proofs.overtaken.least_overtaken.Goals as goal

pub writes-preserved : goal.writes-preserved
writes-preserved g c =
    let before = take c.writes.write-index c.args.writes.now in
    let more : take (c.writes.write-index + 1) c.args.writes.now ≡ before ++ c.write-item.result ∷ [] =
    grind (arith, common_steps) in
    let test = is_passed c.args.stamp (g.C.Chains.held c.args.chains.now) in
    let said : Overtaken → Type 0 = λ o. o.writer ≡ passed_by o.key (g.C.Chains.held c.args.chains.now) in (
      subst (λ o. IsLeast test (keys (map write_of (take (c.writes.write-index + 1) c.args.writes.now))) (option_map key_of o))
          (sym c.lesser-least.ensures)
          (subst (λ ks. IsLeast test ks (option_map key_of (lesser c.writes.least c.overtaken_key.result)))
          (sym (ap (λ ws. keys (map write_of ws)) more ∙ keys_more before c.write-item.result))
          (least_step test (keys (map write_of before)) c.write-item.result.0.key c.writes.least c.overtaken_key.result c.writes.invariant.0
          c.overtaken_key.ensures.key)),
      subst (λ o. IfSome o said) (sym c.lesser-least.ensures)
          (lesser_has said c.writes.least c.overtaken_key.result c.writes.invariant.1 c.overtaken_key.ensures.writer),
    )

pub returns-clause-least : goal.returns-clause-least
returns-clause-least g c =
    let all : take c.writes.write-index c.args.writes.now ≡ c.args.writes.now = grind (arith, common_steps) in
    subst (λ ws. IsLeast (is_passed c.args.stamp (g.C.Chains.held c.args.chains.now)) (keys (map write_of ws))
    (option_map key_of c.writes.least)) all c.writes.invariant.0
